-- Room for numbers in one row: where those of each literal start, by how many there will be of each.
use Rattle.std.proofs.Common.{◌≡◌, ℕ, ◌+◌, ◌-◌, ◌<◌, ◌≤◌, List, [], ◌∷◌, ◌++◌, length, get_or, take, drop, sym, ap, ◌∙◌, ⊎_elim, arith}
use Rattle.std.specs.Prelude.{slice_range}
use Rattle.std.specs.List.{sum_by}
use Rattle.std.proofs.lemmas.Bool.{cases_lt}
use Rattle.std.proofs.lemmas.List.{get_or_append_left, get_or_push, get_or_past, take_all}
use Rattle.std.proofs.lemmas.List.Sums.{sum_by_more, sum_by-take-le}

-- the sum of the first l counts
abbrev pub before : List ℕ → ℕ → ℕ
before counts l = sum_by (λ n. n) (take l counts)

-- after k counts: so many literals start where the room of those before them ends, and have no number yet
abbrev pub Placed : (counts starts ends : List ℕ) (total k : ℕ) → Type 0
Placed counts starts ends total k = record {
  sum : total ≡ before counts k;
  many : length starts ≡ k;
  long : length ends ≡ k;
  begins : (l : ℕ) → l < k → get_or starts l 0 ≡ before counts l;
  goes : (l : ℕ) → l < k → get_or ends l 0 ≡ before counts l;
}

-- all literals placed, and the end of the room behind the starts
module _ (counts starts ends : List ℕ) (total : ℕ) (w : Placed counts starts ends total (length counts)) where
  abbrev all : List ℕ
  all = starts ++ total ∷ []

  pub start_at : (l : ℕ) → l ≤ length counts → get_or all l 0 ≡ before counts l
  start_at l h =
      ⊎_elim (λ (lt : l < length counts). get_or_append_left starts (total ∷ []) 0 l (omega (arith, w.many)) ∙ w.begins l lt)
      (λ (le : length counts ≤ l).
      let e : l ≡ length counts = omega arith in
      get_or_push starts total 0 l (w.many ∙ sym e) ∙ w.sum ∙ ap (before counts) (sym e))
      (cases_lt l (length counts))

  pub begun_at : (l : ℕ) → l < length counts → get_or all l 0 ≤ get_or ends l 0
  begun_at l h = omega (arith, start_at l (omega arith), w.goes l h)

  pub room_at : (l : ℕ) → l < length counts → get_or ends l 0 + get_or counts l 0 ≡ get_or all (l + 1) 0
  room_at l h = omega (arith, w.goes l h, start_at (l + 1) (omega arith), sum_by_more (λ n. n) counts l 0 h)

  pub inside_at : (l : ℕ) → l ≤ length counts → get_or all l 0 ≤ total
  inside_at l h =
      omega (arith, start_at l h, sum_by-take-le (λ n. n) counts l, w.sum, ap (sum_by (λ n. n)) (take_all (length counts) counts (omega arith)))

  pub none_yet : (row : List ℕ) (l : ℕ) → slice_range row (get_or all l 0) (get_or ends l 0) ≡ []
  none_yet row l = ap (λ k. take k (drop (get_or all l 0) row)) none
    where
      none : get_or ends l 0 - get_or all l 0 ≡ 0
      none =
          ⊎_elim (λ (lt : l < length counts). omega (arith, w.goes l lt, start_at l (omega arith)))
          (λ (le : length counts ≤ l). omega (arith, get_or_past ends l 0 (omega (arith, w.long)))) (cases_lt l (length counts))
