-- One number more behind those of a literal, in a row of all numbers.
use Rattle.std.proofs.Common.{◌≡◌, ℕ, zero, suc, ◌+◌, ◌-◌, ◌<◌, ◌≤◌, Bool, true, false, cond, eqb, List, [], ◌∷◌, ◌++◌, map, length, get_or, set, take, drop, sym, ap, ◌∙◌, ⊎_elim, arith}
use Rattle.std.specs.Prelude.{slice_range}
use Rattle.std.proofs.lemmas.Bool.{cases_lt, cases_eq, eq-eqb, ne_eqb}
use Rattle.std.proofs.lemmas.List.{append-nil, get_or-set_same, get_or-set_other, get_or_past, drop-set-lt, drop-set-add, take-set-le, take_more_set, length-drop}
use Rattle.clause_store.specs.Index.{named}

-- a number put behind a part is the part's last
put_here : (row : List ℕ) (a e i : ℕ) → a ≤ e → e < length row → slice_range (set row e i) a (e + 1) ≡ slice_range row a e ++ i ∷ []
put_here row a e i le lt =
    let d = e - a in
    let at : drop a (set row e i) ≡ set (drop a row) d i = ap (λ x. drop a (set row x i)) (omega arith) ∙ drop-set-add a row d i in
    ap (λ xs. take (e + 1 - a) xs) at ∙ ap (λ n. take n (set (drop a row) d i)) (omega arith) ∙ take_more_set (drop a row) d i (omega (arith, length-drop a row))

-- put behind another part, it is none of the part's
put_behind : (row : List ℕ) (a b e i : ℕ) → b ≤ e → slice_range (set row e i) a b ≡ slice_range row a b
put_behind row a b e i le =
    ⊎_elim (λ (lt : a < b).
    let d = e - a in
    let at : drop a (set row e i) ≡ set (drop a row) d i = ap (λ x. drop a (set row x i)) (omega arith) ∙ drop-set-add a row d i in
    ap (λ xs. take (b - a) xs) at ∙ take-set-le (b - a) (drop a row) d i (omega arith))
    (λ (ge : b ≤ a).
    let none : b - a ≡ 0 = omega arith in
    ap (λ n. take n (drop a (set row e i))) none ∙ sym (ap (λ n. take n (drop a row)) none))
    (cases_lt a b)

-- nor put before it
put_before : (row : List ℕ) (a b e i : ℕ) → e < a → slice_range (set row e i) a b ≡ slice_range row a b
put_before row a b e i lt = ap (λ xs. take (b - a) xs) (drop-set-lt a row e i lt)

-- parts of a row, one after another, with room between them
module _ (row starts ends : List ℕ) (begun : (l : ℕ) → l < length ends → get_or starts l 0 ≤ get_or ends l 0)
    (apart : (l : ℕ) → l < length ends → get_or ends l 0 ≤ get_or starts (l + 1) 0) where
  rise_by : (d m : ℕ) → m + d ≤ length ends → get_or starts m 0 ≤ get_or starts (m + d) 0
  rise_by zero m h = let e : m + 0 ≡ m = omega arith in omega (arith, ap (λ x. get_or starts x 0) e)
  rise_by (suc d) m h =
      let e : m + suc d ≡ (m + 1) + d = omega arith in
      omega (arith, begun m (omega arith), apart m (omega arith), rise_by d (m + 1) (omega arith), ap (λ x. get_or starts x 0) e)

  rises : (m k : ℕ) → m ≤ k → k ≤ length ends → get_or starts m 0 ≤ get_or starts k 0
  rises m k le h =
      let e : m + (k - m) ≡ k = omega arith in
      omega (arith, rise_by (k - m) m (omega arith), ap (λ x. get_or starts x 0) e)

  abbrev part : List ℕ → List ℕ → ℕ → List ℕ
  part xs es m = slice_range xs (get_or starts m 0) (get_or es m 0)

  module _ (x i : ℕ) (lx : x < length ends) (room : get_or ends x 0 < get_or starts (x + 1) 0) (inside : get_or starts (x + 1) 0 ≤ length row) where
    abbrev end : ℕ
    end = get_or ends x 0

    -- the number stands behind those of its literal, and no other literal has one more
    pub put_held : (m : ℕ) → part (set row end i) (set ends x (end + 1)) m ≡ part row ends m ++ named (x ∷ []) m i
    put_held m = ⊎_elim same other (cases_eq m x)
      where
        one : (b : Bool) → b ≡ eqb x m → named (x ∷ []) m i ≡ map (λ _. i) (cond b (x ∷ []) [])
        one b e = ap (λ t. map (λ _. i) (cond t (x ∷ []) [])) (sym e)

        same : m ≡ x → part (set row end i) (set ends x (end + 1)) m ≡ part row ends m ++ named (x ∷ []) m i
        same e =
            let stop : get_or (set ends x (end + 1)) m 0 ≡ end + 1 = ap (λ k. get_or (set ends x (end + 1)) k 0) e ∙ get_or-set_same ends x (end + 1) 0 lx in
            let was : get_or ends m 0 ≡ end = ap (λ k. get_or ends k 0) e in
            ap (slice_range (set row end i) (get_or starts m 0)) stop ∙
            put_here row (get_or starts m 0) end i (omega (arith, begun m (omega arith), was)) (omega arith) ∙
            ap (λ k. slice_range row (get_or starts m 0) k ++ i ∷ []) (sym was) ∙
            ap (λ ys. part row ends m ++ ys) (sym (one true (sym (eq-eqb x m (sym e)))))

        other : (m ≡ x → ⊥) → part (set row end i) (set ends x (end + 1)) m ≡ part row ends m ++ named (x ∷ []) m i
        other ne =
            ap (slice_range (set row end i) (get_or starts m 0)) (get_or-set_other ends x m (end + 1) 0 ne) ∙
            still ∙ sym (append-nil (part row ends m)) ∙ ap (λ ys. part row ends m ++ ys) (sym (one false (sym (ne_eqb x m (λ e. ne (sym e))))))
          where
            still : part (set row end i) ends m ≡ part row ends m
            still =
                ⊎_elim
                (λ (lt : m < x).
                put_behind row (get_or starts m 0) (get_or ends m 0) end i
                (omega (arith, apart m (omega arith), rises (m + 1) x (omega arith) (omega arith), begun x lx)))
                (λ (ge : x ≤ m).
                ⊎_elim (λ (lm : m < length ends).
                put_before row (get_or starts m 0) (get_or ends m 0) end i (omega (arith, room, rises (x + 1) m (omega arith) (omega arith))))
                (λ (lm : length ends ≤ m).
                put_behind row (get_or starts m 0) (get_or ends m 0) end i (omega (arith, get_or_past ends m 0 lm)))
                (cases_lt m (length ends)))
                (cases_lt m x)
