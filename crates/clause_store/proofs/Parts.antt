-- Clauses in one row: how many there are, where each lies, and that the parts of a row of clauses are the clauses.
use Rattle.std.proofs.Common.{◌≡◌, ℕ, ◌+◌, ◌-◌, ◌*◌, ◌<◌, ◌≤◌, List, [], ◌∷◌, ◌++◌, subst, refl, ⊎_elim, inl, inr, length, get_or, take, drop, vec_items, sym, ap, ◌∙◌, arith}
use Rattle.std.specs.Prelude.{slice_range}
use Rattle.std.proofs.lemmas.List.{get_or_append_left, get_or-append_right, get_or_read, length-append, take_at, drop_at, take-append-drop, same_lists, drop_more, get_or_default}
use Rattle.std.proofs.lemmas.List.FromFn.{length-map-range_with_len, get_or-map-range_with_len}
use Rattle.std.proofs.lemmas.Bool.{cases_lt}
use Rattle.theory.specs.Literals.{Within}
use Rattle.theory.proofs.Members.{in_at}
use Rattle.books.specs.Stored.{row}
use Rattle.books.proofs.Filling.{row_append, row_more, row_front}
use Rattle.clause_store.specs.declared.flat.FlatClauses.{FlatClauses}
use Rattle.clause_store.specs.Parts.{part_at, parts_of}
use Rattle.clause_store.specs.Storage.{flat_of}

-- there is one part less than starts
pub length_parts : (xs starts : List ℕ) → length (parts_of xs starts) ≡ length starts - 1
length_parts xs starts = length-map-range_with_len (part_at xs starts) 0 (length starts - 1)

-- a part by its number
pub part_is : (xs starts : List ℕ) (i : ℕ) (d : List ℕ) → i < length (parts_of xs starts) → get_or (parts_of xs starts) i d ≡ part_at xs starts i
part_is xs starts i d h = get_or-map-range_with_len (part_at xs starts) 0 (length starts - 1) i i d (omega (arith, length_parts xs starts)) (omega arith)

-- a clause's number has a start behind it
pub next_start : (xs starts : List ℕ) (i : ℕ) → i < length (parts_of xs starts) → i + 1 < length starts
next_start xs starts i h = omega (arith, length_parts xs starts)

-- the start of clause i and the one behind it, as they are read
pub bounds :
    (f : FlatClauses) (i x y : ℕ) → i < length (flat_of f) → x ≡ get_or (vec_items f.starts) i x → y ≡ get_or (vec_items f.starts) (i + 1) y →
    (x ≤ y) × (y ≤ length (vec_items f.literals))
bounds f i x y h p q =
    let n = next_start (vec_items f.literals) (vec_items f.starts) i h in
    let e = get_or_read (vec_items f.starts) i x (omega arith) p 0 in
    let g = get_or_read (vec_items f.starts) (i + 1) y n q 0 in
    (omega (arith, f.rise i (omega (arith, f.starts.ok.0))), omega (arith, f.inside (i + 1) (omega (arith, f.starts.ok.0)), f.literals.ok.0))

-- clause i is what lies between them
pub between :
    (f : FlatClauses) (i x y : ℕ) → i < length (flat_of f) → x ≡ get_or (vec_items f.starts) i x → y ≡ get_or (vec_items f.starts) (i + 1) y →
    slice_range (vec_items f.literals) x y ≡ get_or (flat_of f) i []
between f i x y h p q =
    let n = next_start (vec_items f.literals) (vec_items f.starts) i h in
    let e = get_or_read (vec_items f.starts) i x (omega arith) p 0 in
    let g = get_or_read (vec_items f.starts) (i + 1) y n q 0 in
    ap (λ z. slice_range (vec_items f.literals) z y) e ∙ ap (slice_range (vec_items f.literals) (get_or (vec_items f.starts) i 0)) g ∙
    sym (part_is (vec_items f.literals) (vec_items f.starts) i [] h)

-- a clause is its part of the row
row_split : (cs : List (List ℕ)) (i : ℕ) → i < length cs → row cs ≡ row (take i cs) ++ (get_or cs i [] ++ row (drop (i + 1) cs))
row_split cs i h =
    ap row (sym (take-append-drop i cs)) ∙ row_append (take i cs) (drop i cs) ∙ ap (λ x. row (take i cs) ++ row x) (drop_more cs i [] h)

row_part : (cs : List (List ℕ)) (i a b : ℕ) → i < length cs → a ≡ length (row (take i cs)) → b ≡ length (row (take (i + 1) cs)) → slice_range (row cs) a b ≡ get_or cs i []
row_part cs i a b h p q =
    let n : b - a ≡ length (get_or cs i []) = omega (arith, p, q, ap length (row_more cs i h), length-append (row (take i cs)) (get_or cs i [])) in
    ap (λ x. take (b - a) (drop a x)) (row_split cs i h) ∙ ap (take (b - a)) (drop_at (row (take i cs)) (get_or cs i [] ++ row (drop (i + 1) cs)) a (sym p)) ∙
    take_at (get_or cs i []) (row (drop (i + 1) cs)) (b - a) (sym n)

-- starts that say where each clause of a row begins, and where the last one ends
module _ (cs : List (List ℕ)) (starts : List ℕ) (many : length starts ≡ length cs + 1)
    (says : (k : ℕ) → k ≤ length cs → get_or starts k 0 ≡ length (row (take k cs))) where
  -- the parts of the row are the clauses
  pub parts_are : (literals : List ℕ) → literals ≡ row cs → parts_of literals starts ≡ cs
  parts_are literals e = same_lists (parts_of literals starts) cs (length_parts literals starts ∙ omega arith) at
    where
      at : (i : ℕ) (d : List ℕ) → i < length (parts_of literals starts) → get_or (parts_of literals starts) i d ≡ get_or cs i d
      at i d h =
          let lt : i < length cs = omega (arith, length_parts literals starts) in
          part_is literals starts i d h ∙ ap (λ x. slice_range x (get_or starts i 0) (get_or starts (i + 1) 0)) e ∙
          row_part cs i (get_or starts i 0) (get_or starts (i + 1) 0) lt (says i (omega arith)) (says (i + 1) (omega arith)) ∙ get_or_default cs i [] d lt

  pub starts_rise : (i : ℕ) → i + 1 < length starts → get_or starts i 0 ≤ get_or starts (i + 1) 0
  starts_rise i h =
      let lt : i < length cs = omega arith in
      omega (arith, says i (omega arith), says (i + 1) (omega arith), ap length (row_more cs i lt), length-append (row (take i cs)) (get_or cs i []))

  pub starts_within : (i : ℕ) → i < length starts → get_or starts i 0 ≤ length (row cs)
  starts_within i h = omega (arith, says i (omega arith), row_front cs i)

-- where each literal of each clause is below a bound, so is each of the row
pub row_below : (n : ℕ) (cs : List (List ℕ)) → Within n cs → (k : ℕ) → k < length (row cs) → get_or (row cs) k 0 < 2 * n
row_below n [] w k h = absurd (omega arith)
row_below n (c ∷ cs) w k h =
    ⊎_elim (λ lt. subst (λ x. x < 2 * n) (sym (get_or_append_left c (row cs) 0 k lt)) (w c (inl refl) (get_or c k 0) (in_at c 0 k lt)))
    (λ le. subst (λ x. x < 2 * n) (sym (get_or-append_right c (row cs) (length c) k 0 refl le))
    (row_below n cs (λ d id. w d (inr id)) (k - length c) (omega (arith, length-append c (row cs)))))
    (cases_lt k (length c))
