-- The rows of a listed table, and its pairs.
use Rattle.std.proofs.Common.{◌≡◌, ℕ, ◌<◌, ◌≤◌, Bool, true, false, ◌&&◌, ◌||◌, eqb, ◌⊎◌, List, [], ◌∷◌, ◌++◌, map, get_or, set, sym, refl, ap, ◌∙◌, subst, inl, inr, ⊎_elim, arith}
use mathlib.Core.Bool.{false≢true}
use Rattle.std.specs.List.{range_with_len}
use Rattle.std.proofs.lemmas.List.FromFn.{length-map-range_with_len, get_or-map-range_with_len, fill_by_all}
use Rattle.std.proofs.lemmas.List.{length-set, get_or-set_same, get_or-set_other, get_or_past}
use Rattle.std.proofs.lemmas.Bool.{eqb-true, eq-eqb, ne_eqb, and_parts, and_from, and_left, and_right, or_cases, or_left, or_right, cases_lt, cases_eq}
use Rattle.theory.specs.Lists.{◌∈◌}
use Rattle.theory.specs.Network.{allows}
use Rattle.theory.proofs.Members.{in_right, in_append, in_map}
use Rattle.network.specs.Bounds.{most_values}
use Rattle.network.specs.Points.{values_of}
use Rattle.network.specs.Tables.{allowing, TableWithin, TablesWithin}
use Rattle.netfile.specs.Listings.{TableListing, Listing, Distinct, ListingWithin, lists, row_of, listed_table}

module _ {X : Type 0} where
  -- a list made from a function of the place, read at any place
  counted_at : (f : ℕ → X) (n i : ℕ) (d : X) → ((i < n) × (get_or (map f (range_with_len 0 n)) i d ≡ f i)) ⊎ (get_or (map f (range_with_len 0 n)) i d ≡ d)
  counted_at f n i d =
      ⊎_elim (λ (h : i < n). inl (h, get_or-map-range_with_len f 0 n i i d h (omega arith)))
      (λ (h : n ≤ i). inr (get_or_past (map f (range_with_len 0 n)) i d (omega (arith, length-map-range_with_len f 0 n)))) (cases_lt i n)

  -- functions that differ only at one place make lists that differ only there
  set_counted : (f g : ℕ → X) (n i : ℕ) → i < n → ((k : ℕ) → (k ≡ i → ⊥) → f k ≡ g k) → set (map f (range_with_len 0 n)) i (g i) ≡ map g (range_with_len 0 n)
  set_counted f g n i h same =
      fill_by_all g (set (map f (range_with_len 0 n)) i (g i)) n (g i) (length-set (map f (range_with_len 0 n)) i (g i) ∙ length-map-range_with_len f 0 n) at
    where
      at : (k : ℕ) → k < n → get_or (set (map f (range_with_len 0 n)) i (g i)) k (g i) ≡ g k
      at k l =
          ⊎_elim (λ (e : k ≡ i). rw e (get_or-set_same (map f (range_with_len 0 n)) i (g i) (g i) (omega (arith, length-map-range_with_len f 0 n))))
          (λ (ne : k ≡ i → ⊥).
          get_or-set_other (map f (range_with_len 0 n)) i k (g i) (g i) ne ∙ get_or-map-range_with_len f 0 n k k (g i) l (omega arith) ∙ same k ne)
          (cases_eq k i)

  -- a list that is not empty ends with some element
  pub last_of : (x : X) (xs : List X) → (ys : List X) × (y : X) × (x ∷ xs ≡ ys ++ y ∷ [])
  last_of x [] = ([], x, refl)
  last_of x (z ∷ xs) = let r = last_of z xs in (x ∷ r.0, r.1, ap (λ ys. x ∷ ys) r.2)

in_from_lists : (ps : List (ℕ × ℕ)) (i j : ℕ) → lists ps i j ≡ true → (i, j) ∈ ps
in_from_lists [] i j h = absurd (false≢true h)
in_from_lists (x ∷ ps) i j h =
    ⊎_elim (λ e. inl (same (and_parts (eqb i x.0) (eqb j x.1) e))) (λ e. inr (in_from_lists ps i j e))
    (or_cases (eqb i x.0 && eqb j x.1) (lists ps i j) h)
  where
    same : (eqb i x.0 ≡ true) × (eqb j x.1 ≡ true) → (i, j) ≡ x
    same e = λ k. (eqb-true i x.0 e.0 k, eqb-true j x.1 e.1 k)

lists_from_in : (ps : List (ℕ × ℕ)) (i j : ℕ) → (i, j) ∈ ps → lists ps i j ≡ true
lists_from_in [] i j h = absurd h
lists_from_in (x ∷ ps) i j (inl e) =
    or_left (eqb i x.0 && eqb j x.1) (lists ps i j)
    (and_from (eqb i x.0) (eqb j x.1) (eq-eqb i x.0 (ap (λ (y : ℕ × ℕ). y.0) e)) (eq-eqb j x.1 (ap (λ (y : ℕ × ℕ). y.1) e)))
lists_from_in (x ∷ ps) i j (inr h) = or_right (eqb i x.0 && eqb j x.1) (lists ps i j) (lists_from_in ps i j h)

-- one more pair lists no other pair
lists_other : (ps : List (ℕ × ℕ)) (x : ℕ × ℕ) (i j : ℕ) → (eqb i x.0 && eqb j x.1) ≡ false → lists (ps ++ x ∷ []) i j ≡ lists ps i j
lists_other [] x i j h = ap (λ b. b || false) h
lists_other (y ∷ ps) x i j h = ap (λ b. (eqb i y.0 && eqb j y.1) || b) (lists_other ps x i j h)

module _ (ps : List (ℕ × ℕ)) (i j : ℕ) where
  -- one more pair in its own row
  row_own : j < most_values → set (row_of ps i) j true ≡ row_of (ps ++ (i, j) ∷ []) i
  row_own h =
      ap (λ b. set (row_of ps i) j b) (sym (lists_from_in (ps ++ (i, j) ∷ []) i j (in_right ps ((i, j) ∷ []) (i, j) (inl refl)))) ∙
      set_counted (lists ps i) (lists (ps ++ (i, j) ∷ []) i) most_values j h
      (λ k ne. sym (lists_other ps (i, j) i k (and_right (eqb i i) (eqb k j) (ne_eqb k j ne))))

  -- and in another
  row_other : (k : ℕ) → (k ≡ i → ⊥) → row_of ps k ≡ row_of (ps ++ (i, j) ∷ []) k
  row_other k ne =
      ap (λ (f : ℕ → Bool). map f (range_with_len 0 most_values))
      (λ d m. sym (lists_other ps (i, j) k m (and_left (eqb k i) (eqb m j) (ne_eqb k i ne))) d)

  -- allowing one more pair is listing it
  pub allowing_listed :
      i < most_values → j < most_values →
      allowing (map (row_of ps) (range_with_len 0 most_values)) i j ≡ map (row_of (ps ++ (i, j) ∷ [])) (range_with_len 0 most_values)
  allowing_listed h g =
      ap (λ row. set (map (row_of ps) (range_with_len 0 most_values)) i row)
      (ap (λ (row : List Bool). set row j true) (get_or-map-range_with_len (row_of ps) 0 most_values i i [] h (omega arith)) ∙ row_own g) ∙
      set_counted (row_of ps) (row_of (ps ++ (i, j) ∷ [])) most_values i h row_other

module _ (t : TableListing) (i j : ℕ) where
  -- a listed table allows only pairs that it lists
  pub in_from_allows : allows (listed_table t) i j ≡ true → (i, j) ∈ t.pairs
  in_from_allows h =
      ⊎_elim within (λ e. absurd (false≢true (ap (λ (row : List Bool). get_or row j false) (sym e) ∙ h)))
      (counted_at (row_of t.pairs) most_values i [])
    where
      within : (i < most_values) × (get_or (listed_table t).rows i [] ≡ row_of t.pairs i) → (i, j) ∈ t.pairs
      within e =
          let h' : get_or (row_of t.pairs i) j false ≡ true = ap (λ (row : List Bool). get_or row j false) (sym e.1) ∙ h in
          ⊎_elim (λ f. in_from_lists t.pairs i j (sym f.1 ∙ h')) (λ f. absurd (false≢true (sym f ∙ h')))
          (counted_at (lists t.pairs i) most_values j false)

  -- and all of them, as far as points have values
  pub allows_from_in : i < most_values → j < most_values → (i, j) ∈ t.pairs → allows (listed_table t) i j ≡ true
  allows_from_in h g e =
      ap (λ (row : List Bool). get_or row j false) (get_or-map-range_with_len (row_of t.pairs) 0 most_values i i [] h (omega arith)) ∙
      get_or-map-range_with_len (lists t.pairs i) 0 most_values j j false g (omega arith) ∙ lists_from_in t.pairs i j e

pub distinct_push : (ps : List (ℕ × ℕ)) (x : ℕ × ℕ) → Distinct ps → (x ∈ ps → ⊥) → Distinct (ps ++ x ∷ [])
distinct_push [] x d ne = ((λ h. h), tt)
distinct_push (y ∷ ps) x d ne =
    ((λ h. ⊎_elim d.0 (λ e. ⊎_elim (λ e. ne (inl (sym e))) (λ h. h) e) (in_append ps (x ∷ []) y h)), distinct_push ps x d.1 (λ h. ne (inr h)))

-- a pair does not stand among those before it
pub distinct_apart : (ps : List (ℕ × ℕ)) (x : ℕ × ℕ) (qs : List (ℕ × ℕ)) → Distinct (ps ++ x ∷ qs) → x ∈ ps → ⊥
distinct_apart [] x qs d h = h
distinct_apart (y ∷ ps) x qs d (inl e) = d.0 (in_right ps (x ∷ qs) y (inl (sym e)))
distinct_apart (y ∷ ps) x qs d (inr h) = distinct_apart ps x qs d.1 h

-- the tables of a listing that keeps the bounds are within them
pub listed_within : (l : Listing) → ListingWithin l → TablesWithin (values_of l.points) (map listed_table l.tables)
listed_within l w t h =
    let r = in_map listed_table l.tables t h in
    let v = w.each_table r.0 r.1 in
    subst (TableWithin (values_of l.points)) (sym r.2)
    (record { ascends = v.ascends; inside = v.inside; of_values = λ i j a. v.of_values (i, j) (in_from_allows r.0 i j a) })
