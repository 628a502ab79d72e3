-- How many pairs there are among the values of a point.
use Rattle.std.proofs.Common.{◌≡◌, ℕ, zero, suc, ◌+◌, ◌-◌, ◌*◌, ◌<◌, ◌≤◌, List, [], length, Some, slice_get, refl, ap, ◌∙◌, mul-le-mul_right, add-mul, mul-add, arith}
use Rattle.std.specs.List.{range_with_len, flat_map}
use Rattle.std.proofs.lemmas.List.FromFn.{length-map-range_with_len, get_or-map-range_with_len}
use Rattle.std.proofs.lemmas.List.{length-append}
use Rattle.std.proofs.lemmas.Option.{slice_get-get_or}
use Rattle.theory.specs.Encodings.{not_both, not_with_later, not_two}
use Rattle.theory.specs.Numbering.{count}

-- how many pairs there are among so many values
abbrev pairs : ℕ → ℕ
pairs zero = 0
pairs (suc n) = n + pairs n

-- twice the pairs of n values are the ordered ones
pairs_square : (n : ℕ) → 2 * pairs n + n ≡ n * n
pairs_square zero = refl
pairs_square (suc n) = omega (arith, pairs_square n, mul-add (suc n) n 1, add-mul n 1 n)

-- values from i on, each with those behind it, below n + i
rows : {A : Type 0} (f : ℕ → List A) (n i : ℕ) → ((v : ℕ) → length (f v) ≡ i + n - (v + 1)) → length (flat_map f (range_with_len i n)) ≡ pairs n
rows f zero i e = refl
rows f (suc n) i e =
    omega (arith, length-append (f i) (flat_map f (range_with_len (i + 1) n)), e i, rows f n (i + 1) (λ v. e v ∙ omega arith))

module _ (ks : List ℕ) (p : ℕ) where
  pub length_later : (i : ℕ) → length (not_with_later ks p i) ≡ count ks p - (i + 1)
  length_later i = length-map-range_with_len (not_both ks p i p) (i + 1) (count ks p - (i + 1))

  length_not_two : length (not_two ks p) ≡ pairs (count ks p)
  length_not_two = rows (not_with_later ks p) (count ks p) 0 (λ v. length_later v ∙ omega arith)

  pub twice_not_two : 2 * length (not_two ks p) + count ks p ≡ count ks p * count ks p
  twice_not_two = ap (λ n. 2 * n + count ks p) length_not_two ∙ pairs_square (count ks p)

  pub few_not_two : count ks p ≤ 16 → length (not_two ks p) ≤ 120
  few_not_two few = omega (arith, twice_not_two, mul-le-mul_right (count ks p) few)

  -- a value with one of those behind it
  pub later_get : (i left : ℕ) → left < count ks p - (i + 1) → slice_get (not_with_later ks p i) left ≡ Some (not_both ks p i p (i + 1 + left))
  later_get i left h =
      slice_get-get_or (not_with_later ks p i) left [] (omega (arith, length_later i)) ∙
      ap Some (get_or-map-range_with_len (not_both ks p i p) (i + 1) (count ks p - (i + 1)) left (i + 1 + left) [] h refl)
