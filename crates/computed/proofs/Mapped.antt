-- What a function gives for each of the first numbers.
use Rattle.std.proofs.Common.{◌≡◌, ℕ, ◌<◌, ◌≤◌, map, Some, None, slice_get, ap, ◌∙◌, arith}
use Rattle.std.specs.List.{range_with_len}
use Rattle.std.proofs.lemmas.List.FromFn.{length-map-range_with_len, get_or-map-range_with_len}
use Rattle.std.proofs.lemmas.Option.{slice_get-get_or, slice_get_past}

module _ {A : Type 0} (f : ℕ → A) (n i : ℕ) where
  pub mapped_get : i < n → slice_get (map f (range_with_len 0 n)) i ≡ Some (f i)
  mapped_get h =
      slice_get-get_or (map f (range_with_len 0 n)) i (f i) (omega (arith, length-map-range_with_len f 0 n)) ∙
      ap Some (get_or-map-range_with_len f 0 n i i (f i) h (omega arith))

  pub mapped_past : n ≤ i → slice_get (map f (range_with_len 0 n)) i ≡ None
  mapped_past h = slice_get_past (map f (range_with_len 0 n)) i (omega (arith, length-map-range_with_len f 0 n))
