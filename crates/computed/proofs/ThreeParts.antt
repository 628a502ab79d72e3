-- An element of a list that is joined from three parts.
use Rattle.std.proofs.Common.{◌≡◌, ℕ, ◌+◌, ◌-◌, ◌<◌, ◌≤◌, List, ◌++◌, length, slice_get, ◌∙◌, arith}
use Rattle.std.proofs.lemmas.List.{length-append}
use Rattle.computed.proofs.Blocks.{get_in_front, get_behind}

module _ {A : Type 0} (xs ys zs : List A) where
  pub three_lengths : length (xs ++ (ys ++ zs)) ≡ length xs + length ys + length zs
  three_lengths = omega (arith, length-append xs (ys ++ zs), length-append ys zs)

  module _ (i n : ℕ) (first : length xs ≡ n) where
    pub in_first : i < n → slice_get (xs ++ (ys ++ zs)) i ≡ slice_get xs i
    in_first h = get_in_front xs (ys ++ zs) i (omega arith)

    pub in_second : n ≤ i → i - n < length ys → slice_get (xs ++ (ys ++ zs)) i ≡ slice_get ys (i - n)
    in_second h l = get_behind xs (ys ++ zs) n i first h ∙ get_in_front ys zs (i - n) l

    pub in_third : (m : ℕ) → length ys ≡ m → n ≤ i → m ≤ i - n → slice_get (xs ++ (ys ++ zs)) i ≡ slice_get zs (i - n - m)
    in_third m second h l = get_behind xs (ys ++ zs) n i first h ∙ get_behind ys zs m (i - n) second l
