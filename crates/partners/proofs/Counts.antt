-- Counting the partners of a value.
use Rattle.std.proofs.Common.{◌≡◌, ℕ, ◌+◌, ◌≤◌, Bool, cond, List, [], ◌∷◌, map, length, filter, sum, sym, refl, ap, ◌∙◌, arith}
use Rattle.std.specs.List.{range_with_len, sum_by}
use Rattle.std.proofs.lemmas.List.Sums.{length-filter, count_by-le-length, sum_by-cons}
use Rattle.std.proofs.lemmas.List.FromFn.{length-range_with_len}
use Rattle.std.proofs.lemmas.List.{length-map}
use Rattle.theory.specs.declared.Side.{Side}
use Rattle.theory.specs.Encodings.{support_clause}
use Rattle.theory.specs.Literals.{is_in}
use Rattle.theory.specs.Network.{Table, far, partner}
use Rattle.theory.specs.Numbering.{values, number}

-- a support clause has one literal more than the value has partners
pub support_length : (ks : List ℕ) (s : Side) (t : Table) (i n : ℕ) →
    n ≡ length (filter (partner s t i) (values ks (far s t))) → n + 1 ≡ length (support_clause ks s t i)
support_length ks s t i n e = omega (arith, length-map (filter (partner s t i) (values ks (far s t))) (λ j. is_in (number ks (far s t) j)))

-- a truth as a number
abbrev pub truth : Bool → ℕ
truth b = cond b 1 0

sum_read : (f : ℕ → ℕ) (xs : List ℕ) → sum (map f xs) ≡ sum_by f xs
sum_read f [] = refl
sum_read f (x ∷ xs) = sum_by-cons (λ n. n) (f x) (map f xs) ∙ ap (λ n. f x + n) (sum_read f xs) ∙ sym (sum_by-cons f x xs)

-- the truths of a test add up to how many numbers pass it
pub sum_truths : (p : ℕ → Bool) (xs : List ℕ) → sum (map (λ j. truth (p j)) xs) ≡ length (filter p xs)
sum_truths p xs = sum_read (λ j. truth (p j)) xs ∙ sym (length-filter p xs)

-- of n numbers no more than n pass
pub few_truths : (p : ℕ → Bool) (n : ℕ) → sum (map (λ j. truth (p j)) (range_with_len 0 n)) ≤ n
few_truths p n =
    omega (arith, sum_read (λ j. truth (p j)) (range_with_len 0 n), count_by-le-length p (range_with_len 0 n), length-range_with_len 0 n)
