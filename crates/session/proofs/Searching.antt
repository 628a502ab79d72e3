-- The marks of a point's values: how many pass a test, the first that does, and where they were answered.
use Rattle.std.proofs.Common.{◌≡◌, ℕ, zero, suc, ◌+◌, Bool, true, false, cond, List, [], ◌∷◌, map, length, filter, Some, Ok, sym, refl, ap, ◌∙◌}
use Rattle.std.specs.List.{range_with_len, count_by, position_from}
use Rattle.std.proofs.lemmas.List.Sums.{sum_by-cons, length-filter}
use Rattle.theory.specs.declared.Mark.{Mark}
use Rattle.calls.specs.Replies.{checked, first_of}

count_map : (test : Mark → Bool) (f : ℕ → Mark) (xs : List ℕ) → count_by test (map f xs) ≡ count_by (λ v. test (f v)) xs
count_map test f [] = refl
count_map test f (x ∷ xs) = rw (sum_by-cons {X = Mark}, sum_by-cons {X = ℕ}, count_map test f xs) refl

-- marks that pass are as many as their values
pub count_row : (test : Mark → Bool) (f : ℕ → Mark) (xs : List ℕ) → count_by test (map f xs) ≡ length (filter (λ v. test (f v)) xs)
count_row test f xs = count_map test f xs ∙ sym (length-filter (λ v. test (f v)) xs)

-- the first mark that passes stands at the first such value
pub position_row :
    (test : Mark → Bool) (f : ℕ → Mark) (a n : ℕ) →
    position_from test a (map f (range_with_len a n)) ≡ first_of (λ v. test (f v)) (range_with_len a n)
position_row test f a zero = refl
position_row test f a (suc n) = ap (cond (test (f a)) (Some a)) (position_row test f (a + 1) n)

-- what was answered was there, without a clash, and as given
pub answered : {A : Type 0} (there clash : Bool) (r q : A) → checked there clash (Ok r) ≡ Ok q → (there ≡ true) × (clash ≡ false) × (r ≡ q)
answered false clash r q e = absurd cc
answered true true r q e = absurd cc
answered true false r q e = (refl, refl, cc)
