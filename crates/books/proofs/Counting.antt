-- Lists by what stands at each of their places, and sums over them.
use Rattle.std.proofs.Common.{◌≡◌, ℕ, ◌+◌, ◌*◌, ◌≤◌, List, [], ◌∷◌, map, length, get_or, sum, sum_by, sym, refl, ap, ◌∙◌, arith}
use Rattle.std.specs.List.{range_with_len}
use Rattle.std.proofs.lemmas.List.{length-append}
use Rattle.std.proofs.lemmas.List.FromFn.{fill_by_all}
use Rattle.std.proofs.lemmas.List.Sums.{sum-map, sum_by-cons}
use Rattle.std.proofs.lemmas.Simd.{map-map}
use Rattle.std.proofs.lemmas.Bool.Decides.{nat_tests}
use Rattle.theory.specs.Encodings.{score, scores}
use Rattle.books.specs.Stored.{row}

module _ {A : Type 0} (xs : List A) (d : A) (n : ℕ) (e : n ≡ length xs) where
  -- a list is made of what stands at its places
  pub at_each_place : map (λ k. get_or xs k d) (range_with_len 0 n) ≡ xs
  at_each_place = sym (fill_by_all (λ k. get_or xs k d) xs n d (sym e) (λ k h. refl))

  -- a sum over the places is one over the elements
  pub sum_at_places : (f : A → ℕ) → sum (map (λ k. f (get_or xs k d)) (range_with_len 0 n)) ≡ sum_by f xs
  sum_at_places f = ap sum (sym (map-map f (λ k. get_or xs k d) (range_with_len 0 n)) ∙ ap (map f) at_each_place) ∙ sum-map f xs

-- the score of a clause
abbrev pub score_of : List ℕ → ℕ
score_of c = score (length c)

pub scores_sum : (cs : List (List ℕ)) → sum_by score_of cs ≡ scores cs
scores_sum [] = refl
scores_sum (c ∷ cs) = sum_by-cons score_of c cs ∙ ap (λ n. score_of c + n) (scores_sum cs)

score_bound : (n : ℕ) → score n ≤ 16
score_bound n = grind (arith, nat_tests)

pub scores_bound : (cs : List (List ℕ)) → scores cs ≤ 16 * length cs
scores_bound [] = omega arith
scores_bound (c ∷ cs) = omega (arith, score_bound (length c), scores_bound cs)

-- the row of clauses has the literals of each
pub row_sum : (cs : List (List ℕ)) → sum_by length cs ≡ length (row cs)
row_sum [] = refl
row_sum (c ∷ cs) = sum_by-cons length c cs ∙ ap (λ n. length c + n) (row_sum cs) ∙ sym (length-append c (row cs))
