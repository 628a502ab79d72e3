-- Elements of the front and of the rest of a list, and the places of a list's elements.
use Rattle.std.proofs.Common.{◌≡◌, ℕ, zero, suc, ◌<◌, List, [], ◌∷◌, length, get_or, take, drop, subst, inl, inr, arith}
use Rattle.std.proofs.lemmas.List.{take-append-drop}
use Rattle.theory.specs.Lists.{◌∈◌}
use Rattle.theory.proofs.Members.{in_left}

pub in_take : (n : ℕ) (xs : List ℕ) (x : ℕ) → x ∈ take n xs → x ∈ xs
in_take n xs x h = subst (λ ys. x ∈ ys) (take-append-drop n xs) (in_left (take n xs) (drop n xs) x h)

pub in_drop : (n : ℕ) (xs : List ℕ) (x : ℕ) → x ∈ drop n xs → x ∈ xs
in_drop zero xs x h = h
in_drop (suc n) [] x h = h
in_drop (suc n) (y ∷ xs) x h = inr (in_drop n xs x h)

pub place_of : {A : Type 0} (xs : List A) (d x : A) → x ∈ xs → (i : ℕ) × (i < length xs) × (x ≡ get_or xs i d)
place_of [] d x h = absurd h
place_of (y ∷ ys) d x (inl e) = (0, omega arith, e)
place_of (y ∷ ys) d x (inr h) = let r = place_of ys d x h in (suc r.0, omega (arith, r.1), r.2)
