-- Lists without repetition: two that have the same members are equally long.
use Rattle.std.proofs.Common.{◌≡◌, ℕ, zero, suc, ◌≤◌, List, [], ◌∷◌, ◌++◌, length, take, sym, refl, ap, subst, inl, inr, ⊎_elim, arith}
use Rattle.std.proofs.lemmas.List.{length-append}
use Rattle.theory.specs.Lists.{◌∈◌}
use Rattle.theory.proofs.Members.{in_left, in_right, in_append}

-- no number stands twice
abbrev pub Distinct : List ℕ → Type 0
Distinct [] = Unit {0}
Distinct (x ∷ xs) = (x ∈ xs → ⊥) × Distinct xs

pub distinct_push : (xs : List ℕ) (l : ℕ) → Distinct xs → (l ∈ xs → ⊥) → Distinct (xs ++ l ∷ [])
distinct_push [] l d f = (λ i. i, tt)
distinct_push (x ∷ xs) l d f = (
  λ i. ⊎_elim d.0 (λ j. ⊎_elim (λ e. f (inl (sym e))) (λ k. k) j) (in_append xs (l ∷ []) x i),
  distinct_push xs l d.1 (λ i. f (inr i)),
)

in_take : (n : ℕ) (xs : List ℕ) (l : ℕ) → l ∈ take n xs → l ∈ xs
in_take zero xs l i = absurd i
in_take (suc n) [] l i = absurd i
in_take (suc n) (x ∷ xs) l (inl e) = inl e
in_take (suc n) (x ∷ xs) l (inr i) = inr (in_take n xs l i)

pub distinct_take : (n : ℕ) (xs : List ℕ) → Distinct xs → Distinct (take n xs)
distinct_take zero xs d = tt
distinct_take (suc n) [] d = tt
distinct_take (suc n) (x ∷ xs) d = (λ i. d.0 (in_take n xs x i), distinct_take n xs d.1)

pub all_take : (P : ℕ → Type 0) (n : ℕ) (xs : List ℕ) → ((l : ℕ) → l ∈ xs → P l) → (l : ℕ) → l ∈ take n xs → P l
all_take P n xs f l i = f l (in_take n xs l i)

-- the list with one of its members cut out
around : (xs : List ℕ) (x : ℕ) → x ∈ xs → (us : List ℕ) × (bs : List ℕ) × (xs ≡ us ++ x ∷ bs)
around [] x i = absurd i
around (y ∷ ys) x (inl e) = ([], ys, ap (λ z. z ∷ ys) (sym e))
around (y ∷ ys) x (inr i) = let r = around ys x i in (y ∷ r.0, r.1, ap (λ zs. y ∷ zs) r.2)

-- a list without repetition is no longer than one that has all its members
pub no_longer : (xs ys : List ℕ) → Distinct xs → ((l : ℕ) → l ∈ xs → l ∈ ys) → length xs ≤ length ys
no_longer [] ys d f = omega arith
no_longer (x ∷ xs) ys d f =
    let r = around ys x (f x (inl refl)) in
    let fewer = no_longer xs (r.0 ++ r.1) d.1 (λ l i. apart r.0 r.1 l (λ e. d.0 (subst (λ z. z ∈ xs) e i)) (subst (λ zs. l ∈ zs) r.2 (f l (inr i)))) in
    omega (arith, fewer, ap length r.2, length-append r.0 (x ∷ r.1), length-append r.0 r.1)
  where
    apart : (us bs : List ℕ) (l : ℕ) → (l ≡ x → ⊥) → l ∈ (us ++ x ∷ bs) → l ∈ (us ++ bs)
    apart us bs l ne i =
        ⊎_elim (λ j. in_left us bs l j) (λ j. ⊎_elim (λ e. absurd (ne e)) (λ k. in_right us bs l k) j) (in_append us (x ∷ bs) l i)
