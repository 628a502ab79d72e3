-- The refusals in the order of their numbers, and the first of them that a test meets.
use Rattle.std.proofs.Common.{◌≡◌, ℕ, suc, ◌<◌, ◌≤◌, Bool, true, false, cond, ◌⊎◌, List, [], ◌∷◌, Some, None, Option, sym, refl, ap, ◌∙◌, subst, inl, inr, ⊎_elim, arith}
use Rattle.theory.specs.Lists.{◌∈◌}
use Rattle.network.specs.declared.refusal.Refusal.{Refusal}
use Rattle.network.specs.declared.refusal.Refusal.TheVariants.{Truncated, UnknownKind, BadHead, BadPoint, BadTable, Misplaced, MissingPoint, MissingValue, RepeatedPair, WrongCount, TrailingBytes}
use Rattle.network.specs.Refusals.{number_of}

-- the refusals after the first
abbrev others : List Refusal
others =
    UnknownKind ∷ BadHead ∷ BadPoint ∷ BadTable ∷ Misplaced ∷ MissingPoint ∷ MissingValue ∷ RepeatedPair ∷ WrongCount ∷ TrailingBytes ∷ []

-- all refusals, ascending
abbrev pub refusals : List Refusal
refusals = Truncated ∷ others

known : (y : Refusal) → y ∈ refusals
known Truncated = inl refl
known UnknownKind = inr (inl refl)
known BadHead = inr (inr (inl refl))
known BadPoint = inr (inr (inr (inl refl)))
known BadTable = inr (inr (inr (inr (inl refl))))
known Misplaced = inr (inr (inr (inr (inr (inl refl)))))
known MissingPoint = inr (inr (inr (inr (inr (inr (inl refl))))))
known MissingValue = inr (inr (inr (inr (inr (inr (inr (inl refl)))))))
known RepeatedPair = inr (inr (inr (inr (inr (inr (inr (inr (inl refl))))))))
known WrongCount = inr (inr (inr (inr (inr (inr (inr (inr (inr (inl refl)))))))))
known TrailingBytes = inr (inr (inr (inr (inr (inr (inr (inr (inr (inr (inl refl))))))))))

-- the numbers of refusals go up by one from n
abbrev Numbered : ℕ → List Refusal → Type 0
Numbered n [] = Unit {0}
Numbered n (y ∷ ys) = (number_of y ≡ n) × Numbered (suc n) ys

numbered : Numbered 1 refusals
numbered = (refl, (refl, (refl, (refl, (refl, (refl, (refl, (refl, (refl, (refl, (refl, tt)))))))))))

-- no number is below the first
number_from : (n : ℕ) (ys : List Refusal) → Numbered n ys → (y : Refusal) → y ∈ ys → n ≤ number_of y
number_from n [] h y i = absurd i
number_from n (z ∷ ys) h y (inl e) = omega (arith, h.0, ap number_of e)
number_from n (z ∷ ys) h y (inr i) = omega (arith, number_from (suc n) ys h.1 y i)

number_once_in : (n : ℕ) (ys : List Refusal) → Numbered n ys → (x y : Refusal) → x ∈ ys → y ∈ ys → number_of x ≡ number_of y → x ≡ y
number_once_in n [] h x y i j e = absurd i
number_once_in n (z ∷ ys) h x y (inl p) (inl q) e = p ∙ sym q
number_once_in n (z ∷ ys) h x y (inl p) (inr j) e = absurd (omega (arith, h.0, ap number_of p, number_from (suc n) ys h.1 y j))
number_once_in n (z ∷ ys) h x y (inr i) (inl q) e = absurd (omega (arith, h.0, ap number_of q, number_from (suc n) ys h.1 x i))
number_once_in n (z ∷ ys) h x y (inr i) (inr j) e = number_once_in (suc n) ys h.1 x y i j e

-- a number belongs to one refusal
pub number_once : (x y : Refusal) → number_of x ≡ number_of y → x ≡ y
number_once x y e = number_once_in 1 refusals numbered x y (known x) (known y) e

-- the lowest number is 1, and only the first refusal has it
pub first_or_later : (y : Refusal) → (y ≡ Truncated) ⊎ (2 ≤ number_of y)
first_or_later y = ⊎_elim (λ e. inl e) (λ i. inr (number_from 2 others numbered.1 y i)) (known y)

-- the first refusal that passes the test
abbrev pub first : (Refusal → Bool) → List Refusal → Option Refusal
first t [] = None
first t (y ∷ ys) = cond (t y) (Some y) (first t ys)

-- of the refusals in P: none passes, or r passes and none of a lower number does
abbrev pub Lowest : (Refusal → Bool) → (Refusal → Type 0) → Option Refusal → Type 0
Lowest t P None = (y : Refusal) → P y → t y ≡ false
Lowest t P (Some r) = (t r ≡ true) × ((y : Refusal) → P y → number_of y < number_of r → t y ≡ false)

first_lowest_in : (t : Refusal → Bool) (n : ℕ) (ys : List Refusal) → Numbered n ys → Lowest t (λ y. y ∈ ys) (first t ys)
first_lowest_in t n [] h = λ y i. absurd i
first_lowest_in t n (z ∷ ys) h = go (t z) refl (first t ys) (first_lowest_in t (suc n) ys h.1)
  where
    go : (b : Bool) → t z ≡ b → (o : Option Refusal) → Lowest t (λ y. y ∈ ys) o → Lowest t (λ y. y ∈ (z ∷ ys)) (cond b (Some z) o)
    go true e o l =
        (e, λ y i low. ⊎_elim (λ p. absurd (omega (arith, ap number_of p))) (λ j. absurd (omega (arith, h.0, number_from (suc n) ys h.1 y j))) i)
    go false e None l = λ y i. ⊎_elim (λ p. ap t p ∙ e) (l y) i
    go false e (Some r) l = (l.0, λ y i low. ⊎_elim (λ p. ap t p ∙ e) (λ j. l.1 y j low) i)

-- the first that passes has the lowest number
pub first_lowest : (t : Refusal → Bool) (o : Option Refusal) → first t refusals ≡ o → Lowest t (λ _. Unit {0}) o
first_lowest t o e = go o (subst (Lowest t (λ y. y ∈ refusals)) e (first_lowest_in t 1 refusals numbered))
  where
    go : (o : Option Refusal) → Lowest t (λ y. y ∈ refusals) o → Lowest t (λ _. Unit {0}) o
    go None l = λ y _. l y (known y)
    go (Some r) l = (l.0, λ y _. l.1 y (known y))
