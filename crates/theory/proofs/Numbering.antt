-- Each number below the total is the number of one value of one point.
use Rattle.std.proofs.Common.{◌≡◌, ℕ, zero, suc, ◌-◌, ◌<◌, ◌≤◌, List, [], ◌∷◌, length, refl, ap, ⊎_elim, arith}
use Rattle.std.proofs.lemmas.Bool.{cases_lt}
use Rattle.theory.specs.Literals.{is_in, is_out, opposite}
use Rattle.theory.specs.Numbering.{count, total, number}

pub opposite_in : (v : ℕ) → opposite (is_in v) ≡ is_out v
opposite_in v = omega arith

pub opposite_out : (v : ℕ) → opposite (is_out v) ≡ is_in v
opposite_out v = omega arith

pub same_place : (ks : List ℕ) (p i q j : ℕ) → i < count ks p → j < count ks q → number ks p i ≡ number ks q j → (p ≡ q) × (i ≡ j)
same_place [] p i q j hi hj e = absurd (omega arith)
same_place (k ∷ ks) zero i zero j hi hj e = (refl, omega arith)
same_place (k ∷ ks) zero i (suc q) j hi hj e = absurd (omega arith)
same_place (k ∷ ks) (suc p) i zero j hi hj e = absurd (omega arith)
same_place (k ∷ ks) (suc p) i (suc q) j hi hj e = let r = same_place ks p i q j hi hj (omega arith) in (ap suc r.0, r.1)

pub number_below : (ks : List ℕ) (p i : ℕ) → i < count ks p → number ks p i < total ks
number_below [] p i h = absurd (omega arith)
number_below (k ∷ ks) zero i h = omega arith
number_below (k ∷ ks) (suc p) i h = let r = number_below ks p i h in omega arith

pub find_place : (ks : List ℕ) (v : ℕ) → v < total ks → (p : ℕ) × (i : ℕ) × (p < length ks) × (i < count ks p) × (v ≡ number ks p i)
find_place [] v h = absurd (omega arith)
find_place (k ∷ ks) v h =
    ⊎_elim (λ (l : v < k). (0, v, omega arith, l, omega arith))
    (λ (l : k ≤ v). let r = find_place ks (v - k) (omega arith) in (suc r.0, r.1, omega (arith, r.2), r.3, omega (arith, r.4))) (cases_lt v k)

pub point_below : (ks : List ℕ) (p i : ℕ) → i < count ks p → p < length ks
point_below [] p i h = absurd (omega arith)
point_below (k ∷ ks) zero i h = omega arith
point_below (k ∷ ks) (suc p) i h = let r = point_below ks p i h in omega arith
