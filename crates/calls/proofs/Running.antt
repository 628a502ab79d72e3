-- A run that grows by one call.
use Rattle.std.proofs.Common.{◌≡◌, ℕ, List, [], ◌∷◌, ◌++◌, length, refl, ap, subst, arith}
use Rattle.std.proofs.lemmas.List.{length-append}
use Rattle.network.specs.Points.{Entry, values_of}
use Rattle.calls.specs.declared.call.Exchange.{Exchange}
use Rattle.calls.specs.States.{State}
use Rattle.calls.specs.Runs.{stands_after, standing, state_after, Right, Exact}

-- the decisions that stand after one call more
pub standing_push : (ks ds : List ℕ) (xs : List Exchange) (x : Exchange) → standing ks ds (xs ++ x ∷ []) ≡ stands_after ks (standing ks ds xs) x
standing_push ks ds [] x = refl
standing_push ks ds (y ∷ ys) x = standing_push ks (stands_after ks ds y) ys x

-- nothing has no part
no_part : (before : List Exchange) (x : Exchange) (behind : List Exchange) → [] ≡ before ++ x ∷ behind → ⊥
no_part before x behind e = omega (arith, ap length e, length-append before (x ∷ behind))

-- the run of no call
pub exact_none : (ps : List Entry) (cs : List (List ℕ)) → Exact ps cs []
exact_none ps cs before x behind e = absurd (no_part before x behind e)

module _ (ps : List Entry) (cs : List (List ℕ)) where
  abbrev at : List ℕ → State
  at ds = record { points = ps; clauses = cs; decisions = ds }

  push : (ds : List ℕ) (xs : List Exchange) (x : Exchange) →
      ((before : List Exchange) (y : Exchange) (behind : List Exchange) → xs ≡ before ++ y ∷ behind → Right (at (standing (values_of ps) ds before)) y) →
      Right (at (standing (values_of ps) ds xs)) x →
      (before : List Exchange) (y : Exchange) (behind : List Exchange) → xs ++ x ∷ [] ≡ before ++ y ∷ behind → Right (at (standing (values_of ps) ds before)) y
  push ds [] x f r [] y behind e = let q : x ≡ y = cc in subst (Right (at ds)) q r
  push ds [] x f r (b ∷ bs) y behind e = let q : [] ≡ bs ++ y ∷ behind = cc in absurd (no_part bs y behind q)
  push ds (z ∷ zs) x f r [] y behind e = let q : z ≡ y = cc in subst (Right (at ds)) q (f [] z zs refl)
  push ds (z ∷ zs) x f r (b ∷ bs) y behind e =
      let q : z ≡ b = cc in
      let p : zs ++ x ∷ [] ≡ bs ++ y ∷ behind = cc in
      subst (λ w. Right (at (standing (values_of ps) (stands_after (values_of ps) ds w) bs)) y) q
      (push (stands_after (values_of ps) ds z) zs x (λ before u back s. f (z ∷ before) u back (ap (λ us. z ∷ us) s)) r bs y behind p)

  -- a right answer more
  pub exact_push : (xs : List Exchange) (x : Exchange) → Exact ps cs xs → Right (state_after ps cs xs) x → Exact ps cs (xs ++ x ∷ [])
  exact_push xs x f r = push [] xs x f r
