-- Clauses that have no value twice.
use Rattle.std.proofs.Common.{◌≡◌, ℕ, zero, suc, ◌+◌, ◌/◌, ◌<◌, Bool, true, false, cond, List, [], ◌∷◌, map, length, get_or, filter, subst, arith}
use Rattle.std.specs.List.{range_with_len}
use Rattle.theory.specs.Lists.{◌∈◌}
use Rattle.theory.specs.Literals.{is_in}
use Rattle.theory.proofs.Members.{in_at, in_kept, in_map, counting_in}
use Rattle.calls.proofs.Distinct.{Distinct}

-- no value stands in the clause twice
abbrev pub Single : List ℕ → Type 0
Single [] = Unit {0}
Single (l ∷ ls) = ((m : ℕ) → m ∈ ls → l / 2 ≡ m / 2 → ⊥) × Single ls

pub counting_distinct : (a n : ℕ) → Distinct (range_with_len a n)
counting_distinct a zero = tt
counting_distinct a (suc n) = (λ h. omega (arith, counting_in n (a + 1) a h), counting_distinct (a + 1) n)

pub kept_distinct : (p : ℕ → Bool) (xs : List ℕ) → Distinct xs → Distinct (filter p xs)
kept_distinct p [] d = tt
kept_distinct p (x ∷ xs) d = go (p x) (kept_distinct p xs d.1)
  where
    go : (b : Bool) → Distinct (filter p xs) → Distinct (cond b (x ∷ filter p xs) (filter p xs))
    go true r = (λ h. d.0 (in_kept p xs x h).0, r)
    go false r = r

-- the in-literals of different values
pub in_single : (o : ℕ) (xs : List ℕ) → Distinct xs → Single (map (λ i. is_in (o + i)) xs)
in_single o [] d = tt
in_single o (x ∷ xs) d = (
  λ m h e. let r = in_map (λ i. is_in (o + i)) xs m h in d.0 (subst (λ y. y ∈ xs) (omega (arith, r.2)) r.1),
  in_single o xs d.1,
)

-- two literals of a clause at different places are of different values
pub single_apart : (c : List ℕ) → Single c → (j k : ℕ) → j < k → k < length c → get_or c j 0 / 2 ≡ get_or c k 0 / 2 → ⊥
single_apart [] s j k h b e = omega arith
single_apart (l ∷ ls) s j zero h b e = omega arith
single_apart (l ∷ ls) s zero (suc k) h b e = s.0 (get_or ls k 0) (in_at ls 0 k (omega arith)) e
single_apart (l ∷ ls) s (suc j) (suc k) h b e = single_apart ls s.1 j k (omega arith) (omega arith) e
