-- The reached set of a list of decisions over a list of clauses: as the smallest set, and as a computed list.
-- A decision is a literal: that a value is chosen (in) or barred (out).
use Rattle.std.specs.Prelude.{◌≡◌, ℕ, zero, suc, ◌*◌, Bool, true, cond, not, ◌&&◌, List, [], ◌∷◌, ◌++◌, filter, ◌==◌, ◌≢◌}
use Rattle.std.specs.List.{range_with_len, flat_map}
use Rattle.theory.specs.Lists.{◌∈◌, has}
use Rattle.theory.specs.Literals.{opposite}

-- the set holds the decisions
abbrev pub HoldsAll : List ℕ → (ℕ → Bool) → Type 0
HoldsAll ds S = (l : ℕ) → l ∈ ds → S l ≡ true

-- for each clause, the set holds a literal of it once it holds the opposites of all its other literals
abbrev pub Closed : List (List ℕ) → (ℕ → Bool) → Type 0
Closed cs S =
    (c : List ℕ) → c ∈ cs → (l : ℕ) → l ∈ c → ((m : ℕ) → m ∈ c → (m ≢ l) → S (opposite m) ≡ true) → S l ≡ true

-- S is the smallest set of literals that holds the decisions and is closed under the clauses
pub record Smallest (cs : List (List ℕ)) (ds : List ℕ) (S : ℕ → Bool) : Type 0 where
  pub holds_all : HoldsAll ds S
  pub closed : Closed cs S
  pub smallest : (T : ℕ → Bool) → HoldsAll ds T → Closed cs T → (l : ℕ) → S l ≡ true → T l ≡ true

-- each literal of the list is x
abbrev pub same : ℕ → List ℕ → Bool
same x [] = true
same x (y ∷ ys) = y == x && same x ys

-- the literals of a clause whose opposites s does not hold
abbrev pub remaining : List ℕ → List ℕ → List ℕ
remaining s c = filter (λ m. not (has s (opposite m))) c

-- of a clause and what remains of it: the one literal that remains, all where none does, and nothing where several do
abbrev pub forced_of : List ℕ → List ℕ → List ℕ
forced_of c [] = c
forced_of c (x ∷ xs) = cond (same x xs) (x ∷ []) []

-- the literals that a clause forces once s is held
abbrev pub units : List ℕ → List ℕ → List ℕ
units s c = forced_of c (remaining s c)

-- s where nothing is new, and otherwise t
abbrev pub unless_none : List ℕ → List ℕ → List ℕ → List ℕ
unless_none [] s t = s
unless_none (x ∷ xs) s t = t

-- at most k rounds of unit propagation from the literals s: each takes over the forced ones of those left to try
abbrev pub rounds : List (List ℕ) → ℕ → List ℕ → List ℕ → List ℕ
rounds cs zero left s = s
rounds cs (suc k) left s =
    let forced = flat_map (units s) cs in
    let fresh = filter (has forced) left in
    let more = rounds cs k (filter (λ l. not (has forced l)) left) (fresh ++ s) in
    unless_none fresh s more

-- the reached set over clauses of n values, as a list
abbrev pub reached_set : List (List ℕ) → ℕ → List ℕ → List ℕ
reached_set cs n ds = rounds cs (2 * n) (range_with_len 0 (2 * n)) ds
