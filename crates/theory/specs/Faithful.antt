-- Clause lists whose models are a network's solutions, one to one.
use Rattle.std.specs.Prelude.{◌≡◌, ℕ, ◌+◌, Bool, cond, List, [], ◌∷◌, ◌++◌, map, take, drop, nat_eq}
use Rattle.std.specs.List.{range_with_len}
use Rattle.theory.specs.Numbering.{total}
use Rattle.theory.specs.Literals.{Model}
use Rattle.theory.specs.Network.{Network, Solution}

-- the marking of a layout (one value a point): in being the value of its point
abbrev pub marking_of : List ℕ → List ℕ → List Bool
marking_of [] vs = []
marking_of (k ∷ ks) [] = []
marking_of (k ∷ ks) (v ∷ vs) = map (nat_eq v) (range_with_len 0 k) ++ marking_of ks vs

-- the place of the first value that is in
abbrev pub first_in : List Bool → ℕ
first_in [] = 0
first_in (b ∷ bs) = cond b 0 (first_in bs + 1)

-- the layout of a marking: each point's first value that is in
abbrev pub layout_of : List ℕ → List Bool → List ℕ
layout_of [] m = []
layout_of (k ∷ ks) m = first_in (take k m) ∷ layout_of ks (drop k m)

-- the models of the clauses are exactly the network's solutions, in being the value of its point:
-- two maps carry solutions to models and models to solutions, and undo each other
pub record Faithful (net : Network) (cs : List (List ℕ)) : Type 0 where
  pub to_model : (vs : List ℕ) → Solution net vs → Model (total net.counts) cs (marking_of net.counts vs)
  pub to_solution : (m : List Bool) → Model (total net.counts) cs m → Solution net (layout_of net.counts m)
  pub there_and_back : (vs : List ℕ) → Solution net vs → layout_of net.counts (marking_of net.counts vs) ≡ vs
  pub back_and_there : (m : List Bool) → Model (total net.counts) cs m → marking_of net.counts (layout_of net.counts m) ≡ m
