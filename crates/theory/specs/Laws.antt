-- The laws between the meanings.
use Rattle.std.specs.Prelude.{◌≡◌, ℕ, ◌*◌, ◌<◌, Bool, true, false, List, length, Decides, ◌≢◌, slice_index}
use Rattle.std.specs.List.{range_with_len}
use Rattle.theory.specs.declared.Encoding.{Encoding}
use Rattle.theory.specs.declared.Mark.{Mark}
use Rattle.theory.specs.declared.Mark.TheVariants.{Out, Open}
use Rattle.theory.specs.Lists.{◌∈◌, has}
use Rattle.theory.specs.Numbering.{count, total, number}
use Rattle.theory.specs.Literals.{opposite, Within, NoneEmpty}
use Rattle.theory.specs.Network.{Network, Proper, Solution}
use Rattle.theory.specs.Encodings.{clauses}
use Rattle.theory.specs.Faithful.{Faithful}
use Rattle.theory.specs.Reached.{Smallest, rounds, reached_set}
use Rattle.theory.specs.Marks.{clashed, mark}
use Rattle.theory.specs.Families.{Family, Empties, Obeys}

-- over every network, the encoding's models and the network's solutions correspond one to one
abbrev pub IsFaithful : Encoding → Type 0
IsFaithful e = (net : Network) → Proper net → Faithful net (clauses e net)

-- over clauses of n values, k rounds of unit propagation from any decisions compute their reached set, the smallest set
abbrev pub RoundsSuffice : ℕ → ℕ → Type 0
RoundsSuffice n k =
    (cs : List (List ℕ)) (ds : List ℕ) → Within n cs → Smallest cs ds (has (rounds cs k (range_with_len 0 (2 * n)) ds))

-- there is a clash exactly when the reached set holds a literal and its opposite
abbrev pub ClashIsOpposites : Type 0
ClashIsOpposites =
    (cs : List (List ℕ)) (n : ℕ) (ds : List ℕ) →
    Decides (clashed cs n ds) ((l : ℕ) × (has (reached_set cs n ds) l ≡ true) × (has (reached_set cs n ds) (opposite l) ≡ true))

-- both lists hold the same decisions
abbrev pub SameDecisions : List ℕ → List ℕ → Type 0
SameDecisions ds es = (l : ℕ) → (l ∈ ds → l ∈ es) × (l ∈ es → l ∈ ds)

-- reached set, clash and marks depend on which decisions stand, not on their order
abbrev pub OrderIsUnseen : Type 0
OrderIsUnseen =
    (cs : List (List ℕ)) (n : ℕ) (ds es : List ℕ) → SameDecisions ds es →
    ((l : ℕ) → has (reached_set cs n ds) l ≡ has (reached_set cs n es) l) ×
    (clashed cs n ds ≡ clashed cs n es) ×
    ((v : ℕ) → mark cs n ds v ≡ mark cs n es v)

-- the decisions are literals of n values
abbrev pub DecisionsWithin : ℕ → List ℕ → Type 0
DecisionsWithin n ds = (l : ℕ) → l ∈ ds → l < 2 * n

-- unclashed, a value is out exactly when no arc-consistent family under the decisions holds it
abbrev pub StrikesExactly : Encoding → Type 0
StrikesExactly e =
    (net : Network) (ds : List ℕ) → clashed (clauses e net) (total net.counts) ds ≡ false →
    (p i : ℕ) → i < count net.counts p →
    (mark (clauses e net) (total net.counts) ds (number net.counts p i) ≡ Out →
    (F : ℕ → ℕ → Bool) → Family net ds F → F p i ≢ true) ×
    (((F : ℕ → ℕ → Bool) → Family net ds F → F p i ≢ true) →
    mark (clauses e net) (total net.counts) ds (number net.counts p i) ≡ Out)

-- there is a clash exactly when each arc-consistent family under the decisions empties some point
abbrev pub ClashesExactly : Encoding → Type 0
ClashesExactly e =
    (net : Network) → Proper net → (ds : List ℕ) → DecisionsWithin (total net.counts) ds →
    Decides (clashed (clauses e net) (total net.counts) ds)
    ((F : ℕ → ℕ → Bool) → Family net ds F → Empties net.counts F)

-- over clauses whose models are the solutions: a solution that obeys the decisions rules out a clash,
-- and none of its values is ever marked m
abbrev pub NeverMarked : Mark → Type 0
NeverMarked m =
    (net : Network) (cs : List (List ℕ)) (ds vs : List ℕ) → Faithful net cs → DecisionsWithin (total net.counts) ds →
    Solution net vs → Obeys net.counts ds vs →
    (clashed cs (total net.counts) ds ≡ false) ×
    ((p : ℕ) → p < length net.counts → mark cs (total net.counts) ds (number net.counts p (slice_index vs p)) ≢ m)

-- over clauses whose models are the solutions: if without a clash no value is open,
-- the values marked m are a solution that obeys the decisions
abbrev pub MakesTheSolution : Mark → Type 0
MakesTheSolution m =
    (net : Network) (cs : List (List ℕ)) (ds : List ℕ) → Faithful net cs →
    Within (total net.counts) cs → NoneEmpty cs → clashed cs (total net.counts) ds ≡ false →
    ((v : ℕ) → v < total net.counts → mark cs (total net.counts) ds v ≢ Open) →
    (vs : List ℕ) × Solution net vs × Obeys net.counts ds vs ×
    ((p i : ℕ) → i < count net.counts p →
    (slice_index vs p ≡ i → mark cs (total net.counts) ds (number net.counts p i) ≡ m) ×
    (mark cs (total net.counts) ds (number net.counts p i) ≡ m → slice_index vs p ≡ i))
