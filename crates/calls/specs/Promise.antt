-- What is promised of every run of a session's calls, refused ones included.
use Rattle.std.specs.Prelude.{◌≡◌, ℕ, ◌<◌, Bool, true, false, ◌⊎◌, List, ◌++◌, length, Ok, Decides, ◌≢◌, slice_index}
use Rattle.theory.specs.declared.Encoding.TheVariants.{Support}
use Rattle.theory.specs.declared.Mark.TheVariants.{In, Out}
use Rattle.theory.specs.Encodings.{clauses}
use Rattle.theory.specs.Faithful.{Faithful}
use Rattle.theory.specs.Families.{Family, Empties, Obeys}
use Rattle.theory.specs.Laws.{SameDecisions}
use Rattle.theory.specs.Network.{Network, Proper, Solution}
use Rattle.theory.specs.Numbering.{count}
use Rattle.network.specs.Points.{Entry, values_of}
use Rattle.calls.specs.declared.call.Exchange.{Exchange}
use Rattle.calls.specs.States.{State}
use Rattle.calls.specs.Replies.{mark_reply, left_reply, value_reply, decisions_reply, clash_reply}
use Rattle.calls.specs.Runs.{state_after, Exact}

-- no arc-consistent family under the decisions holds the value v of the point p
abbrev pub NoFamilyHolds : Network → List ℕ → ℕ → ℕ → Type 0
NoFamilyHolds net ds p v = (F : ℕ → ℕ → Bool) → Family net ds F → F p v ≢ true

-- each arc-consistent family under the decisions leaves some point without a value
abbrev pub EachFamilyEmpties : Network → List ℕ → Type 0
EachFamilyEmpties net ds = (F : ℕ → ℕ → Bool) → Family net ds F → Empties net.counts F

-- unclashed, a value is answered out exactly when no arc-consistent family under the standing decisions holds it;
-- clashed or not, a clash is answered exactly when each such family leaves some point without a value
pub record ArcConsistent (net : Network) (s : State) : Type 0 where
  pub out : clash_reply s ≡ false → (p v : ℕ) → v < count net.counts p →
      (mark_reply s p v ≡ Ok Out → NoFamilyHolds net s.decisions p v) × (NoFamilyHolds net s.decisions p v → mark_reply s p v ≡ Ok Out)
  pub clash : Decides (clash_reply s) (EachFamilyEmpties net s.decisions)

-- every value is answered in or out
abbrev pub AllMarked : Network → State → Type 0
AllMarked net s = (p v : ℕ) → v < count net.counts p → (mark_reply s p v ≡ Ok In) ⊎ (mark_reply s p v ≡ Ok Out)

-- the layout has exactly the values that are answered in
abbrev pub HasThoseIn : Network → State → List ℕ → Type 0
HasThoseIn net s vs =
    (p v : ℕ) → v < count net.counts p → (slice_index vs p ≡ v → mark_reply s p v ≡ Ok In) × (mark_reply s p v ≡ Ok In → slice_index vs p ≡ v)

-- a solution that obeys the standing decisions never has a value answered out, and rules out a clash;
-- if every value is answered in or out, those in are such a solution
pub record KeepsSolutions (net : Network) (s : State) : Type 0 where
  pub never_out : (vs : List ℕ) → Solution net vs → Obeys net.counts s.decisions vs →
      (p : ℕ) → p < length net.counts → mark_reply s p (slice_index vs p) ≢ Ok Out
  pub no_clash : (vs : List ℕ) → Solution net vs → Obeys net.counts s.decisions vs → clash_reply s ≡ false
  pub full : AllMarked net s → (vs : List ℕ) × Solution net vs × Obeys net.counts s.decisions vs × HasThoseIn net s vs

-- every question is answered alike
pub record AnswersAlike (s t : State) : Type 0 where
  pub marks : (p v : ℕ) → mark_reply s p v ≡ mark_reply t p v
  pub left : (p : ℕ) → left_reply s p ≡ left_reply t p
  pub value : (p : ℕ) → value_reply s p ≡ value_reply t p
  pub decisions : decisions_reply s ≡ decisions_reply t
  pub clash : clash_reply s ≡ clash_reply t

-- what holds after opening and after each call of a run
abbrev pub Throughout : List Entry → List (List ℕ) → List Exchange → (State → Type 0) → Type 0
Throughout ps cs xs P = (before behind : List Exchange) → xs ≡ before ++ behind → P (state_after ps cs before)

-- the promise of a run over points and clauses:
-- every call gets the answer or refusal that is defined for what stands when it is made;
-- over a network's support clauses, with its points, marks and clashes are those of arc consistency throughout;
-- over clauses whose models are a network's solutions, with its points, solutions are kept throughout;
-- and another run over the same points and clauses, where the same decisions stand in whatever order, has every question answered alike
pub record Promise (ps : List Entry) (cs : List (List ℕ)) (xs : List Exchange) : Type 0 where
  pub exact : Exact ps cs xs
  pub support : (net : Network) → Proper net → net.counts ≡ values_of ps → clauses Support net ≡ cs → Throughout ps cs xs (ArcConsistent net)
  pub faithful : (net : Network) → net.counts ≡ values_of ps → Faithful net cs → Throughout ps cs xs (KeepsSolutions net)
  pub alike : (ys : List Exchange) → Exact ps cs ys →
      Throughout ps cs xs (λ s. SameDecisions s.decisions (state_after ps cs ys).decisions → AnswersAlike s (state_after ps cs ys))
