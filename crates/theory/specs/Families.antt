-- Arc-consistent families, and solutions that obey decisions.
use Rattle.std.specs.Prelude.{◌≡◌, ℕ, ◌<◌, Bool, true, false, List, length, ◌≢◌, slice_index}
use Rattle.theory.specs.declared.Side.{Side}
use Rattle.theory.specs.Lists.{◌∈◌}
use Rattle.theory.specs.Numbering.{count, number}
use Rattle.theory.specs.Literals.{is_in, is_out}
use Rattle.theory.specs.Network.{Table, Network, near, far, partner}

-- the decisions permit the value i of p: it is not barred, and no other value of p is chosen
pub record Permitted (ks ds : List ℕ) (p i : ℕ) : Type 0 where
  pub not_barred : is_out (number ks p i) ∈ ds → ⊥
  pub no_other_chosen : (j : ℕ) → j < count ks p → (j ≢ i) → is_in (number ks p j) ∈ ds → ⊥

-- F gives each point a set of values, possibly empty, that the decisions permit,
-- and each value in it has a partner in it in every table of its point
pub record Family (net : Network) (ds : List ℕ) (F : ℕ → ℕ → Bool) : Type 0 where
  pub permitted : (p i : ℕ) → i < count net.counts p → F p i ≡ true → Permitted net.counts ds p i
  pub partnered :
      (t : Table) → t ∈ net.tables → (s : Side) (i : ℕ) → i < count net.counts (near s t) → F (near s t) i ≡ true →
      (j : ℕ) × (j < count net.counts (far s t)) × (partner s t i j ≡ true) × (F (far s t) j ≡ true)

-- F leaves some point without a value
abbrev pub Empties : List ℕ → (ℕ → ℕ → Bool) → Type 0
Empties ks F = (p : ℕ) × (p < length ks) × ((i : ℕ) → i < count ks p → F p i ≡ false)

-- the layout has each chosen value and no barred one
pub record Obeys (ks ds vs : List ℕ) : Type 0 where
  pub has_chosen : (p i : ℕ) → i < count ks p → is_in (number ks p i) ∈ ds → slice_index vs p ≡ i
  pub has_no_barred : (p i : ℕ) → i < count ks p → is_out (number ks p i) ∈ ds → slice_index vs p ≢ i
