-- What a propagator keeps: for each decision, what was reached before it.
use Rattle.std.specs.Prelude.{◌≡◌, ℕ, ◌*◌, ◌<◌, ◌≤◌, Bool, false, List, length, take, slice_index}
use Rattle.theory.specs.Marks.{clashed}
use Rattle.propagation.specs.Reaches.{HoldsReached}

-- t is the trail of the decisions ds over clauses of n values, hs the trail's length before each decision,
-- and b says whether there is a clash: the trail holds what was reached before each decision, and without a clash all that is
pub record Standing (n : ℕ) (cs : List (List ℕ)) (t ds hs : List ℕ) (b : Bool) : Type 0 where
  pub small : (k : ℕ) → k < length ds → slice_index ds k < 2 * n
  pub rise : (j k : ℕ) → j < k → k < length hs → slice_index hs j < slice_index hs k
  pub climb : (k : ℕ) → k < length hs → k ≤ slice_index hs k
  pub within : (k : ℕ) → k < length hs → slice_index hs k < length t
  pub past : (k : ℕ) → k < length hs → HoldsReached cs n (take k ds) (take (slice_index hs k) t)
  pub here : b ≡ false → HoldsReached cs n ds t
  pub flag : b ≡ clashed cs n ds
  deriving IsProp as Standing-prop
