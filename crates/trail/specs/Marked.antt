-- Marks that are those of a trail's literals.
use Rattle.std.specs.Prelude.{◌≡◌, ℕ, ◌+◌, ◌*◌, ◌/◌, ◌%◌, ◌<◌, ◌≤◌, true, List, [], ◌∷◌, length, ◌≢◌, slice_index, slice_index_or}
use Rattle.theory.specs.declared.Mark.{Mark}
use Rattle.theory.specs.declared.Mark.TheVariants.{In, Out, Open}
use Rattle.theory.specs.Lists.{has}

-- 1 + l % 2 where the mark is the one that the literal l gives its value, and 0 where it is open
abbrev pub code : Mark → ℕ
code Open = 0
code In = 1
code Out = 2

-- how many of the marks are open
abbrev pub opens : List Mark → ℕ
opens [] = 0
opens (Open ∷ ms) = 1 + opens ms
opens (In ∷ ms) = opens ms
opens (Out ∷ ms) = opens ms

-- the marks ms are those of the literals t, no two of which are of one value, and there is room for a literal of each value
pub record Marked (cap : ℕ) (t : List ℕ) (ms : List Mark) : Type 0 where
  pub space : length ms ≤ cap
  pub below : (k : ℕ) → k < length t → slice_index t k < 2 * length ms
  pub told : (k : ℕ) → k < length t → code (slice_index_or ms (slice_index t k / 2) Open) ≡ 1 + slice_index t k % 2
  pub heard : (l : ℕ) → code (slice_index_or ms (l / 2) Open) ≡ 1 + l % 2 → has t l ≡ true
  pub apart : (j k : ℕ) → j < k → k < length t → slice_index t j / 2 ≢ slice_index t k / 2
  pub room : length t + opens ms ≡ length ms
  deriving IsProp as Marked-prop
