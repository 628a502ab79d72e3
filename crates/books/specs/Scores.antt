-- The scores of two halves.
use Rattle.std.specs.Prelude.{◌≡◌, ℕ, cond, List, nat_lt}
use Rattle.theory.specs.declared.Side.TheVariants.{Lower, Higher}
use Rattle.theory.specs.Encodings.{scores}
use Rattle.books.specs.declared.halves.HalfScores.{HalfScores}

-- the sums of two halves, and the side of the higher one: the lower on equal sums
pub record ScoresOf (low high : List (List ℕ)) (r : HalfScores) : Type 0 where
  pub lower : r.lower ≡ scores low
  pub higher : r.higher ≡ scores high
  pub better : r.better ≡ cond (nat_lt (scores low) (scores high)) Higher Lower
