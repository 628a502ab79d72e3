-- The opposite of a literal.
use Rattle.std.proofs.Common.{◌≡◌, ℕ, ◌/◌, arith}
use Rattle.theory.specs.Literals.{opposite}

pub opposite_half : (l : ℕ) → opposite l / 2 ≡ l / 2
opposite_half l = omega arith

pub opposite_twice : (l : ℕ) → opposite (opposite l) ≡ l
opposite_twice l = omega arith
