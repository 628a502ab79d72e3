-- Decimal digits, read from the front.
use Rattle.std.proofs.Common.{◌≡◌, ℕ, ◌+◌, ◌-◌, ◌*◌, min, cond, List, [], ◌∷◌, length, Some, None, sym, refl, ap, arith}
use Rattle.std.specs.Char.{is_ascii_digit}
use Rattle.std.specs.List.{fold, list_all}
use Rattle.commands.specs.Commands.{value_after, most, decimal_of}

-- one digit more behind a number that is kept below the bound
abbrev pub with_digit : ℕ → ℕ → ℕ
with_digit n b = min (10 * n + (b - 48)) most

-- numbers alike below the bound stay so
pub fold-with_digit : (bs : List ℕ) (m n : ℕ) → m ≡ min n most → fold with_digit m bs ≡ min (value_after n bs) most
fold-with_digit [] m n e = e
fold-with_digit (b ∷ bs) m n e = fold-with_digit bs (with_digit m b) (10 * n + (b - 48)) (omega arith)

-- a text of one byte or more is a number where each byte is a digit
pub decimal_of-some : (bs : List ℕ) → (length bs ≡ 0 → ⊥) → decimal_of bs ≡ cond (list_all is_ascii_digit bs) (Some (fold with_digit 0 bs)) None
decimal_of-some [] h = absurd (h refl)
decimal_of-some (b ∷ bs) h =
    ap (λ n. cond (list_all is_ascii_digit (b ∷ bs)) (Some n) None) (sym (fold-with_digit (b ∷ bs) 0 0 refl))
