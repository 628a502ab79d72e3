-- What a line of input asks for.
use Rattle.std.specs.Prelude.{ℕ, ◌+◌, ◌-◌, ◌*◌, ◌^◌, min, cond, List, [], ◌∷◌, drop, Some, None, codes, Option, nat_eq}
use Rattle.std.specs.Char.{is_ascii_digit}
use Rattle.std.specs.List.{list_all, starts_with}
use Rattle.std.specs.Option.{option_map}
use Rattle.theory.specs.Names.{encoding_named}
use Rattle.commands.specs.declared.command.Command.{Command}
use Rattle.commands.specs.declared.command.Command.TheVariants.{Number, Clauses}

-- the number that decimal digits write after the number n
abbrev pub value_after : ℕ → List ℕ → ℕ
value_after n [] = n
value_after n (b ∷ bs) = value_after (10 * n + (b - 48)) bs

-- the largest number that a program can hold: any larger question has the same answer
abbrev pub most : ℕ
most = 2 ^ 64 - 1

-- a decimal number of one digit or more
abbrev pub decimal_of : List ℕ → Option ℕ
decimal_of [] = None
decimal_of (b ∷ bs) = cond (list_all is_ascii_digit (b ∷ bs)) (Some (min (value_after 0 (b ∷ bs)) most)) None

-- the command that a line gives: `number` or `clauses`, a space, and what is asked for
abbrev pub command_of : List ℕ → Option Command
command_of line =
    cond (starts_with nat_eq line (codes "number ")) (option_map Number (decimal_of (drop 7 line)))
    (cond (starts_with nat_eq line (codes "clauses ")) (option_map Clauses (encoding_named (drop 8 line))) None)
