-- What a line of input asks for.
use Rattle.std.specs.Prelude.{ℕ, ◌+◌, cond, List, take, drop, Some, None, codes, position, Option, ◌==◌}
use Rattle.std.specs.Option.{option_map}
use Rattle.std.specs.Str.{bytes_eq}
use Rattle.theory.specs.Names.{encoding_named}
use Rattle.calls.specs.declared.call.Call.TheVariants.{Choose, Bar, Withdraw, Mark, Left, Value, Decisions, Clash}
use Rattle.commands.specs.Commands.{decimal_of}
use Rattle.commands.specs.declared.command.Command.TheVariants.{Number, Clauses}
use Rattle.session_commands.specs.declared.command.Command.{Command}
use Rattle.session_commands.specs.declared.command.Command.TheVariants.{Ask, Page, Half, Plan}

-- the word before the first space of a text and what stands behind that space, where there is one
abbrev pub cut_of : List ℕ → Option (List ℕ × List ℕ)
cut_of text = option_map (λ i. (take i text, drop (i + 1) text)) (position (λ b. b == 32) text)

-- the command of a word alone
abbrev pub bare_of : List ℕ → Option Command
bare_of word =
    cond (bytes_eq word (codes "withdraw")) (Some (Ask Withdraw))
    (cond (bytes_eq word (codes "decisions")) (Some (Ask Decisions))
    (cond (bytes_eq word (codes "clash")) (Some (Ask Clash))
    (cond (bytes_eq word (codes "page")) (Some Page) None)))

-- the command for the clauses of an encoding, by its name
abbrev pub clauses_of : List ℕ → Option Command
clauses_of name = option_map (λ encoding. Plan (Clauses encoding)) (encoding_named name)

-- the command of a word and a number
abbrev pub one_of : List ℕ → Option ℕ → Option Command
one_of word None = None
one_of word (Some n) =
    cond (bytes_eq word (codes "left")) (Some (Ask (Left n)))
    (cond (bytes_eq word (codes "value")) (Some (Ask (Value n)))
    (cond (bytes_eq word (codes "number")) (Some (Plan (Number n)))
    (cond (bytes_eq word (codes "half")) (Some (Half n)) None)))

-- the command of a word and two numbers, a point and a value
abbrev pub two_of : List ℕ → Option ℕ → Option ℕ → Option Command
two_of word None v = None
two_of word (Some p) None = None
two_of word (Some p) (Some v) =
    cond (bytes_eq word (codes "choose")) (Some (Ask (Choose p v)))
    (cond (bytes_eq word (codes "bar")) (Some (Ask (Bar p v)))
    (cond (bytes_eq word (codes "mark")) (Some (Ask (Mark p v))) None))

-- the command of a word and the numbers behind it: one, or two with a space between
abbrev pub numbers_of : List ℕ → List ℕ → Option Command
numbers_of word rest = elim (cut_of rest) [ None ↦ one_of word (decimal_of rest) | Some both ↦ two_of word (decimal_of both.0) (decimal_of both.1) ]

-- the command of a word and what stands behind it: the name of an encoding, or numbers
abbrev pub behind_of : List ℕ → List ℕ → Option Command
behind_of word rest = cond (bytes_eq word (codes "clauses")) (clauses_of rest) (numbers_of word rest)

-- the command that a line gives: a word alone, or a word, a space and what stands behind it
abbrev pub command_of : List ℕ → Option Command
command_of line = elim (cut_of line) [ None ↦ bare_of line | Some both ↦ behind_of both.0 both.1 ]
