-- What is written for the answers to the commands of the program plan.
use Rattle.std.specs.Prelude.{List, ℕ, ◌++◌, codes}
use Rattle.theory.specs.Encodings.{clauses}
use Rattle.theory.specs.Network.{Network}
use Rattle.theory.specs.Numbering.{place}
use Rattle.commands.specs.declared.command.Command.{Command}
use Rattle.commands.specs.declared.command.Command.TheVariants.{Number, Clauses}
use Rattle.commands.specs.Texts.{place_text, clauses_text}

-- the answer to a command about a network: the point and the value of a number, or the clauses in an encoding
abbrev pub answer_text : Network → Command → List ℕ
answer_text network (Number n) = place_text (place network.counts n) ++ codes "\n"
answer_text network (Clauses encoding) = clauses_text (clauses encoding network)
