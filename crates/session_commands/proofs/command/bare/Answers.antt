use Rattle.std.proofs.Common.{◌≡◌, codes, sym, ap, rules, arith}
use Rattle.std.proofs.lemmas.Slice.Eq.{text_from_reads}
use Rattle.session_commands.specs.Commands.{bare_of}
use Rattle.session_commands.proofs.command.bare.Goals as goal

pub returns-in-withdraw : goal.returns-in-withdraw
returns-in-withdraw c = let e : c.args.word.now ≡ codes "withdraw" = text_from_reads _ _ (omega arith) (search rules) in sym (ap bare_of e)

pub returns-in-decisions : goal.returns-in-decisions
returns-in-decisions c = let e : c.args.word.now ≡ codes "decisions" = text_from_reads _ _ (omega arith) (search rules) in sym (ap bare_of e)
