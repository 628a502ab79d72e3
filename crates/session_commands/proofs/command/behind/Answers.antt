use Rattle.std.proofs.Common.{◌≡◌, ◌∙◌, codes, sym, ap, rules, arith}
use Rattle.std.proofs.lemmas.Slice.Eq.{text_from_reads}
use Rattle.session_commands.specs.Commands.{behind_of}
use Rattle.session_commands.proofs.command.behind.Goals as goal

pub returns-in-clauses : goal.returns-in-clauses
returns-in-clauses c =
    let e : c.args.word.now ≡ codes "clauses" = text_from_reads _ _ (omega arith) (search rules) in
    c.clauses.ensures ∙ sym (ap (λ word. behind_of word c.args.rest.now) e)
