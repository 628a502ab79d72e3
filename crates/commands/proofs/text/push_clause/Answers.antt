use Rattle.std.proofs.Common.{◌≡◌, ◌<◌, List, ℕ, Bor, [], length, get_or, string_bytes, sym, ap, ◌∙◌, arith}
use Rattle.commands.proofs.Joining.{separator, separator_later, literal_written}
use Rattle.commands.proofs.text.push_clause.Goals as goal
use Rattle.commands.proofs.text.push_clause.Goals.{then-j-eq0, else-j-eq0}

pub loop-j-preserved : goal.loop-j-preserved
loop-j-preserved g c =
    let clause = get_or (g.B.ClauseBook.clauses c.args.book.now) c.args.i [] in
    let lt : c.loop-j.j < length clause = omega (arith, c.length-j-end.ensures, c.loop-j-test.true) in
    let between : c.if-j-eq0.separator.now ≡ separator c.loop-j.j =
    elim c.if-j-eq0.branch [
      | then-j-eq0 w ↦ ap (λ (t : Bor (List ℕ)). t.now) w.separator-is ∙ sym (ap separator w.if-j-eq0.true)
      | else-j-eq0 w ↦ ap (λ (t : Bor (List ℕ)). t.now) w.separator-is ∙ sym (separator_later c.loop-j.j (omega (arith, w.if-j-eq0.false)))
    ]
    in
    literal_written clause c.loop-j.j c.literal-literal.result (string_bytes c.args.out.now) (string_bytes c.loop-j.out) c.if-j-eq0.separator.now
    (string_bytes c.write.new.self) lt c.literal-literal.ensures between c.loop-j.invariant c.in_ok-write.ensures.bytes
