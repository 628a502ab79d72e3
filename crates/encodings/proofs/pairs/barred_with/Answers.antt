use Rattle.std.proofs.Common.{◌≡◌, not, vec_items, ap, ◌∙◌, arith}
use Rattle.std.proofs.lemmas.Result.{IfOk-from_err}
use Rattle.theory.specs.Encodings.{not_both}
use Rattle.theory.specs.Numbering.{count}
use Rattle.network.specs.Points.{counts_of}
use Rattle.encodings.specs.ClauseLists.{clauses_of}
use Rattle.encodings.proofs.Bounded.{value_bound}
use Rattle.encodings.proofs.Growing.{count_up, kept_grown, left_grown, clause_pushed}
use Rattle.encodings.proofs.pairs.barred_with.Goals as goal
use Rattle.encodings.proofs.pairs.barred_with.Goals.{then-not-allows+in_ok-clause+in_ok-push, else-not-allows}

pub overflow_add-low : goal.overflow_add-low
overflow_add-low c = omega (arith, value_bound c.args.points.now _ _ c.requires)

pub not_both-requires : goal.not_both-requires
not_both-requires c = record { one = omega (arith, value_bound c.args.points.now _ _ c.requires); other = omega arith }

pub returns-in_err-clause : goal.returns-in_err-clause
returns-in_err-clause c = IfOk-from_err c.from_residual.result _ c.from_residual.ensures.0

pub loop-j-preserved : goal.loop-j-preserved
loop-j-preserved c =
    elim c.if-not-allows.branch [
      | then-not-allows+in_ok-clause+in_ok-push w ↦
          let made = w.in_ok-clause.ensures in
          let is : vec_items w.in_ok-clause.clause ≡
          not_both (counts_of c.args.points.now) c.args.table.now.low c.args.i c.args.table.now.high c.loop-j.j = cc in
          kept_grown _ _ _ (count_up c.loop-j.j) _ _ _ _ _ c.loop-j.invariant _ (ap not w.if-not-allows.ensures)
          (clause_pushed _ _ _ (ap vec_items w.out-is ∙ w.in_ok-push.ensures.items)) is
      | else-not-allows w ↦
          left_grown _ _ _ (count_up c.loop-j.j) _ _ _ _ _ c.loop-j.invariant (ap not w.if-not-allows.ensures) (ap clauses_of w.out-is)
    ]

pub returns : goal.returns
returns c =
    let all : c.loop-j.j ≡ count (counts_of c.args.points.now) c.args.table.now.high =
    omega (arith, ap (count (counts_of c.args.points.now)) c.high-2.ensures) in
    rw all at c.loop-j.invariant
