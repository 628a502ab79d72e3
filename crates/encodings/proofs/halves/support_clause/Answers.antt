use Rattle.std.proofs.Common.{◌≡◌, [], ◌∷◌, vec_items, ap, ◌∙◌, arith}
use Rattle.theory.specs.Literals.{is_in}
use Rattle.theory.specs.Network.{far}
use Rattle.theory.specs.Numbering.{count, number}
use Rattle.network.specs.Points.{counts_of}
use Rattle.network.specs.Tables.{table_of}
use Rattle.encodings.proofs.Bounded.{value_bound}
use Rattle.encodings.proofs.Growing.{count_up, kept_grown, left_grown}
use Rattle.encodings.proofs.halves.support_clause.Goals as goal
use Rattle.encodings.proofs.halves.support_clause.Goals.{then-is_partner+in_ok-push-2, else-is_partner}

pub overflow_add-offset : goal.overflow_add-offset
overflow_add-offset c = omega (arith, value_bound c.args.points.now _ _ c.requires)

pub is_out-requires : goal.is_out-requires
is_out-requires c = omega (arith, value_bound c.args.points.now _ _ c.requires)

pub loop-j-preserved : goal.loop-j-preserved
loop-j-preserved c =
    elim c.if-is_partner.branch [
      | then-is_partner+in_ok-push-2 w ↦
          let is : w.from-then-is_partner.result ≡ is_in (number (counts_of c.args.points.now) (far c.args.side (table_of c.args.table.now)) c.loop-j.j) = cc in
          kept_grown _ _ _ (count_up c.loop-j.j) (_ ∷ []) _ _ _ _ c.loop-j.invariant _ w.if-is_partner.ensures
          (ap vec_items w.clause-is ∙ w.in_ok-push-2.ensures.items) is
      | else-is_partner w ↦
          left_grown _ _ _ (count_up c.loop-j.j) (_ ∷ []) _ _ _ _ c.loop-j.invariant w.if-is_partner.ensures (ap vec_items w.clause-is)
    ]

pub returns : goal.returns
returns c =
    let ks = counts_of c.args.points.now in
    let t = table_of c.args.table.now in
    let all : c.loop-j.j ≡ count ks (far c.args.side t) = omega (arith, ap (count ks) c.far-other.ensures) in
    rw all at c.loop-j.invariant
