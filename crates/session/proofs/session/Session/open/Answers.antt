use Rattle.std.proofs.Common.{vec_items, arith}
use Rattle.network.proofs.Properness.{few_total}
use Rattle.session.proofs.session.Session.open.Goals as goal

pub overflow_cast-total : goal.overflow_cast-total
overflow_cast-total g c =
    let ps = c.args.points.now in
    omega (arith, c.total.ensures, few_total (vec_items ps.points), ps.within.1, ps.points.ok.0)
