use Rattle.std.proofs.Common.{◌≡◌, rules, ◌∙◌, arith}
use Rattle.std.specs.List.{sum_by}
use Rattle.network.specs.declared.point.Point.{Point}
use Rattle.network.proofs.Places.{total_sum, total_bound}
use Rattle.network.proofs.numbering.total.Goals as goal

pub returns-clause-value : goal.returns-clause-value
returns-clause-value c =
    let e : c.sum.result ≡ sum_by (λ (p : Point). p.values) c.args.points.now = search rules in e ∙ total_sum c.args.points.now

pub returns-clause-bound : goal.returns-clause-bound
returns-clause-bound c =
    let e : c.sum.result ≡ sum_by (λ (p : Point). p.values) c.args.points.now = search rules in
    omega (arith, e, total_sum c.args.points.now, total_bound c.args.points.now)
