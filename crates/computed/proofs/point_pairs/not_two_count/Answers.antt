use Rattle.std.proofs.Common.{◌≡◌, ◌+◌, ◌*◌, length, arith}
use Rattle.theory.specs.Encodings.{not_two}
use Rattle.network.specs.Points.{counts_of}
use Rattle.computed.proofs.Pairs.{twice_not_two}
use Rattle.computed.proofs.point_pairs.not_two_count.Goals as goal

twice : (c : goal.After-count-values) → 2 * length (not_two (counts_of c.args.points.now) c.args.p) + c.count-values.result ≡
    c.count-values.result * c.count-values.result
twice c = rw c.count-values.ensures.value (twice_not_two (counts_of c.args.points.now) c.args.p)

pub returns-clause-value : goal.returns-clause-value
returns-clause-value c = omega (arith, twice c)
