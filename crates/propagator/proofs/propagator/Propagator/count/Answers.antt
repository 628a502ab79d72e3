use Rattle.std.proofs.Common.{arith}
use Rattle.propagator.proofs.Invariant.{room}
use Rattle.propagator.proofs.propagator.Propagator.count.Goals as goal

pub returns-clause-few : goal.returns-clause-few
returns-clause-few c = λ o. omega (arith, c.len.ensures, room c.args.self.now o.0 o.1)
