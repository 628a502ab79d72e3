use Rattle.std.proofs.Common.{◌≡◌, sum, arith, rules}
use Rattle.computed.proofs.Measured.{sum_few}
use Rattle.computed.proofs.sizes.total.Goals as goal

pub returns-clause-bound : goal.returns-clause-bound
returns-clause-bound c =
    let ns = c.args.sizes.now in
    let is : c.sum.result ≡ sum ns = search rules in
    omega (arith, sum_few 65535 ns (λ i. let h = c.type_inv.sizes i in omega arith), c.requires)
