use Rattle.std.proofs.Common.{vec_items, ap, arith}
use Rattle.std.proofs.lemmas.List.{length-append}
use Rattle.theory.specs.declared.Side.TheVariants.{Lower, Higher}
use Rattle.theory.specs.Encodings.{half}
use Rattle.theory.specs.Numbering.{count}
use Rattle.theory.specs.Network.{near}
use Rattle.network.specs.Points.{counts_of}
use Rattle.network.specs.Tables.{table_of}
use Rattle.network.proofs.Properness.{few_values}
use Rattle.computed.specs.Sizes.{size_of}
use Rattle.computed.proofs.Measured.{half_length}
use Rattle.computed.proofs.table_clauses.TableClauses.size.Goals as goal

pub returns-in-Support-clause-value : goal.returns-in-Support-clause-value
returns-in-Support-clause-value c =
    let ks = counts_of c.args.self.now.points.now in
    let t = table_of c.args.self.now.table.now in
    let low = ap (count ks) c.low.ensures in
    let high = ap (count ks) c.high.ensures in
    let is = ap (λ e. size_of e ks t) c.in-Support.is in
    omega (arith, length-append (half ks Lower t) (half ks Higher t), half_length ks Lower t, half_length ks Higher t)

pub returns-in-MinimalSupport-clause-bound : goal.returns-in-MinimalSupport-clause-bound
returns-in-MinimalSupport-clause-bound c =
    let e = c.better_half.result.end in
    let t = table_of e.table.now in
    omega (arith, c.count-in-MinimalSupport.ensures, half_length (counts_of e.points.now) e.side t, few_values (vec_items e.points.now.points) (near e.side t))
