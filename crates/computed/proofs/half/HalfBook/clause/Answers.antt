use Rattle.std.proofs.Common.{sym, arith}
use Rattle.theory.specs.Encodings.{support_clause}
use Rattle.theory.specs.Network.{near}
use Rattle.theory.specs.Numbering.{count}
use Rattle.network.specs.Points.{counts_of}
use Rattle.network.specs.Tables.{table_of}
use Rattle.computed.proofs.Mapped.{mapped_get, mapped_past}
use Rattle.computed.proofs.half.HalfBook.clause.Goals as goal

pub returns-then-n-values : goal.returns-then-n-values
returns-then-n-values c =
    let e = c.args.self.now.end in
    let ks = counts_of e.points.now in
    let t = table_of e.table.now in
    sym (mapped_get (support_clause ks e.side t) (count ks (near e.side t)) c.args.n (omega (arith, c.if-n-values.true, c.values.ensures.value)))

pub returns-else-n-values : goal.returns-else-n-values
returns-else-n-values c =
    let e = c.args.self.now.end in
    let ks = counts_of e.points.now in
    let t = table_of e.table.now in
    sym (mapped_past (support_clause ks e.side t) (count ks (near e.side t)) c.args.n (omega (arith, c.if-n-values.false, c.values.ensures.value)))
