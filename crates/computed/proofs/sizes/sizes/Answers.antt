use Rattle.std.proofs.Common.{◌<◌, length, vec_items, ap, ◌∙◌, arith}
use Rattle.std.proofs.lemmas.List.{length-set}
use Rattle.network.specs.Contents.{meaning}
use Rattle.network.specs.Points.{counts_of}
use Rattle.network.specs.Tables.{table_of}
use Rattle.computed.specs.Sizes.{size_of}
use Rattle.computed.proofs.AtTable.{table_more}
use Rattle.computed.proofs.sizes.sizes.Goals as goal

pub loop-k-preserved : goal.loop-k-preserved
loop-k-preserved c =
    let net = c.args.network.now in
    let e = c.args.encoding in
    let is = c.size.ensures.value ∙ ap (λ ps. size_of e (counts_of ps) (table_of c.table-item.result)) c.points-points.ensures in
    let us = c.tables-table-items.result.now in
    let vs = vec_items net.tables in
    let same = c.tables-table-items.ensures.value in
    let few : c.loop-k.k < length c.loop-k.sizes = omega (arith, net.few, ap length same) in (
      length-set c.loop-k.sizes c.loop-k.k c.size.result ∙ c.loop-k.invariant.0,
      table_more us vs same (size_of e (meaning net).counts) c.loop-k.k c.loop-k.sizes c.size.result c.table-item.result
          c.loop-k-test.true few c.table-item.is is c.loop-k.invariant.1,
    )
