use Rattle.std.proofs.Common.{◌≡◌, [], vec_items, sym, ap, ◌∙◌, arith}
use Rattle.theory.specs.declared.Side.{Side}
use Rattle.theory.specs.declared.Side.TheVariants.{Lower, Higher}
use Rattle.theory.specs.Encodings.{half}
use Rattle.network.specs.declared.points.PointList.{PointList}
use Rattle.network.specs.declared.table.Table.{Table}
use Rattle.network.specs.Contents.{meaning}
use Rattle.network.specs.Points.{counts_of}
use Rattle.network.specs.Tables.{table_of}
use Rattle.partners.specs.Ends.{half_of}
use Rattle.computed.specs.declared.half.HalfBook.{HalfBook}
use Rattle.computed.specs.Scores.{half_at}
use Rattle.computed.proofs.AtTable.{table_at, tables_length}
use Rattle.computed.proofs.halves.table_halves.Goals as goal

-- the clauses of a half book, by what it is made of
half_is :
    (b : HalfBook) (ps : PointList) (x : Table) (s : Side) → b.end.points.now ≡ ps → b.end.table.now ≡ x → b.end.side ≡ s → half_of b.end ≡ half (counts_of ps) s (table_of x)
half_is b ps x s points table side = λ i. half (counts_of (points i)) (side i) (table_of (table i))

pub returns : goal.returns
returns c =
    let net = c.args.network.now in
    let us = c.tables.result.now in
    let ts = vec_items net.tables in
    let same = c.tables.ensures.value in
    let found = rw c.in_ok-found.ensures.ok_part at c.get.ensures.lookup in
    let x = c.in_ok-found.found.now in
    let at : (s : Side) → half (counts_of c.points-points.result.now) s (table_of x) ≡ half_at (meaning net) s c.args.table =
    λ s. ap (λ ps. half (counts_of ps) s (table_of x)) c.points-points.ensures ∙
    sym (table_at us ts same (half (counts_of net.points) s) c.args.table [] x found.3.0 found.1) in
    let low = c.new-lower.ensures in
    let high = c.new-higher.ensures in (
      omega (arith, found.3.0, tables_length us ts same),
      half_is c.new-lower.result c.points-points.result.now x Lower low.points low.table low.side ∙ at Lower,
      half_is c.new-higher.result c.points-points.result.now x Higher high.points high.table high.side ∙ at Higher,
    )
