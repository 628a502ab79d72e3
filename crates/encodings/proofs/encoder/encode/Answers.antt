use Rattle.std.proofs.Common.{◌∙◌}
use Rattle.std.proofs.lemmas.List.{take_all}
use Rattle.theory.specs.Encodings.{clauses}
use Rattle.network.specs.Points.{counts_of}
use Rattle.network.specs.Tables.{table_of, tables_of}
use Rattle.encodings.specs.ClauseLists.{clauses_of}
use Rattle.encodings.proofs.Growing.{read_more, joined_grown, third}
use Rattle.encodings.proofs.encoder.encode.Goals as goal

pub loop-table-preserved : goal.loop-table-preserved
loop-table-preserved c =
    joined_grown _ _ _ (read_more table_of _ _ _ c.loop-table-test.true c.table-item.is) _ _ _ _ c.loop-table.invariant
    c.in_ok-of_table.ensures

pub returns : goal.returns
returns c =
    let all = take_all c.loop-table.table-index c.tables-table-items.result.now c.loop-table-test.false ∙ c.tables-table-items.ensures.value in
    third _ _ _ (clauses_of c.in_ok-out.out) _ c.in_ok-out.ensures c.loop-table.invariant ∙
    (λ k. clauses c.args.encoding (record { counts = counts_of (c.points-points.ensures k); tables = tables_of (all k) }))
