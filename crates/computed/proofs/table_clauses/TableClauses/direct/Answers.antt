use Rattle.std.proofs.Common.{slice_get, ap, ◌∙◌, arith, rules}
use Rattle.std.specs.List.{range_with_len, flat_map}
use Rattle.std.specs.Option.{option_map}
use Rattle.theory.specs.Encodings.{barred_with}
use Rattle.theory.specs.Numbering.{count}
use Rattle.network.specs.Points.{counts_of}
use Rattle.network.specs.Tables.{table_of}
use Rattle.computed.specs.Ids.{clause_of}
use Rattle.computed.proofs.Blocks.{none_below, within_below, there_below}
use Rattle.computed.proofs.table_clauses.TableClauses.direct.Goals as goal

pub returns-in_err-i : goal.returns-in_err-i
returns-in_err-i c =
    let ks = counts_of c.args.self.now.points.now in
    let f = barred_with ks (table_of c.args.self.now.table.now) in
    ap (option_map clause_of) c.from_residual.ensures ∙
    none_below _ f c.count-values.result c.args.n c.locate.result c.locate.ensures (λ i r h k. search rules) c.in_err-i.was ∙
    ap (λ m. slice_get (flat_map f (range_with_len 0 m)) c.args.n) (c.count-values.ensures.value ∙ ap (count ks) c.low.ensures)

pub barred-requires : goal.barred-requires
barred-requires c =
    let f = barred_with (counts_of c.args.self.now.points.now) (table_of c.args.self.now.table.now) in
    omega (
      arith,
      c.count-values.ensures.bound,
      within_below _ f c.count-values.result c.args.n c.locate.result c.locate.ensures (λ i r h k. search rules) c.in_ok-i.i c.in_ok-i.left c.in_ok-i.was,
    )

pub returns : goal.returns
returns c =
    let ks = counts_of c.args.self.now.points.now in
    let f = barred_with ks (table_of c.args.self.now.table.now) in
    c.barred.ensures ∙
    there_below _ f c.count-values.result c.args.n c.locate.result c.locate.ensures (λ i r h k. search rules) c.in_ok-i.i c.in_ok-i.left c.in_ok-i.was ∙
    ap (λ m. slice_get (flat_map f (range_with_len 0 m)) c.args.n) (c.count-values.ensures.value ∙ ap (count ks) c.low.ensures)
