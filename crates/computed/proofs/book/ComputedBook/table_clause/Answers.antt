use Rattle.std.proofs.Common.{◌<◌, [], length, slice_get, vec_items, sym, ap, ◌∙◌, arith, rules}
use Rattle.std.specs.Option.{option_map}
use Rattle.theory.specs.Encodings.{table_clauses}
use Rattle.network.specs.Contents.{meaning}
use Rattle.network.specs.Points.{counts_of}
use Rattle.network.specs.Tables.{table_of}
use Rattle.computed.specs.Ids.{clause_of}
use Rattle.computed.proofs.AtTable.{table_at, tables_length}
use Rattle.computed.proofs.Blocks.{found_none, found_within, found_there}
use Rattle.computed.proofs.Measured.{size_at}
use Rattle.computed.proofs.book.ComputedBook.table_clause.Goals as goal
use Rattle.computed.proofs.book.ComputedBook.table_clause.Goals.{After-points}

pub returns-in_err-k : goal.returns-in_err-k
returns-in_err-k c =
    let net = c.args.self.now.network.now in
    let e = c.args.self.now.encoding in
    let m = meaning net in
    let us = c.tables-tables.result.now in
    let long = tables_length us (vec_items net.tables) c.tables-tables.ensures.value in
    ap (option_map clause_of) c.from_residual.ensures ∙
    found_none _ (table_clauses e m.counts) m.tables (length us) c.args.n c.locate.result long c.locate.ensures
    (λ i r h k. search (rules, size_at e m c.args.self.now.sizes c.args.self.now.sized i)) c.in_err-k.was

-- the table that the walk finds is one of the tables

within : (c : After-points) → c.in_ok-k.k < length c.tables-tables.result.now
within c =
    let net = c.args.self.now.network.now in
    let e = c.args.self.now.encoding in
    let m = meaning net in
    let us = c.tables-tables.result.now in
    let long = tables_length us (vec_items net.tables) c.tables-tables.ensures.value in
    (found_within _ (table_clauses e m.counts) m.tables (length us) c.args.n c.locate.result long c.locate.ensures
    (λ i r h k. search (rules, size_at e m c.args.self.now.sizes c.args.self.now.sized i)) c.in_ok-k.k c.in_ok-k.left c.in_ok-k.was).0

pub offset_bounds-tables-k : goal.offset_bounds-tables-k
offset_bounds-tables-k c = omega (arith, within c, c.args.self.now.network.now.few, ap length c.tables-tables.ensures.value)

pub bounds-tables-k : goal.bounds-tables-k
bounds-tables-k c = within c

pub returns : goal.returns
returns c =
    let net = c.args.self.now.network.now in
    let e = c.args.self.now.encoding in
    let m = meaning net in
    let us = c.tables-tables.result.now in
    let vs = vec_items net.tables in
    let same = c.tables-tables.ensures.value in
    let k = c.in_ok-k.k in
    let l = c.in_ok-k.left in
    let x = c.index-tables-k.result in
    let long = tables_length us vs same in
    let f = table_clauses e m.counts in
    let lt = (found_within _ f m.tables (length us) c.args.n c.locate.result long c.locate.ensures
    (λ i r h k. search (rules, size_at e m c.args.self.now.sizes c.args.self.now.sized i)) k l c.in_ok-k.was).0 in
    c.clause.ensures ∙
    ap (λ ps. slice_get (table_clauses e (counts_of ps) (table_of x)) l) c.points.ensures ∙
    ap (λ b. slice_get b l) (sym (table_at us vs same f k [] x lt c.index-tables-k.is)) ∙
    found_there _ f m.tables (length us) c.args.n c.locate.result long c.locate.ensures
    (λ i r h k. search (rules, size_at e m c.args.self.now.sizes c.args.self.now.sized i)) k l c.in_ok-k.was
