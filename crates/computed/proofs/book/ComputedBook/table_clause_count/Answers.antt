use Rattle.std.proofs.Common.{◌≡◌, length, take, vec_items, sum, ap, ◌∙◌, arith}
use Rattle.theory.specs.Encodings.{table_clauses}
use Rattle.network.specs.Contents.{meaning}
use Rattle.computed.proofs.AtTable.{tables_length}
use Rattle.computed.proofs.Measured.{sum_lengths}
use Rattle.computed.proofs.book.ComputedBook.table_clause_count.Goals as goal

pub returns-clause-value : goal.returns-clause-value
returns-clause-value c =
    let b = c.args.self.now in
    let net = meaning b.network.now in
    let us = c.tables.result.now in
    let all : length us ≡ length net.tables = omega (arith, tables_length us (vec_items b.network.now.tables) c.tables.ensures.value) in
    c.total.ensures.value ∙ ap (λ n. sum (take n b.sizes)) all ∙ ap sum b.sized ∙ sum_lengths (table_clauses b.encoding net.counts) net.tables
