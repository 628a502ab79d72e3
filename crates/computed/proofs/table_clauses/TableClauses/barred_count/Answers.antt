use Rattle.std.proofs.Common.{◌≡◌, ◌+◌, length, ap, ◌∙◌, arith}
use Rattle.theory.specs.Encodings.{barred_with, support_clause}
use Rattle.theory.specs.Numbering.{count}
use Rattle.network.specs.Points.{counts_of}
use Rattle.network.specs.Tables.{table_of}
use Rattle.computed.proofs.Kept.{barred_length}
use Rattle.computed.proofs.table_clauses.TableClauses.barred_count.Goals as goal
use Rattle.computed.proofs.table_clauses.TableClauses.barred_count.Goals.{After-partners}

-- each value of the higher point is barred or a partner
together : (c : After-partners) →
    length (barred_with (counts_of c.args.self.now.points.now) (table_of c.args.self.now.table.now) c.args.i) + c.partners.result ≡ c.count.result
together c =
    let e = c.lower_end.result in
    let is = c.lower_end.ensures in
    let ks = counts_of c.args.self.now.points.now in
    let t = table_of c.args.self.now.table.now in
    let i = c.args.i in
    omega (
      arith,
      barred_length ks t i,
      c.count.ensures.value ∙ ap (count ks) c.high.ensures,
      c.partners.ensures.value ∙ ap (λ ps. length (support_clause (counts_of ps) e.side (table_of e.table.now) i)) is.points ∙
          ap (λ x. length (support_clause ks e.side (table_of x) i)) is.table ∙ ap (λ s. length (support_clause ks s t i)) is.side,
    )

pub overflow_sub-result : goal.overflow_sub-result
overflow_sub-result c = omega (arith, together c)

pub returns-clause-value : goal.returns-clause-value
returns-clause-value c = omega (arith, together c)
