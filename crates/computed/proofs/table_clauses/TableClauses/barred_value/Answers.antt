use Rattle.std.proofs.Common.{◌≡◌, ℕ, not, slice_get, filter, sym, ap, ◌∙◌, arith, rules}
use borrow.Author.Tests.{tests}
use Rattle.std.specs.List.{range_with_len}
use Rattle.std.proofs.lemmas.Iterator.{YieldsList-from_range}
use Rattle.std.proofs.lemmas.Iterator.Adapters.{option_map_id}
use Rattle.std.proofs.lemmas.Iterator.Consumers.{YieldsList-from_filter, nth_from_yields_List}
use Rattle.theory.specs.Network.{allows}
use Rattle.theory.specs.Numbering.{count}
use Rattle.network.specs.Points.{counts_of}
use Rattle.network.specs.Tables.{table_of}
use Rattle.computed.proofs.table_clauses.TableClauses.barred_value.Goals as goal

pub returns-clause-value : goal.returns-clause-value
returns-clause-value c =
    let ks = counts_of c.args.self.now.points.now in
    let t = table_of c.args.self.now.table.now in
    let n = c.count.result in
    let p = λ (j : ℕ). not (allows t c.args.i j) in
    let all : n ≡ count ks t.high = c.count.ensures.value ∙ ap (count ks) c.high.ensures in
    sym (option_map_id c.nth.result) ∙
    nth_from_yields_List c.nth.result c.nth.new.self c.args.n c.nth.ensures.ran
    (YieldsList-from_filter _ p (YieldsList-from_range 0 n n c.filter.ensures.source (omega arith)) c.filter.ensures.closure (λ x b q k. search (rules, tests))) ∙
    ap (λ m. slice_get (filter p (range_with_len 0 m)) c.args.n) all
