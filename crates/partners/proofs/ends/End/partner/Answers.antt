use Rattle.std.proofs.Common.{◌≡◌, slice_get, filter, sym, ap, ◌∙◌, arith, rules}
use Rattle.std.specs.List.{range_with_len}
use Rattle.std.proofs.lemmas.Iterator.{YieldsList-from_range}
use Rattle.std.proofs.lemmas.Iterator.Consumers.{YieldsList-from_filter, nth_from_yields_List}
use Rattle.std.proofs.lemmas.Iterator.Adapters.{option_map_id}
use borrow.Author.Tests.{tests}
use Rattle.theory.specs.Network.{far, partner}
use Rattle.theory.specs.Numbering.{count}
use Rattle.network.specs.Points.{counts_of}
use Rattle.network.specs.Tables.{table_of}
use Rattle.partners.proofs.ends.End.partner.Goals as goal

pub returns-clause-value : goal.returns-clause-value
returns-clause-value c =
    let e = c.args.self.now in
    let ks = counts_of e.points.now in
    let t = table_of e.table.now in
    let n = c.count.result in
    let p = partner e.side t c.args.i in
    let all : n ≡ count ks (far e.side t) = c.count.ensures.value ∙ ap (count ks) c.far.ensures in
    sym (option_map_id c.nth.result) ∙
    nth_from_yields_List c.nth.result c.nth.new.self c.args.n c.nth.ensures.ran
    (YieldsList-from_filter _ p (YieldsList-from_range 0 n n c.filter.ensures.source (omega arith)) c.filter.ensures.closure (λ x b q k. search (rules, tests))) ∙
    ap (λ m. slice_get (filter p (range_with_len 0 m)) c.args.n) all
