use Rattle.std.proofs.Common.{◌≡◌, ◌^◌, map, length, sum, filter, ap, ◌∙◌, arith, rules}
use Rattle.std.specs.List.{range_with_len}
use Rattle.std.proofs.lemmas.Iterator.{YieldsList-from_map, YieldsList-from_range}
use Rattle.std.proofs.lemmas.Iterator.Consumers.{sum_from_yields_List, fits_from_yields_list}
use Rattle.theory.specs.Network.{far, partner}
use Rattle.theory.specs.Numbering.{count}
use Rattle.network.specs.Points.{counts_of}
use Rattle.network.specs.Tables.{table_of}
use Rattle.partners.proofs.Counts.{truth, sum_truths, few_truths, support_length}
use Rattle.partners.proofs.ends.End.partners.Goals as goal

pub sum-requires-clause-fits : goal.sum-requires-clause-fits
sum-requires-clause-fits c =
    let e = c.args.self.now in
    let n = c.count.result in
    let p = partner e.side (table_of e.table.now) c.args.i in
    fits_from_yields_list c.map.result (2 ^ 64)
    (YieldsList-from_map _ (λ j. truth (p j)) (YieldsList-from_range 0 n n c.map.ensures.source (omega arith)) c.map.ensures.closure (λ x r q k. search rules))
    (omega (arith, few_truths p n))

pub returns : goal.returns
returns c =
    let e = c.args.self.now in
    let ks = counts_of e.points.now in
    let t = table_of e.table.now in
    let n = c.count.result in
    let p = partner e.side t c.args.i in
    let is : c.sum.result ≡ sum (map (λ j. truth (p j)) (range_with_len 0 n)) =
    sum_from_yields_List c.map.result c.sum.result c.sum.ensures.ran
    (YieldsList-from_map _ (λ j. truth (p j)) (YieldsList-from_range 0 n n c.map.ensures.source (omega arith)) c.map.ensures.closure (λ x r q k. search rules)) in
    let all : n ≡ count ks (far e.side t) = c.count.ensures.value ∙ ap (count ks) c.far.ensures in
    record {
      value = support_length ks e.side t c.args.i c.sum.result (is ∙ sum_truths p (range_with_len 0 n) ∙ ap (λ m. length (filter p (range_with_len 0 m))) all);
      bound = omega (arith, few_truths p n, c.count.ensures.bound);
    }
