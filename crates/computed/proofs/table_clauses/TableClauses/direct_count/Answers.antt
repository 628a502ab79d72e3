use Rattle.std.proofs.Common.{◌≡◌, ℕ, ◌^◌, ◌≤◌, map, length, sum, vec_items, ap, ◌∙◌, arith, rules}
use Rattle.std.specs.List.{range_with_len, flat_map}
use Rattle.std.proofs.lemmas.Iterator.{YieldsList-from_map, YieldsList-from_range}
use Rattle.std.proofs.lemmas.Iterator.Consumers.{sum_from_yields_List, fits_from_yields_list}
use Rattle.theory.specs.Encodings.{barred_with}
use Rattle.theory.specs.Network.{Table}
use Rattle.theory.specs.Numbering.{count}
use Rattle.network.specs.declared.points.PointList.{PointList}
use Rattle.network.specs.Points.{counts_of}
use Rattle.network.specs.Tables.{table_of}
use Rattle.network.proofs.Properness.{few_values}
use Rattle.computed.proofs.Kept.{barred_length}
use Rattle.computed.proofs.Measured.{count_few, sum_lengths}
use Rattle.computed.proofs.table_clauses.TableClauses.direct_count.Goals as goal

-- how many values are barred beside a value
abbrev barred : PointList → Table → ℕ → ℕ
barred ps t i = length (barred_with (counts_of ps) t i)

few : (ps : PointList) (t : Table) (n : ℕ) → n ≤ 16 → sum (map (barred ps t) (range_with_len 0 n)) ≤ 256
few ps t n e =
    omega (arith, count_few (barred ps t) 16 0 n (λ i. omega (arith, barred_length (counts_of ps) t i, few_values (vec_items ps.points) t.high)))

pub sum-requires-clause-fits : goal.sum-requires-clause-fits
sum-requires-clause-fits c =
    let n = c.count.result in
    let t = table_of c.args.self.now.table.now in
    fits_from_yields_list c.map.result (2 ^ 64)
    (YieldsList-from_map _ (barred c.args.self.now.points.now t) (YieldsList-from_range 0 n n c.map.ensures.source (omega arith)) c.map.ensures.closure (λ x r q k. search rules))
    (omega (arith, few c.args.self.now.points.now t n c.count.ensures.bound))

pub returns : goal.returns
returns c =
    let n = c.count.result in
    let ks = counts_of c.args.self.now.points.now in
    let t = table_of c.args.self.now.table.now in
    let is : c.sum.result ≡ sum (map (barred c.args.self.now.points.now t) (range_with_len 0 n)) =
    sum_from_yields_List c.map.result c.sum.result c.sum.ensures.ran
    (YieldsList-from_map _ (barred c.args.self.now.points.now t) (YieldsList-from_range 0 n n c.map.ensures.source (omega arith)) c.map.ensures.closure (λ x r q k. search rules)) in
    record {
      value =
          is ∙ sum_lengths (barred_with ks t) (range_with_len 0 n) ∙
          ap (λ m. length (flat_map (barred_with ks t) (range_with_len 0 m))) (c.count.ensures.value ∙ ap (count ks) c.low.ensures);
      bound = omega (arith, few c.args.self.now.points.now t n c.count.ensures.bound);
    }
