use Rattle.std.proofs.Common.{◌≡◌, ℕ, ◌^◌, ◌*◌, ◌≤◌, map, length, sum, vec_items, ap, ◌∙◌, arith, rules}
use Rattle.std.specs.List.{range_with_len, flat_map}
use Rattle.std.proofs.lemmas.Iterator.{YieldsList-from_map, YieldsList-from_range}
use Rattle.std.proofs.lemmas.Iterator.Consumers.{sum_from_yields_List, fits_from_yields_list}
use Rattle.theory.specs.Encodings.{not_two}
use Rattle.network.specs.declared.points.PointList.{PointList}
use Rattle.network.specs.Points.{counts_of}
use Rattle.network.proofs.Lookups.{length_counts}
use Rattle.network.proofs.Properness.{few_values}
use Rattle.computed.proofs.Measured.{count_few, sum_lengths}
use Rattle.computed.proofs.Pairs.{few_not_two}
use Rattle.computed.proofs.point_pairs.at_most_one_count.Goals as goal

-- how many pairs a point has
abbrev pairs : PointList → ℕ → ℕ
pairs ps p = length (not_two (counts_of ps) p)

few : (ps : PointList) (n : ℕ) → n ≡ length (counts_of ps) → sum (map (pairs ps) (range_with_len 0 n)) ≤ 120 * 48
few ps n e =
    omega (
      arith,
      count_few (pairs ps) 120 0 n (λ p. few_not_two (counts_of ps) p (few_values (vec_items ps.points) p)),
      length_counts (vec_items ps.points),
      ps.within,
    )

pub sum-requires-clause-fits : goal.sum-requires-clause-fits
sum-requires-clause-fits c =
    let n = c.len.result in
    fits_from_yields_list c.map.result (2 ^ 64)
    (YieldsList-from_map _ (pairs c.args.points.now) (YieldsList-from_range 0 n n c.map.ensures.source (omega arith)) c.map.ensures.closure (λ x r q k. search rules))
    (omega (arith, few c.args.points.now n c.len.ensures))

pub returns : goal.returns
returns c =
    let n = c.len.result in
    let is : c.sum.result ≡ sum (map (pairs c.args.points.now) (range_with_len 0 n)) =
    sum_from_yields_List c.map.result c.sum.result c.sum.ensures.ran
    (YieldsList-from_map _ (pairs c.args.points.now) (YieldsList-from_range 0 n n c.map.ensures.source (omega arith)) c.map.ensures.closure (λ x r q k. search rules)) in
    let f = not_two (counts_of c.args.points.now) in
    record {
      value = is ∙ sum_lengths f (range_with_len 0 n) ∙ ap (λ m. length (flat_map f (range_with_len 0 m))) c.len.ensures;
      bound = omega (arith, few c.args.points.now n c.len.ensures);
    }
