-- How many clauses a network within the bounds has, and how many literals a support clause.
use Rattle.std.proofs.Common.{ℕ, ◌+◌, ◌≤◌, List, length, filter, mul-le-mul_right, arith}
use Rattle.std.proofs.lemmas.List.FromFn.{length-range_with_len, length-map-range_with_len}
use Rattle.std.proofs.lemmas.List.{length-append, length-map}
use Rattle.theory.specs.declared.Encoding.{Encoding}
use Rattle.theory.specs.declared.Encoding.TheVariants.{Direct, Support, MinimalSupport}
use Rattle.theory.specs.declared.Side.{Side}
use Rattle.theory.specs.declared.Side.TheVariants.{Lower, Higher}
use Rattle.theory.specs.Encodings.{some_clause, at_least_one, not_two, at_most_one, barred_with, half, better_side, support_clause, table_clauses, clauses}
use Rattle.theory.specs.Literals.{is_in}
use Rattle.theory.specs.Network.{Table, Network, near, far, partner}
use Rattle.theory.specs.Numbering.{count, number, points, values}
use Rattle.theory.proofs.Members.{kept_both, joined_few}
use Rattle.clause_store.specs.Fitness.{most_clauses}
use Rattle.computed.specs.Sizes.{of_tables}
use Rattle.computed.proofs.Kept.{barred_length}
use Rattle.computed.proofs.Measured.{half_length}
use Rattle.computed.proofs.Pairs.{twice_not_two}
use Rattle.computed.proofs.ThreeParts.{three_lengths}
use Rattle.opening.specs.Bounded.{Bounded}

module _ (net : Network) (within : Bounded net) where
  abbrev ks : List ℕ
  ks = net.counts

  -- a support clause has at most one literal more than the other end has values
  pub support_length : (s : Side) (t : Table) (i : ℕ) → length (support_clause ks s t i) ≤ count ks (far s t) + 1
  support_length s t i =
      let q = far s t in
      omega (
        arith,
        length-map (filter (partner s t i) (values ks q)) (λ j. is_in (number ks q j)),
        kept_both (partner s t i) (values ks q),
        length-range_with_len 0 (count ks q),
      )

  half_most : (s : Side) (t : Table) → length (half ks s t) ≤ 16
  half_most s t = omega (arith, half_length ks s t, within.few_values (near s t))

  barred_most : (t : Table) (i : ℕ) → length (barred_with ks t i) ≤ 16
  barred_most t i = omega (arith, barred_length ks t i, within.few_values t.high)

  two_most : (p : ℕ) → length (not_two ks p) ≤ 128
  two_most p = omega (arith, twice_not_two ks p, within.few_values p, mul-le-mul_right (count ks p) (within.few_values p))

  table_most : (e : Encoding) (t : Table) → length (table_clauses e ks t) ≤ 256
  table_most Direct t =
      omega (arith, joined_few (barred_with ks t) (values ks t.low) 16 (barred_most t), length-range_with_len 0 (count ks t.low), within.few_values t.low)
  table_most Support t = omega (arith, length-append (half ks Lower t) (half ks Higher t), half_most Lower t, half_most Higher t)
  table_most MinimalSupport t = omega (arith, half_most (better_side ks t) t)

  pub few_clauses : (e : Encoding) → length (clauses e net) ≤ most_clauses
  few_clauses e =
      omega (
        arith,
        three_lengths (at_least_one ks) (at_most_one ks) (of_tables e net),
        length-map-range_with_len (some_clause ks) 0 (length ks),
        joined_few (not_two ks) (points ks) 128 two_most,
        length-range_with_len 0 (length ks),
        within.few_points,
        joined_few (table_clauses e ks) net.tables 256 (table_most e),
        within.few_tables,
      )
