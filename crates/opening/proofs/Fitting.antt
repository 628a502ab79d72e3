-- The clauses of a network within the bounds are fit.
use Rattle.std.proofs.Common.{◌≡◌, ℕ, ◌*◌, ◌<◌, ◌≤◌, Bool, not, List, [], ◌++◌, length, get_or, filter, sym, subst, ⊎_elim, arith}
use Rattle.std.proofs.lemmas.List.FromFn.{length-map-range_with_len}
use Rattle.theory.specs.declared.Encoding.{Encoding}
use Rattle.theory.specs.declared.Encoding.TheVariants.{Direct, Support, MinimalSupport}
use Rattle.theory.specs.declared.Side.{Side}
use Rattle.theory.specs.declared.Side.TheVariants.{Lower, Higher}
use Rattle.theory.specs.Encodings.{not_both, at_least_one, at_most_one, barred_with, half, better_side, support_clause, table_clauses, clauses}
use Rattle.theory.specs.Lists.{◌∈◌}
use Rattle.theory.specs.Literals.{is_in}
use Rattle.theory.specs.Network.{Table, Network, allows, near, far, partner}
use Rattle.theory.specs.Numbering.{count, offset, total, number, values}
use Rattle.theory.proofs.Clauses.{OneForm, at_least, at_most, Form, one, support, form_of, of_form}
use Rattle.theory.proofs.Families.{support_within}
use Rattle.theory.proofs.Members.{in_left, in_right, in_append, in_at, in_joined, in_kept, in_map, in_upto}
use Rattle.theory.proofs.Numbering.{number_below, same_place}
use Rattle.clause_store.specs.Fitness.{most_literals, FitClause}
use Rattle.computed.specs.Sizes.{of_tables}
use Rattle.opening.specs.Bounded.{Bounded, AlwaysFit}
use Rattle.opening.proofs.Amounts.{support_length, few_clauses}
use Rattle.opening.proofs.Singles.{Single, counting_distinct, kept_distinct, in_single, single_apart}

-- a clause of 1 to 64 literals that has no value twice
record Shaped (c : List ℕ) : Type 0 where
  some : 0 < length c
  short : length c ≤ most_literals
  single : Single c

-- such a clause of the values below n is fit
shaped_fit : (n : ℕ) (c : List ℕ) → Shaped c → ((l : ℕ) → l ∈ c → l < 2 * n) → FitClause n c
shaped_fit n c s below =
    record {
      some = s.some;
      short = s.short;
      below = λ k h. below (get_or c k 0) (in_at c 0 k h);
      apart = single_apart c s.single;
    }

-- two values of different numbers are not both in
pair_shaped : (ks : List ℕ) (p i q j : ℕ) → (number ks p i ≡ number ks q j → ⊥) → Shaped (not_both ks p i q j)
pair_shaped ks p i q j ne =
    record {
      some = omega arith;
      short = omega arith;
      single = (λ m h e. ⊎_elim (λ d. ne (omega arith)) (λ x. x) h, (λ m h e. h, tt));
    }

module _ (net : Network) (within : Bounded net) where
  abbrev ks : List ℕ
  ks = net.counts

  -- the two ends of a table are different points
  ends_differ : (s : Side) (t : Table) → t ∈ net.tables → near s t ≡ far s t → ⊥
  ends_differ Lower t it e = omega (arith, (within.proper.joins t it).0)
  ends_differ Higher t it e = omega (arith, (within.proper.joins t it).0)

  support_single : (s : Side) (t : Table) → t ∈ net.tables → (i : ℕ) → i < count ks (near s t) → Single (support_clause ks s t i)
  support_single s t it i h = (
    λ m k e.
        let q = far s t in
        let r = in_map (λ j. is_in (number ks q j)) (filter (partner s t i) (values ks q)) m k in
        let b = in_upto (count ks q) r.0 (in_kept (partner s t i) (values ks q) r.0 r.1).0 in
        ends_differ s t it (same_place ks (near s t) i q r.0 h b (omega (arith, r.2))).0,
    in_single (offset ks (far s t)) (filter (partner s t i) (values ks (far s t)))
        (kept_distinct (partner s t i) (values ks (far s t)) (counting_distinct 0 (count ks (far s t)))),
  )

  one_shaped : (c : List ℕ) → OneForm ks c → Shaped c
  one_shaped c (at_least p h) =
      let n = length-map-range_with_len (λ i. is_in (number ks p i)) 0 (count ks p) in
      record {
        some = omega (arith, within.proper.valued p h);
        short = omega (arith, within.few_values p);
        single = in_single (offset ks p) (values ks p) (counting_distinct 0 (count ks p));
      }
  one_shaped c (at_most p i j h k) = pair_shaped ks p i p j (λ e. omega arith)

  form_shaped : (c : List ℕ) → Form net c → Shaped c
  form_shaped c (one f) = one_shaped c f
  form_shaped c (support s t it i h) =
      record {
        some = omega arith;
        short = omega (arith, support_length net within s t i, within.few_values (far s t));
        single = support_single s t it i h;
      }

  -- the clauses of the support encoding
  support_fit : (c : List ℕ) → c ∈ clauses Support net → FitClause (total ks) c
  support_fit c ic = shaped_fit (total ks) c (form_shaped c (form_of net c ic)) (support_within net [] c ic)

  -- a pair that a table does not allow
  pair_fit : (t : Table) → t ∈ net.tables → (i j : ℕ) → i < count ks t.low → j < count ks t.high → FitClause (total ks) (not_both ks t.low i t.high j)
  pair_fit t it i j h k =
      shaped_fit (total ks) (not_both ks t.low i t.high j)
      (pair_shaped ks t.low i t.high j (λ e. ends_differ Lower t it (same_place ks t.low i t.high j h k e).0))
      (λ l il. ⊎_elim (λ e. omega (arith, number_below ks t.low i h)) (λ b. ⊎_elim (λ e. omega (arith, number_below ks t.high j k)) (λ x. absurd x) b) il)

  half_fit : (s : Side) (t : Table) → t ∈ net.tables → (c : List ℕ) → c ∈ half ks s t → FitClause (total ks) c
  half_fit s t it c ic =
      let r = in_map (support_clause ks s t) (values ks (near s t)) c ic in
      let i = r.0 in
      subst (FitClause (total ks)) (sym r.2)
      (support_fit (support_clause ks s t i) (of_form net (support_clause ks s t i) (support s t it i (in_upto (count ks (near s t)) i r.1))))

  table_fit : (e : Encoding) (t : Table) → t ∈ net.tables → (c : List ℕ) → c ∈ table_clauses e ks t → FitClause (total ks) c
  table_fit Direct t it c ic =
      let vs = values ks t.high in
      let r = in_joined (barred_with ks t) (values ks t.low) c ic in
      let test : ℕ → Bool = λ j. not (allows t r.0 j) in
      let q = in_map (not_both ks t.low r.0 t.high) (filter test vs) c r.2 in
      subst (FitClause (total ks)) (sym q.2)
      (pair_fit t it r.0 q.0 (in_upto (count ks t.low) r.0 r.1) (in_upto (count ks t.high) q.0 (in_kept test vs q.0 q.1).0))
  table_fit Support t it c ic = ⊎_elim (half_fit Lower t it c) (half_fit Higher t it c) (in_append (half ks Lower t) (half ks Higher t) c ic)
  table_fit MinimalSupport t it c ic = half_fit (better_side ks t) t it c ic

  clause_fit : (e : Encoding) (c : List ℕ) → c ∈ clauses e net → FitClause (total ks) c
  clause_fit e c ic =
      ⊎_elim (λ i. support_fit c (in_left (at_least_one ks) (at_most_one ks ++ of_tables Support net) c i))
      (λ i. ⊎_elim (λ i. support_fit c (in_right (at_least_one ks) (at_most_one ks ++ of_tables Support net) c (in_left (at_most_one ks) (of_tables Support net) c i)))
      (λ i. let r = in_joined (table_clauses e ks) net.tables c i in table_fit e r.0 r.1 c r.2)
      (in_append (at_most_one ks) (of_tables e net) c i))
      (in_append (at_least_one ks) (at_most_one ks ++ of_tables e net) c ic)

pub always_fit : AlwaysFit
always_fit e net within =
    record { few = few_clauses net within e; each = λ i h. clause_fit net within e (get_or (clauses e net) i []) (in_at (clauses e net) [] i h) }
