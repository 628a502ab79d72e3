-- Which clauses the support encoding has.
use Rattle.std.proofs.Common.{ℕ, ◌+◌, ◌-◌, ◌<◌, List, ◌++◌, length, sym, subst, ⊎_elim, arith}
use Rattle.std.specs.List.{range_with_len, flat_map}
use Rattle.theory.specs.declared.Encoding.TheVariants.{Support}
use Rattle.theory.specs.declared.Side.{Side}
use Rattle.theory.specs.declared.Side.TheVariants.{Lower, Higher}
use Rattle.theory.specs.Lists.{◌∈◌}
use Rattle.theory.specs.Numbering.{count, points, values}
use Rattle.theory.specs.Network.{Table, Network, near}
use Rattle.theory.specs.Encodings.{some_clause, not_both, not_with_later, not_two, at_least_one, at_most_one, support_clause, half, table_clauses, clauses}
use Rattle.theory.proofs.Members.{in_left, in_right, in_append, in_map, map_in, in_joined, joined_in, in_counting, counting_in, upto_in, in_upto}
use Rattle.theory.proofs.Numbering.{point_below}

-- the forms of a clause that says that exactly one value of a point is in
pub data OneForm (ks : List ℕ) : List ℕ → Type 0 where
  at_least : (p : ℕ) → p < length ks → OneForm ks (some_clause ks p)
  at_most : (p i j : ℕ) → i < j → j < count ks p → OneForm ks (not_both ks p i p j)

-- the forms of a clause of the support encoding
pub data Form (net : Network) : List ℕ → Type 0 where
  one : {c : List ℕ} → OneForm net.counts c → Form net c
  support :
      (s : Side) (t : Table) → t ∈ net.tables → (i : ℕ) → i < count net.counts (near s t) →
      Form net (support_clause net.counts s t i)

module _ (ks : List ℕ) where
  least_form : (c : List ℕ) → c ∈ at_least_one ks → OneForm ks c
  least_form c h =
      let r = in_map (some_clause ks) (points ks) c h in
      subst (OneForm ks) (sym r.2) (at_least r.0 (in_upto (length ks) r.0 r.1))

  later_form : (p i : ℕ) (c : List ℕ) → c ∈ not_with_later ks p i → OneForm ks c
  later_form p i c h =
      let r = in_map (not_both ks p i p) (range_with_len (i + 1) (count ks p - (i + 1))) c h in
      let b = counting_in (count ks p - (i + 1)) (i + 1) r.0 r.1 in
      subst (OneForm ks) (sym r.2) (at_most p i r.0 (omega arith) (omega arith))

  most_form : (c : List ℕ) → c ∈ at_most_one ks → OneForm ks c
  most_form c h =
      let r = in_joined (not_two ks) (points ks) c h in
      let s = in_joined (not_with_later ks r.0) (values ks r.0) c r.2 in
      later_form r.0 s.0 c s.2

  form_least : (p : ℕ) → p < length ks → some_clause ks p ∈ at_least_one ks
  form_least p h = map_in (some_clause ks) (points ks) p (upto_in (length ks) p h)

  form_most : (p i j : ℕ) → i < j → j < count ks p → not_both ks p i p j ∈ at_most_one ks
  form_most p i j h k =
      joined_in (not_two ks) (points ks) p (not_both ks p i p j) (upto_in (length ks) p (point_below ks p j k))
      (joined_in (not_with_later ks p) (values ks p) i (not_both ks p i p j) (upto_in (count ks p) i (omega arith))
      (map_in (not_both ks p i p) (range_with_len (i + 1) (count ks p - (i + 1))) j (in_counting (count ks p - (i + 1)) (i + 1) j (omega arith) (omega arith))))

module _ (net : Network) where
  abbrev ks : List ℕ
  ks = net.counts

  abbrev of_tables : List (List ℕ)
  of_tables = flat_map (table_clauses Support ks) net.tables

  half_form : (s : Side) (t : Table) → t ∈ net.tables → (c : List ℕ) → c ∈ half ks s t → Form net c
  half_form s t it c h =
      let r = in_map (support_clause ks s t) (values ks (near s t)) c h in
      subst (Form net) (sym r.2) (support s t it r.0 (in_upto (count ks (near s t)) r.0 r.1))

  table_form : (t : Table) → t ∈ net.tables → (c : List ℕ) → c ∈ table_clauses Support ks t → Form net c
  table_form t it c h = ⊎_elim (half_form Lower t it c) (half_form Higher t it c) (in_append (half ks Lower t) (half ks Higher t) c h)

  pub form_of : (c : List ℕ) → c ∈ clauses Support net → Form net c
  form_of c h =
      ⊎_elim (λ i. one (least_form ks c i))
      (λ h. ⊎_elim (λ i. one (most_form ks c i))
      (λ i. let r = in_joined (table_clauses Support ks) net.tables c i in table_form r.0 r.1 c r.2)
      (in_append (at_most_one ks) of_tables c h))
      (in_append (at_least_one ks) (at_most_one ks ++ of_tables) c h)

  half_table : (s : Side) (t : Table) (c : List ℕ) → c ∈ half ks s t → c ∈ table_clauses Support ks t
  half_table Lower t c h = in_left (half ks Lower t) (half ks Higher t) c h
  half_table Higher t c h = in_right (half ks Lower t) (half ks Higher t) c h

  pub of_form : (c : List ℕ) → Form net c → c ∈ clauses Support net
  of_form c (one (at_least p h)) =
      in_left (at_least_one ks) (at_most_one ks ++ of_tables) (some_clause ks p) (form_least ks p h)
  of_form c (one (at_most p i j h k)) =
      in_right (at_least_one ks) (at_most_one ks ++ of_tables) (not_both ks p i p j)
      (in_left (at_most_one ks) of_tables (not_both ks p i p j) (form_most ks p i j h k))
  of_form c (support s t it i h) =
      let d = support_clause ks s t i in
      in_right (at_least_one ks) (at_most_one ks ++ of_tables) d
      (in_right (at_most_one ks) of_tables d
      (joined_in (table_clauses Support ks) net.tables t d it
      (half_table s t d (map_in (support_clause ks s t) (values ks (near s t)) i (upto_in (count ks (near s t)) i h)))))
