-- How many words the clauses of a network need at the most.
use Rattle.std.proofs.Common.{ℕ, ◌+◌, ◌-◌, ◌*◌, ◌^◌, ◌<◌, ◌≤◌, Bool, not, List, [], ◌∷◌, ◌++◌, map, length, filter, sym, refl, subst, inl, inr, ⊎_elim, arith}
use Rattle.std.specs.List.{range_with_len, flat_map}
use Rattle.std.proofs.lemmas.List.FromFn.{length-range_with_len, length-map-range_with_len}
use Rattle.std.proofs.lemmas.List.{length-append, length-map}
use Rattle.theory.specs.declared.Encoding.{Encoding}
use Rattle.theory.specs.declared.Encoding.TheVariants.{Direct, Support, MinimalSupport}
use Rattle.theory.specs.declared.Side.{Side}
use Rattle.theory.specs.declared.Side.TheVariants.{Lower, Higher}
use Rattle.theory.specs.Encodings.{some_clause, not_both, at_least_one, not_with_later, not_two, at_most_one, barred_with, support_clause, half, better_side, table_clauses, clauses}
use Rattle.theory.specs.Lists.{◌∈◌}
use Rattle.theory.specs.Literals.{is_in}
use Rattle.theory.specs.Network.{Table, Network, near, far, partner, allows}
use Rattle.theory.specs.Numbering.{count, number, points, values}
use Rattle.theory.proofs.Members.{in_append, in_map, in_joined, kept_both, joined_few}
use Rattle.books.specs.Stored.{row, words_needed}

-- a filter keeps no more than there is
kept_few : {A : Type 0} (p : A → Bool) (xs : List A) → length (filter p xs) ≤ length xs
kept_few p xs = omega (arith, kept_both p xs)

-- clauses of at most 17 literals each
abbrev Short : List (List ℕ) → Type 0
Short cs = (c : List ℕ) → c ∈ cs → length c ≤ 17

row_few : (cs : List (List ℕ)) → Short cs → length (row cs) ≤ length cs * 17
row_few [] s = omega arith
row_few (c ∷ cs) s = omega (arith, length-append c (row cs), row_few cs (λ d i. s d (inr i)), s c (inl refl))

short_append : (cs ds : List (List ℕ)) → Short cs → Short ds → Short (cs ++ ds)
short_append cs ds s t c i = ⊎_elim (s c) (t c) (in_append cs ds c i)

short_joined : {A : Type 0} (f : A → List (List ℕ)) (xs : List A) → ((x : A) → Short (f x)) → Short (flat_map f xs)
short_joined f xs s c i = let r = in_joined f xs c i in s r.0 c r.2

short_map : {A : Type 0} (f : A → List ℕ) (xs : List A) → ((x : A) → length (f x) ≤ 17) → Short (map f xs)
short_map f xs s c i = let r = in_map f xs c i in subst (λ d. length d ≤ 17) (sym r.2) (s r.0)

module _ (ks : List ℕ) (few : (p : ℕ) → count ks p ≤ 16) where
  values_few : (p : ℕ) → length (values ks p) ≤ 16
  values_few p = omega (arith, length-range_with_len 0 (count ks p), few p)

  some_short : (p : ℕ) → length (some_clause ks p) ≤ 17
  some_short p = omega (arith, length-map (values ks p) (λ i. is_in (number ks p i)), values_few p)

  support_short : (s : Side) (t : Table) (i : ℕ) → length (support_clause ks s t i) ≤ 17
  support_short s t i =
      omega (arith, length-map (filter (partner s t i) (values ks (far s t))) (λ j. is_in (number ks (far s t) j)), kept_few (partner s t i) (values ks (far s t)), values_few (far s t))

  half_short : (s : Side) (t : Table) → Short (half ks s t)
  half_short s t = short_map (support_clause ks s t) (values ks (near s t)) (support_short s t)

  half_few : (s : Side) (t : Table) → length (half ks s t) ≤ 16
  half_few s t = omega (arith, length-map (values ks (near s t)) (support_clause ks s t), values_few (near s t))

  later_few : (p i : ℕ) → length (not_with_later ks p i) ≤ 16
  later_few p i = omega (arith, length-map-range_with_len (not_both ks p i p) (i + 1) (count ks p - (i + 1)), few p)

  two_few : (p : ℕ) → length (not_two ks p) ≤ 256
  two_few p = omega (arith, joined_few (not_with_later ks p) (values ks p) 16 (later_few p), values_few p)

  barred_few : (t : Table) (i : ℕ) → length (barred_with ks t i) ≤ 16
  barred_few t i =
      omega (arith, length-map (filter (λ j. not (allows t i j)) (values ks t.high)) (not_both ks t.low i t.high), kept_few (λ j. not (allows t i j)) (values ks t.high), values_few t.high)

  table_few : (e : Encoding) (t : Table) → length (table_clauses e ks t) ≤ 256
  table_few Direct t = omega (arith, joined_few (barred_with ks t) (values ks t.low) 16 (barred_few t), values_few t.low)
  table_few Support t = omega (arith, length-append (half ks Lower t) (half ks Higher t), half_few Lower t, half_few Higher t)
  table_few MinimalSupport t = omega (arith, half_few (better_side ks t) t)

  table_short : (e : Encoding) (t : Table) → Short (table_clauses e ks t)
  table_short Direct t =
      short_joined (barred_with ks t) (values ks t.low)
      (λ i. short_map (not_both ks t.low i t.high) (filter (λ j. not (allows t i j)) (values ks t.high)) (λ j. omega arith))
  table_short Support t = short_append (half ks Lower t) (half ks Higher t) (half_short Lower t) (half_short Higher t)
  table_short MinimalSupport t = half_short (better_side ks t) t

-- a network within the bounds needs few words
pub few_words :
    (e : Encoding) (net : Network) → ((p : ℕ) → count net.counts p ≤ 16) → length net.counts ≤ 48 → length net.tables ≤ 64 →
    words_needed (clauses e net) < 2 ^ 32
few_words e net few ps ts =
    omega (
      arith,
      row_few (clauses e net) short,
      length-append (at_least_one ks) (at_most_one ks ++ tabled),
      length-append (at_most_one ks) tabled,
      length-map-range_with_len (some_clause ks) 0 (length ks),
      joined_few (not_two ks) (points ks) 256 (two_few ks few),
      length-range_with_len 0 (length ks),
      joined_few (table_clauses e ks) net.tables 256 (table_few ks few e),
    )
  where
    ks : List ℕ
    ks = net.counts

    tabled : List (List ℕ)
    tabled = flat_map (table_clauses e net.counts) net.tables

    short : Short (clauses e net)
    short =
        short_append (at_least_one ks) (at_most_one ks ++ tabled) (short_map (some_clause ks) (points ks) (some_short ks few))
        (short_append (at_most_one ks) tabled
        (short_joined (not_two ks) (points ks) (λ p. short_joined (not_with_later ks p) (values ks p) (λ i. short_map (not_both ks p i p) (range_with_len (i + 1) (count ks p - (i + 1))) (λ j. omega arith))))
        (short_joined (table_clauses e ks) net.tables (table_short ks few e)))

-- so does a half of a table
pub few_half_words : (s : Side) (ks : List ℕ) (t : Table) → ((p : ℕ) → count ks p ≤ 16) → words_needed (half ks s t) < 2 ^ 32
few_half_words s ks t few = omega (arith, row_few (half ks s t) (half_short ks few s t), half_few ks few s t)
