-- What is known after a head, some points and some tables, and what may come next there.
use Rattle.std.proofs.Common.{◌≡◌, ℕ, zero, suc, ◌+◌, ◌-◌, ◌<◌, ◌≤◌, Bool, true, false, cond, ◌&&◌, eqb, ltb, List, [], ◌∷◌, ◌++◌, map, length, set, Some, None, Option, sym, refl, ap, ◌∙◌, subst, inl, inr, ⊎_elim, add-zero, arith}
use mathlib.Core.Bool.{false≢true}
use Rattle.std.proofs.lemmas.List.{length-map, length_push, map_push, get_or_push, set_at}
use Rattle.std.proofs.lemmas.Bool.{ltb-true, ltb-false, eqb-true, lt-ltb, le-ltb, eq-eqb, and_parts, and_from, or_cases, or_left, or_right, cond-true, cond-false, cases_Bool}
use Rattle.theory.specs.Lists.{◌∈◌}
use Rattle.theory.specs.Network.{Table as TableMeaning, allows}
use Rattle.theory.specs.Numbering.{count}
use Rattle.network.specs.declared.refusal.Refusal.{Refusal}
use Rattle.network.specs.declared.refusal.Refusal.TheVariants.{Misplaced, MissingPoint, MissingValue, RepeatedPair, WrongCount}
use Rattle.network.specs.Bounds.{most_values}
use Rattle.network.specs.Points.{Entry, values_of}
use Rattle.network.specs.Tables.{allowing}
use Rattle.netfile.specs.declared.record.Kind.{Kind}
use Rattle.netfile.specs.declared.record.Kind.TheVariants.{Head, Point, Table, Pair, End}
use Rattle.netfile.specs.declared.record.Expectation.{Expectation}
use Rattle.netfile.specs.declared.record.Expectation.TheVariants.{Points, Tables, Pairs}
use Rattle.netfile.specs.Bytes.{code_of}
use Rattle.netfile.specs.Records.{Item, head, point, table, pair, end, kind_of_item}
use Rattle.netfile.specs.Reading.{State, start, table_or_end, may_come, has_kind, empty_table, last_table, objection_to, objection, allow_last, after}
use Rattle.netfile.specs.Listings.{TableListing, EntryWithin, pair_count, listed_table}
use Rattle.netfile.proofs.Fronts.{code_once}
use Rattle.netfile.proofs.Grids.{last_of, allowing_listed, in_from_allows, allows_from_in}

-- what is expected after some of p points, and after some tables
abbrev pub expect_of : ℕ → List Entry → List TableListing → Expectation
expect_of p es [] = cond (ltb (length es) p) Points Tables
expect_of p es (t ∷ ts) = Pairs

-- what is known after a head that announces p points and n tables, the points es, and the tables ts with their pairs
abbrev pub midway : ℕ → ℕ → List Entry → List TableListing → State
midway p n es ts =
    record { expect = expect_of p es ts; announced_points = p; announced_tables = n; points = es; tables = map listed_table ts; pairs = pair_count ts }

-- the kinds of record that may come there
abbrev coming : ℕ → ℕ → List Entry → List TableListing → List Kind
coming p n es ts = may_come (expect_of p es ts) (midway p n es ts)

-- what is known where the tables end with t
abbrev ending : ℕ → ℕ → List Entry → List TableListing → TableListing → State
ending p n es ts t =
    record {
      expect = Pairs;
      announced_points = p;
      announced_tables = n;
      points = es;
      tables = map listed_table ts ++ listed_table t ∷ [];
      pairs = pair_count ts + length t.pairs;
    }

-- a table with no pairs listed
abbrev pub bare : ℕ → ℕ → TableListing
bare l h = record { low = l; high = h; pairs = [] }

-- the table with these pairs listed
abbrev pub listing : TableListing → List (ℕ × ℕ) → TableListing
listing t ps = record { low = t.low; high = t.high; pairs = ps }

-- the table with one more pair listed
abbrev pub with_one : TableListing → ℕ × ℕ → TableListing
with_one t x = listing t (t.pairs ++ x ∷ [])

pub in_from_kind : (ks : List Kind) (k : Kind) → has_kind ks k ≡ true → k ∈ ks
in_from_kind [] k h = absurd (false≢true h)
in_from_kind (x ∷ ks) k h =
    ⊎_elim (λ e. inl (same (eqb-true (code_of x) (code_of k) e))) (λ e. inr (in_from_kind ks k e))
    (or_cases (eqb (code_of x) (code_of k)) (has_kind ks k) h)
  where
    same : code_of x ≡ code_of k → k ≡ x
    same e = sym (code_once x k e)

pub kind_from_in : (ks : List Kind) (k : Kind) → k ∈ ks → has_kind ks k ≡ true
kind_from_in [] k h = absurd h
kind_from_in (x ∷ ks) k (inl e) = or_left (eqb (code_of x) (code_of k)) (has_kind ks k) (eq-eqb (code_of x) (code_of k) (ap code_of (sym e)))
kind_from_in (x ∷ ks) k (inr h) = or_right (eqb (code_of x) (code_of k)) (has_kind ks k) (kind_from_in ks k h)

count_push : (ts : List TableListing) (t : TableListing) → pair_count (ts ++ t ∷ []) ≡ pair_count ts + length t.pairs
count_push [] t = omega arith
count_push (u ∷ ts) t = omega (arith, count_push ts t)

pub after_head : (p n : ℕ) → 1 ≤ p → after start (head p n) ≡ midway p n [] []
after_head p n h = rw (lt-ltb 0 p h)

module _ (p n : ℕ) (es : List Entry) where
  expect_push : (ts : List TableListing) (t : TableListing) → expect_of p es (ts ++ t ∷ []) ≡ Pairs
  expect_push [] t = refl
  expect_push (u ∷ ts) t = refl

  midway_push : (ts : List TableListing) (t : TableListing) → midway p n es (ts ++ t ∷ []) ≡ ending p n es ts t
  midway_push ts t = λ k.
      record {
        expect = expect_push ts t k;
        announced_points = p;
        announced_tables = n;
        points = es;
        tables = map_push listed_table ts t k;
        pairs = count_push ts t k;
      }

  pub after_point : (e : Entry) → after (midway p n es []) (point e) ≡ midway p n (es ++ e ∷ []) []
  after_point e = rw length_push

  pub after_table : (ts : List TableListing) (l h : ℕ) → after (midway p n es ts) (table l h) ≡ midway p n es (ts ++ bare l h ∷ [])
  after_table ts l h =
      (λ k.
      record {
        expect = Pairs;
        announced_points = p;
        announced_tables = n;
        points = es;
        tables = map listed_table ts ++ empty_table l h ∷ [];
        pairs = sym (add-zero (pair_count ts)) k;
      }) ∙
      sym (midway_push ts (bare l h))

  -- where the last table stands
  place_of_last : (ts : List TableListing) (t : TableListing) → length (map listed_table ts) ≡ length (map listed_table ts ++ listed_table t ∷ []) - 1
  place_of_last ts t = omega (arith, length_push (map listed_table ts) (listed_table t))

  last_is : (ts : List TableListing) (t : TableListing) → last_table (ending p n es ts t) ≡ listed_table t
  last_is ts t = get_or_push (map listed_table ts) (listed_table t) (empty_table 0 0) (length (ending p n es ts t).tables - 1) (place_of_last ts t)

  pub after_pair :
      (ts : List TableListing) (t : TableListing) (i j : ℕ) → i < most_values → j < most_values →
      after (midway p n es (ts ++ t ∷ [])) (pair i j) ≡ midway p n es (ts ++ with_one t (i, j) ∷ [])
  after_pair ts t i j h g =
      ap (λ s. after s (pair i j)) (midway_push ts t) ∙
      (λ k. record { expect = Pairs; announced_points = p; announced_tables = n; points = es; tables = tables k; pairs = pairs k }) ∙
      sym (midway_push ts (with_one t (i, j)))
    where
      at : ℕ
      at = length (map listed_table ts ++ listed_table t ∷ []) - 1

      allow : TableMeaning → TableMeaning
      allow u = record { low = u.low; high = u.high; rows = allowing u.rows i j }

      tables : allow_last (ending p n es ts t).tables i j ≡ map listed_table ts ++ listed_table (with_one t (i, j)) ∷ []
      tables =
          ap (λ u. set (map listed_table ts ++ listed_table t ∷ []) at (allow u)) (last_is ts t) ∙
          set_at (map listed_table ts) (listed_table t) [] (allow (listed_table t)) at (place_of_last ts t) ∙
          ap (λ rows. map listed_table ts ++ record { low = t.low; high = t.high; rows = rows } ∷ []) (allowing_listed t.pairs i j h g)

      pairs : pair_count ts + length t.pairs + 1 ≡ pair_count ts + length (t.pairs ++ (i, j) ∷ [])
      pairs = omega (arith, length_push t.pairs (i, j))

  -- where each kind of record may come: a point after some of the points, a table or the end after all of them, a pair after a table
  abbrev pub Awaited : List TableListing → Kind → Type 0
  Awaited ts Head = ⊥
  Awaited ts Point = (ts ≡ []) × (length es < p)
  Awaited ts Table = (p ≤ length es) × (length ts < n)
  Awaited ts Pair = (us : List TableListing) × (t : TableListing) × (ts ≡ us ++ t ∷ [])
  Awaited ts End = (p ≤ length es) × (n ≤ length ts)

  -- what may come after all the points, pairs apart, is awaited
  awaited_between : (ts : List TableListing) (k : Kind) → p ≤ length es → k ∈ table_or_end (midway p n es ts) → Awaited ts k
  awaited_between ts k h i = go (ltb (length (map listed_table ts)) n) refl i
    where
      go : (b : Bool) → ltb (length (map listed_table ts)) n ≡ b → k ∈ (cond b (Table ∷ []) (End ∷ [])) → Awaited ts k
      go true e (inl q) = subst (Awaited ts) (sym q) (h, omega (arith, ltb-true (length (map listed_table ts)) n e, length-map ts listed_table))
      go true e (inr f) = absurd f
      go false e (inl q) = subst (Awaited ts) (sym q) (h, omega (arith, ltb-false (length (map listed_table ts)) n e, length-map ts listed_table))
      go false e (inr f) = absurd f

  -- what may come is awaited, if tables come only after all the points
  awaited : (ts : List TableListing) (k : Kind) → (0 < length ts → p ≤ length es) → k ∈ coming p n es ts → Awaited ts k
  awaited [] k c i = go (ltb (length es) p) refl i
    where
      go : (b : Bool) → ltb (length es) p ≡ b → k ∈ may_come (cond b Points Tables) (midway p n es []) → Awaited [] k
      go true e (inl q) = subst (Awaited []) (sym q) (refl, ltb-true (length es) p e)
      go true e (inr f) = absurd f
      go false e i = awaited_between [] k (ltb-false (length es) p e) i
  awaited (t ∷ ts) k c (inl q) = subst (Awaited (t ∷ ts)) (sym q) (last_of t ts)
  awaited (t ∷ ts) k c (inr i) = awaited_between (t ∷ ts) k (c (omega arith)) i

  -- a table or the end may come after all the points
  comes_between : (ts : List TableListing) (k : Kind) → p ≤ length es → k ∈ table_or_end (midway p n es ts) → k ∈ coming p n es ts
  comes_between [] k h i = subst (λ b. k ∈ may_come (cond b Points Tables) (midway p n es [])) (sym (le-ltb (length es) p h)) i
  comes_between (t ∷ ts) k h i = inr i

  -- what is awaited may come
  comes : (ts : List TableListing) (k : Kind) → Awaited ts k → k ∈ coming p n es ts
  comes ts Head a = absurd a
  comes ts Point a =
      subst (λ e. Point ∈ may_come e (midway p n es ts))
      (sym (ap (expect_of p es) a.0 ∙ cond-true (ltb (length es) p) Points Tables (lt-ltb (length es) p a.1))) (inl refl)
  comes ts Table a =
      comes_between ts Table a.0
      (subst (λ b. Table ∈ (cond b (Table ∷ []) (End ∷ [])))
      (sym (lt-ltb (length (map listed_table ts)) n (omega (arith, a.1, length-map ts listed_table)))) (inl refl))
  comes ts Pair a = subst (λ e. Pair ∈ may_come e (midway p n es ts)) (sym (ap (expect_of p es) a.2 ∙ expect_push a.0 a.1)) (inl refl)
  comes ts End a =
      comes_between ts End a.0
      (subst (λ b. End ∈ (cond b (Table ∷ []) (End ∷ [])))
      (sym (le-ltb (length (map listed_table ts)) n (omega (arith, a.1, length-map ts listed_table)))) (inl refl))

-- a pair of values of the table's points that the table does not list yet
abbrev pub Fresh : List ℕ → TableListing → ℕ × ℕ → Type 0
Fresh ks t x = (x.0 < count ks t.low) × (x.1 < count ks t.high) × (x ∈ t.pairs → ⊥)

-- points have no more values than the bound
abbrev pub Few : List ℕ → Type 0
Few ks = (k : ℕ) → count ks k ≤ most_values

pub few_values : (es : List Entry) → ((e : Entry) → e ∈ es → EntryWithin e) → Few (values_of es)
few_values [] f k = omega arith
few_values (e ∷ es) f zero = (f e (inl refl)).0.1
few_values (e ∷ es) f (suc k) = few_values es (λ u h. f u (inr h)) k

-- a test with a refusal behind it has passed
none_from : (b : Bool) (o : Option Refusal) (r : Refusal) → cond b o (Some r) ≡ None → (b ≡ true) × (o ≡ None)
none_from true o r h = (refl, h)
none_from false o r h = let z : ◌≡◌ {A = ℕ} 0 1 = cc in absurd (omega arith)

-- whether the points of a table have these values
abbrev both : List ℕ → TableMeaning → ℕ → ℕ → Bool
both ks u i j = ltb i (count ks u.low) && ltb j (count ks u.high)

-- what is wrong with a pair of values that the points have
abbrev repeats : TableMeaning → ℕ → ℕ → Option Refusal
repeats u i j = cond (allows u i j) (Some RepeatedPair) None

-- what is wrong with a pair in a table
abbrev pair_objection : List ℕ → TableMeaning → ℕ → ℕ → Option Refusal
pair_objection ks u i j = cond (both ks u i j) (repeats u i j) (Some MissingValue)

-- a pair with which nothing is wrong is fresh
fresh_from : (ks : List ℕ) (t : TableListing) (i j : ℕ) → Few ks → pair_objection ks (listed_table t) i j ≡ None → Fresh ks t (i, j)
fresh_from ks t i j few h =
    let r = none_from (both ks (listed_table t) i j) (repeats (listed_table t) i j) MissingValue h in
    let b = and_parts (ltb i (count ks t.low)) (ltb j (count ks t.high)) r.0 in
    let l : i < count ks t.low = ltb-true i (count ks t.low) b.0 in
    let g : j < count ks t.high = ltb-true j (count ks t.high) b.1 in
    (l, g, λ i∈. unlisted (allows (listed_table t) i j) r.1 (allows_from_in t i j (omega (arith, few t.low)) (omega (arith, few t.high)) i∈))
  where
    unlisted : (b : Bool) → cond b (Some RepeatedPair) None ≡ None → b ≡ true → ⊥
    unlisted true h e = let z : ◌≡◌ {A = ℕ} 0 1 = cc in omega arith
    unlisted false h e = false≢true e

-- with a fresh pair nothing is wrong
from_fresh : (ks : List ℕ) (t : TableListing) (i j : ℕ) → Fresh ks t (i, j) → pair_objection ks (listed_table t) i j ≡ None
from_fresh ks t i j f =
    cond-true (both ks (listed_table t) i j) (repeats (listed_table t) i j) (Some MissingValue)
    (and_from (ltb i (count ks t.low)) (ltb j (count ks t.high)) (lt-ltb i (count ks t.low) f.0) (lt-ltb j (count ks t.high) f.1)) ∙
    cond-false (allows (listed_table t) i j) (Some RepeatedPair) None
    (⊎_elim (λ e. absurd (f.2 (in_from_allows t i j e))) (λ e. e) (cases_Bool (allows (listed_table t) i j)))

module _ (p n : ℕ) (es : List Entry) where
  -- what each item has to say to be in place
  abbrev pub Next : List TableListing → Item → Type 0
  Next ts (head q m) = ⊥
  Next ts (point e) = Awaited p n es ts Point
  Next ts (table l h) = Awaited p n es ts Table × (h < length es)
  Next ts (pair i j) = (us : List TableListing) × (t : TableListing) × (ts ≡ us ++ t ∷ []) × Fresh (values_of es) t (i, j)
  Next ts (end m) = Awaited p n es ts End × (m ≡ pair_count ts)

  -- what is wrong with a pair depends on the last table
  pair_objection_lem :
      (us : List TableListing) (t : TableListing) (i j : ℕ) →
      objection_to (midway p n es (us ++ t ∷ [])) (pair i j) ≡ pair_objection (values_of es) (listed_table t) i j
  pair_objection_lem us t i j =
      ap (λ s. objection_to s (pair i j)) (midway_push p n es us t) ∙ ap (λ u. pair_objection (values_of es) u i j) (last_is p n es us t)

  -- an item with which nothing is wrong is in place
  pub next :
      Few (values_of es) → (ts : List TableListing) → (0 < length ts → p ≤ length es) → (x : Item) → objection (midway p n es ts) x ≡ None → Next ts x
  next few ts c x o =
      let r = none_from (has_kind (coming p n es ts) (kind_of_item x)) (objection_to (midway p n es ts) x) Misplaced o in
      says x (awaited p n es ts (kind_of_item x) c (in_from_kind (coming p n es ts) (kind_of_item x) r.0)) r.1
    where
      says : (x : Item) → Awaited p n es ts (kind_of_item x) → objection_to (midway p n es ts) x ≡ None → Next ts x
      says (head q m) a o = a
      says (point e) a o = a
      says (table l h) a o = (a, ltb-true h (length es) (none_from (ltb h (length es)) None MissingPoint o).0)
      says (pair i j) (us, t, q) o =
          (us, t, q, fresh_from (values_of es) t i j few (sym (ap (λ w. objection_to (midway p n es w) (pair i j)) q ∙ pair_objection_lem us t i j) ∙ o))
      says (end m) a o = (a, eqb-true m (pair_count ts) (none_from (eqb m (pair_count ts)) None WrongCount o).0)

  -- with an item in place nothing is wrong
  pub nothing_wrong : (ts : List TableListing) (x : Item) → Next ts x → objection (midway p n es ts) x ≡ None
  nothing_wrong ts x h =
      cond-true (has_kind (coming p n es ts) (kind_of_item x)) (objection_to (midway p n es ts) x) (Some Misplaced)
      (kind_from_in (coming p n es ts) (kind_of_item x) (comes p n es ts (kind_of_item x) (kind x h))) ∙ said x h
    where
      kind : (x : Item) → Next ts x → Awaited p n es ts (kind_of_item x)
      kind (head q m) h = h
      kind (point e) h = h
      kind (table l g) h = h.0
      kind (pair i j) h = (h.0, h.1, h.2)
      kind (end m) h = h.0

      said : (x : Item) → Next ts x → objection_to (midway p n es ts) x ≡ None
      said (head q m) h = refl
      said (point e) h = refl
      said (table l g) h = cond-true (ltb g (length es)) None (Some MissingPoint) (lt-ltb g (length es) h.1)
      said (pair i j) (us, t, q, f) =
          ap (λ w. objection_to (midway p n es w) (pair i j)) q ∙ pair_objection_lem us t i j ∙ from_fresh (values_of es) t i j f
      said (end m) h = cond-true (eqb m (pair_count ts)) None (Some WrongCount) (eq-eqb m (pair_count ts) h.1)
