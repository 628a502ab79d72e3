-- Over the support clauses, unit propagation strikes exactly what no arc-consistent family holds.
use Rattle.std.proofs.Common.{◌≡◌, ℕ, ◌*◌, ◌/◌, ◌%◌, ◌<◌, Bool, true, false, not, List, ◌∷◌, map, length, filter, sym, refl, ap, ◌∙◌, subst, subst₂, inl, inr, ⊎_elim, arith}
use Rattle.std.proofs.lemmas.Bool.{cases_eq, cases_Bool, cases_order, both_ways, not-true, not-false}
use Rattle.theory.specs.declared.Encoding.TheVariants.{Support}
use Rattle.theory.specs.declared.Side.{Side}
use Rattle.theory.specs.declared.Side.TheVariants.{Lower, Higher}
use Rattle.theory.specs.Lists.{◌∈◌, has}
use Rattle.theory.specs.Numbering.{count, total, number, values}
use Rattle.theory.specs.Literals.{is_in, is_out, opposite, Within}
use Rattle.theory.specs.Network.{Table, Network, Proper, near, far, partner}
use Rattle.theory.specs.Encodings.{some_clause, not_both, support_clause, clauses}
use Rattle.theory.specs.Reached.{reached_set}
use Rattle.theory.specs.Families.{Family, Empties}
use Rattle.theory.specs.Laws.{DecisionsWithin, StrikesExactly, ClashesExactly}
use Rattle.theory.proofs.Members.{in_map, map_in, in_kept, kept_in, some_or_none, upto_in, in_upto}
use Rattle.theory.proofs.Numbering.{opposite_in, opposite_out, same_place, number_below, find_place}
use Rattle.theory.proofs.Clauses.{OneForm, at_least, at_most, Form, one, support, form_of, of_form}
use Rattle.theory.proofs.Reaching.{Reached, decided, forced, set_reached, reached_set_lem, clash_from, clash_to}
use Rattle.theory.proofs.Marking.{out_mark, mark_out}

-- the support clause of the value i of p: one of the values of q that pass the test is in, or i is out
abbrev support_for : List ℕ → ℕ → ℕ → (ℕ → Bool) → ℕ → List ℕ
support_for ks p q test i = is_out (number ks p i) ∷ map (λ j. is_in (number ks q j)) (filter test (values ks q))

refuted : (b : Bool) → (b ≡ true → ⊥) → b ≡ false
refuted b f = ⊎_elim (λ t. absurd (f t)) (λ t. t) (cases_Bool b)

-- joined member of p in F has a partner of q in F
abbrev Linked : List ℕ → (ℕ → ℕ → Bool) → ℕ → ℕ → (ℕ → ℕ → Bool) → Type 0
Linked ks F p q J = (i : ℕ) → i < count ks p → F p i ≡ true → (j : ℕ) × (j < count ks q) × (J i j ≡ true) × (F q j ≡ true)

-- what a reached literal says of a family
abbrev Says : List ℕ → (ℕ → ℕ → Bool) → ℕ → Type 0
Says ks F l =
    ((p i : ℕ) → i < count ks p → l ≡ is_out (number ks p i) → F p i ≡ false) ×
    ((p i : ℕ) → i < count ks p → l ≡ is_in (number ks p i) → (j : ℕ) → j < count ks p → (j ≡ i → ⊥) → F p j ≡ false)

module _ (ks : List ℕ) (F : ℕ → ℕ → Bool) where
  says_out : (p i l : ℕ) → i < count ks p → l ≡ is_out (number ks p i) → F p i ≡ false → Says ks F l
  says_out p i l h e f = (
    λ q j k d. let r = same_place ks p i q j h k (omega arith) in subst₂ (λ x y. F x y ≡ false) r.0 r.1 f,
    λ q j k d. absurd (omega arith),
  )

  says_in : (p i l : ℕ) → i < count ks p → l ≡ is_in (number ks p i) → ((j : ℕ) → j < count ks p → (j ≡ i → ⊥) → F p j ≡ false) → Says ks F l
  says_in p i l h e f = (
    λ q j k d. absurd (omega arith),
    λ q j k d. let r = same_place ks p i q j h k (omega arith) in
        subst₂ (λ x y. (m : ℕ) → m < count ks x → (m ≡ y → ⊥) → F x m ≡ false) r.0 r.1 f,
  )

  -- what is known of a clause's other literals
  abbrev Rest : ℕ → List ℕ → Type 0
  Rest l c = (m : ℕ) → m ∈ c → (m ≡ l → ⊥) → Says ks F (opposite m)

  by_some : (l p : ℕ) → l ∈ (some_clause ks p) → Rest l (some_clause ks p) → Says ks F l
  by_some l p h rest =
      let r = in_map (λ i. is_in (number ks p i)) (values ks p) l h in
      says_in p r.0 l (in_upto (count ks p) r.0 r.1) r.2
      (λ j k ne. (rest (is_in (number ks p j)) (map_in (λ i. is_in (number ks p i)) (values ks p) j (upto_in (count ks p) j k))
      (λ e. ne (omega (arith, r.2)))).0 p j k (opposite_in (number ks p j)))

  by_not_both : (l p i j : ℕ) → i < j → j < count ks p → l ∈ (not_both ks p i p j) → Rest l (not_both ks p i p j) → Says ks F l
  by_not_both l p i j h k (inl e) rest =
      says_out p i l (omega arith) e ((rest (is_out (number ks p j)) (inr (inl refl)) (λ d. omega arith)).1 p j k (opposite_out (number ks p j)) i (omega arith) (λ d. omega arith))
  by_not_both l p i j h k (inr (inl e)) rest =
      says_out p j l k e ((rest (is_out (number ks p i)) (inl refl) (λ d. omega arith)).1 p i (omega arith) (opposite_out (number ks p i)) j k (λ d. omega arith))
  by_not_both l p i j h k (inr (inr x)) rest = absurd x

  by_support :
      (l p q : ℕ) (J : ℕ → ℕ → Bool) (i : ℕ) → i < count ks p → Linked ks F p q J → Linked ks F q p (λ a b. J b a) →
      (l ∈ (support_for ks p q (J i) i)) → Rest l (support_for ks p q (J i) i) → Says ks F l
  by_support l p q J i h up down (inl e) rest = says_out p i l h e (refuted (F p i) no_partner)
    where
      no_partner : F p i ≡ true → ⊥
      no_partner t =
          let r = up i h t in
          both_ways (F q r.0)
          ((rest (is_in (number ks q r.0))
          (inr (map_in (λ j. is_in (number ks q j)) (filter (J i) (values ks q)) r.0 (kept_in (J i) (values ks q) r.0 r.2 (upto_in (count ks q) r.0 r.1))))
          (λ d. omega arith)).0 q r.0 r.1 (opposite_in (number ks q r.0)))
          r.3
  by_support l p q J i h up down (inr m) rest = says_in q w.0 l (in_upto (count ks q) w.0 k.0) w.2 (λ u hu ne. refuted (F q u) (no_other u hu ne))
    where
      w : (x : ℕ) × (x ∈ (filter (J i) (values ks q))) × (l ≡ is_in (number ks q x))
      w = in_map (λ j. is_in (number ks q j)) (filter (J i) (values ks q)) l m

      k : (w.0 ∈ (values ks q)) × (J i w.0 ≡ true)
      k = in_kept (J i) (values ks q) w.0 w.1

      no_other : (u : ℕ) → u < count ks q → (u ≡ w.0 → ⊥) → F q u ≡ true → ⊥
      no_other u hu ne t = ⊎_elim same other (cases_eq r.0 i)
        where
          r : (x : ℕ) × (x < count ks p) × (J x u ≡ true) × (F p x ≡ true)
          r = down u hu t

          -- the partner of u is i: so u is another literal of the clause
          same : r.0 ≡ i → ⊥
          same e =
              both_ways (F q u)
              ((rest (is_in (number ks q u))
              (inr (map_in (λ j. is_in (number ks q j)) (filter (J i) (values ks q)) u (kept_in (J i) (values ks q) u (ap (λ x. J x u) (sym e) ∙ r.2) (upto_in (count ks q) u hu))))
              (λ d. ne (omega (arith, w.2)))).0 q u hu (opposite_in (number ks q u)))
              t

          -- it is another than i, which is in
          other : (r.0 ≡ i → ⊥) → ⊥
          other d =
              both_ways (F p r.0)
              ((rest (is_out (number ks p i)) (inl refl) (λ e. omega (arith, w.2))).1 p i h (opposite_out (number ks p i)) r.0 r.1 d)
              r.3

module _ (net : Network) (ds : List ℕ) where
  abbrev ks : List ℕ
  ks = net.counts

  abbrev book : List (List ℕ)
  book = clauses Support net

  module _ (F : ℕ → ℕ → Bool) (fam : Family net ds F) where
    by_one : (l : ℕ) (c : List ℕ) → OneForm ks c → l ∈ c → Rest ks F l c → Says ks F l
    by_one l c (at_least p h) il rest = by_some ks F l p il rest
    by_one l c (at_most p i j h k) il rest = by_not_both ks F l p i j h k il rest

    by_form : (l : ℕ) (c : List ℕ) → Form net c → l ∈ c → Rest ks F l c → Says ks F l
    by_form l c (one f) il rest = by_one l c f il rest
    by_form l c (support Lower t it i h) il rest =
        by_support ks F l t.low t.high (partner Lower t) i h (fam.partnered t it Lower) (fam.partnered t it Higher) il rest
    by_form l c (support Higher t it i h) il rest =
        by_support ks F l t.high t.low (partner Higher t) i h (fam.partnered t it Higher) (fam.partnered t it Lower) il rest

    says : (l : ℕ) → Reached book ds l → Says ks F l
    says l (decided h) = (
      λ p i k e. refuted (F p i) (λ t. (fam.permitted p i k t).not_barred (subst (λ x. x ∈ ds) e h)),
      λ p i k e j u ne. refuted (F p j) (λ t. (fam.permitted p j u t).no_other_chosen i k (λ d. ne (sym d)) (subst (λ x. x ∈ ds) e h)),
    )
    says l (forced c ic il others) = by_form l c (form_of net c ic) il (λ m im ne. says (opposite m) (others m im ne))

  below_partner : (q : ℕ) (test : ℕ → Bool) (l : ℕ) → l ∈ map (λ j. is_in (number ks q j)) (filter test (values ks q)) → l < 2 * total ks
  below_partner q test l m =
      let r = in_map (λ j. is_in (number ks q j)) (filter test (values ks q)) l m in
      omega (arith, r.2, number_below ks q r.0 (in_upto (count ks q) r.0 (in_kept test (values ks q) r.0 r.1).0))

  below_one : (c : List ℕ) → OneForm ks c → (l : ℕ) → l ∈ c → l < 2 * total ks
  below_one c (at_least p h) l il =
      let r = in_map (λ i. is_in (number ks p i)) (values ks p) l il in
      omega (arith, r.2, number_below ks p r.0 (in_upto (count ks p) r.0 r.1))
  below_one c (at_most p i j h k) l (inl e) = omega (arith, number_below ks p i (omega arith))
  below_one c (at_most p i j h k) l (inr (inl e)) = omega (arith, number_below ks p j k)
  below_one c (at_most p i j h k) l (inr (inr x)) = absurd x

  below_form : (c : List ℕ) → Form net c → (l : ℕ) → l ∈ c → l < 2 * total ks
  below_form c (one f) l il = below_one c f l il
  below_form c (support s t it i h) l (inl e) = omega (arith, number_below ks (near s t) i h)
  below_form c (support s t it i h) l (inr m) = below_partner (far s t) (partner s t i) l m

  -- the support clauses speak of the network's values
  pub support_within : Within (total ks) book
  support_within c ic l il = below_form c (form_of net c ic) l il

  reached_below : DecisionsWithin (total ks) ds → (l : ℕ) → Reached book ds l → l < 2 * total ks
  reached_below f l (decided h) = f l h
  reached_below f l (forced c ic il others) = support_within c ic l il

  abbrev out_set : ℕ → ℕ → Bool
  out_set p i = has (reached_set book (total ks) ds) (is_out (number ks p i))

  -- the values that are not reached out
  abbrev live : ℕ → ℕ → Bool
  live p i = not (out_set p i)

  live_not_out : (p i : ℕ) → live p i ≡ true → Reached book ds (is_out (number ks p i)) → ⊥
  live_not_out p i t r = both_ways (out_set p i) (not-true (out_set p i) t) (reached_set_lem book (total ks) ds support_within (is_out (number ks p i)) r)

  not_live_out : (p i : ℕ) → live p i ≡ false → Reached book ds (is_out (number ks p i))
  not_live_out p i t = set_reached book (total ks) ds (is_out (number ks p i)) (not-false (out_set p i) t)

  -- another value of the point is in, so i is out
  out_by_other : (p i j : ℕ) → i < count ks p → j < count ks p → (j ≡ i → ⊥) → Reached book ds (is_in (number ks p j)) → Reached book ds (is_out (number ks p i))
  out_by_other p i j h k ne r = ⊎_elim (λ (e : i ≡ j). absurd (ne (sym e))) (⊎_elim before after) (cases_order i j)
    where
      before : i < j → Reached book ds (is_out (number ks p i))
      before l = forced (not_both ks p i p j) (of_form net (not_both ks p i p j) (one (at_most p i j l k))) (inl refl) others
        where
          others : (m : ℕ) → m ∈ not_both ks p i p j → (m ≡ is_out (number ks p i) → ⊥) → Reached book ds (opposite m)
          others m (inl e) d = absurd (d e)
          others m (inr (inl e)) d = subst (Reached book ds) (sym (ap opposite e ∙ opposite_out (number ks p j))) r
          others m (inr (inr x)) d = absurd x

      after : j < i → Reached book ds (is_out (number ks p i))
      after l = forced (not_both ks p j p i) (of_form net (not_both ks p j p i) (one (at_most p j i l h))) (inr (inl refl)) others
        where
          others : (m : ℕ) → m ∈ not_both ks p j p i → (m ≡ is_out (number ks p i) → ⊥) → Reached book ds (opposite m)
          others m (inl e) d = subst (Reached book ds) (sym (ap opposite e ∙ opposite_out (number ks p j))) r
          others m (inr (inl e)) d = absurd (d e)
          others m (inr (inr x)) d = absurd x

  -- a value that is not out has a partner that is not out
  live_partnered :
      (t : Table) → t ∈ net.tables → (s : Side) (i : ℕ) → i < count ks (near s t) → live (near s t) i ≡ true →
      (j : ℕ) × (j < count ks (far s t)) × (partner s t i j ≡ true) × (live (far s t) j ≡ true)
  live_partnered t it s i h f = ⊎_elim found none (some_or_none (live (far s t)) (filter (partner s t i) (values ks (far s t))))
    where
      found :
          (x : ℕ) × (x ∈ filter (partner s t i) (values ks (far s t))) × (live (far s t) x ≡ true) →
          (j : ℕ) × (j < count ks (far s t)) × (partner s t i j ≡ true) × (live (far s t) j ≡ true)
      found r =
          let k = in_kept (partner s t i) (values ks (far s t)) r.0 r.1 in
          (r.0, in_upto (count ks (far s t)) r.0 k.0, k.1, r.2)

      none :
          ((x : ℕ) → x ∈ filter (partner s t i) (values ks (far s t)) → live (far s t) x ≡ false) →
          (j : ℕ) × (j < count ks (far s t)) × (partner s t i j ≡ true) × (live (far s t) j ≡ true)
      none g = absurd (live_not_out (near s t) i f (forced (support_clause ks s t i) (of_form net (support_clause ks s t i) (support s t it i h)) (inl refl) others))
        where
          others : (m : ℕ) → m ∈ support_clause ks s t i → (m ≡ is_out (number ks (near s t) i) → ⊥) → Reached book ds (opposite m)
          others m (inl e) d = absurd (d e)
          others m (inr x) d =
              let r = in_map (λ j. is_in (number ks (far s t) j)) (filter (partner s t i) (values ks (far s t))) m x in
              subst (Reached book ds) (sym (opposite_in (number ks (far s t) r.0)) ∙ ap opposite (sym r.2)) (not_live_out (far s t) r.0 (g r.0 r.1))

  live_family : Family net ds live
  live_family =
      record {
        permitted = λ p i h t. record {
          not_barred = λ d. live_not_out p i t (decided d);
          no_other_chosen = λ j k ne d. live_not_out p i t (out_by_other p i j h k ne (decided d));
        };
        partnered = live_partnered;
      }

pub strikes_exactly : StrikesExactly Support
strikes_exactly net ds unclashed p i h = (
  λ m F fam t. both_ways (F p i) ((says net ds F fam (is_out n) (set_reached book' N ds (is_out n) (mark_out book' N ds n m))).0 p i h refl) t,
  λ f. out_mark book' N ds n unclashed
      (⊎_elim (λ t. absurd (f (live net ds) (live_family net ds) t)) (λ t. not-false (out_set net ds p i) t) (cases_Bool (live net ds p i))),
)
  where
    book' : List (List ℕ)
    book' = clauses Support net

    N : ℕ
    N = total net.counts

    n : ℕ
    n = number net.counts p i

-- a literal and its opposite are, one way round or the other, that a value is in and that it is out
both_of : (P : ℕ → Type 0) (l : ℕ) → P l → P (opposite l) → P (is_in (l / 2)) × P (is_out (l / 2))
both_of P l a b = ⊎_elim even odd (cases_eq (l % 2) 0)
  where
    even : l % 2 ≡ 0 → P (is_in (l / 2)) × P (is_out (l / 2))
    even e =
        let x : l ≡ is_in (l / 2) = omega arith in
        let y : opposite l ≡ is_out (l / 2) = omega arith in
        (subst P x a, subst P y b)

    odd : (l % 2 ≡ 0 → ⊥) → P (is_in (l / 2)) × P (is_out (l / 2))
    odd n =
        let x : opposite l ≡ is_in (l / 2) = omega arith in
        let y : l ≡ is_out (l / 2) = omega arith in
        (subst P x b, subst P y a)

module _ (net : Network) (ds : List ℕ) where
  abbrev R : ℕ → Type 0
  R l = Reached (clauses Support net) ds l

  -- both literals of a value are reached: every family empties its point
  empties : DecisionsWithin (total net.counts) ds → (l : ℕ) → R l → R (opposite l) → (F : ℕ → ℕ → Bool) → Family net ds F → Empties net.counts F
  empties f l here there F fam = (w.0, w.2, all)
    where
      w : (p : ℕ) × (i : ℕ) × (p < length net.counts) × (i < count net.counts p) × (l / 2 ≡ number net.counts p i)
      w = find_place net.counts (l / 2) (omega (arith, reached_below net ds f l here))

      b : R (is_in (l / 2)) × R (is_out (l / 2))
      b = both_of (Reached (clauses Support net) ds) l here there

      all : (i : ℕ) → i < count net.counts w.0 → F w.0 i ≡ false
      all i h =
          ⊎_elim (λ e. subst (λ x. F w.0 x ≡ false) (sym e) ((says net ds F fam (is_out (l / 2)) b.1).0 w.0 w.1 w.3 (ap is_out w.4)))
          (λ ne. (says net ds F fam (is_in (l / 2)) b.0).1 w.0 w.1 w.3 (ap is_in w.4) i h ne) (cases_eq i w.1)

  -- the values that are not out leave a point empty: its first value is both in and out
  both_reached : Proper net → Empties net.counts (live net ds) → (l : ℕ) × R l × R (opposite l)
  both_reached ok e =
      (is_in (number ks' p 0), forced (some_clause ks' p) (of_form net (some_clause ks' p) (one (at_least p e.1))) first others, rw opposite_in (out 0 (ok.valued p e.1)))
    where
      ks' : List ℕ
      ks' = net.counts

      p : ℕ
      p = e.0

      out : (i : ℕ) → i < count net.counts e.0 → R (is_out (number net.counts e.0 i))
      out i h = not_live_out net ds e.0 i (e.2 i h)

      first : is_in (number net.counts e.0 0) ∈ some_clause net.counts e.0
      first = map_in (λ i. is_in (number net.counts e.0 i)) (values net.counts e.0) 0 (upto_in (count net.counts e.0) 0 (ok.valued e.0 e.1))

      others : (m : ℕ) → m ∈ some_clause net.counts e.0 → (m ≡ is_in (number net.counts e.0 0) → ⊥) → R (opposite m)
      others m h d =
          let r = in_map (λ i. is_in (number net.counts e.0 i)) (values net.counts e.0) m h in
          subst (Reached (clauses Support net) ds) (sym (opposite_in (number net.counts e.0 r.0)) ∙ ap opposite (sym r.2)) (out r.0 (in_upto (count net.counts e.0) r.0 r.1))

pub clashes_exactly : ClashesExactly Support
clashes_exactly net ok ds within = (
  λ t. let r = clash_from s t in empties net ds within r.0 (set_reached cs N ds r.0 r.1) (set_reached cs N ds (opposite r.0) r.2),
  λ f. let r = both_reached net ds ok (f (live net ds) (live_family net ds)) in
      clash_to s r.0 (reached_set_lem cs N ds (support_within net ds) r.0 r.1) (reached_set_lem cs N ds (support_within net ds) (opposite r.0) r.2),
)
  where
    cs : List (List ℕ)
    cs = clauses Support net

    N : ℕ
    N = total net.counts

    s : List ℕ
    s = reached_set (clauses Support net) (total net.counts) ds
