-- The models of an encoding's clauses are the network's solutions.
use Rattle.std.proofs.Common.{◌≡◌, ℕ, ◌+◌, ◌-◌, ◌*◌, ◌/◌, ◌%◌, ◌<◌, Bool, true, false, not, eqb, ◌↔◌, List, [], ◌∷◌, ◌++◌, map, length, get_or, filter, sym, refl, ap, ◌∙◌, subst, subst₂, inl, inr, ⊎_elim, arith}
use Rattle.std.specs.List.{range_with_len, flat_map}
use Rattle.std.proofs.lemmas.Bool.{cases_Bool, cases_order, both_ways, not-true, not_from_false, cond-true, cond-false, eq-eqb, ne_eqb}
use Rattle.theory.specs.declared.Encoding.{Encoding}
use Rattle.theory.specs.declared.Encoding.TheVariants.{Direct, Support, MinimalSupport}
use Rattle.theory.specs.declared.Side.{Side}
use Rattle.theory.specs.declared.Side.TheVariants.{Lower, Higher}
use Rattle.theory.specs.Lists.{◌∈◌}
use Rattle.theory.specs.Numbering.{count, total, number, points, values}
use Rattle.theory.specs.Literals.{is_in, is_out, holds, Met, Model}
use Rattle.theory.specs.Network.{Table, Network, allows, near, far, partner, Solution}
use Rattle.theory.specs.Encodings.{some_clause, not_both, at_least_one, not_with_later, not_two, at_most_one}
use Rattle.theory.specs.Encodings.{barred_with, direct_clauses, support_clause, half, better_side, table_clauses}
use Rattle.theory.specs.Faithful.{marking_of, layout_of, Faithful}
use Rattle.theory.specs.Laws.{IsFaithful}
use Rattle.theory.proofs.Members.{in_left, in_right, in_append, in_map, map_in, in_joined, joined_in, in_kept, kept_in, in_counting, counting_in, upto_in, in_upto}
use Rattle.theory.proofs.Numbering.{point_below}
use Rattle.theory.proofs.Markings.{HasIn, Valid, Agree, OneIn}
use Rattle.theory.proofs.Markings.{length_marking, length_layout, marking_agrees, value_in, in_value, marking_back, layout_back, layout_valid, layout_agrees}

pub holds_in : (m : List Bool) (n : ℕ) → holds m (is_in n) ≡ get_or m n false
holds_in m n =
    let r : 2 * n % 2 ≡ 0 = omega arith in
    let q : 2 * n / 2 ≡ n = omega arith in
    cond-true (eqb (2 * n % 2) 0) (get_or m (2 * n / 2) false) (not (get_or m (2 * n / 2) false)) (eq-eqb (2 * n % 2) 0 r) ∙ ap (λ x. get_or m x false) q

pub holds_out : (m : List Bool) (n : ℕ) → holds m (is_out n) ≡ not (get_or m n false)
holds_out m n =
    let r : (2 * n + 1) % 2 ≡ 0 → ⊥ = λ e. omega arith in
    let q : (2 * n + 1) / 2 ≡ n = omega arith in
    cond-false (eqb ((2 * n + 1) % 2) 0) (get_or m ((2 * n + 1) / 2) false) (not (get_or m ((2 * n + 1) / 2) false)) (ne_eqb ((2 * n + 1) % 2) 0 r) ∙
    ap (λ x. not (get_or m x false)) q

module _ (m : List Bool) where
  -- a clause that begins with an out-literal: once the value is in, the rest is met
  out_met : (n : ℕ) (c : List ℕ) → Met m (is_out n ∷ c) ↔ (get_or m n false ≡ true → Met m c)
  out_met n c = (there, λ f. ⊎_elim (λ t. let r = f t in (r.0, inr r.1, r.2)) back (cases_Bool (get_or m n false)))
    where
      there : Met m (is_out n ∷ c) → get_or m n false ≡ true → Met m c
      there (l, inl e, h) t = absurd (both_ways (get_or m n false) (not-true (get_or m n false) (sym (holds_out m n) ∙ ap (holds m) (sym e) ∙ h)) t)
      there (l, inr i, h) t = (l, i, h)

      back : get_or m n false ≡ false → Met m (is_out n ∷ c)
      back f = (is_out n, inl refl, holds_out m n ∙ not_from_false (get_or m n false) f)

  -- every clause of the list is met
  abbrev pub AllMet : List (List ℕ) → Type 0
  AllMet cs = (c : List ℕ) → c ∈ cs → Met m c

  all_append : (cs ds : List (List ℕ)) → AllMet (cs ++ ds) ↔ (AllMet cs × AllMet ds)
  all_append cs ds = (
    λ a. (λ c h. a c (in_left cs ds c h), λ c h. a c (in_right cs ds c h)),
    λ a c h. ⊎_elim (a.0 c) (a.1 c) (in_append cs ds c h),
  )

  all_map : {A : Type 0} (g : A → List ℕ) (xs : List A) → AllMet (map g xs) ↔ ((x : A) → x ∈ xs → Met m (g x))
  all_map g xs = (
    λ a x i. a (g x) (map_in g xs x i),
    λ f c h. let r = in_map g xs c h in subst (Met m) (sym r.2) (f r.0 r.1),
  )

  all_joined : {A : Type 0} (g : A → List (List ℕ)) (xs : List A) → AllMet (flat_map g xs) ↔ ((x : A) → x ∈ xs → AllMet (g x))
  all_joined g xs = (
    λ a x i c h. a c (joined_in g xs x c i h),
    λ f c h. let r = in_joined g xs c h in f r.0 r.1 c r.2,
  )

module _ (ks : List ℕ) (m : List Bool) where
  -- a clause of in-literals of a point: one of its values is in
  in_met : (p : ℕ) (is : List ℕ) → Met m (map (λ i. is_in (number ks p i)) is) ↔ ((i : ℕ) × (i ∈ is) × HasIn ks m p i)
  in_met p is = (
    λ r. let w = in_map (λ i. is_in (number ks p i)) is r.0 r.1 in
        (w.0, w.1, sym (holds_in m (number ks p w.0)) ∙ ap (holds m) (sym w.2) ∙ r.2),
    λ r. (is_in (number ks p r.0), map_in (λ i. is_in (number ks p i)) is r.0 r.1, holds_in m (number ks p r.0) ∙ r.2),
  )

  -- two values that are not both in
  both_met : (p i q j : ℕ) → Met m (not_both ks p i q j) ↔ (HasIn ks m p i → HasIn ks m q j → ⊥)
  both_met p i q j = (
    λ h s t. ((out_met m (number ks q j) []).0 ((out_met m (number ks p i) (is_out (number ks q j) ∷ [])).0 h s) t).1,
    λ f. (out_met m (number ks p i) (is_out (number ks q j) ∷ [])).1 (λ s. (out_met m (number ks q j) []).1 (λ t. absurd (f s t))),
  )

  -- at least one: some value of each point is in
  least_met : AllMet m (at_least_one ks) ↔ ((p : ℕ) → p < length ks → (i : ℕ) × (i < count ks p) × HasIn ks m p i)
  least_met = (
    λ a p b.
        let r = (in_met p (values ks p)).0 ((all_map m (some_clause ks) (points ks)).0 a p (upto_in (length ks) p b)) in
        (r.0, in_upto (count ks p) r.0 r.1, r.2),
    λ f. (all_map m (some_clause ks) (points ks)).1
        (λ p h. let r = f p (in_upto (length ks) p h) in (in_met p (values ks p)).1 (r.0, upto_in (count ks p) r.0 r.1, r.2)),
  )

  -- at most one: no two values of a point are in
  most_met : AllMet m (at_most_one ks) ↔ ((p i j : ℕ) → i < j → j < count ks p → HasIn ks m p i → HasIn ks m p j → ⊥)
  most_met = (
    λ a p i j l b.
        (both_met p i p j).0
        ((all_map m (not_both ks p i p) (range_with_len (i + 1) (count ks p - (i + 1)))).0
        ((all_joined m (not_with_later ks p) (values ks p)).0
        ((all_joined m (not_two ks) (points ks)).0 a p (upto_in (length ks) p (point_below ks p j b))) i (upto_in (count ks p) i (omega arith)))
        j (in_counting (count ks p - (i + 1)) (i + 1) j (omega arith) (omega arith))),
    λ f.
        (all_joined m (not_two ks) (points ks)).1
        (λ p _. (all_joined m (not_with_later ks p) (values ks p)).1
        (λ i _. (all_map m (not_both ks p i p) (range_with_len (i + 1) (count ks p - (i + 1)))).1
        (λ j h. let b = counting_in (count ks p - (i + 1)) (i + 1) j h in (both_met p i p j).1 (f p i j (omega arith) (omega arith))))),
  )

  -- direct clauses: no two values that the table does not allow are both in
  direct_met :
      (t : Table) →
      AllMet m (direct_clauses ks t) ↔
      ((i : ℕ) → i < count ks t.low → (j : ℕ) → j < count ks t.high → allows t i j ≡ false → HasIn ks m t.low i → HasIn ks m t.high j → ⊥)
  direct_met t = (
    λ a i b j d f.
        (both_met t.low i t.high j).0
        ((all_map m (not_both ks t.low i t.high) (filter (λ j. not (allows t i j)) (values ks t.high))).0
        ((all_joined m (barred_with ks t) (values ks t.low)).0 a i (upto_in (count ks t.low) i b))
        j (kept_in (λ j. not (allows t i j)) (values ks t.high) j (not_from_false (allows t i j) f) (upto_in (count ks t.high) j d))),
    λ f.
        (all_joined m (barred_with ks t) (values ks t.low)).1
        (λ i b. (all_map m (not_both ks t.low i t.high) (filter (λ j. not (allows t i j)) (values ks t.high))).1
        (λ j h.
        let r = in_kept (λ j. not (allows t i j)) (values ks t.high) j h in
        (both_met t.low i t.high j).1
        (f i (in_upto (count ks t.low) i b) j (in_upto (count ks t.high) j r.0) (not-true (allows t i j) r.1)))),
  )

  -- a half: each value of its end that is in has a partner that is in
  half_met :
      (s : Side) (t : Table) →
      AllMet m (half ks s t) ↔
      ((i : ℕ) → i < count ks (near s t) → HasIn ks m (near s t) i →
      (j : ℕ) × (j < count ks (far s t)) × (partner s t i j ≡ true) × HasIn ks m (far s t) j)
  half_met s t = (
    λ a i b h.
        let r = (in_met (far s t) (partners i)).0
        ((out_met m (number ks (near s t) i) (rest i)).0
        ((all_map m (support_clause ks s t) (values ks (near s t))).0 a i (upto_in (count ks (near s t)) i b)) h) in
        let k = in_kept (partner s t i) (values ks (far s t)) r.0 r.1 in
        (r.0, in_upto (count ks (far s t)) r.0 k.0, k.1, r.2),
    λ f.
        (all_map m (support_clause ks s t) (values ks (near s t))).1
        (λ i b. (out_met m (number ks (near s t) i) (rest i)).1
        (λ h.
        let r = f i (in_upto (count ks (near s t)) i b) h in
        (in_met (far s t) (partners i)).1
        (r.0, kept_in (partner s t i) (values ks (far s t)) r.0 r.2 (upto_in (count ks (far s t)) r.0 r.1), r.3))),
  )
    where
      partners : ℕ → List ℕ
      partners i = filter (partner s t i) (values ks (far s t))

      rest : ℕ → List ℕ
      rest i = map (λ j. is_in (number ks (far s t) j)) (partners i)

-- a marking that agrees with a layout meets the clauses exactly when the table allows the layout's pair
abbrev pub Tells : List ℕ → Table → List (List ℕ) → Type 0
Tells ks t cs =
    (vs : List ℕ) (m : List Bool) → Valid ks vs → Agree ks vs m →
    AllMet m cs ↔ (allows t (get_or vs t.low 0) (get_or vs t.high 0) ≡ true)

module _ (ks : List ℕ) (t : Table) (low-point : t.low < length ks) (high-point : t.high < length ks) where
  direct_tells : Tells ks t (direct_clauses ks t)
  direct_tells vs m valid agree = (
    λ a.
        ⊎_elim (λ y. y)
        (λ n. absurd ((direct_met ks m t).0 a l lb h hb n (value_in ks vs m agree t.low lb) (value_in ks vs m agree t.high hb)))
        (cases_Bool (allows t l h)),
    λ y. (direct_met ks m t).1
        (λ i b j d n e f.
        both_ways (allows t i j) n
        (subst₂ (λ x z. allows t x z ≡ true) (in_value ks vs m agree t.low i b e) (in_value ks vs m agree t.high j d f) y)),
  )
    where
      l : ℕ
      l = get_or vs t.low 0

      h : ℕ
      h = get_or vs t.high 0

      lb : l < count ks t.low
      lb = valid t.low low-point

      hb : h < count ks t.high
      hb = valid t.high high-point

  near_point : (s : Side) → near s t < length ks
  near_point Lower = low-point
  near_point Higher = high-point

  far_point : (s : Side) → far s t < length ks
  far_point Lower = high-point
  far_point Higher = low-point

  -- the two values of a pair are partners exactly when the table allows the pair, from either end
  pair_partners : (s : Side) (v : ℕ → ℕ) → partner s t (v (near s t)) (v (far s t)) ≡ allows t (v t.low) (v t.high)
  pair_partners Lower v = refl
  pair_partners Higher v = refl

  half_tells : (s : Side) → Tells ks t (half ks s t)
  half_tells s vs m valid agree = (
    λ a.
        let r = (half_met ks m s t).0 a (v (near s t)) nb (value_in ks vs m agree (near s t) nb) in
        sym (pair_partners s v) ∙ ap (partner s t (v (near s t))) (in_value ks vs m agree (far s t) r.0 r.1 r.3) ∙ r.2,
    λ y. (half_met ks m s t).1
        (λ i b e. (
          v (far s t),
          fb,
          ap (λ x. partner s t x (v (far s t))) (sym (in_value ks vs m agree (near s t) i b e)) ∙ pair_partners s v ∙ y,
          value_in ks vs m agree (far s t) fb,
        )),
  )
    where
      v : ℕ → ℕ
      v p = get_or vs p 0

      nb : v (near s t) < count ks (near s t)
      nb = valid (near s t) (near_point s)

      fb : v (far s t) < count ks (far s t)
      fb = valid (far s t) (far_point s)

  table_tells : (e : Encoding) → Tells ks t (table_clauses e ks t)
  table_tells Direct = direct_tells
  table_tells Support =
      λ vs m valid agree.
      let both = all_append m (half ks Lower t) (half ks Higher t) in (
        λ a. (half_tells Lower vs m valid agree).0 (both.0 a).0,
        λ y. both.1 ((half_tells Lower vs m valid agree).1 y, (half_tells Higher vs m valid agree).1 y),
      )
  table_tells MinimalSupport = half_tells (better_side ks t)

-- at least one, at most one, and clauses that tell of each table what it allows: their models are the solutions
module _ (net : Network) (f : Table → List (List ℕ)) (tells : (t : Table) → t ∈ net.tables → Tells net.counts t (f t)) where
  abbrev ks : List ℕ
  ks = net.counts

  abbrev written : List (List ℕ)
  written = at_least_one ks ++ (at_most_one ks ++ flat_map f net.tables)

  parts : (m : List Bool) → AllMet m written ↔ (AllMet m (at_least_one ks) × AllMet m (at_most_one ks) × AllMet m (flat_map f net.tables))
  parts m = (
    λ a.
        let r = (all_append m (at_least_one ks) (at_most_one ks ++ flat_map f net.tables)).0 a in
        let q = (all_append m (at_most_one ks) (flat_map f net.tables)).0 r.1 in
        (r.0, q.0, q.1),
    λ a.
        (all_append m (at_least_one ks) (at_most_one ks ++ flat_map f net.tables)).1
        (a.0, (all_append m (at_most_one ks) (flat_map f net.tables)).1 (a.1, a.2)),
  )

  -- the marking of a solution meets the clauses
  solution_met : (vs : List ℕ) → Solution net vs → AllMet (marking_of ks vs) written
  solution_met vs sol =
      let m = marking_of ks vs in
      let agree = marking_agrees ks vs sol.one_each in
      (parts m).1 (
        (least_met ks m).1 (λ p b. (get_or vs p 0, sol.valid p b, value_in ks vs m agree p (sol.valid p b))),
        (most_met ks m).1
            (λ p i j l b h k.
            let x = in_value ks vs m agree p i (omega arith) h in
            let y = in_value ks vs m agree p j b k in
            omega arith),
        (all_joined m f net.tables).1 (λ t i. (tells t i vs m sol.valid agree).1 (sol.allowed t i)),
      )

  module _ (m : List Bool) (model : Model (total ks) written m) where
    -- a model has one value of each point in
    model_one : OneIn ks m
    model_one =
        record {
          some = (least_met ks m).0 ((parts m).0 model.meets).0;
          single = λ p i j b d h k.
              let most = (most_met ks m).0 ((parts m).0 model.meets).1 in
              ⊎_elim (λ e. e) (λ o. ⊎_elim (λ l. absurd (most p i j l d h k)) (λ l. absurd (most p j i l b k h)) o) (cases_order i j);
        }

    model_solution : Solution net (layout_of ks m)
    model_solution =
        record {
          one_each = length_layout ks m;
          valid = layout_valid ks m model_one;
          allowed = λ t i.
              (tells t i (layout_of ks m) m (layout_valid ks m model_one) (layout_agrees ks m model_one)).0
              ((all_joined m f net.tables).0 ((parts m).0 model.meets).2 t i);
        }

    model_back : marking_of ks (layout_of ks m) ≡ m
    model_back = marking_back ks (layout_of ks m) m (length_layout ks m) model.marked (layout_agrees ks m model_one)

  pub written_faithful : Faithful net written
  written_faithful =
      record {
        to_model = λ vs sol. record { marked = length_marking ks vs sol.one_each; meets = solution_met vs sol };
        to_solution = model_solution;
        there_and_back = λ vs sol. layout_back ks vs sol.one_each sol.valid;
        back_and_there = model_back;
      }

pub is_faithful : (e : Encoding) → IsFaithful e
is_faithful e net proper =
    written_faithful net (table_clauses e net.counts)
    (λ t i. let j = proper.joins t i in table_tells net.counts t (omega arith) j.1 e)
