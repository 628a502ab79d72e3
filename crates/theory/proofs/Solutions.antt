-- Over clauses whose models are the network's solutions: what marks say of solutions.
use Rattle.std.proofs.Common.{◌≡◌, ℕ, ◌*◌, ◌/◌, ◌%◌, ◌<◌, Bool, true, false, eqb, List, map, length, get_or, sym, refl, ap, ◌∙◌, subst, ⊎_elim, arith}
use Rattle.std.specs.List.{range_with_len}
use Rattle.std.proofs.lemmas.List.FromFn.{length-map-range_with_len, get_or-map-range_with_len}
use Rattle.std.proofs.lemmas.Bool.{cases_eq, cases_Bool, both_ways, not-true, not_from_false, eq-eqb, ne_eqb, eqb-true}
use Rattle.theory.specs.declared.Mark.TheVariants.{In, Out, Open}
use Rattle.theory.specs.Lists.{◌∈◌, has}
use Rattle.theory.specs.Numbering.{count, total, number}
use Rattle.theory.specs.Literals.{is_in, is_out, opposite, holds, Met, Model, Within, NoneEmpty}
use Rattle.theory.specs.Network.{Network, Solution}
use Rattle.theory.specs.Faithful.{Faithful, marking_of, layout_of}
use Rattle.theory.specs.Reached.{reached_set}
use Rattle.theory.specs.Marks.{clashed, mark}
use Rattle.theory.specs.Families.{Obeys}
use Rattle.theory.specs.Laws.{DecisionsWithin, NeverMarked, MakesTheSolution}
use Rattle.theory.proofs.Members.{some_or_none}
use Rattle.theory.proofs.Numbering.{find_place, number_below, opposite_in, opposite_out}
use Rattle.theory.proofs.Reaching.{set_reached, set_decided, reached_least, rounds_suffice, clash_from}
use Rattle.theory.proofs.Marking.{mark_in_lem, mark_out, in_mark, not_open, out_not_in}
use Rattle.theory.proofs.Markings.{Agree, marking_agrees}
use Rattle.theory.proofs.Encoded.{holds_in, holds_out}

-- a literal says that its value is in, or that it is out
pub data Says : ℕ → Type 0 where
  says_in : (n : ℕ) → Says (is_in n)
  says_out : (n : ℕ) → Says (is_out n)

pub says : (l : ℕ) → Says l
says l = ⊎_elim even odd (cases_eq (l % 2) 0)
  where
    even : l % 2 ≡ 0 → Says l
    even e = let x : is_in (l / 2) ≡ l = omega arith in subst Says x (says_in (l / 2))

    odd : (l % 2 ≡ 0 → ⊥) → Says l
    odd e = let x : is_out (l / 2) ≡ l = omega arith in subst Says x (says_out (l / 2))

-- in a marking, a literal and its opposite do not both hold
not_both_lem : (m : List Bool) (l : ℕ) → Says l → holds m l ≡ true → holds m (opposite l) ≡ true → ⊥
not_both_lem m l (says_in n) a b =
    both_ways (get_or m n false) (not-true (get_or m n false) (sym (holds_out m n) ∙ ap (holds m) (sym (opposite_in n)) ∙ b)) (sym (holds_in m n) ∙ a)
not_both_lem m l (says_out n) a b =
    both_ways (get_or m n false) (not-true (get_or m n false) (sym (holds_out m n) ∙ a)) (sym (holds_in m n) ∙ ap (holds m) (sym (opposite_out n)) ∙ b)

module _ (net : Network) (cs : List (List ℕ)) (ds vs : List ℕ) where
  abbrev m : List Bool
  m = marking_of net.counts vs

  module _ (f : Faithful net cs) (within : DecisionsWithin (total net.counts) ds) (sol : Solution net vs) (obeys : Obeys net.counts ds vs) where
    agree : Agree net.counts vs m
    agree = marking_agrees net.counts vs sol.one_each

    -- the solution's marking meets a decision
    meets_decision : (l : ℕ) → Says l → l ∈ ds → holds m l ≡ true
    meets_decision l (says_in n) i =
        let w = find_place net.counts n (omega (arith, within (is_in n) i)) in
        let v = obeys.has_chosen w.0 w.1 w.3 (subst (λ x. is_in x ∈ ds) w.4 i) in
        holds_in m n ∙ ap (λ x. get_or m x false) w.4 ∙ agree w.0 w.1 w.3 ∙ eq-eqb (get_or vs w.0 0) w.1 v
    meets_decision l (says_out n) i =
        let w = find_place net.counts n (omega (arith, within (is_out n) i)) in
        let v = obeys.has_no_barred w.0 w.1 w.3 (subst (λ x. is_out x ∈ ds) w.4 i) in
        holds_out m n ∙
        not_from_false (get_or m n false) (ap (λ x. get_or m x false) w.4 ∙ agree w.0 w.1 w.3 ∙ ne_eqb (get_or vs w.0 0) w.1 v)

    -- it meets a clause, so it meets the one literal whose others it refutes
    meets_forced : (c : List ℕ) → c ∈ cs → (l : ℕ) → l ∈ c → ((o : ℕ) → o ∈ c → (o ≡ l → ⊥) → holds m (opposite o) ≡ true) → holds m l ≡ true
    meets_forced c ic l il others =
        let met = (f.to_model vs sol).meets c ic in
        ⊎_elim (λ e. ap (holds m) (sym e) ∙ met.2) (λ ne. absurd (not_both_lem m met.0 (says met.0) met.2 (others met.0 met.1 ne)))
        (cases_eq met.0 l)

    meets_reached : (l : ℕ) → has (reached_set cs (total net.counts) ds) l ≡ true → holds m l ≡ true
    meets_reached l t =
        reached_least (λ x. holds m x ≡ true) (λ x. meets_decision x (says x)) meets_forced l (set_reached cs (total net.counts) ds l t)

    unclashed : clashed cs (total net.counts) ds ≡ false
    unclashed = ⊎_elim
        (λ t. let r = clash_from (reached_set cs (total net.counts) ds) t in
        absurd (not_both_lem m r.0 (says r.0) (meets_reached r.0 r.1) (meets_reached (opposite r.0) r.2)))
        (λ t. t) (cases_Bool (clashed cs (total net.counts) ds))

    not_struck : (p : ℕ) → p < length net.counts → mark cs (total net.counts) ds (number net.counts p (get_or vs p 0)) ≡ Out → ⊥
    not_struck p h o =
        let n = number net.counts p (get_or vs p 0) in
        both_ways (get_or m n false) (not-true (get_or m n false) (sym (holds_out m n) ∙ meets_reached (is_out n) (mark_out cs (total net.counts) ds n o)))
        (agree p (get_or vs p 0) (sol.valid p h) ∙ eq-eqb (get_or vs p 0) (get_or vs p 0) refl)

pub never_marked_out : NeverMarked Out
never_marked_out net cs ds vs f within sol obeys = (unclashed net cs ds vs f within sol obeys, not_struck net cs ds vs f within sol obeys)

module _ (net : Network) (cs : List (List ℕ)) (ds : List ℕ) (f : Faithful net cs) (within : Within (total net.counts) cs) (some : NoneEmpty cs)
    (free : clashed cs (total net.counts) ds ≡ false)
    (settled : (v : ℕ) → v < total net.counts → mark cs (total net.counts) ds v ≡ Open → ⊥) where
  abbrev N : ℕ
  N = total net.counts

  abbrev s : List ℕ
  s = reached_set cs N ds

  -- the values that the reached set has in
  abbrev ins : List Bool
  ins = map (λ v. has s (is_in v)) (range_with_len 0 N)

  ins_at : (v : ℕ) → v < N → get_or ins v false ≡ has s (is_in v)
  ins_at v h = get_or-map-range_with_len (λ x. has s (is_in x)) 0 N v v false h (omega arith)

  reached_holds : (l : ℕ) → Says l → l < 2 * N → has s l ≡ true → holds ins l ≡ true
  reached_holds l (says_in n) h t = holds_in ins n ∙ ins_at n (omega arith) ∙ t
  reached_holds l (says_out n) h t = holds_out ins n ∙ not_from_false (get_or ins n false) (ins_at n (omega arith) ∙ out_not_in cs N ds n free t)

  -- no value is open, so a literal that is not reached has its opposite reached
  else_opposite : (l : ℕ) → Says l → l < 2 * N → has s l ≡ false → has s (opposite l) ≡ true
  else_opposite l (says_in n) h t = ap (has s) (opposite_in n) ∙ not_open cs N ds n (settled n (omega arith)) t
  else_opposite l (says_out n) h t =
      ap (has s) (opposite_out n) ∙
      ⊎_elim (λ i. i) (λ o. absurd (both_ways (has s (is_out n)) t (not_open cs N ds n (settled n (omega arith)) o))) (cases_Bool (has s (is_in n)))

  ins_meets : (c : List ℕ) → c ∈ cs → Met ins c
  ins_meets c ic = ⊎_elim found none (some_or_none (has s) c)
    where
      found : (l : ℕ) × (l ∈ c) × (has (reached_set cs (total net.counts) ds) l ≡ true) → Met ins c
      found r = (r.0, r.1, reached_holds r.0 (says r.0) (within c ic r.0 r.1) r.2)

      none : ((l : ℕ) → l ∈ c → has (reached_set cs (total net.counts) ds) l ≡ false) → Met ins c
      none g =
          let l = some c ic in
          absurd (both_ways (has s l.0) (g l.0 l.1)
          ((rounds_suffice N cs ds within).closed c ic l.0 l.1 (λ o io _. else_opposite o (says o) (within c ic o io) (g o io))))

  ins_model : Model N cs ins
  ins_model = record { marked = length-map-range_with_len (λ v. has s (is_in v)) 0 N; meets = ins_meets }

  abbrev layout : List ℕ
  layout = layout_of net.counts ins

  sol : Solution net layout
  sol = f.to_solution ins ins_model

  ins_agree : Agree net.counts layout ins
  ins_agree p i h = ap (λ x. get_or x (number net.counts p i) false) (sym (f.back_and_there ins ins_model)) ∙ marking_agrees net.counts layout sol.one_each p i h

  -- a value is reached in exactly when the layout has it
  is_value : (p i : ℕ) → i < count net.counts p → has s (is_in (number net.counts p i)) ≡ eqb (get_or layout p 0) i
  is_value p i h = sym (ins_at (number net.counts p i) (number_below net.counts p i h)) ∙ ins_agree p i h

  pub in_values_solve :
      (vs : List ℕ) × Solution net vs × Obeys net.counts ds vs ×
      ((p i : ℕ) → i < count net.counts p →
      (get_or vs p 0 ≡ i → mark cs (total net.counts) ds (number net.counts p i) ≡ In) ×
      (mark cs (total net.counts) ds (number net.counts p i) ≡ In → get_or vs p 0 ≡ i))
  in_values_solve = (
    layout,
    sol,
    record {
      has_chosen = λ p i h d. eqb-true (get_or layout p 0) i (sym (is_value p i h) ∙ set_decided cs N ds (is_in (number net.counts p i)) d);
      has_no_barred = λ p i h d e.
          both_ways (has s (is_in (number net.counts p i)))
          (out_not_in cs N ds (number net.counts p i) free (set_decided cs N ds (is_out (number net.counts p i)) d))
          (is_value p i h ∙ eq-eqb (get_or layout p 0) i e);
    },
    λ p i h. (
      λ e. in_mark cs N ds (number net.counts p i) (is_value p i h ∙ eq-eqb (get_or layout p 0) i e),
      λ e. eqb-true (get_or layout p 0) i (sym (is_value p i h) ∙ mark_in_lem cs N ds (number net.counts p i) e),
    ),
  )

pub makes_the_solution_in : MakesTheSolution In
makes_the_solution_in = in_values_solve
