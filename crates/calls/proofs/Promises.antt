-- The promise of a run, from the laws of the reached set.
use Rattle.std.proofs.Common.{◌≡◌, ℕ, ◌<◌, true, false, not, ◌⊎◌, List, [], ◌∷◌, ◌++◌, length, get_or, Ok, Err, filter, sym, refl, ap, ◌∙◌, subst, inl, inr, ⊎_elim, append_assoc, arith}
use Rattle.std.proofs.lemmas.Bool.{lt-ltb, cases_Bool, cases_eq}
use Rattle.theory.specs.declared.Encoding.TheVariants.{Support}
use Rattle.theory.specs.declared.Mark.{Mark}
use Rattle.theory.specs.declared.Mark.TheVariants.{In, Out, Open}
use Rattle.theory.specs.Encodings.{clauses}
use Rattle.theory.specs.Faithful.{Faithful}
use Rattle.theory.specs.Families.{Obeys}
use Rattle.theory.specs.Laws.{SameDecisions, DecisionsWithin}
use Rattle.theory.specs.Literals.{Within, NoneEmpty}
use Rattle.theory.specs.Marks.{clashed, mark}
use Rattle.theory.specs.Network.{Network, Proper, Solution}
use Rattle.theory.specs.Numbering.{count, total, number, values}
use Rattle.theory.proofs.Families.{strikes_exactly, clashes_exactly}
use Rattle.theory.proofs.Numbering.{find_place}
use Rattle.theory.proofs.Order.{order_is_unseen}
use Rattle.theory.proofs.Solutions.{never_marked_out, makes_the_solution_in}
use Rattle.network.specs.Points.{Entry, values_of}
use Rattle.calls.specs.declared.call.Exchange.{Exchange}
use Rattle.calls.specs.declared.refusal.CallRefusal.TheVariants.{Clashed}
use Rattle.calls.specs.States.{State, counts_of, is_clashed, mark_at, has_point, has_value}
use Rattle.calls.specs.Replies.{checked, mark_reply, marks_out, marks_in, first_of}
use Rattle.calls.specs.Runs.{standing, state_after, Exact}
use Rattle.calls.specs.Promise.{ArcConsistent, KeepsSolutions, AnswersAlike, AllMarked, Promise}
use Rattle.calls.proofs.Distinct.{no_longer}
use Rattle.calls.proofs.Decisions.{Sound, sound_after}

-- where there is no clash, a value that is there is answered its mark
told : (s : State) (p v : ℕ) → is_clashed s ≡ false → v < count (counts_of s) p → mark_reply s p v ≡ Ok (mark_at s p v)
told s p v calm h = λ i. checked (lt-ltb v (count (counts_of s) p) h i) (calm i) (Ok (mark_at s p v))

told_is : (s : State) (p v : ℕ) (m : Mark) → is_clashed s ≡ false → v < count (counts_of s) p → mark_reply s p v ≡ Ok m → mark_at s p v ≡ m
told_is s p v m calm h e = let t = told s p v calm h in cc

is_told : (s : State) (p v : ℕ) (m : Mark) → is_clashed s ≡ false → v < count (counts_of s) p → mark_at s p v ≡ m → mark_reply s p v ≡ Ok m
is_told s p v m calm h e = told s p v calm h ∙ ap Ok e

-- over the network's points and clauses, what the laws speak of is what the session answers
module _ (net : Network) (s : State) (same : net.counts ≡ counts_of s) where
  there : (p v : ℕ) → v < count net.counts p → v < count (counts_of s) p
  there p v h = subst (λ ks. v < count ks p) same h

  module _ (cs : List (List ℕ)) (of : cs ≡ s.clauses) where
    clash_is : clashed cs (total net.counts) s.decisions ≡ is_clashed s
    clash_is = λ i. clashed (of i) (total (same i)) s.decisions

    mark_is : (p v : ℕ) → mark cs (total net.counts) s.decisions (number net.counts p v) ≡ mark_at s p v
    mark_is p v = λ i. mark (of i) (total (same i)) s.decisions (number (same i) p v)

  within_is : DecisionsWithin (total (counts_of s)) s.decisions → DecisionsWithin (total net.counts) s.decisions
  within_is w = subst (λ ks. DecisionsWithin (total ks) s.decisions) (sym same) w

  pub arc_consistent : Proper net → clauses Support net ≡ s.clauses → DecisionsWithin (total (counts_of s)) s.decisions → ArcConsistent net s
  arc_consistent proper of w =
      record {
        out = λ calm p v h.
            let law = strikes_exactly net s.decisions (clash_is (clauses Support net) of ∙ calm) p v h in (
              λ e. law.0 (mark_is (clauses Support net) of p v ∙ told_is s p v Out calm (there p v h) e),
              λ none. is_told s p v Out calm (there p v h) (sym (mark_is (clauses Support net) of p v) ∙ law.1 none),
            );
        clash =
            let law = clashes_exactly net proper s.decisions (within_is w) in
            (λ e. law.0 (clash_is (clauses Support net) of ∙ e), λ f. sym (clash_is (clauses Support net) of) ∙ law.1 f);
      }

  module _ (faithful : Faithful net s.clauses) (w : DecisionsWithin (total (counts_of s)) s.decisions) where
    calm_by : (vs : List ℕ) → Solution net vs → Obeys net.counts s.decisions vs → is_clashed s ≡ false
    calm_by vs sol obeys = sym (clash_is s.clauses refl) ∙ (never_marked_out net s.clauses s.decisions vs faithful (within_is w) sol obeys).0

    -- a mark that is in or out is not open
    not_open : (m : Mark) → (m ≡ In) ⊎ (m ≡ Out) → m ≡ Open → ⊥
    not_open m e o = ⊎_elim (λ (a : m ≡ In). let z : ◌≡◌ {A = ℕ} 0 1 = cc in omega arith) (λ (a : m ≡ Out). let z : ◌≡◌ {A = ℕ} 0 1 = cc in omega arith) e

    -- where every value is answered, there is no clash as long as there is a point
    pub keeps_solutions : Within (total (counts_of s)) s.clauses → NoneEmpty s.clauses → (AllMarked net s → is_clashed s ≡ false) → KeepsSolutions net s
    keeps_solutions below some calm =
        record {
          never_out = λ vs sol obeys p h e.
              (never_marked_out net s.clauses s.decisions vs faithful (within_is w) sol obeys).1 p h
              (mark_is s.clauses refl p (get_or vs p 0) ∙ told_is s p (get_or vs p 0) Out (calm_by vs sol obeys) (there p (get_or vs p 0) (sol.valid p h)) e);
          no_clash = calm_by;
          full = λ all.
              let q = calm all in
              let marked : (p v : ℕ) → v < count net.counts p → (mark_at s p v ≡ In) ⊎ (mark_at s p v ≡ Out) =
              λ p v h. ⊎_elim (λ e. inl (told_is s p v In q (there p v h) e)) (λ e. inr (told_is s p v Out q (there p v h) e)) (all p v h) in
              let r = makes_the_solution_in net s.clauses s.decisions faithful
              (subst (λ ks. Within (total ks) s.clauses) (sym same) below) some (clash_is s.clauses refl ∙ q)
              (λ n h o. let a = find_place net.counts n h in
              not_open (mark_at s a.0 a.1) (marked a.0 a.1 a.3) (sym (mark_is s.clauses refl a.0 a.1) ∙ subst (λ k. mark s.clauses (total net.counts) s.decisions k ≡ Open) a.4 o)) in (
                r.0,
                r.1,
                r.2,
                λ p v h. (
                  λ e. is_told s p v In q (there p v h) (sym (mark_is s.clauses refl p v) ∙ (r.3 p v h).0 e),
                  λ e. (r.3 p v h).1 (mark_is s.clauses refl p v ∙ told_is s p v In q (there p v h) e),
                ),
              );
        }

-- the same decisions in another order
pub answers_alike : (ps : List Entry) (cs : List (List ℕ)) (ds es : List ℕ) → Sound (values_of ps) ds → Sound (values_of ps) es → SameDecisions ds es →
    AnswersAlike (record { points = ps; clauses = cs; decisions = ds }) (record { points = ps; clauses = cs; decisions = es })
answers_alike ps cs ds es a b same =
    let ks = values_of ps in
    let s : State = record { points = ps; clauses = cs; decisions = ds } in
    let law = order_is_unseen cs (total ks) ds es same in
    record {
      marks = λ p v. λ i. checked (has_value s p v) (law.1 i) (Ok (law.2 (number ks p v) i));
      left = λ p. λ i. checked (has_point s p) (law.1 i) (Ok (length (filter (λ v. not (marks_out (law.2 (number ks p v) i))) (values ks p))));
      value = λ p. λ i. checked (has_point s p) (law.1 i) (Ok (first_of (λ v. marks_in (law.2 (number ks p v) i)) (values ks p)));
      decisions = omega (arith, no_longer ds es a.distinct (λ l. (same l).0), no_longer es ds b.distinct (λ l. (same l).1));
      clash = law.1;
    }

-- a part of a right run, from the opening, is right
front_exact : (ps : List Entry) (cs : List (List ℕ)) (xs before behind : List Exchange) → Exact ps cs xs → xs ≡ before ++ behind → Exact ps cs before
front_exact ps cs xs before behind f e = λ front x back q. f front x (back ++ behind) (e ∙ ap (λ zs. zs ++ behind) q ∙ append_assoc front (x ∷ back) behind)

-- a list with no member below 0 is empty
none_below : (ds : List ℕ) → DecisionsWithin 0 ds → ds ≡ []
none_below [] w = refl
none_below (l ∷ ds) w = let h = w l (inl refl) in absurd (omega arith)

-- in a clash no value is answered
refused_mark : (s : State) (p v : ℕ) (m : Mark) → is_clashed s ≡ true → v < count (counts_of s) p → mark_reply s p v ≡ Ok m → ⊥
refused_mark s p v m c h e =
    let t : mark_reply s p v ≡ Err Clashed = λ i. checked (lt-ltb v (count (counts_of s) p) h i) (c i) (Ok (mark_at s p v)) in
    let z : ◌≡◌ {A = ℕ} 0 1 = cc in omega arith

-- where every value is answered in or out there is no clash
calm_full : (net : Network) (s : State) → net.counts ≡ counts_of s → DecisionsWithin (total (counts_of s)) s.decisions → AllMarked net s → is_clashed s ≡ false
calm_full net s same w all = ⊎_elim empty some (cases_eq (total (counts_of s)) 0)
  where
    empty : total (counts_of s) ≡ 0 → is_clashed s ≡ false
    empty z =
        let ds_none = none_below s.decisions (subst (λ n. DecisionsWithin n s.decisions) z w) in
        λ i. clashed s.clauses (z i) (ds_none i)

    some : (total (counts_of s) ≡ 0 → ⊥) → is_clashed s ≡ false
    some ne =
        let a = find_place (counts_of s) 0 (omega (arith, ne)) in
        let h = subst (λ ks. a.1 < count ks a.0) (sym same) a.3 in
        ⊎_elim (λ c. absurd (⊎_elim (refused_mark s a.0 a.1 In c a.3) (refused_mark s a.0 a.1 Out c a.3) (all a.0 a.1 h))) (λ c. c)
        (cases_Bool (is_clashed s))

-- a run that is answered right keeps the promise
pub promise_of : (ps : List Entry) (cs : List (List ℕ)) (xs : List Exchange) → Within (total (values_of ps)) cs → NoneEmpty cs → Exact ps cs xs → Promise ps cs xs
promise_of ps cs xs below some f =
    record {
      exact = f;
      support = λ net proper same of before behind e.
          arc_consistent net (state_after ps cs before) same proper of (sound before behind e).within;
      faithful = λ net same faith before behind e.
          let s = state_after ps cs before in
          let w = (sound before behind e).within in
          keeps_solutions net s same faith w below some (calm_full net s same w);
      alike = λ ys g before behind e same.
          answers_alike ps cs (standing (values_of ps) [] before) (standing (values_of ps) [] ys) (sound before behind e) (sound_after ps cs ys g) same;
    }
  where
    sound : (before behind : List Exchange) → xs ≡ before ++ behind → Sound (values_of ps) (standing (values_of ps) [] before)
    sound before behind e = sound_after ps cs before (front_exact ps cs xs before behind f e)
