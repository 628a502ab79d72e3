-- What a value that was found says of the propagator within a session.
use Rattle.std.proofs.Common.{◌≡◌, ℕ, zero, suc, ◌+◌, ◌-◌, ◌<◌, ◌≤◌, ◌^◌, Bool, true, false, cond, nat_lt, Some, None, List, [], ◌∷◌, map, length, get_or, take, drop, vec_items, vec_len, Ok, Result, sym, refl, ap, ◌∙◌, arith}
use Rattle.std.specs.List.{range_with_len}
use Rattle.std.proofs.lemmas.List.{length-map, length-take, length-drop, get_or-take, get_or-drop, same_lists}
use Rattle.std.proofs.lemmas.List.FromFn.{length-map-range_with_len, get_or-map-range_with_len}
use Rattle.std.proofs.lemmas.Bool.{ltb-true, lt-ltb}
use Rattle.theory.specs.declared.Mark.{Mark}
use Rattle.theory.specs.Marks.{clashed, mark}
use Rattle.theory.specs.Numbering.{count, offset, total, number}
use Rattle.theory.proofs.Numbering.{number_below}
use Rattle.network.specs.declared.point.Point.{Point}
use Rattle.network.specs.Points.{entry_of, entries, values_of, number_at}
use Rattle.network.proofs.Properness.{few_total}
use Rattle.propagator.specs.States.{state_of as inner_of, has_clash, mark_in, known_mark, known_marks}
use Rattle.propagator.proofs.Invariant.{known, marks_known}
use Rattle.calls.specs.declared.refusal.CallRefusal.{CallRefusal}
use Rattle.calls.specs.States.{counts_of, is_clashed, mark_at, has_point, has_value}
use Rattle.calls.specs.Replies.{checked}
use Rattle.session.specs.declared.session.Session.{Session}
use Rattle.session.specs.Sessions.{state_of, marks_of, marks_reply}

-- the values of a point end before or with the last
part_within : (ks : List ℕ) (p : ℕ) → offset ks p + count ks p ≤ total ks
part_within [] p = omega arith
part_within (k ∷ ks) zero = omega arith
part_within (k ∷ ks) (suc p) = let r = part_within ks p in omega arith

module _ (s : Session) where
  -- the propagator's clash is the session's
  pub clash_same : is_clashed (state_of s) ≡ has_clash (inner_of s.inner)
  clash_same = ap (λ n. clashed (inner_of s.inner).clauses n (inner_of s.inner).decisions) s.sized

  -- and so are its marks
  pub mark_same : (p v n : ℕ) → n ≡ number (counts_of (state_of s)) p v → mark_at (state_of s) p v ≡ mark_in (inner_of s.inner) n
  mark_same p v n e = λ i. mark (inner_of s.inner).clauses (s.sized i) (inner_of s.inner).decisions (sym e i)

  -- how many points there are
  pub many_points : length (state_of s).points ≡ vec_len s.points
  many_points = length-map (vec_items s.points) entry_of ∙ sym s.points.ok.0

  -- where a point is there and no clash, the answer is given
  pub point_calm : {A : Type 0} (p : ℕ) (r : Result A CallRefusal) → p < vec_len s.points → has_clash (inner_of s.inner) ≡ false → r ≡ checked (has_point (state_of s) p) (is_clashed (state_of s)) r
  point_calm p r h c =
      let e = lt-ltb p (length (state_of s).points) (omega (arith, many_points)) in
      let d = sym c ∙ sym clash_same in
      λ i. checked (sym e i) (d i) r

  -- there are at most 768 values
  pub few_all : total (counts_of (state_of s)) ≤ 768
  few_all = omega (arith, few_total (vec_items s.points), s.few, s.points.ok.0)

  -- the number of a value whose mark is known is small
  pub known_small : (n : ℕ) (m : Mark) → known_mark (inner_of s.inner) n ≡ Some m → n < 2 ^ 31
  known_small n m e = omega (arith, (known (inner_of s.inner) n m e).1, few_all, s.sized)

  -- where the mark of a value that is there is not known there is a clash
  pub unknown_clash : (p v n : ℕ) → number_at (counts_of (state_of s)) p v ≡ Some n → known_mark (inner_of s.inner) n ≡ None → (has_value (state_of s) p v ≡ true) × (is_clashed (state_of s) ≡ true)
  unknown_clash p v n e u = go (has_value (state_of s) p v) (is_clashed (state_of s)) refl refl e
    where
      go :
          (a b : Bool) → has_value (state_of s) p v ≡ a → is_clashed (state_of s) ≡ b → cond a (Some (number (counts_of (state_of s)) p v)) None ≡ Some n →
          (has_value (state_of s) p v ≡ true) × (is_clashed (state_of s) ≡ true)
      go false b h k q = absurd cc
      go true true h k q = (h, k)
      go true false h k q =
          let is : number (counts_of (state_of s)) p v ≡ n = cc in
          let below = number_below (counts_of (state_of s)) p v (ltb-true _ _ h) in
          let calm : has_clash (inner_of s.inner) ≡ false = sym clash_same ∙ k in
          let there : nat_lt n (inner_of s.inner).values ≡ true = lt-ltb _ _ (omega (arith, is, below, s.sized)) in
          let z : None ≡ Some (mark_in (inner_of s.inner) n) = sym u ∙ (λ i. cond (calm i) None (cond (there i) (Some (mark_in (inner_of s.inner) n)) None)) in
          absurd cc

  -- the marks of a point's values are `many` of all marks, from the place `first` on
  module _ (p first many : ℕ) (ps qs : List Point) (ms : List Mark) (is : ps ≡ vec_items s.points) (are : qs ≡ vec_items s.points)
      (begins : first ≡ offset (values_of (entries ps)) p) (counts : many ≡ count (values_of (entries qs)) p) (known : known_marks (inner_of s.inner) ≡ Some ms) where
    from : first ≡ offset (counts_of (state_of s)) p
    from = begins ∙ ap (λ ps. offset (values_of (entries ps)) p) is

    long : many ≡ count (counts_of (state_of s)) p
    long = counts ∙ ap (λ ps. count (values_of (entries ps)) p) are

    values_below : first + many ≤ (inner_of s.inner).values
    values_below = omega (arith, from, long, part_within (counts_of (state_of s)) p, s.sized)

    calm : has_clash (inner_of s.inner) ≡ false
    calm = (marks_known (inner_of s.inner) ms known).0

    all : ms ≡ map (mark_in (inner_of s.inner)) (range_with_len 0 (inner_of s.inner).values)
    all = (marks_known (inner_of s.inner) ms known).1

    pub within_marks : first + many ≤ length ms
    within_marks = omega (arith, values_below, ap length all, length-map-range_with_len (mark_in (inner_of s.inner)) 0 (inner_of s.inner).values)

    mark_read : (k : ℕ) (d : Mark) → k < many → get_or (take many (drop first ms)) k d ≡ mark_at (state_of s) p k
    mark_read k d h =
        get_or-take many (drop first ms) k d h ∙ get_or-drop first ms k d ∙ ap (λ xs. get_or xs (first + k) d) all ∙
        get_or-map-range_with_len (mark_in (inner_of s.inner)) 0 (inner_of s.inner).values (first + k) (first + k) d (omega (arith, values_below)) (omega arith) ∙
        sym (mark_same p k (first + k) (ap (λ n. n + k) from))

    marks_part : take many (drop first ms) ≡ marks_of (state_of s) p
    marks_part =
        let n : length (take many (drop first ms)) ≡ many = omega (arith, length-take many (drop first ms), length-drop first ms, within_marks) in
        same_lists _ _ (n ∙ long ∙ sym (length-map-range_with_len (mark_at (state_of s) p) 0 (count (counts_of (state_of s)) p)))
        (λ k d h. mark_read k d (omega (arith, n)) ∙
        sym (get_or-map-range_with_len (mark_at (state_of s) p) 0 (count (counts_of (state_of s)) p) k k d (omega (arith, n, long)) (omega arith)))

    -- so they are the answer
    pub marks_answered : p < vec_len s.points → marks_reply (state_of s) p ≡ Ok (take (first + many - first) (drop first ms))
    marks_answered h =
        let n : first + many - first ≡ many = omega arith in
        sym (point_calm p _ h calm) ∙ ap Ok (sym marks_part ∙ ap (λ k. take k (drop first ms)) (sym n))
