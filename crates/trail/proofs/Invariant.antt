-- A trail's own invariant, in hand.
use Rattle.std.proofs.Common.{◌≡◌, ℕ, ◌/◌, ◌<◌, ◌≤◌, map, length, vec_items, vec_capacity, sym, ◌∙◌, subst, arith}
use mathlib.Core.Logic.{∥∥₁_elim}
use denote.Struct.Props.{props}
use Rattle.std.specs.List.{range_with_len}
use Rattle.std.proofs.lemmas.List.{get_or_default, same_lists}
use Rattle.std.proofs.lemmas.List.FromFn.{length-map-range_with_len, get_or-map-range_with_len}
use Rattle.theory.specs.declared.Mark.TheVariants.{Open}
use Rattle.theory.specs.Lists.{◌∈◌}
use Rattle.theory.specs.Literals.{is_in, opposite}
use Rattle.theory.specs.Marks.{mark_of}
use Rattle.trail.specs.declared.trail.Trail.{Trail}
use Rattle.trail.specs.Marked.{Marked, Marked-prop}
use Rattle.trail.specs.Parts.{literals_of, values_of}
use Rattle.trail.proofs.Truths.{open_mark}
use Rattle.trail.proofs.Marking.{consistent, room_left, mark_is}

pub marked_of : (s : Trail) → Marked (vec_capacity s.literals) (literals_of s) (vec_items s.marks)
marked_of s = ∥∥₁_elim s.ok (Marked-prop (hlevel props) (hlevel props) (hlevel props) (hlevel props) (hlevel props) (hlevel props)) (λ k. k)

-- a trail has at most a literal for each value
pub trail_short : (s : Trail) → length (literals_of s) ≤ values_of s
trail_short s = let k = marked_of s in omega (arith, s.marks.ok.0, k.room)

-- a trail by which a value is open has fewer
pub trail_shorter : (s : Trail) (v : ℕ) → v < values_of s → mark_of (literals_of s) v ≡ Open → length (literals_of s) < values_of s
trail_shorter s v h e =
    let half : v ≡ is_in v / 2 = omega arith in
    let f = open_mark (literals_of s) (is_in v) (subst (λ x. mark_of (literals_of s) x ≡ Open) half e) in
    omega (arith, s.marks.ok.0, room_left _ _ _ (marked_of s) (is_in v) (omega (arith, s.marks.ok.0)) f)

-- no literal of a trail stands there with its opposite
pub trail_apart : (s : Trail) (l : ℕ) → l ∈ literals_of s → opposite l ∈ literals_of s → ⊥
trail_apart s = consistent _ _ _ (marked_of s)

-- the marks are those of the values, in order
pub all_marks : (s : Trail) → vec_items s.marks ≡ map (mark_of (literals_of s)) (range_with_len 0 (values_of s))
all_marks s =
    let ms = vec_items s.marks in
    let n = s.marks.ok.0 in
    same_lists ms _ (sym n ∙ sym (length-map-range_with_len (mark_of (literals_of s)) 0 (values_of s)))
    (λ i d h. get_or_default ms i d Open h ∙ mark_is _ _ _ (marked_of s) i ∙
    sym (get_or-map-range_with_len (mark_of (literals_of s)) 0 (values_of s) i i d (omega (arith, n)) (omega arith)))
