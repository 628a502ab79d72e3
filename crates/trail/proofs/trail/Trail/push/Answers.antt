use Rattle.std.proofs.Common.{◌*◌, ◌/◌, ◌<◌, length, set, vec_items, sym, ap, ◌∙◌, subst₂, arith}
use Rattle.trail.specs.Marked.{Marked, code}
use Rattle.trail.proofs.Marking.{code_given, room_for, marked_push}
use Rattle.trail.proofs.Invariant.{marked_of}
use Rattle.trail.proofs.trail.Trail.push.Goals as goal

pub push_reserved-requires : goal.push_reserved-requires
push_reserved-requires c =
    let s = c.args.self.now in
    let h : c.args.literal < 2 * length (vec_items s.marks) = omega (arith, c.requires.within) in
    omega (arith, room_for _ _ _ (marked_of s) c.args.literal h c.requires.fresh)

pub invariant_of-self : goal.invariant_of-self
invariant_of-self c =
    let s = c.args.self.now in
    let l = c.args.literal in
    let m = c.mark.result in
    let h : l < 2 * length (vec_items s.marks) = omega (arith, c.requires.within) in
    let k = marked_push _ _ _ (marked_of s) l m h c.requires.fresh (ap code c.mark.ensures ∙ code_given l) in
    record {
      ok = ∣ rw c.value.ensures (subst₂ (λ a t. Marked a t (set (vec_items s.marks) (l / 2) m)) (sym c.push_reserved.ensures.capacity) (sym c.push_reserved.ensures.items) k) ∣₁;
    }
