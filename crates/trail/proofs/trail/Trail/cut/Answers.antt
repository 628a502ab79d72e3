use Rattle.std.proofs.Common.{◌-◌, ◌++◌, length, take, drop, vec_items, vec_capacity, sym, refl, ap, ◌∙◌, subst, arith}
use Rattle.std.proofs.lemmas.List.{take_rest, take-append-drop}
use Rattle.trail.specs.Marked.{Marked}
use Rattle.trail.proofs.Marking.{marked_at, marked_here, marked_without}
use Rattle.trail.proofs.Invariant.{marked_of}
use Rattle.trail.proofs.trail.Trail.cut.Goals as goal

pub loop-literal-init : goal.loop-literal-init
loop-literal-init c =
    let s = c.args.self.now in
    let t = vec_items s.literals in
    let h = c.args.height in
    let rest = take_rest c.deref.result.now h ∙ ap (drop h) c.deref.ensures.value in
    record {
      values = refl;
      marked = subst (λ u. Marked (vec_capacity s.literals) u (vec_items s.marks)) (sym (ap (λ u. take h t ++ u) rest ∙ take-append-drop h t)) (marked_of s);
    }

pub index_mut-requires : goal.index_mut-requires
index_mut-requires c =
    let d = c.deref.result.now in
    let h = c.args.height in
    omega (
      arith,
      c.value.ensures,
      marked_here _ _ _ _ _ (marked_at _ _ (take (length d - h) (drop h d)) _ _ _ c.loop-literal-test.true c.literal-item.is c.loop-literal.invariant.marked),
      c.loop-literal.marks.ok.0,
    )

pub loop-literal-preserved : goal.loop-literal-preserved
loop-literal-preserved c =
    let d = c.deref.result.now in
    let h = c.args.height in
    record {
      values = c.loop-literal.invariant.values;
      marked =
          rw c.value.ensures
          (marked_without _ _ _ _ _ (marked_at _ _ (take (length d - h) (drop h d)) _ _ _ c.loop-literal-test.true c.literal-item.is c.loop-literal.invariant.marked));
    }
