use Rattle.std.proofs.Common.{◌≤◌, vec_capacity, sym, subst₂}
use Rattle.trail.specs.Marked.{Marked}
use Rattle.trail.proofs.Marking.{marked_none}
use Rattle.trail.proofs.trail.Trail.new.Goals as goal

pub invariant_of-result : goal.invariant_of-result
invariant_of-result c =
    let cap = vec_capacity c.in_ok-literals.literals in
    let h : c.args.values ≤ cap = c.in_ok-literals.ensures.capacity in
    let all = c.in_ok-marks.ensures.items_if_clones_equal (λ y e. e) in
    record { ok = ∣ subst₂ (λ t ms. Marked cap t ms) (sym c.in_ok-literals.ensures.items) (sym all) (marked_none cap c.args.values h) ∣₁ }
