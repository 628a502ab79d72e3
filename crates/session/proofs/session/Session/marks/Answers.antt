use Rattle.std.proofs.Common.{◌≡◌, Some, rules, arith}
use Rattle.propagator.specs.States.{state_of, known_marks}
use Rattle.session.proofs.Finding.{within_marks, marks_answered}
use Rattle.session.proofs.session.Session.marks.Goals as goal

pub slice_bounds-result-end : goal.slice_bounds-result-end
slice_bounds-result-end c =
    let s = c.args.self.now in
    let ms = c.in_ok-marks.marks.now in
    let e : known_marks (state_of s.inner) ≡ Some ms = search rules in
    within_marks s c.args.point _ _ _ _ ms c.deref.ensures.value c.deref-2.ensures.value c.offset-first.ensures.value c.count-count.ensures.value e

pub returns : goal.returns
returns c =
    let s = c.args.self.now in
    let ms = c.in_ok-marks.marks.now in
    let e : known_marks (state_of s.inner) ≡ Some ms = search rules in
    marks_answered s c.args.point _ _ _ _ ms c.deref.ensures.value c.deref-2.ensures.value c.offset-first.ensures.value c.count-count.ensures.value e
    (omega (arith, c.len.ensures, c.if-point-len.false))
