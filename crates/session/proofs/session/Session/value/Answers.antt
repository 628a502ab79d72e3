use Rattle.std.proofs.Common.{◌≡◌, Ok, rules, sym, ap, ◌∙◌}
use Rattle.std.specs.List.{position}
use Rattle.std.proofs.lemmas.Iterator.Adapters.{position_from-zero}
use Rattle.std.proofs.lemmas.Iterator.{YieldsList-from_slice}
use Rattle.std.proofs.lemmas.Iterator.Search.{position_from_yields_List}
use Rattle.theory.specs.Numbering.{count, values}
use Rattle.calls.specs.States.{counts_of, mark_at}
use Rattle.calls.specs.Replies.{checked, marks_in, first_of}
use Rattle.session.specs.Sessions.{state_of}
use Rattle.session.proofs.Searching.{answered, position_row}
use Rattle.session.proofs.session.Session.value.Goals as goal

pub returns : goal.returns
returns c =
    let s = state_of c.args.self.now in
    let p = c.args.point in
    let ms = c.in_ok-marks.marks.now in
    let e : c.position.result ≡ position marks_in ms =
    position_from_yields_List marks_in _ _ _ c.position.ensures.ran (YieldsList-from_slice ms cc) (λ x b q k. search rules) in
    let a = answered _ _ _ _ c.in_ok-marks.ensures in
    ap Ok (e ∙ ap (position marks_in) (sym a.2) ∙ position_from-zero marks_in _ ∙ position_row marks_in (mark_at s p) 0 (count (counts_of s) p)) ∙
    (λ i. checked (sym a.0 i) (sym a.1 i) (Ok (first_of (λ v. marks_in (mark_at s p v)) (values (counts_of s) p))))
