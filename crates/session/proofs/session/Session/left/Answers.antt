use Rattle.std.proofs.Common.{◌≡◌, not, length, filter, Ok, rules, sym, ap, ◌∙◌}
use Rattle.std.specs.List.{count_by}
use Rattle.theory.specs.declared.Mark.{Mark}
use Rattle.theory.specs.Numbering.{values}
use Rattle.calls.specs.States.{counts_of, mark_at}
use Rattle.calls.specs.Replies.{checked, marks_out}
use Rattle.session.specs.Sessions.{state_of}
use Rattle.session.proofs.Searching.{answered, count_row}
use Rattle.session.proofs.session.Session.left.Goals as goal

pub returns : goal.returns
returns c =
    let s = state_of c.args.self.now in
    let p = c.args.point in
    let e : c.count.result ≡ count_by (λ (m : Mark). not (marks_out m)) c.in_ok-marks.marks.now = search rules in
    let a = answered _ _ _ _ c.in_ok-marks.ensures in
    ap Ok (e ∙ ap (count_by (λ (m : Mark). not (marks_out m))) (sym a.2) ∙ count_row (λ m. not (marks_out m)) (mark_at s p) (values (counts_of s) p)) ∙
    (λ i. checked (sym a.0 i) (sym a.1 i) (Ok (length (filter (λ v. not (marks_out (mark_at s p v))) (values (counts_of s) p)))))
