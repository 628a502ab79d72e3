use Rattle.std.proofs.Common.{◌++◌, map, length, codes, ap, subst, arith}
use Rattle.std.proofs.lemmas.List.{length-append}
use Rattle.page.specs.Pages.{sign_text}
use Rattle.page.specs.Writing.{Placed}
use Rattle.page.proofs.Joining.{placed_both}
use Rattle.page.proofs.lines.write_line.Goals as goal

pub returns : goal.returns
returns c =
    let signs = map sign_text c.args.marks.now in
    let rest = codes " " ++ (signs ++ codes "\n") in
    let room = c.requires in
    let label = c.label.ensures in
    let long = length-append c.args.point.now.label rest in
    let third = placed_both signs (codes "\n") _ _ _ _ _ _ (omega (arith, ap length label, long)) c.write_signs-at.ensures c.write_bytes.ensures in
    let second = placed_both (codes " ") (signs ++ codes "\n") _ _ _ _ _ _ (omega (arith, ap length label, long)) c.write_bytes-at-2.ensures third in
    let first = placed_both c.label.result rest _ _ _ _ _ _ (omega (arith, long)) c.write_bytes-at.ensures second in
    subst (λ t. Placed (t ++ rest) c.args.at c.args.out.now c.write_bytes.new.out c.write_bytes.result) label first
