use Rattle.std.proofs.Common.{◌≡◌, Some, sym, ap, ◌∙◌, arith}
use Rattle.theory.specs.Literals.{is_in}
use Rattle.theory.specs.Numbering.{count, number}
use Rattle.network.specs.Points.{counts_of}
use Rattle.computed.proofs.Mapped.{mapped_get, mapped_past}
use Rattle.computed.proofs.id.some_literal.Goals as goal

pub returns-then-j-count : goal.returns-then-j-count
returns-then-j-count c =
    let ks = counts_of c.args.points.now in
    let p = c.args.point in
    let is : c.is_in.result ≡ is_in (number ks p c.args.j) = omega arith in
    ap Some is ∙ sym (mapped_get (λ i. is_in (number ks p i)) (count ks p) c.args.j (omega arith))

pub returns-else-j-count : goal.returns-else-j-count
returns-else-j-count c =
    let ks = counts_of c.args.points.now in
    let p = c.args.point in
    sym (mapped_past (λ i. is_in (number ks p i)) (count ks p) c.args.j (omega arith))
