use Rattle.std.proofs.Common.{get_or, ap, arith}
use Rattle.books.proofs.Words.{many}
use Rattle.books.proofs.halves.better.Goals as goal

pub scores-side-requires-clause-low : goal.scores-side-requires-clause-low
scores-side-requires-clause-low c =
    let b = c.in_ok-lower.lower.words.now in
    let t = c.in_ok-lower.ensures.1 in
    omega (arith, many b, ap (λ ws. get_or ws 0 0) t, c.type_inv.low 0)

pub scores-side-requires-clause-high : goal.scores-side-requires-clause-high
scores-side-requires-clause-high c =
    let b = c.in_ok-higher.higher.words.now in
    let t = c.in_ok-higher.ensures.1 in
    omega (arith, many b, ap (λ ws. get_or ws 0 0) t, c.type_inv.high 0)
