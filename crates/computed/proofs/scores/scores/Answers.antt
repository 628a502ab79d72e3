use Rattle.std.proofs.Common.{◌^◌, ◌<◌, length, vec_items, arith}
use Rattle.partners.specs.Ends.{half_of}
use Rattle.theory.specs.Network.{near}
use Rattle.network.specs.Points.{counts_of}
use Rattle.network.specs.Tables.{table_of}
use Rattle.network.proofs.Properness.{few_values}
use Rattle.computed.specs.declared.half.HalfBook.{HalfBook}
use Rattle.computed.proofs.Measured.{half_length}
use Rattle.computed.proofs.scores.scores.Goals as goal

-- a half has few clauses
few_clauses : (b : HalfBook) → length (half_of b.end) < 2 ^ 32
few_clauses b =
    let t = table_of b.end.table.now in
    omega (arith, half_length (counts_of b.end.points.now) b.end.side t, few_values (vec_items b.end.points.now.points) (near b.end.side t))

pub scores-requires-clause-low : goal.scores-requires-clause-low
scores-requires-clause-low c = few_clauses c.args.lower.now

pub scores-requires-clause-high : goal.scores-requires-clause-high
scores-requires-clause-high c = few_clauses c.args.higher.now
