use Rattle.std.proofs.Common.{length, ap, arith}
use Rattle.std.specs.List.{flat_map}
use Rattle.std.proofs.lemmas.List.FromFn.{length-map-range_with_len}
use Rattle.theory.specs.Encodings.{some_clause, at_least_one, at_most_one, table_clauses}
use Rattle.network.specs.Contents.{meaning}
use Rattle.network.specs.Points.{counts_of}
use Rattle.computed.proofs.ThreeParts.{three_lengths}
use Rattle.computed.proofs.book.ComputedBookClauseBook.count.Goals as goal

pub returns : goal.returns
returns c =
    let b = c.args.self.now in
    let net = meaning b.network.now in
    let ks = net.counts in
    let f = table_clauses b.encoding ks in
    let some = ap (λ ps. length (counts_of ps)) c.points.ensures in
    omega (arith, b.paired, three_lengths (at_least_one ks) (at_most_one ks) (flat_map f net.tables), length-map-range_with_len (some_clause ks) 0 (length ks))
