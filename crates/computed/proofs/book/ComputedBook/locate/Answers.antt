use Rattle.std.proofs.Common.{◌≡◌, ◌-◌, length, Some, slice_get, sym, ap, ◌∙◌, arith}
use Rattle.std.specs.List.{flat_map}
use Rattle.std.proofs.lemmas.List.FromFn.{length-map-range_with_len}
use Rattle.theory.specs.Encodings.{some_clause, at_least_one, at_most_one, table_clauses}
use Rattle.network.specs.Contents.{meaning}
use Rattle.network.specs.Points.{counts_of}
use Rattle.computed.proofs.Mapped.{mapped_get}
use Rattle.computed.proofs.ThreeParts.{in_first, in_second, in_third}
use Rattle.computed.proofs.book.ComputedBook.locate.Goals as goal

pub returns-then-i-some : goal.returns-then-i-some
returns-then-i-some c =
    let b = c.args.self.now in
    let net = meaning b.network.now in
    let ks = net.counts in
    let i = c.args.i in
    let n = length ks in
    let long = length-map-range_with_len (some_clause ks) 0 n in
    let few = ap (λ ps. length (counts_of ps)) c.points-points.ensures in
    ap (λ ps. Some (some_clause (counts_of ps) i)) c.points-points.ensures ∙
    sym (in_first (at_least_one ks) (at_most_one ks) (flat_map (table_clauses b.encoding ks) net.tables) i n long (omega arith) ∙
    mapped_get (some_clause ks) n i (omega arith))

pub returns-then-i-some-2 : goal.returns-then-i-some-2
returns-then-i-some-2 c =
    let b = c.args.self.now in
    let net = meaning b.network.now in
    let ks = net.counts in
    let i = c.args.i in
    let n = c.len-some.result in
    let long : length (at_least_one ks) ≡ n =
    length-map-range_with_len (some_clause ks) 0 (length ks) ∙ sym (c.len-some.ensures ∙ ap (λ ps. length (counts_of ps)) c.points-points.ensures) in
    c.at_most_one.ensures ∙
    ap (λ ps. slice_get (at_most_one (counts_of ps)) (i - n)) c.points-points.ensures ∙
    sym (in_second (at_least_one ks) (at_most_one ks) (flat_map (table_clauses b.encoding ks) net.tables) i n long (omega arith) (omega (arith, b.paired)))

pub returns : goal.returns
returns c =
    let b = c.args.self.now in
    let net = meaning b.network.now in
    let ks = net.counts in
    let i = c.args.i in
    let n = c.len-some.result in
    let long : length (at_least_one ks) ≡ n =
    length-map-range_with_len (some_clause ks) 0 (length ks) ∙ sym (c.len-some.ensures ∙ ap (λ ps. length (counts_of ps)) c.points-points.ensures) in
    let m = b.pairs in
    let many : length (at_most_one ks) ≡ m = sym b.paired in
    c.table_clause.ensures ∙
    sym (in_third (at_least_one ks) (at_most_one ks) (flat_map (table_clauses b.encoding ks) net.tables) i n long m many (omega arith) (omega arith))
