use Rattle.std.proofs.Common.{length, rules}
use Rattle.theory.specs.Encodings.{clauses}
use Rattle.network.specs.Contents.{meaning}
use Rattle.computed.proofs.Named.{read_named}
use Rattle.computed.proofs.book.ComputedBookClauseBook.length.Goals as goal

pub returns : goal.returns
returns c =
    read_named (clauses c.args.self.now.encoding (meaning c.args.self.now.network.now)) c.args.i c.locate.result c.as_ref.result c.as_ref.ensures.value c.locate.ensures
    length _ c.map_or.result (λ id k. search rules) c.map_or.ensures
