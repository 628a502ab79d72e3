use Rattle.std.proofs.Common.{rules}
use Rattle.theory.specs.Encodings.{clauses}
use Rattle.network.specs.Contents.{meaning}
use Rattle.computed.proofs.Named.{read_literal}
use Rattle.computed.proofs.book.ComputedBookClauseBook.literal.Goals as goal

pub returns : goal.returns
returns c =
    read_literal (clauses c.args.self.now.encoding (meaning c.args.self.now.network.now)) c.args.i c.locate.result c.as_ref.result c.as_ref.ensures.value c.locate.ensures
    c.args.j _ c.and_then.result (λ id k. search rules) c.and_then.ensures _ c.map_or.result (λ l k. search rules) c.map_or.ensures
