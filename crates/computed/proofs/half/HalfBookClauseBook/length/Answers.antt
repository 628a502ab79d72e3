use Rattle.std.proofs.Common.{length, rules}
use Rattle.partners.specs.Ends.{half_of}
use Rattle.computed.proofs.Named.{read_named}
use Rattle.computed.proofs.half.HalfBookClauseBook.length.Goals as goal

pub returns : goal.returns
returns c =
    read_named (half_of c.args.self.now.end) c.args.i c.clause.result c.as_ref.result c.as_ref.ensures.value c.clause.ensures
    length _ c.map_or.result (λ id k. search rules) c.map_or.ensures
