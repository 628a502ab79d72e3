use Rattle.std.proofs.Common.{rules}
use Rattle.partners.specs.Ends.{half_of}
use Rattle.computed.proofs.Named.{read_literal}
use Rattle.computed.proofs.half.HalfBookClauseBook.literal.Goals as goal

pub returns : goal.returns
returns c =
    read_literal (half_of c.args.self.now.end) c.args.i c.clause.result c.as_ref.result c.as_ref.ensures.value c.clause.ensures
    c.args.j _ c.and_then.result (λ id k. search rules) c.and_then.ensures _ c.map_or.result (λ l k. search rules) c.map_or.ensures
