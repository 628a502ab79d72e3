use Rattle.std.proofs.Common.{sym, ◌∙◌}
use Rattle.network.specs.Points.{counts_of}
use Rattle.network.specs.Tables.{table_of}
use Rattle.computed.proofs.Measured.{half_length}
use Rattle.computed.proofs.half.HalfBookClauseBook.count.Goals as goal

pub returns : goal.returns
returns c = let e = c.args.self.now.end in c.values.ensures.value ∙ sym (half_length (counts_of e.points.now) e.side (table_of e.table.now))
