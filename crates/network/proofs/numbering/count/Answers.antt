use Rattle.std.proofs.Common.{rules}
use Rattle.network.proofs.Lookups.{count_at, count_past}
use Rattle.network.proofs.numbering.count.Goals as goal

pub returns-clause-value : goal.returns-clause-value
returns-clause-value c = search (rules, count_at, count_past)
