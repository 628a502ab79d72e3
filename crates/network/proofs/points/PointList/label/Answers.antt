use Rattle.std.proofs.Common.{rules}
use Rattle.network.proofs.Lookups.{label_at_lem, label_past}
use Rattle.network.proofs.points.PointList.label.Goals as goal

pub returns-in_err-get : goal.returns-in_err-get
returns-in_err-get c = search (rules, label_past)

pub returns : goal.returns
returns c = search (rules, label_at_lem)
