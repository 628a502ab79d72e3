use Rattle.std.proofs.Common.{rules}
use Rattle.network.specs.Points.{entries, values_of}
use Rattle.network.proofs.Lookups.{length_counts}
use Rattle.network.proofs.numbering.place.Goals as goal

pub returns : goal.returns
returns c =
    let ps = c.args.points.now in
    c.locate.ensures (values_of (entries ps)) (length_counts ps) (λ i r h k. search rules)
