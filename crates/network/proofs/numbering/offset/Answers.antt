use Rattle.std.proofs.Common.{◌∙◌}
use Rattle.network.proofs.Places.{total_front_of}
use Rattle.network.proofs.numbering.offset.Goals as goal

pub returns : goal.returns
returns c =
    let ps = c.args.points.now in
    record {
      value = c.total.ensures.value ∙ total_front_of ps c.min.result c.args.point c.min.ensures;
      bound = c.total.ensures.bound;
    }
