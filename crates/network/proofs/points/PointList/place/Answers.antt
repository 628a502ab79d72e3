use Rattle.std.proofs.Common.{◌≡◌, sym, ap, ◌∙◌, subst}
use Rattle.network.specs.Points.{entries, values_of, counts_of, Undone}
use Rattle.theory.specs.Numbering.{place}
use Rattle.network.proofs.Places.{place_undone, place_covers}
use Rattle.network.proofs.points.PointList.place.Goals as goal

pub returns : goal.returns
returns c =
    let is : c.place.result ≡ place (counts_of c.args.self.now) c.args.number =
    c.place.ensures ∙ ap (λ ps. place (values_of (entries ps)) c.args.number) c.deref.ensures.value in
    record {
      value = is;
      inverse = subst (Undone (counts_of c.args.self.now) c.args.number) (sym is) (place_undone (counts_of c.args.self.now) c.args.number);
      covers = place_covers (counts_of c.args.self.now);
    }
