use Rattle.std.proofs.Common.{map, vec_items, ap}
use Rattle.encodings.specs.ClauseLists.{clauses_of}
use Rattle.encodings.proofs.Growing.{behind_nothing}
use Rattle.encodings.proofs.encoder.of_points.Goals as goal

pub returns : goal.returns
returns c =
    behind_nothing _ _ _ (clauses_of c.at_least_one.new.out) (clauses_of c.at_most_one.new.out)
    (ap (map vec_items) c.new-out.ensures.items) c.in_ok-at_least_one.ensures c.in_ok-at_most_one.ensures
