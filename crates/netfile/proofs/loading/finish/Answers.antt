use Rattle.std.proofs.Common.{vec_items, sym, subst}
use Rattle.network.specs.Points.{values_of}
use Rattle.network.specs.Tables.{tables_of, TablesWithin}
use Rattle.netfile.proofs.loading.finish.Goals as goal

pub assemble-requires-clause-within : goal.assemble-requires-clause-within
assemble-requires-clause-within c =
    let same = rw c.unwrap-points.ensures at c.new.ensures in
    subst (λ es. TablesWithin (values_of es) (tables_of (vec_items c.args.draft.tables))) (sym same) c.requires.within
