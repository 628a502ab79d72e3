use Rattle.std.proofs.Common.{vec_items, arith}
use Rattle.clause_store.proofs.Parts.{length_parts}
use Rattle.clause_store.proofs.flat.FlatClauses.count.Goals as goal

pub returns : goal.returns
returns c =
    let f = c.args.self.now in
    omega (arith, length_parts (vec_items f.literals) (vec_items f.starts), c.len.ensures, c.saturating_sub.ensures, f.starts.ok.0)
