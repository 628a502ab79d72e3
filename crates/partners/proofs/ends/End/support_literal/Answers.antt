use Rattle.std.proofs.Common.{arith}
use Rattle.std.proofs.lemmas.Grind.{common_steps}
use Rattle.std.proofs.lemmas.Option.{slice_get-map}
use Rattle.partners.proofs.ends.End.support_literal.Goals as goal

pub returns : goal.returns
returns c = grind (arith, common_steps, slice_get-map)
