use Rattle.std.proofs.Common.{arith}
use Rattle.std.proofs.lemmas.Grind.{common_steps}
use Rattle.std.proofs.lemmas.List.FromFn.{length-map-range_with_len}
use Rattle.computed.proofs.id.ClauseId.length.Goals as goal

pub returns-in-SomeOf : goal.returns-in-SomeOf
returns-in-SomeOf c = grind (arith, common_steps, length-map-range_with_len)
