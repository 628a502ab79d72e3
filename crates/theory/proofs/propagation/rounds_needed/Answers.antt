use Rattle.std.proofs.Common.{refl}
use Rattle.theory.proofs.Order.{order_is_unseen}
use Rattle.theory.proofs.Reaching.{rounds_suffice, clash_is_opposites}
use Rattle.theory.proofs.propagation.rounds_needed.Goals as goal

pub returns : goal.returns
returns c = record { value = refl; law = rounds_suffice c.args.values; clash = clash_is_opposites; order = order_is_unseen }
