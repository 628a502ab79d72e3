use Rattle.session.proofs.Finding.{known_small}
use Rattle.session.proofs.session.Session.bar.Goals as goal

pub is_out-requires : goal.is_out-requires
is_out-requires c = known_small c.args.self.now _ _ c.in_ok-n.ensures.known
