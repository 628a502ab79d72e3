use Rattle.session.proofs.Finding.{known_small}
use Rattle.session.proofs.session.Session.choose.Goals as goal

pub is_in-requires : goal.is_in-requires
is_in-requires c = known_small c.args.self.now _ _ c.in_ok-n.ensures.known
