use Rattle.std.proofs.Common.{rules}
use Rattle.network.proofs.Properness.{proper}
use Rattle.network.proofs.network.Network.tables.Goals as goal

pub returns : goal.returns
returns c = record { value = search rules; proper = proper c.args.self.now }
