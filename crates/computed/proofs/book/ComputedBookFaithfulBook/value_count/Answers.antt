use Rattle.theory.proofs.Encoded.{is_faithful}
use Rattle.network.specs.Contents.{meaning}
use Rattle.network.proofs.Properness.{proper}
use Rattle.computed.proofs.book.ComputedBookFaithfulBook.value_count.Goals as goal

pub returns-clause-faithful : goal.returns-clause-faithful
returns-clause-faithful c = let b = c.args.self.now in is_faithful b.encoding (meaning b.network.now) (proper b.network.now)
