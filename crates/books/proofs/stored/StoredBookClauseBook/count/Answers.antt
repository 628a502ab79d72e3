use Rattle.std.proofs.Common.{◌∙◌}
use Rattle.books.proofs.Words.{many}
use Rattle.books.proofs.stored.StoredBookClauseBook.count.Goals as goal

pub returns : goal.returns
returns c = c.word.ensures ∙ many c.args.self.now.words.now
