use Rattle.std.proofs.Common.{refl, arith, rules}
use borrow.Author.Tests.{tests}
use Rattle.std.proofs.lemmas.Iterator.{YieldsList-from_range, cases_from_all}
use Rattle.books.proofs.Words.{Lies, stored_exactly}
use Rattle.books.proofs.stored.is_stored.Goals as goal

pub returns-then-count-words : goal.returns-then-count-words
returns-then-count-words c =
    let ws = c.args.words.now in
    let n = c.word-count.result in
    stored_exactly ws n c.word-count.ensures c.if-count-words.true c.all.result
    (cases_from_all _ _ _ (Lies ws) (λ i. Lies ws i → ⊥) c.all.ensures.ran (YieldsList-from_range 0 n n refl (omega arith))
    (λ x q k. search (rules, tests)) (λ x q k. search (rules, tests)))
