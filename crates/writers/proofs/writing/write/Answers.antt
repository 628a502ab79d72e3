use Rattle.std.proofs.Common.{vec_items, OnOk, subst₂}
use Rattle.theory.specs.Encodings.{clauses}
use Rattle.books.specs.Storing.{Holds}
use Rattle.network.specs.Contents.{meaning}
use Rattle.network.proofs.Properness.{few_values, few_points, few_tables}
use Rattle.writers.proofs.Sizes.{few_words}
use Rattle.writers.proofs.writing.write.Goals as goal

pub store-requires : goal.store-requires
store-requires c =
    let net = c.new-book.result.network.now in
    few_words c.new-book.result.encoding (meaning net) (few_values (vec_items net.points.points)) (few_points net.points) (few_tables net)

pub returns-clause-book : goal.returns-clause-book
returns-clause-book c =
    let w = c.store.new.words in
    let r = c.store.result in
    subst₂ (λ e n. OnOk r (Holds (clauses e (meaning n)) w)) c.new-book.ensures.encoding c.new-book.ensures.network c.store.ensures.book
