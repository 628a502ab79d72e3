use Rattle.std.proofs.Common.{ℕ, ◌^◌, ◌<◌, List, drop, Ok, vec_items, sym, subst₂, subst, rules}
use Rattle.theory.specs.declared.Side.TheVariants.{Lower, Higher}
use Rattle.network.specs.Contents.{meaning}
use Rattle.network.specs.Points.{counts_of}
use Rattle.network.specs.Tables.{table_of}
use Rattle.network.proofs.Properness.{few_values}
use Rattle.books.specs.Stored.{words_needed}
use Rattle.books.specs.Storing.{Holds, Stores, StoresBoth}
use Rattle.books.proofs.Reading.{stored_is, stored_says}
use Rattle.partners.specs.Ends.{half_of}
use Rattle.computed.specs.declared.half.HalfBook.{HalfBook}
use Rattle.computed.specs.Scores.{half_at}
use Rattle.writers.proofs.Sizes.{few_half_words}
use Rattle.writers.proofs.halving.write_halves.Goals as goal

-- what stands in words after storing is a stored book of the clauses
holds : (cs : List (List ℕ)) (old new : List ℕ) (n : ℕ) → Stores cs old new (Ok n) → Holds cs new
holds cs old new n s = subst (Holds cs) (sym s.2) (stored_is cs (drop n old), stored_says cs (drop n old))

-- a half has few words
few_words : (b : HalfBook) → words_needed (half_of b.end) < 2 ^ 32
few_words b = few_half_words b.end.side (counts_of b.end.points.now) (table_of b.end.table.now) (few_values (vec_items b.end.points.now.points))

pub store_both-requires : goal.store_both-requires
store_both-requires c = search (rules, few_words c.in_ok-lower.lower, few_words c.in_ok-lower.higher)

pub returns-clause-books : goal.returns-clause-books
returns-clause-books c =
    let net = meaning c.args.network.now in
    let found = c.in_ok-lower.ensures in
    let both = subst₂ (λ cs ds. StoresBoth cs ds c.args.low.now c.store_both.new.low c.args.high.now c.store_both.new.high (Ok c.in_ok-taken.taken)) found.1 found.2 c.in_ok-taken.ensures in (
      holds (half_at net Lower c.args.table) c.args.low.now c.store_both.new.low c.in_ok-taken.taken.0 both.0,
      holds (half_at net Higher c.args.table) c.args.high.now c.store_both.new.high c.in_ok-taken.taken.1 both.1,
    )
