use Rattle.std.proofs.Common.{sym, subst}
use Rattle.theory.specs.Literals.{Within}
use Rattle.clause_store.specs.Index.{NoneBare}
use Rattle.clause_store.proofs.Gathering.{fit_within}
use Rattle.clause_store.proofs.store.ClauseStore.read.Goals as goal

pub index-requires : goal.index-requires
index-requires g c =
    let cs = g.B.ClauseBook.clauses c.args.book.now in
    let k = c.in_ok-clauses.ensures in
    subst (Within c.args.values) (sym k.clauses) (fit_within c.args.values cs k.fit)

pub invariant_of-result : goal.invariant_of-result
invariant_of-result g c =
    let cs = g.B.ClauseBook.clauses c.args.book.now in
    let k = c.in_ok-clauses.ensures in
    record {
      within = subst (Within c.args.values) (sym k.clauses) (fit_within c.args.values cs k.fit);
      filled = subst NoneBare (sym k.clauses) (λ i h. (k.fit.each i h).some);
      wide = c.in_ok-holders.ensures.wide;
      indexed = c.in_ok-holders.ensures.exact;
    }
