use Rattle.std.proofs.Common.{◌≡◌, ℕ, ◌+◌, ◌<◌, ◌≤◌, [], ◌++◌, length, get_or, take, vec_items, sym, ap, ◌∙◌, arith, below_more}
use Rattle.std.proofs.lemmas.List.{take_all}
use Rattle.std.proofs.lemmas.Result.{err_from_is_err_and}
use Rattle.books.specs.Stored.{row}
use Rattle.books.proofs.Filling.{row_more}
use Rattle.clause_store.specs.Fitness.{FitClause, Fit}
use Rattle.clause_store.proofs.Gathering.{start_more, unfit_by}
use Rattle.clause_store.proofs.Parts.{parts_are, starts_rise, starts_within}
use Rattle.clause_store.proofs.gather.gather.Goals as goal

pub returns-in_err-read_clause-clause-fit : goal.returns-in_err-read_clause-clause-fit
returns-in_err-read_clause-clause-fit g c =
    let cs = g.B.ClauseBook.clauses c.args.book.now in
    let i = c.loop-i.i in
    let p = err_from_is_err_and c.from_residual-in_err-read_clause.result c.from_residual-in_err-read_clause.ensures.1 in
    rw (p.1, p.2) (unfit_by c.in_err-read_clause.field-0.0 (FitClause c.args.values (get_or cs i [])) (Fit c.args.values cs) (λ f. f.each i (omega arith)) c.in_err-read_clause.ensures.fit)

pub loop-i-preserved : goal.loop-i-preserved
loop-i-preserved g c =
    let cs = g.B.ClauseBook.clauses c.args.book.now in
    let i = c.loop-i.i in
    let lt : i < length cs = omega arith in
    let literals = vec_items c.read_clause.new.literals in
    let r = c.in_ok-read_clause.ensures in
    let done : literals ≡ row (take (i + 1) cs) = r.row ∙ ap (λ x. x ++ get_or cs i []) c.loop-i.invariant.read ∙ sym (row_more cs i lt) in
    let n = c.len.ensures ∙ c.read_clause.new.literals.ok.0 ∙ ap length done in
    let m = start_more (λ k. length (row (take k cs))) (vec_items c.loop-i.starts) (vec_items c.push-in-loop-i.new.self) (i + 1) c.len.result c.loop-i.invariant.many c.loop-i.invariant.says c.in_ok-push-2.ensures.items n in
    record { read = done; many = m.0; says = m.1; fit = below_more (λ k. FitClause c.args.values (get_or cs k [])) i c.loop-i.invariant.fit r.fit }

pub invariant_of-result : goal.invariant_of-result
invariant_of-result g c =
    let cs = g.B.ClauseBook.clauses c.args.book.now in
    let starts = vec_items c.shrink_to_fit-2.new.self in
    let same = c.shrink_to_fit-2.ensures.items in
    let all : length cs ≤ c.loop-i.i = omega arith in
    let many : length starts ≡ length cs + 1 = omega (arith, ap length same, c.loop-i.invariant.many) in
    let says = λ (k : ℕ) (h : k ≤ length cs). ap (λ xs. get_or xs k 0) same ∙ c.loop-i.invariant.says k (omega arith) in
    let read = c.shrink_to_fit.ensures.items ∙ c.loop-i.invariant.read ∙ ap row (take_all c.loop-i.i cs all) in
    record {
      rise = λ i h. starts_rise cs starts many says i (omega (arith, c.shrink_to_fit-2.new.self.ok.0));
      inside = λ i h. omega (arith, starts_within cs starts many says i (omega (arith, c.shrink_to_fit-2.new.self.ok.0)), ap length read, c.shrink_to_fit.new.self.ok.0);
      whole = read ∙ ap row (sym (parts_are cs starts many says (vec_items c.shrink_to_fit.new.self) read));
    }

pub returns-clause-clauses : goal.returns-clause-clauses
returns-clause-clauses g c =
    let cs = g.B.ClauseBook.clauses c.args.book.now in
    let starts = vec_items c.shrink_to_fit-2.new.self in
    let same = c.shrink_to_fit-2.ensures.items in
    let all : length cs ≤ c.loop-i.i = omega arith in
    let many : length starts ≡ length cs + 1 = omega (arith, ap length same, c.loop-i.invariant.many) in
    let says = λ (k : ℕ) (h : k ≤ length cs). ap (λ xs. get_or xs k 0) same ∙ c.loop-i.invariant.says k (omega arith) in
    parts_are cs starts many says (vec_items c.shrink_to_fit.new.self) (c.shrink_to_fit.ensures.items ∙ c.loop-i.invariant.read ∙ ap row (take_all c.loop-i.i cs all))
