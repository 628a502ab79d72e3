use Rattle.std.proofs.Common.{◌*◌, ◌/◌, ◌<◌, [], length, get_or, vec_items, sym, ap, ◌∙◌, subst₂, arith, below_more}
use Rattle.clause_store.specs.Fitness.{NamesValue}
use Rattle.clause_store.proofs.Gathering.{rest_is, apart_more, literal_more}
use Rattle.clause_store.proofs.gather.read_clause.Goals as goal

pub loop-j-preserved : goal.loop-j-preserved
loop-j-preserved g c =
    let cl = get_or (g.B.ClauseBook.clauses c.args.book.now) c.args.i [] in
    let front = vec_items c.args.literals.now in
    let xs = vec_items c.loop-j.literals in
    let j = c.loop-j.j in
    let lt : j < length cl = omega arith in
    let s = c.len-start.ensures ∙ c.args.literals.now.ok.0 in
    let l = c.from-literal.ensures ∙ c.literal.ensures in
    let v = rest_is front cl _ j c.len-start.result (c.deref.ensures.value ∙ c.loop-j.invariant.read) s in
    record {
      read = literal_more front cl xs (vec_items c.push.new.self) j c.from-literal.result c.loop-j.invariant.read l c.in_ok-push.ensures.items lt;
      below = below_more (λ k. get_or cl k 0 < 2 * c.args.values) j c.loop-j.invariant.below (omega (arith, l, c.value-value.ensures, c.if-value-values.false));
      apart = apart_more j cl lt c.loop-j.invariant.apart (λ n. c.if-names_value.ensures (subst₂ NamesValue (sym v) (ap (λ x. x / 2) (sym l) ∙ sym c.value-value.ensures) n));
    }
