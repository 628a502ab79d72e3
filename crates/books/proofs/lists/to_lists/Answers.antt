use Rattle.std.proofs.Common.{◌≡◌, ◌+◌, ◌-◌, [], ◌∷◌, ◌++◌, get_or, Ok, vec_items, ap, ◌∙◌, arith, rules, length-append}
use Rattle.std.proofs.lemmas.Result.{IfOk-weaker}
use Rattle.std.proofs.iter.runs.Sources.{range_listed}
use Rattle.books.specs.Lists.{lists_of}
use Rattle.books.proofs.Collecting.{lists_are, told, kept}
use Rattle.books.proofs.lists.to_lists.Goals as goal

pub returns : goal.returns
returns g c =
    let cs = g.B.ClauseBook.clauses c.args.book.now in
    IfOk-weaker c.try_collect.result _ _
    (λ v w.
    let p = w.0 in
    let s = c.map.ensures.runs p p.seen w.1 in
    let q = s.0 in
    let made = w.3 (λ xs a x b e f. (f.0 ∙ ap (λ l. l ++ x ∷ []) e.0, omega (arith, f.1, e.1, length-append xs (x ∷ [])))) in
    let ys = made.0 in
    let counted = range_listed q q.seen in
    let calls = s.2.2 (λ a r f' k. search rules) in
    let start : counted.0 ≡ 0 = counted.2 ∙ ap (λ r. r.start) s.1 in
    let end : counted.1 ≡ c.count.result = counted.3 ∙ ap (λ r. r.end) s.1 in
    let all : q.len ≡ counted.1 - counted.0 = counted.4.1 (s.2.0 ∙ w.2) in
    ap lists_of made.1.0 ∙
    lists_are ys cs (omega (arith, made.2, s.2.1, c.count.ensures))
    (λ k d h.
    told (counted.0 + k) counted.1 (q.at k) (p.at k) (Ok (get_or ys k d)) _ (λ m. vec_items (get_or ys k d) ≡ get_or cs m []) (λ m b called. search rules)
    (counted.4.2 k) (calls.1 k) (kept (p.at k) (get_or ys k d) (made.3 k d (omega (arith, s.2.1, c.count.ensures)))) ∙
    ap (λ m. get_or cs m []) (omega arith)))
    c.try_collect.ensures.runs
