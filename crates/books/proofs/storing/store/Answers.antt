use Rattle.std.proofs.Common.{◌≡◌, ◌+◌, ◌≤◌, ◌∷◌, ◌++◌, length, take, drop, sym, ap, ◌∙◌, subst, arith}
use Rattle.std.proofs.lemmas.List.{append_assoc, drop_at, length-take-le}
use Rattle.books.specs.Stored.{row, ends_from, stored_form, words_needed}
use Rattle.books.specs.Storing.{Holds}
use Rattle.books.proofs.Reading.{stored_is, stored_says}
use Rattle.books.proofs.storing.store.Goals as goal

pub returns-clause-book : goal.returns-clause-book
returns-clause-book g c =
    let cs = g.B.ClauseBook.clauses c.args.book.now in
    let ws = c.args.words.now in
    let n : c.in_ok-needed.needed ≡ words_needed cs = c.in_ok-needed.ensures.0 in
    let room : words_needed cs ≤ length ws = c.in_ok-needed.ensures.1 in
    let front = take (length cs + 1) ws in
    let back = row cs ++ drop (words_needed cs) ws in
    let k : length front ≡ 1 + length cs = omega (arith, length-take-le (length cs + 1) ws (omega arith)) in
    let is : c.write_ends.new.words ≡ stored_form cs ++ drop c.in_ok-needed.needed ws =
    c.write_ends.ensures ∙
    ap (λ t. (length cs ∷ ends_from (length cs + 1) cs) ++ drop (1 + length cs) t) (c.write_literals.ensures ∙ append_assoc front (row cs) (drop (words_needed cs) ws)) ∙
    ap (λ t. (length cs ∷ ends_from (length cs + 1) cs) ++ t) (drop_at front back (1 + length cs) k) ∙
    sym (append_assoc (length cs ∷ ends_from (length cs + 1) cs) (row cs) (drop (words_needed cs) ws)) ∙
    ap (λ m. (length cs ∷ (ends_from (length cs + 1) cs ++ row cs)) ++ drop m ws) (sym n) in
    subst (Holds cs) (sym is) (stored_is cs (drop c.in_ok-needed.needed ws), stored_says cs (drop c.in_ok-needed.needed ws))
