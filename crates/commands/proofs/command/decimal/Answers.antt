use Rattle.std.proofs.iter.Serving.{serving}
use Rattle.std.specs.List.{AllPass}
use Rattle.std.specs.Char.{is_ascii_digit}
use Rattle.std.proofs.lemmas.List.Sums.{AllPass-from_list_all}
use Rattle.std.proofs.Common.{◌≡◌, [], length, Some, sym, ap, ◌∙◌, rules}
use Rattle.std.proofs.lemmas.Bool.{eqb-true, eqb-false, cond-true, cond-false}
use Rattle.std.proofs.lemmas.List.{nil_from_length}
use Rattle.std.specs.List.{fold}
use Rattle.commands.proofs.Decimals.{with_digit, decimal_of-some}
use Rattle.commands.proofs.command.decimal.Goals as goal
use Rattle.commands.proofs.command.decimal.Goals.{then-is_empty-via-then-is_empty, then-is_empty-via-else-is_empty+then-not-all_digits}

pub returns-then-is_empty : goal.returns-then-is_empty
returns-then-is_empty c =
    let text = c.args.text.now in
    elim c.then-is_empty.branch [
      | then-is_empty-via-then-is_empty w ↦
          (let none : text ≡ [] = nil_from_length text (eqb-true (length text) 0 (sym c.is_empty.ensures ∙ w.if-is_empty.true)) in rw none)
      | then-is_empty-via-else-is_empty+then-not-all_digits w ↦
          sym (decimal_of-some text (eqb-false (length text) 0 (sym c.is_empty.ensures ∙ w.if-is_empty.false)) ∙ cond-false _ _ _ (sym w.all_digits.ensures ∙ w.if-not-all_digits.true))
    ]

pub fold-value-requires-clause-callable : goal.fold-value-requires-clause-callable
fold-value-requires-clause-callable c =
    let text = c.args.text.now in
    let each : AllPass is_ascii_digit text = AllPass-from_list_all is_ascii_digit text (sym c.all_digits.ensures ∙ c.if-not-all_digits.false) in grind serving

pub returns : goal.returns
returns c =
    let text = c.args.text.now in
    let value : c.fold-value.result ≡ fold with_digit 0 text = search rules in
    ap Some value ∙ sym (decimal_of-some text (eqb-false (length text) 0 (sym c.is_empty.ensures ∙ c.if-is_empty.false)) ∙ cond-true _ _ _ (sym c.all_digits.ensures ∙ c.if-not-all_digits.false))
