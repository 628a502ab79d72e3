-- The values that a table does not allow beside a value, and those that it allows.
use Rattle.std.proofs.Common.{◌≡◌, ℕ, ◌+◌, not, List, length, filter, refl, arith}
use Rattle.std.proofs.lemmas.List.FromFn.{length-range_with_len}
use Rattle.std.proofs.lemmas.List.Filters.{length-filter_both}
use Rattle.std.proofs.lemmas.List.{length-map}
use Rattle.theory.specs.declared.Side.TheVariants.{Lower}
use Rattle.theory.specs.Encodings.{not_both, barred_with, support_clause}
use Rattle.theory.specs.Literals.{is_in}
use Rattle.theory.specs.Network.{Table, allows}
use Rattle.theory.specs.Numbering.{count, number, values}

-- together they are the values of the higher point
pub barred_length : (ks : List ℕ) (t : Table) (i : ℕ) →
    length (barred_with ks t i) + length (support_clause ks Lower t i) ≡ count ks t.high + 1
barred_length ks t i =
    let ok = allows t i in
    let vs = values ks t.high in
    omega (
      arith,
      length-map (filter (λ j. not (ok j)) vs) (not_both ks t.low i t.high),
      length-map (filter ok vs) (λ j. is_in (number ks t.high j)),
      length-filter_both ok (λ j. not (ok j)) (λ _. refl) vs,
      length-range_with_len 0 (count ks t.high),
    )
