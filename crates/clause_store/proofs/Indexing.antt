-- The index, one clause after another.
use Rattle.std.proofs.Common.{◌≡◌, ℕ, ◌+◌, ◌<◌, ◌≤◌, true, ◌||◌, ◌&&◌, eqb, List, [], ◌∷◌, ◌++◌, length, get_or, take, sym, ap, ◌∙◌, ⊎_elim, arith}
use Rattle.std.proofs.Math.Bool.{or-false, and-true, and-false}
use Rattle.std.proofs.lemmas.Bool.{cases_eq, cases_lt, eq-eqb, ne_eqb}
use Rattle.std.proofs.lemmas.List.{take_more, length-take-le, get_or-take, get_or_past, get_or_push}
use Rattle.theory.specs.Lists.{has}

-- the holders of the clauses before clause i, and this clause, are those of one clause more
pub one_clause_more :
    (cs : List (List ℕ)) (c : List ℕ) (i l j : ℕ) → i < length cs → c ≡ get_or cs i [] →
    (has (get_or (take i cs) j []) l || (has c l && eqb j i)) ≡ has (get_or (take (i + 1) cs) j []) l
one_clause_more cs c i l j lt is = ⊎_elim same other (cases_eq j i)
  where
    more : take (i + 1) cs ≡ take i cs ++ get_or cs i [] ∷ []
    more = take_more cs i [] lt

    many : length (take i cs) ≡ i
    many = length-take-le i cs (omega arith)

    same : j ≡ i → (has (get_or (take i cs) j []) l || (has c l && eqb j i)) ≡ has (get_or (take (i + 1) cs) j []) l
    same e =
        ap (λ b. has (get_or (take i cs) j []) l || (has c l && b)) (eq-eqb j i e) ∙
        ap (λ ys. has ys l || (has c l && true)) (get_or_past (take i cs) j [] (omega (arith, many))) ∙ and-true (has c l) ∙ ap (λ ys. has ys l) is ∙
        sym (ap (λ xs. has (get_or xs j []) l) more ∙ ap (λ ys. has ys l) (get_or_push (take i cs) (get_or cs i []) [] j (many ∙ sym e)))

    other : (j ≡ i → ⊥) → (has (get_or (take i cs) j []) l || (has c l && eqb j i)) ≡ has (get_or (take (i + 1) cs) j []) l
    other ne =
        ap (λ b. has (get_or (take i cs) j []) l || (has c l && b)) (ne_eqb j i ne) ∙
        ap (λ b. has (get_or (take i cs) j []) l || b) (and-false (has c l)) ∙ or-false (has (get_or (take i cs) j []) l) ∙
        ap (λ ys. has ys l) (⊎_elim before after (cases_lt j i))
      where
        before : j < i → get_or (take i cs) j [] ≡ get_or (take (i + 1) cs) j []
        before h = get_or-take i cs j [] h ∙ sym (get_or-take (i + 1) cs j [] (omega arith))

        after : i ≤ j → get_or (take i cs) j [] ≡ get_or (take (i + 1) cs) j []
        after h =
            get_or_past (take i cs) j [] (omega (arith, many)) ∙
            sym (get_or_past (take (i + 1) cs) j [] (omega (arith, length-take-le (i + 1) cs (omega arith))))
