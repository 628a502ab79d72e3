-- The stored form of clauses is a stored book of these clauses, whatever stands behind it.
use Rattle.std.proofs.Common.{◌≡◌, ℕ, zero, suc, ◌+◌, ◌-◌, ◌<◌, List, [], ◌∷◌, ◌++◌, length, get_or, take, drop, sym, refl, ap, ◌∙◌, add-one, one-add, arith}
use Rattle.std.proofs.lemmas.List.{append_assoc, ext_get_or, get_or_append_left, take_at, drop_at, length-append, drop_more, take-append-drop}
use Rattle.books.specs.Stored.{end_of, start_of, clause_of, clauses_of, IsStored, row, ends_from, stored_form}
use Rattle.books.proofs.Filling.{row_append, row_more, row_front, length_ends, end_at}
use Rattle.books.proofs.Words.{many, clause_at}

module _ (cs : List (List ℕ)) (rest : List ℕ) where
  abbrev ws : List ℕ
  ws = stored_form cs ++ rest

  -- where the literals begin
  abbrev base : ℕ
  base = length cs + 1

  abbrev up_to : ℕ → ℕ
  up_to i = length (row (take i cs))

  end_is : (i : ℕ) → i < length cs → end_of ws i ≡ base + up_to (suc i)
  end_is i h =
      ap (λ k. get_or ws k 0) (one-add i) ∙
      ap (λ t. get_or t i 0) (append_assoc (ends_from base cs) (row cs) rest) ∙
      get_or_append_left (ends_from base cs) (row cs ++ rest) 0 i (omega (arith, length_ends base cs)) ∙ end_at base cs i h

  start_is : (i : ℕ) → i < length cs → start_of ws i ≡ base + up_to i
  start_is zero h = omega arith
  start_is (suc i) h = end_is i (omega arith)

  -- the literals from clause i on
  literals_from : (i : ℕ) → i < length cs → drop (base + up_to i) ws ≡ get_or cs i [] ++ (row (drop (i + 1) cs) ++ rest)
  literals_from i h =
      let parts : row cs ≡ row (take i cs) ++ (get_or cs i [] ++ row (drop (i + 1) cs)) =
      ap row (sym (take-append-drop i cs)) ∙ row_append (take i cs) (drop i cs) ∙ ap (λ t. row (take i cs) ++ row t) (drop_more cs i [] h) in
      let front = (length cs ∷ ends_from base cs) ++ row (take i cs) in
      let whole : ws ≡ front ++ (get_or cs i [] ++ (row (drop (i + 1) cs) ++ rest)) =
      append_assoc (length cs ∷ ends_from base cs) (row cs) rest ∙
      ap (λ t. (length cs ∷ ends_from base cs) ++ (t ++ rest)) parts ∙
      ap (λ t. (length cs ∷ ends_from base cs) ++ t) (append_assoc (row (take i cs)) (get_or cs i [] ++ row (drop (i + 1) cs)) rest ∙
      ap (λ t. row (take i cs) ++ t) (append_assoc (get_or cs i []) (row (drop (i + 1) cs)) rest)) ∙
      sym (append_assoc (length cs ∷ ends_from base cs) (row (take i cs)) (get_or cs i [] ++ (row (drop (i + 1) cs) ++ rest))) in
      ap (drop (base + up_to i)) whole ∙
      drop_at front (get_or cs i [] ++ (row (drop (i + 1) cs) ++ rest)) (base + up_to i)
      (omega (arith, length-append (length cs ∷ ends_from base cs) (row (take i cs)), length_ends base cs))

  width : (i : ℕ) → i < length cs → up_to (suc i) ≡ up_to i + length (get_or cs i [])
  width i h =
      ap (λ k. length (row (take k cs))) (sym (add-one i)) ∙ ap length (row_more cs i h) ∙ length-append (row (take i cs)) (get_or cs i [])

  clause_is : (i : ℕ) → i < length cs → clause_of ws i ≡ get_or cs i []
  clause_is i h =
      let n : end_of ws i - start_of ws i ≡ length (get_or cs i []) = omega (arith, end_is i h, start_is i h, width i h) in
      ap (λ k. take k (drop (start_of ws i) ws)) n ∙ ap (λ k. take (length (get_or cs i [])) (drop k ws)) (start_is i h) ∙
      ap (take (length (get_or cs i []))) (literals_from i h) ∙ take_at (get_or cs i []) (row (drop (i + 1) cs) ++ rest) (length (get_or cs i [])) refl

  pub stored_says : clauses_of ws ≡ cs
  stored_says = ext_get_or [] (clauses_of ws) cs (sym (many ws)) (λ i h. let l : i < length cs = omega (arith, many ws) in clause_at ws i l ∙ clause_is i l)

  pub stored_is : IsStored ws
  stored_is =
      record {
        whole = omega (arith, long);
        rising = λ i h. omega (arith, end_is i h, start_is i h, width i h);
        inside = λ i h. omega (arith, end_is i h, row_front cs (suc i), long);
      }
    where
      long : length (stored_form cs ++ rest) ≡ 1 + length cs + length (row cs) + length rest
      long =
          omega (arith, length-append (stored_form cs) rest, length-append (ends_from (length cs + 1) cs) (row cs), length_ends (length cs + 1) cs)
