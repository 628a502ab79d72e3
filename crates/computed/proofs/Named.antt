-- What is read of the clause that an identifier names.
use Rattle.std.proofs.Common.{◌≡◌, ℕ, List, [], get_or, Some, None, Option, MatchOption, Bor, slice_get, unwrap_or, ap, ◌∙◌}
use Rattle.std.specs.Option.{option_map, option_copied}
use Rattle.std.proofs.lemmas.Option.{unwrap_or-slice_get}
use Rattle.computed.specs.declared.id.ClauseId.{ClauseId}
use Rattle.computed.specs.Ids.{clause_of}

-- a literal's number, or 0 where there is none
number_or_zero : (o : Option ℕ) (Q : ℕ → Type 0) (r : ℕ) → ((l : ℕ) → Q l → r ≡ l) → MatchOption o (r ≡ 0) Q → r ≡ unwrap_or o 0
number_or_zero None Q r is m = m
number_or_zero (Some l) Q r is m = is l m

-- clause i of a list, by an identifier that is lent
module _ (cs : List (List ℕ)) (i : ℕ) (o : Option ClauseId) (lent : Option (Bor ClauseId)) (same : option_copied lent ≡ o) (named : option_map clause_of o ≡ slice_get cs i) where
  module _ {B : Type 0} (g : List ℕ → B) (Q : Bor ClauseId → Type 0) (r : B) (reads : (id : Bor ClauseId) → Q id → r ≡ g (clause_of id.now)) where
    read_of : (p : Option (Bor ClauseId)) → option_map clause_of (option_copied p) ≡ slice_get cs i → MatchOption p (r ≡ g []) Q → r ≡ g (get_or cs i [])
    read_of None e m = m ∙ ap g (ap (λ o. unwrap_or o []) e ∙ unwrap_or-slice_get cs i [])
    read_of (Some id) e m = reads id m ∙ ap g (ap (λ o. unwrap_or o []) e ∙ unwrap_or-slice_get cs i [])

    -- what is read of the clause by its identifier is read of clause i of the list
    pub read_named : MatchOption lent (r ≡ g []) Q → r ≡ g (get_or cs i [])
    read_named = read_of lent (ap (option_map clause_of) same ∙ named)

  -- so is the number of a literal, or 0 where there is none
  pub read_literal : (j : ℕ) (Q : Bor ClauseId → Type 0) (l : Option ℕ) → ((id : Bor ClauseId) → Q id → l ≡ slice_get (clause_of id.now) j) → MatchOption lent (l ≡ None) Q →
      (P : ℕ → Type 0) (r : ℕ) → ((n : ℕ) → P n → r ≡ n) → MatchOption l (r ≡ 0) P → r ≡ get_or (get_or cs i []) j 0
  read_literal j Q l reads m P r is n =
      number_or_zero l P r is n ∙ ap (λ o. unwrap_or o 0) (read_named (λ c. slice_get c j) Q l reads m) ∙ unwrap_or-slice_get (get_or cs i []) j 0
