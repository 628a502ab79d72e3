-- The clauses of a store by their numbers, their literals, and the index.
use Rattle.std.proofs.Common.{◌≡◌, ℕ, ◌*◌, ◌<◌, List, [], length, get_or, sym, ap, ◌∙◌, subst, ⊎_elim}
use Rattle.std.proofs.lemmas.Bool.{cases_lt}
use Rattle.std.proofs.lemmas.List.{get_or_past}
use Rattle.theory.specs.Lists.{◌∈◌}
use Rattle.theory.specs.Literals.{Within, NoneEmpty}
use Rattle.theory.proofs.Members.{in_at, at_in, in_from_has, has_from_in}
use Rattle.clause_store.specs.declared.store.ClauseStore.{ClauseStore}
use Rattle.clause_store.specs.Contents.{clauses_of, clause_of, holding_of}
use Rattle.clause_store.proofs.Rows.{place_of}

module _ (s : ClauseStore) where
  pub clause_in : (i : ℕ) → i < length (clauses_of s) → clause_of s i ∈ clauses_of s
  clause_in i h = in_at (clauses_of s) [] i h

  pub in_clauses : (c : List ℕ) → c ∈ clauses_of s → (i : ℕ) × (i < length (clauses_of s)) × (c ≡ clause_of s i)
  in_clauses c h = place_of (clauses_of s) [] c h

  -- only a clause of the store has a literal
  holds_within : (i l : ℕ) → l ∈ clause_of s i → i < length (clauses_of s)
  holds_within i l h = ⊎_elim (λ lt. lt) (λ le. absurd (subst (λ c. l ∈ c) (get_or_past (clauses_of s) i [] le) h)) (cases_lt i (length (clauses_of s)))

  -- each literal is one of the store's values
  pub clause_below : (i l : ℕ) → l ∈ clause_of s i → l < 2 * s.values
  clause_below i l h = s.within (clause_of s i) (clause_in i (holds_within i l h)) l h

  pub clauses_within : Within s.values (clauses_of s)
  clauses_within = s.within

  -- each clause has a literal
  pub clause_some : (i : ℕ) → i < length (clauses_of s) → (l : ℕ) × (l ∈ clause_of s i)
  clause_some i h = (get_or (clause_of s i) 0 0, in_at (clause_of s i) 0 0 (s.filled i h))

  pub clauses_none_empty : NoneEmpty (clauses_of s)
  clauses_none_empty c ic =
      let r = in_clauses c ic in
      let l = clause_some r.0 r.1 in
      (l.0, subst (λ d. l.0 ∈ d) (sym r.2) l.1)

  -- the index names clauses of the store, by the place in the index
  pub holder_at_below : (l k : ℕ) → k < length (holding_of s l) → get_or (holding_of s l) k 0 < length (clauses_of s)
  holder_at_below l k h =
      let i = get_or (holding_of s l) k 0 in
      holds_within i l (in_from_has (clause_of s i) l (sym (s.indexed l i) ∙ has_from_in (holding_of s l) i (in_at (holding_of s l) 0 k h)))

  -- a clause that holds a literal is named among those of the literal
  pub held_by :
      (l : ℕ) (c : List ℕ) → c ∈ clauses_of s → l ∈ c → (k : ℕ) × (k < length (holding_of s l)) × (c ≡ clause_of s (get_or (holding_of s l) k 0))
  held_by l c ic il =
      let r = in_clauses c ic in
      let t = s.indexed l r.0 ∙ has_from_in (clause_of s r.0) l (subst (λ d. l ∈ d) r.2 il) in
      let k = at_in (holding_of s l) r.0 (in_from_has (holding_of s l) r.0 t) in
      (k.0, k.1, r.2 ∙ ap (clause_of s) (sym k.2))
