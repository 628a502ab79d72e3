-- What stored words say of a clause and of a literal.
use Rattle.std.proofs.Common.{◌≡◌, ℕ, ◌+◌, ◌-◌, ◌<◌, ◌≤◌, Bool, true, false, MatchBool, Decides, List, [], length, get_or, drop, sym, refl, ap, ◌∙◌, subst, ⊎_elim, zero-add, arith}
use Rattle.std.specs.List.{range_with_len, AllWithin, HoldsAt}
use Rattle.std.proofs.lemmas.List.FromFn.{length-range_with_len, get_or-range_with_len, length-map-range_with_len, get_or-map-range_with_len}
use Rattle.std.proofs.lemmas.List.{get_or_past, get_or-take, get_or-drop, length-take, length-drop}
use Rattle.std.proofs.lemmas.Bool.{cases_lt}
use Rattle.books.specs.Stored.{count_of, end_of, start_of, clause_of, clauses_of, IsStored}

module _ (ws : List ℕ) where
  pub many : count_of ws ≡ length (clauses_of ws)
  many = sym (length-map-range_with_len (clause_of ws) 0 (count_of ws))

  pub clause_at : (i : ℕ) → i < count_of ws → get_or (clauses_of ws) i [] ≡ clause_of ws i
  clause_at i h = get_or-map-range_with_len (clause_of ws) 0 (count_of ws) i i [] h (omega arith)

  pub clause_past : (i : ℕ) → count_of ws ≤ i → get_or (clauses_of ws) i [] ≡ []
  clause_past i h = get_or_past (clauses_of ws) i [] (omega (arith, many))

-- words that are a stored book
module _ (ws : List ℕ) (s : IsStored ws) where
  pub wide : (i : ℕ) → i < count_of ws → length (get_or (clauses_of ws) i []) ≡ end_of ws i - start_of ws i
  wide i h =
      ap length (clause_at ws i h) ∙
      omega (arith, length-take (end_of ws i - start_of ws i) (drop (start_of ws i) ws), length-drop (start_of ws i) ws, s.inside i h)

  -- a clause that has a literal is one of those that are counted
  pub counted : (i j : ℕ) → j < length (get_or (clauses_of ws) i []) → i < count_of ws
  counted i j h = ⊎_elim (λ l. l) (λ (l : count_of ws ≤ i). absurd (omega (arith, ap length (clause_past ws i l)))) (cases_lt i (count_of ws))

  pub literal_at : (i j : ℕ) → j < length (get_or (clauses_of ws) i []) → get_or ws (start_of ws i + j) 0 ≡ get_or (get_or (clauses_of ws) i []) j 0
  literal_at i j h =
      let l = counted i j h in
      let b = wide i l in
      sym (ap (λ c. get_or c j 0) (clause_at ws i l) ∙ get_or-take (end_of ws i - start_of ws i) (drop (start_of ws i) ws) j 0 (omega arith) ∙ get_or-drop (start_of ws i) ws j 0)

  pub literal_within : (i j : ℕ) → j < length (get_or (clauses_of ws) i []) → start_of ws i + j < length ws
  literal_within i j h = let l = counted i j h in omega (arith, wide i l, s.rising i l, s.inside i l)

-- the clause i ends behind its beginning and within the words
abbrev pub Lies : List ℕ → ℕ → Type 0
Lies ws i = (start_of ws i ≤ end_of ws i) × (end_of ws i ≤ length ws)

-- words of which there are enough are a stored book exactly where each clause lies rightly
module _ (ws : List ℕ) (n : ℕ) (e : n ≡ count_of ws) (enough : n < length ws) where
  place_is : (i : ℕ) → i < n → get_or (range_with_len 0 n) i 0 ≡ i
  place_is i h = get_or-range_with_len 0 n i 0 h ∙ zero-add i

  pub stored_exactly : (b : Bool) →
      MatchBool b (AllWithin (Lies ws) (range_with_len 0 n) 0 (length (range_with_len 0 n)))
      ((k : ℕ) × (k < length (range_with_len 0 n)) × HoldsAt (λ i. Lies ws i → ⊥) (range_with_len 0 n) k) → Decides b (IsStored ws)
  stored_exactly true all =
      (λ _. record { whole = omega arith; rising = λ i h. (at i (omega arith)).0; inside = λ i h. (at i (omega arith)).1 }, λ _. refl)
    where
      at : (i : ℕ) → i < n → Lies ws i
      at i h = subst (Lies ws) (place_is i h) (all i 0 (omega arith) (omega (arith, length-range_with_len 0 n)))
  stored_exactly false (k, lt, wrong) =
      let h : k < n = omega (arith, length-range_with_len 0 n) in
      (λ e. cc, λ s. absurd (subst (λ i. Lies ws i → ⊥) (place_is k h) (wrong 0) (s.rising k (omega arith), s.inside k (omega arith))))
