-- A clause by one literal more, and clauses that force nothing.
use Rattle.std.proofs.Common.{◌≡◌, ℕ, ◌⊎◌, List, [], ◌∷◌, ◌++◌, Some, None, Option, sym, refl, ◌∙◌, subst, inl, inr, ⊎_elim}
use Rattle.std.proofs.lemmas.Bool.{cases_eq}
use Rattle.theory.specs.Lists.{◌∈◌}
use Rattle.theory.specs.Literals.{opposite}
use Rattle.theory.proofs.Members.{in_left, in_right, in_append}
use Rattle.trail.specs.Truths.{truth_of}
use Rattle.trail.proofs.Truths.{neither_held}
use Rattle.propagation.specs.Finds.{Still, Only}

module _ (t xs : List ℕ) (x : ℕ) where
  in_last : (m : ℕ) → m ∈ (xs ++ x ∷ []) → (m ∈ xs) ⊎ (m ≡ x)
  in_last m h = ⊎_elim (λ i. inl i) (λ i. ⊎_elim (λ e. inr e) (λ n. absurd n) i) (in_append xs (x ∷ []) m h)

  pub only_false : (o : Option ℕ) → opposite x ∈ t → Only t xs o → Only t (xs ++ x ∷ []) o
  only_false None h k = λ m i. ⊎_elim (k m) (λ e. subst (λ y. opposite y ∈ t) (sym e) h) (in_last m i)
  only_false (Some f) h k = (in_left xs (x ∷ []) f k.0, k.1, λ m i ne. ⊎_elim (λ j. k.2 m j ne) (λ e. subst (λ y. opposite y ∈ t) (sym e) h) (in_last m i))

  pub only_first : truth_of t x ≡ None → Only t xs None → Only t (xs ++ x ∷ []) (Some x)
  only_first h k = (in_right xs (x ∷ []) x (inl refl), h, λ m i ne. ⊎_elim (k m) (λ e. absurd (ne e)) (in_last m i))

  pub only_same : (f : ℕ) → f ≡ x → Only t xs (Some f) → Only t (xs ++ x ∷ []) (Some f)
  only_same f e k = (in_left xs (x ∷ []) f k.0, k.1, λ m i ne. ⊎_elim (λ j. k.2 m j ne) (λ q. absurd (ne (q ∙ sym e))) (in_last m i))

  -- of the literal x, and of no other before it, t says nothing
  pub only_open : (o : Option ℕ) → truth_of t x ≡ None → ((y : ℕ) → o ≡ Some y → y ≡ x) → Only t xs o → Only t (xs ++ x ∷ []) (Some x)
  only_open None h same k = only_first h k
  only_open (Some y) h same k = subst (λ f. Only t (xs ++ x ∷ []) (Some f)) (same y refl) (only_same y (same y refl) k)

pub still_true : (t c : List ℕ) (x : ℕ) → ((l : ℕ) → l ∈ t → opposite l ∈ t → ⊥) → x ∈ c → x ∈ t → Still t c
still_true t c x apart i h l j others =
    ⊎_elim (λ e. subst (λ y. y ∈ t) e h) (λ ne. absurd (apart x h (others x i ne))) (cases_eq x l)

pub still_open : (t c : List ℕ) (x y : ℕ) → (x ≡ y → ⊥) → x ∈ c → y ∈ c → truth_of t x ≡ None → truth_of t y ≡ None → Still t c
still_open t c x y ne ix iy fx fy l j others =
    ⊎_elim (λ e. absurd ((neither_held t y fy).1 (others y iy (λ q. ne (e ∙ sym q))))) (λ n. absurd ((neither_held t x fx).1 (others x ix n))) (cases_eq x l)
