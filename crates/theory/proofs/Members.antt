-- What stands in a list: `++`, `filter`, ranges, `map`, `flat_map`, places, and the test `has`.
use Rattle.std.proofs.Common.{◌≡◌, ℕ, zero, suc, ◌+◌, ◌*◌, ◌<◌, ◌≤◌, Bool, true, false, cond, not, eqb, ◌⊎◌, List, [], ◌∷◌, ◌++◌, map, length, get_or, filter, sym, refl, ap, ◌∙◌, subst, inl, inr, ⊎_elim, suc-mul, arith}
use mathlib.Core.Bool.{false≢true}
use Rattle.std.specs.List.{range_with_len, flat_map}
use Rattle.std.proofs.lemmas.List.{length-append}
use Rattle.std.proofs.lemmas.Bool.{eqb-true, eq-eqb, or_cases, or_left, or_right, cases_eq, cases_Bool}
use Rattle.theory.specs.Lists.{◌∈◌, has}

pub in_from_has : (xs : List ℕ) (l : ℕ) → has xs l ≡ true → l ∈ xs
in_from_has [] l h = absurd (false≢true h)
in_from_has (x ∷ xs) l h = ⊎_elim (λ e. inl (eqb-true l x e)) (λ e. inr (in_from_has xs l e)) (or_cases (eqb l x) (has xs l) h)

pub has_from_in : (xs : List ℕ) (l : ℕ) → l ∈ xs → has xs l ≡ true
has_from_in [] l h = absurd h
has_from_in (x ∷ xs) l (inl e) = or_left (eqb l x) (has xs l) (eq-eqb l x e)
has_from_in (x ∷ xs) l (inr h) = or_right (eqb l x) (has xs l) (has_from_in xs l h)

module _ {A : Type 0} where
  pub in_left : (xs ys : List A) (x : A) → x ∈ xs → x ∈ (xs ++ ys)
  in_left [] ys x h = absurd h
  in_left (y ∷ xs) ys x (inl e) = inl e
  in_left (y ∷ xs) ys x (inr h) = inr (in_left xs ys x h)

  pub in_right : (xs ys : List A) (x : A) → x ∈ ys → x ∈ (xs ++ ys)
  in_right [] ys x h = h
  in_right (y ∷ xs) ys x h = inr (in_right xs ys x h)

  pub in_append : (xs ys : List A) (x : A) → x ∈ (xs ++ ys) → (x ∈ xs) ⊎ (x ∈ ys)
  in_append [] ys x h = inr h
  in_append (y ∷ xs) ys x (inl e) = inl (inl e)
  in_append (y ∷ xs) ys x (inr h) = ⊎_elim (λ i. inl (inr i)) (λ i. inr i) (in_append xs ys x h)

  pub kept_in : (p : A → Bool) (xs : List A) (x : A) → p x ≡ true → x ∈ xs → x ∈ filter p xs
  kept_in p [] x t h = absurd h
  kept_in p (y ∷ ys) x t (inl e) = go (p y) (ap p (sym e) ∙ t)
    where
      go : (b : Bool) → b ≡ true → x ∈ (cond b (y ∷ filter p ys) (filter p ys))
      go true _ = inl e
      go false f = absurd (false≢true f)
  kept_in p (y ∷ ys) x t (inr h) = go (p y) (kept_in p ys x t h)
    where
      go : (b : Bool) → x ∈ filter p ys → x ∈ (cond b (y ∷ filter p ys) (filter p ys))
      go true i = inr i
      go false i = i

  pub in_kept : (p : A → Bool) (xs : List A) (x : A) → x ∈ filter p xs → (x ∈ xs) × (p x ≡ true)
  in_kept p [] x h = absurd h
  in_kept p (y ∷ ys) x h = go (p y) refl (λ i. in_kept p ys x i) h
    where
      go :
          (b : Bool) → p y ≡ b → ((x ∈ (filter p ys)) → (x ∈ ys) × (p x ≡ true)) →
          (x ∈ (cond b (y ∷ filter p ys) (filter p ys))) → (x ∈ (y ∷ ys)) × (p x ≡ true)
      go true e r (inl q) = (inl q, ap p q ∙ e)
      go true e r (inr i) = (inr (r i).0, (r i).1)
      go false e r i = (inr (r i).0, (r i).1)

  -- what a test keeps and what its opposite keeps make up the list
  pub kept_both : (p : A → Bool) (xs : List A) → length (filter p xs) + length (filter (λ x. not (p x)) xs) ≡ length xs
  kept_both p [] = refl
  kept_both p (y ∷ ys) = go (p y) (kept_both p ys)
    where
      rest : List A
      rest = filter (λ x. not (p x)) ys

      go :
          (b : Bool) → length (filter p ys) + length (filter (λ x. not (p x)) ys) ≡ length ys →
          length (cond b (y ∷ filter p ys) (filter p ys)) + length (cond (not b) (y ∷ filter (λ x. not (p x)) ys) (filter (λ x. not (p x)) ys)) ≡ suc (length ys)
      go true r = omega arith
      go false r = omega arith

pub in_counting : (n a j : ℕ) → a ≤ j → j < a + n → j ∈ range_with_len a n
in_counting zero a j l u = absurd (omega arith)
in_counting (suc n) a j l u = ⊎_elim (λ e. inl (sym e)) (λ ne. inr (in_counting n (a + 1) j (omega arith) (omega arith))) (cases_eq a j)

pub counting_in : (n a j : ℕ) → j ∈ range_with_len a n → (a ≤ j) × (j < a + n)
counting_in zero a j h = absurd h
counting_in (suc n) a j (inl e) = omega arith
counting_in (suc n) a j (inr h) = let r = counting_in n (a + 1) j h in omega arith

pub upto_in : (n i : ℕ) → i < n → i ∈ range_with_len 0 n
upto_in n i h = in_counting n 0 i (omega arith) (omega arith)

pub in_upto : (n i : ℕ) → i ∈ range_with_len 0 n → i < n
in_upto n i h = omega (arith, counting_in n 0 i h)

module _ {A B : Type 0} where
  pub in_map : (f : A → B) (xs : List A) (y : B) → y ∈ map f xs → (x : A) × (x ∈ xs) × (y ≡ f x)
  in_map f [] y h = absurd h
  in_map f (x ∷ xs) y (inl e) = (x, inl refl, e)
  in_map f (x ∷ xs) y (inr h) = let r = in_map f xs y h in (r.0, inr r.1, r.2)

  pub map_in : (f : A → B) (xs : List A) (x : A) → x ∈ xs → (f x) ∈ map f xs
  map_in f [] x h = absurd h
  map_in f (y ∷ xs) x (inl e) = inl (ap f e)
  map_in f (y ∷ xs) x (inr h) = inr (map_in f xs x h)

  pub in_joined : (f : A → List B) (xs : List A) (y : B) → y ∈ flat_map f xs → (x : A) × (x ∈ xs) × (y ∈ (f x))
  in_joined f [] y h = absurd h
  in_joined f (x ∷ xs) y h =
      ⊎_elim (λ i. (x, inl refl, i)) (λ i. let r = in_joined f xs y i in (r.0, inr r.1, r.2)) (in_append (f x) (flat_map f xs) y h)

  pub joined_in : (f : A → List B) (xs : List A) (x : A) (y : B) → x ∈ xs → y ∈ (f x) → y ∈ flat_map f xs
  joined_in f [] x y h i = absurd h
  joined_in f (z ∷ xs) x y (inl e) i = in_left (f z) (flat_map f xs) y (subst (λ w. (y ∈ (f w))) e i)
  joined_in f (z ∷ xs) x y (inr h) i = in_right (f z) (flat_map f xs) y (joined_in f xs x y h i)

-- some element passes, or none does
pub some_or_none : {A : Type 0} (test : A → Bool) (xs : List A) → ((x : A) × (x ∈ xs) × (test x ≡ true)) ⊎ ((x : A) → x ∈ xs → test x ≡ false)
some_or_none test [] = inr (λ x h. absurd h)
some_or_none {A} test (y ∷ ys) = go (some_or_none test ys) (cases_Bool (test y))
  where
    go :
        ((x : A) × (x ∈ ys) × (test x ≡ true)) ⊎ ((x : A) → x ∈ ys → test x ≡ false) → (test y ≡ true) ⊎ (test y ≡ false) →
        ((x : A) × (x ∈ (y ∷ ys)) × (test x ≡ true)) ⊎ ((x : A) → x ∈ (y ∷ ys) → test x ≡ false)
    go r (inl t) = inl (y, inl refl, t)
    go (inl r) (inr f) = inl (r.0, inr r.1, r.2)
    go (inr r) (inr f) = inr (λ x h. ⊎_elim (λ e. ap test e ∙ f) (r x) h)

pub in_at : {A : Type 0} (xs : List A) (d : A) (i : ℕ) → i < length xs → get_or xs i d ∈ xs
in_at [] d i h = absurd (omega arith)
in_at (x ∷ xs) d zero h = inl refl
in_at (x ∷ xs) d (suc i) h = inr (in_at xs d i (omega arith))

pub at_in : (xs : List ℕ) (x : ℕ) → x ∈ xs → (i : ℕ) × (i < length xs) × (get_or xs i 0 ≡ x)
at_in [] x h = absurd h
at_in (y ∷ ys) x (inl e) = (0, omega arith, sym e)
at_in (y ∷ ys) x (inr h) = let r = at_in ys x h in (suc r.0, omega (arith, r.1), r.2)

-- two tests that hold together are one
pub same_bool : (a b : Bool) → (a ≡ true → b ≡ true) → (b ≡ true → a ≡ true) → a ≡ b
same_bool true true f g = refl
same_bool true false f g = sym (f refl)
same_bool false true f g = g refl
same_bool false false f g = refl

-- lists of at most b elements each, joined
pub joined_few : {A B : Type 0} (f : A → List B) (xs : List A) (b : ℕ) → ((x : A) → length (f x) ≤ b) → length (flat_map f xs) ≤ length xs * b
joined_few f [] b h = omega arith
joined_few f (x ∷ xs) b h = omega (arith, length-append (f x) (flat_map f xs), suc-mul (length xs) b, joined_few f xs b h, h x)
