-- An element of a list that is joined from blocks, by the block that it lies in.
use Rattle.std.proofs.Common.{◌≡◌, ℕ, zero, suc, ◌-◌, ◌<◌, ◌≤◌, Bool, true, false, cond, ltb, List, [], ◌∷◌, ◌++◌, map, length, get_or, Some, None, Option, slice_get, sym, refl, ap, ◌∙◌, subst, ⊎_elim, add-one, arith}
use Rattle.std.specs.List.{range_with_len, flat_map}
use Rattle.std.specs.Option.{option_and_then}
use Rattle.std.proofs.lemmas.List.FromFn.{length-range_with_len, get_or-map-range_with_len}
use Rattle.std.proofs.lemmas.List.{get_or_past, length-map}
use Rattle.std.proofs.lemmas.Bool.{cases_lt, ltb-true, ltb-false}
use Rattle.theory.specs.Numbering.{place, later}
use Rattle.network.specs.Points.{Undone}
use Rattle.network.proofs.Places.{place_undone}
use Rattle.computed.proofs.Measured.{length_at}

pub get_in_front : {A : Type 0} (xs ys : List A) (i : ℕ) → i < length xs → slice_get (xs ++ ys) i ≡ slice_get xs i
get_in_front [] ys i h = absurd (omega arith)
get_in_front (x ∷ xs) ys zero h = refl
get_in_front (x ∷ xs) ys (suc i) h = get_in_front xs ys i (omega arith)

pub get_behind : {A : Type 0} (xs ys : List A) (n i : ℕ) → length xs ≡ n → n ≤ i → slice_get (xs ++ ys) i ≡ slice_get ys (i - n)
get_behind [] ys n i e h = ap (slice_get ys) (omega arith)
get_behind (x ∷ xs) ys n zero e h = absurd (omega arith)
get_behind (x ∷ xs) ys n (suc i) e h = get_behind xs ys (length xs) i refl (omega arith) ∙ ap (slice_get ys) (omega arith)

-- an element of a block that is given by its number and a place in it
abbrev pub in_blocks : {A : Type 0} → List (List A) → ℕ × ℕ → Option A
in_blocks ls p = slice_get (get_or ls p.0 []) p.1

-- one block more in front
one_further : {A : Type 0} (l : List A) (ls : List (List A)) (o : Option (ℕ × ℕ)) → option_and_then (in_blocks ls) o ≡ option_and_then (in_blocks (l ∷ ls)) (later o)
one_further l ls None = refl
one_further l ls (Some p) = rw add-one refl

module _ {X A : Type 0} (f : X → List A) where
  -- an element of the joined list lies where the walk over the sizes of the blocks finds it
  pub get_joined : (xs : List X) (n : ℕ) → slice_get (flat_map f xs) n ≡ option_and_then (in_blocks (map f xs)) (place (map (λ x. length (f x)) xs) n)
  get_joined [] n = refl
  get_joined (x ∷ xs) n = go (ltb n (length (f x))) refl (get_joined xs (n - length (f x)))
    where
      rest : Option (ℕ × ℕ)
      rest = place (map (λ x. length (f x)) xs) (n - length (f x))

      go : (b : Bool) → ltb n (length (f x)) ≡ b → slice_get (flat_map f xs) (n - length (f x)) ≡ option_and_then (in_blocks (map f xs)) rest →
          slice_get (f x ++ flat_map f xs) n ≡ option_and_then (in_blocks (f x ∷ map f xs)) (cond b (Some (0, n)) (later rest))
      go true e later_on = get_in_front (f x) (flat_map f xs) n (ltb-true n (length (f x)) e)
      go false e later_on =
          get_behind (f x) (flat_map f xs) (length (f x)) n refl (ltb-false n (length (f x)) e) ∙
          later_on ∙ one_further (f x) (map f xs) rest

-- a place that is found is one of those that its block has
pub place_within : (ks : List ℕ) (n k m : ℕ) → Some (k, m) ≡ place ks n → (k < length ks) × (m < get_or ks k 0)
place_within ks n k m e =
    let u : Undone ks n (Some (k, m)) = subst (Undone ks n) (sym e) (place_undone ks n) in
    (⊎_elim (λ h. h) (λ (h : length ks ≤ k). absurd (omega (arith, get_or_past ks k 0 h, u.0))) (cases_lt k (length ks)), u.0)

-- blocks walked by what a function gives for each
module _ {X A : Type 0} (P : ℕ → ℕ → Type 0) (f : X → List A) (xs : List X) (b n : ℕ) (o : Option (ℕ × ℕ)) (long : length xs ≡ b)
    (walked : (sizes : List ℕ) → length sizes ≡ b → ((i r : ℕ) → i < b → P i r → r ≡ get_or sizes i 0) → o ≡ place sizes n)
    (sized : (i r : ℕ) → i < b → P i r → r ≡ length (get_or (map f xs) i [])) where
  is_place : o ≡ place (map (λ x. length (f x)) xs) n
  is_place = walked (map (λ x. length (f x)) xs) (length-map xs (λ x. length (f x)) ∙ long) (λ i r h p. sized i r h p ∙ sym (length_at f xs i))

  -- the walk found none
  pub found_none : o ≡ None → None ≡ slice_get (flat_map f xs) n
  found_none e = sym (get_joined f xs n ∙ ap (option_and_then (in_blocks (map f xs))) (sym is_place ∙ e))

  -- the walk found a block and a place in it
  module _ (k m : ℕ) (e : o ≡ Some (k, m)) where
    pub found_within : (k < b) × (m < length (get_or (map f xs) k []))
    found_within =
        let w = place_within (map (λ x. length (f x)) xs) n k m (sym e ∙ is_place) in
        (omega (arith, w.0, length-map xs (λ x. length (f x))), omega (arith, w.1, length_at f xs k))

    pub found_there : slice_get (get_or (map f xs) k []) m ≡ slice_get (flat_map f xs) n
    found_there = sym (get_joined f xs n ∙ ap (option_and_then (in_blocks (map f xs))) (sym is_place ∙ e))

-- the same where the blocks are those of the numbers below b
module _ {A : Type 0} (P : ℕ → ℕ → Type 0) (f : ℕ → List A) (b n : ℕ) (o : Option (ℕ × ℕ))
    (walked : (sizes : List ℕ) → length sizes ≡ b → ((i r : ℕ) → i < b → P i r → r ≡ get_or sizes i 0) → o ≡ place sizes n)
    (sized : (i r : ℕ) → i < b → P i r → r ≡ length (f i)) where
  block_is : (k : ℕ) → k < b → get_or (map f (range_with_len 0 b)) k [] ≡ f k
  block_is k h = get_or-map-range_with_len f 0 b k k [] h (omega arith)

  block_sized : (i r : ℕ) → i < b → P i r → r ≡ length (get_or (map f (range_with_len 0 b)) i [])
  block_sized i r h p = sized i r h p ∙ sym (ap length (block_is i h))

  pub none_below : o ≡ None → None ≡ slice_get (flat_map f (range_with_len 0 b)) n
  none_below = found_none P f (range_with_len 0 b) b n o (length-range_with_len 0 b) walked block_sized

  module _ (k m : ℕ) (e : o ≡ Some (k, m)) where
    pub within_below : (k < b) × (m < length (f k))
    within_below =
        let w = found_within P f (range_with_len 0 b) b n o (length-range_with_len 0 b) walked block_sized k m e in
        (w.0, omega (arith, w.1, ap length (block_is k w.0)))

    pub there_below : slice_get (f k) m ≡ slice_get (flat_map f (range_with_len 0 b)) n
    there_below =
        sym (ap (λ l. slice_get l m) (block_is k within_below.0)) ∙
        found_there P f (range_with_len 0 b) b n o (length-range_with_len 0 b) walked block_sized k m e
