-- Lists that a loop makes longer turn by turn.
use Rattle.std.proofs.Common.{◌≡◌, ℕ, ◌+◌, ◌<◌, Bool, true, false, cond, List, [], ◌∷◌, ◌++◌, map, length, get_or, take, vec_items, filter, Vec, sym, refl, ap, ◌∙◌, arith}
use Rattle.std.specs.List.{range_with_len, flat_map}
use Rattle.std.specs.declared.alloc.Global.{Global}
use Rattle.std.proofs.lemmas.List.FromFn.{map-range_with_len_more}
use Rattle.std.proofs.lemmas.List.Elements.{filter-append}
use Rattle.std.proofs.lemmas.List.{append-nil, append_assoc, map-id, map-append, map_push, map_more, flat_map_more, length-append}

-- one number more
pub counting_more : (a n m j : ℕ) → a + n ≡ j → n + 1 ≡ m → range_with_len a m ≡ range_with_len a n ++ j ∷ []
counting_more a n m j h e =
    ap (range_with_len a) (sym e) ∙ sym (map-id (range_with_len a (n + 1))) ∙ map-range_with_len_more (λ i. i) a n j h ∙ ap (λ is. is ++ j ∷ []) (map-id (range_with_len a n))

-- the same from 0
pub count_up : (i : ℕ) → range_with_len 0 (i + 1) ≡ range_with_len 0 i ++ i ∷ []
count_up i = counting_more 0 i (i + 1) i (omega arith) refl

-- one element more of a list that is read in order
pub read_more : {X Y : Type 0} (f : X → Y) (xs : List X) (i : ℕ) (x : X) → i < length xs → x ≡ get_or xs i x →
    map f (take (i + 1) xs) ≡ map f (take i xs) ++ f x ∷ []
read_more f xs i x h e = map_more f xs i x h ∙ ap (λ y. map f (take i xs) ++ f y ∷ []) (sym e)

-- xs has gs behind ws, and one part more goes to both
pub grown : {X : Type 0} (ws gs hs part xs ys : List X) → hs ≡ gs ++ part → xs ≡ ws ++ gs → ys ≡ xs ++ part → ys ≡ ws ++ hs
grown ws gs hs part xs ys adds was is = rw (is, was, adds, append_assoc) refl

-- two parts in turn, behind nothing
pub behind_nothing : {X : Type 0} (a b xs ys zs : List X) → xs ≡ [] → ys ≡ xs ++ a → zs ≡ ys ++ b → zs ≡ a ++ b
behind_nothing a b xs ys zs e f g = g ∙ ap (λ l. l ++ b) (f ∙ ap (λ l. l ++ a) e)

-- a third behind two
pub third : {X : Type 0} (a b c zs vs : List X) → zs ≡ a ++ b → vs ≡ zs ++ c → vs ≡ a ++ (b ++ c)
third a b c zs vs g h = h ∙ ap (λ l. l ++ c) g ∙ append_assoc a b c

module _ {Y : Type 0} (ks ms : List Y) (k : Y) (more : ms ≡ ks ++ k ∷ []) where
  -- what passes of one element more
  kept_more : (p : Y → Bool) (b : Bool) → b ≡ p k → filter p ms ≡ filter p ks ++ cond b (k ∷ []) []
  kept_more p b e = ap (filter p) more ∙ filter-append p ks (k ∷ []) ∙ ap (λ a. filter p ks ++ cond a (k ∷ []) []) (sym e)

  pub length_kept_more : (p : Y → Bool) (b : Bool) → b ≡ p k → length (filter p ms) ≡ length (filter p ks) + length (cond b (k ∷ []) [])
  length_kept_more p b e = ap length (kept_more p b e) ∙ length-append (filter p ks) (cond b (k ∷ []) [])

  module _ {X : Type 0} (ws xs ys : List X) where
    pub map_grown : (f : Y → X) (x : X) → xs ≡ ws ++ map f ks → ys ≡ xs ++ x ∷ [] → x ≡ f k → ys ≡ ws ++ map f ms
    map_grown f x was pushed is =
        grown ws (map f ks) (map f ms) (f k ∷ []) xs ys (ap (map f) more ∙ map_push f ks k) was (pushed ∙ ap (λ y. xs ++ y ∷ []) is)

    pub joined_grown : (f : Y → List X) → xs ≡ ws ++ flat_map f ks → ys ≡ xs ++ f k → ys ≡ ws ++ flat_map f ms
    joined_grown f = grown ws (flat_map f ks) (flat_map f ms) (f k) xs ys (ap (flat_map f) more ∙ sym (flat_map_more f [] ks k))

    module _ (p : Y → Bool) (f : Y → X) (was : xs ≡ ws ++ map f (filter p ks)) where
      by_test : (b : Bool) → b ≡ p k → ys ≡ xs ++ map f (cond b (k ∷ []) []) → ys ≡ ws ++ map f (filter p ms)
      by_test b e =
          grown ws (map f (filter p ks)) (map f (filter p ms)) (map f (cond b (k ∷ []) [])) xs ys
          (ap (map f) (kept_more p b e) ∙ map-append f (filter p ks) (cond b (k ∷ []) [])) was

      -- the element passes
      pub kept_grown : (x : X) → true ≡ p k → ys ≡ xs ++ x ∷ [] → x ≡ f k → ys ≡ ws ++ map f (filter p ms)
      kept_grown x e pushed is = by_test true e (pushed ∙ ap (λ y. xs ++ y ∷ []) is)

      -- it does not
      pub left_grown : false ≡ p k → ys ≡ xs → ys ≡ ws ++ map f (filter p ms)
      left_grown e same = by_test false e (same ∙ sym (append-nil xs))

-- one clause more in memory
pub clause_pushed : (vs ws : List (Vec ℕ Global)) (x : Vec ℕ Global) → ws ≡ vs ++ x ∷ [] → map vec_items ws ≡ map vec_items vs ++ vec_items x ∷ []
clause_pushed vs ws x pushed = ap (map vec_items) pushed ∙ map_push vec_items vs x
