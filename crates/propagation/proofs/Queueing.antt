-- How a trail grows, and how the queue moves on.
use Rattle.std.proofs.Common.{◌≡◌, ℕ, ◌+◌, ◌-◌, ◌<◌, ◌≤◌, false, List, [], ◌∷◌, ◌++◌, length, get_or, drop, Some, None, sym, refl, ap, ◌∙◌, subst, inl, inr, ⊎_elim, arith}
use Rattle.std.proofs.lemmas.List.{append_assoc, length-append, drop-append-le, drop_more, drop_all, drop-drop}
use Rattle.std.proofs.lemmas.Bool.{cases_Bool, both_ways, cases_eq}
use Rattle.theory.specs.Lists.{◌∈◌, has}
use Rattle.theory.specs.Literals.{opposite}
use Rattle.theory.proofs.Members.{in_left, in_right, in_append, in_from_has, has_from_in}
use Rattle.clause_store.proofs.Rows.{in_drop}
use Rattle.trail.proofs.Opposites.{opposite_twice}
use Rattle.propagation.specs.Reaches.{Reaches, Clash}
use Rattle.propagation.specs.Finds.{Still, Only}
use Rattle.propagation.specs.Queue.{Grew, Done}
use Rattle.propagation.proofs.Reaching.{decided, forced, reaches_cut, clash_cut}

in_drop_le : (m n : ℕ) (xs : List ℕ) (x : ℕ) → m ≤ n → x ∈ drop n xs → x ∈ drop m xs
in_drop_le m n xs x h i =
    let e : m + (n - m) ≡ n = omega arith in
    in_drop (n - m) (drop m xs) x (subst (λ y. x ∈ y) (sym (drop-drop (n - m) m xs ∙ ap (λ k. drop k xs) e)) i)

-- the trail grows
module _ (cs : List (List ℕ)) where
  pub grew_step : (t u w : List ℕ) → Grew cs t u → Grew cs u w → Grew cs t w
  grew_step t u w a b = record {
    more = a.more ++ b.more;
    is = b.is ∙ ap (λ x. x ++ b.more) a.is ∙ append_assoc t a.more b.more;
    sound = λ l i. reaches_cut cs t u a.sound l (b.sound l i);
  }

  pub grew_push : (t u c : List ℕ) (l : ℕ) → u ≡ t ++ l ∷ [] → c ∈ cs → Only t c (Some l) → Grew cs t u
  grew_push t u c l e ic k = record { more = l ∷ []; is = e; sound = λ m i. ⊎_elim (decided cs t m) (last m) (in_append t (l ∷ []) m (subst (λ y. m ∈ y) e i)) }
    where
      last : (m : ℕ) → m ∈ (l ∷ []) → Reaches cs t m
      last m (inl q) = subst (Reaches cs t) (sym q) (forced cs t c l ic k.0 (λ x ix ne. decided cs t (opposite x) (k.2 x ix ne)))
      last m (inr n) = absurd n

  pub clash_refuted : (t c : List ℕ) (l : ℕ) → c ∈ cs → l ∈ c → Only t c None → Clash cs t
  clash_refuted t c l ic il k = (l, forced cs t c l ic il (λ m im ne. decided cs t (opposite m) (k m im)), decided cs t (opposite l) (k l il))

  pub clash_later : (t u : List ℕ) → Grew cs t u → Clash cs u → Clash cs t
  clash_later t u a = clash_cut cs t u a.sound

  -- what the literals were is reached from what they are
  pub grew_back : (t u : List ℕ) → Grew cs t u → (l : ℕ) → l ∈ t → Reaches cs u l
  grew_back t u a l i = decided cs u l (subst (λ x. l ∈ x) (sym a.is) (in_left t a.more l i))

  pub grew_length : (t u : List ℕ) → Grew cs t u → length t ≤ length u
  grew_length t u a = omega (arith, ap length a.is, length-append t a.more)

-- a forced literal is there now
pub still_push : (t u c : List ℕ) (l : ℕ) → u ≡ t ++ l ∷ [] → Only t c (Some l) → ((m : ℕ) → m ∈ u → opposite m ∈ u → ⊥) → Still u c
still_push t u c l e k apart m i others =
    let il : l ∈ u = subst (λ y. l ∈ y) (sym e) (in_right t (l ∷ []) l (inl refl)) in
    ⊎_elim (λ q. subst (λ x. x ∈ u) q il) (λ ne. absurd (apart l il (others l k.0 ne))) (cases_eq l m)

pub done_grows : (t u c : List ℕ) (h : ℕ) (more : List ℕ) → u ≡ t ++ more → h ≤ length t → Done t h c → Done u h c
done_grows t u c h more e le d none l il others =
    subst (λ y. l ∈ y) (sym e) (in_left t more l (d (λ x i j. none x (back x i) j) l il early))
  where
    split : drop h u ≡ drop h t ++ more
    split = ap (drop h) e ∙ drop-append-le h t more le

    back : (x : ℕ) → x ∈ drop h t → x ∈ drop h u
    back x i = subst (λ y. x ∈ y) (sym split) (in_left (drop h t) more x i)

    early : (m : ℕ) → m ∈ c → (m ≡ l → ⊥) → opposite m ∈ t
    early m im ne =
        ⊎_elim (λ i. i)
        (λ i. absurd (none (opposite m) (subst (λ y. (opposite m) ∈ y) (sym split) (in_right (drop h t) more (opposite m) i)) (subst (λ x. x ∈ c) (sym (opposite_twice m)) im)))
        (in_append t more (opposite m) (subst (λ y. (opposite m) ∈ y) e (others m im ne)))

pub done_later : (t c : List ℕ) (h g : ℕ) → h ≤ g → Done t g c → Done t h c
done_later t c h g le d none = d (λ x i j. none x (in_drop_le h g t x le i) j)

-- the queue moves on by one
pub done_next : (t c : List ℕ) (h : ℕ) → h < length t → Done t h c → (opposite (get_or t h 0) ∈ c → Done t (h + 1) c) → Done t (h + 1) c
done_next t c h lt d f none = ⊎_elim (λ e. f (in_from_has c (opposite (get_or t h 0)) e) none) other (cases_Bool (has c (opposite (get_or t h 0))))
  where
    other : has c (opposite (get_or t h 0)) ≡ false → Still t c
    other e =
        d (λ x i j. ⊎_elim (λ q. both_ways (has c (opposite (get_or t h 0))) e (has_from_in c (opposite (get_or t h 0)) (subst (λ y. opposite y ∈ c) q j)))
        (λ k. none x k j) (subst (λ y. x ∈ y) (drop_more t h 0 lt) i))

pub done_all : (t c : List ℕ) (h : ℕ) → length t ≤ h → Done t h c → Still t c
done_all t c h le d = d (λ x i j. absurd (subst (λ y. x ∈ y) (drop_all h t le) i))
