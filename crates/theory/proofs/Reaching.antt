-- What decisions reach, as derivations: the computed rounds hold a literal exactly when it has one.
use Rattle.std.proofs.Common.{◌≡◌, ℕ, zero, suc, ◌*◌, ◌<◌, ◌≤◌, Bool, true, false, cond, not, eqb, ◌⊎◌, List, [], ◌∷◌, ◌++◌, length, filter, sym, refl, ◌∙◌, subst, inl, inr, ⊎_elim, arith}
use mathlib.Core.Bool.{false≢true}
use Rattle.std.specs.List.{range_with_len, flat_map}
use Rattle.std.proofs.lemmas.List.FromFn.{length-range_with_len}
use Rattle.std.proofs.lemmas.Bool.{eqb-true, eq-eqb, or_cases, or_left, or_right, cases_eq, cases_Bool, and_parts, and_from, not_from_false, not-true, both_ways}
use Rattle.theory.specs.Lists.{◌∈◌, has}
use Rattle.theory.specs.Literals.{opposite, Within}
use Rattle.theory.specs.Reached.{same, remaining, forced_of, units, unless_none, rounds, reached_set}
use Rattle.theory.specs.Marks.{opposed}
use Rattle.theory.specs.Laws.{RoundsSuffice, ClashIsOpposites}
use Rattle.theory.proofs.Members.{in_from_has, has_from_in, in_left, in_right, in_append, kept_in, in_kept, kept_both, in_counting, in_joined, joined_in}

-- a derivation of a literal from the decisions
pub data Reached (cs : List (List ℕ)) (ds : List ℕ) : ℕ → Type 0 where
  decided : {l : ℕ} → l ∈ ds → Reached cs ds l
  forced : {l : ℕ} (c : List ℕ) → c ∈ cs → l ∈ c → ((m : ℕ) → m ∈ c → (m ≡ l → ⊥) → Reached cs ds (opposite m)) → Reached cs ds l

-- s holds the opposites of the other literals of c
abbrev Others : List ℕ → ℕ → List ℕ → Type 0
Others s l c = (m : ℕ) → m ∈ c → (m ≡ l → ⊥) → (opposite m) ∈ s

same_from : (x : ℕ) (ys : List ℕ) → same x ys ≡ true → (y : ℕ) → y ∈ ys → y ≡ x
same_from x [] h y i = absurd i
same_from x (z ∷ zs) h y (inl e) = e ∙ eqb-true z x (and_parts (eqb z x) (same x zs) h).0
same_from x (z ∷ zs) h y (inr i) = same_from x zs (and_parts (eqb z x) (same x zs) h).1 y i

same_to : (x : ℕ) (ys : List ℕ) → ((y : ℕ) → y ∈ ys → y ≡ x) → same x ys ≡ true
same_to x [] f = refl
same_to x (z ∷ zs) f = and_from (eqb z x) (same x zs) (eq-eqb z x (f z (inl refl))) (same_to x zs (λ y i. f y (inr i)))

-- a literal of c is one that remains, or its opposite is held
remains_or_held : (s c : List ℕ) (m : ℕ) → m ∈ c → (m ∈ (remaining s c)) ⊎ ((opposite m) ∈ s)
remains_or_held s c m i =
    ⊎_elim (λ t. inr (in_from_has s (opposite m) t)) (λ t. inl (kept_in (λ x. not (has s (opposite x))) c m (not_from_false (has s (opposite m)) t) i))
    (cases_Bool (has s (opposite m)))

remaining_in : (s c : List ℕ) (m : ℕ) → m ∈ (remaining s c) → (m ∈ c) × (((opposite m) ∈ s) → ⊥)
remaining_in s c m i =
    let r = in_kept (λ x. not (has s (opposite x))) c m i in
    (r.0, λ h. both_ways (has s (opposite m)) (not-true (has s (opposite m)) r.1) (has_from_in s (opposite m) h))

forced_from : (c rs : List ℕ) (l : ℕ) → l ∈ (forced_of c rs) → ((l ∈ c) ⊎ (l ∈ rs)) × ((m : ℕ) → m ∈ rs → m ≡ l)
forced_from c [] l i = (inl i, λ m j. absurd j)
forced_from c (x ∷ xs) l i = go (same x xs) refl i
  where
    go : (b : Bool) → same x xs ≡ b → l ∈ (cond b (x ∷ []) []) → ((l ∈ c) ⊎ (l ∈ (x ∷ xs))) × ((m : ℕ) → m ∈ (x ∷ xs) → m ≡ l)
    go true t (inl e) = (inr (inl e), λ m j. ⊎_elim (λ d. d ∙ sym e) (λ k. same_from x xs t m k ∙ sym e) j)
    go true t (inr k) = absurd k
    go false t k = absurd k

forced_to : (c rs : List ℕ) (l : ℕ) → l ∈ c → ((m : ℕ) → m ∈ rs → m ≡ l) → l ∈ (forced_of c rs)
forced_to c [] l i f = i
forced_to c (x ∷ xs) l i f = rw (same_to x xs (λ y j. f y (inr j) ∙ sym (f x (inl refl)))) (inl (sym (f x (inl refl))))

units_from : (s c : List ℕ) (l : ℕ) → l ∈ (units s c) → (l ∈ c) × Others s l c
units_from s c l h =
    let r = forced_from c (remaining s c) l h in
    (⊎_elim (λ i. i) (λ i. (remaining_in s c l i).0) r.0, λ m i ne. ⊎_elim (λ j. absurd (ne (r.1 m j))) (λ j. j) (remains_or_held s c m i))

units_to : (s c : List ℕ) (l : ℕ) → l ∈ c → Others s l c → l ∈ (units s c)
units_to s c l i f =
    forced_to c (remaining s c) l i
    (λ m j. let r = remaining_in s c m j in ⊎_elim (λ e. e) (λ ne. absurd (r.1 (f m r.0 ne))) (cases_eq m l))

abbrev Due : List (List ℕ) → List ℕ → ℕ → Type 0
Due cs s l = (c : List ℕ) × (c ∈ cs) × (l ∈ c) × Others s l c

abbrev due : List (List ℕ) → List ℕ → ℕ → Bool
due cs s l = has (flat_map (units s) cs) l

due_from : (cs : List (List ℕ)) (s : List ℕ) (l : ℕ) → due cs s l ≡ true → Due cs s l
due_from cs s l h =
    let r = in_joined (units s) cs l (in_from_has (flat_map (units s) cs) l h) in
    let u = units_from s r.0 l r.2 in
    (r.0, r.1, u.0, u.1)

due_to : (cs : List (List ℕ)) (s : List ℕ) (l : ℕ) (c : List ℕ) → c ∈ cs → l ∈ c → Others s l c → due cs s l ≡ true
due_to cs s l c i j f = has_from_in (flat_map (units s) cs) l (joined_in (units s) cs c l i (units_to s c l j f))

unless_none_lem : (P : List ℕ → Type 0) (fresh s t : List ℕ) → (fresh ≡ [] → P s) → ((x : ℕ) → x ∈ fresh → P t) → P (unless_none fresh s t)
unless_none_lem P [] s t f g = f refl
unless_none_lem P (x ∷ xs) s t f g = g x (inl refl)

-- the list holds each literal that is due
abbrev Shut : List (List ℕ) → List ℕ → Type 0
Shut cs s = (l : ℕ) → Due cs s l → l ∈ s

module _ (cs : List (List ℕ)) where
  abbrev new : List ℕ → List ℕ → List ℕ
  new left s = filter (due cs s) left

  abbrev rest : List ℕ → List ℕ → List ℕ
  rest left s = filter (λ l. not (due cs s l)) left

  sound : (ds : List ℕ) (k : ℕ) (left s : List ℕ) → ((l : ℕ) → l ∈ s → Reached cs ds l) → (l : ℕ) → l ∈ (rounds cs k left s) → Reached cs ds l
  sound ds zero left s f l h = f l h
  sound ds (suc k) left s f l h =
      unless_none_lem (λ t. (l ∈ t) → Reached cs ds l) (new left s) s (rounds cs k (rest left s) (new left s ++ s)) (λ _. f l)
      (λ _ _. sound ds k (rest left s) (new left s ++ s) step l) h
    where
      step : (m : ℕ) → m ∈ (filter (due cs s) left ++ s) → Reached cs ds m
      step m i =
          ⊎_elim (λ t. let d = due_from cs s m (in_kept (due cs s) left m t).1 in forced d.0 d.1 d.2 (λ x ix ne. f (opposite x) (d.3 x ix ne)))
          (f m) (in_append (filter (due cs s) left) s m i)

  grows : (k : ℕ) (left s : List ℕ) (l : ℕ) → l ∈ s → l ∈ (rounds cs k left s)
  grows zero left s l h = h
  grows (suc k) left s l h =
      unless_none_lem (λ t. (l ∈ t)) (new left s) s (rounds cs k (rest left s) (new left s ++ s)) (λ _. h)
      (λ _ _. grows k (rest left s) (new left s ++ s) l (in_right (new left s) s l h))

  -- joined literal of the book is held, or left to try
  abbrev Covered : List ℕ → List ℕ → Type 0
  Covered left s = (c : List ℕ) → c ∈ cs → (l : ℕ) → l ∈ c → (l ∈ left) ⊎ (l ∈ s)

  covered_more : (left s : List ℕ) → Covered left s → Covered (rest left s) (new left s ++ s)
  covered_more left s f c ic l il = ⊎_elim tried (λ h. inr (in_right (new left s) s l h)) (f c ic l il)
    where
      tried : (l ∈ left) → (l ∈ (rest left s)) ⊎ (l ∈ (new left s ++ s))
      tried h =
          ⊎_elim (λ t. inr (in_left (new left s) s l (kept_in (due cs s) left l t h)))
          (λ t. inl (kept_in (λ x. not (due cs s x)) left l (not_from_false (due cs s l) t) h)) (cases_Bool (due cs s l))

  member_length : (xs : List ℕ) (x : ℕ) → x ∈ xs → 0 < length xs
  member_length [] x h = absurd h
  member_length (y ∷ ys) x h = omega arith

  closed : (k : ℕ) (left s : List ℕ) → length left ≤ k → Covered left s → Shut cs (rounds cs k left s)
  closed zero [] s h f = λ l d. ⊎_elim (λ i. absurd i) (λ i. i) (f d.0 d.1 l d.2)
  closed zero (x ∷ left) s h f = absurd (omega arith)
  closed (suc k) left s h f =
      unless_none_lem (Shut cs) (new left s) s (rounds cs k (rest left s) (new left s ++ s))
      (λ e l d. ⊎_elim
      (λ i. absurd (subst (λ t. l ∈ t) e (kept_in (due cs s) left l (due_to cs s l d.0 d.1 d.2 d.3) i)))
      (λ i. i) (f d.0 d.1 l d.2))
      (λ x i. closed k (rest left s) (new left s ++ s) (omega (arith, kept_both (due cs s) left, member_length (new left s) x i)) (covered_more left s f))

  complete : (ds s : List ℕ) → Shut cs s → ((l : ℕ) → l ∈ ds → (l ∈ s)) → (l : ℕ) → Reached cs ds l → l ∈ s
  complete ds s cl f l (decided i) = f l i
  complete ds s cl f l (forced c ic il others) = cl l (c, ic, il, λ m im ne. complete ds s cl f (opposite m) (others m im ne))

module _ (cs : List (List ℕ)) (n : ℕ) (ds : List ℕ) where
  -- what the computed list holds has a derivation
  pub set_reached : (l : ℕ) → has (reached_set cs n ds) l ≡ true → Reached cs ds l
  set_reached l t = sound cs ds (2 * n) (range_with_len 0 (2 * n)) ds (λ m i. decided i) l (in_from_has (reached_set cs n ds) l t)

  pub set_decided : (l : ℕ) → l ∈ ds → has (reached_set cs n ds) l ≡ true
  set_decided l i = has_from_in (reached_set cs n ds) l (grows cs (2 * n) (range_with_len 0 (2 * n)) ds l i)

  module _ (below : Within n cs) where
    shut : Shut cs (reached_set cs n ds)
    shut =
        closed cs (2 * n) (range_with_len 0 (2 * n)) ds (omega (arith, length-range_with_len 0 (2 * n)))
        (λ c ic m im. inl (in_counting (2 * n) 0 m (omega arith) (omega (arith, below c ic m im))))

    pub reached_set_lem : (l : ℕ) → Reached cs ds l → has (reached_set cs n ds) l ≡ true
    reached_set_lem l r =
        has_from_in (reached_set cs n ds) l
        (complete cs ds (reached_set cs n ds) shut (λ m i. grows cs (2 * n) (range_with_len 0 (2 * n)) ds m i) l r)

-- a set that holds the decisions and is closed holds what has a derivation: for a set that is a family of types
pub reached_least :
    (P : ℕ → Type 0) {cs : List (List ℕ)} {ds : List ℕ} → ((l : ℕ) → l ∈ ds → P l) →
    ((c : List ℕ) → c ∈ cs → (l : ℕ) → l ∈ c → ((m : ℕ) → m ∈ c → (m ≡ l → ⊥) → P (opposite m)) → P l) →
    (l : ℕ) → Reached cs ds l → P l
reached_least P f g l (decided h) = f l h
reached_least P f g l (forced c ic il others) = g c ic l il (λ m im ne. reached_least P f g (opposite m) (others m im ne))

pub rounds_suffice : (n : ℕ) → RoundsSuffice n (2 * n)
rounds_suffice n cs ds below =
    record {
      holds_all = set_decided cs n ds;
      closed = λ c ic l il f. reached_set_lem cs n ds below l (forced c ic il (λ m im ne. set_reached cs n ds (opposite m) (f m im ne)));
      smallest = λ T h cl l t. reached_least (λ m. T m ≡ true) h cl l (set_reached cs n ds l t);
    }

opposed_from : (s ls : List ℕ) → opposed s ls ≡ true → (l : ℕ) × (l ∈ ls) × (opposite l ∈ s)
opposed_from s [] h = absurd (false≢true h)
opposed_from s (x ∷ ls) h =
    ⊎_elim (λ t. (x, inl refl, in_from_has s (opposite x) t)) (λ t. let r = opposed_from s ls t in (r.0, inr r.1, r.2))
    (or_cases (has s (opposite x)) (opposed s ls) h)

opposed_to : (s ls : List ℕ) (l : ℕ) → l ∈ ls → opposite l ∈ s → opposed s ls ≡ true
opposed_to s [] l i j = absurd i
opposed_to s (x ∷ ls) l (inl e) j = or_left (has s (opposite x)) (opposed s ls) (rw (← e) (has_from_in s (opposite l) j))
opposed_to s (x ∷ ls) l (inr i) j = or_right (has s (opposite x)) (opposed s ls) (opposed_to s ls l i j)

-- a clash is a literal that the set holds with its opposite
pub clash_from : (s : List ℕ) → opposed s s ≡ true → (l : ℕ) × (has s l ≡ true) × (has s (opposite l) ≡ true)
clash_from s h = let r = opposed_from s s h in (r.0, has_from_in s r.0 r.1, has_from_in s (opposite r.0) r.2)

pub clash_to : (s : List ℕ) (l : ℕ) → has s l ≡ true → has s (opposite l) ≡ true → opposed s s ≡ true
clash_to s l t o = opposed_to s s l (in_from_has s l t) (in_from_has s (opposite l) o)

-- without a clash, a set that holds a literal does not hold its opposite
pub no_opposite : (s : List ℕ) → opposed s s ≡ false → (l : ℕ) → has s l ≡ true → has s (opposite l) ≡ false
no_opposite s f l t =
    ⊎_elim (λ o. absurd (both_ways (opposed s s) f (clash_to s l t o))) (λ o. o) (cases_Bool (has s (opposite l)))

pub clash_is_opposites : ClashIsOpposites
clash_is_opposites cs n ds = (clash_from (reached_set cs n ds), λ r. clash_to (reached_set cs n ds) r.0 r.1 r.2)
