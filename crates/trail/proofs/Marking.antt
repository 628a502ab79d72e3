-- The marks after a literal is added or taken off.
use Rattle.std.proofs.Common.{◌≡◌, ℕ, zero, suc, ◌+◌, ◌-◌, ◌*◌, ◌/◌, ◌%◌, ◌<◌, ◌≤◌, true, false, ◌≢◌, List, [], ◌∷◌, ◌++◌, Some, None, length, get_or, set, drop, replicate, min, sym, refl, ap, ◌∙◌, subst, inl, ⊎_elim, arith, below_more}
use Rattle.std.proofs.Math.Seq.{get_or-append_seam}
use Rattle.std.proofs.lemmas.Bool.{cases_eq, cases_lt, ne_eqb, eq-eqb}
use Rattle.std.proofs.lemmas.List.{get_or_past, drop_more, length_push, length-append, length-set, get_or_push, get_or_append_left, get_or-append_right, get_or-set_same, get_or-set_other, length-replicate}
use Rattle.theory.specs.declared.Mark.{Mark}
use Rattle.theory.specs.declared.Mark.TheVariants.{In, Out, Open}
use Rattle.theory.specs.Lists.{◌∈◌, has}
use Rattle.theory.specs.Literals.{opposite, is_in, is_out}
use Rattle.theory.specs.Marks.{mark_of}
use Rattle.theory.proofs.Members.{in_from_has, has_from_in, in_left, in_right, in_append, at_in}
use Rattle.literals.specs.Given.{mark_given, truth_by}
use Rattle.trail.specs.Marked.{Marked, code, opens}
use Rattle.trail.specs.Truths.{truth_of}
use Rattle.trail.proofs.Opposites.{opposite_half}
use Rattle.trail.proofs.Truths.{has_not, open_when, true_when, false_when, neither_held}

code_small : (m : Mark) → code m ≤ 2
code_small Open = omega arith
code_small In = omega arith
code_small Out = omega arith

opens_cons : (m : Mark) (ms : List Mark) → (code m ≡ 0 → opens (m ∷ ms) ≡ 1 + opens ms) × ((code m ≡ 0 → ⊥) → opens (m ∷ ms) ≡ opens ms)
opens_cons Open ms = (λ _. refl, λ f. absurd (f refl))
opens_cons In ms = (λ e. absurd (omega arith), λ _. refl)
opens_cons Out ms = (λ e. absurd (omega arith), λ _. refl)

-- the mark that a literal gives says which of the two literals it is
pub code_given : (l : ℕ) → code (mark_given l) ≡ 1 + l % 2
code_given l =
    ⊎_elim (λ z. rw (eq-eqb (l % 2) 0 z) omega (arith, z)) (λ z. rw (ne_eqb (l % 2) 0 z) omega (arith, z)) (cases_eq (l % 2) 0)

-- one mark that was open is not
opens_set : (ms : List Mark) (v : ℕ) (m : Mark) → v < length ms → code (get_or ms v Open) ≡ 0 → (code m ≡ 0 → ⊥) → opens (set ms v m) + 1 ≡ opens ms
opens_set [] v m h e f = absurd (omega arith)
opens_set (x ∷ ms) zero m h e f = omega (arith, (opens_cons x ms).0 e, (opens_cons m ms).1 f)
opens_set (x ∷ ms) (suc v) m h e f =
    let r = opens_set ms v m (omega arith) e f in
    ⊎_elim (λ z. omega (arith, r, (opens_cons x ms).0 z, (opens_cons x (set ms v m)).0 z))
    (λ z. omega (arith, r, (opens_cons x ms).1 z, (opens_cons x (set ms v m)).1 z)) (cases_eq (code x) 0)

-- one mark that was not open is
opens_unset : (ms : List Mark) (v : ℕ) → v < length ms → (code (get_or ms v Open) ≡ 0 → ⊥) → opens (set ms v Open) ≡ opens ms + 1
opens_unset [] v h f = absurd (omega arith)
opens_unset (x ∷ ms) zero h f = omega (arith, (opens_cons x ms).1 f)
opens_unset (x ∷ ms) (suc v) h f =
    let r = opens_unset ms v (omega arith) f in
    ⊎_elim (λ z. omega (arith, r, (opens_cons x ms).0 z, (opens_cons x (set ms v Open)).0 z))
    (λ z. omega (arith, r, (opens_cons x ms).1 z, (opens_cons x (set ms v Open)).1 z)) (cases_eq (code x) 0)

opens_some : (ms : List Mark) (v : ℕ) → v < length ms → code (get_or ms v Open) ≡ 0 → 0 < opens ms
opens_some ms v h e = let r = opens_set ms v In h e (λ z. absurd (omega arith)) in omega arith

pub opens_all : (n : ℕ) → opens (replicate n Open) ≡ n
opens_all zero = refl
opens_all (suc n) = let r = opens_all n in omega arith

module _ (cap : ℕ) (t : List ℕ) (ms : List Mark) (k : Marked cap t ms) where
  pub told_in : (l : ℕ) → l ∈ t → code (get_or ms (l / 2) Open) ≡ 1 + l % 2
  told_in l h = let r = at_in t l h in subst (λ x. code (get_or ms (x / 2) Open) ≡ 1 + x % 2) r.2 (k.told r.0 r.1)

  pub below_in : (l : ℕ) → l ∈ t → l < 2 * length ms
  below_in l h = let r = at_in t l h in subst (λ x. x < 2 * length ms) r.2 (k.below r.0 r.1)

  told_opposite : (l : ℕ) → opposite l ∈ t → code (get_or ms (l / 2) Open) ≡ 1 + opposite l % 2
  told_opposite l h = subst (λ v. code (get_or ms v Open) ≡ 1 + opposite l % 2) (opposite_half l) (told_in (opposite l) h)

  -- no literal stands there with its opposite
  pub consistent : (l : ℕ) → l ∈ t → opposite l ∈ t → ⊥
  consistent l h g = omega (arith, told_in l h, told_opposite l g)

  pub truth_open : (l : ℕ) → code (get_or ms (l / 2) Open) ≡ 0 → truth_of t l ≡ None
  truth_open l e = open_when t l (λ h. omega (arith, told_in l h)) (λ h. omega (arith, told_opposite l h))

  pub truth_true : (l : ℕ) → code (get_or ms (l / 2) Open) ≡ 1 + l % 2 → truth_of t l ≡ Some true
  truth_true l e = true_when t l (in_from_has t l (k.heard l e))

  heard_opposite : (l : ℕ) → code (get_or ms (l / 2) Open) ≡ 1 + opposite l % 2 → opposite l ∈ t
  heard_opposite l e = in_from_has t (opposite l) (k.heard (opposite l) (subst (λ v. code (get_or ms v Open) ≡ 1 + opposite l % 2) (sym (opposite_half l)) e))

  pub truth_false : (l : ℕ) → code (get_or ms (l / 2) Open) ≡ 1 + opposite l % 2 → truth_of t l ≡ Some false
  truth_false l e = false_when t l (λ h. omega (arith, told_in l h)) (heard_opposite l e)

  -- what a mark says of a literal of its value
  pub truth_is : (l : ℕ) (m : Mark) → get_or ms (l / 2) Open ≡ m → truth_of t l ≡ truth_by m l
  truth_is l Open e = truth_open l (ap code e)
  truth_is l In e =
      ⊎_elim (λ z. rw (eq-eqb (l % 2) 0 z) (truth_true l (ap code e ∙ omega arith))) (λ z. rw (ne_eqb (l % 2) 0 z) (truth_false l (ap code e ∙ omega arith))) (cases_eq (l % 2) 0)
  truth_is l Out e =
      ⊎_elim (λ z. rw (eq-eqb (l % 2) 1 z) (truth_true l (ap code e ∙ omega arith))) (λ z. rw (ne_eqb (l % 2) 1 z) (truth_false l (ap code e ∙ omega arith))) (cases_eq (l % 2) 1)

  -- a literal of no value is open
  pub truth_past : (l : ℕ) → length ms ≤ l / 2 → truth_of t l ≡ None
  truth_past l h = truth_open l (ap code (get_or_past ms (l / 2) Open h))

  -- the mark of a value by the literals is the one that it has
  pub mark_is : (v : ℕ) → get_or ms v Open ≡ mark_of t v
  mark_is v = go (get_or ms v Open) refl
    where
      here : (l : ℕ) (m : Mark) → l / 2 ≡ v → get_or ms v Open ≡ m → code (get_or ms (l / 2) Open) ≡ code m
      here l m d e = ap (λ x. code (get_or ms x Open)) d ∙ ap code e

      go : (m : Mark) → get_or ms v Open ≡ m → m ≡ mark_of t v
      go In e = let a = k.heard (is_in v) (here (is_in v) In (omega arith) e ∙ omega arith) in rw a
      go Out e =
          let a = has_not t (is_in v) (λ h. omega (arith, told_in (is_in v) h, here (is_in v) Out (omega arith) e)) in
          let b = k.heard (is_out v) (here (is_out v) Out (omega arith) e ∙ omega arith) in
          rw (a, b)
      go Open e =
          let a = has_not t (is_in v) (λ h. omega (arith, told_in (is_in v) h, here (is_in v) Open (omega arith) e)) in
          let b = has_not t (is_out v) (λ h. omega (arith, told_in (is_out v) h, here (is_out v) Open (omega arith) e)) in
          rw (a, b)

  open_code : (l : ℕ) → truth_of t l ≡ None → code (get_or ms (l / 2) Open) ≡ 0
  open_code l e =
      let f = neither_held t l e in
      ⊎_elim (λ z. z)
      (λ z. ⊎_elim (λ y. absurd (f.0 (in_from_has t l (k.heard l y))))
      (λ y. absurd (f.1 (heard_opposite l (omega (arith, code_small (get_or ms (l / 2) Open)))))) (cases_eq (code (get_or ms (l / 2) Open)) (1 + l % 2)))
      (cases_eq (code (get_or ms (l / 2) Open)) 0)

  pub room_left : (l : ℕ) → l < 2 * length ms → truth_of t l ≡ None → length t < length ms
  room_left l h e = omega (arith, opens_some ms (l / 2) (omega arith) (open_code l e), k.room)

  pub room_for : (l : ℕ) → l < 2 * length ms → truth_of t l ≡ None → length t < cap
  room_for l h e = omega (arith, opens_some ms (l / 2) (omega arith) (open_code l e), k.room, k.space)

  pub marked_push : (l : ℕ) (m : Mark) → l < 2 * length ms → truth_of t l ≡ None → code m ≡ 1 + l % 2 → Marked cap (t ++ l ∷ []) (set ms (l / 2) m)
  marked_push l m h e c =
      record {
        space = rw length-set k.space;
        below = below;
        told = told;
        heard = heard;
        apart = apart;
        room = omega (arith, length_push t l, length-set ms (l / 2) m, opens_set ms (l / 2) m (omega arith) (open_code l e) (λ z. omega arith), k.room);
      }
    where
      last : get_or (t ++ l ∷ []) (length t) 0 ≡ l
      last = get_or_push t l 0 (length t) refl

      early : (j : ℕ) → j < length t → get_or (t ++ l ∷ []) j 0 ≡ get_or t j 0
      early j lt = get_or_append_left t (l ∷ []) 0 j lt

      other : (j : ℕ) → j < length t → get_or t j 0 / 2 ≢ l / 2
      other j lt z = let r : code (get_or ms (l / 2) Open) ≡ 1 + get_or t j 0 % 2 = subst (λ v. code (get_or ms v Open) ≡ 1 + get_or t j 0 % 2) z (k.told j lt) in omega (arith, open_code l e)

      below : (j : ℕ) → j < length (t ++ l ∷ []) → get_or (t ++ l ∷ []) j 0 < 2 * length (set ms (l / 2) m)
      below = rw (length_push, length-set) (below_more _ _ (λ j lt. rw (early j lt) (k.below j lt)) (rw last h))

      told : (j : ℕ) → j < length (t ++ l ∷ []) → code (get_or (set ms (l / 2) m) (get_or (t ++ l ∷ []) j 0 / 2) Open) ≡ 1 + get_or (t ++ l ∷ []) j 0 % 2
      told = rw length_push (below_more _ _
          (λ j lt. rw (early j lt, get_or-set_other ms (l / 2) (get_or t j 0 / 2) m Open (other j lt)) (k.told j lt))
          (rw (last, get_or-set_same ms (l / 2) m Open (omega arith)) c))

      heard : (x : ℕ) → code (get_or (set ms (l / 2) m) (x / 2) Open) ≡ 1 + x % 2 → has (t ++ l ∷ []) x ≡ true
      heard x z = has_from_in (t ++ l ∷ []) x (⊎_elim same else' (cases_eq (x / 2) (l / 2)))
        where
          same : x / 2 ≡ l / 2 → x ∈ (t ++ l ∷ [])
          same d =
              let y : code m ≡ 1 + x % 2 = ap code (sym (get_or-set_same ms (l / 2) m Open (omega arith))) ∙ ap (λ v. code (get_or (set ms (l / 2) m) v Open)) (sym d) ∙ z in
              let q : x ≡ l = omega arith in in_right t (l ∷ []) x (inl q)

          else' : (x / 2 ≡ l / 2 → ⊥) → x ∈ (t ++ l ∷ [])
          else' d = in_left t (l ∷ []) x (in_from_has t x (k.heard x (ap code (sym (get_or-set_other ms (l / 2) (x / 2) m Open d)) ∙ z)))

      apart : (i j : ℕ) → i < j → j < length (t ++ l ∷ []) → get_or (t ++ l ∷ []) i 0 / 2 ≡ get_or (t ++ l ∷ []) j 0 / 2 → ⊥
      apart i j lt h d =
          let n : j < length t + 1 = omega (arith, length_push t l) in
          ⊎_elim
          (λ e. other i (omega arith) (ap (λ x. x / 2) (sym (early i (omega arith))) ∙ d ∙ ap (λ v. get_or (t ++ l ∷ []) v 0 / 2) e ∙ ap (λ x. x / 2) last))
          (λ ne. k.apart i j lt (omega arith) (ap (λ x. x / 2) (sym (early i (omega arith))) ∙ d ∙ ap (λ x. x / 2) (early j (omega arith))))
          (cases_eq j (length t))

-- the element at hand stands before those that are left
pub marked_at :
    (cap : ℕ) (a xs : List ℕ) (ms : List Mark) (i x : ℕ) → i < length xs → x ≡ get_or xs i x → Marked cap (a ++ drop i xs) ms → Marked cap (a ++ x ∷ drop (i + 1) xs) ms
marked_at cap a xs ms i x h e k = subst (λ u. Marked cap (a ++ u) ms) (drop_more xs i x h ∙ ap (λ y. y ∷ drop (i + 1) xs) (sym e)) k

module _ (cap : ℕ) (a : List ℕ) (x : ℕ) (b : List ℕ) (ms : List Mark) (k : Marked cap (a ++ x ∷ b) ms) where
  -- the value of the literal x has a mark
  pub marked_here : x / 2 < length ms
  marked_here = omega (arith, below_in cap (a ++ x ∷ b) ms k x (in_right a (x ∷ b) x (inl refl)))

  -- the literal x taken out, its value is open
  pub marked_without : Marked cap (a ++ b) (set ms (x / 2) Open)
  marked_without =
      record {
        space = rw length-set k.space;
        below = λ j lt. let w = was j lt in rw length-set (subst (λ y. y < 2 * length ms) w.1 (k.below w.0 (omega (arith, w.2, long, short))));
        told = λ j lt. let w = was j lt in rw (get_or-set_other ms (x / 2) (get_or (a ++ b) j 0 / 2) Open Open (other j lt)) (subst (λ y. code (get_or ms (y / 2) Open) ≡ 1 + y % 2) w.1 (k.told w.0 (omega (arith, w.2, long, short))));
        heard = λ y z. has_from_in (a ++ b) y (heard y z);
        apart = λ i j lt h d. let v = was i (omega arith) in let w = was j h in
            k.apart v.0 w.0 (omega (arith, v.2, w.2)) (omega (arith, w.2, long, short)) (ap (λ y. y / 2) v.1 ∙ d ∙ ap (λ y. y / 2) (sym w.1));
        room = omega (arith, long, short, length-set ms (x / 2) Open, opens_unset ms (x / 2) marked_here (λ z. omega (arith, said)), k.room);
      }
    where
      long : length (a ++ x ∷ b) ≡ length a + suc (length b)
      long = length-append a (x ∷ b)

      short : length (a ++ b) ≡ length a + length b
      short = length-append a b

      seam : get_or (a ++ x ∷ b) (length a) 0 ≡ x
      seam = get_or-append_seam a x b 0

      -- the place where the literal at j was
      was : (j : ℕ) → j < length (a ++ b) → (i : ℕ) × (get_or (a ++ x ∷ b) i 0 ≡ get_or (a ++ b) j 0) × (i ≡ j + min 1 (j + 1 - length a))
      was j lt =
          ⊎_elim (λ h. (j, get_or_append_left a (x ∷ b) 0 j h ∙ sym (get_or_append_left a b 0 j h), omega arith))
          (λ h. let e : j + 1 - length a ≡ suc (j - length a) = omega arith in
          (j + 1, get_or-append_right a (x ∷ b) (length a) (j + 1) 0 refl (omega arith) ∙ ap (λ n. get_or (x ∷ b) n 0) e ∙ sym (get_or-append_right a b (length a) j 0 refl h), omega arith))
          (cases_lt j (length a))

      said : code (get_or ms (x / 2) Open) ≡ 1 + x % 2
      said = told_in cap (a ++ x ∷ b) ms k x (in_right a (x ∷ b) x (inl refl))

      other : (j : ℕ) → j < length (a ++ b) → get_or (a ++ b) j 0 / 2 ≢ x / 2
      other j lt z =
          let w = was j lt in
          let e : get_or (a ++ x ∷ b) w.0 0 / 2 ≡ get_or (a ++ x ∷ b) (length a) 0 / 2 = ap (λ y. y / 2) w.1 ∙ z ∙ ap (λ y. y / 2) (sym seam) in
          ⊎_elim (λ h. k.apart w.0 (length a) (omega (arith, w.2)) (omega (arith, long)) e)
          (λ h. k.apart (length a) w.0 (omega (arith, w.2)) (omega (arith, w.2, long, short)) (sym e)) (cases_lt j (length a))

      heard : (y : ℕ) → code (get_or (set ms (x / 2) Open) (y / 2) Open) ≡ 1 + y % 2 → y ∈ (a ++ b)
      heard y z = ⊎_elim same else' (cases_eq (y / 2) (x / 2))
        where
          same : y / 2 ≡ x / 2 → y ∈ (a ++ b)
          same d =
              let q : code Open ≡ 1 + y % 2 = ap code (sym (get_or-set_same ms (x / 2) Open Open marked_here)) ∙ ap (λ v. code (get_or (set ms (x / 2) Open) v Open)) (sym d) ∙ z in
              absurd (omega arith)

          else' : (y / 2 ≡ x / 2 → ⊥) → y ∈ (a ++ b)
          else' d =
              let h = in_from_has (a ++ x ∷ b) y (k.heard y (ap code (sym (get_or-set_other ms (x / 2) (y / 2) Open Open d)) ∙ z)) in
              ⊎_elim (in_left a b y) (λ i. ⊎_elim (λ e. absurd (d (ap (λ v. v / 2) e))) (in_right a b y) i) (in_append a (x ∷ b) y h)

pub marked_none : (cap n : ℕ) → n ≤ cap → Marked cap [] (replicate n Open)
marked_none cap n h =
    record {
      space = rw length-replicate h;
      below = λ k z. absurd (omega arith);
      told = λ k z. absurd (omega arith);
      heard = λ l z. absurd (omega (arith, all_open n (l / 2)));
      apart = λ i j lt z. absurd (omega arith);
      room = omega (arith, opens_all n, length-replicate n Open);
    }
  where
    all_open : (n i : ℕ) → code (get_or (replicate n Open) i Open) ≡ 0
    all_open zero i = refl
    all_open (suc n) zero = refl
    all_open (suc n) (suc i) = all_open n i
