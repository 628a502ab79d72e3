-- The marking of a layout and the layout of a marking undo each other.
use Rattle.std.proofs.Common.{◌≡◌, ℕ, zero, suc, ◌+◌, ◌-◌, ◌<◌, ◌≤◌, Bool, true, false, eqb, List, [], ◌∷◌, ◌++◌, map, length, get_or, take, drop, sym, refl, ap, ◌∙◌, ⊎_elim, add_assoc, zero-add, add-one, arith}
use mathlib.Core.Bool.{false≢true}
use Rattle.std.specs.List.{range_with_len}
use Rattle.std.proofs.lemmas.List.FromFn.{length-map-range_with_len, get_or-map-range_with_len}
use Rattle.std.proofs.lemmas.List.{length-append, get_or_append_left, get_or-append_right, get_or-take, get_or-drop, ext_get_or}
use Rattle.std.proofs.lemmas.Bool.{cases_Bool, cases_eq, eqb-true, eq-eqb, ne_eqb}
use Rattle.theory.specs.Faithful.{marking_of, first_in, layout_of}
use Rattle.theory.specs.Numbering.{count, offset, total, number}
use Rattle.theory.proofs.Numbering.{find_place, point_below}

-- the marking has the value i of the point p in
abbrev pub HasIn : List ℕ → List Bool → ℕ → ℕ → Type 0
HasIn ks m p i = get_or m (number ks p i) false ≡ true

-- the layout gives each point one of its values
abbrev pub Valid : List ℕ → List ℕ → Type 0
Valid ks vs = (p : ℕ) → p < length ks → get_or vs p 0 < count ks p

-- the values that the marking has in are those of the layout
abbrev pub Agree : List ℕ → List ℕ → List Bool → Type 0
Agree ks vs m = (p i : ℕ) → i < count ks p → get_or m (number ks p i) false ≡ eqb (get_or vs p 0) i

-- the marking has a value of each point in, and never two of one point
pub record OneIn (ks : List ℕ) (m : List Bool) : Type 0 where
  pub some : (p : ℕ) → p < length ks → (i : ℕ) × (i < count ks p) × HasIn ks m p i
  pub single : (p i j : ℕ) → i < count ks p → j < count ks p → HasIn ks m p i → HasIn ks m p j → i ≡ j

pub length_marking : (ks vs : List ℕ) → length vs ≡ length ks → length (marking_of ks vs) ≡ total ks
length_marking [] vs h = refl
length_marking (k ∷ ks) [] h = absurd (omega arith)
length_marking (k ∷ ks) (v ∷ vs) h =
    omega (arith, length-append (map (eqb v) (range_with_len 0 k)) (marking_of ks vs), length-map-range_with_len (eqb v) 0 k, length_marking ks vs (omega arith))

pub length_layout : (ks : List ℕ) (m : List Bool) → length (layout_of ks m) ≡ length ks
length_layout [] m = refl
length_layout (k ∷ ks) m = ap suc (length_layout ks (drop k m))

pub marking_agrees : (ks vs : List ℕ) → length vs ≡ length ks → Agree ks vs (marking_of ks vs)
marking_agrees [] vs h p i b = absurd (omega arith)
marking_agrees (k ∷ ks) [] h p i b = absurd (omega arith)
marking_agrees (k ∷ ks) (v ∷ vs) h zero i b =
    let front = map (eqb v) (range_with_len 0 k) in
    ap (λ n. get_or (front ++ marking_of ks vs) n false) (zero-add i) ∙
    get_or_append_left front (marking_of ks vs) false i (omega (arith, length-map-range_with_len (eqb v) 0 k)) ∙
    get_or-map-range_with_len (eqb v) 0 k i i false b (omega arith)
marking_agrees (k ∷ ks) (v ∷ vs) h (suc p) i b =
    let front = map (eqb v) (range_with_len 0 k) in
    let e : k + offset ks p + i - k ≡ offset ks p + i = omega arith in
    get_or-append_right front (marking_of ks vs) k (k + offset ks p + i) false (length-map-range_with_len (eqb v) 0 k) (omega arith) ∙
    ap (λ n. get_or (marking_of ks vs) n false) e ∙
    marking_agrees ks vs (omega arith) p i b

-- where some value is in, the first that is in stands no later
first_in_lem : (bs : List Bool) (i : ℕ) → get_or bs i false ≡ true → (first_in bs ≤ i) × (get_or bs (first_in bs) false ≡ true)
first_in_lem [] i h = absurd (false≢true h)
first_in_lem (true ∷ bs) i h = (omega arith, refl)
first_in_lem (false ∷ bs) zero h = absurd (false≢true h)
first_in_lem (false ∷ bs) (suc i) h = let r = first_in_lem bs i h in (omega arith, ap (λ n. get_or (false ∷ bs) n false) (add-one (first_in bs)) ∙ r.1)

-- where some value of a point is in, the layout has one that is in and that stands no later
pub layout_in :
    (ks : List ℕ) (m : List Bool) (p i : ℕ) → i < count ks p → HasIn ks m p i →
    (get_or (layout_of ks m) p 0 ≤ i) × HasIn ks m p (get_or (layout_of ks m) p 0)
layout_in [] m p i b h = absurd (omega arith)
layout_in (k ∷ ks) m zero i b h =
    let at : (n : ℕ) → n < k → get_or (take k m) n false ≡ get_or m (0 + n) false =
    λ n l. get_or-take k m n false l ∙ ap (λ x. get_or m x false) (sym (zero-add n)) in
    let r = first_in_lem (take k m) i (at i b ∙ h) in
    (r.0, sym (at (first_in (take k m)) (omega (arith, r.0))) ∙ r.1)
layout_in (k ∷ ks) m (suc p) i b h =
    let at : (n : ℕ) → get_or (drop k m) (offset ks p + n) false ≡ get_or m (k + offset ks p + n) false =
    λ n. get_or-drop k m (offset ks p + n) false ∙ ap (λ x. get_or m x false) (sym (add_assoc k (offset ks p) n)) in
    let r = layout_in ks (drop k m) p i b (at i ∙ h) in
    (r.0, sym (at (get_or (layout_of ks (drop k m)) p 0)) ∙ r.1)

module _ (ks vs : List ℕ) (m : List Bool) (agree : Agree ks vs m) where
  -- the layout's value of a point is in
  pub value_in : (p : ℕ) → get_or vs p 0 < count ks p → HasIn ks m p (get_or vs p 0)
  value_in p b = agree p (get_or vs p 0) b ∙ eq-eqb (get_or vs p 0) (get_or vs p 0) refl

  -- a value that is in is the layout's
  pub in_value : (p i : ℕ) → i < count ks p → HasIn ks m p i → get_or vs p 0 ≡ i
  in_value p i b h = eqb-true (get_or vs p 0) i (sym (agree p i b) ∙ h)

-- a marking is known by its layout
pub marking_back : (ks vs : List ℕ) (m : List Bool) → length vs ≡ length ks → length m ≡ total ks → Agree ks vs m → marking_of ks vs ≡ m
marking_back ks vs m h l agree = ext_get_or false (marking_of ks vs) m (length_marking ks vs h ∙ sym l) same
  where
    same : (n : ℕ) → n < length (marking_of ks vs) → get_or (marking_of ks vs) n false ≡ get_or m n false
    same n b =
        let w = find_place ks n (omega (arith, length_marking ks vs h)) in
        ap (λ x. get_or (marking_of ks vs) x false) w.4 ∙ marking_agrees ks vs h w.0 w.1 w.3 ∙
        sym (agree w.0 w.1 w.3) ∙ ap (λ x. get_or m x false) (sym w.4)

-- a layout is known by its marking
pub layout_back : (ks vs : List ℕ) → length vs ≡ length ks → Valid ks vs → layout_of ks (marking_of ks vs) ≡ vs
layout_back ks vs h valid = ext_get_or 0 (layout_of ks (marking_of ks vs)) vs (length_layout ks (marking_of ks vs) ∙ sym h) same
  where
    same : (p : ℕ) → p < length (layout_of ks (marking_of ks vs)) → get_or (layout_of ks (marking_of ks vs)) p 0 ≡ get_or vs p 0
    same p b =
        let agree = marking_agrees ks vs h in
        let v = valid p (omega (arith, length_layout ks (marking_of ks vs))) in
        let r = layout_in ks (marking_of ks vs) p (get_or vs p 0) v (value_in ks vs (marking_of ks vs) agree p v) in
        sym (in_value ks vs (marking_of ks vs) agree p (get_or (layout_of ks (marking_of ks vs)) p 0) (omega arith) r.1)

module _ (ks : List ℕ) (m : List Bool) (one : OneIn ks m) where
  -- the layout of a marking with one value of each point in has a value that is in
  layout_one : (p : ℕ) → p < length ks → (get_or (layout_of ks m) p 0 < count ks p) × HasIn ks m p (get_or (layout_of ks m) p 0)
  layout_one p b =
      let s = one.some p b in
      let r = layout_in ks m p s.0 s.1 s.2 in
      (omega (arith, s.1, r.0), r.1)

  pub layout_valid : Valid ks (layout_of ks m)
  layout_valid p b = (layout_one p b).0

  pub layout_agrees : Agree ks (layout_of ks m) m
  layout_agrees p i b = ⊎_elim same other (cases_eq v i)
    where
      v : ℕ
      v = get_or (layout_of ks m) p 0

      r : (v < count ks p) × HasIn ks m p v
      r = layout_one p (point_below ks p i b)

      same : v ≡ i → get_or m (number ks p i) false ≡ eqb v i
      same e = ap (λ x. get_or m (number ks p x) false) (sym e) ∙ r.1 ∙ sym (eq-eqb v i e)

      other : (v ≡ i → ⊥) → get_or m (number ks p i) false ≡ eqb v i
      other ne =
          ⊎_elim (λ t. absurd (ne (one.single p v i r.0 b r.1 t))) (λ f. f ∙ sym (ne_eqb v i ne)) (cases_Bool (get_or m (number ks p i) false))
