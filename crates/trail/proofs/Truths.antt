-- What the truth of a literal says of the list.
use Rattle.std.proofs.Common.{◌≡◌, ℕ, ◌/◌, ◌%◌, Bool, true, false, cond, List, Some, None, Option, sym, refl, ap, ◌∙◌, ⊎_elim, arith}
use Rattle.std.proofs.lemmas.Bool.{cases_Bool, cases_eq, both_ways}
use Rattle.theory.specs.Lists.{◌∈◌, has}
use Rattle.theory.specs.declared.Mark.TheVariants as mark
use Rattle.theory.specs.Literals.{opposite, is_in, is_out}
use Rattle.theory.specs.Marks.{mark_of}
use Rattle.theory.proofs.Members.{in_from_has, has_from_in}
use Rattle.trail.specs.Truths.{truth_of}

pub has_not : (t : List ℕ) (l : ℕ) → (l ∈ t → ⊥) → has t l ≡ false
has_not t l f = ⊎_elim (λ h. absurd (f (in_from_has t l h))) (λ h. h) (cases_Bool (has t l))

pub open_when : (t : List ℕ) (l : ℕ) → (l ∈ t → ⊥) → (opposite l ∈ t → ⊥) → truth_of t l ≡ None
open_when t l f g = let a = has_not t l f in let b = has_not t (opposite l) g in rw (a, b)

pub true_when : (t : List ℕ) (l : ℕ) → l ∈ t → truth_of t l ≡ Some true
true_when t l h = let a = has_from_in t l h in rw a

pub false_when : (t : List ℕ) (l : ℕ) → (l ∈ t → ⊥) → opposite l ∈ t → truth_of t l ≡ Some false
false_when t l f h = let a = has_not t l f in let b = has_from_in t (opposite l) h in rw (a, b)

-- what each truth says of the list
pub data Told (t : List ℕ) (l : ℕ) : Option Bool → Type 0 where
  is_true : l ∈ t → Told t l (Some true)
  is_false : (l ∈ t → ⊥) → opposite l ∈ t → Told t l (Some false)
  is_open : (l ∈ t → ⊥) → (opposite l ∈ t → ⊥) → Told t l None

in_not : (t : List ℕ) (l : ℕ) → has t l ≡ false → l ∈ t → ⊥
in_not t l e h = both_ways (has t l) e (has_from_in t l h)

told_by : (t : List ℕ) (l : ℕ) → Told t l (truth_of t l)
told_by t l = go (has t l) (has t (opposite l)) refl refl
  where
    go : (a b : Bool) → has t l ≡ a → has t (opposite l) ≡ b → Told t l (cond a (Some true) (cond b (Some false) None))
    go true b e f = is_true (in_from_has t l e)
    go false true e f = is_false (in_not t l e) (in_from_has t (opposite l) f)
    go false false e f = is_open (in_not t l e) (in_not t (opposite l) f)

pub told : (t : List ℕ) (l : ℕ) (s : Option Bool) → s ≡ truth_of t l → Told t l s
told t l s e = rw e (told_by t l)

pub in_true : (t : List ℕ) (l : ℕ) → truth_of t l ≡ Some true → l ∈ t
in_true t l e = go (told t l (Some true) (sym e))
  where
    go : Told t l (Some true) → l ∈ t
    go (is_true h) = h

pub in_false : (t : List ℕ) (l : ℕ) → truth_of t l ≡ Some false → opposite l ∈ t
in_false t l e = go (told t l (Some false) (sym e))
  where
    go : Told t l (Some false) → opposite l ∈ t
    go (is_false f h) = h

pub neither_held : (t : List ℕ) (l : ℕ) → truth_of t l ≡ None → (l ∈ t → ⊥) × (opposite l ∈ t → ⊥)
neither_held t l e = go (told t l None (sym e))
  where
    go : Told t l None → (l ∈ t → ⊥) × (opposite l ∈ t → ⊥)
    go (is_open f g) = (f, g)

-- where a value is open, so are its literals
pub open_mark : (t : List ℕ) (l : ℕ) → mark_of t (l / 2) ≡ mark.Open → truth_of t l ≡ None
open_mark t l e = go (has t (is_in (l / 2))) (has t (is_out (l / 2))) refl refl e
  where
    finish : has t (is_in (l / 2)) ≡ false → has t (is_out (l / 2)) ≡ false → truth_of t l ≡ None
    finish i o =
        ⊎_elim
        (λ z. let a : has t l ≡ false = ap (has t) (omega arith) ∙ i in
        let b : has t (opposite l) ≡ false = ap (has t) (omega arith) ∙ o in
        rw (a, b))
        (λ z. let a : has t l ≡ false = ap (has t) (omega arith) ∙ o in
        let b : has t (opposite l) ≡ false = ap (has t) (omega arith) ∙ i in
        rw (a, b))
        (cases_eq (l % 2) 0)

    go :
        (i o : Bool) → has t (is_in (l / 2)) ≡ i → has t (is_out (l / 2)) ≡ o → cond i mark.In (cond o mark.Out mark.Open) ≡ mark.Open →
        truth_of t l ≡ None
    go true o p q k = let z : truth_of t l ≡ None = cc in z
    go false true p q k = let z : truth_of t l ≡ None = cc in z
    go false false p q k = finish p q
