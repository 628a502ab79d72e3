-- Clauses that are read one literal after another, into one row.
use Rattle.std.proofs.Common.{◌≡◌, ℕ, ◌+◌, ◌-◌, ◌*◌, ◌/◌, ◌<◌, List, [], ◌∷◌, ◌++◌, length, get_or, take, drop, ap, ◌∙◌, subst, sym, ⊎_elim, append_assoc, arith, below_more}
use Rattle.std.proofs.lemmas.List.{take_more, take_rest, length_push, length-take-le, get_or_push, get_or_append_left, get_or-take, drop_at}
use Rattle.std.proofs.lemmas.Bool.{cases_eq}
use Rattle.clause_store.specs.declared.error.OpenError.{OpenError}
use Rattle.clause_store.specs.declared.error.OpenError.TheVariants.{Unfit, OutOfMemory}
use Rattle.clause_store.specs.Fitness.{NamesValue, Fit}
use Rattle.clause_store.specs.Refusals.{IfUnfit}
use Rattle.theory.specs.Lists.{◌∈◌}
use Rattle.theory.specs.Literals.{Within}
use Rattle.theory.proofs.Members.{at_in}
use Rattle.clause_store.proofs.Rows.{place_of}

-- what is not fit in a part is not fit in the whole
pub unfit_by : (e : OpenError) (P Q : Type 0) → (Q → P) → IfUnfit e (P → ⊥) → IfUnfit e (Q → ⊥)
unfit_by Unfit P Q f not = λ q. not (f q)
unfit_by OutOfMemory P Q f not = tt

-- the rest of the row from a clause's start on is what is read of it
pub rest_is : (front c xs : List ℕ) (j n : ℕ) → xs ≡ front ++ take j c → n ≡ length front → take (length xs - n) (drop n xs) ≡ take j c
rest_is front c xs j n is e = take_rest xs n ∙ ap (drop n) is ∙ drop_at front (take j c) n (sym e)

-- a value that is new
pub apart_more :
    (j : ℕ) (c : List ℕ) → j < length c → ((i k : ℕ) → i < k → k < j → get_or c i 0 / 2 ≡ get_or c k 0 / 2 → ⊥) →
    (NamesValue (take j c) (get_or c j 0 / 2) → ⊥) → (i k : ℕ) → i < k → k < j + 1 → get_or c i 0 / 2 ≡ get_or c k 0 / 2 → ⊥
apart_more j c lt was none i k o h e =
    ⊎_elim
    (λ (q : k ≡ j).
    let z : i < j = omega arith in
    none (i, omega (arith, length-take-le j c (omega arith)), ap (λ x. x / 2) (get_or-take j c i 0 z) ∙ e ∙ ap (λ x. get_or c x 0 / 2) q))
    (λ ne. was i k o (omega arith) e) (cases_eq k j)

pub literal_more : (p c xs ys : List ℕ) (j v : ℕ) → xs ≡ p ++ take j c → v ≡ get_or c j 0 → ys ≡ xs ++ v ∷ [] → j < length c → ys ≡ p ++ take (j + 1) c
literal_more p c xs ys j v was is pushed h = rw (pushed, was, is, append_assoc, take_more c j 0 h)

-- one start more
pub start_more :
    (f : ℕ → ℕ) (es fs : List ℕ) (i n : ℕ) → length es ≡ i → ((k : ℕ) → k < i → get_or es k 0 ≡ f k) → fs ≡ es ++ n ∷ [] → n ≡ f i →
    (length fs ≡ i + 1) × ((k : ℕ) → k < i + 1 → get_or fs k 0 ≡ f k)
start_more f es fs i n many each pushed is = (
  rw (pushed, length_push, many),
  below_more (λ k. get_or fs k 0 ≡ f k) i
      (λ k h. let lt : k < length es = omega arith in rw (pushed, get_or_append_left es (n ∷ []) 0 k lt) (each k h))
      (rw (pushed, get_or_push es n 0 i many) is),
)

-- in fit clauses each literal is one of the values
pub fit_within : (n : ℕ) (cs : List (List ℕ)) → Fit n cs → Within n cs
fit_within n cs f c ic l il =
    let r = place_of cs [] c ic in
    let k = at_in (get_or cs r.0 []) l (subst (λ d. l ∈ d) r.2 il) in
    subst (λ x. x < 2 * n) k.2 ((f.each r.0 r.1).below k.0 k.1)
