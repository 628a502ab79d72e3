-- How often a literal stands in a list, and the numbers that a clause adds to its holders.
use Rattle.std.proofs.Common.{◌≡◌, ℕ, ◌+◌, ◌<◌, ◌≤◌, Bool, true, false, cond, ◌||◌, ◌&&◌, eqb, List, [], ◌∷◌, ◌++◌, map, length, get_or, set, take, filter, refl, sym, ap, ◌∙◌, ⊎_elim, arith}
use Rattle.std.proofs.lemmas.Bool.{cases_eq, eq-eqb, ne_eqb}
use Rattle.std.proofs.lemmas.List.{get_or-set_same, get_or-set_other, length-take-le, map-append, take_more, append_assoc}
use Rattle.std.proofs.lemmas.List.Elements.{filter-append}
use Rattle.std.proofs.lemmas.List.Sums.{count_by-le-length, count_by_more_no, count_by_more_yes, sum_by-append, sum_by-take-le}
use Rattle.theory.specs.Lists.{has}
use Rattle.clause_store.specs.Index.{named, times}

pub times_append : (xs ys : List ℕ) (l : ℕ) → times (xs ++ ys) l ≡ times xs l + times ys l
times_append xs ys l = sum_by-append (λ m. cond (eqb m l) 1 0) xs ys

-- the next place is one of the literal
pub times_here : (xs : List ℕ) (k l : ℕ) → k < length xs → l ≡ get_or xs k 0 → times (take (k + 1) xs) l ≡ times (take k xs) l + 1
times_here xs k l lt e = count_by_more_yes (λ m. eqb m l) xs k 0 lt (eq-eqb (get_or xs k 0) l (sym e))

-- it is one of another literal
pub times_there : (xs : List ℕ) (k l : ℕ) → k < length xs → (l ≡ get_or xs k 0 → ⊥) → times (take (k + 1) xs) l ≡ times (take k xs) l
times_there xs k l lt ne = count_by_more_no (λ m. eqb m l) xs k 0 lt (ne_eqb (get_or xs k 0) l (λ e. ne (sym e)))

-- no literal stands at more places than there are
pub times_most : (xs : List ℕ) (k l : ℕ) → k ≤ length xs → times (take k xs) l ≤ k
times_most xs k l le = omega (arith, count_by-le-length (λ m. eqb m l) (take k xs), length-take-le k xs le)

-- there is a place for each literal that is still to come
pub times_left : (xs : List ℕ) (k l : ℕ) → k < length xs → l ≡ get_or xs k 0 → times (take k xs) l < times xs l
times_left xs k l lt e = omega (arith, times_here xs k l lt e, sum_by-take-le (λ m. cond (eqb m l) 1 0) xs (k + 1))

-- a count of a literal's places, one place later
pub counted :
    (es c : List ℕ) (k m base : ℕ) → k < length c → get_or c k 0 < length es → get_or es m 0 ≡ base + times (take k c) m →
    get_or (set es (get_or c k 0) (get_or es (get_or c k 0) 0 + 1)) m 0 ≡ base + times (take (k + 1) c) m
counted es c k m base lt in_es was = ⊎_elim same other (cases_eq m x)
  where
    x : ℕ
    x = get_or c k 0

    same : m ≡ x → get_or (set es x (get_or es x 0 + 1)) m 0 ≡ base + times (take (k + 1) c) m
    same e =
        let now = ap (λ n. get_or (set es x (get_or es x 0 + 1)) n 0) e ∙ get_or-set_same es x (get_or es x 0 + 1) 0 in_es in
        omega (arith, now, was, ap (λ n. get_or es n 0) e, times_here c k m lt e)

    other : (m ≡ x → ⊥) → get_or (set es x (get_or es x 0 + 1)) m 0 ≡ base + times (take (k + 1) c) m
    other ne = omega (arith, get_or-set_other es x m (get_or es x 0 + 1) 0 ne, was, times_there c k m lt ne)

-- one literal more, named once more
pub named_push : (c : List ℕ) (x l i : ℕ) → named (c ++ x ∷ []) l i ≡ named c l i ++ named (x ∷ []) l i
named_push c x l i = ap (map (λ _. i)) (filter-append (λ m. eqb m l) c (x ∷ [])) ∙ map-append (λ _. i) (filter (λ m. eqb m l) c) (filter (λ m. eqb m l) (x ∷ []))

pub named_more : (c : List ℕ) (k l i : ℕ) (old : List ℕ) → k < length c → (old ++ named (take k c) l i) ++ named (get_or c k 0 ∷ []) l i ≡ old ++ named (take (k + 1) c) l i
named_more c k l i old lt =
    append_assoc old (named (take k c) l i) (named (get_or c k 0 ∷ []) l i) ∙
    ap (λ ys. old ++ ys) (sym (ap (λ ys. named ys l i) (take_more c k 0 lt) ∙ named_push (take k c) (get_or c k 0) l i))

or_assoc : (a b c : Bool) → ((a || b) || c) ≡ (a || (b || c))
or_assoc true b c = refl
or_assoc false b c = refl

pub has_append : (xs ys : List ℕ) (j : ℕ) → has (xs ++ ys) j ≡ (has xs j || has ys j)
has_append [] ys j = refl
has_append (x ∷ xs) ys j = ap (λ b. eqb j x || b) (has_append xs ys j) ∙ sym (or_assoc (eqb j x) (has xs j) (has ys j))

seen : (h e : Bool) → (e || (h && e)) ≡ ((true || h) && e)
seen h true = refl
seen true false = refl
seen false false = refl

has_named_more : (x : ℕ) (xs : List ℕ) (l i j : ℕ) → has (named xs l i) j ≡ (has xs l && eqb j i) → has (named (x ∷ xs) l i) j ≡ (has (x ∷ xs) l && eqb j i)
has_named_more x xs l i j was = ⊎_elim yes no (cases_eq x l)
  where
    rest : List ℕ
    rest = filter (λ m. eqb m l) xs

    yes : x ≡ l → has (named (x ∷ xs) l i) j ≡ (has (x ∷ xs) l && eqb j i)
    yes e =
        ap (λ b. has (map (λ _. i) (cond b (x ∷ rest) rest)) j) (eq-eqb x l e) ∙ ap (λ b. eqb j i || b) was ∙ seen (has xs l) (eqb j i) ∙
        ap (λ b. (b || has xs l) && eqb j i) (sym (eq-eqb l x (sym e)))

    no : (x ≡ l → ⊥) → has (named (x ∷ xs) l i) j ≡ (has (x ∷ xs) l && eqb j i)
    no ne =
        ap (λ b. has (map (λ _. i) (cond b (x ∷ rest) rest)) j) (ne_eqb x l ne) ∙ was ∙
        ap (λ b. (b || has xs l) && eqb j i) (sym (ne_eqb l x (λ e. ne (sym e))))

-- a clause's number is named where the clause holds the literal, and no other number is
pub has_named : (c : List ℕ) (l i j : ℕ) → has (named c l i) j ≡ (has c l && eqb j i)
has_named [] l i j = refl
has_named (x ∷ xs) l i j = has_named_more x xs l i j (has_named xs l i j)
