-- The order of decisions is not seen: rounds from lists with the same members have the same members.
use Rattle.std.proofs.Common.{◌≡◌, ℕ, zero, suc, ◌*◌, Bool, true, cond, not, ◌||◌, eqb, List, [], ◌∷◌, ◌++◌, filter, ap, ◌∙◌}
use Rattle.std.specs.List.{range_with_len, flat_map}
use Rattle.theory.specs.declared.Mark.TheVariants.{In, Out, Open}
use Rattle.theory.specs.Lists.{has}
use Rattle.theory.specs.Literals.{is_in, is_out, opposite}
use Rattle.theory.specs.Reached.{forced_of, units, unless_none, rounds, reached_set}
use Rattle.theory.specs.Marks.{opposed}
use Rattle.theory.specs.Laws.{OrderIsUnseen}
use Rattle.theory.proofs.Members.{in_from_has, has_from_in, same_bool}
use Rattle.theory.proofs.Reaching.{clash_from, clash_to}

-- the lists have the same members
abbrev Alike : List ℕ → List ℕ → Type 0
Alike s t = (l : ℕ) → has s l ≡ has t l

alike_append : (xs s t : List ℕ) → Alike s t → Alike (xs ++ s) (xs ++ t)
alike_append [] s t h l = h l
alike_append (x ∷ xs) s t h l = ap (λ b. eqb l x || b) (alike_append xs s t h l)

alike_unless : (fresh s t a b : List ℕ) → Alike s t → Alike a b → Alike (unless_none fresh s a) (unless_none fresh t b)
alike_unless [] s t a b h g = h
alike_unless (x ∷ xs) s t a b h g = g

-- the forced literals depend on the members alone
forced_same : (cs : List (List ℕ)) (s t : List ℕ) → Alike s t → flat_map (units s) cs ≡ flat_map (units t) cs
forced_same cs s t h =
    ap (λ (H : ℕ → Bool). flat_map (λ c. forced_of c (filter (λ m. not (H (opposite m))) c)) cs) (λ k l. h l k)

rounds_alike : (cs : List (List ℕ)) (k : ℕ) (left s t : List ℕ) → Alike s t → Alike (rounds cs k left s) (rounds cs k left t)
rounds_alike cs zero left s t h l = h l
rounds_alike cs (suc k) left s t h l =
    ap (λ F. has (round F s) l) (forced_same cs s t h) ∙
    alike_unless (fresh forced) s t _ _ h
    (rounds_alike cs k (filter (λ m. not (has forced m)) left) (fresh forced ++ s) (fresh forced ++ t) (alike_append (fresh forced) s t h)) l
  where
    forced : List ℕ
    forced = flat_map (units t) cs

    fresh : List ℕ → List ℕ
    fresh F = filter (has F) left

    round : List ℕ → List ℕ → List ℕ
    round F u = unless_none (fresh F) u (rounds cs k (filter (λ m. not (has F m)) left) (fresh F ++ u))

pub order_is_unseen : OrderIsUnseen
order_is_unseen cs n ds es same = (
  alike,
  same_bool (opposed s s) (opposed t t)
      (λ c. let r = clash_from s c in clash_to t r.0 (over r.0 r.1) (over (opposite r.0) r.2))
      (λ c. let r = clash_from t c in clash_to s r.0 (back r.0 r.1) (back (opposite r.0) r.2)),
  λ v. ap (λ (H : ℕ → Bool). cond (H (is_in v)) In (cond (H (is_out v)) Out Open)) (λ k l. alike l k),
)
  where
    s : List ℕ
    s = reached_set cs n ds

    t : List ℕ
    t = reached_set cs n es

    alike : (l : ℕ) → has (reached_set cs n ds) l ≡ has (reached_set cs n es) l
    alike =
        rounds_alike cs (2 * n) (range_with_len 0 (2 * n)) ds es
        (λ l. same_bool (has ds l) (has es l) (λ i. has_from_in es l ((same l).0 (in_from_has ds l i))) (λ i. has_from_in ds l ((same l).1 (in_from_has es l i))))

    over : (l : ℕ) → has (reached_set cs n ds) l ≡ true → has (reached_set cs n es) l ≡ true
    over l h = rw (← alike l) h

    back : (l : ℕ) → has (reached_set cs n es) l ≡ true → has (reached_set cs n ds) l ≡ true
    back l h = rw (alike l) h
