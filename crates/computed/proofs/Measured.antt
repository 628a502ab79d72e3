-- What the numbers of clauses of the tables say.
use Rattle.std.proofs.Common.{◌≡◌, ℕ, zero, suc, ◌+◌, ◌*◌, ◌<◌, ◌≤◌, List, [], ◌∷◌, map, length, get_or, sum, sym, refl, ap, ◌∙◌, arith}
use Rattle.std.specs.List.{range_with_len, flat_map}
use Rattle.std.proofs.lemmas.List.FromFn.{length-map-range_with_len}
use Rattle.std.proofs.lemmas.List.{get_or-take, length-append}
use Rattle.std.proofs.lemmas.List.Sums.{sum_by-cons}
use Rattle.theory.specs.declared.Encoding.{Encoding}
use Rattle.theory.specs.declared.Side.{Side}
use Rattle.theory.specs.Encodings.{support_clause, half, table_clauses}
use Rattle.theory.specs.Network.{Network, Table, near}
use Rattle.theory.specs.Numbering.{count}
use Rattle.computed.specs.Sizes.{Sized}

-- the length of the list at a place, also where there is none
pub length_at : {X A : Type 0} (f : X → List A) (xs : List X) (k : ℕ) → get_or (map (λ x. length (f x)) xs) k 0 ≡ length (get_or (map f xs) k [])
length_at f [] k = refl
length_at f (x ∷ xs) zero = refl
length_at f (x ∷ xs) (suc k) = length_at f xs k

-- the lengths of blocks add up
pub sum_lengths : {X A : Type 0} (f : X → List A) (xs : List X) → sum (map (λ x. length (f x)) xs) ≡ length (flat_map f xs)
sum_lengths f [] = refl
sum_lengths f (x ∷ xs) =
    sum_by-cons (λ n. n) (length (f x)) (map (λ x. length (f x)) xs) ∙ ap (λ n. length (f x) + n) (sum_lengths f xs) ∙ sym (length-append (f x) (flat_map f xs))

-- a sum of numbers that are at most k
pub sum_few : (k : ℕ) (ns : List ℕ) → ((i : ℕ) → get_or ns i 0 ≤ k) → sum ns ≤ k * length ns
sum_few k [] few = omega arith
sum_few k (n ∷ ns) few = omega (arith, sum_by-cons (λ m. m) n ns, few 0, sum_few k ns (λ i. few (suc i)))

pub count_few : (h : ℕ → ℕ) (k a n : ℕ) → ((i : ℕ) → h i ≤ k) → sum (map h (range_with_len a n)) ≤ k * n
count_few h k a zero few = omega arith
count_few h k a (suc n) few = omega (arith, sum_by-cons (λ m. m) (h a) (map h (range_with_len (a + 1) n)), few a, count_few h k (a + 1) n few)

pub half_length : (ks : List ℕ) (s : Side) (t : Table) → length (half ks s t) ≡ count ks (near s t)
half_length ks s t = length-map-range_with_len (support_clause ks s t) 0 (count ks (near s t))

module _ (e : Encoding) (net : Network) (ns : List ℕ) (sized : Sized e net ns) where
  pub size_at : (k : ℕ) → k < length net.tables → get_or ns k 0 ≡ length (get_or (map (table_clauses e net.counts) net.tables) k [])
  size_at k h =
      sym (get_or-take (length net.tables) ns k 0 h) ∙ ap (λ l. get_or l k 0) sized ∙ length_at (table_clauses e net.counts) net.tables k
