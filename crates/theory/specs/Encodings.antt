-- The clauses of a network, in their order: at least one, at most one, then each table's.
use Rattle.std.specs.Prelude.{ℕ, ◌+◌, ◌-◌, cond, not, List, [], ◌∷◌, ◌++◌, map, length, filter, ◌==◌, nat_lt}
use Rattle.std.specs.List.{range_with_len, flat_map}
use Rattle.theory.specs.declared.Encoding.{Encoding}
use Rattle.theory.specs.declared.Encoding.TheVariants.{Direct, Support, MinimalSupport}
use Rattle.theory.specs.declared.Side.{Side}
use Rattle.theory.specs.declared.Side.TheVariants.{Lower, Higher}
use Rattle.theory.specs.Numbering.{count, number, points, values}
use Rattle.theory.specs.Literals.{is_in, is_out}
use Rattle.theory.specs.Network.{Table, Network, allows, near, far, partner}

-- some value of the point p is in: its in-literals, ascending
abbrev pub some_clause : List ℕ → ℕ → List ℕ
some_clause ks p = map (λ i. is_in (number ks p i)) (values ks p)

-- the value i of p and the value j of q are not both in
abbrev pub not_both : List ℕ → ℕ → ℕ → ℕ → ℕ → List ℕ
not_both ks p i q j = is_out (number ks p i) ∷ is_out (number ks q j) ∷ []

-- at least one: for each point, its in-literals
abbrev pub at_least_one : List ℕ → List (List ℕ)
at_least_one ks = map (some_clause ks) (points ks)

-- the value i of p with each later value of p
abbrev pub not_with_later : List ℕ → ℕ → ℕ → List (List ℕ)
not_with_later ks p i = map (not_both ks p i p) (range_with_len (i + 1) (count ks p - (i + 1)))

-- the pairs of values of p, by the lower and then the higher value
abbrev pub not_two : List ℕ → ℕ → List (List ℕ)
not_two ks p = flat_map (not_with_later ks p) (values ks p)

-- at most one: for each point and each two of its values, the two out-literals
abbrev pub at_most_one : List ℕ → List (List ℕ)
at_most_one ks = flat_map (not_two ks) (points ks)

-- the lower point's value i with each value of the higher point that the table does not allow beside it
abbrev pub barred_with : List ℕ → Table → ℕ → List (List ℕ)
barred_with ks t i = map (not_both ks t.low i t.high) (filter (λ j. not (allows t i j)) (values ks t.high))

-- direct clauses of a table: for each pair that is not allowed, by lower and then higher value, the two out-literals
abbrev pub direct_clauses : List ℕ → Table → List (List ℕ)
direct_clauses ks t = flat_map (barred_with ks t) (values ks t.low)

-- the support clause of the value i of one end: its out-literal, then the in-literals of its partners, ascending
abbrev pub support_clause : List ℕ → Side → Table → ℕ → List ℕ
support_clause ks s t i =
    is_out (number ks (near s t) i) ∷ map (λ j. is_in (number ks (far s t) j)) (filter (partner s t i) (values ks (far s t)))

-- a half: the support clauses of a table for the values of one end
abbrev pub half : List ℕ → Side → Table → List (List ℕ)
half ks s t = map (support_clause ks s t) (values ks (near s t))

-- the score of a clause of so many literals
abbrev pub score : ℕ → ℕ
score n = cond (n == 1) 16 (cond (n == 2) 4 (cond (n == 3) 1 0))

-- the sum of the scores of clauses
abbrev pub scores : List (List ℕ) → ℕ
scores [] = 0
scores (c ∷ cs) = score (length c) + scores cs

-- the end whose half has the higher sum: the lower end on equal sums
abbrev pub better_side : List ℕ → Table → Side
better_side ks t = cond (nat_lt (scores (half ks Lower t)) (scores (half ks Higher t))) Higher Lower

-- the clauses that an encoding has for a table
abbrev pub table_clauses : Encoding → List ℕ → Table → List (List ℕ)
table_clauses Direct ks t = direct_clauses ks t
table_clauses Support ks t = half ks Lower t ++ half ks Higher t
table_clauses MinimalSupport ks t = half ks (better_side ks t) t

-- the clauses of a network
abbrev pub clauses : Encoding → Network → List (List ℕ)
clauses e net = at_least_one net.counts ++ (at_most_one net.counts ++ flat_map (table_clauses e net.counts) net.tables)
