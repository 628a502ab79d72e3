-- How many clauses there are in a part of a network.
use Rattle.std.specs.Prelude.{◌≡◌, ℕ, List, map, length, take}
use Rattle.std.specs.List.{flat_map}
use Rattle.theory.specs.declared.Encoding.{Encoding}
use Rattle.theory.specs.Encodings.{table_clauses}
use Rattle.theory.specs.Network.{Network, Table}

-- how many clauses an encoding has for a table
abbrev pub size_of : Encoding → List ℕ → Table → ℕ
size_of e ks t = length (table_clauses e ks t)

-- the clauses that an encoding has for the tables of a network
abbrev pub of_tables : Encoding → Network → List (List ℕ)
of_tables e net = flat_map (table_clauses e net.counts) net.tables

-- the first numbers, as many as there are tables, say how many clauses each table has
abbrev pub Sized : Encoding → Network → List ℕ → Type 0
Sized e net ns = take (length net.tables) ns ≡ map (size_of e net.counts) net.tables
