-- The two halves of a table and their scores.
use Rattle.std.specs.Prelude.{◌≡◌, ℕ, ◌<◌, ◌≤◌, List, [], map, length, Ok, Err, Result, slice_index_or}
use Rattle.theory.specs.declared.Side.{Side}
use Rattle.theory.specs.declared.Side.TheVariants.{Lower, Higher}
use Rattle.theory.specs.Encodings.{half}
use Rattle.theory.specs.Network.{Network}
use Rattle.books.specs.declared.halves.HalfScores.{HalfScores}
use Rattle.books.specs.Scores.{ScoresOf}
use Rattle.books.specs.declared.refusal.HalvesRefusal.{HalvesRefusal}
use Rattle.books.specs.declared.refusal.HalvesRefusal.TheVariants.{NoSuch, Words}
use Rattle.partners.specs.Ends.{half_of}
use Rattle.computed.specs.declared.half.HalfBook.{HalfBook}

-- one half of the table k: no clause where there is no such table
abbrev pub half_at : Network → Side → ℕ → List (List ℕ)
half_at net s k = slice_index_or (map (half net.counts s) net.tables) k []

-- the lower and the higher half of the table k, or that there is no such table
abbrev pub HalvesFound : Network → ℕ → Result (HalfBook × HalfBook) HalvesRefusal → Type 0
HalvesFound net k (Ok halves) = (k < length net.tables) × (half_of halves.0.end ≡ half_at net Lower k) × (half_of halves.1.end ≡ half_at net Higher k)
HalvesFound net k (Err NoSuch) = length net.tables ≤ k
HalvesFound net k (Err (Words refusal)) = ⊥

-- the scores of the halves of the table k, or that there is no such table
abbrev pub Scored : Network → ℕ → Result HalfScores HalvesRefusal → Type 0
Scored net k (Ok r) = (k < length net.tables) × ScoresOf (half_at net Lower k) (half_at net Higher k) r
Scored net k (Err NoSuch) = length net.tables ≤ k
Scored net k (Err (Words refusal)) = ⊥
