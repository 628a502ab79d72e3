-- What writing the two halves of a table leaves in two buffers.
use Rattle.std.specs.Prelude.{ℕ, ◌<◌, ◌≤◌, List, length, Ok, Err, Result}
use Rattle.theory.specs.declared.Side.TheVariants.{Lower, Higher}
use Rattle.theory.specs.Network.{Network}
use Rattle.books.specs.declared.refusal.HalvesRefusal.{HalvesRefusal}
use Rattle.books.specs.declared.refusal.HalvesRefusal.TheVariants.{NoSuch, Words}
use Rattle.books.specs.declared.refusal.WordsRefusal.TheVariants.{TooFewWords, NotStored}
use Rattle.books.specs.Storing.{Unwritten, StoresBoth}
use Rattle.computed.specs.Scores.{half_at}

-- both halves are stored, each in its buffer, or the first that is too short is told of; or there is no such table and nothing is written
abbrev pub Halved : Network → ℕ → List ℕ → List ℕ → List ℕ → List ℕ → Result (ℕ × ℕ) HalvesRefusal → Type 0
Halved net k low low' high high' (Ok x) =
    (k < length net.tables) × StoresBoth (half_at net Lower k) (half_at net Higher k) low low' high high' (Ok x)
Halved net k low low' high high' (Err (Words (TooFewWords n))) =
    (k < length net.tables) × StoresBoth (half_at net Lower k) (half_at net Higher k) low low' high high' (Err (TooFewWords n))
Halved net k low low' high high' (Err NoSuch) = (length net.tables ≤ k) × Unwritten low low' high high'
Halved net k low low' high high' (Err (Words NotStored)) = ⊥
