-- What storing a book in the caller's words leaves in them.
use Rattle.std.specs.Prelude.{◌≡◌, ℕ, ◌<◌, ◌≤◌, ◌⊎◌, List, ◌++◌, length, drop, Ok, Err, Result}
use Rattle.books.specs.declared.refusal.WordsRefusal.{WordsRefusal}
use Rattle.books.specs.declared.refusal.WordsRefusal.TheVariants.{TooFewWords, NotStored}
use Rattle.books.specs.Stored.{clauses_of, IsStored, stored_form, words_needed}

-- the words are a stored book of the clauses
abbrev pub Holds : List (List ℕ) → List ℕ → Type 0
Holds cs ws = IsStored ws × (clauses_of ws ≡ cs)

-- the stored form in front and the words behind it as they were, or the number that is needed and nothing written
abbrev pub Stores : List (List ℕ) → List ℕ → List ℕ → Result ℕ WordsRefusal → Type 0
Stores cs old new (Ok n) = (n ≡ words_needed cs) × (words_needed cs ≤ length old) × (new ≡ stored_form cs ++ drop n old)
Stores cs old new (Err (TooFewWords n)) = (n ≡ words_needed cs) × (length old < words_needed cs) × (new ≡ old)
Stores cs old new (Err NotStored) = ⊥

-- both buffers are as they were
abbrev pub Unwritten : List ℕ → List ℕ → List ℕ → List ℕ → Type 0
Unwritten low low' high high' = (low' ≡ low) × (high' ≡ high)

-- two lists of clauses are stored, each in its buffer; or the first buffer that is too short is told of, and nothing written
abbrev pub StoresBoth : List (List ℕ) → List (List ℕ) → List ℕ → List ℕ → List ℕ → List ℕ → Result (ℕ × ℕ) WordsRefusal → Type 0
StoresBoth cs ds low low' high high' (Ok x) = Stores cs low low' (Ok x.0) × Stores ds high high' (Ok x.1)
StoresBoth cs ds low low' high high' (Err (TooFewWords n)) =
    Unwritten low low' high high' ×
    (((length low < words_needed cs) × (n ≡ words_needed cs)) ⊎
    ((words_needed cs ≤ length low) × (length high < words_needed ds) × (n ≡ words_needed ds)))
StoresBoth cs ds low low' high high' (Err NotStored) = ⊥
