-- What writing a text leaves in the caller's bytes.
use Rattle.std.specs.Prelude.{◌≡◌, ℕ, ◌+◌, ◌<◌, ◌≤◌, List, ◌++◌, length, take, drop, Ok, Err, Result}
use Rattle.page.specs.declared.refusal.PageRefusal.{PageRefusal}
use Rattle.page.specs.declared.refusal.PageRefusal.TheVariants.{TooShort}

-- the text stands from a place on, the bytes in front of it and behind it are as they were, and `next` is the place behind it
abbrev pub Placed : List ℕ → ℕ → List ℕ → List ℕ → ℕ → Type 0
Placed text at old new next = (next ≡ at + length text) × (new ≡ (take at old ++ text) ++ drop (at + length text) old)

-- the text stands in front with the bytes behind it as they were, and its length is answered; or the bytes are too few and nothing is written
abbrev pub Written : List ℕ → List ℕ → List ℕ → Result ℕ PageRefusal → Type 0
Written text old new (Ok n) = (n ≡ length text) × (length text ≤ length old) × (new ≡ text ++ drop n old)
Written text old new (Err TooShort) = (length old < length text) × (new ≡ old)
