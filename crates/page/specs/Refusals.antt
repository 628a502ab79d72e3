-- The number of the refusal of a page.
use Rattle.std.specs.Prelude.{ℕ}
use Rattle.page.specs.declared.refusal.PageRefusal.{PageRefusal}
use Rattle.page.specs.declared.refusal.PageRefusal.TheVariants.{TooShort}

-- the number that is printed for a refusal
abbrev pub number_of : PageRefusal → ℕ
number_of TooShort = 21
