-- Pages of small sessions, computed.
use Rattle.std.proofs.Common.{◌≡◌, ℕ, List, [], ◌∷◌, codes, refl}
use Rattle.calls.specs.States.{State, unopened}
use Rattle.page.specs.Pages.{page_text}

-- a tip of two values and a cable of three: one value of the tip is in, and the first of the tip goes with the first of the cable
abbrev line : List ℕ → State
line ds =
    record {
      points = record { values = 2; label = codes "tip 1   " } ∷ record { values = 3; label = codes "cable 1 " } ∷ [];
      clauses = (0 ∷ 2 ∷ []) ∷ (1 ∷ 3 ∷ []) ∷ (1 ∷ 4 ∷ []) ∷ [];
      decisions = ds;
    }

-- a session that was never opened
pub page_unopened : page_text unopened ≡ []
page_unopened = refl

-- the first value of the tip is chosen
pub page_chosen : page_text (line (0 ∷ [])) ≡ codes "tip 1    +-\ncable 1  +..\n"
page_chosen = refl

-- both values of the tip are barred
pub page_clash : page_text (line (1 ∷ 3 ∷ [])) ≡ codes "clash\n"
page_clash = refl
