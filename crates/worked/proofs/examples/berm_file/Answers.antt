use Rattle.std.proofs.Common.{◌≡◌, ℕ, ◌<◌, List, Ok, Err, refl, ap, ◌∙◌, arith}
use Rattle.theory.specs.declared.Encoding.TheVariants.{Support}
use Rattle.theory.specs.Encodings.{clauses}
use Rattle.network.specs.Contents.{unlabelled}
use Rattle.books.specs.declared.refusal.WordsRefusal.TheVariants.{TooFewWords, NotStored}
use Rattle.books.specs.Stored.{words_needed}
use Rattle.worked.specs.Examples.{berm, Refuses}
use Rattle.worked.proofs.examples.berm_file.Goals as goal

-- what the contract of storing leaves for a buffer that is too short
short : (cs : List (List ℕ)) (words needed : ℕ) → words_needed cs ≡ needed → words < needed → Refuses cs words needed
short cs words needed e h old new (Ok n) l s = absurd (omega (arith, s.1))
short cs words needed e h old new (Err (TooFewWords n)) l s = (ap (λ k. Err (TooFewWords k)) (s.0 ∙ e), s.2)
short cs words needed e h old new (Err NotStored) l s = absurd s

pub returns : goal.returns
returns c =
    record {
      read = refl;
      support = refl;
      support_words = refl;
      support_short = (short (clauses Support (unlabelled berm)) 33 34 refl (omega arith), refl);
      direct = refl;
      direct_words = refl;
      lower_half = refl;
      higher_half = refl;
      minimal_words = refl;
      direct_opened = refl;
      chosen = refl;
      chosen_page = refl;
      refused = (refl, refl);
      barred = refl;
      barred_page = refl;
      clash = refl;
      clash_page = refl;
      withdrawn = refl;
      withdrawn_page = refl;
      apart_support = refl;
      apart_direct = refl;
    }
