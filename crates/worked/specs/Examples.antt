-- The worked examples, as one statement on the definitions that the contracts cite.
use Rattle.std.specs.Prelude.{◌≡◌, ℕ, true, List, [], ◌∷◌, ◌++◌, length, Ok, Err, codes, Result}
use Rattle.theory.specs.declared.Encoding.{Encoding}
use Rattle.theory.specs.declared.Encoding.TheVariants.{Direct, Support, MinimalSupport}
use Rattle.theory.specs.declared.Side.TheVariants.{Lower, Higher}
use Rattle.theory.specs.Encodings.{clauses, half, scores}
use Rattle.theory.specs.Network.{Table}
use Rattle.network.specs.Contents.{Contents, unlabelled}
use Rattle.network.specs.Tables.{no_pairs, with_allowed}
use Rattle.netfile.specs.Reading.{read_file}
use Rattle.books.specs.declared.refusal.WordsRefusal.{WordsRefusal}
use Rattle.books.specs.declared.refusal.WordsRefusal.TheVariants.{TooFewWords}
use Rattle.books.specs.Refusals.{number_of as words_number}
use Rattle.books.specs.Stored.{words_needed}
use Rattle.books.specs.Storing.{Stores}
use Rattle.calls.specs.declared.call.Decided.TheVariants.{Taken, Clash}
use Rattle.calls.specs.declared.refusal.CallRefusal.TheVariants.{MarkedOut}
use Rattle.calls.specs.Refusals.{number_of as call_number}
use Rattle.calls.specs.States.{State, is_clashed, under}
use Rattle.calls.specs.Replies.{choose_reply, bar_reply, withdraw_reply}
use Rattle.calls.specs.Runs.{after_decided, after_withdrawn}
use Rattle.page.specs.Pages.{page_text}

-- one tip of three values and one cable of two, of which the pairs 0, 0 and 1, 1 go together
abbrev pub berm : Contents
berm =
    record {
      points = record { values = 3; label = codes "TIP     " } ∷ record { values = 2; label = codes "CABLE   " } ∷ [];
      tables = with_allowed (with_allowed (record { low = 0; high = 1; rows = no_pairs }) 0 0) 1 1 ∷ [];
    }

-- two points of one value, and a table without pairs between them
abbrev pub apart : Contents
apart =
    record {
      points = record { values = 1; label = codes "A       " } ∷ record { values = 1; label = codes "B       " } ∷ [];
      tables = record { low = 0; high = 1; rows = no_pairs } ∷ [];
    }

-- the session over a network's clauses, with no decision
abbrev pub opened : Encoding → Contents → State
opened e c = record { points = c.points; clauses = clauses e (unlabelled c); decisions = [] }

-- the six clauses that every encoding of the worked network begins with
abbrev pub first_six : List (List ℕ)
first_six = (0 ∷ 2 ∷ 4 ∷ []) ∷ (6 ∷ 8 ∷ []) ∷ (1 ∷ 3 ∷ []) ∷ (1 ∷ 5 ∷ []) ∷ (3 ∷ 5 ∷ []) ∷ (7 ∷ 9 ∷ []) ∷ []

-- a buffer of so many words is refused for the clauses, the number needed is told, and nothing is written
abbrev pub Refuses : List (List ℕ) → ℕ → ℕ → Type 0
Refuses cs words needed =
    (old new : List ℕ) (r : Result ℕ WordsRefusal) → length old ≡ words → Stores cs old new r → (r ≡ Err (TooFewWords needed)) × (new ≡ old)

-- the worked network's table
abbrev pub berm_table : Table
berm_table = with_allowed (with_allowed (record { low = 0; high = 1; rows = no_pairs }) 0 0) 1 1

-- what the file of the worked network says, and what follows from it
pub record Worked (file : List ℕ) : Type 0 where
  -- the file is the worked network's
  pub read : read_file file ≡ Ok berm
  -- its support clauses, and the words they need
  pub support : clauses Support (unlabelled berm) ≡ first_six ++ (1 ∷ 6 ∷ []) ∷ (3 ∷ 8 ∷ []) ∷ (5 ∷ []) ∷ (7 ∷ 0 ∷ []) ∷ (9 ∷ 2 ∷ []) ∷ []
  pub support_words : words_needed (clauses Support (unlabelled berm)) ≡ 34
  pub support_short : Refuses (clauses Support (unlabelled berm)) 33 34 × (words_number (TooFewWords 34) ≡ 18)
  -- its direct clauses, and the words they need
  pub direct : clauses Direct (unlabelled berm) ≡ first_six ++ (1 ∷ 9 ∷ []) ∷ (3 ∷ 7 ∷ []) ∷ (5 ∷ 7 ∷ []) ∷ (5 ∷ 9 ∷ []) ∷ []
  pub direct_words : words_needed (clauses Direct (unlabelled berm)) ≡ 32
  -- its halves, and the words of the minimal encoding
  pub lower_half : scores (half (3 ∷ 2 ∷ []) Lower berm_table) ≡ 24
  pub higher_half : scores (half (3 ∷ 2 ∷ []) Higher berm_table) ≡ 8
  pub minimal_words : words_needed (clauses MinimalSupport (unlabelled berm)) ≡ 28
  -- opened over direct clauses, all is open
  pub direct_opened : page_text (opened Direct berm) ≡ codes "TIP      ...\nCABLE    ..\n"
  -- over support clauses, the tip's value 0 is chosen; its value 2 is then refused
  pub chosen : choose_reply (opened Support berm) 0 0 ≡ Ok Taken
  pub chosen_page : page_text (under (opened Support berm) (after_decided [] 0 (Ok Taken))) ≡ codes "TIP      +--\nCABLE    +-\n"
  pub refused : (choose_reply (under (opened Support berm) (after_decided [] 0 (Ok Taken))) 0 2 ≡ Err MarkedOut) × (call_number MarkedOut ≡ 13)
  -- over support clauses, the cable's value 0 is barred
  pub barred : bar_reply (opened Support berm) 1 0 ≡ Ok Taken
  pub barred_page : page_text (under (opened Support berm) (after_decided [] 7 (Ok Taken))) ≡ codes "TIP      -+-\nCABLE    -+\n"
  -- over direct clauses, choosing the tip's value 2 is a clash, and withdrawing leaves all open
  pub clash : choose_reply (opened Direct berm) 0 2 ≡ Ok Clash
  pub clash_page : page_text (under (opened Direct berm) (after_decided [] 4 (Ok Clash))) ≡ codes "clash\n"
  pub withdrawn : withdraw_reply (under (opened Direct berm) (after_decided [] 4 (Ok Clash))) ≡ Ok tt
  pub withdrawn_page : page_text (under (opened Direct berm) (after_withdrawn (after_decided [] 4 (Ok Clash)) (Ok tt))) ≡ codes "TIP      ...\nCABLE    ..\n"
  -- two points of one value and a table without pairs clash over both
  pub apart_support : is_clashed (opened Support apart) ≡ true
  pub apart_direct : is_clashed (opened Direct apart) ≡ true
