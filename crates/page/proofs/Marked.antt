-- The marks of a point that is there.
use Rattle.std.proofs.Common.{◌≡◌, ℕ, ◌<◌, false, List, ◌++◌, map, length, get_or, vec_items, codes, Ok, Err, Result, Bor, ap, ◌∙◌, arith}
use Rattle.std.specs.Result.{MatchResult}
use Rattle.std.proofs.lemmas.Bool.{lt-ltb}
use Rattle.std.proofs.lemmas.Simd.{map-map}
use Rattle.theory.specs.declared.Mark.{Mark}
use Rattle.theory.specs.Numbering.{values}
use Rattle.network.specs.declared.point.Point.{Point}
use Rattle.calls.specs.declared.refusal.CallRefusal.{CallRefusal}
use Rattle.calls.specs.States.{State, counts_of, is_clashed, mark_at}
use Rattle.calls.specs.Replies.{checked}
use Rattle.session.specs.declared.session.Session.{Session}
use Rattle.session.specs.Sessions.{state_of, marks_of, marks_reply}
use Rattle.session.proofs.Finding.{many_points}
use Rattle.page.specs.Pages.{sign_text, signs_text, line_text, shown_text}
use Rattle.page.proofs.Lengths.{label_there}

-- an answer to the question for the marks
abbrev pub Told : State → ℕ → Result (Bor (List Mark)) CallRefusal → Type 0
Told s p r = MatchResult r (λ m. marks_reply s p ≡ Ok m.now) (λ e. marks_reply s p ≡ Err e)

module _ (s : State) (p : ℕ) (there : p < length s.points) (calm : is_clashed s ≡ false) where
  reply : marks_reply s p ≡ Ok (marks_of s p)
  reply = let e = lt-ltb p (length s.points) there in λ i. checked (e i) (calm i) (Ok (marks_of s p))

  -- the signs of the marks that are given are those of the point
  pub signs_given : (r : Result (Bor (List Mark)) CallRefusal) (m : Bor (List Mark)) → Told s p r → r ≡ Ok m → map sign_text m.now ≡ signs_text s p
  signs_given (Ok n) m t e = let q = reply in let is : m.now ≡ marks_of s p = cc in ap (map sign_text) is ∙ map-map sign_text (mark_at s p) (values (counts_of s) p)
  signs_given (Err x) m t e = absurd cc

-- so what is shown of the point is its line
pub line_given : (s : Session) (ps : List Point) (i : ℕ) (p : Point) (r : Result (Bor (List Mark)) CallRefusal) (m : Bor (List Mark)) →
    ps ≡ vec_items s.points → i < length ps → p ≡ get_or ps i p → is_clashed (state_of s) ≡ false → Told (state_of s) i r → r ≡ Ok m →
    shown_text p.label m.now ≡ line_text (state_of s) i
line_given s ps i p r m same h e calm t q =
    let there : i < length (state_of s).points = omega (arith, ap length same, many_points s, s.points.ok.0) in
    let label = label_there s ps i p same h e in
    let signs = signs_given (state_of s) i there calm r m t q in
    λ k. label k ++ (codes " " ++ (signs k ++ codes "\n"))
