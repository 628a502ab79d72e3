-- The decisions that stand after a run: literals of the points' values, none twice.
use Rattle.std.proofs.Common.{◌≡◌, ℕ, ◌-◌, ◌*◌, ◌<◌, Bool, true, false, cond, ltb, ◌⊎◌, List, [], ◌∷◌, ◌++◌, length, Ok, Err, Result, sym, refl, ap, ◌∙◌, subst, inl, inr, ⊎_elim, arith}
use Rattle.std.proofs.lemmas.Bool.{ltb-true, both_ways}
use Rattle.theory.specs.declared.Mark.{Mark}
use Rattle.theory.specs.declared.Mark.TheVariants.{In, Out, Open}
use Rattle.theory.specs.Laws.{DecisionsWithin}
use Rattle.theory.specs.Lists.{has}
use Rattle.theory.specs.Literals.{is_in, is_out}
use Rattle.theory.specs.Numbering.{count, total, number}
use Rattle.theory.specs.Reached.{reached_set}
use Rattle.theory.proofs.Members.{in_append}
use Rattle.theory.proofs.Numbering.{number_below}
use Rattle.theory.proofs.Reaching.{set_decided}
use Rattle.network.specs.Points.{Entry, values_of}
use Rattle.calls.specs.declared.call.Decided.{Decided}
use Rattle.calls.specs.declared.call.Decided.TheVariants.{Taken, Clash as Clashing}
use Rattle.calls.specs.declared.call.Exchange.{Exchange}
use Rattle.calls.specs.declared.call.Exchange.TheVariants.{Choose, Bar, Withdraw, Mark as MarkOf, Left, Value, Decisions, Clash}
use Rattle.calls.specs.declared.refusal.CallRefusal.{CallRefusal}
use Rattle.calls.specs.declared.refusal.CallRefusal.TheVariants.{NoSuch, TooMany, Clashed}
use Rattle.calls.specs.States.{State, counts_of, is_clashed, mark_at, has_value, under}
use Rattle.calls.specs.Replies.{most_decisions, checked, decide_reply, choose_marked, bar_marked, choose_reply, bar_reply}
use Rattle.calls.specs.Runs.{after_decided, stands_after, standing, Right, Exact}
use Rattle.calls.proofs.Distinct.{Distinct, distinct_push, distinct_take, all_take}

-- literals of the points' values, none twice
pub record Sound (ks ds : List ℕ) : Type 0 where
  pub within : DecisionsWithin (total ks) ds
  pub distinct : Distinct ds

-- an open value has neither of its literals reached
open_parts : (i o : Bool) → cond i In (cond o Out Open) ≡ Open → (i ≡ false) × (o ≡ false)
open_parts true o e = let z : true ≡ false = cc in absurd (both_ways true z refl)
open_parts false true e = let z : true ≡ false = cc in absurd (both_ways true z refl)
open_parts false false e = (refl, refl)

-- a decision changes the list only where its value was there and open
abbrev Moves : State → ℕ → ℕ → ℕ → Result Decided CallRefusal → Type 0
Moves s p v l r = (after_decided s.decisions l r ≡ s.decisions) ⊎ ((after_decided s.decisions l r ≡ s.decisions ++ l ∷ []) × (v < count (counts_of s) p) × (mark_at s p v ≡ Open))

module _ (s : State) (p v l : ℕ) (r : Result Decided CallRefusal) where
  stays : (q : Result Decided CallRefusal) → r ≡ q → after_decided s.decisions l q ≡ s.decisions → Moves s p v l r
  stays q e f = inl (ap (after_decided s.decisions l) e ∙ f)

  decided_moves : r ≡ decide_reply s l → v < count (counts_of s) p → mark_at s p v ≡ Open → Moves s p v l r
  decided_moves e lt o = go (ltb (length s.decisions) most_decisions) (is_clashed (under s (s.decisions ++ l ∷ []))) e
    where
      go : (b c : Bool) → r ≡ cond b (Ok (cond c Clashing Taken)) (Err TooMany) → Moves s p v l r
      go false c q = stays (Err TooMany) q refl
      go true true q = inr (ap (after_decided s.decisions l) q, lt, o)
      go true false q = inr (ap (after_decided s.decisions l) q, lt, o)

  -- the reply is the checks and then one by the mark: where that is open, the literal is decided
  checked_moves : (by : Mark → Result Decided CallRefusal) → by Open ≡ decide_reply s l →
      after_decided s.decisions l (by In) ≡ s.decisions → after_decided s.decisions l (by Out) ≡ s.decisions →
      r ≡ checked (has_value s p v) (is_clashed s) (by (mark_at s p v)) → Moves s p v l r
  checked_moves by opened inside outside e = go (has_value s p v) (is_clashed s) (mark_at s p v) refl refl e
    where
      go : (b c : Bool) (m : Mark) → has_value s p v ≡ b → mark_at s p v ≡ m → r ≡ checked b c (by m) → Moves s p v l r
      go false c m h o q = stays (Err NoSuch) q refl
      go true true m h o q = stays (Err Clashed) q refl
      go true false In h o q = stays (by In) q inside
      go true false Out h o q = stays (by Out) q outside
      go true false Open h o q = decided_moves (q ∙ opened) (ltb-true v (count (counts_of s) p) h) o

  pub choose_moves : l ≡ is_in (number (counts_of s) p v) → r ≡ choose_reply s p v → Moves s p v l r
  choose_moves is e = checked_moves (choose_marked s (number (counts_of s) p v)) (ap (decide_reply s) (sym is)) refl refl e

  pub bar_moves : l ≡ is_out (number (counts_of s) p v) → r ≡ bar_reply s p v → Moves s p v l r
  bar_moves is e = checked_moves (bar_marked s (number (counts_of s) p v)) (ap (decide_reply s) (sym is)) refl refl e

module _ (ps : List Entry) (cs : List (List ℕ)) where
  abbrev ks : List ℕ
  ks = values_of ps

  abbrev at : List ℕ → State
  at ds = record { points = ps; clauses = cs; decisions = ds }

  -- a literal that is not reached may be added
  sound_push : (ds : List ℕ) (l : ℕ) → Sound ks ds → l < 2 * total ks → has (reached_set cs (total ks) ds) l ≡ false → Sound ks (ds ++ l ∷ [])
  sound_push ds l w lt free =
      record {
        within = λ m i. ⊎_elim (w.within m) (λ j. ⊎_elim (λ e. subst (λ k. k < 2 * total ks) (sym e) lt) (λ k. absurd k) j) (in_append ds (l ∷ []) m i);
        distinct = distinct_push ds l w.distinct (λ i. both_ways (has (reached_set cs (total ks) ds) l) free (set_decided cs (total ks) ds l i));
      }

  sound_decided : (ds : List ℕ) (p v l : ℕ) (r : Result Decided CallRefusal) → Sound ks ds →
      (v < count ks p → l < 2 * total ks) → (mark_at (at ds) p v ≡ Open → has (reached_set cs (total ks) ds) l ≡ false) →
      Moves (at ds) p v l r → Sound ks (after_decided ds l r)
  sound_decided ds p v l r w small free m =
      ⊎_elim (λ e. subst (Sound ks) (sym e) w) (λ x. subst (Sound ks) (sym x.0) (sound_push ds l w (small x.1) (free x.2))) m

  sound_step : (ds : List ℕ) (x : Exchange) → Sound ks ds → Right (at ds) x → Sound ks (stands_after ks ds x)
  sound_step ds (Choose p v r) w e =
      sound_decided ds p v (is_in (number ks p v)) r w (λ h. omega (arith, number_below ks p v h))
      (λ o. (open_parts (has (reached_set cs (total ks) ds) (is_in (number ks p v))) (has (reached_set cs (total ks) ds) (is_out (number ks p v))) o).0)
      (choose_moves (at ds) p v (is_in (number ks p v)) r refl e)
  sound_step ds (Bar p v r) w e =
      sound_decided ds p v (is_out (number ks p v)) r w (λ h. omega (arith, number_below ks p v h))
      (λ o. (open_parts (has (reached_set cs (total ks) ds) (is_in (number ks p v))) (has (reached_set cs (total ks) ds) (is_out (number ks p v))) o).1)
      (bar_moves (at ds) p v (is_out (number ks p v)) r refl e)
  sound_step ds (Withdraw (Ok _)) w e =
      record { within = all_take (λ l. l < 2 * total ks) (length ds - 1) ds w.within; distinct = distinct_take (length ds - 1) ds w.distinct }
  sound_step ds (Withdraw (Err _)) w e = w
  sound_step ds (MarkOf p v r) w e = w
  sound_step ds (Left p r) w e = w
  sound_step ds (Value p r) w e = w
  sound_step ds (Decisions n) w e = w
  sound_step ds (Clash b) w e = w

  -- each call of a run that begins where ds stand is answered right
  abbrev RightFrom : List ℕ → List Exchange → Type 0
  RightFrom ds xs = (before : List Exchange) (x : Exchange) (behind : List Exchange) → xs ≡ before ++ x ∷ behind → Right (at (standing ks ds before)) x

  sound_run : (ds : List ℕ) (xs : List Exchange) → Sound ks ds → RightFrom ds xs → Sound ks (standing ks ds xs)
  sound_run ds [] w f = w
  sound_run ds (x ∷ xs) w f =
      sound_run (stands_after ks ds x) xs (sound_step ds x w (f [] x xs refl)) (λ before y behind e. f (x ∷ before) y behind (ap (λ zs. x ∷ zs) e))

  -- what stands after a run from the opening
  pub sound_after : (xs : List Exchange) → Exact ps cs xs → Sound ks (standing ks [] xs)
  sound_after xs f = sound_run [] xs (record { within = λ l i. absurd i; distinct = tt }) f
