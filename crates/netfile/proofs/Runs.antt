-- One record more of a file that is read.
use Rattle.std.proofs.Common.{◌≡◌, ℕ, zero, suc, ◌+◌, ◌<◌, ◌≤◌, Bool, true, false, ◌&&◌, leb, List, [], ◌∷◌, length, drop, Ok, Err, Result, sym, refl, ap, ◌∙◌, ⊎_elim, add-zero, arith}
use Rattle.std.proofs.lemmas.List.{at_drop_more, at_drop_all, drop_more, drop_all, drop-drop, length-drop}
use Rattle.std.proofs.lemmas.Bool.{cases_lt, le-leb, both_ways}
use Rattle.network.specs.declared.refusal.Refusal.TheVariants.{Truncated}
use Rattle.netfile.specs.declared.fault.Fault.{Fault}
use Rattle.netfile.specs.declared.fault.Layer.TheVariants.{Byte}
use Rattle.netfile.specs.declared.record.Expectation.{Expectation}
use Rattle.netfile.specs.declared.record.Expectation.TheVariants.{Start, Points, Tables, Pairs, Nothing}
use Rattle.netfile.specs.Faults.{fault_in}
use Rattle.netfile.specs.Bytes.{body_length}
use Rattle.netfile.specs.Records.{Item, head, point, table, pair, end, kind_of_item}
use Rattle.netfile.specs.Reading.{State, after, next_at, at_end, go_on, read_from}
use Rattle.netfile.specs.Drafts.{ended}

-- passing over bytes is dropping them
pub skip : (bs : List ℕ) (s : State) (p k : ℕ) → k ≤ length bs → read_from s p k bs ≡ read_from s (p + k) 0 (drop k bs)
skip [] s p zero h = ap (λ q. read_from s q 0 []) (sym (add-zero p))
skip [] s p (suc k) h = absurd (omega arith)
skip (b ∷ bs) s p zero h = ap (λ q. read_from s q 0 (b ∷ bs)) (sym (add-zero p))
skip (b ∷ bs) s p (suc k) h =
    let e : p + 1 + k ≡ p + suc k = omega arith in
    skip bs s (p + 1) k (omega arith) ∙ ap (λ q. read_from s q 0 (drop k bs)) e

module _ (bs : List ℕ) (s : State) (p : ℕ) where
  abbrev next : Result Item Fault
  next = next_at s.expect s p (drop p bs)

  abbrev more : Item → ℕ
  more x = p + 1 + body_length (kind_of_item x)

  step : p < length bs → read_from s p 0 (drop p bs) ≡ go_on next (λ x. read_from (after s x) (p + 1) (body_length (kind_of_item x)) (drop (p + 1) bs))
  step h =
      at_drop_more (read_from s p 0) bs p 0 h ∙
      ap (λ l. go_on (next_at s.expect s p l) (λ x. read_from (after s x) (p + 1) (body_length (kind_of_item x)) (drop (p + 1) bs))) (sym (drop_more bs p 0 h))

  -- a record that passes is taken over, and the file is read on behind it
  pub read_on_lem : (x : Item) → Ok x ≡ next → more x ≤ length bs → read_from s p 0 (drop p bs) ≡ read_from (after s x) (more x) 0 (drop (more x) bs)
  read_on_lem x e h =
      step (omega arith) ∙
      ap (λ n. go_on n (λ y. read_from (after s y) (p + 1) (body_length (kind_of_item y)) (drop (p + 1) bs))) (sym e) ∙
      skip (drop (p + 1) bs) (after s x) (p + 1) (body_length (kind_of_item x)) (omega (arith, length-drop (p + 1) bs)) ∙
      ap (read_from (after s x) (more x) 0) (drop-drop (body_length (kind_of_item x)) (p + 1) bs)

  -- the fault of a file that stops before its end record
  abbrev late : Fault
  late = fault_in Byte p Truncated

  at_stop : (x : Expectation) (f : Fault) → ended x ≡ false → Err f ≡ next_at x s p [] → at_end x s p ≡ Err f
  at_stop Start f u e = let same : late ≡ f = cc in ap Err same
  at_stop Points f u e = let same : late ≡ f = cc in ap Err same
  at_stop Tables f u e = let same : late ≡ f = cc in ap Err same
  at_stop Pairs f u e = let same : late ≡ f = cc in ap Err same
  at_stop Nothing f u e = absurd (both_ways (ended Nothing) u refl)

  -- a fault ends the reading
  pub read_stop : (f : Fault) → Err f ≡ next → (ended s.expect && leb (length bs) p) ≡ false → read_from s p 0 (drop p bs) ≡ Err f
  read_stop f e u = ⊎_elim inside outside (cases_lt p (length bs))
    where
      inside : p < length bs → read_from s p 0 (drop p bs) ≡ Err f
      inside h = step h ∙ ap (λ n. go_on n (λ x. read_from (after s x) (p + 1) (body_length (kind_of_item x)) (drop (p + 1) bs))) (sym e)

      outside : length bs ≤ p → read_from s p 0 (drop p bs) ≡ Err f
      outside h =
          at_drop_all (read_from s p 0) bs p h ∙
          at_stop s.expect f (unended (ended s.expect) (leb (length bs) p) u (le-leb (length bs) p h)) (e ∙ ap (next_at s.expect s p) (drop_all p bs h))
        where
          unended : (a b : Bool) → (a && b) ≡ false → b ≡ true → a ≡ false
          unended true true u t = u
          unended true false u t = sym t
          unended false b u t = refl

-- a record adds at most one pair
pub after_pairs : (s : State) (x : Item) → (after s x).pairs ≤ s.pairs + 1
after_pairs s (head p t) = omega arith
after_pairs s (point e) = omega arith
after_pairs s (table l h) = omega arith
after_pairs s (pair i j) = omega arith
after_pairs s (end n) = omega arith
