-- Finding an item of a row of blocks, by walking the blocks.
use Rattle.std.proofs.Common.{◌≡◌, ℕ, ◌+◌, ◌-◌, ◌<◌, ◌≤◌, cond, ltb, List, length, get_or, drop, Some, None, sym, ap, ◌∙◌, add-zero}
use Rattle.std.proofs.lemmas.List.{at_drop_more, at_drop_all}
use Rattle.std.proofs.lemmas.Bool.{lt-ltb, le-ltb, cond-true, cond-false}
use Rattle.theory.specs.Numbering.{place, later}
use Rattle.network.proofs.Places.{later_by, later_by_more}

module _ (ks : List ℕ) (i k : ℕ) (h : i < length ks) (e : k ≡ get_or ks i 0) where
  step : (n : ℕ) → place (drop i ks) n ≡ cond (ltb n k) (Some (0, n)) (later (place (drop (i + 1) ks) (n - k)))
  step n =
      at_drop_more (λ ls. place ls n) ks i 0 h ∙ ap (λ m. cond (ltb n m) (Some (0, n)) (later (place (drop (i + 1) ks) (n - m)))) (sym e)

  -- the item lies in this block
  pub in_this : (n : ℕ) → n < k → later_by i (place (drop i ks) n) ≡ Some (i, n)
  in_this n b =
      ap (later_by i) (step n ∙ cond-true (ltb n k) (Some (0, n)) (later (place (drop (i + 1) ks) (n - k))) (lt-ltb n k b)) ∙ ap Some (λ j. (add-zero i j, n))

  -- it lies further on
  pub further_on : (n : ℕ) → k ≤ n → later_by i (place (drop i ks) n) ≡ later_by (i + 1) (place (drop (i + 1) ks) (n - k))
  further_on n b =
      ap (later_by i) (step n ∙ cond-false (ltb n k) (Some (0, n)) (later (place (drop (i + 1) ks) (n - k))) (le-ltb n k b)) ∙
      later_by_more i (place (drop (i + 1) ks) (n - k))

pub past_all : (ks : List ℕ) (i n : ℕ) → length ks ≤ i → later_by i (place (drop i ks) n) ≡ None
past_all ks i n h = at_drop_all (λ ls. later_by i (place ls n)) ks i h
