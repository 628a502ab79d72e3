-- What a mark says of the reached set.
use Rattle.std.proofs.Common.{◌≡◌, ℕ, Bool, true, false, cond, List, refl}
use Rattle.std.proofs.lemmas.Bool.{both_ways}
use Rattle.theory.specs.declared.Mark.{Mark}
use Rattle.theory.specs.declared.Mark.TheVariants.{In, Out, Open}
use Rattle.theory.specs.Lists.{has}
use Rattle.theory.specs.Literals.{is_in, is_out}
use Rattle.theory.specs.Reached.{reached_set}
use Rattle.theory.specs.Marks.{clashed, mark}
use Rattle.theory.proofs.Numbering.{opposite_in}
use Rattle.theory.proofs.Reaching.{no_opposite}

-- the mark that two tests give
abbrev marked : Bool → Bool → Mark
marked i o = cond i In (cond o Out Open)

marked_in : (i o : Bool) → marked i o ≡ In → i ≡ true
marked_in true o e = refl
marked_in false true e = let z : false ≡ true = cc in z
marked_in false false e = let z : false ≡ true = cc in z

marked_out : (i o : Bool) → marked i o ≡ Out → o ≡ true
marked_out true o e = let z : o ≡ true = cc in z
marked_out false true e = refl
marked_out false false e = let z : false ≡ true = cc in z

marked_open : (i o : Bool) → (marked i o ≡ Open → ⊥) → i ≡ false → o ≡ true
marked_open true o f e = let z : o ≡ true = cc in z
marked_open false true f e = refl
marked_open false false f e = absurd (f refl)

out_marked : (i o : Bool) → o ≡ true → i ≡ false → marked i o ≡ Out
out_marked true o e f = let z : In ≡ Out = cc in z
out_marked false true e f = refl
out_marked false false e f = let z : Open ≡ Out = cc in z

in_marked : (i o : Bool) → i ≡ true → marked i o ≡ In
in_marked true o e = refl
in_marked false o e = let z : marked false o ≡ In = cc in z

module _ (cs : List (List ℕ)) (n : ℕ) (ds : List ℕ) (v : ℕ) where
  abbrev s : List ℕ
  s = reached_set cs n ds

  pub mark_in_lem : mark cs n ds v ≡ In → has s (is_in v) ≡ true
  mark_in_lem = marked_in (has s (is_in v)) (has s (is_out v))

  pub mark_out : mark cs n ds v ≡ Out → has s (is_out v) ≡ true
  mark_out = marked_out (has s (is_in v)) (has s (is_out v))

  pub in_mark : has s (is_in v) ≡ true → mark cs n ds v ≡ In
  in_mark = in_marked (has s (is_in v)) (has s (is_out v))

  pub not_open : (mark cs n ds v ≡ Open → ⊥) → has s (is_in v) ≡ false → has s (is_out v) ≡ true
  not_open = marked_open (has s (is_in v)) (has s (is_out v))

  pub in_not_out : clashed cs n ds ≡ false → has s (is_in v) ≡ true → has s (is_out v) ≡ false
  in_not_out f t = rw opposite_in at (no_opposite s f (is_in v) t)

  pub out_not_in : clashed cs n ds ≡ false → has s (is_out v) ≡ true → has s (is_in v) ≡ false
  out_not_in f t = go (has s (is_in v)) refl
    where
      go : (b : Bool) → has (reached_set cs n ds) (is_in v) ≡ b → b ≡ false
      go true e = absurd (both_ways (has (reached_set cs n ds) (is_out v)) (in_not_out f e) t)
      go false e = refl

  pub out_mark : clashed cs n ds ≡ false → has s (is_out v) ≡ true → mark cs n ds v ≡ Out
  out_mark f t = out_marked (has s (is_in v)) (has s (is_out v)) t (out_not_in f t)
