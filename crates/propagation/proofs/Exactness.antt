-- A list that holds exactly what is reached.
use Rattle.std.proofs.Common.{◌≡◌, ℕ, true, false, List, [], ◌∷◌, ◌++◌, length, sym, ◌∙◌, subst, ⊎_elim, arith}
use Rattle.std.proofs.lemmas.Bool.{cases_Bool}
use Rattle.theory.specs.Lists.{◌∈◌, has}
use Rattle.theory.specs.Literals.{opposite, Within}
use Rattle.theory.specs.Reached.{reached_set}
use Rattle.theory.specs.Marks.{clashed}
use Rattle.theory.proofs.Members.{in_left, in_from_has, has_from_in, same_bool}
use Rattle.propagation.specs.Reaches.{Reaches, HoldsReached}
use Rattle.propagation.specs.Finds.{Still}
use Rattle.propagation.specs.Queue.{Grew, Done}
use Rattle.propagation.proofs.Reaching.{forced, reaches_held, held_reaches, computed_clash}
use Rattle.propagation.proofs.Queueing.{done_grows}

module _ (n : ℕ) (cs : List (List ℕ)) (within : Within n cs) where
  -- after a growth that ends with every clause still, the list holds exactly what was reached
  pub still_holds : (t u : List ℕ) → Grew cs t u → ((c : List ℕ) → c ∈ cs → Still u c) → HoldsReached cs n t u
  still_holds t u g still l =
      same_bool (has u l) (has (reached_set cs n t) l) (λ h. reaches_held n cs within t l (g.sound l (in_from_has u l h)))
      (λ h. held_reaches n cs within t l h (has u) kept closed)
    where
      kept : (m : ℕ) → m ∈ t → has u m ≡ true
      kept m i = has_from_in u m (subst (λ x. m ∈ x) (sym g.is) (in_left t g.more m i))

      closed : (c : List ℕ) → c ∈ cs → (m : ℕ) → m ∈ c → ((x : ℕ) → x ∈ c → (x ≡ m → ⊥) → has u (opposite x) ≡ true) → has u m ≡ true
      closed c ic m im f = has_from_in u m (still c ic m im (λ x ix ne. in_from_has u (opposite x) (f x ix ne)))

  module _ (t u : List ℕ) (h : HoldsReached cs n t u) where
    pub holds_reaches : (l : ℕ) → l ∈ u → Reaches cs t l
    holds_reaches l i = held_reaches n cs within t l (sym (h l) ∙ has_from_in u l i)

    pub reaches_holds : (l : ℕ) → Reaches cs t l → l ∈ u
    reaches_holds l r = in_from_has u l (h l ∙ reaches_held n cs within t l r)

    -- no clash where no literal stands with its opposite
    pub apart_calm : ((l : ℕ) → l ∈ u → opposite l ∈ u → ⊥) → clashed cs n t ≡ false
    apart_calm apart =
        ⊎_elim (λ e. let k = computed_clash n cs within t e in absurd (apart k.0 (reaches_holds k.0 k.1) (reaches_holds (opposite k.0) k.2)))
        (λ e. e) (cases_Bool (clashed cs n t))

    -- no clause forces more
    pub holds_still : (c : List ℕ) → c ∈ cs → Still u c
    holds_still c ic l il others = reaches_holds l (forced cs t c l ic il (λ m im ne. holds_reaches (opposite m) (others m im ne)))

    -- after one literal more only that one is left to look at
    pub done_pushed : (w : List ℕ) (l : ℕ) → w ≡ u ++ l ∷ [] → (c : List ℕ) → c ∈ cs → Done w (length u) c
    done_pushed w l q c ic = done_grows u w c (length u) (l ∷ []) q (omega arith) (λ _. holds_still c ic)
