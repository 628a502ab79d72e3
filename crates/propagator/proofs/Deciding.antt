-- A trail that holds all that is reached, and one literal more: it reaches what the decisions with that literal reach.
use Rattle.std.proofs.Common.{◌≡◌, ℕ, List, [], ◌∷◌, ◌++◌, sym, subst, ⊎_elim}
use Rattle.theory.specs.Lists.{◌∈◌, has}
use Rattle.theory.specs.Literals.{Within}
use Rattle.theory.specs.Reached.{reached_set}
use Rattle.theory.specs.Marks.{clashed, mark_of, mark}
use Rattle.theory.specs.Literals.{is_in, is_out}
use Rattle.theory.proofs.Members.{in_left, in_right, in_append}
use Rattle.propagation.specs.Reaches.{Reaches, HoldsReached}
use Rattle.propagation.proofs.Reaching.{decided, reaches_cut, same_reached, same_clash}
use Rattle.propagation.proofs.Exactness.{holds_reaches, reaches_holds}

-- a mark by the trail is the mark under the decisions
pub marks_agree : (n : ℕ) (cs : List (List ℕ)) (ds t : List ℕ) → HoldsReached cs n ds t → (v : ℕ) → mark_of t v ≡ mark cs n ds v
marks_agree n cs ds t h v = let i = h (is_in v) in let o = h (is_out v) in rw (i, o)

module _ (n : ℕ) (cs : List (List ℕ)) (within : Within n cs) (ds t s : List ℕ) (l : ℕ) (h : HoldsReached cs n ds t) (q : s ≡ t ++ l ∷ []) where
  there : (m : ℕ) → m ∈ s → Reaches cs (ds ++ l ∷ []) m
  there m i =
      ⊎_elim (λ j. reaches_cut cs (ds ++ l ∷ []) ds (λ x k. decided cs (ds ++ l ∷ []) x (in_left ds (l ∷ []) x k)) m (holds_reaches n cs within ds t h m j))
      (λ j. decided cs (ds ++ l ∷ []) m (in_right ds (l ∷ []) m j)) (in_append t (l ∷ []) m (subst (λ x. m ∈ x) q i))

  back : (m : ℕ) → m ∈ (ds ++ l ∷ []) → Reaches cs s m
  back m i =
      decided cs s m
      (subst (λ x. m ∈ x) (sym q)
      (⊎_elim (λ j. in_left t (l ∷ []) m (reaches_holds n cs within ds t h m (decided cs ds m j))) (λ j. in_right t (l ∷ []) m j)
      (in_append ds (l ∷ []) m i)))

  pub same_reached_decided : (m : ℕ) → has (reached_set cs n s) m ≡ has (reached_set cs n (ds ++ l ∷ [])) m
  same_reached_decided = same_reached n cs within s (ds ++ l ∷ []) there back

  pub same_clash_decided : clashed cs n s ≡ clashed cs n (ds ++ l ∷ [])
  same_clash_decided = same_clash n cs within s (ds ++ l ∷ []) there back
