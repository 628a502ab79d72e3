-- What a list of literals reaches, and the reached set as it is computed.
use Rattle.std.proofs.Common.{◌≡◌, ℕ, true, List}
use Rattle.theory.specs.Lists.{◌∈◌, has}
use Rattle.theory.specs.Literals.{opposite, Within}
use Rattle.theory.specs.Reached.{reached_set}
use Rattle.theory.specs.Marks.{clashed}
use Rattle.theory.proofs.Members.{same_bool}
use Rattle.theory.proofs.Reaching.{rounds_suffice, clash_from, clash_to}
use Rattle.propagation.specs.Reaches.{Reaches, Clash}

module _ (cs : List (List ℕ)) (t : List ℕ) where
  pub decided : (l : ℕ) → l ∈ t → Reaches cs t l
  decided l i T h cl = h l i

  pub forced : (c : List ℕ) (l : ℕ) → c ∈ cs → l ∈ c → ((m : ℕ) → m ∈ c → (m ≡ l → ⊥) → Reaches cs t (opposite m)) → Reaches cs t l
  forced c l ic il f T h cl = cl c ic l il (λ m im ne. f m im ne T h cl)

  -- what is reached from literals that are reached is reached
  pub reaches_cut : (u : List ℕ) → ((m : ℕ) → m ∈ u → Reaches cs t m) → (l : ℕ) → Reaches cs u l → Reaches cs t l
  reaches_cut u f l r T h cl = r T (λ m i. f m i T h cl) cl

  -- and so is a clash
  pub clash_cut : (u : List ℕ) → ((m : ℕ) → m ∈ u → Reaches cs t m) → Clash cs u → Clash cs t
  clash_cut u f k = (k.0, reaches_cut u f k.0 k.1, reaches_cut u f (opposite k.0) k.2)

module _ (n : ℕ) (cs : List (List ℕ)) (within : Within n cs) where
  pub reaches_held : (t : List ℕ) (l : ℕ) → Reaches cs t l → has (reached_set cs n t) l ≡ true
  reaches_held t l r = let s = rounds_suffice n cs t within in r (has (reached_set cs n t)) s.holds_all s.closed

  pub held_reaches : (t : List ℕ) (l : ℕ) → has (reached_set cs n t) l ≡ true → Reaches cs t l
  held_reaches t l e T h cl = (rounds_suffice n cs t within).smallest T h cl l e

  pub clash_computed : (t : List ℕ) → Clash cs t → clashed cs n t ≡ true
  clash_computed t k =
      clash_to (reached_set cs n t) k.0 (reaches_held t k.0 k.1) (reaches_held t (opposite k.0) k.2)

  pub computed_clash : (t : List ℕ) → clashed cs n t ≡ true → Clash cs t
  computed_clash t e =
      let k = clash_from (reached_set cs n t) e in
      (k.0, held_reaches t k.0 k.1, held_reaches t (opposite k.0) k.2)

  -- lists that reach each other have the same reached set and the same clashes
  module _ (t u : List ℕ) (there : (l : ℕ) → l ∈ t → Reaches cs u l) (back : (l : ℕ) → l ∈ u → Reaches cs t l) where
    pub same_reached : (l : ℕ) → has (reached_set cs n t) l ≡ has (reached_set cs n u) l
    same_reached l =
        same_bool (has (reached_set cs n t) l) (has (reached_set cs n u) l)
        (λ e. reaches_held u l (reaches_cut cs u t there l (held_reaches t l e)))
        (λ e. reaches_held t l (reaches_cut cs t u back l (held_reaches u l e)))

    pub same_clash : clashed cs n t ≡ clashed cs n u
    same_clash =
        same_bool (clashed cs n t) (clashed cs n u)
        (λ e. clash_computed u (clash_cut cs u t there (computed_clash t e)))
        (λ e. clash_computed t (clash_cut cs t u back (computed_clash u e)))
