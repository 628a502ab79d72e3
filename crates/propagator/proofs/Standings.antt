-- What stands after a decision more and after one less.
use Rattle.std.proofs.Common.{◌≡◌, ℕ, ◌+◌, ◌-◌, ◌*◌, ◌<◌, ◌≤◌, Bool, false, List, [], ◌∷◌, ◌++◌, length, get_or, take, sym, refl, ap, ◌∙◌, subst, subst₂, ⊎_elim, arith, below_more}
use Rattle.std.proofs.lemmas.List.{length_push, length-append, length-take-le, get_or_push, get_or_append_left, get_or-take, take_at, take-append-le, take-take, append_assoc, take_all}
use Rattle.std.proofs.lemmas.Bool.{cases_eq}
use Rattle.theory.specs.Marks.{clashed}
use Rattle.propagation.specs.Reaches.{HoldsReached}
use Rattle.propagator.specs.Standing.{Standing}

module _ (n : ℕ) (cs : List (List ℕ)) (t ds hs : List ℕ) (b : Bool) (k : Standing n cs t ds hs b) (many : length hs ≡ length ds) where
  -- each decision has a place in the trail
  pub few : length hs ≤ length t
  few = ⊎_elim (λ z. omega arith) (λ z. omega (arith, k.climb (length hs - 1) (omega arith), k.within (length hs - 1) (omega arith))) (cases_eq (length hs) 0)

  module _ (s u more : List ℕ) (l : ℕ) (r : Bool) (q : s ≡ t ++ l ∷ []) (is : u ≡ s ++ more) where
    tall : length t < length u
    tall = omega (arith, ap length is, length-append s more, ap length q, length_push t l)

    front : (h : ℕ) → h ≤ length t → take h u ≡ take h t
    front h le = ap (take h) (is ∙ ap (λ x. x ++ more) q ∙ append_assoc t (l ∷ []) more) ∙ take-append-le h t ((l ∷ []) ++ more) le

    pub standing_decide :
        l < 2 * n → HoldsReached cs n ds t → (r ≡ false → HoldsReached cs n (ds ++ l ∷ []) u) → r ≡ clashed cs n (ds ++ l ∷ []) →
        Standing n cs u (ds ++ l ∷ []) (hs ++ length t ∷ []) r
    standing_decide lt now calm flag = record {
      small = small;
      rise = rise;
      climb = climb;
      within = within;
      past = past;
      here = calm;
      flag = flag;
    }
      where
        last : get_or (hs ++ length t ∷ []) (length hs) 0 ≡ length t
        last = get_or_push hs (length t) 0 (length hs) refl

        early : (j : ℕ) → j < length hs → get_or (hs ++ length t ∷ []) j 0 ≡ get_or hs j 0
        early j h = get_or_append_left hs (length t ∷ []) 0 j h

        small : (j : ℕ) → j < length (ds ++ l ∷ []) → get_or (ds ++ l ∷ []) j 0 < 2 * n
        small = rw length_push (below_more (λ j. get_or (ds ++ l ∷ []) j 0 < 2 * n) (length ds)
            (λ j h. rw (get_or_append_left ds (l ∷ []) 0 j h) (k.small j h)) (rw (get_or_push ds l 0 (length ds) refl) lt))

        rise : (i j : ℕ) → i < j → j < length (hs ++ length t ∷ []) → get_or (hs ++ length t ∷ []) i 0 < get_or (hs ++ length t ∷ []) j 0
        rise i j lt h =
            let m : j < length hs + 1 = omega (arith, length_push hs (length t)) in
            ⊎_elim (λ e. omega (arith, early i (omega arith), k.within i (omega arith), ap (λ x. get_or (hs ++ length t ∷ []) x 0) e, last))
            (λ ne. omega (arith, early i (omega arith), early j (omega arith), k.rise i j lt (omega arith))) (cases_eq j (length hs))

        climb : (j : ℕ) → j < length (hs ++ length t ∷ []) → j ≤ get_or (hs ++ length t ∷ []) j 0
        climb = rw length_push (below_more (λ j. j ≤ get_or (hs ++ length t ∷ []) j 0) (length hs) (λ j h. rw (early j h) (k.climb j h)) (rw last few))

        within : (j : ℕ) → j < length (hs ++ length t ∷ []) → get_or (hs ++ length t ∷ []) j 0 < length u
        within = rw length_push (below_more (λ j. get_or (hs ++ length t ∷ []) j 0 < length u) (length hs) (λ j h. omega (arith, early j h, k.within j h, tall)) (rw last tall))

        past : (j : ℕ) → j < length (hs ++ length t ∷ []) → HoldsReached cs n (take j (ds ++ l ∷ [])) (take (get_or (hs ++ length t ∷ []) j 0) u)
        past = rw length_push (below_more (λ j. HoldsReached cs n (take j (ds ++ l ∷ [])) (take (get_or (hs ++ length t ∷ []) j 0) u)) (length hs)
            (λ j h. subst₂ (HoldsReached cs n) (sym (take-append-le j ds (l ∷ []) (omega (arith, many)))) (sym (ap (λ x. take x u) (early j h) ∙ front (get_or hs j 0) (omega (arith, k.within j h)))) (k.past j h))
            (subst₂ (HoldsReached cs n) (sym (take_at ds (l ∷ []) (length hs) (sym many))) (sym (ap (λ x. take x u) last ∙ front (length t) (omega arith) ∙ take_all (length t) t (omega arith))) now))

  -- one decision less
  module _ (es gs u : List ℕ) (h : ℕ) (q : hs ≡ gs ++ h ∷ []) (p : es ≡ take (length ds - 1) ds) (is : u ≡ take h t) where
    long : length hs ≡ length gs + 1
    long = ap length q ∙ length_push gs h

    last : get_or hs (length gs) 0 ≡ h
    last = ap (λ x. get_or x (length gs) 0) q ∙ get_or_push gs h 0 (length gs) refl

    early : (j : ℕ) → j < length gs → get_or hs j 0 ≡ get_or gs j 0
    early j lt = ap (λ x. get_or x j 0) q ∙ get_or_append_left gs (h ∷ []) 0 j lt

    pub back_within : h < length t
    back_within = omega (arith, last, long, k.within (length gs) (omega (arith, long)))

    size : length u ≡ h
    size = ap length is ∙ length-take-le h t (omega (arith, back_within))

    fewer : length es ≡ length gs
    fewer = ap length p ∙ length-take-le (length ds - 1) ds (omega arith) ∙ omega (arith, long, many)

    under : (j : ℕ) → j < length gs → get_or gs j 0 < h
    under j lt = omega (arith, early j lt, last, k.rise j (length gs) lt (omega (arith, long)))

    -- the trail as it was before the decision holds what was reached
    pub back_holds : HoldsReached cs n es u
    back_holds =
        subst₂ (HoldsReached cs n) (ap (λ x. take x ds) (omega (arith, long, many)) ∙ sym p) (ap (λ x. take x t) last ∙ sym is)
        (k.past (length gs) (omega (arith, long)))

    pub standing_back : clashed cs n es ≡ false → Standing n cs u es gs false
    standing_back calm = record {
      small = λ j lt. let o : j < length ds - 1 = omega (arith, fewer, long, many) in
          subst (λ x. get_or x j 0 < 2 * n) (sym p) (rw (get_or-take (length ds - 1) ds j 0 o) (k.small j (omega arith)));
      rise = λ i j lt o. omega (arith, early i (omega arith), early j o, k.rise i j lt (omega (arith, long)));
      climb = λ j o. omega (arith, early j o, k.climb j (omega (arith, long)));
      within = λ j o. omega (arith, under j o, size);
      past = λ j o. subst₂ (HoldsReached cs n) (ds_front j o) (t_front j o) (k.past j (omega (arith, long)));
      here = λ _. back_holds;
      flag = sym calm;
    }
      where
        ds_front : (j : ℕ) → j < length gs → take j ds ≡ take j es
        ds_front j o = sym (ap (take j) p ∙ take-take j (length ds - 1) ds (omega (arith, long, many)))

        t_front : (j : ℕ) → j < length gs → take (get_or hs j 0) t ≡ take (get_or gs j 0) u
        t_front j o = ap (λ x. take x t) (early j o) ∙ sym (ap (take (get_or gs j 0)) is ∙ take-take (get_or gs j 0) h t (omega (arith, under j o)))
