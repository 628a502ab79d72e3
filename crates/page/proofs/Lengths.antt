-- The lines of the first points, and how long they are.
use Rattle.std.proofs.Common.{◌≡◌, ℕ, zero, suc, ◌+◌, ◌<◌, ◌≤◌, List, [], ◌∷◌, ◌++◌, length, get_or, vec_items, codes, unwrap_or, sym, ap, ◌∙◌, arith}
use Rattle.std.specs.List.{range_with_len, flat_map}
use Rattle.std.proofs.lemmas.List.FromFn.{map-range_with_len_more, length-map-range_with_len}
use Rattle.std.proofs.lemmas.List.{map-id, flat_map_more, length-append}
use Rattle.theory.specs.Numbering.{count}
use Rattle.network.specs.declared.point.Point.{Point}
use Rattle.network.specs.Points.{entries, values_of, label_at}
use Rattle.network.proofs.Lookups.{count_at, label_at_lem}
use Rattle.calls.specs.States.{State, counts_of, mark_at}
use Rattle.session.specs.declared.session.Session.{Session}
use Rattle.session.specs.Sessions.{state_of}
use Rattle.page.specs.Pages.{sign_text, signs_text, line_text}

module _ {A : Type 0} (f : ℕ → List A) where
  -- one number more
  pub joined_up : (i : ℕ) → flat_map f (range_with_len 0 (i + 1)) ≡ flat_map f (range_with_len 0 i) ++ f i
  joined_up i =
      ap (flat_map f) (sym (map-id (range_with_len 0 (i + 1))) ∙ map-range_with_len_more (λ j. j) 0 i i (omega arith) ∙ ap (λ is. is ++ i ∷ []) (map-id (range_with_len 0 i))) ∙
      sym (flat_map_more f [] (range_with_len 0 i) i)

  -- the texts of fewer numbers are no longer
  front : (a i n : ℕ) → i ≤ n → length (flat_map f (range_with_len a i)) ≤ length (flat_map f (range_with_len a n))
  front a zero n h = omega arith
  front a (suc i) zero h = absurd (omega arith)
  front a (suc i) (suc n) h =
      omega (arith, front (a + 1) i n (omega arith), length-append (f a) (flat_map f (range_with_len (a + 1) i)), length-append (f a) (flat_map f (range_with_len (a + 1) n)))

  -- the text of a number fits behind those before it
  pub fits_joined : (i n : ℕ) → i < n → length (flat_map f (range_with_len 0 i)) + length (f i) ≤ length (flat_map f (range_with_len 0 n))
  fits_joined i n h =
      omega (arith, ap length (joined_up i), length-append (flat_map f (range_with_len 0 i)) (f i), front 0 (i + 1) n (omega arith))

-- how many signs a line has
pub length_signs : (s : State) (p : ℕ) → length (signs_text s p) ≡ count (counts_of s) p
length_signs s p = length-map-range_with_len (λ v. sign_text (mark_at s p v)) 0 (count (counts_of s) p)

module _ (s : Session) (ps : List Point) (i : ℕ) (p : Point) (same : ps ≡ vec_items s.points) (h : i < length ps) (e : p ≡ get_or ps i p) where
  -- the label of a point that is there
  pub label_there : p.label ≡ unwrap_or (label_at (state_of s).points i) []
  label_there = ap (λ o. unwrap_or o []) (label_at_lem ps i p h e ∙ ap (λ qs. label_at (entries qs) i) same)

  -- how many values it has
  pub values_there : p.values ≡ count (counts_of (state_of s)) i
  values_there = count_at ps i p h e ∙ ap (λ qs. count (values_of (entries qs)) i) same

  -- how long its line is
  pub length_line : length (line_text (state_of s) i) ≡ length p.label + 1 + p.values + 1
  length_line =
      omega (
        arith,
        length-append (unwrap_or (label_at (state_of s).points i) []) (codes " " ++ (signs_text (state_of s) i ++ codes "\n")),
        length-append (signs_text (state_of s) i) (codes "\n"),
        length_signs (state_of s) i,
        ap length label_there,
        values_there,
      )
