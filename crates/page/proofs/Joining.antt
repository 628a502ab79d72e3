-- Texts that are written one after the other.
use Rattle.std.proofs.Common.{◌≡◌, ℕ, ◌+◌, ◌<◌, ◌≤◌, List, [], ◌∷◌, ◌++◌, length, take, drop, set, sym, ap, ◌∙◌, arith}
use Rattle.std.proofs.lemmas.List.{append_assoc, length-append, length_push, length-take-le}
use Rattle.books.proofs.Filling.{fill_more, part_more}
use Rattle.page.specs.Writing.{Placed}

-- two texts that are written one behind the other are one text
pub placed_both :
    (t u old mid new : List ℕ) (at m n : ℕ) → at ≤ length old → Placed t at old mid m → Placed u m mid new n → Placed (t ++ u) at old new n
placed_both t u old mid new at m n h f g =
    let l : length (take at old ++ t) ≡ m = omega (arith, length-append (take at old) t, length-take-le at old h, f.0) in
    let past : m + length u ≡ at + length (t ++ u) = omega (arith, length-append t u, f.0) in (
      omega (arith, g.0),
      part_more (take at old ++ t) u old mid new m l (f.1 ∙ ap (λ k. (take at old ++ t) ++ drop k old) (sym f.0)) g.1 ∙
          ap (λ x. x ++ drop (m + length u) old) (append_assoc (take at old) t u) ∙
          ap (λ k. (take at old ++ (t ++ u)) ++ drop k old) past,
    )

-- one byte more is written behind a text
pub placed_more :
    (t old mid : List ℕ) (at m x : ℕ) → at ≤ length old → m < length old → Placed t at old mid m → Placed (t ++ x ∷ []) at old (set mid m x) (m + 1)
placed_more t old mid at m x h k f =
    let l : length (take at old ++ t) ≡ m = omega (arith, length-append (take at old) t, length-take-le at old h, f.0) in
    let past : m + 1 ≡ at + length (t ++ x ∷ []) = omega (arith, length_push t x, f.0) in (
      past,
      fill_more (take at old ++ t) old (set mid m x) m x l k (ap (λ ys. set ys m x) (f.1 ∙ ap (λ n. (take at old ++ t) ++ drop n old) (sym f.0))) ∙
          ap (λ ys. ys ++ drop (m + 1) old) (append_assoc (take at old) t (x ∷ [])) ∙
          ap (λ n. (take at old ++ (t ++ x ∷ [])) ++ drop n old) past,
    )
