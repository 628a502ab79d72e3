-- What is found in a list of points.
use Rattle.std.proofs.Common.{◌≡◌, ℕ, zero, suc, ◌<◌, ◌≤◌, List, [], ◌∷◌, length, get_or, Some, None, sym, refl, ap, ◌∙◌, arith}
use Rattle.std.proofs.lemmas.List.{length-map, get_or_past}
use Rattle.theory.specs.Numbering.{count}
use Rattle.network.specs.declared.point.Point.{Point}
use Rattle.network.specs.Points.{Entry, entry_of, entries, values_of, label_at}

pub length_counts : (ps : List Point) → length (values_of (entries ps)) ≡ length ps
length_counts ps = length-map (entries ps) (λ (e : Entry). e.values) ∙ length-map ps entry_of

pub count_at : (ps : List Point) (i : ℕ) (p : Point) → i < length ps → p ≡ get_or ps i p → p.values ≡ count (values_of (entries ps)) i
count_at [] i p h e = absurd (omega arith)
count_at (q ∷ ps) zero p h e = ap (λ (x : Point). x.values) e
count_at (q ∷ ps) (suc i) p h e = count_at ps i p (omega arith) e

pub count_past : (ps : List Point) (i : ℕ) → length ps ≤ i → 0 ≡ count (values_of (entries ps)) i
count_past ps i h = sym (get_or_past (values_of (entries ps)) i 0 (omega (arith, length_counts ps)))

pub label_at_lem : (ps : List Point) (i : ℕ) (p : Point) → i < length ps → p ≡ get_or ps i p → Some p.label ≡ label_at (entries ps) i
label_at_lem [] i p h e = absurd (omega arith)
label_at_lem (q ∷ ps) zero p h e = ap (λ (x : Point). Some x.label) e
label_at_lem (q ∷ ps) (suc i) p h e = label_at_lem ps i p (omega arith) e

pub label_past : (ps : List Point) (i : ℕ) → length ps ≤ i → None ≡ label_at (entries ps) i
label_past [] i h = refl
label_past (q ∷ ps) zero h = absurd (omega arith)
label_past (q ∷ ps) (suc i) h = label_past ps i (omega arith)
