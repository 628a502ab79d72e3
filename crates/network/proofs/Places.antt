-- Value numbers and places undo each other.
use Rattle.std.proofs.Common.{◌≡◌, ℕ, zero, suc, ◌+◌, ◌-◌, ◌*◌, ◌<◌, ◌≤◌, min, Bool, true, false, cond, ltb, List, [], ◌∷◌, length, take, Some, None, Option, sym, refl, ap, ◌∙◌, ⊎_elim, zero-add, add-one, arith}
use Rattle.std.specs.List.{sum_by}
use Rattle.std.proofs.lemmas.List.Sums.{sum_by-cons}
use Rattle.std.proofs.lemmas.List.{take-map, take_all}
use Rattle.std.proofs.lemmas.Bool.{cases_lt, ltb-true, ltb-false, lt-ltb, le-ltb}
use Rattle.theory.specs.Numbering.{count, offset, total, number, place, later}
use Rattle.network.specs.declared.point.Point.{Point}
use Rattle.network.specs.Bounds.{most_values}
use Rattle.network.specs.Points.{Entry, entry_of, entries, values_of, Undone}

-- how many values points have in all
abbrev pub total_of : List Point → ℕ
total_of ps = total (values_of (entries ps))

-- a place seen from n points earlier
abbrev pub later_by : ℕ → Option (ℕ × ℕ) → Option (ℕ × ℕ)
later_by n None = None
later_by n (Some x) = Some (n + x.0, x.1)

pub later_by_none : (o : Option (ℕ × ℕ)) → later_by 0 o ≡ o
later_by_none None = refl
later_by_none (Some x) = ap Some (λ k. (zero-add x.0 k, x.1))

pub later_by_more : (n : ℕ) (o : Option (ℕ × ℕ)) → later_by n (later o) ≡ later_by (n + 1) o
later_by_more n None = refl
later_by_more n (Some x) = let e : n + (x.0 + 1) ≡ n + 1 + x.0 = omega arith in ap Some (λ k. (e k, x.1))

-- the values before a point are those of the points in front of it
pub total_front : (ks : List ℕ) (p : ℕ) → total (take p ks) ≡ offset ks p
total_front [] zero = refl
total_front [] (suc p) = refl
total_front (k ∷ ks) zero = refl
total_front (k ∷ ks) (suc p) = ap (λ n. k + n) (total_front ks p)

undone_later : (k : ℕ) (ks : List ℕ) (n : ℕ) (o : Option (ℕ × ℕ)) → k ≤ n → Undone ks (n - k) o → Undone (k ∷ ks) n (later o)
undone_later k ks n None h u = omega arith
undone_later k ks n (Some x) h u = rw add-one (u.0, omega (arith, u.1))

-- a place that is found has the number, and none is found only past the last value
pub place_undone : (ks : List ℕ) (n : ℕ) → Undone ks n (place ks n)
place_undone [] n = omega arith
place_undone (k ∷ ks) n = go (ltb n k) refl (place_undone ks (n - k))
  where
    go : (b : Bool) → ltb n k ≡ b → Undone ks (n - k) (place ks (n - k)) → Undone (k ∷ ks) n (cond b (Some (0, n)) (later (place ks (n - k))))
    go true e u = (ltb-true n k e, omega arith)
    go false e u = undone_later k ks n (place ks (n - k)) (ltb-false n k e) u

-- every value is found at its number
pub place_covers : (ks : List ℕ) (p i : ℕ) → i < count ks p → place ks (number ks p i) ≡ Some (p, i)
place_covers [] p i h = absurd (omega arith)
place_covers (k ∷ ks) zero i h = rw (zero-add i, lt-ltb i k h) refl
place_covers (k ∷ ks) (suc p) i h =
    let far : k ≤ k + offset ks p + i = omega arith in
    let e : k + offset ks p + i - k ≡ offset ks p + i = omega arith in
    rw (le-ltb (k + offset ks p + i) k far, e, place_covers ks p i h, add-one) refl

-- the values of points are the sum of theirs
pub total_sum : (ps : List Point) → sum_by (λ (p : Point). p.values) ps ≡ total_of ps
total_sum [] = refl
total_sum (p ∷ ps) = rw (sum_by-cons {X = Point}, total_sum ps) refl

-- points of at most 16 values each
pub total_bound : (ps : List Point) → total_of ps ≤ most_values * length ps
total_bound [] = omega arith
total_bound (p ∷ ps) = omega (arith, p.within, total_bound ps)

-- the values of the points in front of one are those numbered before it
pub total_take : (ps : List Point) (p : ℕ) → total_of (take p ps) ≡ offset (values_of (entries ps)) p
total_take ps p =
    ap (λ es. total (values_of es)) (sym (take-map entry_of p ps)) ∙ ap total (sym (take-map (λ (e : Entry). e.values) p (entries ps))) ∙
    total_front (values_of (entries ps)) p

-- the same where the front is cut at the last point
pub total_front_of : (ps : List Point) (n p : ℕ) → n ≡ min (length ps) p → total_of (take n ps) ≡ offset (values_of (entries ps)) p
total_front_of ps n p e = ⊎_elim inside past (cases_lt p (length ps))
  where
    inside : p < length ps → total_of (take n ps) ≡ offset (values_of (entries ps)) p
    inside h = let same : n ≡ p = omega arith in ap (λ k. total_of (take k ps)) same ∙ total_take ps p

    past : length ps ≤ p → total_of (take n ps) ≡ offset (values_of (entries ps)) p
    past h = ap total_of (take_all n ps (omega arith) ∙ sym (take_all p ps h)) ∙ total_take ps p
