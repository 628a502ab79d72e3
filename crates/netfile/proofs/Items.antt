-- The body of a record and the item that it says, each from the other.
use Rattle.std.proofs.Common.{◌≡◌, ℕ, ◌+◌, ◌*◌, ◌/◌, ◌%◌, ◌<◌, ◌≤◌, Bool, true, ◌&&◌, eqb, leb, List, [], ◌∷◌, map, length, get_or, drop, Decides, sym, refl, ap, arith}
use Rattle.std.specs.List.{range_with_len}
use Rattle.std.proofs.lemmas.List.FromFn.{fill_by_all}
use Rattle.std.proofs.ByRecursion.{All-get_or, All-from_get_or, Decides-by_and}
use Rattle.std.proofs.lemmas.List.{drop_more, length-drop}
use Rattle.std.proofs.lemmas.Bool.{leb-true, le-leb}
use Rattle.std.proofs.lemmas.Bool.Decides.{Decides-and, Decides-like, Decides-eqb, Decides-ltb}
use Rattle.theory.proofs.Members.{in_at}
use Rattle.network.specs.declared.refusal.Refusal.{Refusal}
use Rattle.network.specs.declared.refusal.Refusal.TheVariants.{BadHead, BadPoint, BadTable}
use Rattle.network.specs.Bounds.{most_points, most_values, most_tables, Printable, PointWithin}
use Rattle.netfile.specs.declared.record.Kind.{Kind}
use Rattle.netfile.specs.declared.record.Kind.TheVariants.{Head, Point, Table, Pair, End}
use Rattle.netfile.specs.Bytes.{code_of, body_length}
use Rattle.netfile.specs.Records.{Item, head, point, table, pair, end, kind_of_item, printable, head_fits, point_fits, table_fits, in_order, checked}
use Rattle.netfile.specs.Listings.{AreBytes}
use Rattle.netfile.specs.Conditions.{HeadWithin, item_bytes, Fits}

decides_leb : (a b : ℕ) → Decides (leb a b) (a ≤ b)
decides_leb a b = (leb-true a b, le-leb a b)

decides_between : (a n b : ℕ) → Decides (leb a n && leb n b) ((a ≤ n) × (n ≤ b))
decides_between a n b = Decides-and (leb a n) (leb n b) (decides_leb a n) (decides_leb n b)

pub decides_head : (body : List ℕ) → Decides (head_fits body) (HeadWithin body)
decides_head body =
    Decides-like (head_fits body) (λ h. (h.0.0, h.0.1, h.1)) (λ h. ((h.0, h.1), h.2))
    (Decides-and (eqb v 1 && (leb 1 p && leb p most_points)) (leb t most_tables)
    (Decides-and (eqb v 1) (leb 1 p && leb p most_points) (Decides-eqb v 1) (decides_between 1 p most_points)) (decides_leb t most_tables))
  where
    v : ℕ
    v = get_or body 0 0

    p : ℕ
    p = get_or body 1 0

    t : ℕ
    t = get_or body 2 0

decides_printable : (bs : List ℕ) → Decides (printable bs) ((k : ℕ) → k < length bs → Printable (get_or bs k 0))
decides_printable bs =
    Decides-like (printable bs) (λ a k l. All-get_or Printable bs k 0 l a) (λ f. All-from_get_or Printable bs 0 f)
    (Decides-by_and (λ b. leb 32 b && leb b 126) Printable printable (λ b. decides_between 32 b 126) refl (λ _ _. refl) bs)

pub decides_point : (body : List ℕ) → Decides (point_fits body) (PointWithin (get_or body 0 0) (drop 1 body))
decides_point body =
    Decides-like (point_fits body) (λ h. (h.0.0, h.0.1, h.1)) (λ h. ((h.0, h.1), h.2))
    (Decides-and (leb 1 (get_or body 0 0) && leb (get_or body 0 0) most_values) (printable (drop 1 body))
    (decides_between 1 (get_or body 0 0) most_values) (decides_printable (drop 1 body)))

-- whether a whole record is in order by itself
abbrev pub orderly : Kind → List ℕ → Bool
orderly Head body = head_fits body
orderly Point body = point_fits body
orderly Table body = table_fits body
orderly Pair body = true
orderly End body = true

-- the refusal of one that is not; pairs and ends always are
abbrev pub bad_of : Kind → Refusal
bad_of Head = BadHead
bad_of Point = BadPoint
bad_of Table = BadTable
bad_of Pair = BadTable
bad_of End = BadTable

-- what a record of the kind says by its body
abbrev pub said : Kind → List ℕ → Item
said Head body = head (get_or body 1 0) (get_or body 2 0)
said Point body = point (record { values = get_or body 0 0; label = drop 1 body })
said Table body = table (get_or body 0 0) (get_or body 1 0)
said Pair body = pair (get_or body 0 0) (get_or body 1 0)
said End body = end (256 * get_or body 0 0 + get_or body 1 0)

pub checked_is : (place : ℕ) (k : Kind) (body : List ℕ) → checked place k body ≡ in_order place (orderly k body) (bad_of k) (said k body)
checked_is place Head body = refl
checked_is place Point body = refl
checked_is place Table body = refl
checked_is place Pair body = refl
checked_is place End body = refl

-- a list of n numbers, written out
spelled : (n : ℕ) (bs : List ℕ) → length bs ≡ n → bs ≡ map (λ i. get_or bs i 0) (range_with_len 0 n)
spelled n bs l = fill_by_all (λ i. get_or bs i 0) bs n 0 l (λ k h. refl)

-- a body that is in order is that of the item that it says
pub body_says :
    (k : Kind) (body : List ℕ) → AreBytes body → length body ≡ body_length k → orderly k body ≡ true →
    (item_bytes (said k body) ≡ code_of k ∷ body) × Fits (said k body)
body_says Head body by l t = let h = (decides_head body).0 t in let e = spelled 3 body l in (cc, (h.1, h.2))
body_says Point body by l t =
    (ap (λ bs. 2 ∷ bs) (sym (drop_more body 0 0 (omega arith))), ((decides_point body).0 t, simp length-drop (omega arith)))
body_says Table body by l t = (ap (λ bs. 3 ∷ bs) (sym (spelled 2 body l)), (Decides-ltb (get_or body 0 0) (get_or body 1 0)).0 t)
body_says Pair body by l t = (ap (λ bs. 4 ∷ bs) (sym (spelled 2 body l)), tt)
body_says End body by l t =
    let high = by (get_or body 0 0) (in_at body 0 0 (omega arith)) in
    let low = by (get_or body 1 0) (in_at body 0 1 (omega arith)) in
    let d : (256 * get_or body 0 0 + get_or body 1 0) / 256 ≡ get_or body 0 0 = omega arith in
    let m : (256 * get_or body 0 0 + get_or body 1 0) % 256 ≡ get_or body 1 0 = omega arith in
    let e = spelled 2 body l in
    (cc, omega arith)

-- the body of the record that says an item
abbrev pub item_body : Item → List ℕ
item_body x = drop 1 (item_bytes x)

pub item_bytes_lem : (x : Item) → item_bytes x ≡ code_of (kind_of_item x) ∷ item_body x
item_bytes_lem (head p t) = refl
item_bytes_lem (point e) = refl
item_bytes_lem (table l h) = refl
item_bytes_lem (pair i j) = refl
item_bytes_lem (end n) = refl

-- an item that fits is what its body says, and the body is in order
pub item_says :
    (x : Item) → Fits x →
    (length (item_body x) ≡ body_length (kind_of_item x)) × (orderly (kind_of_item x) (item_body x) ≡ true) × (said (kind_of_item x) (item_body x) ≡ x)
item_says (head p t) f = (refl, (decides_head (1 ∷ p ∷ t ∷ [])).1 (refl, f.0, f.1), refl)
item_says (point e) f = (omega arith, (decides_point (e.values ∷ e.label)).1 f.0, refl)
item_says (table l h) f = (refl, (Decides-ltb l h).1 f, refl)
item_says (pair i j) f = (refl, refl, refl)
item_says (end n) f = (refl, refl, ap end (omega arith))
