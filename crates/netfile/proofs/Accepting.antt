-- A file is accepted exactly when it is the written form of a listing that keeps the bounds.
use Rattle.std.proofs.Common.{◌≡◌, ℕ, ◌/◌, ◌<◌, ◌≤◌, List, ◌++◌, length, get_or, Ok, sym, refl, ap, ◌∙◌, subst, inl, inr, arith}
use Rattle.std.specs.List.{flat_map}
use Rattle.std.proofs.lemmas.List.{length-map}
use Rattle.theory.proofs.Members.{in_right, at_in}
use Rattle.network.specs.Bounds.{PointsWithin, most_tables}
use Rattle.network.specs.Contents.{Contents}
use Rattle.network.specs.Points.{values_of}
use Rattle.network.specs.Tables.{TablesWithin}
use Rattle.netfile.specs.Reading.{read_file}
use Rattle.netfile.specs.Listings.{Listing, ListingWithin, listed, listed_table, written, point_bytes, table_bytes, pair_count, end_bytes, AreBytes, AcceptsExactly}
use Rattle.netfile.specs.Conditions.{item_bytes}
use Rattle.netfile.proofs.Statements.{items_of}
use Rattle.netfile.proofs.Passing.{bytes_are_items}
use Rattle.netfile.proofs.Grids.{listed_within}
use Rattle.netfile.proofs.Grammar.{items_are_listings}
use Rattle.netfile.proofs.Written.{written_items}

-- the end record has two bytes for the number of pairs
few_pairs : (l : Listing) → AreBytes (written l) → pair_count l.tables < 65536
few_pairs l are =
    let n = pair_count l.tables in
    let ts = flat_map table_bytes l.tables in
    let h = are (n / 256) (inr (inr (inr (inr
    (in_right (flat_map point_bytes l.points) (ts ++ end_bytes n) (n / 256) (in_right ts (end_bytes n) (n / 256) (inr (inl refl)))))))) in
    omega arith

pub accepts_exactly : AcceptsExactly
accepts_exactly bs c are = (there, back)
  where
    there : read_file bs ≡ Ok c → (l : Listing) × ListingWithin l × (written l ≡ bs) × (listed l ≡ c)
    there e =
        let r = (bytes_are_items bs c are).0 e in
        let w = (items_are_listings r.0 c).0 r.2 in
        (w.0, w.1, written_items w.0 ∙ ap (flat_map item_bytes) w.2 ∙ r.1, w.3)

    back : (l : Listing) → ListingWithin l → written l ≡ bs → listed l ≡ c → read_file bs ≡ Ok c
    back l within is says =
        (bytes_are_items bs c are).1 (items_of l) (sym (written_items l) ∙ is)
        ((items_are_listings (items_of l) c).1 l within (few_pairs l (subst AreBytes (sym is) are)) refl says)

-- numbers that each fit a byte are bytes
pub bytes_typed : (bs : List ℕ) → ((i : ℕ) → get_or bs i 0 < 256) → AreBytes bs
bytes_typed bs f b h = let r = at_in bs b h in omega (arith, f r.0, r.2)

-- what an accepted file lists keeps the bounds
pub accepted_within :
    (bs : List ℕ) (c : Contents) → AreBytes bs → read_file bs ≡ Ok c →
    PointsWithin (length c.points) × (length c.tables ≤ most_tables) × TablesWithin (values_of c.points) c.tables
accepted_within bs c are e =
    let r = (accepts_exactly bs c are).0 e in
    subst (λ (x : Contents). PointsWithin (length x.points) × (length x.tables ≤ most_tables) × TablesWithin (values_of x.points) x.tables) r.3
    (r.1.points_within, omega (arith, length-map r.0.tables listed_table, r.1.tables_within), listed_within r.0 r.1)
