-- The two halves of the law that a file is accepted exactly when it is a written listing: bytes and items, items and listings.
use Rattle.std.proofs.Common.{◌≡◌, ℕ, ◌<◌, List, [], ◌∷◌, ◌++◌, map, length, Ok}
use Rattle.std.specs.List.{flat_map}
use Rattle.network.specs.Contents.{Contents}
use Rattle.netfile.specs.Records.{Item, head, point, table, pair, end}
use Rattle.netfile.specs.Reading.{start, contents, read_file}
use Rattle.netfile.specs.Listings.{TableListing, Listing, ListingWithin, listed, pair_count, AreBytes}
use Rattle.netfile.specs.Conditions.{Finished, item_bytes, AllPass, after_all}

-- the records pass, the last of them is the end record, and they list the contents
pub record Lists (xs : List Item) (c : Contents) : Type 0 where
  pub pass : AllPass start xs
  pub finished : Finished (after_all start xs)
  pub says : contents (after_all start xs) ≡ c

-- a file is accepted exactly when it is made of records that list the contents
abbrev pub BytesAreItems : Type 0
BytesAreItems =
    (bs : List ℕ) (c : Contents) → AreBytes bs →
    (read_file bs ≡ Ok c → (xs : List Item) × (flat_map item_bytes xs ≡ bs) × Lists xs c) ×
    ((xs : List Item) → flat_map item_bytes xs ≡ bs → Lists xs c → read_file bs ≡ Ok c)

-- the items of a listed pair, and of a listed table
abbrev pub pair_item : ℕ × ℕ → Item
pair_item x = pair x.0 x.1

abbrev pub table_items : TableListing → List Item
table_items t = table t.low t.high ∷ map pair_item t.pairs

-- the items of a listing, in the order of the file
abbrev pub items_of : Listing → List Item
items_of l =
    head (length l.points) (length l.tables) ∷
    (map point l.points ++ (flat_map table_items l.tables ++ end (pair_count l.tables) ∷ []))

-- items list contents exactly when they are those of a listing that keeps the bounds and says the contents
abbrev pub ItemsAreListings : Type 0
ItemsAreListings =
    (xs : List Item) (c : Contents) →
    (Lists xs c → (l : Listing) × ListingWithin l × (items_of l ≡ xs) × (listed l ≡ c)) ×
    ((l : Listing) → ListingWithin l → pair_count l.tables < 65536 → items_of l ≡ xs → listed l ≡ c → Lists xs c)
