-- The written form of a listing is that of its items.
use Rattle.std.proofs.Common.{◌≡◌, List, [], ◌∷◌, ◌++◌, map, length, sym, refl, ap, ◌∙◌, append_assoc}
use Rattle.std.specs.List.{flat_map}
use Rattle.netfile.specs.Records.{Item, point, end}
use Rattle.netfile.specs.Listings.{TableListing, Listing, point_bytes, table_bytes, end_bytes, pair_count, written}
use Rattle.netfile.specs.Conditions.{item_bytes}
use Rattle.netfile.proofs.Statements.{pair_item, table_items, items_of}

module _ {X Y : Type 0} (f : X → List Y) where
  pub joined_append : (xs ys : List X) → flat_map f (xs ++ ys) ≡ flat_map f xs ++ flat_map f ys
  joined_append [] ys = refl
  joined_append (x ∷ xs) ys = ap (λ zs. f x ++ zs) (joined_append xs ys) ∙ sym (append_assoc (f x) (flat_map f xs) (flat_map f ys))

  joined_map : {Z : Type 0} (g : Z → X) (zs : List Z) → flat_map f (map g zs) ≡ flat_map (λ z. f (g z)) zs
  joined_map g [] = refl
  joined_map g (z ∷ zs) = ap (λ ys. f (g z) ++ ys) (joined_map g zs)

-- the bytes of the items of tables are those of the tables
tables_written : (ts : List TableListing) → flat_map item_bytes (flat_map table_items ts) ≡ flat_map table_bytes ts
tables_written [] = refl
tables_written (t ∷ ts) =
    joined_append item_bytes (table_items t) (flat_map table_items ts) ∙
    (λ k. 3 ∷ t.low ∷ t.high ∷ (joined_map item_bytes pair_item t.pairs k ++ tables_written ts k))

pub written_items : (l : Listing) → written l ≡ flat_map item_bytes (items_of l)
written_items l = sym (ap (λ bs. 1 ∷ 1 ∷ length l.points ∷ length l.tables ∷ bs) body)
  where
    last : List Item
    last = end (pair_count l.tables) ∷ []

    body :
        flat_map item_bytes (map point l.points ++ (flat_map table_items l.tables ++ last)) ≡
        flat_map point_bytes l.points ++ (flat_map table_bytes l.tables ++ end_bytes (pair_count l.tables))
    body =
        joined_append item_bytes (map point l.points) (flat_map table_items l.tables ++ last) ∙
        (λ k.
        joined_map item_bytes point l.points k ++
        (joined_append item_bytes (flat_map table_items l.tables) last ∙
        ap (λ bs. bs ++ end_bytes (pair_count l.tables)) (tables_written l.tables)) k)
