-- What a function gives for the table at a place.
use Rattle.std.proofs.Common.{◌≡◌, ℕ, ◌+◌, ◌<◌, List, [], ◌∷◌, ◌++◌, map, length, get_or, take, set, sym, ap, ◌∙◌, arith}
use Rattle.std.proofs.lemmas.List.{get_or-map, length-map, take-map, take_more, take_more_set}
use Rattle.theory.specs.Network.{Table as TableMeaning}
use Rattle.network.specs.declared.table.Table.{Table}
use Rattle.network.specs.Tables.{table_of, tables_of}

module _ (us vs : List Table) (same : us ≡ vs) where
  pub tables_length : length (tables_of vs) ≡ length us
  tables_length = length-map vs table_of ∙ ap length (sym same)

  module _ {A : Type 0} (f : TableMeaning → A) (k : ℕ) where
    pub table_at : (d : A) (x : Table) → k < length us → x ≡ get_or us k x → get_or (map f (tables_of vs)) k d ≡ f (table_of x)
    table_at d x h e =
        ap (λ ts. get_or (map f (tables_of ts)) k d) (sym same) ∙
        get_or-map f (tables_of us) k (table_of x) d (omega (arith, length-map us table_of)) ∙ ap f (get_or-map table_of us k x (table_of x) h ∙ ap table_of (sym e))

    -- one value more is written, that of the table at the place
    pub table_more : (ns : List A) (n : A) (x : Table) → k < length us → k < length ns → x ≡ get_or us k x → n ≡ f (table_of x) →
        take k ns ≡ map f (take k (tables_of vs)) → take (k + 1) (set ns k n) ≡ map f (take (k + 1) (tables_of vs))
    table_more ns n x h l e is was =
        let here : get_or (map f (tables_of vs)) k n ≡ n = table_at n x h e ∙ sym is in
        let long : k < length (map f (tables_of vs)) = omega (arith, length-map (tables_of vs) f, tables_length) in
        take_more_set ns k n l ∙ ap (λ l. l ++ n ∷ []) (was ∙ sym (take-map f k (tables_of vs))) ∙
        sym (ap (λ m. take k (map f (tables_of vs)) ++ m ∷ []) here) ∙ sym (take_more (map f (tables_of vs)) k n long) ∙ take-map f (k + 1) (tables_of vs)
