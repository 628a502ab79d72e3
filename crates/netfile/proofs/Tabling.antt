-- The last table of a draft.
use Rattle.std.proofs.Common.{◌≡◌, ℕ, ◌-◌, ◌<◌, List, length, get_or, set, sym, ap, ◌∙◌, arith}
use Rattle.std.proofs.lemmas.List.{length-map, get_or-map, map-set}
use Rattle.network.specs.declared.table.Table.{Table}
use Rattle.network.specs.Tables.{table_of, tables_of, with_allowed}
use Rattle.netfile.specs.Reading.{empty_table, last_of, allow_last}

pub last_is :
    (ts : List Table) (t : Table) → 0 < length ts → t ≡ get_or ts (length ts - 1) t →
    table_of t ≡ last_of (tables_of ts)
last_is ts t h e =
    ap table_of e ∙ sym (get_or-map table_of ts (length ts - 1) t (empty_table 0 0) (omega arith)) ∙
    ap (λ n. get_or (tables_of ts) (n - 1) (empty_table 0 0)) (sym (length-map ts table_of))

-- a write at the last place is a write of the last table
pub tables_allow :
    (ts us : List Table) (t u : Table) (i j n : ℕ) → 0 < n → n ≡ length ts → t ≡ get_or ts (n - 1) t → us ≡ set ts (n - 1) u →
    table_of u ≡ with_allowed (table_of t) i j → tables_of us ≡ allow_last (tables_of ts) i j
tables_allow ts us t u i j n h l e f g =
    let last : table_of t ≡ last_of (tables_of ts) = last_is ts t (omega arith) (e ∙ ap (λ m. get_or ts (m - 1) t) l) in
    ap tables_of f ∙ map-set table_of ts (n - 1) u ∙
    ap (λ m. set (tables_of ts) (m - 1) (table_of u)) (l ∙ sym (length-map ts table_of)) ∙
    ap (set (tables_of ts) (length (tables_of ts) - 1)) (g ∙ ap (λ m. with_allowed m i j) last)
