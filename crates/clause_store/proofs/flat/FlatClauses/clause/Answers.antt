use Rattle.std.proofs.Common.{◌-◌, take, drop, vec_items, ap, ◌∙◌, arith, rules}
use Rattle.clause_store.proofs.Parts.{next_start, bounds, between}
use Rattle.clause_store.proofs.flat.FlatClauses.clause.Goals as goal

pub index-requires : goal.index-requires
index-requires c =
    let f = c.args.self.now in omega (arith, next_start (vec_items f.literals) (vec_items f.starts) c.args.i c.requires, f.starts.ok.0)

pub overflow_add-i : goal.overflow_add-i
overflow_add-i c =
    let f = c.args.self.now in
    let h = next_start (vec_items f.literals) (vec_items f.starts) c.args.i c.requires in
    search rules

pub index-requires-2 : goal.index-requires-2
index-requires-2 c =
    let f = c.args.self.now in omega (arith, next_start (vec_items f.literals) (vec_items f.starts) c.args.i c.requires, f.starts.ok.0)

pub offset_bounds-deref-index : goal.offset_bounds-deref-index
offset_bounds-deref-index c = let h = bounds c.args.self.now c.args.i _ _ c.requires c.index.ensures c.index-2.ensures in search rules

pub slice_bounds-result-count : goal.slice_bounds-result-count
slice_bounds-result-count c = let h = bounds c.args.self.now c.args.i _ _ c.requires c.index.ensures c.index-2.ensures in omega arith

pub slice_bounds-result-start : goal.slice_bounds-result-start
slice_bounds-result-start c = let h = bounds c.args.self.now c.args.i _ _ c.requires c.index.ensures c.index-2.ensures in search rules

pub slice_bounds-result-end : goal.slice_bounds-result-end
slice_bounds-result-end c = let h = bounds c.args.self.now c.args.i _ _ c.requires c.index.ensures c.index-2.ensures in search rules

pub returns : goal.returns
returns c =
    ap (λ xs. take (c.index-2.result.now - c.index.result.now) (drop c.index.result.now xs)) c.deref.ensures.value ∙
    between c.args.self.now c.args.i _ _ c.requires c.index.ensures c.index-2.ensures
