use Rattle.std.proofs.Common.{◌+◌, ◌<◌, length, get_or, set, vec_items, ap, ◌∙◌, arith}
use Rattle.std.specs.Prelude.{slice_range}
use Rattle.std.proofs.lemmas.List.{get_or_read}
use Rattle.clause_store.proofs.Putting.{put_held}
use Rattle.clause_store.proofs.holders.Holders.put.Goals as goal

pub returns-clause-held : goal.returns-clause-held
returns-clause-held c = λ m.
    let s = c.args.self.now in
    let row = vec_items s.row in
    let starts = vec_items s.starts in
    let ends = vec_items s.ends in
    let x = c.args.literal in
    let lx : x < length ends = omega (arith, c.requires.literal, s.ends.ok.0) in
    let end = get_or_read ends c.index.result c.index-end.result.now (omega (arith, c.index.ensures)) c.index-end.ensures 0 ∙ ap (λ k. get_or ends k 0) c.index.ensures in
    ap (λ k. slice_range (set row k c.args.i) (get_or starts m 0) (get_or (set ends c.index-2.result (k + 1)) m 0)) end ∙
    ap (λ k. slice_range (set row (get_or ends x 0) c.args.i) (get_or starts m 0) (get_or (set ends k (get_or ends x 0 + 1)) m 0)) c.index-2.ensures ∙
    put_held row starts ends (λ l h. s.begun l (omega (arith, s.ends.ok.0))) (λ l h. s.apart l (omega (arith, s.ends.ok.0))) x c.args.i lx c.requires.room
    (omega (arith, s.inside (x + 1) (s.bounded x c.requires.literal), s.row.ok.0)) m
