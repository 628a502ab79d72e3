use Rattle.std.proofs.Common.{ℕ, ◌+◌, length, get_or, vec_items, ap, ◌∙◌, subst, arith}
use Rattle.std.specs.Prelude.{slice_range}
use Rattle.clause_store.proofs.Rooms.{Placed, begun_at, room_at, inside_at, none_yet}
use Rattle.clause_store.proofs.holders.Holders.with_room.Goals as goal

pub invariant_of-result : goal.invariant_of-result
invariant_of-result c =
    let counts = c.args.counts.now in
    let starts = vec_items c.loop-count.starts in
    let ends = vec_items c.loop-count.ends in
    let total = c.loop-count.total in
    let w : Placed counts starts ends total (length counts) = subst (Placed counts starts ends total) (omega arith) c.loop-count.invariant in
    let at = λ (l : ℕ). ap (λ xs. get_or xs l 0) c.in_ok-push-3.ensures.items in
    record {
      bounded = λ l h. omega (arith, c.in_ok-push-3.ensures.len, w.many, w.long, c.loop-count.starts.ok.0, c.loop-count.ends.ok.0);
      begun = λ l h. omega (arith, at l, begun_at counts starts ends total w l (omega (arith, w.long, c.loop-count.ends.ok.0)));
      apart = λ l h. omega (arith, at (l + 1), room_at counts starts ends total w l (omega (arith, w.long, c.loop-count.ends.ok.0)));
      inside = λ l h.
          omega (
            arith,
            at l,
            inside_at counts starts ends total w l (omega (arith, c.in_ok-push-3.ensures.len, w.many, c.loop-count.starts.ok.0)),
            c.in_ok-row.ensures.len,
          );
    }

pub returns-clause-bare : goal.returns-clause-bare
returns-clause-bare c = λ l.
    let counts = c.args.counts.now in
    let starts = vec_items c.loop-count.starts in
    let ends = vec_items c.loop-count.ends in
    let total = c.loop-count.total in
    let w : Placed counts starts ends total (length counts) = subst (Placed counts starts ends total) (omega arith) c.loop-count.invariant in
    let row = vec_items c.in_ok-row.row in
    ap (λ xs. slice_range row (get_or xs l 0) (get_or ends l 0)) c.in_ok-push-3.ensures.items ∙ none_yet counts starts ends total w row l

pub returns-clause-room : goal.returns-clause-room
returns-clause-room c = λ l h.
    let counts = c.args.counts.now in
    let starts = vec_items c.loop-count.starts in
    let ends = vec_items c.loop-count.ends in
    let total = c.loop-count.total in
    let w : Placed counts starts ends total (length counts) = subst (Placed counts starts ends total) (omega arith) c.loop-count.invariant in
    omega (arith, ap (λ xs. get_or xs (l + 1) 0) c.in_ok-push-3.ensures.items, room_at counts starts ends total w l h)
