use Rattle.std.proofs.Common.{◌≡◌, ◌+◌, ◌-◌, ◌^◌, ◌<◌, [], ◌∷◌, Some, slice_get, sym, ap, ◌∙◌, arith, rules}
use Rattle.std.specs.List.{range_with_len, flat_map}
use Rattle.std.specs.Option.{option_map}
use Rattle.theory.specs.Encodings.{not_with_later}
use Rattle.theory.specs.Literals.{is_out}
use Rattle.theory.specs.Numbering.{number}
use Rattle.network.specs.Points.{counts_of}
use Rattle.computed.specs.Ids.{clause_of}
use Rattle.computed.proofs.Blocks.{none_below, within_below, there_below}
use Rattle.computed.proofs.Pairs.{length_later, later_get}
use Rattle.computed.proofs.point_pairs.not_two.Goals as goal
use Rattle.computed.proofs.point_pairs.not_two.Goals.{After-offset}

pub returns-in_err-i : goal.returns-in_err-i
returns-in_err-i c =
    let ks = counts_of c.args.points.now in
    let p = c.args.p in
    let n = c.count-count.result in
    ap (option_map clause_of) c.from_residual.ensures ∙
    none_below _ (not_with_later ks p) n c.args.n c.locate.result c.locate.ensures
    (λ i r h k. let e : r ≡ n - (i + 1) = search rules in omega (arith, e, length_later ks p i, c.count-count.ensures.value)) c.in_err-i.was ∙
    ap (λ m. slice_get (flat_map (not_with_later ks p) (range_with_len 0 m)) c.args.n) c.count-count.ensures.value

-- both values are among those of the point

within : (c : After-offset) → (c.in_ok-i.i < c.count-count.result) × (c.in_ok-i.left < c.count-count.result - (c.in_ok-i.i + 1))
within c =
    let ks = counts_of c.args.points.now in
    let p = c.args.p in
    let n = c.count-count.result in
    let w = within_below _ (not_with_later ks p) n c.args.n c.locate.result c.locate.ensures
    (λ i r h k. let e : r ≡ n - (i + 1) = search rules in omega (arith, e, length_later ks p i, c.count-count.ensures.value)) c.in_ok-i.i c.in_ok-i.left c.in_ok-i.was in
    (w.0, omega (arith, w.1, length_later ks p c.in_ok-i.i, c.count-count.ensures.value))

-- both value numbers are small

small : (c : After-offset) → c.offset.result + c.in_ok-i.i + 1 + c.in_ok-i.left < 2 ^ 31
small c = omega (arith, within c, c.offset.ensures.bound, c.count-count.ensures.bound)

pub overflow_add-value : goal.overflow_add-value
overflow_add-value c = omega (arith, small c)

pub overflow_add-other : goal.overflow_add-other
overflow_add-other c = omega (arith, small c)

pub overflow_add-other-2 : goal.overflow_add-other-2
overflow_add-other-2 c = omega (arith, small c)

pub is_out-requires : goal.is_out-requires
is_out-requires c = omega (arith, small c)

pub is_out-requires-2 : goal.is_out-requires-2
is_out-requires-2 c = omega (arith, small c.before)

pub returns : goal.returns
returns c =
    let ks = counts_of c.args.points.now in
    let p = c.args.p in
    let n = c.count-count.result in
    let i = c.in_ok-i.i in
    let l = c.in_ok-i.left in
    let one : c.is_out.result ≡ is_out (number ks p i) = omega arith in
    let other : c.is_out-2.result ≡ is_out (number ks p (i + 1 + l)) = omega arith in
    (λ k. Some (one k ∷ other k ∷ [])) ∙ sym (later_get ks p i l (omega (arith, within c.before.before, c.count-count.ensures.value))) ∙
    there_below _ (not_with_later ks p) n c.args.n c.locate.result c.locate.ensures
    (λ i r h k. let e : r ≡ n - (i + 1) = search rules in omega (arith, e, length_later ks p i, c.count-count.ensures.value)) i l c.in_ok-i.was ∙
    ap (λ m. slice_get (flat_map (not_with_later ks p) (range_with_len 0 m)) c.args.n) c.count-count.ensures.value
