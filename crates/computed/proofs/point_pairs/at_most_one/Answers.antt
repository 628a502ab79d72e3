use Rattle.std.proofs.Common.{slice_get, ap, ◌∙◌, rules}
use Rattle.std.specs.List.{range_with_len, flat_map}
use Rattle.std.specs.Option.{option_map}
use Rattle.theory.specs.Encodings.{not_two}
use Rattle.network.specs.Points.{counts_of}
use Rattle.computed.specs.Ids.{clause_of}
use Rattle.computed.proofs.Blocks.{none_below, there_below}
use Rattle.computed.proofs.point_pairs.at_most_one.Goals as goal

pub returns-in_err-p : goal.returns-in_err-p
returns-in_err-p c =
    let ks = counts_of c.args.points.now in
    ap (option_map clause_of) c.from_residual.ensures ∙
    none_below _ (not_two ks) c.len.result c.args.n c.locate.result c.locate.ensures (λ i r h k. search rules) c.in_err-p.was ∙
    ap (λ m. slice_get (flat_map (not_two ks) (range_with_len 0 m)) c.args.n) c.len.ensures

pub returns : goal.returns
returns c =
    let ks = counts_of c.args.points.now in
    c.not_two.ensures ∙
    there_below _ (not_two ks) c.len.result c.args.n c.locate.result c.locate.ensures (λ i r h k. search rules) c.in_ok-p.p c.in_ok-p.left c.in_ok-p.was ∙
    ap (λ m. slice_get (flat_map (not_two ks) (range_with_len 0 m)) c.args.n) c.len.ensures
