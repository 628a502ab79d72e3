use Rattle.std.proofs.Common.{◌≡◌, ◌+◌, [], ◌∷◌, ◌++◌, map, take, set, sym, ap, ◌∙◌, subst, arith}
use Rattle.std.proofs.lemmas.List.{take_more, length-map, get_or-map}
use Rattle.theory.specs.declared.Mark.TheVariants.{In}
use Rattle.page.specs.Pages.{sign_text}
use Rattle.page.specs.Writing.{Placed}
use Rattle.page.proofs.Joining.{placed_more}
use Rattle.page.proofs.signs.write_signs.Goals as goal

pub loop-v-preserved : goal.loop-v-preserved
loop-v-preserved c =
    let ms = c.args.marks.now in
    let old = c.args.out.now in
    let at = c.args.at in
    let v = c.loop-v.v in
    let signs = map sign_text ms in
    let new = set c.loop-v.out (at + v) c.sign.result in
    let long = length-map ms sign_text in
    let text : take v signs ++ c.sign.result ∷ [] ≡ take (v + 1) signs =
    ap (λ x. take v signs ++ x ∷ []) (c.sign.ensures ∙ sym (get_or-map sign_text ms v In 0 c.loop-v-test.true)) ∙ sym (take_more signs v 0 (omega arith)) in
    let next : at + v + 1 ≡ at + (v + 1) = omega arith in
    let done = placed_more (take v signs) old c.loop-v.out at (at + v) c.sign.result (omega arith) (omega arith) c.loop-v.invariant in
    subst (λ n. Placed (take (v + 1) signs) at old new n) next (subst (λ t. Placed t at old new (at + v + 1)) text done)
