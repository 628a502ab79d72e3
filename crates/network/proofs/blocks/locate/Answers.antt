use Rattle.std.proofs.Common.{sym, ◌∙◌, arith}
use Rattle.theory.specs.Numbering.{place}
use Rattle.network.proofs.Places.{later_by_none}
use Rattle.network.proofs.Walking.{in_this, further_on, past_all}
use Rattle.network.proofs.blocks.locate.Goals as goal

pub loop-i-init : goal.loop-i-init
loop-i-init g c sizes long are = later_by_none (place sizes c.args.n)

pub returns-then-left-items : goal.returns-then-left-items
returns-then-left-items g c sizes long are =
    sym (in_this sizes c.loop-i.i c.size-items.result (omega arith) (are c.loop-i.i c.size-items.result c.loop-i-test.true c.size-items.ensures) c.loop-i.left c.if-left-items.true) ∙
    c.loop-i.invariant sizes long are

pub loop-i-preserved : goal.loop-i-preserved
loop-i-preserved g c sizes long are =
    sym (further_on sizes c.loop-i.i c.size-items.result (omega arith) (are c.loop-i.i c.size-items.result c.loop-i-test.true c.size-items.ensures) c.loop-i.left c.if-left-items.false) ∙
    c.loop-i.invariant sizes long are

pub returns : goal.returns
returns g c sizes long are = sym (past_all sizes c.loop-i.i c.loop-i.left (omega arith)) ∙ c.loop-i.invariant sizes long are
