use Rattle.std.proofs.Common.{vec_items, vec_len, refl, arith}
use Rattle.netfile.proofs.Tabling.{tables_allow}
use Rattle.netfile.proofs.draft.allow_last.Goals as goal

pub returns-in-Some : goal.returns-in-Some
returns-in-Some c =
    tables_allow (vec_items c.args.tables.now) _ c.in-Some.table.now c.allow.new.self c.args.low c.args.high (vec_len c.args.tables.now)
    (c.in-Some.ensures.variant.0 refl) (omega (arith, c.args.tables.now.ok.0)) c.in-Some.ensures.value refl c.allow.ensures
