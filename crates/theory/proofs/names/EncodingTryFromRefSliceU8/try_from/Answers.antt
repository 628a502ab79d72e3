use Rattle.std.proofs.Common.{◌≡◌, codes, sym, ap, rules, arith}
use Rattle.std.proofs.lemmas.Slice.Eq.{text_from_reads}
use Rattle.theory.specs.Names.{encoding_named}
use Rattle.theory.proofs.names.EncodingTryFromRefSliceU8.try_from.Goals as goal

pub returns-in-direct : goal.returns-in-direct
returns-in-direct c = let e : c.args.name.now ≡ codes "direct" = text_from_reads _ _ (omega arith) (search rules) in sym (ap encoding_named e)

pub returns-in-support : goal.returns-in-support
returns-in-support c = let e : c.args.name.now ≡ codes "support" = text_from_reads _ _ (omega arith) (search rules) in sym (ap encoding_named e)

pub returns-in-minimal : goal.returns-in-minimal
returns-in-minimal c = let e : c.args.name.now ≡ codes "minimal" = text_from_reads _ _ (omega arith) (search rules) in sym (ap encoding_named e)
