use Rattle.std.proofs.Common.{[], ◌∷◌, refl, inl, inr}
use Rattle.theory.specs.declared.Encoding.{Encoding}
use Rattle.theory.specs.declared.Encoding.TheVariants.{Direct, Support, MinimalSupport}
use Rattle.theory.specs.Lists.{◌∈◌}
use Rattle.theory.proofs.Encoded.{is_faithful}
use Rattle.theory.proofs.models.faithful.Goals as goal

each : (e : Encoding) → e ∈ (Direct ∷ Support ∷ MinimalSupport ∷ [])
each Direct = inl refl
each Support = inr (inl refl)
each MinimalSupport = inr (inr (inl refl))

pub returns : goal.returns
returns c = record { all = each; law = λ e _. is_faithful e }
