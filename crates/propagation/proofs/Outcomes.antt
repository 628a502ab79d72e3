-- What a propagation's answer says.
use Rattle.std.proofs.Common.{◌≡◌, Bool, true, false, Ok, Err, Result, OnOk, OnErr, IsErrAnd, refl, sym, ap, ◌∙◌}
use Rattle.std.proofs.lemmas.Bool.{true≢false}
use Rattle.std.specs.Result.{is_err}
use Rattle.propagation.specs.declared.conflict.Conflict.{Conflict}
use Rattle.propagation.specs.Outcomes.{outcome}

is_err_of : (b : Bool) → is_err (outcome b) ≡ b
is_err_of true = refl
is_err_of false = refl

-- it is an error exactly where there is a clash
pub is_err_outcome : (r : Result (Unit {0}) Conflict) (b : Bool) → r ≡ outcome b → is_err r ≡ b
is_err_outcome r b e = ap is_err e ∙ is_err_of b

-- what is known of an answer that is an error
pub err_says : {P : Type 0} (Q : Conflict → Type 0) (r : Result (Unit {0}) Conflict) → IsErrAnd r Q → P → OnErr r P
err_says Q (Ok v) h p = absurd h
err_says Q (Err x) h p = p

-- it is that of a clash
pub err_outcome : (Q : Conflict → Type 0) (r : Result (Unit {0}) Conflict) (b : Bool) → IsErrAnd r Q → b ≡ true → r ≡ outcome b
err_outcome Q (Ok v) b h e = absurd h
err_outcome Q (Err x) b h e = sym (ap outcome e)

pub on_no_err : {P : Type 0} (r : Result (Unit {0}) Conflict) → OnOk r P → is_err r ≡ false → P
on_no_err (Ok v) h e = h
on_no_err (Err x) h e = absurd (true≢false e)
