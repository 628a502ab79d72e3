-- What opening over a network's points and clauses answers.
use Rattle.std.proofs.Common.{◌≡◌, [], Err, vec_items, Result}
use Rattle.theory.specs.declared.Encoding.{Encoding}
use Rattle.theory.specs.Encodings.{clauses}
use Rattle.theory.specs.Numbering.{total}
use Rattle.network.specs.declared.network.Network.{Network}
use Rattle.network.specs.declared.points.PointList.{PointList}
use Rattle.network.specs.Contents.{meaning}
use Rattle.network.specs.Points.{counts_of, points_of}
use Rattle.network.proofs.Properness.{proper, few_points, few_values, few_tables}
use Rattle.clause_store.specs.declared.error.OpenError.{OpenError}
use Rattle.clause_store.specs.declared.error.OpenError.TheVariants.{Unfit}
use Rattle.clause_store.specs.Fitness.{Fit}
use Rattle.calls.specs.States.{State}
use Rattle.session.specs.Sessions.{Opens}
use Rattle.opening.specs.Bounded.{Bounded}
use Rattle.opening.proofs.Fitting.{always_fit}

-- every network is within the bounds
pub bounded : (n : Network) → Bounded (meaning n)
bounded n =
    record {
      proper = proper n;
      few_points = few_points n.points;
      few_values = few_values (vec_items n.points.points);
      few_tables = few_tables n;
    }

-- so its clauses are fit
pub network_fit : (n : Network) (e : Encoding) → Fit (total (counts_of n.points)) (clauses e (meaning n))
network_fit n e = always_fit e (meaning n) (bounded n)

-- opening is answered over the points of the network n, and over the clauses of a network that is the same
module _ (n m : Network) (ps : PointList) (points : ps ≡ n.points) (network : m ≡ n) (f : Encoding) (s : State) where
  -- it is not refused as unfit
  pub never_unfit : (r : Result (Unit {0}) OpenError) → Opens (points_of ps) (clauses f (meaning m)) s r → r ≡ Err Unfit → ⊥
  never_unfit r o is = (rw (is, points, network) at o) (network_fit n f)

  -- what the session stands on
  pub stands_on :
      (e : Encoding) → f ≡ e → s ≡ record { points = points_of ps; clauses = clauses f (meaning m); decisions = [] } →
      s ≡ record { points = points_of n.points; clauses = clauses e (meaning n); decisions = [] }
  stands_on e encoding o = rw (points, network, encoding) at o
