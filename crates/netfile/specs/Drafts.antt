-- What a draft of a network says of the records so far.
use Rattle.std.specs.Prelude.{Bool, true, false, cond, length, Some, None, Ok, Err, Option, Result, vec_items, nat_lt}
use Rattle.network.specs.declared.refusal.Refusal.{Refusal}
use Rattle.network.specs.Points.{entries}
use Rattle.network.specs.Tables.{tables_of}
use Rattle.netfile.specs.declared.draft.Draft.{Draft}
use Rattle.netfile.specs.declared.record.Expectation.{Expectation}
use Rattle.netfile.specs.declared.record.Expectation.TheVariants.{Start, Points, Tables, Pairs, Nothing}
use Rattle.netfile.specs.Reading.{State}

-- what the records so far have said
abbrev pub state_of : Draft → State
state_of d =
    record {
      expect = d.expect;
      announced_points = d.announced.points;
      announced_tables = d.announced.tables;
      points = entries (vec_items d.points);
      tables = tables_of (vec_items d.tables);
      pairs = d.pairs;
    }

-- whether nothing may come any more
abbrev pub ended : Expectation → Bool
ended Start = false
ended Points = false
ended Tables = false
ended Pairs = false
ended Nothing = true

-- x while announced tables are still to come, and otherwise y
abbrev pub when_more : {A : Type 0} → State → A → A → A
when_more s x y = cond (nat_lt (length s.tables) s.announced_tables) x y

-- an error where something is refused, and otherwise nothing
abbrev pub unless_refused : Option Refusal → Result (Unit {0}) Refusal
unless_refused None = Ok tt
unless_refused (Some r) = Err r
