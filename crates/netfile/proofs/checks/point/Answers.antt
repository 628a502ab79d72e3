use Rattle.std.proofs.Common.{◌≡◌, ℕ, Bool, false, List, Option, Some, None, Decides, ⊎_elim, ◌∷◌, Ok, Err, sym, ap, ◌∙◌, subst, rules}
use Rattle.std.specs.Option.{MatchOption, ok_or}
use Rattle.std.proofs.lemmas.Bool.{cases_Bool, cond-true, cond-false}
use Rattle.network.specs.declared.point.Point.{Point}
use Rattle.network.specs.declared.refusal.Refusal.TheVariants.{BadPoint}
use Rattle.network.specs.Bounds.{PointWithin}
use Rattle.network.specs.Points.{Entry, entry_of}
use Rattle.netfile.specs.declared.record.Record.{Record}
use Rattle.netfile.specs.declared.record.Record.TheVariants as program
use Rattle.netfile.specs.declared.fault.Layer.TheVariants.{Record as RecordLayer}
use Rattle.netfile.specs.Faults.{fault_in}
use Rattle.netfile.specs.Records.{Item, item_of, point, point_fits, in_order, at_place}
use Rattle.netfile.specs.Answers.{map_ok}
use Rattle.netfile.proofs.Items.{decides_point}
use Rattle.netfile.proofs.checks.point.Goals as goal

-- a test that decides something false fails
fails : {P : Type 0} (b : Bool) → Decides b P → (P → ⊥) → b ≡ false
fails b d f = ⊎_elim (λ t. absurd (f (d.0 t))) (λ t. t) (cases_Bool b)

module _ (place values : ℕ) (label : List ℕ) where
  abbrev says : Item
  says = point (record { values = values; label = label })

  -- a point that could be made is what the record says, and one that could not is refused
  made :
      (o : Option Point) (m : Option Record) → MatchOption o (PointWithin values label → ⊥) (λ p. (p.values ≡ values) × (p.label ≡ label)) →
      MatchOption o (m ≡ None) (λ p. m ≡ Some (program.Point p)) →
      map_ok item_of (at_place place (ok_or m BadPoint)) ≡ in_order place (point_fits (values ∷ label)) BadPoint says
  made None m h e =
      rw e (sym (cond-false (point_fits (values ∷ label)) (Ok says) (Err (fault_in RecordLayer place BadPoint)) (fails (point_fits (values ∷ label)) (decides_point (values ∷ label)) h)))
  made (Some p) m h e =
      let same : entry_of p ≡ record { values = values; label = label } = λ k. record { values = h.0 k; label = h.1 k } in
      let w : PointWithin values label = subst (λ (x : Entry). PointWithin x.values x.label) same p.within in
      rw e (ap (λ x. Ok (point x)) same ∙ sym (cond-true (point_fits (values ∷ label)) (Ok says) (Err (fault_in RecordLayer place BadPoint)) ((decides_point (values ∷ label)).1 w)))

pub returns : goal.returns
returns c place = rw c.ok_or.ensures.value (made place c.args.values c.args.label c.new.result c.map.result c.new.ensures (search rules))
