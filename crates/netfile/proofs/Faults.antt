-- The first faulty record decides, lowest number first.
use Rattle.std.proofs.Common.{◌≡◌, ℕ, ◌+◌, List, ◌++◌, length, Err, sym, refl, ap, ◌∙◌, subst, ⊎_elim, arith}
use Rattle.std.specs.List.{flat_map}
use Rattle.std.proofs.lemmas.Bool.{cases_order}
use Rattle.theory.specs.Lists.{◌∈◌}
use Rattle.theory.proofs.Members.{in_right}
use Rattle.network.specs.declared.refusal.Refusal.{Refusal}
use Rattle.network.specs.Refusals.{number_of}
use Rattle.netfile.specs.declared.fault.Fault.{Fault}
use Rattle.netfile.specs.Records.{Item}
use Rattle.netfile.specs.Reading.{State, start, read_from, read_file}
use Rattle.netfile.specs.Listings.{AreBytes}
use Rattle.netfile.specs.Conditions.{layer_of, place_of, Condition, FaultAt, item_bytes, AllPass, after_all, FirstFaultDecides}
use Rattle.netfile.proofs.Lowest.{number_once}
use Rattle.netfile.proofs.Steps.{only_trailing, Stop, done, faulty, Passes, step, no_condition}
use Rattle.netfile.proofs.Passing.{pass_all, Run, run, read_rest}

module _ (s : State) (from : ℕ) (bs : List ℕ) where
  -- the refusal says the whole fault
  abbrev full : Refusal → Fault
  full r = record { refusal = r; layer = layer_of r; place = place_of r from bs }

  full_is : (f : Fault) → FaultAt s from bs f → f ≡ full f.refusal
  full_is f h = rw (← h.layer, ← h.place) refl

  -- there is at most one fault at a place
  fault_once : (f g : Fault) → FaultAt s from bs f → FaultAt s from bs g → f ≡ g
  fault_once f g h i =
      full_is f h
      ∙ ap full
      (⊎_elim (number_once f.refusal g.refusal)
      (⊎_elim (λ l. absurd (i.lowest f.refusal l h.holds)) (λ l. absurd (h.lowest g.refusal l i.holds)))
      (cases_order (number_of f.refusal) (number_of g.refusal)))
      ∙ sym (full_is g i)

  -- reading answers the fault, where there is one
  pub fault_read : (f : Fault) → AreBytes bs → FaultAt s from bs f → read_from s from 0 bs ≡ Err f
  fault_read f by h = ⊎_elim stops (λ p. absurd (passes p)) (step s from bs by)
    where
      stops : Stop s from bs → read_from s from 0 bs ≡ Err f
      stops (done e n _) = absurd ((only_trailing s bs e f.refusal h.holds).1 n)
      stops (faulty g i e) = e ∙ ap (λ x. Err x) (fault_once g f i h)

      passes : Passes s bs → ⊥
      passes p = no_condition s p.item p.rest p.fits p.unopposed f.refusal (subst (Condition f.refusal s) p.split h.holds)

pub first_fault_decides : FirstFaultDecides
first_fault_decides bs f by = (λ e. let r = run bs by in refused r r.stop e, decides)
  where
    refused :
        (r : Run start 0 bs) → Stop (after_all start r.items) (0 + length (flat_map item_bytes r.items)) r.rest → read_file bs ≡ Err f →
        (xs : List Item) × (rest : List ℕ) × (bs ≡ flat_map item_bytes xs ++ rest) × AllPass start xs ×
        FaultAt (after_all start xs) (length (flat_map item_bytes xs)) rest f
    refused r (done _ _ e) h = let q = read_rest bs r in let z : ◌≡◌ {A = ℕ} 0 1 = cc in absurd (omega arith)
    refused r (faulty g i e) h =
        let q = read_rest bs r in
        let same : g ≡ f = cc in
        let there : 0 + length (flat_map item_bytes r.items) ≡ length (flat_map item_bytes r.items) = omega arith in
        (r.items, r.rest, r.split, r.pass, rw (← there, ← same) i)

    decides :
        (xs : List Item) (rest : List ℕ) → bs ≡ flat_map item_bytes xs ++ rest → AllPass start xs →
        FaultAt (after_all start xs) (length (flat_map item_bytes xs)) rest f → read_file bs ≡ Err f
    decides xs rest e p h =
        ap read_file e ∙ pass_all xs start 0 rest p
        ∙ ap (λ n. read_from (after_all start xs) n 0 rest) (omega arith)
        ∙ fault_read (after_all start xs) (length (flat_map item_bytes xs)) rest f
        (λ b i. by b (subst (λ l. b ∈ l) (sym e) (in_right (flat_map item_bytes xs) rest b i))) h
