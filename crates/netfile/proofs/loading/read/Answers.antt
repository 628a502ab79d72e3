use Rattle.std.proofs.Common.{vec_items, arith}
use Rattle.std.proofs.lemmas.List.{length-map}
use Rattle.network.specs.Points.{entry_of}
use Rattle.network.specs.Tables.{table_of}
use Rattle.netfile.specs.Reading.{contents}
use Rattle.netfile.specs.Drafts.{state_of}
use Rattle.netfile.proofs.Accepting.{accepts_exactly, bytes_typed, accepted_within}
use Rattle.netfile.proofs.Faults.{first_fault_decides}
use Rattle.netfile.proofs.loading.read.Goals as goal

pub returns-in_err-draft-clause-accepts : goal.returns-in_err-draft-clause-accepts
returns-in_err-draft-clause-accepts c = accepts_exactly

pub returns-in_err-draft-clause-faults : goal.returns-in_err-draft-clause-faults
returns-in_err-draft-clause-faults c = first_fault_decides

pub finish-requires : goal.finish-requires
finish-requires c =
    let d = c.in_ok-draft.draft in
    let w = accepted_within c.args.file.now (contents (state_of d)) (bytes_typed c.args.file.now (λ i. omega (arith, c.type_inv.file i))) c.in_ok-draft.ensures in
    record {
      points = omega (arith, w.0, length-map (vec_items d.points) entry_of, d.points.ok.0);
      few = omega (arith, w.1, length-map (vec_items d.tables) table_of, d.tables.ok.0);
      within = w.2;
    }

pub returns-clause-accepts : goal.returns-clause-accepts
returns-clause-accepts c = accepts_exactly

pub returns-clause-faults : goal.returns-clause-faults
returns-clause-faults c = first_fault_decides
