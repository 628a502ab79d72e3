use Rattle.std.proofs.Common.{◌≡◌, ◌-◌, ◌≤◌, length, drop}
use Rattle.netfile.specs.Reading.{read_from, read_file}
use Rattle.netfile.specs.Drafts.{state_of}
use Rattle.netfile.proofs.loading.draft_of.Given as goal

abbrev pub invariant-loop-reader : goal.invariant-loop-reader
invariant-loop-reader l =
    (l.reader.cursor.file.now ≡ l.file) ×
    (l.reader.draft.pairs ≤ l.reader.cursor.position) ×
    (read_from (state_of l.reader.draft) l.reader.cursor.position 0 (drop l.reader.cursor.position l.file) ≡ read_file l.file)

abbrev pub decreases-loop-reader : goal.decreases-loop-reader
decreases-loop-reader l = length l.file - l.reader.cursor.position
