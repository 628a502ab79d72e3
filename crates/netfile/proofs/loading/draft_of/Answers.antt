use Rattle.std.proofs.Common.{◌≡◌, ◌+◌, ◌≤◌, false, ◌&&◌, leb, length, drop, Ok, Err, sym, ap, ◌∙◌, arith}
use Rattle.std.proofs.lemmas.Result.{err_from_is_err_and}
use Rattle.netfile.specs.Bytes.{body_length}
use Rattle.netfile.specs.Records.{item_of, kind_of_item}
use Rattle.netfile.specs.Reading.{State, after, next_at, read_from}
use Rattle.netfile.specs.Drafts.{state_of, ended}
use Rattle.netfile.proofs.Runs.{read_on_lem, read_stop, after_pairs}
use Rattle.netfile.proofs.loading.draft_of.Goals as goal

pub returns-in_err-record : goal.returns-in_err-record
returns-in_err-record c =
    let bs = c.args.file.now in
    let r = c.loop-reader.reader in
    let p = r.cursor.position in
    let s = state_of r.draft in
    let same = c.loop-reader.invariant.0 in
    let f = c.in_err-record.field-0.0 in
    let next : Err f ≡ next_at s.expect s p (drop p bs) = c.in_err-record.ensures.answer ∙ ap (λ l. next_at s.expect s p (drop p l)) same in
    let open' : (ended s.expect && leb (length bs) p) ≡ false =
    ap (λ l. ended s.expect && leb (length l) p) (sym same) ∙ sym c.done.ensures ∙ c.loop-reader-test.true in
    let q = err_from_is_err_and c.from_residual.result c.from_residual.ensures.1 in
    rw (q.1, q.2) (sym c.loop-reader.invariant.2 ∙ read_stop bs s p f next open')

pub loop-reader-preserved : goal.loop-reader-preserved
loop-reader-preserved c =
    let bs = c.args.file.now in
    let r = c.loop-reader.reader in
    let p = r.cursor.position in
    let s = state_of r.draft in
    let same = c.loop-reader.invariant.0 in
    let x = item_of c.in_ok-record.record in
    let told = c.in_ok-record.ensures in
    let file = told.same ∙ same in
    let next : Ok x ≡ next_at s.expect s p (drop p bs) = told.answer ∙ ap (λ l. next_at s.expect s p (drop p l)) same in
    let state : state_of c.take.new.self ≡ after s x = c.in_ok-take.ensures ∙ ap (λ d. after (state_of d) x) told.draft in
    let within = c.next.new.self.cursor.within in
    let moves = told.moves in
    let l = ap length file in
    let far : p + 1 + body_length (kind_of_item x) ≤ length bs = omega (arith, moves, within, l) in (
      file,
      omega (arith, moves, ap (λ (t : State). t.pairs) state, after_pairs s x, c.loop-reader.invariant.1),
      ap (λ t. read_from t c.next.new.self.cursor.position 0 (drop c.next.new.self.cursor.position bs)) state ∙
          ap (λ n. read_from (after s x) n 0 (drop n bs)) moves ∙ sym (read_on_lem bs s p x next far) ∙ c.loop-reader.invariant.2,
    )
