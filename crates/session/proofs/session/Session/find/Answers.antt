use Rattle.std.proofs.Common.{◌≡◌, Some, None, rules}
use Rattle.propagator.specs.States.{state_of as inner_of, known_mark}
use Rattle.network.specs.Points.{number_at}
use Rattle.calls.specs.States.{counts_of}
use Rattle.session.specs.Sessions.{state_of}
use Rattle.session.proofs.Finding.{unknown_clash}
use Rattle.session.proofs.session.Session.find.Goals as goal

pub returns-in_err-mark-clause-answer : goal.returns-in_err-mark-clause-answer
returns-in_err-mark-clause-answer c =
    let s = c.args.self.now in
    let there : number_at (counts_of (state_of s)) c.args.point c.args.value ≡ Some c.in_ok-n.n = search rules in
    let unknown : known_mark (inner_of s.inner) c.in_ok-n.n ≡ None = search rules in
    let k = unknown_clash s c.args.point c.args.value c.in_ok-n.n there unknown in
    search rules
