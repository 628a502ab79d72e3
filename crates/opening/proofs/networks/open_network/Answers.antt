use Rattle.std.proofs.Common.{◌≡◌, Err}
use Rattle.clause_store.specs.declared.error.OpenError.TheVariants.{Unfit}
use Rattle.session.specs.Sessions.{state_of}
use Rattle.opening.proofs.Fitting.{always_fit}
use Rattle.opening.proofs.Opened.{network_fit, never_unfit, stands_on}
use Rattle.opening.proofs.networks.open_network.Goals as goal

pub unreachable-requires : goal.unreachable-requires
unreachable-requires c =
    let b = c.new-book in
    let unfit : c.open.result ≡ Err Unfit = cc in
    never_unfit c.args.network.now b.result.network.now c.points.result.now c.points.ensures b.ensures.network b.result.encoding
    (state_of c.open.new.self) c.open.result c.open.ensures.answer unfit

pub returns-in-Ok : goal.returns-in-Ok
returns-in-Ok c =
    let b = c.new-book in
    record {
      opened =
          stands_on c.args.network.now b.result.network.now c.points.result.now c.points.ensures b.ensures.network b.result.encoding
          (state_of c.open.new.self) c.args.encoding b.ensures.encoding c.in-Ok.ensures.answer.1;
      fit = network_fit c.args.network.now c.args.encoding;
      always = always_fit;
    }

pub returns-in-Err-OutOfMemory : goal.returns-in-Err-OutOfMemory
returns-in-Err-OutOfMemory c =
    record { opened = tt; fit = network_fit c.args.network.now c.args.encoding; always = always_fit }
