use Rattle.std.proofs.Common.{◌≡◌, map, length, take}
use Rattle.network.specs.Bounds.{most_tables}
use Rattle.network.specs.Contents.{meaning}
use Rattle.computed.specs.Sizes.{size_of}
use Rattle.computed.proofs.sizes.sizes.Given as goal

abbrev pub invariant-loop-k : goal.invariant-loop-k
invariant-loop-k l =
    let net = meaning l.network in
    (length l.sizes ≡ most_tables) × (take l.k l.sizes ≡ map (size_of l.encoding net.counts) (take l.k net.tables))
