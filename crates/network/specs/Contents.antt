-- What a network says: its points with their labels, and its tables.
use Rattle.std.specs.Prelude.{List, [], ◌∷◌, replicate, vec_items}
use Rattle.theory.specs.Network.{Table as TableMeaning, Network as NetworkMeaning}
use Rattle.network.specs.declared.network.Network.{Network}
use Rattle.network.specs.Points.{Entry, values_of, points_of}
use Rattle.network.specs.Tables.{tables_of}

-- a network with its labels
pub record Contents : Type 0 where
  pub points : List Entry
  pub tables : List TableMeaning

-- what a network says
abbrev pub contents_of : Network → Contents
contents_of n = record { points = points_of n.points; tables = tables_of (vec_items n.tables) }

-- what the layouts depend on
abbrev pub unlabelled : Contents → NetworkMeaning
unlabelled c = record { counts = values_of c.points; tables = c.tables }

-- the meaning of a network, without labels
abbrev pub meaning : Network → NetworkMeaning
meaning n = unlabelled (contents_of n)

-- the network that everything starts from: one point of one value, its label eight spaces
abbrev pub blank : Contents
blank = record { points = record { values = 1; label = replicate 8 32 } ∷ []; tables = [] }
