use Rattle.std.proofs.Common.{rules, ◌≡◌, ℕ, List, Ok, ap, arith}
use Rattle.netfile.specs.declared.record.Kind.{Kind}
use Rattle.netfile.specs.declared.record.Kind.TheVariants.{Head, Point, Table, Pair, End}
use Rattle.netfile.specs.Bytes.{body_length}
use Rattle.netfile.specs.Records.{Item, item_of, kind_of_item, checked}
use Rattle.netfile.proofs.cursor.Cursor.next.Goals as goal

-- what a record says is of its own kind
kept : (place : ℕ) (k : Kind) (body : List ℕ) (x : Item) → Ok x ≡ checked place k body → kind_of_item x ≡ k
kept place Head body x e = grind arith
kept place Point body x e = grind arith
kept place Table body x e = grind arith
kept place Pair body x e = grind arith
kept place End body x e = grind arith

pub returns-clause-moves : goal.returns-clause-moves
returns-clause-moves c =
    let w = c.in_ok-whole.whole in
    let p = c.args.self.now.position in
    let says : Ok (item_of c.in_ok-record.record) ≡ checked p w.kind w.body.now = search rules in
    omega (arith, w.size, ap body_length (kept p w.kind w.body.now (item_of c.in_ok-record.record) says))
