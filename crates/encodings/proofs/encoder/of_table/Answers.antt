use Rattle.std.proofs.Common.{◌≡◌, ◌++◌, ap}
use Rattle.std.proofs.lemmas.Result.{IfOk-weaker}
use Rattle.theory.specs.declared.Side.TheVariants.{Lower, Higher}
use Rattle.theory.specs.Encodings.{half, table_clauses}
use Rattle.network.specs.Points.{counts_of}
use Rattle.network.specs.Tables.{table_of}
use Rattle.encodings.specs.ClauseLists.{clauses_of}
use Rattle.encodings.proofs.Growing.{grown}
use Rattle.encodings.proofs.encoder.of_table.Goals as goal

pub returns-in_ok-half-in-Support : goal.returns-in_ok-half-in-Support
returns-in_ok-half-in-Support c =
    let ks = counts_of c.args.points.now in
    let t = table_of c.args.table.now in
    let ws = clauses_of c.args.out.now in
    let xs = clauses_of c.half.new.out in
    let ys = clauses_of c.half-in-Support.new.out in
    let both = ap (λ e. table_clauses e ks t) c.in-Support.is in
    IfOk-weaker c.half-in-Support.result (λ _. ys ≡ xs ++ half ks Higher t) (λ _. ys ≡ ws ++ table_clauses c.args.encoding ks t)
    (λ _. grown ws (half ks Lower t) (table_clauses c.args.encoding ks t) (half ks Higher t) xs ys both c.in_ok-half-in-Support.ensures)
    c.half-in-Support.ensures
