-- Reading passes over the records with which nothing is wrong, and stops after them.
use Rattle.std.proofs.Common.{◌≡◌, ℕ, zero, suc, ◌+◌, ◌<◌, ◌≤◌, List, [], ◌∷◌, ◌++◌, length, None, Ok, sym, refl, ap, ◌∙◌, subst, ⊎_elim, arith}
use Rattle.std.specs.List.{flat_map}
use Rattle.std.proofs.lemmas.List.{append-nil, append_assoc, length-append, drop_at}
use Rattle.theory.specs.Lists.{◌∈◌}
use Rattle.theory.proofs.Members.{in_right}
use Rattle.netfile.specs.Bytes.{code_of}
use Rattle.netfile.specs.Records.{Item, kind_of_item}
use Rattle.netfile.specs.Reading.{State, start, objection, after, next_at, read_from, read_file}
use Rattle.netfile.specs.Listings.{AreBytes}
use Rattle.netfile.specs.Conditions.{item_bytes, Fits, AllPass, after_all}
use Rattle.netfile.proofs.Statements.{Lists, BytesAreItems}
use Rattle.netfile.proofs.Runs.{skip}
use Rattle.netfile.proofs.Items.{item_body, item_bytes_lem, item_says}
use Rattle.netfile.proofs.Steps.{Stop, done, faulty, Passes, step, next_item}

-- what is left of a record is passed over
skip_over : (s : State) (place : ℕ) (xs rest : List ℕ) → read_from s place (length xs) (xs ++ rest) ≡ read_from s (place + length xs) 0 rest
skip_over s place xs rest =
    skip (xs ++ rest) s place (length xs) (omega (arith, length-append xs rest)) ∙ ap (read_from s (place + length xs) 0) (drop_at xs rest (length xs) refl)

-- a record that passes is read, and reading goes on behind it
pass_one :
    (s : State) (place : ℕ) (x : Item) (rest : List ℕ) → Fits x → objection s x ≡ None →
    read_from s place 0 (item_bytes x ++ rest) ≡ read_from (after s x) (place + length (item_bytes x)) 0 rest
pass_one s place x rest f o =
    let n = subst (λ bs. next_at s.expect s place (bs ++ rest) ≡ Ok x) (item_bytes_lem x) (next_item s x rest f o place) in
    rw (item_bytes_lem x, n)
    (ap (λ k. read_from (after s x) (place + 1) k (item_body x ++ rest)) (sym (item_says x f).0)
    ∙ skip_over (after s x) place (code_of (kind_of_item x) ∷ item_body x) rest)

-- the same of records that all pass
pub pass_all :
    (xs : List Item) (s : State) (place : ℕ) (rest : List ℕ) → AllPass s xs →
    read_from s place 0 (flat_map item_bytes xs ++ rest) ≡ read_from (after_all s xs) (place + length (flat_map item_bytes xs)) 0 rest
pass_all [] s place rest h = ap (λ p. read_from s p 0 rest) (omega arith)
pass_all (x ∷ xs) s place rest (f, o, h) =
    rw (append_assoc (item_bytes x) (flat_map item_bytes xs) rest)
    (pass_one s place x (flat_map item_bytes xs ++ rest) f o
    ∙ pass_all xs (after s x) (place + length (item_bytes x)) rest h
    ∙ ap (λ p. read_from (after_all (after s x) xs) p 0 rest) (omega (arith, length-append (item_bytes x) (flat_map item_bytes xs))))

-- the records that pass, up to where reading stops
pub record Run (s : State) (place : ℕ) (bs : List ℕ) : Type 0 where
  pub items : List Item
  pub rest : List ℕ
  pub split : bs ≡ flat_map item_bytes items ++ rest
  pub pass : AllPass s items
  pub stop : Stop (after_all s items) (place + length (flat_map item_bytes items)) rest

stopped : (s : State) (place : ℕ) (bs : List ℕ) → Stop s place bs → Run s place bs
stopped s place bs h = record { items = []; rest = bs; split = refl; pass = tt; stop = subst (λ p. Stop s p bs) (omega arith) h }

one_more :
    (s : State) (place : ℕ) (bs : List ℕ) (p : Passes s bs) →
    Run (after s p.item) (place + length (item_bytes p.item)) p.rest → Run s place bs
one_more s place bs p r =
    record {
      items = p.item ∷ r.items;
      rest = r.rest;
      split = p.split ∙ ap (λ l. item_bytes p.item ++ l) r.split ∙ sym (append_assoc (item_bytes p.item) (flat_map item_bytes r.items) r.rest);
      pass = (p.fits, p.unopposed, r.pass);
      stop =
          subst (λ q. Stop (after_all (after s p.item) r.items) q r.rest)
          (omega (arith, length-append (item_bytes p.item) (flat_map item_bytes r.items))) r.stop;
    }

-- a record has at least one byte
shorter : (s : State) (bs : List ℕ) (p : Passes s bs) → length p.rest < length bs
shorter s bs p = omega (arith, ap length p.split, length-append (item_bytes p.item) p.rest, ap length (item_bytes_lem p.item))

-- reading comes to a stop: n bounds how many bytes are left
run_upto : (n : ℕ) (s : State) (place : ℕ) (bs : List ℕ) → length bs ≤ n → AreBytes bs → Run s place bs
run_upto zero s place bs l by = ⊎_elim (stopped s place bs) (λ p. absurd (omega (arith, shorter s bs p))) (step s place bs by)
run_upto (suc n) s place bs l by =
    ⊎_elim (stopped s place bs)
    (λ p. one_more s place bs p
    (run_upto n (after s p.item) (place + length (item_bytes p.item)) p.rest (omega (arith, shorter s bs p))
    (λ b i. by b (subst (λ l. b ∈ l) (sym p.split) (in_right (item_bytes p.item) p.rest b i)))))
    (step s place bs by)

pub run : (bs : List ℕ) → AreBytes bs → Run start 0 bs
run bs by = run_upto (length bs) start 0 bs (omega arith) by

-- a file reads as what is left after the records that pass
pub read_rest :
    (bs : List ℕ) (r : Run start 0 bs) →
    read_file bs ≡ read_from (after_all start r.items) (0 + length (flat_map item_bytes r.items)) 0 r.rest
read_rest bs r = ap read_file r.split ∙ pass_all r.items start 0 r.rest r.pass

pub bytes_are_items : BytesAreItems
bytes_are_items bs c by = (λ e. let r = run bs by in accepted r r.stop e, lists)
  where
    accepted :
        (r : Run start 0 bs) → Stop (after_all start r.items) (0 + length (flat_map item_bytes r.items)) r.rest → read_file bs ≡ Ok c →
        (xs : List Item) × (flat_map item_bytes xs ≡ bs) × Lists xs c
    accepted r (done f n e) h =
        let q = read_rest bs r in (
          r.items,
          sym (r.split ∙ ap (λ l. flat_map item_bytes r.items ++ l) n ∙ append-nil (flat_map item_bytes r.items)),
          record { pass = r.pass; finished = f; says = cc },
        )
    accepted r (faulty f _ e) h = let q = read_rest bs r in let z : ◌≡◌ {A = ℕ} 0 1 = cc in absurd (omega arith)

    lists : (xs : List Item) → flat_map item_bytes xs ≡ bs → Lists xs c → read_file bs ≡ Ok c
    lists xs e l =
        let q = pass_all xs start 0 [] l.pass in
        ap read_file (sym (append-nil (flat_map item_bytes xs) ∙ e)) ∙ q ∙ rw l.finished (ap (λ d. Ok d) l.says)
