-- How bytes begin: with a whole record, with an unknown kind, or cut short.
use Rattle.std.proofs.Common.{◌≡◌, ℕ, suc, ◌+◌, cond, eqb, List, [], ◌∷◌, ◌++◌, length, take, drop, Some, None, Ok, Err, Option, Result, sym, refl, ap, ◌∙◌, inl, inr, ⊎_elim, arith}
use Rattle.std.proofs.lemmas.List.{length-append, take_at, take-append-drop, length-take-le}
use Rattle.std.proofs.lemmas.Bool.{cases_lt, lt-ltb, le-ltb, cond_both, eqb-true}
use Rattle.network.specs.declared.refusal.Refusal.TheVariants.{Truncated, UnknownKind}
use Rattle.netfile.specs.declared.fault.Fault.{Fault}
use Rattle.netfile.specs.declared.fault.Layer.TheVariants.{Byte}
use Rattle.netfile.specs.declared.record.Kind.{Kind}
use Rattle.netfile.specs.declared.record.Kind.TheVariants.{Head, Point, Table, Pair, End}
use Rattle.netfile.specs.Faults.{fault_in}
use Rattle.netfile.specs.Bytes.{code_of, body_length, kind_of, Raw, body_of, raw_at}
use Rattle.netfile.specs.Conditions.{Begins, StopsShort}

kind_of_code : (k : Kind) → kind_of (code_of k) ≡ Some k
kind_of_code Head = refl
kind_of_code Point = refl
kind_of_code Table = refl
kind_of_code Pair = refl
kind_of_code End = refl

-- a kind that is found for a byte has it as its code
code_of_kind : (b : ℕ) (k : Kind) → kind_of b ≡ Some k → b ≡ code_of k
code_of_kind b =
    step Head _ (step Point _ (step Table _ (step Pair _ (step End None (λ k e. let z : ◌≡◌ {A = ℕ} 0 1 = cc in absurd (omega arith))))))
  where
    step :
        (x : Kind) (o : Option Kind) → ((k : Kind) → o ≡ Some k → b ≡ code_of k) → (k : Kind) → cond (eqb b (code_of x)) (Some x) o ≡ Some k → b ≡ code_of k
    step x o f =
        cond_both (eqb b (code_of x)) (Some x) o (λ v. (k : Kind) → v ≡ Some k → b ≡ code_of k)
        (λ t k e. let q : x ≡ k = cc in eqb-true b (code_of x) t ∙ ap code_of q) (λ _. f)

-- a byte stands for at most one kind
pub code_once : (k j : Kind) → code_of k ≡ code_of j → k ≡ j
code_once k j e = let p = kind_of_code k in let q = kind_of_code j in let r = ap kind_of e in cc

-- no kind has the byte
abbrev pub Unknown : ℕ → Type 0
Unknown b = (k : Kind) → code_of k ≡ b → ⊥

-- the bytes are cut short, begin with an unknown kind, or begin with a whole record
pub data Front (bs : List ℕ) : Type 0 where
  short : StopsShort bs → Front bs
  unknown : (b : ℕ) (rest : List ℕ) → bs ≡ b ∷ rest → Unknown b → Front bs
  whole : (k : Kind) (body : List ℕ) → Begins k body bs → Front bs

-- bytes begin in one of the three ways
pub front : (bs : List ℕ) → Front bs
front [] = short (inl refl)
front (b ∷ bs) = go (kind_of b) refl
  where
    go : (o : Option Kind) → kind_of b ≡ o → Front (b ∷ bs)
    go None e = unknown b bs refl (λ k c. let p = kind_of_code k in let q = ap kind_of c in let z : ◌≡◌ {A = ℕ} 0 1 = cc in omega arith)
    go (Some k) e =
        let c = code_of_kind b k e in
        ⊎_elim (λ l. short (inr (k, bs, rw c refl, l)))
        (λ l. whole k (take (body_length k) bs) (length-take-le (body_length k) bs l, (drop (body_length k) bs, rw (c, take-append-drop) refl)))
        (cases_lt (length bs) (body_length k))

-- the same fault at equal places
cut : (p q : ℕ) → p ≡ q → ◌≡◌ {A = Result Raw Fault} (Err (fault_in Byte p Truncated)) (Err (fault_in Byte q Truncated))
cut p q e = rw e refl

-- what the byte layer says where the bytes are cut short, begin with an unknown kind, or begin with a whole record
pub raw_short : (place : ℕ) (bs : List ℕ) → StopsShort bs → raw_at place bs ≡ Err (fault_in Byte (place + length bs) Truncated)
raw_short place bs (inl e) = rw e (cut place (place + 0) (omega arith))
raw_short place bs (inr (k, rest, e, l)) =
    rw (e, kind_of_code k, lt-ltb (length rest) (body_length k) l) (cut (place + 1 + length rest) (place + suc (length rest)) (omega arith))

pub raw_unknown : (place b : ℕ) (rest : List ℕ) → Unknown b → raw_at place (b ∷ rest) ≡ Err (fault_in Byte place UnknownKind)
raw_unknown place b rest u = go (kind_of b) refl
  where
    go : (o : Option Kind) → kind_of b ≡ o → body_of place o rest ≡ Err (fault_in Byte place UnknownKind)
    go None e = refl
    go (Some k) e = absurd (u k (sym (code_of_kind b k e)))

pub raw_whole : (place : ℕ) (k : Kind) (body bs : List ℕ) → Begins k body bs → raw_at place bs ≡ Ok (record { kind = k; body = body })
raw_whole place k body bs (l, (rest, e)) =
    rw (e, kind_of_code k, le-ltb (length (body ++ rest)) (body_length k) (omega (arith, length-append body rest)), take_at body rest (body_length k) l) refl

-- bytes begin with at most one whole record
pub begins_once : (k j : Kind) (body other bs : List ℕ) → Begins k body bs → Begins j other bs → (k ≡ j) × (body ≡ other)
begins_once k j body other bs p q =
    let a = raw_whole 0 k body bs p in
    let b = raw_whole 0 j other bs q in
    let e : ◌≡◌ {A = Raw} (record { kind = k; body = body }) (record { kind = j; body = other }) = cc in
    (ap (λ (r : Raw). r.kind) e, ap (λ (r : Raw). r.body) e)
