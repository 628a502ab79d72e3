-- Words that are written one after the other.
use Rattle.std.proofs.Common.{◌≡◌, ℕ, zero, suc, ◌+◌, ◌<◌, ◌≤◌, List, [], ◌∷◌, ◌++◌, length, get_or, take, drop, set, sym, refl, ap, ◌∙◌, arith}
use Rattle.std.proofs.lemmas.List.{append_assoc, append-nil, drop_more, set_at, take_more, length-append, drop-drop, drop_at, take_at}
use Rattle.books.specs.Stored.{row, ends_from}

-- one word more behind those that are written
pub fill_more : (front ws us : List ℕ) (n x : ℕ) → length front ≡ n → n < length ws → us ≡ set (front ++ drop n ws) n x → us ≡ (front ++ x ∷ []) ++ drop (n + 1) ws
fill_more front ws us n x l h e =
    e ∙ ap (λ t. set (front ++ t) n x) (drop_more ws n 0 h) ∙ set_at front (get_or ws n 0) (drop (n + 1) ws) x n l ∙ sym (append_assoc front (x ∷ []) (drop (n + 1) ws))

pub row_append : (xs bs : List (List ℕ)) → row (xs ++ bs) ≡ row xs ++ row bs
row_append [] bs = refl
row_append (x ∷ xs) bs = ap (λ r. x ++ r) (row_append xs bs) ∙ sym (append_assoc x (row xs) (row bs))

-- one clause more in the row
pub row_more : (cs : List (List ℕ)) (i : ℕ) → i < length cs → row (take (i + 1) cs) ≡ row (take i cs) ++ get_or cs i []
row_more cs i h =
    ap row (take_more cs i [] h) ∙ row_append (take i cs) (get_or cs i [] ∷ []) ∙ ap (λ r. row (take i cs) ++ r) (append-nil (get_or cs i []))

-- the front of the row is no longer than the row
pub row_front : (cs : List (List ℕ)) (i : ℕ) → length (row (take i cs)) ≤ length (row cs)
row_front cs zero = omega arith
row_front [] (suc i) = omega arith
row_front (c ∷ cs) (suc i) = omega (arith, row_front cs i, length-append c (row (take i cs)), length-append c (row cs))

-- a part written behind a front leaves the front, and the words behind the part
pub part_more :
    (front part ws mid us : List ℕ) (p : ℕ) → length front ≡ p → mid ≡ front ++ drop p ws → us ≡ (take p mid ++ part) ++ drop (p + length part) mid →
    us ≡ (front ++ part) ++ drop (p + length part) ws
part_more front part ws mid us p l m e =
    let past : drop (p + length part) mid ≡ drop (p + length part) ws =
    sym (drop-drop (length part) p mid) ∙ ap (λ t. drop (length part) (drop p t)) m ∙ ap (drop (length part)) (drop_at front (drop p ws) p l) ∙ drop-drop (length part) p ws in
    e ∙ ap (λ t. (t ++ part) ++ drop (p + length part) mid) (ap (take p) m ∙ take_at front (drop p ws) p l) ∙ ap (λ t. (front ++ part) ++ t) past

pub length_ends : (p : ℕ) (cs : List (List ℕ)) → length (ends_from p cs) ≡ length cs
length_ends p [] = refl
length_ends p (c ∷ cs) = ap suc (length_ends (p + length c) cs)

-- a clause ends behind the literals of the clauses up to it
pub end_at : (p : ℕ) (cs : List (List ℕ)) (i : ℕ) → i < length cs → get_or (ends_from p cs) i 0 ≡ p + length (row (take (suc i) cs))
end_at p [] i h = absurd (omega arith)
end_at p (c ∷ cs) zero h = omega (arith, length-append c [])
end_at p (c ∷ cs) (suc i) h =
    let e = end_at (p + length c) cs i (omega arith) in
    omega (arith, length-append c (row (take (suc i) cs)))

-- a clause fits the row behind those before it
pub fits_row : (cs : List (List ℕ)) (i : ℕ) → i < length cs → length (row (take i cs)) + length (get_or cs i []) ≤ length (row cs)
fits_row cs i h = omega (arith, ap length (row_more cs i h), length-append (row (take i cs)) (get_or cs i []), row_front cs (i + 1))
