-- Texts that are put together piece by piece.
use Rattle.std.proofs.Common.{◌≡◌, ℕ, zero, suc, ◌+◌, ◌<◌, List, [], ◌∷◌, ◌++◌, length, get_or, take, codes, decimal, sym, refl, ap, ◌∙◌, arith}
use Rattle.std.proofs.lemmas.List.{append_assoc, append-nil, flat_map_more, take_more}
use Rattle.commands.specs.Texts.{spaced, literals_text}

-- what stands before the literal j: a space behind the first
abbrev pub separator : ℕ → List ℕ
separator zero = []
separator (suc j) = codes " "

pub separator_later : (j : ℕ) → 0 < j → separator j ≡ codes " "
separator_later zero h = absurd (omega arith)
separator_later (suc j) h = refl

-- one literal more
literal_more : (c : List ℕ) (j l : ℕ) → j < length c → l ≡ get_or c j 0 → literals_text (take (j + 1) c) ≡ literals_text (take j c) ++ (separator j ++ decimal l)
literal_more [] j l h e = absurd (omega arith)
literal_more (x ∷ xs) zero l h e = append-nil (decimal x) ∙ ap decimal (sym e)
literal_more (x ∷ xs) (suc j) l h e =
    let next : suc j + 1 ≡ suc (j + 1) = omega arith in
    rw next
    (ap (λ t. decimal x ++ spaced t) (take_more xs j 0 (omega arith) ∙ ap (λ y. take j xs ++ y ∷ []) (sym e)) ∙
    sym (flat_map_more (λ k. codes " " ++ decimal k) (decimal x) (take j xs) l))

-- the literal j is written behind those before it
pub literal_written :
    (c : List ℕ) (j l : ℕ) (start was between is : List ℕ) → j < length c → l ≡ get_or c j 0 → between ≡ separator j →
    was ≡ start ++ literals_text (take j c) → is ≡ was ++ (between ++ decimal l) → is ≡ start ++ literals_text (take (j + 1) c)
literal_written c j l start was between is h e b before now =
    now ∙ ap (λ t. was ++ (t ++ decimal l)) b ∙ ap (λ t. t ++ (separator j ++ decimal l)) before ∙
    append_assoc start (literals_text (take j c)) (separator j ++ decimal l) ∙ ap (λ t. start ++ t) (sym (literal_more c j l h e))
