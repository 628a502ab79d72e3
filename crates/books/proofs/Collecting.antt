-- What a chain says that calls a function for each number and stops at the first error.
use Rattle.std.proofs.Common.{◌≡◌, ℕ, suc, ◌<◌, List, [], ◌∷◌, length, get_or, Option, Some, None, IfSome, IsSomeAnd, Ok, Result, Vec, vec_items, sym, refl, subst, arith}
use Rattle.std.specs.Option.{IsSomeRelated}
use Rattle.std.specs.declared.alloc.Global.{Global}
use Rattle.books.specs.Lists.{lists_of}

-- vectors that hold the lists at each place hold the lists
pub lists_are : (ys : List (Vec ℕ Global)) (cs : List (List ℕ)) → length ys ≡ length cs →
    ((k : ℕ) (d : Vec ℕ Global) → k < length cs → vec_items (get_or ys k d) ≡ get_or cs k []) → lists_of ys ≡ cs
lists_are [] [] e at = refl
lists_are [] (c ∷ cs) e at = absurd (omega arith)
lists_are (y ∷ ys) [] e at = absurd (omega arith)
lists_are (y ∷ ys) (c ∷ cs) e at = λ i. at 0 y (omega arith) i ∷ lists_are ys cs (omega arith) (λ k d h. at (suc k) d (omega arith)) i

-- what an answer that was given says of the number that it was asked for
pub told : {R : Type 0} (n b : ℕ) (u : Option ℕ) (o : Option R) (r : R) (C : ℕ → R → Type 0) (D : ℕ → Type 0) → ((m : ℕ) → m < b → C m r → D m) →
    IfSome u (λ x. (x ≡ n) × (x < b)) → IfSome o (λ q. IsSomeAnd u (λ x. C x q)) → IsSomeAnd o (λ q. r ≡ q) → D n
told n b u None r C D reads counts calls is = absurd is
told n b None (Some q) r C D reads counts calls is = absurd calls
told n b (Some x) (Some q) r C D reads counts calls is = subst D counts.0 (reads x counts.1 (subst (C x) (sym is) calls))

-- a value that was kept was answered
pub kept : {Y E : Type 0} (o : Option (Result Y E)) (y : Y) → IsSomeRelated (λ q z. Ok z ≡ q) o y → IsSomeAnd o (λ q. Ok y ≡ q)
kept None y h = h
kept (Some q) y h = h
