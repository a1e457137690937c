-- Tables that are copied one after another.
use Rattle.std.proofs.Common.{◌≡◌, ℕ, ◌+◌, ◌<◌, List, [], ◌∷◌, ◌++◌, length, take, get_or, Vec, Global, refl, sym, ap}
use Rattle.std.proofs.Common.{ap₂, ◌∙◌}
use Rattle.std.proofs.lemmas.List.{take_more}
use Rattle.icode.specs.Plain.{plain_tables}

tables_more : (xs : List (Vec ℕ Global)) (x : Vec ℕ Global) →
    plain_tables (xs ++ x ∷ []) ≡ plain_tables xs ++ x.items ∷ []
tables_more [] x = refl
tables_more (y ∷ xs) x = ap (λ zs. y.items ∷ zs) (tables_more xs x)

pub table_more : (tables copy after : List (Vec ℕ Global)) (i : ℕ) (t new : Vec ℕ Global) → i < length tables →
    t ≡ get_or tables i t → new.items ≡ t.items → plain_tables copy ≡ plain_tables (take i tables) →
    after ≡ copy ++ new ∷ [] → plain_tables after ≡ plain_tables (take (i + 1) tables)
table_more tables copy after i t new lt e same h ea =
    ap plain_tables ea
    ∙ (tables_more copy new
    ∙ (ap₂ (λ xs (x : List ℕ). xs ++ x ∷ []) h same
    ∙ (sym (tables_more (take i tables) t)
    ∙ ap plain_tables (ap (λ (x : Vec ℕ Global). take i tables ++ x ∷ []) e ∙ sym (take_more tables i t lt)))))
