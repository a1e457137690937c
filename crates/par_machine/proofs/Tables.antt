-- Tables that are there.
use Rattle.std.proofs.Common.{◌≡◌, ℕ, zero, suc, arith, ◌<◌, List, [], ◌∷◌, length, get_or, Vec, Global, sym, ap}
use Rattle.std.specs.Prelude.{slice_index_or}
use Rattle.icode.specs.Plain.{plain_tables}

-- an entry that is there shows that its table is
pub table_is : (tables : List (Vec ℕ Global)) (i : ℕ) (t : Vec ℕ Global) →
    0 < length (slice_index_or (plain_tables tables) i []) → t ≡ get_or tables i t →
    slice_index_or (plain_tables tables) i [] ≡ t.items
table_is [] i t some e = absurd (omega arith)
table_is (x ∷ tables) zero t some e = ap (λ (v : Vec ℕ Global). v.items) (sym e)
table_is (x ∷ tables) (suc i) t some e = table_is tables i t some e
