-- What is within the limits of listings: the entries of tables are residues, and so on.
use Rattle.std.proofs.Common.{◌≡◌, ℕ, zero, suc, ◌<◌, List, [], ◌∷◌, true, ◌&&◌, Vec, Global, All, length}
use Rattle.std.proofs.Common.{get_or, sym}
use Rattle.std.proofs.Common.{subst, arith, ltb-true}
use Rattle.std.specs.Prelude.{nat_lt}
use Rattle.std.specs.List.{list_all}
use Rattle.icode.specs.declared.program.Stmt.{Stmt}
use Rattle.icode.specs.Limits.{are_tables_within, are_phases_within, is_body_within}
use Rattle.icode.specs.Plain.{plain_tables, plain_phases, plain_body}
use Rattle.icode.proofs.Bools.{both_true, item_passes}

entries_below : (m : ℕ) (entries : List ℕ) → list_all (λ c. nat_lt c m) entries ≡ true → All (λ c. c < m) entries
entries_below m [] e k d lt = absurd (omega arith)
entries_below m (c ∷ entries) e zero d lt = ltb-true c m (both_true _ _ e).0
entries_below m (c ∷ entries) e (suc k) d lt = entries_below m entries (both_true _ _ e).1 k d (omega arith)

pub table_below : (m : ℕ) (tables : List (Vec ℕ Global)) (i : ℕ) (t : Vec ℕ Global) →
    are_tables_within m (plain_tables tables) ≡ true → i < length tables → t ≡ get_or tables i t →
    All (λ c. c < m) t.items
table_below m tables i t e lt is =
    let here = item_passes (λ entries. nat_lt 0 (length entries) && list_all (λ c. nat_lt c m) entries)
    (λ (t : Vec ℕ Global). t.items) tables i t e lt in
    let same = subst (λ (v : Vec ℕ Global).
    (nat_lt 0 (length v.items) && list_all (λ c. nat_lt c m) v.items) ≡ true) (sym is) here in
    entries_below m t.items (both_true _ _ same).1

pub phase_within : (m : ℕ) (phases : List (Vec Stmt Global)) (i : ℕ) (body : Vec Stmt Global) →
    are_phases_within m (plain_phases phases) ≡ true → i < length phases → body ≡ get_or phases i body →
    is_body_within m (plain_body body.items) 0 ≡ true
phase_within m phases i body e lt is =
    let all = (both_true (nat_lt 0 (length (plain_phases phases))) _ e).1 in
    subst (λ (b : Vec Stmt Global). is_body_within m (plain_body b.items) 0 ≡ true) (sym is)
    (item_passes (λ body. is_body_within m body 0) (λ (b : Vec Stmt Global). plain_body b.items) phases i body all lt)
