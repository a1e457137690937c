-- Tables of the code.
use Rattle.std.proofs.Common.{◌≡◌, ◌≢◌, ℕ, suc, ◌+◌, ◌<◌, Bool, List, [], ◌∷◌, ◌++◌, length, get_or, drop, Vec, Global}
use Rattle.std.proofs.Common.{sym, ap, ◌∙◌, arith, drop-cons, if◌then◌else◌}
use Rattle.std.proofs.lemmas.Bool.{false_from_ne_true}
use Rattle.std.proofs.lemmas.List.{length-map, map-append}
use Rattle.icode.specs.Plain.{plain_tables}
use Rattle.code_gen.specs.PassCode.Statements.{is_table, table_number, with_table}
use Rattle.code_gen.proofs.PassCode.SharedTables.{is_table-Decides, with_table-new, with_table-old}

-- one more table in a search
pub find-step : (ts : List (Vec ℕ Global)) (entries : List ℕ) (k : ℕ) (t : Vec ℕ Global) → k < length ts →
    t ≡ get_or ts k t →
    table_number (plain_tables (drop k ts)) entries ≡ (if is_table t.items entries then 0 else suc
    (table_number (plain_tables (drop (k + 1) ts)) entries))
find-step ts entries k t below is =
    let next : k + 1 ≡ suc k = omega arith in
    ap (λ (us : List (Vec ℕ Global)). table_number (plain_tables us) entries) (drop-cons ts k t below)
    ∙ ap (λ (u : Vec ℕ Global). if is_table u.items entries then 0 else suc (table_number (plain_tables (drop (suc k) ts)) entries)) (sym is)
    ∙ ap (λ (j : ℕ). if is_table t.items entries then 0 else suc (table_number (plain_tables (drop j ts)) entries)) (sym next)

pub find-this : (ts : List (Vec ℕ Global)) (entries : List ℕ) (k : ℕ) (t : Vec ℕ Global) → k < length ts →
    t ≡ get_or ts k t → t.items ≡ entries → table_number (plain_tables (drop k ts)) entries ≡ 0
find-this ts entries k t below is same =
    find-step ts entries k t below is ∙ ap (λ (b : Bool). if b then 0 else suc (table_number (plain_tables (drop (k + 1) ts)) entries)) ((is_table-Decides t.items entries).1 same)

pub find-other : (ts : List (Vec ℕ Global)) (entries : List ℕ) (k : ℕ) (t : Vec ℕ Global) → k < length ts →
    t ≡ get_or ts k t → t.items ≢ entries → table_number (plain_tables (drop k ts)) entries
    ≡ suc (table_number (plain_tables (drop (k + 1) ts)) entries)
find-other ts entries k t below is other =
    find-step ts entries k t below is
    ∙ ap (λ (b : Bool). if b then 0 else suc (table_number (plain_tables (drop (k + 1) ts)) entries)) (false_from_ne_true (is_table t.items entries) (λ e. other ((is_table-Decides t.items entries).0 e)))

-- a new table is added, and one that is there is not
pub shared-new : (old new : List (Vec ℕ Global)) (entries : Vec ℕ Global) →
    table_number (plain_tables old) entries.items ≡ length old → new ≡ old ++ entries ∷ [] →
    plain_tables new ≡ with_table (plain_tables old) entries.items
shared-new old new entries number is =
    ap plain_tables is ∙ map-append (λ (t : Vec ℕ Global). t.items) old (entries ∷ [])
    ∙ sym (with_table-new (plain_tables old) entries.items (number ∙ sym (length-map old (λ (t : Vec ℕ Global). t.items))))

pub shared-old : (old : List (Vec ℕ Global)) (entries : Vec ℕ Global) →
    table_number (plain_tables old) entries.items ≢ length old →
    plain_tables old ≡ with_table (plain_tables old) entries.items
shared-old old entries number =
    sym (with_table-old (plain_tables old) entries.items (λ same. number (same ∙ length-map old (λ (t : Vec ℕ Global). t.items))))
