-- Whole programs: tables, phases, and what they leave.
use Rattle.std.proofs.Common.{◌≡◌, ℕ, zero, suc, ◌<◌, List, [], ◌∷◌, true, ◌&&◌, Vec, Global, All, length, get_or, sym}
use Rattle.std.proofs.Common.{ap, ◌∙◌, subst, arith, ltb-true}
use Rattle.std.specs.Prelude.{nat_lt}
use Rattle.std.specs.List.{list_all}
use Rattle.icode.specs.declared.program.Stmt.{Stmt}
use Rattle.icode.specs.declared.program.Program.{Program}
use Rattle.icode.specs.Limits.{are_tables_within, are_phases_within, is_body_within}
use Rattle.icode.specs.Machine.{words_at, padded}
use Rattle.icode.specs.Plain.{plain_tables, plain_phases, plain_body}
use Rattle.icode.specs.Program.{plain_program, code_of}
use Rattle.icode.proofs.Bools.{both_true, item_passes}
use Rattle.icode.proofs.Lists.{code_is}
use Rattle.icode.proofs.Runs.{memory_of_runs}
use Rattle.word_code.specs.declared.program.WordProgram.{WordProgram}
use Rattle.word_code.specs.Bare.{WordsFit}
use Rattle.word_code.specs.Laws.{IsLazyWithin}
use Rattle.word_code.specs.Quicken.{PlainLaziness, quickened}
use Rattle.word_code.specs.Same.{LeavesTheSame, OrderIsFreeOf, FitsAs}
use Rattle.word_code.specs.Views.{plain_word_program}
use Rattle.word_code.specs.WordMachine.{word_results}
use Rattle.word_code.specs.WordProgram.{word_code}
use Rattle.word_code.proofs.Numbers.{quickened_fits}
use Rattle.word_code.proofs.Quickened.{quickened_is_same}

entries_below : (m : ℕ) (entries : List ℕ) → list_all (λ c. nat_lt c m) entries ≡ true → All (λ c. c < m) entries
entries_below m [] e k d lt = absurd (omega arith)
entries_below m (c ∷ entries) e zero d lt = ltb-true c m (both_true _ _ e).0
entries_below m (c ∷ entries) e (suc k) d lt = entries_below m entries (both_true _ _ e).1 k d (omega arith)

pub table_below : (m : ℕ) (tables : List (Vec ℕ Global)) (i : ℕ) (t : Vec ℕ Global) →
    are_tables_within m (plain_tables tables) ≡ true → i < length tables → t ≡ get_or tables i t →
    All (λ c. c < m) t.items
table_below m tables i t e lt is =
    let here = item_passes (λ entries. nat_lt 0 (length entries) && list_all (λ c. nat_lt c m) entries) (λ (t : Vec ℕ Global). t.items) tables i t e lt in
    let same = subst (λ (v : Vec ℕ Global). (nat_lt 0 (length v.items) && list_all (λ c. nat_lt c m) v.items) ≡ true) (sym is) here in
    entries_below m t.items (both_true _ _ same).1

pub phase_within : (m : ℕ) (phases : List (Vec Stmt Global)) (i : ℕ) (body : Vec Stmt Global) →
    are_phases_within m (plain_phases phases) ≡ true → i < length phases → body ≡ get_or phases i body →
    is_body_within m (plain_body body.items) 0 ≡ true
phase_within m phases i body e lt is =
    let all = (both_true (nat_lt 0 (length (plain_phases phases))) _ e).1 in
    subst (λ (b : Vec Stmt Global). is_body_within m (plain_body b.items) 0 ≡ true) (sym is)
    (item_passes (λ body. is_body_within m body 0) (λ (b : Vec Stmt Global). plain_body b.items) phases i body all lt)

pub same_from : (z : PlainLaziness) (words : WordProgram) (p : Program) →
    plain_word_program words ≡ quickened z (plain_program p) → IsLazyWithin z p.modulus → LeavesTheSame words p
same_from z words p made lazy fits x turns low =
    ap (λ w. word_results (word_code w) x turns) made
    ∙ quickened_is_same z (plain_program p) fits lazy (let a = p.header.of_modulus.0 in omega arith) p.header.of_line.0 x turns low

pub fits_from : (z : PlainLaziness) (words : WordProgram) (p : Program) →
    plain_word_program words ≡ quickened z (plain_program p) → IsLazyWithin z p.modulus → FitsAs words p
fits_from z words p made lazy fits =
    subst WordsFit (sym made) (quickened_fits z (plain_program p) fits lazy (let a = p.header.of_modulus.0 in omega arith))

pub order_from : (words : WordProgram) (p : Program) → LeavesTheSame words p → OrderIsFreeOf words p
order_from words p same fits apart x turns low =
    let is = code_is (plain_program p) in
    same fits x turns low
    ∙ ap (λ memory. words_at p.size memory (padded (code_of p))) (memory_of_runs (code_of p) is apart x turns ∙ sym (memory_of_runs (code_of p) is apart x []))
    ∙ sym (same fits x [] low)
