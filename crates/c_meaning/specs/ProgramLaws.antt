-- What the C text of a program is, and what its names stand for.
use Rattle.std.specs.Prelude.{◌≡◌, ℕ, ◌+◌, ◌^◌, ◌<◌, List, [], ◌∷◌, All, true, codes, pos}
use Rattle.icode.specs.Plain.{PlainBody, PlainProgram}
use Rattle.ring_mod.specs.Residue.{sum_mod, difference_mod, negation_mod, product_mod}
use Rattle.c_print.specs.CText.{c_text_of}
use Rattle.c_meaning.specs.Types.{Word}
use Rattle.c_meaning.specs.Syntax.{word, are_stmts_read_so}
use Rattle.c_meaning.specs.Numbers.{Defined}
use Rattle.c_meaning.specs.Scopes.{Scope, with_variable, with_array}
use Rattle.c_meaning.specs.Units.{unit_text, scope_of}
use Rattle.c_meaning.specs.PlaceTrees.{processor, loop_variable}
use Rattle.c_meaning.specs.PlaceLaws.{Knows}
use Rattle.c_meaning.specs.ProgramTrees.{phase_tree, unit_of, registers_name}

-- the text of a program is that of its tree
abbrev pub ProgramsAreTrees : Type 0
ProgramsAreTrees = (p : PlainProgram) → c_text_of p ≡ unit_text (unit_of p)

-- C's grammar reads the statements of its phases so
abbrev pub PhasesAreRead : Type 0
PhasesAreRead = (regs phase : ℕ) (body : PlainBody) → are_stmts_read_so (phase_tree regs phase body).body ≡ true

-- in the scope of a program's text the functions have no undefined step for residues, and return their sum, difference,
-- negation and product
abbrev pub UnitsCompute : Type 0
UnitsCompute =
    (p : PlainProgram) → p.modulus < 2 ^ 62 → (a b : ℕ) → a < p.modulus → b < p.modulus →
    let function = (scope_of (unit_of p)).function in
    (function (word (codes "add")) (pos a ∷ pos b ∷ []) ≡ Defined (pos (sum_mod p.modulus a b)))
    × (function (word (codes "sub")) (pos a ∷ pos b ∷ []) ≡ Defined (pos (difference_mod p.modulus a b)))
    × (function (word (codes "sub")) (pos 0 ∷ pos a ∷ []) ≡ Defined (pos (negation_mod p.modulus a)))
    × (function (word (codes "mul")) (pos a ∷ pos b ∷ []) ≡ Defined (pos (product_mod p.modulus a b)))

-- with the variables of loops from this depth on, which have these values
abbrev pub with_loops : ℕ → List ℕ → Scope → Scope
with_loops depth [] s = s
with_loops depth (v ∷ vs) s = with_loops (depth + 1) vs (with_variable Word (loop_variable depth) (pos v) s)

-- the scope of a phase on a processor, with its registers
abbrev pub phase_scope : PlainProgram → ℕ → Scope
phase_scope p q =
    with_array Word registers_name (p.regs ∷ p.lanes ∷ []) (with_variable Word processor (pos q) (scope_of (unit_of p)))

-- where a statement of a phase stands, places know the values of the open loops and of the processor
abbrev pub PhasesKnow : Type 0
PhasesKnow =
    (p : PlainProgram) (q : ℕ) (vs : List ℕ) → q < 2 ^ 64 → All (λ v. v < 2 ^ 64) vs →
    Knows (with_loops 0 vs (phase_scope p q)) vs q
