-- What a lane of an operation computes, and what it leaves.
use Rattle.std.specs.Prelude.{◌≡◌, ℕ, ◌+◌, ◌*◌, ◌^◌, ◌<◌, ◌≤◌, List, codes, pos, slice_index_or}
use Rattle.icode.specs.Plain.{PlainProgram}
use Rattle.ring_mod.specs.Residue.{sum_mod, difference_mod, negation_mod, product_mod}
use Rattle.c_meaning.specs.Syntax.{Name, CExpr}
use Rattle.c_meaning.specs.Numbers.{Undefined, Defined}
use Rattle.c_meaning.specs.Scopes.{Words, with_word}
use Rattle.c_meaning.specs.Expressions.{value_of}
use Rattle.c_meaning.specs.Statements.{assigned}
use Rattle.c_meaning.specs.ProgramTrees.{registers_name, number, register, call, lane_of}
use Rattle.c_meaning.specs.AddressLaws.{lane_scope}

-- the word of an array at a place is set, and is this number
abbrev pub Holds : Words → Name → ℕ → ℕ → Type 0
Holds words array place n = slice_index_or (words array) place Undefined ≡ Defined (pos n)

-- where lane l of two registers holds residues, the text of an operation on them has no undefined step, and gives their sum,
-- difference, negation and product with a factor
abbrev pub LanesCompute : Type 0
LanesCompute =
    (p : PlainProgram) (q : ℕ) (vs : List ℕ) (words : Words) (l x y a b factor : ℕ) →
    p.modulus < 2 ^ 62 → p.regs < 2 ^ 20 → p.lanes ≤ 16 → l < p.lanes → x < p.regs → y < p.regs →
    a < p.modulus → b < p.modulus → factor < p.modulus →
    Holds words registers_name (x * p.lanes + l) a → Holds words registers_name (y * p.lanes + l) b →
    let value = value_of (lane_scope p q vs l) words in
    (value (call (codes "add") (register x) (register y)) ≡ Defined (pos (sum_mod p.modulus a b)))
    × (value (call (codes "sub") (register x) (register y)) ≡ Defined (pos (difference_mod p.modulus a b)))
    × (value (call (codes "sub") (number 0) (register x)) ≡ Defined (pos (negation_mod p.modulus a)))
    × (value (call (codes "mul") (register x) (number factor)) ≡ Defined (pos (product_mod p.modulus a factor)))

-- a statement by which lane l of a register becomes a value that is a word leaves the value there, and changes nothing else
abbrev pub LanesBecome : Type 0
LanesBecome =
    (p : PlainProgram) (q : ℕ) (vs : List ℕ) (words : Words) (l r n : ℕ) (value : CExpr) →
    p.regs < 2 ^ 20 → p.lanes ≤ 16 → l < p.lanes → r < p.regs → n < 2 ^ 64 →
    value_of (lane_scope p q vs l) words value ≡ Defined (pos n) →
    assigned (lane_scope p q vs l) registers_name (lane_of r) value words
    ≡ Defined (with_word registers_name (r * p.lanes + l) (pos n) words)
