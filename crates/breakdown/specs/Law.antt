-- What the formula of a tree means.
use Rattle.std.specs.Prelude.{◌≡◌, ℕ, ◌%◌, List}
use Rattle.matrix_meaning.specs.declared.Request.{Request}
use Rattle.matrix_meaning.specs.Asked.{asked_of}
use Rattle.matrix_meaning.specs.Valid.{IsValid}
use Rattle.tree_model.specs.Breakdown.{Breakdown, size_of}
use Rattle.tree_model.specs.Whole.{IsTreeOf, node_on}
use Rattle.spl_ast.specs.Formula.{Formula}
use Rattle.spl_ast.specs.Meaning.{apply}
use Rattle.breakdown.specs.Expansion.{expansion}

-- modulo the request's modulus, the formula does to a list what the tree does
abbrev pub IsNodeFormula : Request → Breakdown → Formula → Type 0
IsNodeFormula p t f = (x : List ℕ) → apply p.modulus f x ≡ node_on p t x

-- the formula is what the request asks for
abbrev pub IsAskedFormula : Request → Formula → Type 0
IsAskedFormula c f = (x : List ℕ) → apply c.modulus f x ≡ asked_of c x

-- the formula of each tree whose size divides that of the request does what the tree does
abbrev pub ExpansionIsTransform : Type 0
ExpansionIsTransform =
    (p : Request) (t : Breakdown) → IsValid p → IsTreeOf p t → p.size % size_of t ≡ 0 →
    IsNodeFormula p t (expansion p t)
