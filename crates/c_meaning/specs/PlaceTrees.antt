-- The trees of places.
use Rattle.std.specs.Prelude.{ℕ, codes}
use Rattle.icode.specs.Plain.{PlainExpr, PlainParts, PlainPart, Sum, NoParts, AndParts, Proc, Var, Product, Rem, Quot}
use Rattle.c_meaning.specs.Types.{Bare}
use Rattle.c_meaning.specs.Syntax.{Name, word, numbered, Times, Over, Modulo, Plus, Tight, CExpr, Constant, Named, Grouped, Two}

-- the parameter of a phase: the processor's number
abbrev pub processor : Name
processor = word (codes "q")

-- the variable of the loop at this depth
abbrev pub loop_variable : ℕ → Name
loop_variable depth = numbered (codes "v") depth

abbrev pub times : CExpr → ℕ → CExpr
times left factor = Two Times Tight left (Constant factor Bare)

-- the constant and the parts, added up from the left
abbrev mutual
  pub place_tree : PlainExpr → CExpr
  place_tree (Sum constant parts) = with_parts (Constant constant Bare) parts

  pub with_parts : CExpr → PlainParts → CExpr
  with_parts left NoParts = left
  with_parts left (AndParts part rest) = with_parts (Two Plus Tight left (part_tree part)) rest

  pub part_tree : PlainPart → CExpr
  part_tree (Proc factor) = times (Named processor) factor
  part_tree (Var depth factor) = times (Named (loop_variable depth)) factor
  part_tree (Product outer inner factor) =
      times (Two Times Tight (Named (loop_variable outer)) (Named (loop_variable inner))) factor
  part_tree (Rem of divisor factor) = times (Two Modulo Tight (Grouped (place_tree of)) (Constant divisor Bare)) factor
  part_tree (Quot of divisor factor) = times (Two Over Tight (Grouped (place_tree of)) (Constant divisor Bare)) factor
