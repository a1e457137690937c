-- Which words of A and of B are added up: those that are but multiplied may be as great as words of registers.
use Rattle.std.specs.Prelude.{ℕ, ◌==◌, ◌&&◌, ◌||◌, Bool, true, false, List, [], ◌∷◌, Option, Some, None, if◌then◌else◌}
use Rattle.icode.specs.declared.program.Array.TheVariants.{A, B}
use Rattle.icode.specs.Plain.{PlainOp, PlainStmt, PlainBody, Load, Store, Add, Sub, Neg, MulConst, MulTable, Loop, Do}
use Rattle.icode.specs.Plain.{NoStmts, AndStmts}
use Rattle.word_code.specs.declared.needs.Needs.{Needs}

abbrev pub no_needs : Needs
no_needs = record { of_a = false; of_b = false }

abbrev pub both_needs : Needs → Needs → Needs
both_needs n m = record { of_a = n.of_a || m.of_a; of_b = n.of_b || m.of_b }

-- ---- the arrays that are loaded from

abbrev pub loads_of : PlainOp → Needs
loads_of (Load register A place) = record { of_a = true; of_b = false }
loads_of (Load register B place) = record { of_a = false; of_b = true }
loads_of op = no_needs

abbrev mutual
  pub loads_of_stmt : PlainStmt → Needs
  loads_of_stmt (Loop count body) = loads_of_body body
  loads_of_stmt (Do op) = loads_of op

  pub loads_of_body : PlainBody → Needs
  loads_of_body NoStmts = no_needs
  loads_of_body (AndStmts stmt rest) = both_needs (loads_of_stmt stmt) (loads_of_body rest)

-- ---- statements that multiply: nothing is added up, and each store is of the product before it

-- the register of the last product
abbrev pub product_after : Option ℕ → PlainOp → Option ℕ
product_after last (MulConst register source factor) = Some register
product_after last (MulTable register source table place step) = Some register
product_after last op = last

abbrev pub is_register : Option ℕ → ℕ → Bool
is_register None register = false
is_register (Some last) register = last == register

abbrev pub is_multiplying : Option ℕ → PlainOp → Bool
is_multiplying last (Store array place register) = is_register last register
is_multiplying last (Add register left right) = false
is_multiplying last (Sub register left right) = false
is_multiplying last (Neg register source) = false
is_multiplying last op = true

abbrev mutual
  pub multiplies : Option ℕ → PlainStmt → Bool
  multiplies last (Loop count body) = multiply None body
  multiplies last (Do op) = is_multiplying last op

  pub multiply : Option ℕ → PlainBody → Bool
  multiply last NoStmts = true
  multiply last (AndStmts stmt rest) = multiplies last stmt && multiply (product_of last stmt) rest

  pub product_of : Option ℕ → PlainStmt → Option ℕ
  product_of last (Loop count body) = None
  product_of last (Do op) = product_after last op

-- ---- needs: outside of loops, whatever is loaded may be added up by a statement after it

abbrev pub needs_of_stmt : PlainStmt → Needs
needs_of_stmt (Loop count body) = if multiply None body then no_needs else loads_of_body body
needs_of_stmt (Do op) = loads_of op

-- some statement adds up words of the array
abbrev pub needs : PlainBody → Needs
needs NoStmts = no_needs
needs (AndStmts stmt rest) = both_needs (needs_of_stmt stmt) (needs rest)

-- what is needed from each statement on
abbrev pub needs_of_each : PlainBody → List Needs
needs_of_each NoStmts = []
needs_of_each (AndStmts stmt rest) = needs (AndStmts stmt rest) ∷ needs_of_each rest
