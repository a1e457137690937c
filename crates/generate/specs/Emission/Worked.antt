-- Programs by the rules of emission, written out: the texts of the specification, and one for each other rule.
use Rattle.std.specs.Prelude.{◌≡◌, ℕ, [], ◌∷◌}
use Rattle.icode.specs.Plain.{PlainProgram, Loop, Do, Load, Store, Zero, Add, Sub, MulConst, MulTable, Tile, Proc, Var}
use Rattle.icode.specs.Plain.{Product, Rem, body_of}
use Rattle.icode.specs.declared.program.Array.TheVariants.{X, Y, A, B}
use Rattle.matrix_meaning.specs.declared.Dimension.{Dimension}
use Rattle.matrix_meaning.specs.declared.Dimensions.TheVariants.{One, Two}
use Rattle.matrix_meaning.specs.declared.Kind.{Kind}
use Rattle.matrix_meaning.specs.declared.Kind.TheVariants.{Dft, Wht, Idft}
use Rattle.matrix_meaning.specs.declared.Request.{Request}
use Rattle.tree_model.specs.Breakdown.{leaf, node}
use Rattle.tree_model.specs.declared.tree.Rule.TheVariants.{Gt, Ct, Split, Dim}
use Rattle.generate.specs.Emission.Bodies.{at}
use Rattle.generate.specs.Emission.Whole.{emission}

-- a request with straight-line code up to this size
abbrev pub request : Kind → ℕ → ℕ → ℕ → ℕ → Request
request kind n m w unroll = record {
  kind = kind;
  size = n;
  modulus = m;
  root = w;
  dimensions = One;
  procs = 1;
  line = 1;
  lanes = 1;
  unroll = unroll;
  budget = 0;
  weight = 1;
}

-- dft 2 mod 15 root 4
abbrev pub two : PlainProgram
two = record {
  size = 2;
  modulus = 15;
  procs = 1;
  line = 1;
  lanes = 1;
  regs = 5;
  tables = [];
  phases = body_of (
      Do (Load 0 X (at 0 []))
      ∷ Do (Load 1 X (at 1 []))
      ∷ Do (Add 2 0 1)
      ∷ Do (MulConst 3 1 4)
      ∷ Do (Add 4 0 3)
      ∷ Do (Store Y (at 0 []) 2)
      ∷ Do (Store Y (at 1 []) 4)
      ∷ [])
      ∷ [];
}

-- dft 4 mod 17 root 4
abbrev pub four : PlainProgram
four = record {
  size = 4;
  modulus = 17;
  procs = 1;
  line = 1;
  lanes = 1;
  regs = 13;
  tables = [];
  phases = body_of (
      Do (Load 0 X (at 0 []))
      ∷ Do (Load 1 X (at 1 []))
      ∷ Do (Load 2 X (at 2 []))
      ∷ Do (Load 3 X (at 3 []))
      ∷ Do (Add 4 0 2)
      ∷ Do (Sub 5 0 2)
      ∷ Do (Add 6 1 3)
      ∷ Do (Sub 7 1 3)
      ∷ Do (MulConst 8 7 4)
      ∷ Do (Add 9 4 6)
      ∷ Do (Sub 10 4 6)
      ∷ Do (Add 11 5 8)
      ∷ Do (Sub 12 5 8)
      ∷ Do (Store Y (at 0 []) 9)
      ∷ Do (Store Y (at 1 []) 11)
      ∷ Do (Store Y (at 2 []) 10)
      ∷ Do (Store Y (at 3 []) 12)
      ∷ [])
      ∷ [];
}

-- dft 4 mod 17 root 4 procs 2 line 1
abbrev pub four_on_processors : PlainProgram
four_on_processors = record {
  size = 4;
  modulus = 17;
  procs = 2;
  line = 1;
  lanes = 1;
  regs = 6;
  tables = (1 ∷ 1 ∷ 1 ∷ 4 ∷ []) ∷ [];
  phases = body_of (
      Do (Load 0 X (at 0 (Proc 1 ∷ [])))
      ∷ Do (Load 1 X (at 2 (Proc 1 ∷ [])))
      ∷ Do (Add 2 0 1)
      ∷ Do (Sub 3 0 1)
      ∷ Do (MulTable 4 2 0 (at 0 (Proc 2 ∷ [])) 0)
      ∷ Do (Store A (at 0 (Proc 2 ∷ [])) 4)
      ∷ Do (MulTable 5 3 0 (at 1 (Proc 2 ∷ [])) 0)
      ∷ Do (Store A (at 1 (Proc 2 ∷ [])) 5)
      ∷ [])
      ∷ body_of (
      Do (Load 0 A (at 0 (Proc 1 ∷ [])))
      ∷ Do (Load 1 A (at 2 (Proc 1 ∷ [])))
      ∷ Do (Add 2 0 1)
      ∷ Do (Sub 3 0 1)
      ∷ Do (Store Y (at 0 (Proc 1 ∷ [])) 2)
      ∷ Do (Store Y (at 2 (Proc 1 ∷ [])) 3)
      ∷ [])
      ∷ [];
}

-- wht 4 mod 17 lanes 2
abbrev pub four_in_lanes : PlainProgram
four_in_lanes = record {
  size = 4;
  modulus = 17;
  procs = 1;
  line = 1;
  lanes = 2;
  regs = 4;
  tables = [];
  phases = body_of (
      Do (Load 0 X (at 0 []))
      ∷ Do (Load 1 X (at 2 []))
      ∷ Do (Tile 2 0)
      ∷ Do (Store A (at 0 []) 2)
      ∷ Do (Store A (at 2 []) 3)
      ∷ Do (Load 0 A (at 0 []))
      ∷ Do (Load 1 A (at 2 []))
      ∷ Do (Add 2 0 1)
      ∷ Do (Sub 3 0 1)
      ∷ Do (Store B (at 0 []) 2)
      ∷ Do (Store B (at 2 []) 3)
      ∷ Do (Load 0 B (at 0 []))
      ∷ Do (Load 1 B (at 2 []))
      ∷ Do (Tile 2 0)
      ∷ Do (Store A (at 0 []) 2)
      ∷ Do (Store A (at 2 []) 3)
      ∷ Do (Load 0 A (at 0 []))
      ∷ Do (Load 1 A (at 2 []))
      ∷ Do (Add 2 0 1)
      ∷ Do (Sub 3 0 1)
      ∷ Do (Store Y (at 0 []) 2)
      ∷ Do (Store Y (at 2 []) 3)
      ∷ [])
      ∷ [];
}

-- dft 6 mod 7 root 3 unroll 3
abbrev pub six_by_coprime : PlainProgram
six_by_coprime = record {
  size = 6;
  modulus = 7;
  procs = 1;
  line = 1;
  lanes = 1;
  regs = 13;
  tables = [];
  phases = body_of (
      Loop 2 (body_of (
      Do (Load 0 X (at 0 (Var 0 3 ∷ [])))
      ∷ Do (Load 1 X (at 2 (Var 0 3 ∷ [])))
      ∷ Do (Load 2 X (at 0 (Rem (at 4 (Var 0 3 ∷ [])) 6 1 ∷ [])))
      ∷ Do (Add 3 0 1)
      ∷ Do (Add 4 3 2)
      ∷ Do (MulConst 5 1 2)
      ∷ Do (Add 6 0 5)
      ∷ Do (MulConst 7 2 4)
      ∷ Do (Add 8 6 7)
      ∷ Do (MulConst 9 1 4)
      ∷ Do (Add 10 0 9)
      ∷ Do (MulConst 11 2 2)
      ∷ Do (Add 12 10 11)
      ∷ Do (Store A (at 0 (Var 0 3 ∷ [])) 4)
      ∷ Do (Store A (at 1 (Var 0 3 ∷ [])) 8)
      ∷ Do (Store A (at 2 (Var 0 3 ∷ [])) 12)
      ∷ []))
      ∷ Loop 3 (body_of (
      Do (Load 0 A (at 0 (Var 0 1 ∷ [])))
      ∷ Do (Load 1 A (at 3 (Var 0 1 ∷ [])))
      ∷ Do (Add 2 0 1)
      ∷ Do (Sub 3 0 1)
      ∷ Do (Store Y (at 0 (Rem (at 0 (Var 0 4 ∷ [])) 6 1 ∷ [])) 2)
      ∷ Do (Store Y (at 0 (Rem (at 3 (Var 0 4 ∷ [])) 6 1 ∷ [])) 3)
      ∷ []))
      ∷ [])
      ∷ [];
}

-- idft 3 mod 7 root 2 unroll 2
abbrev pub three_by_rows : PlainProgram
three_by_rows = record {
  size = 3;
  modulus = 7;
  procs = 1;
  line = 1;
  lanes = 1;
  regs = 4;
  tables = (1 ∷ 4 ∷ 2 ∷ []) ∷ [];
  phases = body_of (
      Loop 3 (body_of (
      Do (Zero 0)
      ∷ Loop 3 (body_of (
      Do (Load 1 X (at 0 (Var 1 1 ∷ [])))
      ∷ Do (MulTable 2 1 0 (at 0 (Rem (at 0 (Product 0 1 1 ∷ [])) 3 1 ∷ [])) 0)
      ∷ Do (Add 0 0 2)
      ∷ []))
      ∷ Do (MulConst 3 0 5)
      ∷ Do (Store Y (at 0 (Var 0 1 ∷ [])) 3)
      ∷ []))
      ∷ [])
      ∷ [];
}

-- dft 2x2 mod 5 root 4x4 unroll 2
abbrev pub two_by_two : PlainProgram
two_by_two = record {
  size = 4;
  modulus = 5;
  procs = 1;
  line = 1;
  lanes = 1;
  regs = 4;
  tables = [];
  phases = body_of (
      Loop 2 (body_of (
      Do (Load 0 X (at 0 (Var 0 2 ∷ [])))
      ∷ Do (Load 1 X (at 1 (Var 0 2 ∷ [])))
      ∷ Do (Add 2 0 1)
      ∷ Do (Sub 3 0 1)
      ∷ Do (Store A (at 0 (Var 0 2 ∷ [])) 2)
      ∷ Do (Store A (at 1 (Var 0 2 ∷ [])) 3)
      ∷ []))
      ∷ Loop 2 (body_of (
      Do (Load 0 A (at 0 (Var 0 1 ∷ [])))
      ∷ Do (Load 1 A (at 2 (Var 0 1 ∷ [])))
      ∷ Do (Add 2 0 1)
      ∷ Do (Sub 3 0 1)
      ∷ Do (Store Y (at 0 (Var 0 1 ∷ [])) 2)
      ∷ Do (Store Y (at 2 (Var 0 1 ∷ [])) 3)
      ∷ []))
      ∷ [])
      ∷ [];
}

abbrev pub twos : Dimension
twos = record { size = 2; root = 4 }

-- each is the emission of its request and its tree
pub record AreWorked : Type 0 where
  pub two_is : emission (request Dft 2 15 4 8) (leaf 2) ≡ two
  pub four_is : emission (request Dft 4 17 4 8) (node Ct (leaf 2) (leaf 2)) ≡ four
  pub four_on_processors_is :
      emission (record (request Dft 4 17 4 8) { procs = 2 }) (node Ct (leaf 2) (leaf 2)) ≡ four_on_processors
  pub four_in_lanes_is :
      emission (record (request Wht 4 17 0 8) { lanes = 2 }) (node Split (leaf 2) (leaf 2)) ≡ four_in_lanes
  pub six_by_coprime_is : emission (request Dft 6 7 3 3) (node Gt (leaf 2) (leaf 3)) ≡ six_by_coprime
  pub three_by_rows_is : emission (request Idft 3 7 2 2) (leaf 3) ≡ three_by_rows
  pub two_by_two_is :
      emission (record (request Dft 4 5 1 2) { dimensions = Two twos twos }) (node Dim (leaf 2) (leaf 2)) ≡ two_by_two
