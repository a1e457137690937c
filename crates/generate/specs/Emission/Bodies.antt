-- The code of a pass: loops round its loads, its work, and its stores with their factors.
use Rattle.std.specs.Prelude.{ℕ, ◌+◌, ◌==◌, if◌then◌else◌, List, [], ◌∷◌, ◌++◌, drop, length, map, slice_index}
use Rattle.std.specs.List.{flat_map, range_with_len}
use Rattle.code_gen.specs.PassCode.Expressions.{factor_at}
use Rattle.icode.specs.Plain as code
use Rattle.icode.specs.Plain.{PlainExpr, PlainPart, PlainStmt, Loop, Do, Load, Store, Zero, Add, MulConst, MulTable}
use Rattle.icode.specs.Plain.{Tile, Proc, Var, Product, Rem, body_of, parts_of}
use Rattle.icode.specs.declared.program.Array.{Array}
use Rattle.kernel_gen.specs.KernelOps.{op_of}
use Rattle.kernel_gen.specs.Kernel.{trees_kernel}
use Rattle.matrix_meaning.specs.declared.Request.{Request}
use Rattle.perm_algebra.specs.Affine.{Sum, constant, variable, remainder}
use Rattle.perm_algebra.specs.Room.{constant_of}
use Rattle.tree_model.specs.Trees.{trees_size}
use Rattle.tree_model.specs.Whole.{rooted_of}
use Rattle.generate.specs.Emission.Passes.{Factors, Pass, Work, entries, kernel, none, number, rows, tile, work_size}
use Rattle.generate.specs.Emission.Places.{PlaceFunction}
use Rattle.generate.specs.Emission.Root.{lane_loops, processor_loops}
use Rattle.generate.specs.Emission.Tables.{number_of, powers_of, table_of}

-- a pass in its program: the arrays that it reads and writes, and all the program's tables
pub record Setting : Type 0 where
  pub request : Request
  pub pass : Pass
  pub source : Array
  pub target : Array
  pub tables : List (List ℕ)

-- ---- loops

-- the outer loops that are not written: processors and lanes are no loops in the code. Of a tile the lanes are none of
-- the pass's loops either
abbrev pub hidden : Request → Work → ℕ
hidden c (tile v) = length (processor_loops c)
hidden c w = length (lane_loops c)

abbrev pub loops : Setting → List ℕ
loops o = drop (hidden o.request o.pass.work) o.pass.site.counts

abbrev pub in_loops : List ℕ → List PlainStmt → List PlainStmt
in_loops [] stmts = stmts
in_loops (n ∷ counts) stmts = Loop n (body_of (in_loops counts stmts)) ∷ []

-- ---- places

abbrev pub at : ℕ → List PlainPart → PlainExpr
at c parts = code.Sum c (parts_of parts)

-- a part is written where its factor is not 0
abbrev pub part : (ℕ → PlainPart) → ℕ → List PlainPart
part named factor = if factor == 0 then [] else named factor ∷ []

-- the processor, and then the loops by rising depth. The lane has no part: a place is that of the first lane
abbrev pub variables : Setting → ℕ → Sum → List PlainPart
variables o depth e =
    (if o.request.procs == 1 then [] else part Proc (factor_at 0 e))
    ++ flat_map (λ d. part (Var d) (factor_at (hidden o.request o.pass.work + d) e)) (range_with_len 0 depth)

-- its remainders; a place has no quotient
abbrev pub remainders : Setting → ℕ → Sum → List PlainPart
remainders o depth (variable k d rest) = remainders o depth rest
remainders o depth (remainder k of n rest) =
    Rem (at (constant_of of) (variables o depth of ++ remainders o depth of)) n k ∷ remainders o depth rest
remainders o depth e = []

-- a place as an expression, given how many loops are open
abbrev pub expression : Setting → ℕ → Sum → PlainExpr
expression o depth e = at (constant_of e) (variables o depth e ++ remainders o depth e)

-- what the variables run below: a longer leaf has a loop for its rows, and in it one for their terms
abbrev pub limits : Pass → ℕ → ℕ
limits p = slice_index (p.site.counts ++ work_size p.work ∷ work_size p.work ∷ [])

-- where the place k of the work stands, given how many loops of the work are open
abbrev pub place : Setting → ℕ → PlaceFunction → Sum → PlainExpr
place o inner f k = expression o (length (loops o) + inner) (f (limits o.pass) k)

-- ---- loads and stores

abbrev pub load : Setting → ℕ → ℕ → Sum → PlainStmt
load o inner register k = Do (Load register o.source (place o inner o.pass.site.load k))

abbrev pub store : Setting → ℕ → Sum → ℕ → PlainStmt
store o inner k register = Do (Store o.target (place o inner o.pass.site.store k) register)

-- a tile has the words of its vectors on the lanes, so that their factors are entries side by side
abbrev pub step_of : Work → ℕ
step_of (tile v) = 1
step_of w = 0

-- a register is stored at the place k, by way of a free one that takes its product
abbrev pub finish : Setting → ℕ → Factors → Sum → ℕ → ℕ → List PlainStmt
finish o inner none k from free = store o inner k from ∷ []
finish o inner (number v) k from free = Do (MulConst free from v) ∷ store o inner k free ∷ []
finish o inner (entries diagonal f) k from free =
    let table = number_of o.tables (table_of o.request.modulus diagonal) in
    Do (MulTable free from table (place o inner f k) (step_of o.pass.work)) ∷ store o inner k free ∷ []

-- ---- bodies

-- loads into the first n registers, the code, and a store of each output
abbrev pub straight : Setting → ℕ → List PlainStmt → (ℕ → ℕ) → ℕ → List PlainStmt
straight o n stmts outs next =
    map (λ k. load o 0 k (constant k)) (range_with_len 0 n)
    ++ (stmts ++ flat_map (λ k. finish o 0 o.pass.site.factors (constant k) (outs k) (next + k)) (range_with_len 0 n))

-- a loop over rows k, and in it one over terms l, each by the power k*l of the root
abbrev pub by_rows : Setting → List ℕ → ℕ → List PlainStmt
by_rows o powers size =
    let d = length (loops o) in
    let k = variable 1 (length o.pass.site.counts) (constant 0) in
    let l = variable 1 (length o.pass.site.counts + 1) (constant 0) in
    let power = at 0 (Rem (at 0 (Product d (d + 1) 1 ∷ [])) size 1 ∷ []) in
    let term = load o 2 1 l ∷ Do (MulTable 2 1 (number_of o.tables powers) power 0) ∷ Do (Add 0 0 2) ∷ [] in
    Loop size (body_of (Do (Zero 0) ∷ Loop size (body_of term) ∷ finish o 1 o.pass.site.factors k 0 3)) ∷ []

abbrev pub body : Setting → Work → List PlainStmt
body o (kernel c t) =
    let made = trees_kernel o.request.modulus (rooted_of c t) in
    straight o (trees_size (rooted_of c t)) (map (λ i. Do (op_of i)) made.code) (slice_index made.outs) made.next
body o (rows root size) = by_rows o (powers_of o.request.modulus root size) size
body o (tile v) = straight o v (Do (Tile v 0) ∷ []) (λ k. v + k) (v + v)

abbrev pub pass_code : Setting → List PlainStmt
pass_code o = in_loops (loops o) (body o o.pass.work)
