-- Passes as statements: loops round bodies that load, compute and store.
use Rattle.std.specs.Prelude.{ℕ, zero, suc, ◌+◌, ◌==◌, Bool, true, false, if◌then◌else◌, List, [], ◌∷◌, length}
use Rattle.std.specs.Prelude.{slice_index, slice_index_or, Option, Some, None}
use Rattle.icode.specs.Plain.{PlainExpr, PlainOp, PlainBody, NoStmts, AndStmts, Loop, Do, Load, Store, Zero, Add}
use Rattle.icode.specs.Plain.{MulConst, MulTable, Tile, Sum, NoParts, AndParts, Var, Product, Rem}
use Rattle.icode.specs.declared.program.Array.{Array}
use Rattle.kernel_gen.specs.KernelOps.{op_of}
use Rattle.kernel_gen.specs.Kernel.{trees_kernel}
use Rattle.kernel_gen.specs.Making.{Made}
use Rattle.kernel_gen.specs.declared.straight.KernelOp.{KernelOp}
use Rattle.operators.specs.Sum.{list_below}
use Rattle.code_gen.specs.PassCode.Expressions.{expr_of}
use Rattle.operators.specs.declared.target.Target.{Target}
use Rattle.sigma_spl.specs.Shared.Machine.{PlainFrame, frame_of, loop_counts}
use Rattle.sigma_spl.specs.Nest.{PlainFactors, values, twiddles, repeated, spread, factor_count, factor_at}
use Rattle.sigma_spl.specs.Nest.{PlainMultiplier, PlainNest}
use Rattle.sigma_spl.specs.Work.{PlainWork, kernel, rows, horner, tile, copy, work_size, trees_of}
use Rattle.perm_algebra.specs.Affine.{constant}
use Rattle.perm_algebra.specs.Affine as affine
use Rattle.ring_mod.specs.Residue.{power_mod}

-- a body, and then another
abbrev pub followed_by : PlainBody → PlainBody → PlainBody
followed_by NoStmts ys = ys
followed_by (AndStmts x xs) ys = AndStmts x (followed_by xs ys)

-- a body in loops of these counts, the first the outermost
abbrev pub nested : List ℕ → PlainBody → PlainBody
nested [] body = body
nested (count ∷ counts) body = AndStmts (Loop count (nested counts body)) NoStmts

abbrev pub in_a_row : ℕ → (ℕ → PlainBody) → PlainBody
in_a_row zero body = NoStmts
in_a_row (suc n) body = followed_by (in_a_row n body) (body n)

-- ---- tables

abbrev pub is_table : List ℕ → List ℕ → Bool
is_table [] [] = true
is_table [] (y ∷ ys) = false
is_table (x ∷ xs) [] = false
is_table (x ∷ xs) (y ∷ ys) = if x == y then is_table xs ys else false

-- the number of a table among those that there are, or the next one where it is new
abbrev pub table_number : List (List ℕ) → List ℕ → ℕ
table_number [] entries = 0
table_number (table ∷ tables) entries = if is_table table entries then 0 else suc (table_number tables entries)

abbrev pub with_table : List (List ℕ) → List ℕ → List (List ℕ)
with_table [] entries = entries ∷ []
with_table (table ∷ tables) entries =
    if is_table table entries then table ∷ tables else table ∷ with_table tables entries

-- the powers of a root that work by rows uses
abbrev pub powers_of : ℕ → ℕ → ℕ → List ℕ
powers_of m root size = list_below size (power_mod m root)

abbrev pub diagonal_of : ℕ → PlainFactors → List ℕ
diagonal_of m factors = list_below (factor_count factors) (factor_at m factors)

-- the one factor of a diagonal that repeats it
abbrev pub one_factor : PlainFactors → Option ℕ
one_factor (values entries) = None
one_factor (twiddles r s root) = None
one_factor (repeated value count) = Some value
one_factor (spread path factors) = one_factor factors

-- such a diagonal has no table
abbrev pub with_diagonal : Option ℕ → List (List ℕ) → List ℕ → List (List ℕ)
with_diagonal None tables entries = with_table tables entries
with_diagonal (Some value) tables entries = tables

abbrev pub diagonal_number : Option ℕ → List (List ℕ) → List ℕ → ℕ
diagonal_number None tables entries = table_number tables entries
diagonal_number (Some value) tables entries = 0

-- the tables after those that a nest uses: its powers, and then its diagonal
abbrev pub tables_of_work : ℕ → PlainWork → List (List ℕ) → List (List ℕ)
tables_of_work m (rows root size) tables = with_table tables (powers_of m root size)
tables_of_work m (horner root size) tables = with_table tables (powers_of m root size)
tables_of_work m w tables = tables

abbrev pub tables_of_multiplier : ℕ → Option PlainMultiplier → List (List ℕ) → List (List ℕ)
tables_of_multiplier m None tables = tables
tables_of_multiplier m (Some d) tables = with_diagonal (one_factor d.factors) tables (diagonal_of m d.factors)

abbrev pub tables_of_nest : ℕ → PlainNest → List (List ℕ) → List (List ℕ)
tables_of_nest m z tables = tables_of_multiplier m z.multiplier (tables_of_work m z.work tables)

abbrev pub tables_after : ℕ → List PlainNest → List (List ℕ) → List (List ℕ)
tables_after m [] tables = tables
tables_after m (z ∷ zs) tables = tables_after m zs (tables_of_nest m z tables)

abbrev pub multiplier_number : ℕ → Option PlainMultiplier → List (List ℕ) → ℕ
multiplier_number m None tables = 0
multiplier_number m (Some d) tables = diagonal_number (one_factor d.factors) tables (diagonal_of m d.factors)

-- ---- statements of a nest

-- the place that the sum number i is, given how many loops are open
abbrev pub place_at : PlainFrame → ℕ → List affine.Sum → ℕ → PlainExpr
place_at f open_loops sums i = expr_of f open_loops (slice_index_or sums i (constant 0))

abbrev pub do_only : PlainOp → PlainBody
do_only op = AndStmts (Do op) NoStmts

-- a register is multiplied by the one factor, or by entries of
-- the table, which for lanes side by side stand so far apart
abbrev pub product_op : Option ℕ → ℕ → ℕ → ℕ → PlainExpr → ℕ → PlainOp
product_op None free from table place step = MulTable free from table place step
product_op (Some value) free from table place step = MulConst free from value

-- a register is stored, by way of a free one where it is multiplied
abbrev pub finish_body : PlainFrame → ℕ → Option PlainMultiplier → List affine.Sum → ℕ → ℕ → Array → ℕ → ℕ → ℕ →
    PlainBody
finish_body f step None scatters open_loops table target i from free =
    do_only (Store target (place_at f open_loops scatters i) from)
finish_body f step (Some d) scatters open_loops table target i from free =
    AndStmts (Do (product_op (one_factor d.factors) free from table (place_at f open_loops d.places i) step))
    (do_only (Store target (place_at f open_loops scatters i) free))

abbrev pub straight_body : List KernelOp → PlainBody
straight_body [] = NoStmts
straight_body (i ∷ code) = AndStmts (Do (op_of i)) (straight_body code)

abbrev pub loads_body : PlainFrame → PlainNest → ℕ → ℕ → Array → PlainBody
loads_body f z open_loops n source = in_a_row n (λ k. do_only (Load k source (place_at f open_loops z.gathers k)))

abbrev pub made_body : PlainFrame → PlainNest → ℕ → ℕ → Made → ℕ → Array → Array → PlainBody
made_body f z open_loops n made table source target =
    followed_by (loads_body f z open_loops n source)
    (followed_by (straight_body made.code)
    (in_a_row n (λ k.
    finish_body f 0 z.multiplier z.scatters open_loops table target k (slice_index made.outs k) (made.next + k))))

abbrev pub tile_body : PlainFrame → PlainNest → ℕ → ℕ → ℕ → Array → Array → PlainBody
tile_body f z open_loops v table source target =
    followed_by (loads_body f z open_loops v source)
    (AndStmts (Do (Tile v 0))
    (in_a_row v (λ k. finish_body f 1 z.multiplier z.scatters open_loops table target k (v + k) (v + v + k))))

-- the value of the loop at a depth
abbrev pub loop_value : ℕ → PlainExpr
loop_value depth = Sum 0 (AndParts (Var depth 1) NoParts)

-- the product of the values of the loops at two depths, modulo the size
abbrev pub product_place : ℕ → ℕ → PlainExpr
product_place depth size =
    Sum 0 (AndParts (Rem (Sum 0 (AndParts (Product depth (depth + 1) 1) NoParts)) size 1) NoParts)

-- an item times a power is added to register 0
abbrev pub term_body : PlainExpr → ℕ → Array → ℕ → ℕ → PlainBody
term_body input open_loops source powers size =
    AndStmts (Do (Load 1 source input))
    (AndStmts (Do (MulTable 2 1 powers (product_place open_loops size) 0)) (AndStmts (Do (Add 0 0 2)) NoStmts))

-- register 0 times a power, plus an item
abbrev pub horner_body : PlainExpr → ℕ → Array → ℕ → PlainBody
horner_body input open_loops source powers =
    AndStmts (Do (MulTable 1 0 powers (loop_value open_loops) 0))
    (AndStmts (Do (Load 2 source input)) (AndStmts (Do (Add 0 1 2)) NoStmts))

-- a loop over rows, and in it one over their terms
abbrev pub rows_body : PlainFrame → PlainNest → ℕ → ℕ → PlainBody → ℕ → Array → PlainBody
rows_body f z open_loops size turn table target =
    AndStmts
    (Loop size (AndStmts (Do (Zero 0))
    (AndStmts (Loop size turn) (finish_body f 0 z.multiplier z.scatters (open_loops + 1) table target 0 0 3))))
    NoStmts

abbrev pub items_body : PlainFrame → PlainNest → ℕ → ℕ → ℕ → Array → Array → PlainBody
items_body f z open_loops size table source target =
    in_a_row size (λ k.
    AndStmts (Do (Load 0 source (place_at f open_loops z.gathers k)))
    (finish_body f 0 z.multiplier z.scatters open_loops table target k 0 1))

abbrev pub work_body : Target → PlainNest → PlainWork → ℕ → ℕ → ℕ → Array → Array → PlainBody
work_body h z (kernel k) open_loops powers table source target =
    made_body (frame_of h z.work) z open_loops (work_size (kernel k)) (trees_kernel h.modulus (trees_of k)) table source
    target
work_body h z (rows root size) open_loops powers table source target =
    let f = frame_of h z.work in
    rows_body f z open_loops size
    (term_body (place_at f (open_loops + 2) z.gathers 0) open_loops source powers size) table target
work_body h z (horner root size) open_loops powers table source target =
    let f = frame_of h z.work in
    rows_body f z open_loops size (horner_body (place_at f (open_loops + 2) z.gathers 0) open_loops source powers)
    table target
work_body h z (tile lanes) open_loops powers table source target =
    tile_body (frame_of h z.work) z open_loops lanes table source target
work_body h z (copy size) open_loops powers table source target =
    items_body (frame_of h z.work) z open_loops size table source target

abbrev pub powers_number : ℕ → PlainWork → List (List ℕ) → ℕ
powers_number m (rows root size) tables = table_number tables (powers_of m root size)
powers_number m (horner root size) tables = table_number tables (powers_of m root size)
powers_number m w tables = 0

-- a nest, where these are the tables before it
abbrev pub nest_body : Target → PlainNest → List (List ℕ) → Array → Array → PlainBody
nest_body h z tables source target =
    let loops = loop_counts h z in
    nested loops (work_body h z z.work (length loops) (powers_number h.modulus z.work tables)
    (multiplier_number h.modulus z.multiplier (tables_of_work h.modulus z.work tables)) source target)

-- a pass: its nests in a row
abbrev pub pass_body : Target → List PlainNest → List (List ℕ) → Array → Array → PlainBody
pass_body h [] tables source target = NoStmts
pass_body h (z ∷ zs) tables source target =
    followed_by (nest_body h z tables source target) (pass_body h zs (tables_of_nest h.modulus z tables) source target)
