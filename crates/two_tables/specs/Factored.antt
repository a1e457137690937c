-- Programs whose large tables are two small ones: a product by an entry is one by an entry of each.
use Rattle.std.specs.Prelude.{ℕ, zero, suc, ◌+◌, ◌^◌, ◌==◌, ◌&&◌, Bool, true, false, nat_lt, nat_le, List, [], ◌∷◌}
use Rattle.std.specs.Prelude.{◌++◌, map, length, slice_index_or, slice_set, if◌then◌else◌}
use Rattle.std.specs.List.{list_all}
use Rattle.icode.specs.Lengths.{len_of_body}
use Rattle.icode.specs.Limits.{is_small}
use Rattle.icode.specs.Plain.{PlainOp, PlainStmt, PlainBody, PlainProgram, MulTable, Loop, Do, NoStmts, AndStmts}
use Rattle.two_tables.specs.Factors.{Cut, first_factor, second_factor, are_factors, cut_of, is_cut}
use Rattle.two_tables.specs.Places.{is_even, place_in_first, place_in_second}

-- the first factor takes the place of a table, the second has a place of its own, and a register has the first product
pub record Split : Type 0 where
  pub cut : Cut
  pub table : ℕ
  pub second : ℕ
  pub register : ℕ

-- ---- statements

abbrev pub two_products : Split → PlainOp → List PlainStmt
two_products split (MulTable register source of place step) =
    Do (MulTable split.register source split.table (place_in_first split.cut place) 0)
    ∷ Do (MulTable register split.register split.second (place_in_second split.cut place) step) ∷ []
two_products split op = Do op ∷ []

-- the operation is a product by an entry of the table
abbrev pub multiplies_by : ℕ → PlainOp → Bool
multiplies_by table (MulTable register source of place step) = of == table
multiplies_by table op = false

abbrev pub factored_op : Split → PlainOp → List PlainStmt
factored_op split op = if multiplies_by split.table op then two_products split op else Do op ∷ []

abbrev pub put_before : List PlainStmt → PlainBody → PlainBody
put_before [] body = body
put_before (stmt ∷ stmts) body = AndStmts stmt (put_before stmts body)

abbrev mutual
  pub factored_stmt : Split → PlainStmt → List PlainStmt
  factored_stmt split (Loop count body) = Loop count (factored_body split body) ∷ []
  factored_stmt split (Do op) = factored_op split op

  pub factored_body : Split → PlainBody → PlainBody
  factored_body split NoStmts = NoStmts
  factored_body split (AndStmts stmt rest) = put_before (factored_stmt split stmt) (factored_body split rest)

-- ---- where it is done

-- entries of the table are used in groups of lanes, or are others
abbrev pub is_op_even : ℕ → ℕ → PlainOp → Bool
is_op_even lanes table (MulTable register source of place step) =
    if of == table then (nat_lt step 2 && is_even lanes place) else true
is_op_even lanes table op = true

abbrev mutual
  pub is_stmt_even : ℕ → ℕ → PlainStmt → Bool
  is_stmt_even lanes table (Loop count body) = is_body_even lanes table body
  is_stmt_even lanes table (Do op) = is_op_even lanes table op

  pub is_body_even : ℕ → ℕ → PlainBody → Bool
  is_body_even lanes table NoStmts = true
  is_body_even lanes table (AndStmts stmt rest) = is_stmt_even lanes table stmt && is_body_even lanes table rest

-- a phase with twice as many actions is short
abbrev pub is_short : PlainBody → Bool
is_short body = nat_lt (len_of_body body) (2 ^ 47)

-- there are lanes, and room for a register, a table and twice as many actions
abbrev pub has_room : PlainProgram → Bool
has_room p =
    nat_lt 1 p.lanes
    && (nat_lt (p.regs + 1) (2 ^ 20)
    && (is_small (length p.tables)
    && (nat_le p.procs 16 && (nat_le (length p.phases) 64 && list_all is_short p.phases))))

-- ---- programs

abbrev pub split_at : PlainProgram → ℕ → Cut → Split
split_at p table cut = record { cut = cut; table = table; second = length p.tables; register = p.regs }

abbrev pub in_factors : PlainProgram → ℕ → Cut → PlainProgram
in_factors p table cut =
    let entries = slice_index_or p.tables table [] in
    record p {
      regs = p.regs + 1;
      tables = slice_set p.tables table (first_factor cut entries) ++ second_factor cut entries ∷ [];
      phases = map (factored_body (split_at p table cut)) p.phases;
    }

-- there is room, and all uses of the table are in groups of lanes
abbrev pub is_usable : PlainProgram → ℕ → Cut → Bool
is_usable p table cut = has_room p && (is_cut p.lanes cut && list_all (is_body_even p.lanes table) p.phases)

-- the table has at least the least number of entries, too
abbrev pub may_be_split : ℕ → PlainProgram → ℕ → Cut → Bool
may_be_split least p table cut = nat_le least (length (slice_index_or p.tables table [])) && is_usable p table cut

-- the table is the product of what it is cut into
abbrev pub is_cut_well : PlainProgram → ℕ → Cut → Bool
is_cut_well p table cut =
    let entries = slice_index_or p.tables table [] in
    are_factors p.modulus cut (first_factor cut entries) (second_factor cut entries) entries

abbrev pub can_split : PlainProgram → ℕ → Cut → Bool
can_split p table cut = is_usable p table cut && is_cut_well p table cut

-- the program with this table in two factors, if it has the least number of entries and may be split
abbrev pub factored_at : ℕ → PlainProgram → ℕ → PlainProgram
factored_at least p table =
    let cut = cut_of (slice_index_or p.tables table []) in
    if may_be_split least p table cut && is_cut_well p table cut then in_factors p table cut else p

-- a number of tables from this one on, one after another
abbrev pub factored_from : ℕ → ℕ → ℕ → PlainProgram → PlainProgram
factored_from least zero table p = p
factored_from least (suc n) table p = factored_from least n (table + 1) (factored_at least p table)

-- all tables of the least number of entries or more
abbrev pub factored : ℕ → PlainProgram → PlainProgram
factored least p = factored_from least (length p.tables) 0 p

-- the entries of a large table, which the second cache does not hold beside the data
abbrev pub large_table : ℕ
large_table = 131072
