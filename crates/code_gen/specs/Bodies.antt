-- The statements of a nest where it stands: frame, open loops, tables and arrays are the site's.
use Rattle.std.specs.Prelude.{◌≡◌, ℕ, ◌+◌, length, slice_index, Vec}
use Rattle.std.proofs.Common.{Global}
use Rattle.icode.specs.Plain.{PlainExpr, PlainOp, PlainBody, NoStmts, AndStmts, Do, Load}
use Rattle.icode.specs.declared.program.Stmt.{Stmt}
use Rattle.kernel_gen.specs.Kernels.{made_of}
use Rattle.kernel_gen.specs.declared.straight.Kernel.{Kernel}
use Rattle.sigma_spl.specs.Shared.Machine.{frame_of}
use Rattle.code_gen.specs.PassCode.Statements.{do_only, finish_body, followed_by, horner_body, in_a_row, items_body}
use Rattle.code_gen.specs.PassCode.Statements.{loads_body, made_body, one_factor, place_at, product_op, rows_body}
use Rattle.code_gen.specs.PassCode.Statements.{term_body, tile_body, work_body}
use Rattle.sigma_spl.specs.Views.{plain_multiplier, plain_nest}
use Rattle.sigma_spl.specs.declared.nest.Multiplier.{Multiplier}
use Rattle.sigma_spl.specs.declared.nest.Nest.{Nest}
use Rattle.code_gen.specs.Views.{body_in, plain_frame, plain_host}
use Rattle.code_gen.specs.declared.host.Host.{Host}
use Rattle.code_gen.specs.declared.site.Item.{Item}
use Rattle.code_gen.specs.declared.site.Site.{Site}

-- ---- statements one after another

-- the new statements are the old ones, and then this body
abbrev pub Appends : Vec Stmt Global → Vec Stmt Global → PlainBody → Type 0
Appends old new body = body_in new ≡ followed_by (body_in old) body

-- the new statements are the old ones, and then this operation
abbrev pub AppendsOp : Vec Stmt Global → Vec Stmt Global → PlainOp → Type 0
AppendsOp old new op = Appends old new (do_only op)

-- three operations, one after another
abbrev pub three_steps : PlainOp → PlainOp → PlainOp → PlainBody
three_steps a b c = AndStmts (Do a) (AndStmts (Do b) (AndStmts (Do c) NoStmts))

-- ---- loads and stores

-- the site has the frame of what the nest does on this machine
abbrev pub IsFramed : Host → Nest → Site → Type 0
IsFramed host nest site =
    plain_frame site.frame ≡ frame_of (plain_host host) (plain_nest nest).work

-- a number of the first registers are loaded
abbrev pub loads_at : Site → Nest → ℕ → PlainBody
loads_at site nest count =
    loads_body (plain_frame site.frame) (plain_nest nest) site.open_loops count site.source

-- an item times its factor, in its free register; for lanes side by side factors stand so far apart
abbrev pub product_at : Site → ℕ → Multiplier → Item → PlainOp
product_at site step multiplier item =
    let d = plain_multiplier multiplier in
    let place = place_at (plain_frame site.frame) site.open_loops d.places item.number in
    product_op (one_factor d.factors) item.free item.from site.table place step

-- an item is stored from a register, by way of a free one where the nest has a multiplier
abbrev pub stored_at : Site → ℕ → Nest → ℕ → ℕ → ℕ → PlainBody
stored_at site step nest number from free =
    let f = plain_frame site.frame in
    let z = plain_nest nest in
    let loops = site.open_loops in
    finish_body f step z.multiplier z.scatters loops site.table site.target number from free

-- ---- works

-- an item goes by way of register 0
abbrev pub copied_at : Site → Nest → ℕ → PlainBody
copied_at site nest number =
    let z = plain_nest nest in
    let place = place_at (plain_frame site.frame) site.open_loops z.gathers number in
    AndStmts (Do (Load 0 site.source place)) (stored_at site 0 nest number 0 1)

-- a number of items, one after the other
abbrev pub copies_at : Site → Nest → ℕ → PlainBody
copies_at site nest size =
    let f = plain_frame site.frame in
    items_body f (plain_nest nest) site.open_loops size site.table site.source site.target

-- the outputs of a kernel are stored; the registers after the kernel's are free
abbrev pub kernel_stores_at : Site → Nest → Kernel → PlainBody
kernel_stores_at site nest made =
    let outputs = made.outputs.items in
    in_a_row (length outputs) (λ k. stored_at site 0 nest k (slice_index outputs k) (made.regs + k))

-- a kernel's inputs are loaded, its code is run, and its outputs are stored
abbrev pub kernel_at : Site → Nest → Kernel → PlainBody
kernel_at site nest made =
    let f = plain_frame site.frame in
    let z = plain_nest nest in
    let code = made_of made in
    made_body f z site.open_loops made.inputs code site.table site.source site.target

-- the registers that a tile leaves are stored; those after them are free
abbrev pub tile_stores_at : Site → Nest → ℕ → PlainBody
tile_stores_at site nest lanes =
    in_a_row lanes (λ k. stored_at site 1 nest k (lanes + k) (lanes + lanes + k))

-- the rows of a tile are loaded, and its columns are stored
abbrev pub tile_at : Site → Nest → ℕ → PlainBody
tile_at site nest lanes =
    let f = plain_frame site.frame in
    tile_body f (plain_nest nest) site.open_loops lanes site.table site.source site.target

-- for each of a number of rows, register 0 is zero, takes as many turns, and is stored
abbrev pub rows_at : Site → Nest → ℕ → PlainBody → PlainBody
rows_at site nest size turn =
    let f = plain_frame site.frame in
    rows_body f (plain_nest nest) site.open_loops size turn site.table site.target

-- where a turn loads its item from, inside of both loops
abbrev pub turn_input : Site → Nest → PlainExpr
turn_input site nest =
    place_at (plain_frame site.frame) (site.open_loops + 2) (plain_nest nest).gathers 0

-- each row is the sum of its products
abbrev pub product_rows_at : Site → Nest → ℕ → PlainBody
product_rows_at site nest size =
    let input = turn_input site nest in
    rows_at site nest size (term_body input site.open_loops site.source site.powers size)

-- each row is a sum by Horner's rule
abbrev pub horner_rows_at : Site → Nest → ℕ → PlainBody
horner_rows_at site nest size =
    let input = turn_input site nest in
    rows_at site nest size (horner_body input site.open_loops site.source site.powers)

-- a copy of the nest's work
abbrev pub work_at : Host → Site → Nest → PlainBody
work_at host site nest =
    let h = plain_host host in
    let z = plain_nest nest in
    work_body h z z.work site.open_loops site.powers site.table site.source site.target
