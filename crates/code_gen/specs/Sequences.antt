-- Nests, passes and phases in a row: their statements, after these tables, and their registers.
use Rattle.std.specs.Prelude.{ℕ, List, map, Vec}
use Rattle.std.proofs.Common.{Global}
use Rattle.icode.specs.Plain.{PlainBody}
use Rattle.icode.specs.declared.program.Array.{Array}
use Rattle.code_gen.specs.PassActions.Acts.{nest_registers, pass_registers}
use Rattle.code_gen.specs.PassCode.Program.{array_after, most_of, most_of_phases, phase_body, phases_body}
use Rattle.code_gen.specs.PassCode.Statements.{nest_body, pass_body}
use Rattle.sigma_spl.specs.Views.{plain_nest}
use Rattle.sigma_spl.specs.declared.nest.Nest.{Nest}
use Rattle.code_gen.specs.Additions.{Tables}
use Rattle.code_gen.specs.Views.{plain_host, plain_passes, plain_phases, tables_in}
use Rattle.code_gen.specs.declared.program.Start.{Start}
use Rattle.code_gen.specs.declared.host.Host.{Host}

-- ---- statements

-- a nest from one array to another
abbrev pub nest_between : Host → Nest → Tables → Array → Array → PlainBody
nest_between host nest tables source target =
    nest_body (plain_host host) (plain_nest nest) (tables_in tables) source target

-- a pass from one array to another: its nests in a row
abbrev pub pass_between : Host → List Nest → Tables → Array → Array → PlainBody
pass_between host nests tables source target =
    pass_body (plain_host host) (map plain_nest nests) (tables_in tables) source target

-- passes in a row, from this start on
abbrev pub passes_from : Start → Host → List (Vec Nest Global) → Tables → PlainBody
passes_from start host passes tables =
    let ps = plain_passes passes in
    phase_body (plain_host host) start.after ps start.number (tables_in tables) start.source

-- the array that the last of passes in a row writes, or the source where there are none
abbrev pub array_from : Start → List (Vec Nest Global) → Array
array_from start passes = array_after start.after (plain_passes passes) start.number start.source

-- phases in a row, of which the first pass has this number and reads this array
abbrev pub phases_from : ℕ → Array → Host → List (Vec (Vec Nest Global) Global) → Tables →
    List PlainBody
phases_from number source host phases tables =
    phases_body (plain_host host) (plain_phases phases) number (tables_in tables) source

-- ---- registers

-- how many registers a nest uses
abbrev pub registers_of_nest : Host → Nest → ℕ
registers_of_nest host nest = let z = plain_nest nest in nest_registers host.modulus z z.work

-- the most that a nest uses of a pass, of passes in a row, and of phases
abbrev pub registers_of_pass : Host → List Nest → ℕ
registers_of_pass host nests = pass_registers host.modulus (map plain_nest nests)

abbrev pub registers_of_passes : Host → List (Vec Nest Global) → ℕ
registers_of_passes host passes = most_of (plain_host host) (plain_passes passes)

abbrev pub registers_of_phases : Host → List (Vec (Vec Nest Global) Global) → ℕ
registers_of_phases host phases = most_of_phases (plain_host host) (plain_phases phases)
