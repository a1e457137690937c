use Rattle.std.proofs.Common.{◌≡◌, take}
use Rattle.code_gen.specs.Additions.{AddsTablesOfPass}
use Rattle.code_gen.specs.Sequences.{pass_between, registers_of_pass}
use Rattle.code_gen.specs.Views.{body_in}
use Rattle.code_gen.proofs.nest.emit_pass.Given as goal

-- the nests so far
abbrev pub invariant-loop-nest : goal.invariant-loop-nest
invariant-loop-nest l =
    let nests = take l.nest-index l.nests in
    (body_in l.statements ≡ pass_between l.host nests l.fn.tables l.source l.target)
    × AddsTablesOfPass l.host nests l.fn.tables l.tables
    × (l.registers ≡ registers_of_pass l.host nests)
