use Rattle.std.proofs.Common.{◌^◌, ap, ◌∙◌}
use Rattle.std.specs.Prelude.{nat_lt}
use Rattle.icode.specs.Program.{plain_program}
use Rattle.nests.proofs.InPlace.{phase_length}
use Rattle.two_tables.proofs.room.is_short.Goals as goal

pub returns : goal.returns
returns c =
    ap (λ n. nat_lt n (2 ^ 47)) (c.len.ensures ∙ phase_length (plain_program c.args.program.now) c.args.phase c.args.program.now.header.of_procs.0)
