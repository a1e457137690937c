use Rattle.std.proofs.Common.{sym, ◌∙◌}
use Rattle.icode.proofs.AtOnce.{from_start_at_once}
use Rattle.icode.proofs.BufferedCompletion.{busy_run, starts_busy, idle_past, past_idle}
use Rattle.icode.proofs.BufferedRuns.{memory_of_buffered}
use Rattle.icode.proofs.Lists.{code_is}
use Rattle.icode.proofs.Runs.{memory_of_runs}
use Rattle.icode.specs.Buffers.{Buffered, buffered_start, buffered_run}
use Rattle.icode.specs.Program.{plain_program, code_of}
use Rattle.icode.proofs.laws.buffers_are_free.Goals as goal

pub returns-clause-codes : goal.returns-clause-codes
returns-clause-codes c code is apart x events turns = memory_of_buffered code is apart x events ∙ sym (memory_of_runs code is apart x turns)

pub returns-clause-programs : goal.returns-clause-programs
returns-clause-programs c p apart x events turns =
    let is = code_is (plain_program p) in
    memory_of_buffered (code_of p) is apart x events ∙ sym (memory_of_runs (code_of p) is apart x turns)

pub returns-clause-settled : goal.returns-clause-settled
returns-clause-settled c code is x events =
    let b : Buffered = buffered_run code (buffered_start code x) events in
    let busy = busy_run code is events (buffered_start code x) (starts_busy code is x) in
    (idle_past code is b busy, λ ge q lt. past_idle code is b busy ge q)

pub returns-clause-extend : goal.returns-clause-extend
returns-clause-extend c code is x turns = from_start_at_once code is x turns
