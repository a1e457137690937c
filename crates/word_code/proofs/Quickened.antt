-- Quickened programs leave what programs leave.
use Rattle.std.proofs.Common.{◌≡◌}
use Rattle.icode.specs.Actions.{plain_code}
use Rattle.icode.specs.Machine.{results}
use Rattle.word_code.specs.Laws.{QuickenedIsSame}
use Rattle.word_code.specs.Quicken.{header_of, quickened}
use Rattle.word_code.specs.WordMachine.{word_results}
use Rattle.word_code.specs.WordProgram.{word_code}
use Rattle.word_code.proofs.Bare.{phases_cases}
use Rattle.word_code.proofs.Programs.{evenly_is_same}
use Rattle.word_code.proofs.Flow.{with_phases, alone_is_same}

pub quickened_is_same : QuickenedIsSame
quickened_is_same z p fits lazy pos line x turns low =
    phases_cases z (header_of p) p.procs p.phases
    (λ bodies. word_results (word_code (with_phases (quickened z p) bodies)) x turns ≡ results (plain_code p) x turns)
    (λ body one is. alone_is_same z p body one is fits lazy pos line x turns low)
    (evenly_is_same z p fits lazy pos line x turns low)
