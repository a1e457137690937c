use Rattle.std.proofs.Common.{◌≡◌, take, map}
use Rattle.icode.specs.Plain.{plain_phases}
use Rattle.word_code.specs.Setting.{quick_phase_in}
use Rattle.word_code.specs.Views.{plain_word_phases}
use Rattle.word_code.proofs.quicken.quicken_phases.Given as goal

abbrev pub invariant-loop-body : goal.invariant-loop-body
invariant-loop-body l = plain_word_phases l.made.items ≡ map (quick_phase_in l.setting) (plain_phases (take l.body-index l.phases))
