use Rattle.c_meaning.proofs.ProgramTexts.{programs_are_trees}
use Rattle.c_meaning.proofs.ProgramGrammar.{phases_are_read}
use Rattle.c_meaning.proofs.ProgramScopes.{units_compute, phases_know}
use Rattle.c_meaning.proofs.laws.programs.Goals as goal

pub returns : goal.returns
returns _ = record { trees = programs_are_trees; grammar = phases_are_read; functions = units_compute; names = phases_know }
