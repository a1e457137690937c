use Rattle.spiral_main.proofs.Lines as laws
use Rattle.spiral_main.proofs.inputs.open_lines_leave_nothing.Goals as goal

pub returns : goal.returns
returns c = laws.open_lines_leave_nothing
