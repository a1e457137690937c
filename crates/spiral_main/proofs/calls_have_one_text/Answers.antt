use Rattle.spiral_main.proofs.Calls.{one_text}
use Rattle.spiral_main.proofs.calls_have_one_text.Goals as goal

pub returns : goal.returns
returns c = one_text
