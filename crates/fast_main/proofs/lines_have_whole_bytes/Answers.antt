use Rattle.fast_main.proofs.Faithful.{whole_lines_kept}
use Rattle.fast_main.proofs.lines_have_whole_bytes.Goals as goal

pub returns : goal.returns
returns c = λ lanes p count. whole_lines_kept lanes p count
