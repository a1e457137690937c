use Rattle.std.proofs.Common.{sym, subst, arith}
use Rattle.spl_text.specs.Reader.{Says}
use Rattle.spl_text.proofs.Readers.{formula_step}
use Rattle.spl_text.proofs.reading.+reading.Goals as goal

pub read_formula-returns : goal.read_formula-returns
read_formula-returns t c =
    subst (λ r. Says c.read_part.result c.read_part.new.cursor r)
    (sym (formula_step c.args.depth c.left-place.result c.args.cursor.now c.head_of.new.cursor c.in_ok-head.head (omega arith) c.left-place.ensures c.in_ok-head.ensures.gives))
    c.read_part.ensures
