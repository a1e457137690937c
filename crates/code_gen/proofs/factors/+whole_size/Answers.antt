use Rattle.std.proofs.Common.{ℕ, ◌*◌, sym, ap, ap₂, ◌∙◌}
use Rattle.operators.specs.Paths.Tensors.{Path, size_under}
use Rattle.code_gen.proofs.Diagonals.{grown-is}
use Rattle.code_gen.proofs.factors.+whole_size.Goals as goal

pub returns-in-Some : goal.returns-in-Some
returns-in-Some t c =
    let n : ℕ = c.args.size in
    ap₂ (λ a b. a * b) c.count.ensures c.whole_size.ensures
    ∙ grown-is c.in-Some.tensor.now (size_under c.in-Some.rest.now n)
    ∙ sym (ap (λ (path : Path). size_under path n) c.in-Some.ensures.cases.0)
