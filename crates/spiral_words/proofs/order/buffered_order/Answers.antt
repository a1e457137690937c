use Rattle.std.proofs.lemmas.Result.{err_from_is_err_and}
use Rattle.spiral_words.proofs.order.buffered_order.Goals as goal

pub returns-in_err-mix-in-Err-Usage-clause-usage : goal.returns-in_err-mix-in-Err-Usage-clause-usage
returns-in_err-mix-in-Err-Usage-clause-usage c =
    let p = err_from_is_err_and c.from_residual.result c.from_residual.ensures.1 in
    λ e. (c.in-Err-Usage.ensures.usage (let q = c.in-Err-Usage.field-0-is in cc), c.in_err-mix-in-Err-Usage.ensures.usage (let q = p.1 in let r = p.2 in cc))
