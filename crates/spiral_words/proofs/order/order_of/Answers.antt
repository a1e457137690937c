use Rattle.std.proofs.lemmas.Result.{err_from_is_err_and}
use Rattle.spiral_words.proofs.order.order_of.Goals as goal

pub returns-in_err-schedule-clause-usage : goal.returns-in_err-schedule-clause-usage
returns-in_err-schedule-clause-usage c =
    let p = err_from_is_err_and c.from_residual.result c.from_residual.ensures.1 in
    λ e. rw c.if-buffers.false (c.in_err-schedule.ensures.usage (let q = p.1 in let r = p.2 in cc))
