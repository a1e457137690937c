use Rattle.std.proofs.lemmas.Result.{err_from_is_err_and}
use Rattle.clap.specs.Words.{found_of, rows_of}
use Rattle.spiral_words.proofs.Nothing.{trace_nothing}
use Rattle.spiral_words.proofs.reading.trace_of.Goals as goal

pub returns-in_err-order-clause-usage : goal.returns-in_err-order-clause-usage
returns-in_err-order-clause-usage c =
    let p = err_from_is_err_and c.from_residual.result c.from_residual.ensures.1 in
    λ e. trace_nothing (rows_of (found_of c.args.options.now)) (c.in_err-order.ensures.usage (let q = p.1 in let r = p.2 in cc))
