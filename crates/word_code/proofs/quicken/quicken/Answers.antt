use Rattle.word_code.specs.Views.{lazy_of}
use Rattle.word_code.proofs.Wholes.{fits_from, same_from, order_from}
use Rattle.word_code.proofs.quicken.quicken.Goals as goal

pub returns-clause-fits : goal.returns-clause-fits
returns-clause-fits c = fits_from (lazy_of c.args.laziness) c.in_ok-words.words c.args.program.now c.in_ok-words.ensures c.requires.lazy

pub returns-clause-same : goal.returns-clause-same
returns-clause-same c = same_from (lazy_of c.args.laziness) c.in_ok-words.words c.args.program.now c.in_ok-words.ensures c.requires.lazy

pub returns-clause-order : goal.returns-clause-order
returns-clause-order c = order_from c.in_ok-words.words c.args.program.now (same_from (lazy_of c.args.laziness) c.in_ok-words.words c.args.program.now c.in_ok-words.ensures c.requires.lazy)
