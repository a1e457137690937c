use Rattle.word_code.proofs.Products as law
use Rattle.word_code.proofs.laws.times_is_product.Goals as goal

pub returns : goal.returns
returns c = law.times_is_product
