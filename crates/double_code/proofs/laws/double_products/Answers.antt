use Rattle.double_code.proofs.Products.{double_products}
use Rattle.double_code.proofs.laws.double_products.Goals as goal

pub returns : goal.returns
returns c = double_products
