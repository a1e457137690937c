use Rattle.double_code.proofs.Programs.{doubled_order_is_free}
use Rattle.double_code.proofs.laws.doubled_order_is_free.Goals as goal

pub returns : goal.returns
returns c = doubled_order_is_free
