use Rattle.std.proofs.Common.{append_assoc}
use Rattle.std.proofs.lemmas.Result.{IfOk-equal}
use Rattle.listing_text.proofs.printing.put_header.Goals as goal

pub returns : goal.returns
returns c = IfOk-equal c.put_numbers.result _ _ _ c.put_numbers.ensures (simp append_assoc)
