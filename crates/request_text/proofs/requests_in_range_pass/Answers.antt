use Rattle.request_text.proofs.InRange.{judged_conv_ok, judged_ok, range_is_table}
use Rattle.request_text.proofs.Judged.{conv_in_range, passed_in_range}
use Rattle.request_text.proofs.requests_in_range_pass.Goals as goal

pub returns-clause-requests : goal.returns-clause-requests
returns-clause-requests c = λ text r l. (passed_in_range text r l, judged_ok r)

pub returns-clause-convolutions : goal.returns-clause-convolutions
returns-clause-convolutions c = λ text r l. (conv_in_range text r l, judged_conv_ok r)

pub returns-clause-limits : goal.returns-clause-limits
returns-clause-limits c = range_is_table
