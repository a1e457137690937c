use Rattle.std.proofs.Common.{map, string_bytes, ap}
use Rattle.clap.specs.Words.{app_of}
use Rattle.fast_main.proofs.OptionLemmas.Refused.{refused, taken, found}
use Rattle.fast_main.proofs.options.line.parsed.Goals as goal

pub returns-in-Ok-clause-taken : goal.returns-in-Ok-clause-taken
returns-in-Ok-clause-taken c = taken (app_of c.in_ok-line.line) _ _ c.in_ok-line.ensures (ap (map string_bytes) c.as_slice.ensures.value) c.in-Ok.ensures.kinds

pub returns-in-Ok-clause-found : goal.returns-in-Ok-clause-found
returns-in-Ok-clause-found c = found (app_of c.in_ok-line.line) _ _ c.in_ok-line.ensures (ap (map string_bytes) c.as_slice.ensures.value) c.in-Ok.matches c.in-Ok.ensures.matches

pub returns-in-Err-clause-refused : goal.returns-in-Err-clause-refused
returns-in-Err-clause-refused c = λ usage. refused (app_of c.in_ok-line.line) _ _ c.in_ok-line.ensures (ap (map string_bytes) c.as_slice.ensures.value) c.in-Err.error c.in-Err.ensures.kinds (λ memory. absurd (let ran_out = c.refusal_of.ensures.1 memory in cc))
