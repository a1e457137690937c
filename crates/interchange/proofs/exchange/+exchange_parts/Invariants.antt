use Rattle.std.proofs.Common.{length}
use Rattle.interchange.proofs.exchange.+exchange_parts.Given as goal

abbrev pub decreases-exchange_parts : goal.decreases-exchange_parts
decreases-exchange_parts l = length l.parts.now
