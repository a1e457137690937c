use Rattle.runs.proofs.EventsAct.{completion_of_events}
use Rattle.runs.proofs.laws.event_completions_act.Goals as goal

pub returns : goal.returns
returns c = completion_of_events
