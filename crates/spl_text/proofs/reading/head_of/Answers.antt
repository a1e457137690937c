use Rattle.spl_text.proofs.Readers.{gives_shorter}
use Rattle.spl_text.proofs.reading.head_of.Goals as goal

pub returns-clause-shorter : goal.returns-clause-shorter
returns-clause-shorter c = gives_shorter c.one_of.result c.args.cursor.now c.one_of.new.self c.one_of.ensures
