use Rattle.serde_json.specs.View.{view}
use Rattle.plan_cert.proofs.Texts.{line_written}
use Rattle.plan_cert.proofs.writing.value_line.Goals as goal

pub returns : goal.returns
returns c =
    line_written (view c.args.value.now) c.in_ok-text.text.items c.push.new.self.items
    c.in_ok-text.ensures.text c.in_ok-text.ensures.utf8 c.in_ok-text.ensures.reads_back c.in_ok-push.ensures.items
