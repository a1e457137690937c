use Rattle.std.proofs.Common.{◌^◌, ap, sym, ◌∙◌, codes, ℕ, Result}
use Rattle.grammar.specs.Reading.{Place, named_number_at}
use Rattle.grammar.proofs.Loop.{reads_one, reads_none, reads_all}
use Rattle.spl_text.proofs.Bounds.{all_push}
use Rattle.spl_text.proofs.arguments.more_values.Goals as goal

item : Place ℕ → Result (ℕ × Place ℕ) ℕ
item = named_number_at (codes ",") (2 ^ 62)

pub returns-in-Err-clause-gives : goal.returns-in-Err-clause-gives
unfolding item
returns-in-Err-clause-gives c =
    rw c.give_up.ensures (reads_none item c.left-most.result c.loop.counter c.loop.cursor c.loop.values.items c.in-Err.stuck.left _ c.loop-test.true (ap item (sym c.fork-ahead.ensures) ∙ c.in-Err.ensures.gives) c.loop.invariant.gives)

pub loop-preserved : goal.loop-preserved
unfolding item
loop-preserved c = record {
  gives = rw c.in_ok-push-in-Ok.ensures.items (reads_one item c.left-most.result c.loop.counter c.loop.cursor c.next_value.new.cursor c.loop.values.items c.in-Ok.value _ c.loop-test.true (ap item (sym c.fork-ahead.ensures) ∙ c.in-Ok.ensures.gives) c.loop.invariant.gives);
  values = rw c.in_ok-push-in-Ok.ensures.items (all_push c.loop.values.items c.in-Ok.value c.loop.invariant.values c.in-Ok.ensures.value);
}

pub returns-clause-gives : goal.returns-clause-gives
unfolding item
returns-clause-gives c = reads_all item c.left-most.result c.loop.counter c.loop.cursor c.loop.values.items _ c.loop-test.false c.loop.invariant.gives
