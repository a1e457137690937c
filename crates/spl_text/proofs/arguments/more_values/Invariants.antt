use Rattle.std.proofs.Common.{◌≡◌, ◌-◌, ◌^◌, All, codes}
use Rattle.grammar.specs.Reading.{many_at, all_at, named_number_at}
use Rattle.grammar.proofs.Loop.{in_front}
use Rattle.spl_ast.specs.Shape.{IsRingValue}
use Rattle.spl_text.proofs.arguments.more_values.Given as goal

abbrev pub invariant-loop : goal.invariant-loop
invariant-loop l = record {
  gives : in_front l.values.items (many_at (l.most - l.counter) (named_number_at (codes ",") (2 ^ 62)) l.cursor)
      ≡ in_front l.fn.front.items (all_at (named_number_at (codes ",") (2 ^ 62)) l.fn.cursor);
  values : All IsRingValue l.values.items;
}
