use Rattle.commands.specs.Equations.Convolutions.{conv_planned}
use Rattle.commands.specs.Equations.Formulas.{written}
use Rattle.commands.specs.Equations.Front.{line}
use Rattle.commands.specs.Equations.Orders.{planned}
use Rattle.spiral_main.proofs.RightFront.{front_orders, orders_conv_plan, orders_plan}
use Rattle.spiral_main.proofs.RightLines.{ordered_conv_line, ordered_formula_line, ordered_line}
use Rattle.spiral_main.proofs.answers.right_lines_are_ordered.Goals as goal

pub returns-clause-requests : goal.returns-clause-requests
returns-clause-requests c = λ names bytes plan. (
  λ right. front_orders (line 256) (planned names) plan bytes right.short (orders_plan names bytes plan right),
  ordered_line names bytes plan,
)

pub returns-clause-lists : goal.returns-clause-lists
returns-clause-lists c = λ names bytes plan. (
  λ right. front_orders (line 256) (conv_planned names) plan bytes right.short (orders_conv_plan names bytes plan right),
  ordered_conv_line names bytes plan,
)

pub returns-clause-formulas : goal.returns-clause-formulas
returns-clause-formulas c = λ bytes formula. (
  λ right. front_orders (line 65536) written formula bytes right.short right.spells,
  ordered_formula_line bytes formula,
)
