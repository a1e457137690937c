-- What an action's effect needs.
use Rattle.std.specs.Prelude.{ℕ, ◌+◌, ◌≤◌}
use Rattle.ring_mod.specs.Residue.{sum_mod, difference_mod, product_mod}
use Rattle.icode.specs.declared.action.Action.{Action}
use Rattle.icode.specs.declared.action.Action.TheVariants.{Load, Store}
use Rattle.icode.specs.declared.arithmetic.Operation.{Operation}
use Rattle.icode.specs.declared.arithmetic.Operation.TheVariants.{Sum, Difference, Product}

abbrev pub operated : Operation → ℕ → ℕ → ℕ → ℕ
operated Sum m a b = sum_mod m a b
operated Difference m a b = difference_mod m a b
operated Product m a b = product_mod m a b

-- the words that the action names are there
abbrev pub AddressFits : ℕ → ℕ → Action → Type 0
AddressFits lanes span (Load r address) = address + lanes ≤ span
AddressFits lanes span (Store address r) = address + lanes ≤ span
AddressFits lanes span _ = Unit {0}
