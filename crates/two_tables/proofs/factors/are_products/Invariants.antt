use Rattle.std.proofs.Common.{◌≡◌, ◌-◌, length}
use Rattle.std.specs.List.{list_all, range_with_len}
use Rattle.two_tables.specs.Factors.{is_product_at}
use Rattle.two_tables.specs.Views.{plain_cut}
use Rattle.two_tables.proofs.factors.are_products.Given as goal

abbrev pub invariant-loop-at : goal.invariant-loop-at
invariant-loop-at l =
    list_all (is_product_at l.modulus (plain_cut l.cut) l.first l.second l.entries) (range_with_len l.at (length l.entries - l.at))
    ≡ list_all (is_product_at l.modulus (plain_cut l.cut) l.first l.second l.entries) (range_with_len 0 (length l.entries))
