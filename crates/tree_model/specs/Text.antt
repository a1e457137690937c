-- How a tree is written: `leaf(2)`, or the rule and its parts, as in `ct(leaf(2),leaf(3))`.
use Rattle.std.specs.Prelude.{ℕ, ◌++◌, List, codes, decimal}
use Rattle.tree_model.specs.declared.tree.Rule.{Rule}
use Rattle.tree_model.specs.declared.tree.Rule.TheVariants.{Gt, Ct, Split, Dim}
use Rattle.tree_model.specs.Breakdown.{Breakdown, leaf, node}

abbrev pub rule_text : Rule → List ℕ
rule_text Gt = codes "gt"
rule_text Ct = codes "ct"
rule_text Split = codes "split"
rule_text Dim = codes "dim"

abbrev pub tree_text : Breakdown → List ℕ
tree_text (leaf d) = codes "leaf(" ++ decimal d ++ codes ")"
tree_text (node rule a b) = rule_text rule ++ codes "(" ++ tree_text a ++ codes "," ++ tree_text b ++ codes ")"
