use Rattle.std.proofs.Common.{◌≡◌, drop, map}
use Rattle.icode.specs.Plain.{parts_of, plain_expr, plain_part}
use Rattle.icode.specs.Limits.{is_sum_within, are_parts_within}
use Rattle.listing_text.proofs.limits.+limits.Given as goal

abbrev pub invariant-is_sum_within-loop-part : goal.invariant-is_sum_within-loop-part
invariant-is_sum_within-loop-part l = are_parts_within (parts_of (map plain_part (drop l.part-index l.part-items))) l.loops l.least ≡ is_sum_within (plain_expr l.place) l.loops
