use Rattle.std.proofs.Common.{◌≡◌, ◌+◌, drop, map}
use Rattle.icode.specs.Plain.{parts_of, plain_expr, plain_part}
use Rattle.icode.specs.Limits.{sum_parts, all_parts}
use Rattle.listing_text.proofs.limits.+counts.Given as goal

abbrev pub invariant-left_of-loop-part : goal.invariant-left_of-loop-part
invariant-left_of-loop-part l = l.parts + all_parts (parts_of (map plain_part (drop l.part-index l.part-items))) ≡ l.left + sum_parts (plain_expr l.place)
