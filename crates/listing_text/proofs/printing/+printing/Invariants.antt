use Rattle.std.proofs.Common.{◌≡◌, ◌++◌, drop, map}
use Rattle.icode.specs.Plain.{parts_of, plain_expr, plain_part}
use Rattle.listing_text.specs.Listing.{sum_with, parts_with}
use Rattle.listing_text.proofs.printing.+printing.Given as goal

abbrev pub invariant-put_sum-loop-part : goal.invariant-put_sum-loop-part
invariant-put_sum-loop-part l = l.out.items ++ parts_with l.mark (parts_of (map plain_part (drop l.part-index l.part-items))) ≡ l.fn.out.items ++ sum_with l.mark (plain_expr l.place)
