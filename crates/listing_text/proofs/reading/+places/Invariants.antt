use Rattle.std.proofs.Common.{◌≡◌, ◌+◌, ◌-◌, ◌*◌, map}
use Rattle.icode.specs.Plain.{plain_part}
use Rattle.listing_text.specs.Reading.{part_at, inner_at, up_to_at}
use Rattle.listing_text.proofs.ReadParts.{in_front}
use Rattle.listing_text.proofs.reading.+places.Given as goal

abbrev pub decreases-read_place : goal.decreases-read_place
decreases-read_place l = 4 * l.depth + 3

abbrev pub decreases-parts_of : goal.decreases-parts_of
decreases-parts_of l = 4 * l.depth + 2

abbrev pub decreases-part_of : goal.decreases-part_of
decreases-part_of l = 4 * l.depth + 1

abbrev pub decreases-inner_of : goal.decreases-inner_of
decreases-inner_of l = 4 * l.depth

abbrev pub invariant-parts_of-loop : goal.invariant-parts_of-loop
invariant-parts_of-loop l = in_front (map plain_part l.parts.items) (up_to_at (64 - l.counter) (part_at (inner_at l.depth)) l.cursor) ≡ up_to_at 64 (part_at (inner_at l.depth)) l.fn.cursor
