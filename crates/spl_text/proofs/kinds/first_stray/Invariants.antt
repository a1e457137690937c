use Rattle.std.proofs.Common.{◌≡◌, ◌<◌, ℕ, take, drop, length, get_or, false, []}
use Rattle.spl_text.specs.Fault.{is_among, first_stray}
use Rattle.spl_text.proofs.kinds.first_stray.Given as goal

abbrev pub invariant-loop-i : goal.invariant-loop-i
invariant-loop-i l = record {
  long : length l.seen.items ≡ length l.places;
  known : (v : ℕ) → v < length l.places → get_or l.seen.items v false ≡ is_among v (take l.i l.places);
  same : first_stray (length l.places) (take l.i l.places) (drop l.i l.places)
      ≡ first_stray (length l.places) [] l.places;
}
