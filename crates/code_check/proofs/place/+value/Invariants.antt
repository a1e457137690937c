use Rattle.std.proofs.Common.{◌≡◌, ◌+◌, ◌^◌, ◌<◌, drop, map, length}
use Rattle.std.specs.Prelude.{IsTrue}
use Rattle.std.specs.List.{list_all}
use Rattle.icode.specs.Expression.{expr_numbers, parts_numbers}
use Rattle.icode.specs.Limits.{is_part_within}
use Rattle.icode.specs.Plain.{parts_of, plain_part}
use Rattle.code_check.proofs.place.+value.Given as goal

abbrev pub invariant-checked_value-loop-part : goal.invariant-checked_value-loop-part
invariant-checked_value-loop-part l =
    record {
      sum_so_far : l.sum + (parts_numbers (parts_of (map plain_part (drop l.part-index l.part-items))) l.values
          l.proc).value ≡ (expr_numbers l.place l.values l.proc).value;
      small : l.sum < 2 ^ 64;
      parts_fit : (expr_numbers l.place l.values l.proc).peak < 2 ^ 64 →
          (parts_numbers (parts_of (map plain_part (drop l.part-index l.part-items))) l.values l.proc).peak < 2 ^ 64;
      sum_fits : (expr_numbers l.place l.values l.proc).peak < 2 ^ 64 →
          (expr_numbers l.place l.values l.proc).value < 2 ^ 64;
      all_fit : (expr_numbers l.place l.values l.proc).value < 2 ^ 64 →
          (parts_numbers (parts_of (map plain_part (drop l.part-index l.part-items))) l.values l.proc).peak < 2 ^ 64 →
          (expr_numbers l.place l.values l.proc).peak < 2 ^ 64;
      parts_within : IsTrue (list_all (λ part. is_part_within (plain_part part) (length l.values))
          (drop l.part-index l.part-items));
    }
