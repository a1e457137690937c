use Rattle.std.proofs.Common.{◌≡◌, List, map, sym, ap, arith, length, rules}
use Rattle.std.proofs.lemmas.List.{drop_all}
use Rattle.icode.specs.declared.program.Part.{Part}
use Rattle.icode.specs.Expression.{expr_numbers, parts_numbers}
use Rattle.icode.specs.Plain.{parts_of, plain_part}
use Rattle.icode.proofs.Expression.{expr_value_is, expr_peak_is, each_part_within}
use Rattle.code_check.proofs.place.+value.Goals as goal

-- nothing is added up yet
pub checked_value-loop-part-init : goal.checked_value-loop-part-init
checked_value-loop-part-init t c =
    let value = expr_value_is c.args.place.now c.args.values.now c.args.proc in
    let peak = expr_peak_is c.args.place.now c.args.values.now c.args.proc in
    record {
      sum_so_far = rw c.deref-part-items.ensures.value (sym value);
      small = search rules;
      parts_fit = λ h. rw c.deref-part-items.ensures.value (omega (arith, peak));
      sum_fits = λ h. omega (arith, peak);
      all_fit = rw c.deref-part-items.ensures.value (λ a b. omega (arith, peak));
      parts_within = rw c.deref-part-items.ensures.value (each_part_within c.args.place.now (length c.args.values.now) c.requires);
    }

pub checked_value-returns : goal.checked_value-returns
checked_value-returns t c =
    let inv = c.loop-part.invariant in
    let none = drop_all c.loop-part.part-index c.deref-part-items.result.now c.loop-part-test.false in
    let value = ap (λ (ps : List Part). (parts_numbers (parts_of (map plain_part ps)) c.args.values.now c.args.proc).value) none in
    let peak = ap (λ (ps : List Part). (parts_numbers (parts_of (map plain_part ps)) c.args.values.now c.args.proc).peak) none in
    let whole : c.loop-part.sum ≡ (expr_numbers c.args.place.now c.args.values.now c.args.proc).value = omega (arith, inv.sum_so_far, value) in
    (inv.all_fit (omega (arith, whole, inv.small)) (omega (arith, peak)), whole)
