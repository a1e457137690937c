-- Programs that passes over loops make stand within the limits of programs.
use Rattle.std.proofs.Common.{◌≡◌, ℕ, zero, suc, ◌+◌, ◌*◌, ◌^◌, ◌<◌, ◌≤◌, ◌&&◌, ◌==◌, List, [], map, refl, arith}
use Rattle.std.proofs.Common.{ltb-true, lt-ltb}
use Rattle.std.specs.Prelude.{not, nat_lt, max, slice_index_or, Option, Some, None}
use Rattle.std.specs.List.{list_all}
use Rattle.std.proofs.Math.Nat.{max-le}
use Rattle.icode.specs.Limits.{IsHeaderWithin, IsWithinLimits}
use Rattle.icode.specs.Plain.{PlainBody, PlainProgram}
use Rattle.icode.proofs.Bools.{both_true}
use Rattle.nests.specs.Nests.{are_nests}
use Rattle.nests.proofs.Bools.{by_test, three_true}
use Rattle.interchange.specs.Interchanged.{interchanged, interchanged_body}
use Rattle.interchange.proofs.Limited as ordered
use Rattle.renumbered_registers.specs.Renumbered.{are_in_order, numbered_phases, registers_for, renumbered}
use Rattle.renumbered_registers.specs.Renumbered.{with_numbers}
use Rattle.renumbered_registers.proofs.Within as numbered
use Rattle.coalesced_loops.specs.Coalesced.{coalesced}
use Rattle.coalesced_loops.proofs.Steps as joined
use Rattle.loop_lanes.specs.Lanes.{IsLanes, are_lanable, can_be_laned, laned, laned_body}
use Rattle.loop_lanes.proofs.Limited as wide
use Rattle.fused_loops.specs.Fused.{fused, fused_phases, may_be_fused}
use Rattle.fused_loops.proofs.Programs.{fused-within}
use Rattle.two_tables.specs.Factors.{Cut, cut_of, first_factor, second_factor}
use Rattle.two_tables.specs.Factored.{factored_at, factored_from, in_factors, is_cut_well, may_be_split, split_at}
use Rattle.two_tables.proofs.Products.{what_splits}
use Rattle.two_tables.proofs.Programs.{may_can}
use Rattle.two_tables.proofs.Within.{tables_within, phases_within}

module _ (p : PlainProgram) (h : IsWithinLimits p) where
  -- its header with other registers
  with_registers : (regs : ℕ) → regs < 2 ^ 20 → IsHeaderWithin p.size p.modulus p.procs p.line p.lanes regs
  with_registers regs few =
      record {
        of_size = h.header.of_size;
        of_modulus = h.header.of_modulus;
        of_procs = h.header.of_procs;
        of_line = h.header.of_line;
        of_lanes = h.header.of_lanes;
        of_regs = few;
      }

  pub interchanged_within : IsWithinLimits (interchanged p)
  interchanged_within =
      by_test IsWithinLimits (list_all (are_nests p.lanes) p.phases)
      (record p { phases = map (interchanged_body p.lanes) p.phases }) p
      (λ nests. record {
        header = h.header;
        constants = h.constants;
        statements = ordered.phases-within p.modulus p.lanes p.phases h.statements;
      })
      (λ others. h)

  abbrev registers : ℕ
  registers = registers_for p.lanes p.phases

  numbers_within : registers < 2 ^ 20 → (o : Option (List PlainBody)) → numbered_phases p.lanes p.phases ≡ o →
      IsWithinLimits (with_numbers registers p o)
  numbers_within few None is = h
  numbers_within few (Some phases) is =
      let before = h.header.of_regs in
      let most : max p.regs registers ≤ 1048575 = max-le (omega (arith, before)) (omega (arith, few)) in
      record {
        header = with_registers (max p.regs registers) (omega (arith, most));
        constants = h.constants;
        statements = numbered.phases-within p.modulus p.lanes p.phases phases is (omega (arith, few)) h.statements;
      }

  pub renumbered_within : IsWithinLimits (renumbered p)
  renumbered_within =
      by_test IsWithinLimits
      (not (list_all (are_in_order p.lanes 0) p.phases) && nat_lt registers (2 ^ 20))
      (with_numbers registers p (numbered_phases p.lanes p.phases)) p
      (λ both.
      let few = (both_true (not (list_all (are_in_order p.lanes 0) p.phases)) (nat_lt registers (2 ^ 20)) both).1 in
      numbers_within (ltb-true registers (2 ^ 20) few) (numbered_phases p.lanes p.phases) refl)
      (λ stays. h)

  pub laned_within : (v : ℕ) → IsLanes v → IsWithinLimits (laned v p)
  laned_within v lanes =
      by_test IsWithinLimits (can_be_laned v p)
      (record p { lanes = v; regs = 3 * p.regs; phases = map (laned_body v p.regs) p.phases }) p
      (λ can.
      let parts = three_true (p.lanes == 1) (nat_lt (3 * p.regs) (2 ^ 20)) (list_all (are_lanable v) p.phases) can in
      let few : 3 * p.regs < 2 ^ 20 = ltb-true (3 * p.regs) (2 ^ 20) parts.1 in
      record {
        header = wide.header-within p.size p.modulus p.procs p.line p.lanes p.regs v lanes few h.header;
        constants = h.constants;
        statements = wide.phases-within p.modulus v p.regs p.phases lanes few parts.2 h.statements;
      })
      (λ cannot. h)

  pub coalesced_within : IsWithinLimits (coalesced p)
  coalesced_within =
      record {
        header = h.header;
        constants = h.constants;
        statements = joined.phases-within p.modulus p.phases h.statements;
      }

  pub fused_within : (least : ℕ) → IsWithinLimits (fused least p)
  fused_within least =
      by_test IsWithinLimits (may_be_fused least p) (record p { phases = fused_phases p.lanes p.phases }) p
      (λ may. record {
        header = h.header;
        constants = h.constants;
        statements = fused-within p.modulus p.lanes p.phases h.statements;
      })
      (λ stays. h)

  table_within : (least table : ℕ) → IsWithinLimits (factored_at least p table)
  table_within least table =
      by_test IsWithinLimits (may_be_split least p table cut && is_cut_well p table cut) (in_factors p table cut) p
      (λ both.
      let two = both_true (may_be_split least p table cut) (is_cut_well p table cut) both in
      let is = what_splits p table cut (may_can least table p cut two.0 two.1) in
      let usable = is.usable in
      let regs = usable.regs in
      record {
        header = with_registers (p.regs + 1) regs;
        constants = tables_within p.modulus p.tables table (first_factor cut entries) (second_factor cut entries)
            h.constants is.factors.first_small is.factors.second_small;
        statements = phases_within p.modulus p.lanes (split_at p table cut)
            (lt-ltb p.regs (2 ^ 32) (omega (arith, regs))) usable.tables usable.width usable.across p.phases
            usable.even h.statements;
      })
      (λ stays. h)
    where
      entries : List ℕ
      entries = slice_index_or p.tables table []

      cut : Cut
      cut = cut_of entries

pub factored_within : (least n table : ℕ) (p : PlainProgram) → IsWithinLimits p →
    IsWithinLimits (factored_from least n table p)
factored_within least zero table p h = h
factored_within least (suc n) table p h =
    factored_within least n (table + 1) (factored_at least p table) (table_within p h least table)
