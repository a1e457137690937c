-- A program that is not on these lanes stays as it is.
use Rattle.std.proofs.Common.{◌≡◌, ◌≢◌, ℕ, ◌*◌, Bool, true, false, map, refl, sym, ap, ◌∙◌}
use Rattle.std.specs.Prelude.{if◌then◌else◌}
use Rattle.icode.specs.Plain.{PlainProgram}
use Rattle.loop_lanes.specs.Lanes.{can_be_laned, laned, laned_body}
use Rattle.fast_main.specs.Translation.{laned_if_coalesced, on_several}

module _ (v : ℕ) (p : PlainProgram) where
  abbrev pub laned_by : Bool → PlainProgram
  laned_by b =
      if b then record p { lanes = v; regs = 3 * p.regs; phases = map (laned_body v p.regs) p.phases } else p

  cannot_from : (laned v p).lanes ≢ v → can_be_laned v p ≡ false
  cannot_from other = by_test (can_be_laned v p) refl other
    where
      by_test : (b : Bool) → can_be_laned v p ≡ b → (laned_by b).lanes ≢ v → can_be_laned v p ≡ false
      by_test true e other = absurd (other refl)
      by_test false e other = e

  -- its lanes are those of the program with its loops coalesced, if there are any
  pub several_coalesced : (there made : PlainProgram) → there ≡ laned v p → there.lanes ≢ v →
      made ≡ laned_if_coalesced v there → made ≡ on_several v p
  several_coalesced there made lane other is =
      let cannot = cannot_from (λ e. other (ap (λ (z : PlainProgram). z.lanes) lane ∙ e)) in
      is ∙ ap (laned_if_coalesced v) (lane ∙ ap laned_by cannot)
      ∙ ap (λ b. if b then laned v p else laned_if_coalesced v p) (sym cannot)
