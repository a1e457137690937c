-- A call that tells its faults by its status has them on one side.
use Rattle.std.proofs.Common.{◌≡◌, ◌≤◌, ◌⊎◌, ℕ, ◌∙◌, sym, arith, inl, inr}
use Rattle.std.proofs.lemmas.Bool.{cases_lt}
use Rattle.io_edge.specs.Faults.{Reports}
use Rattle.spiral_words.specs.declared.statuses.status.Status.{Status}
use Rattle.spiral_words.specs.declared.statuses.status.Status.TheVariants.{ReadFault, WriteFault}

other_fault : (status : Status) → status ≡ ReadFault → status ≡ WriteFault → ⊥
other_fault status read write = absurd (cc)

pub one_side_fails : (status : Status) (read read' write write' : ℕ) → Reports read read' (status ≡ ReadFault)
    → Reports write write' (status ≡ WriteFault) → (read' ≡ read) ⊎ (write' ≡ write)
one_side_fails status read read' write write' r w =
    elim (cases_lt read read') [
      | inl rose ↦
          elim (cases_lt write write') [
            | inl other ↦ absurd (other_fault status (r.told rose) (w.told other))
            | inr still ↦ inr (omega (arith, still, w.later))
          ]
      | inr still ↦ inl (omega (arith, still, r.later))
    ]
