-- Places in straight code.
use Rattle.std.specs.Prelude.{ℕ, zero, suc, ◌+◌, List, [], ◌∷◌, drop, replicate, nat_lt, if◌then◌else◌, slice_index, slice_set}
use Rattle.par_machine.specs.declared.cursor.Instruction.{Instruction}
use Rattle.par_machine.specs.declared.cursor.Instruction.TheVariants.{Act, Again}

-- a place, and the values of the loops, the outermost first
pub record Position : Type 0 where
  pub at : ℕ
  pub values : List ℕ

-- where a cursor comes to rest before these instructions, the first of which has this place: at an action, after
-- loops that have ended, or at the start of one that goes on
abbrev pub resting : List Instruction → ℕ → List ℕ → Position
resting [] at values = record { at = at; values = values }
resting (Act op depth ∷ rest) at values = record { at = at; values = values }
resting (Again start last depth ∷ rest) at values =
    if nat_lt (slice_index values depth) last
    then record { at = start; values = slice_set values depth (slice_index values depth + 1) }
    else resting rest (at + 1) (slice_set values depth 0)

abbrev pub next_position : List Instruction → Position → Position
next_position code p = resting (drop (p.at + 1) code) (p.at + 1) p.values

-- n places, one after another
abbrev pub positions : List Instruction → ℕ → Position → List Position
positions code zero p = []
positions code (suc n) p = p ∷ positions code n (next_position code p)

abbrev pub first_position : Position
first_position = record { at = 0; values = replicate 64 0 }
