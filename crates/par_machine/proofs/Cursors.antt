-- Where a cursor comes to rest.
use Rattle.std.proofs.Common.{◌≡◌, ℕ, suc, ◌+◌, ◌<◌, List, ◌∷◌, drop, length, get_or, sym, ap, ◌∙◌, add-one, drop-cons}
use Rattle.std.proofs.Common.{if◌then◌else◌, nat_lt}
use Rattle.std.specs.Prelude.{slice_index, slice_set}
use Rattle.icode.specs.declared.program.Op.{Op}
use Rattle.par_machine.specs.declared.cursor.Instruction.{Instruction}
use Rattle.par_machine.specs.declared.cursor.Instruction.TheVariants.{Act, Again}
use Rattle.par_machine.specs.Position.{resting}

pub drop_instruction : (code : List Instruction) (at : ℕ) (i : Instruction) → at < length code → i ≡ get_or code at i →
    drop at code ≡ i ∷ drop (at + 1) code
drop_instruction code at i lt e = rw (add-one, drop-cons code at i) (ap (λ y. y ∷ drop (suc at) code) (sym e))

pub rests_at_act : (code : List Instruction) (at : ℕ) (values : List ℕ) (i : Instruction) (op : Op) (depth : ℕ) → at < length code → i ≡ get_or code at i → i ≡ Act op depth → resting (drop at code) at values ≡ record { at = at; values = values }
rests_at_act code at values i op depth lt e is =
    ap (λ xs. resting xs at values) (drop_instruction code at i lt e)
    ∙ ap (λ x. resting (x ∷ drop (at + 1) code) at values) is

pub rests_after : (code : List Instruction) (at : ℕ) (values : List ℕ) (i : Instruction) (start last depth : ℕ) → at < length code → i ≡ get_or code at i → i ≡ Again start last depth → resting (drop at code) at values ≡ (if nat_lt (slice_index values depth) last then (record { at = start; values = slice_set values depth (slice_index values depth + 1) }) else resting (drop (at + 1) code) (at + 1) (slice_set values depth 0))
rests_after code at values i start last depth lt e is =
    ap (λ xs. resting xs at values) (drop_instruction code at i lt e)
    ∙ ap (λ x. resting (x ∷ drop (at + 1) code) at values) is
