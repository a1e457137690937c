-- A program with its registers renumbered leaves what the program leaves.
use Rattle.std.proofs.Common.{◌≡◌, ℕ, zero, suc, ◌*◌, ◌^◌, ◌<◌, ◌≤◌, ◌&&◌, List, [], ◌∷◌, Option, Some}
use Rattle.std.proofs.Common.{None, Contains, length, refl, ap, subst, arith}
use Rattle.std.specs.Prelude.{not, nat_lt, max, slice_index_or, if◌then◌else◌}
use Rattle.std.specs.List.{list_all}
use Rattle.std.proofs.Math.Nat.{le-max_left, le-max_right}
use Rattle.std.proofs.lemmas.List.{length-replicate}
use Rattle.icode.specs.Actions.{PlainFits, Step, plain_code, steps_of_phase, actions_of}
use Rattle.icode.specs.Machine.{IsApart}
use Rattle.icode.specs.Plain.{PlainBody, PlainProgram, NoStmts}
use Rattle.nests.specs.InPlace.{IsInPlaceOf}
use Rattle.nests.proofs.Acts.{memory_by}
use Rattle.nests.proofs.InOrder.{keep-many}
use Rattle.nests.proofs.InPlace.{StandFor, no-more, memory-same, in-place, itself, where-true}
use Rattle.renumbered_registers.specs.Renumbered.{no_numbers, numbered_body, and_phases, numbered_phases, most_put}
use Rattle.renumbered_registers.specs.Renumbered.{registers_for, are_in_order, with_numbers}
use Rattle.renumbered_registers.specs.Laws.{RenumberedLeavesTheSame, InOrderStays}
use Rattle.renumbered_registers.proofs.Given.{given-none, none-is, some-is}
use Rattle.renumbered_registers.proofs.Renaming.{AreFor, body-for}

-- ---- the phases, one by one

-- the numbered phases are those of the phases
pub record AreNumbered (lanes : ℕ) (old new : List PlainBody) : Type 0 where
  pub many : length new ≡ length old
  pub each : (phase : ℕ) → numbered_body lanes no_numbers (slice_index_or old phase NoStmts)
      ≡ Some (slice_index_or new phase NoStmts)

pub phases-numbered : (lanes : ℕ) (old new : List PlainBody) → numbered_phases lanes old ≡ Some new →
    AreNumbered lanes old new
phases-numbered lanes [] new e =
    subst (AreNumbered lanes []) (some-is [] new e) (record { many = refl; each = λ phase. refl })
phases-numbered lanes (body ∷ rest) new e =
    of_both (numbered_body lanes no_numbers body) (numbered_phases lanes rest) refl refl e
    (λ bs is. phases-numbered lanes rest bs is)
  where
    of_both : (b : Option PlainBody) (bs : Option (List PlainBody)) → numbered_body lanes no_numbers body ≡ b →
        numbered_phases lanes rest ≡ bs → and_phases b bs ≡ Some new →
        ((bs : List PlainBody) → numbered_phases lanes rest ≡ Some bs → AreNumbered lanes rest bs) →
        AreNumbered lanes (body ∷ rest) new
    of_both None bs is too e further = none-is new e
    of_both (Some b) None is too e further = none-is new e
    of_both (Some b) (Some bs) is too e further =
        let more = further bs too in
        subst (AreNumbered lanes (body ∷ rest)) (some-is (b ∷ bs) new e)
        (record { many = ap suc more.many; each = at more.each })
      where
        at : ((phase : ℕ) → numbered_body lanes no_numbers (slice_index_or rest phase NoStmts)
            ≡ Some (slice_index_or bs phase NoStmts)) → (phase : ℕ) →
            numbered_body lanes no_numbers (slice_index_or (body ∷ rest) phase NoStmts)
            ≡ Some (slice_index_or (b ∷ bs) phase NoStmts)
        at each zero = is
        at each (suc phase) = each phase

-- each phase needs no more registers than all
phase-room : (lanes many : ℕ) (phases : List PlainBody) (phase : ℕ) → registers_for lanes phases ≤ many →
    most_put lanes 0 (slice_index_or phases phase NoStmts) ≤ many
phase-room lanes many [] phase le = omega (arith)
phase-room lanes many (body ∷ rest) zero le =
    let a = le-max_left (most_put lanes 0 body) (registers_for lanes rest) in omega (arith, a, le)
phase-room lanes many (body ∷ rest) (suc phase) le =
    let a = le-max_right (most_put lanes 0 body) (registers_for lanes rest) in
    phase-room lanes many rest phase (omega (arith, a, le))

-- ---- the program

module _ (p : PlainProgram) (fits : PlainFits p) (apart : (phase : ℕ) → IsApart (plain_code p) phase) (many : ℕ)
    (phases : List PlainBody) (is : numbered_phases p.lanes p.phases ≡ Some phases)
    (room : registers_for p.lanes p.phases ≤ many) where
  abbrev r : PlainProgram
  r = record p { regs = many; phases = phases }

  abbrev new : ℕ → ℕ → List Step
  new phase q = steps_of_phase r phase q

  abbrev old : ℕ → ℕ → List Step
  old phase q = steps_of_phase p phase q

  numbered : AreNumbered p.lanes p.phases phases
  numbered = phases-numbered p.lanes p.phases phases is

  phase-for : (phase q : ℕ) → q < p.procs → AreFor p many phases no_numbers no_numbers (new phase q) (old phase q)
  phase-for phase q lt =
      body-for p many phases (slice_index_or p.phases phase NoStmts) (slice_index_or phases phase NoStmts) no_numbers
      [] q
      (numbered.each phase) given-none (fits.each phase q lt) (phase-room p.lanes many p.phases phase room)

  -- whatever stands in the registers
  abbrev Many : ℕ → ℕ → Type 0
  Many n k = (many * p.lanes ≤ n) × (p.regs * p.lanes ≤ k)

  memory-kept : (phase q : ℕ) → q < p.procs → (there s memory : List ℕ) → Many (length there) (length s) →
      memory_by p.modulus p.lanes (actions_of (new phase q)) there memory
      ≡ memory_by p.modulus p.lanes (actions_of (old phase q)) s memory
  memory-kept phase q lt there s memory long =
      ((phase-for phase q lt).like (record { memory = memory; registers = s })
      (record { memory = memory; registers = there })
      (record {
        memory = refl;
        registers = record { held = λ k n l e lane. none-is n e; old = long.1; new = long.0 };
      })).memory

  stand : (phase q : ℕ) → q < p.procs → StandFor r p (new phase q) (old phase q)
  stand phase q lt =
      let law = phase-for phase q lt in
      record {
        fits = law.fits;
        stored = λ k. subst (λ ks. Contains ks k) law.stored;
        touched = λ k. subst (λ ks. Contains ks k) law.touched;
      }

  pub numbered-in-place : IsInPlaceOf r p
  numbered-in-place =
      in-place p r apart stand
      (no-more p r fits numbered.many (λ phase q lt. let law = (phase-for phase q lt).many_too in omega (arith, law)))
      (memory-same p r (λ there s. Many (length there) (length s)) numbered.many
      (let a = length-replicate {A = ℕ} (many * p.lanes) 0 in
      let b = length-replicate {A = ℕ} (p.regs * p.lanes) 0 in
      (omega (arith, a), omega (arith, b)))
      (λ phase q lt.
      keep-many p.modulus p.lanes p.lanes Many (actions_of (new phase q)) (actions_of (old phase q))
      (memory-kept phase q lt)))

pub renumbered_leaves_the_same : RenumberedLeavesTheSame
renumbered_leaves_the_same p fits apart =
    where-true p fits apart (with_numbers many p (numbered_phases p.lanes p.phases))
    (not (list_all (are_in_order p.lanes 0) p.phases) && nat_lt many (2 ^ 20))
    (λ can. of_phases (numbered_phases p.lanes p.phases) refl)
  where
    many : ℕ
    many = registers_for p.lanes p.phases

    of_phases : (o : Option (List PlainBody)) → numbered_phases p.lanes p.phases ≡ o →
        IsInPlaceOf (with_numbers many p o) p
    of_phases None is = itself p fits apart
    of_phases (Some phases) is =
        numbered-in-place p fits apart (max p.regs many) phases is (le-max_right p.regs many)

pub in_order_stays : InOrderStays
in_order_stays p h =
    ap
    (λ b. if not b && nat_lt (registers_for p.lanes p.phases) (2 ^ 20)
    then with_numbers (registers_for p.lanes p.phases) p (numbered_phases p.lanes p.phases) else p)
    h
