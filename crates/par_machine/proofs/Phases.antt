-- Phases with actions and phases without.
use Rattle.std.proofs.Common.{◌≡◌, ℕ, suc, ◌+◌, ◌-◌, ◌<◌, ◌≤◌, List, length, map, get_or, true, false, sym, ap, ◌∙◌}
use Rattle.std.proofs.Common.{subst, arith}
use Rattle.std.specs.Prelude.{slice_index}
use Rattle.std.proofs.lemmas.Bool.{le-ltb}
use Rattle.std.proofs.lemmas.List.{get_or-map}
use Rattle.icode.specs.Machine.{Code, is_open, first_open, none_done}
use Rattle.icode.proofs.End.{none_done-zero}
use Rattle.icode.proofs.Runs.{open_at, not_open, first_open-open, first_open-closed}
use Rattle.par_machine.specs.declared.phase.Routine.{Routine}
use Rattle.par_machine.specs.Lengths.{HasLengths, IsFirstLeft}

pub len_at : (phases : List Routine) (phase : ℕ) (r : Routine) → phase < length phases → r ≡ get_or phases phase r →
    slice_index (map (λ (r : Routine). r.len) phases) phase ≡ r.len
len_at phases phase r lt e = get_or-map (λ (r : Routine). r.len) phases phase r 0 lt ∙ ap (λ (r : Routine). r.len) (sym e)

pub opens : (code : Code) (phases : List Routine) (phase q len : ℕ) (done : List ℕ) → HasLengths code phases →
    slice_index (map (λ (r : Routine). r.len) phases) phase ≡ len → q < code.procs → slice_index done q < len →
    is_open code phase done ≡ true
opens code phases phase q len done h e lt left = open_at code phase done q lt (omega (arith, h.each phase q lt, e))

pub closes : (code : Code) (phases : List Routine) (phase len : ℕ) (done : List ℕ) → HasLengths code phases →
    slice_index (map (λ (r : Routine). r.len) phases) phase ≡ len →
    ((q : ℕ) → q < code.procs → len ≤ slice_index done q) → is_open code phase done ≡ false
closes code phases phase len done h e none = not_open code phase done (λ q lt. le-ltb _ _ (omega (arith, none q lt, h.each phase q lt, e)))

pub skips : (code : Code) (phases : List Routine) (phase : ℕ) (r : Routine) → HasLengths code phases →
    phase < length phases → r ≡ get_or phases phase r → r.len ≡ 0 →
    first_open code (length phases - phase) phase ≡ first_open code (length phases - (phase + 1)) (phase + 1)
skips code phases phase r h lt e z =
    let closed : is_open code phase (none_done code) ≡ false = closes code phases phase r.len (none_done code) h (len_at phases phase r lt e) (λ q q_lt. omega (arith, z)) in
    let more : length phases - phase ≡ suc (length phases - (phase + 1)) = omega arith in
    ap (λ n. first_open code n phase) more ∙ first_open-closed code (length phases - (phase + 1)) phase closed

pub stops : (code : Code) (phases : List Routine) (phase : ℕ) (r : Routine) → HasLengths code phases → 0 < code.procs →
    phase < length phases → r ≡ get_or phases phase r → 0 < r.len →
    first_open code (length phases - phase) phase ≡ phase
stops code phases phase r h procs lt e z =
    let opened : is_open code phase (none_done code) ≡ true = opens code phases phase 0 r.len (none_done code) h (len_at phases phase r lt e) procs (omega (arith, none_done-zero code 0)) in
    let more : length phases - phase ≡ suc (length phases - (phase + 1)) = omega arith in
    ap (λ n. first_open code n phase) more ∙ first_open-open code (length phases - (phase + 1)) phase opened

pub open_now : (code : Code) (phases : List Routine) (phase q : ℕ) (r : Routine) (done : List ℕ) →
    HasLengths code phases → phase < length phases → r ≡ get_or phases phase r → code.procs ≡ length done →
    IsFirstLeft done r.len q → is_open code phase done ≡ true
open_now code phases phase q r done h lt e procs first = opens code phases phase q r.len done h (len_at phases phase r lt e) (omega (arith, first.inside)) first.left

pub over_now : (code : Code) (phases : List Routine) (phase : ℕ) (r : Routine) (done : List ℕ) →
    HasLengths code phases → phase < length phases → r ≡ get_or phases phase r → code.procs ≡ length done →
    ((q : ℕ) → q < length done → r.len ≤ slice_index done q) → is_open code phase done ≡ false
over_now code phases phase r done h lt e procs none = closes code phases phase r.len done h (len_at phases phase r lt e) (λ q q_lt. none q (omega arith))

pub found_of : (r : Routine) (phases : List Routine) (phase : ℕ) (done : List ℕ) (q : ℕ) → r ≡ get_or phases phase r →
    IsFirstLeft done (get_or phases phase r).len q → IsFirstLeft done r.len q
found_of r phases phase done q e first = subst (λ (x : Routine). IsFirstLeft done x.len q) (sym e) first

pub none_of : (r : Routine) (phases : List Routine) (phase : ℕ) (done : List ℕ) → r ≡ get_or phases phase r →
    ((q : ℕ) → q < length done → (get_or phases phase r).len ≤ slice_index done q) → (q : ℕ) → q < length done →
    r.len ≤ slice_index done q
none_of r phases phase done e none q lt = omega (arith, none q lt, ap (λ (x : Routine). x.len) e)
