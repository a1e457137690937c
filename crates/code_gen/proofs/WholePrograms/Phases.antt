-- What the processors leave, one after another, phase by phase.
use Rattle.std.proofs.Common.{◌≡◌, ◌≢◌, ℕ, zero, suc, ◌+◌, ◌-◌, ◌*◌, ◌<◌, ◌≤◌, inl, inr, ◌⊎◌, List, [], ◌∷◌, length}
use Rattle.std.proofs.Common.{refl, sym, ap, ap₂, ◌∙◌, arith, subst, get_or-set_same, get_or-set_other, length-set}
use Rattle.std.proofs.Common.{mul-le-mul_right, slice_index, slice_index_or, slice_set}
use Rattle.std.proofs.lemmas.Bool.{cases_eq}
use Rattle.icode.proofs.SequenceLemmas.Stores.{length-memory, length-registers}
use Rattle.icode.specs.Actions.{array_start}
use Rattle.icode.specs.Machine.{Code, Local, Whole, acts, effects, processor_alone, processors_alone, phases_alone}
use Rattle.icode.specs.declared.action.Action.{Action}
use Rattle.icode.specs.declared.program.Array.{Array}
use Rattle.icode.specs.declared.program.Array.TheVariants.{X, Y}
use Rattle.sigma_spl.specs.Merged.{phase_on, phases_on}
use Rattle.sigma_spl.specs.Nest.{nests_on}
use Rattle.operators.specs.declared.target.Target.{Target}
use Rattle.sigma_spl.specs.Shared.Owners.{IsOwner, AllShared, ArePhasesShared}
use Rattle.code_gen.specs.PassCode.Program.{written_array, array_after, count_in, most_of}
use Rattle.code_gen.proofs.WholePrograms.Processor.{IsOther, next-other, Pass, AllKnown, PhasesKnown, passes_acts}
use Rattle.code_gen.proofs.WholePrograms.Processor.{MayRead, Owned, all-owned, first-owned, Left, parts-leave}
use Rattle.code_gen.proofs.WholePrograms.Processor.{made-residues, AllBelow}

module _ (c : Target) (words : ℕ) (enough : c.size ≤ words) (code : Code) (modulus_is : code.modulus ≡ c.modulus)
    (lanes_are : code.lanes ≡ c.lanes) (procs_are : code.procs ≡ c.procs) where
  -- processor q's effects are those of the request's machine
  alone-effects : (actions : List Action) (s : Local) → effects code.modulus code.lanes actions s
      ≡ effects c.modulus c.lanes actions s
  alone-effects actions s = ap (λ m. effects m code.lanes actions s) modulus_is ∙ ap (λ l. effects c.modulus l actions s) lanes_are

  pub record HasFiles (regs : ℕ) (w : Whole) : Type 0 where
    pub memory : length w.memory ≡ 4 * words
    pub files : length w.registers ≡ c.procs
    pub each : (r : ℕ) → r < c.procs → regs * c.lanes ≤ length (slice_index_or w.registers r [])

  module _ (owner : ℕ → ℕ) (after phase : ℕ) (ps : List Pass) (t : ℕ) (source : Array) (x : List ℕ) (regs : ℕ) (wide : most_of c ps * c.lanes ≤ regs * c.lanes) (known : AllKnown c ps)
      (owned : Owned c words enough owner after ps t source) (residues : (i : ℕ) → i < c.size → slice_index x i < c.modulus) (other : 0 < length ps → IsOther source (written_array t (after + length ps - 1)))
      (acts_are : (q : ℕ) → q < c.procs → acts code phase q ≡ passes_acts c words after ps t source q) where
    -- the first q processors have done the phase
    pub record During (q : ℕ) (w : Whole) : Type 0 where
      pub room : HasFiles regs w
      pub held : (r i : ℕ) → q ≤ r → i < c.size → MayRead c words enough owner after source r i →
          slice_index w.memory (array_start words source + i) ≡ slice_index x i
      pub done : (i : ℕ) → i < c.size → owner i < q → slice_index w.memory
          (array_start words (array_after after ps t source) + i) ≡ slice_index (phase_on c.modulus c.size ps x) i

    abbrev own : Whole → ℕ → Local
    own w q = record { memory = w.memory; registers = slice_index_or w.registers q [] }

    abbrev done_by : Whole → ℕ → Local
    done_by w q = effects c.modulus c.lanes (passes_acts c words after ps t source q) (own w q)

    alone-is : (q : ℕ) (w : Whole) → q < c.procs → effects code.modulus code.lanes (acts code phase q) (own w q)
        ≡ done_by w q
    alone-is q w low = alone-effects (acts code phase q) (own w q) ∙ ap (λ actions. effects c.modulus c.lanes actions (own w q)) (acts_are q low)

    after_one : (q : ℕ) (w : Whole) → q < c.procs → During q w →
        Left c words enough owner after ps t source q x (own w q) (done_by w q)
    after_one q w low d =
        parts-leave c words enough owner after ps t source q x (own w q) low known owned
        (record {
          memory = d.room.memory;
          registers = let each = d.room.each q low in omega (arith, wide, each);
          held = λ i below may. d.held q i (omega arith) below may;
          residues = residues;
          other = other;
        })

    -- words that a later processor may read are as they were
    still : (q : ℕ) (w : Whole) (low : q < c.procs) (d : During q w) (a : Array) (r i : ℕ) → q < r → i < c.size →
        MayRead c words enough owner after a r i →
        slice_index (done_by w q).memory (array_start words a + i) ≡ slice_index w.memory (array_start words a + i)
    still q w low d a r i later below may = by_array a may
      where
        left : Left c words enough owner after ps t source q x (own w q) (done_by w q)
        left = after_one q w low d

        differs : owner i ≡ r → owner i ≢ q
        differs is e = absurd (omega (arith, is, e))

        by_array : (b : Array) → MayRead c words enough owner after b r i →
            slice_index (done_by w q).memory (array_start words b + i) ≡ slice_index w.memory (array_start words b + i)
        by_array X m = left.first i below
        by_array b m = left.kept b i below (differs m)

    whole-after : (q : ℕ) (w : Whole) → q < c.procs → processor_alone code phase q w ≡ (let z : Whole = record { memory = (done_by w q).memory; registers = slice_set w.registers q (done_by w q).registers } in z)
    whole-after q w low = ap (λ (l : Local). let z : Whole = record { memory = l.memory; registers = slice_set w.registers q l.registers } in z) (alone-is q w low)

    step : (q : ℕ) (w : Whole) → q < c.procs → During q w → During (q + 1) (processor_alone code phase q w)
    step q w low d =
        subst (During (q + 1)) (sym (whole-after q w low))
        (record {
          room = record {
            memory = length-memory c.modulus c.lanes (passes_acts c words after ps t source q) (own w q) ∙ d.room.memory;
            files = length-set w.registers q (done_by w q).registers ∙ d.room.files;
            each = files-wide;
          };
          held = λ r i later below may. still q w low d source r i (omega arith) below may ∙ d.held r i (omega arith) below may;
          done = λ i below mine. by_owner i below mine (cases_eq (owner i) q);
        })
      where
        left : Left c words enough owner after ps t source q x (own w q) (done_by w q)
        left = after_one q w low d

        files-wide : (r : ℕ) → r < c.procs → regs * c.lanes ≤ length
            (slice_index_or (slice_set w.registers q (done_by w q).registers) r [])
        files-wide r under = by_file (cases_eq r q)
          where
            by_file : (r ≡ q) ⊎ (r ≢ q) → regs * c.lanes ≤ length
                (slice_index_or (slice_set w.registers q (done_by w q).registers) r [])
            by_file (inl e) =
                let there : slice_index_or (slice_set w.registers q (done_by w q).registers) q [] ≡ (done_by w q).registers = get_or-set_same w.registers q (done_by w q).registers [] (omega (arith, d.room.files, low)) in
                let same = length-registers c.modulus c.lanes (passes_acts c words after ps t source q) (own w q) in
                let each = d.room.each q low in
                let long : regs * c.lanes ≤ length (done_by w q).registers = omega (arith, same, each) in
                subst (λ o. regs * c.lanes ≤ length (slice_index_or (slice_set w.registers q (done_by w q).registers) o [])) (sym e) (subst (λ (f : List ℕ). regs * c.lanes ≤ length f) (sym there) long)
            by_file (inr ne) =
                let there : slice_index_or (slice_set w.registers q (done_by w q).registers) r [] ≡ slice_index_or w.registers r [] = get_or-set_other w.registers q r (done_by w q).registers [] ne in
                subst (λ (f : List ℕ). regs * c.lanes ≤ length f) (sym there) (d.room.each r under)

        by_owner : (i : ℕ) → i < c.size → owner i < q + 1 → (owner i ≡ q) ⊎ (owner i ≢ q) →
            slice_index (done_by w q).memory (array_start words (array_after after ps t source) + i)
            ≡ slice_index (phase_on c.modulus c.size ps x) i
        by_owner i below mine (inl e) = left.stored i below e
        by_owner i below mine (inr ne) = left.kept (array_after after ps t source) i below ne ∙ d.done i below (omega arith)

    steps : (n q : ℕ) (w : Whole) → q + n ≡ c.procs → During q w → During c.procs (processors_alone code phase n q w)
    steps zero q w e d = subst (λ k. During k w) (omega arith) d
    steps (suc n) q w e d = steps n (q + 1) (processor_alone code phase q w) (omega arith) (step q w (omega arith) d)

    pub all-processors : (w : Whole) → During 0 w → During c.procs (processors_alone code phase code.procs 0 w)
    all-processors w d = subst (λ n. During c.procs (processors_alone code phase n 0 w)) (sym procs_are) (steps c.procs 0 w (omega arith) d)

  -- ---- all phases

  pub residues-after : (ps : List Pass) (x : List ℕ) → AllKnown c ps →
      ((i : ℕ) → i < c.size → slice_index x i < c.modulus) → (i : ℕ) → i < c.size →
      slice_index (phase_on c.modulus c.size ps x) i < c.modulus
  residues-after [] x known residues = residues
  residues-after (p ∷ ps) x known residues = residues-after ps (nests_on c.modulus c.size p x) known.1 (made-residues c p known.0.runs x)

  -- the lists of each phase are the parts of its passes
  abbrev pub RunsPhases : ℕ → List (List Pass) → ℕ → Array → Type 0
  RunsPhases f [] t source = Unit {0}
  RunsPhases f (ps ∷ more) t source =
      ((q : ℕ) → q < c.procs → acts code f q ≡ passes_acts c words (count_in more) ps t source q)
      × RunsPhases (f + 1) more (t + length ps) (array_after (count_in more) ps t source)

  -- the phases are shared, the first of them from this array
  pub record IsSharedFrom (after t : ℕ) (source : Array) (ps : List Pass) : Type 0 where
    pub owner : ℕ → ℕ
    pub is_owner : IsOwner c owner
    pub owns : Owned c words enough owner after ps t source

  abbrev pub SharedFrom : List (List Pass) → ℕ → Array → Type 0
  SharedFrom [] t source = Unit {0}
  SharedFrom (ps ∷ more) t source = IsSharedFrom (count_in more) t source ps × SharedFrom more (t + length ps) (array_after (count_in more) ps t source)

  pub later-shared : (pss : List (List Pass)) (t : ℕ) (source : Array) → AllShared c pss → SharedFrom pss t source
  later-shared [] t source h = tt
  later-shared (ps ∷ more) t source h = (
    record { owner = h.0.owner; is_owner = h.0.is_owner; owns = all-owned c words enough h.0.owner (count_in more) ps t source h.0.owns },
    later-shared more (t + length ps) (array_after (count_in more) ps t source) h.1,
  )

  pub phases-shared : (pss : List (List Pass)) (t : ℕ) → ArePhasesShared c pss → SharedFrom pss t X
  phases-shared [] t h = tt
  phases-shared (ps ∷ more) t h = (
    record { owner = h.0.owner; is_owner = h.0.is_owner; owns = first-owned c words enough h.0.owner (count_in more) ps t h.0.owns },
    later-shared more (t + length ps) (array_after (count_in more) ps t X) h.1,
  )

  -- the array holds the list
  pub record Ready (regs : ℕ) (source : Array) (x : List ℕ) (w : Whole) : Type 0 where
    pub room : HasFiles regs w
    pub held : (i : ℕ) → i < c.size → slice_index w.memory (array_start words source + i) ≡ slice_index x i
    pub residues : (i : ℕ) → i < c.size → slice_index x i < c.modulus

  -- the array that the last phase leaves
  abbrev pub final_array : List (List Pass) → ℕ → Array → Array
  final_array [] t source = source
  final_array (ps ∷ more) t source = final_array more (t + length ps) (array_after (count_in more) ps t source)

  -- what the next pass reads, if there is one, is not what it writes
  abbrev pub IsOtherNext : ℕ → ℕ → Array → Type 0
  IsOtherNext count t source = 0 < count → IsOther source (written_array t (count - 1))

  one-phase : (regs f : ℕ) (ps : List Pass) (more : List (List Pass)) (t : ℕ) (source : Array) (x : List ℕ)
      (w : Whole) → AllKnown c ps → most_of c ps * c.lanes ≤ regs * c.lanes →
      IsSharedFrom (count_in more) t source ps → IsOtherNext (count_in more + length ps) t source →
      ((q : ℕ) → q < c.procs → acts code f q ≡ passes_acts c words (count_in more) ps t source q) →
      Ready regs source x w →
      Ready regs (array_after (count_in more) ps t source) (phase_on c.modulus c.size ps x)
      (processors_alone code f code.procs 0 w)
  one-phase regs f ps more t source x w known wide shared other acts_are ready =
      let last = all-processors shared.owner (count_in more) f ps t source x regs wide known shared.owns ready.residues (λ some. other (omega (arith, some))) acts_are w
      (record { room = ready.room; held = λ r i _ below _. ready.held i below; done = λ i below none. absurd (omega (arith, none)) }) in
      record {
        room = last.room;
        held = λ i below.
            last.done i below (shared.is_owner.procs i below);
        residues = residues-after ps x known ready.residues;
      }

  -- the last pass of a phase, given how many come after the phase
  array_after-last : (after : ℕ) (p : Pass) (ps : List Pass) (t : ℕ) (source : Array) →
      array_after after (p ∷ ps) t source ≡ written_array (t + length ps) after
  array_after-last after p [] t source =
      let last : after + 0 ≡ after = omega arith in
      let number : t ≡ t + 0 = omega arith in ap₂ written_array number last
  array_after-last after p (q ∷ ps) t source =
      let number : suc t + length ps ≡ t + suc (length ps) = omega arith in
      array_after-last after q ps (suc t) (written_array t (after + length (q ∷ ps)))
      ∙ ap (λ n. written_array n after) number

  -- what it writes, and others follow, is not what the next one does
  pub other-after : (after : ℕ) (ps : List Pass) (t : ℕ) (source : Array) → IsOtherNext (after + length ps) t source →
      IsOtherNext after (t + length ps) (array_after after ps t source)
  other-after after [] t source other some =
      let here : t + 0 ≡ t = omega arith in
      let count : after + 0 ≡ after = omega arith in
      subst (λ n. IsOther source (written_array n (after - 1))) (sym here)
      (subst (λ k. IsOther source (written_array t (k - 1))) count (other (omega (arith, some))))
  other-after after (p ∷ ps) t source other some =
      let more : suc (after - 1) ≡ after = omega (arith, some) in
      let next : suc (t + length ps) ≡ t + suc (length ps) = omega arith in
      let is = ap (written_array (t + length ps)) more ∙ sym (array_after-last after p ps t source) in
      subst (λ n. IsOther (array_after after (p ∷ ps) t source) (written_array n (after - 1))) next
      (subst (λ a. IsOther a (written_array (suc (t + length ps)) (after - 1))) is
      (next-other (t + length ps) (after - 1) (after - 1)))

  pub all-phases : (regs f : ℕ) (pss : List (List Pass)) (t : ℕ) (source : Array) (x : List ℕ) (w : Whole) →
      PhasesKnown c pss → AllBelow c regs pss → SharedFrom pss t source →
      IsOtherNext (count_in pss) t source → RunsPhases f pss t source → Ready regs source x w →
      Ready regs (final_array pss t source) (phases_on c.modulus c.size pss x) (phases_alone code (length pss) f w)
  all-phases regs f [] t source x w known wide shared other runs ready = ready
  all-phases regs f (ps ∷ more) t source x w known wide shared other runs ready =
      all-phases regs (f + 1) more (t + length ps) (array_after (count_in more) ps t source) (phase_on c.modulus c.size ps x) (processors_alone code f code.procs 0 w) known.1 wide.1 shared.1
      (other-after (count_in more) ps t source other) runs.1
      (one-phase regs f ps more t source x w known.0 (mul-le-mul_right c.lanes wide.0) shared.0 other runs.0 ready)

  -- the last pass of all writes Y
  last-empty : (after : ℕ) (ps : List Pass) (t : ℕ) (source : Array) → length ps ≡ 0 →
      array_after after ps t source ≡ source
  last-empty after [] t source e = refl
  last-empty after (p ∷ ps) t source e = absurd (omega (arith, e))

  last-is_last : (ps : List Pass) (t : ℕ) (source : Array) → 0 < length ps → array_after 0 ps t source ≡ Y
  last-is_last [] t source some = absurd (omega (arith, some))
  last-is_last (p ∷ ps) t source some = array_after-last 0 p ps t source

  final-empty : (pss : List (List Pass)) (t : ℕ) (source : Array) → count_in pss ≡ 0 → final_array pss t source ≡ source
  final-empty [] t source e = refl
  final-empty (ps ∷ more) t source e =
      final-empty more (t + length ps) (array_after (count_in more) ps t source) (omega (arith, e)) ∙ last-empty (count_in more) ps t source (omega (arith, e))

  pub final-is : (pss : List (List Pass)) (t : ℕ) (source : Array) → 0 < count_in pss → final_array pss t source ≡ Y
  final-is [] t source some = absurd (omega (arith, some))
  final-is (ps ∷ more) t source some = by_count (count_in more) refl (λ later. final-is more (t + length ps) (array_after (count_in more) ps t source) later)
    where
      by_count : (n : ℕ) → count_in more ≡ n → (0 < count_in more → final_array (ps ∷ more) t source ≡ Y) →
          final_array (ps ∷ more) t source ≡ Y
      by_count zero e others =
          final-empty more (t + length ps) (array_after (count_in more) ps t source) e
          ∙ ap (λ n. array_after n ps t source) e
          ∙ last-is_last ps t source (omega (arith, some, e))
      by_count (suc n) e others = others (omega (arith, e))
