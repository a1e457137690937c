-- One processor and one phase: what actions leave one after another, on words and on residues.
use Rattle.std.proofs.Common.{◌≡◌, ℕ, zero, suc, ◌-◌, ◌*◌, ◌<◌, ◌≤◌, List, [], ◌∷◌, ◌++◌, replicate, refl, sym, ap}
use Rattle.std.proofs.Common.{ap₂, ◌∙◌, subst, arith, ⊎_elim}
use Rattle.std.specs.Prelude.{Contains, flat_map, slice_index_or}
use Rattle.std.proofs.Math.ListN.{get_or-map}
use Rattle.std.proofs.lemmas.Bool.{cases_lt}
use Rattle.icode.specs.declared.action.Action.{Action}
use Rattle.icode.specs.Machine.{Code, IsCode, IsApart, Local, acts, effects, touched_words, stored_words, lines_of}
use Rattle.icode.specs.Machine.{in_order, results, padded, words_at}
use Rattle.icode.proofs.Lines.{Contains-nil}
use Rattle.icode.proofs.Runs.{memory_of_runs}
use Rattle.word_code.specs.Words.{Width}
use Rattle.word_code.specs.WordMachine.{WordAction, actions_under, word_effect}
use Rattle.word_code.proofs.Residues.{residues, AllBelow}
use Rattle.word_code.proofs.Bounds.{Bounds, AreRegistersBelow, weaker}
use Rattle.word_code.proofs.Quick.{Scale, IsMemoryBelow, residue_local, AreQuick}
use Rattle.word_code.proofs.Simulation.{input_is, starts_below, empty_files, starts_low}
use Rattle.word_code.proofs.OneProcessor.{word_effects, beginning}

-- ---- actions that go by their bounds

-- words that stand for what the residues are, within the bounds
pub record Goes (s : Scale) (c : Bounds) (residue here : Local) : Type 0 where
  pub same : residue ≡ residue_local s.modulus here
  pub memory : IsMemoryBelow s here.memory
  pub registers : AreRegistersBelow s.modulus s.lanes c here.registers

pub goes_along : (s : Scale) (b : Bounds) (fs : List WordAction) (c : Bounds) → AreQuick s b fs c → (t : Local) →
    IsMemoryBelow s t.memory → AreRegistersBelow s.modulus s.lanes b t.registers →
    Goes s c (effects s.modulus s.lanes (actions_under fs) (residue_local s.modulus t))
    (word_effects s.width s.modulus s.lanes fs t)
goes_along s b [] c are t kept low =
    record { same = refl; memory = kept; registers = weaker s.modulus s.lanes b c t.registers are low }
goes_along s b (f ∷ fs) c are t kept low =
    let rest = goes_along s are.0 fs c are.2 (word_effect s.width s.modulus s.lanes f t) (are.1.memory t kept low) (are.1.registers t kept low) in
    record {
      same = ap (effects s.modulus s.lanes (actions_under fs)) (are.1.same t kept low) ∙ rest.same;
      memory = rest.memory;
      registers = rest.registers;
    }

pub word_effects-append : (w : Width) (m lanes : ℕ) (fs gs : List WordAction) (t : Local) →
    word_effects w m lanes (fs ++ gs) t ≡ word_effects w m lanes gs (word_effects w m lanes fs t)
word_effects-append w m lanes [] gs t = refl
word_effects-append w m lanes (f ∷ fs) gs t = word_effects-append w m lanes fs gs _

-- ---- the run on residues

-- one processor shares no line
pub apart_alone : (code : Code) → ((phase q : ℕ) → 1 ≤ q → acts code phase q ≡ []) → (phase : ℕ) → IsApart code phase
apart_alone code none phase =
    record {
      alone = λ q other line differ written touched.
          ⊎_elim
          (λ (first : q < 1).
          let past : 1 ≤ other = omega (arith, first, differ) in
          Contains-nil line (subst (λ xs. Contains (flat_map (λ a. lines_of code.line (touched_words code.lanes a)) xs) line) (none phase other past) touched))
          (λ (past : 1 ≤ q).
          Contains-nil line (subst (λ xs. Contains (flat_map (λ a. lines_of code.line (stored_words code.lanes a)) xs) line) (none phase q past) written))
          (cases_lt q 1);
    }

abbrev over : Code → ℕ → List (List (List Action)) → Code
over code n ls = record code { procs = n; lists = ls }

abbrev IsInOrder : Code → List Action → List ℕ → Type 0
IsInOrder code actions x = (in_order code x).memory ≡ (effects code.modulus code.lanes actions (beginning code x)).memory

in_order_alone : (code : Code) (actions : List Action) → code.procs ≡ 1 → code.lists ≡ (actions ∷ []) ∷ [] →
    (x : List ℕ) → (in_order code x).memory ≡ (effects code.modulus code.lanes actions (beginning code x)).memory
in_order_alone code actions one lists x =
    subst (λ n. IsInOrder (over code n code.lists) actions x) (sym one)
    (subst (λ ls. IsInOrder (over code 1 ls) actions x) (sym lists) refl)

none_past : (lists : List (List (List Action))) (actions : List Action) → lists ≡ (actions ∷ []) ∷ [] → (phase q : ℕ) →
    1 ≤ q → slice_index_or (slice_index_or lists phase []) q [] ≡ []
none_past lists actions e phase q past = subst (λ ls. slice_index_or (slice_index_or ls phase []) q [] ≡ []) (sym e) (at phase q past)
  where
    at : (phase q : ℕ) → 1 ≤ q → slice_index_or (slice_index_or ((actions ∷ []) ∷ []) phase []) q [] ≡ []
    at zero zero past = absurd (omega arith)
    at zero (suc q) past = refl
    at (suc phase) q past = refl

-- a code of one processor and one phase leaves what its actions leave one after another
pub results_on_residues : (code : Code) (actions : List Action) → IsCode code → code.procs ≡ 1 →
    code.lists ≡ (actions ∷ []) ∷ [] → (x turns : List ℕ) →
    results code x turns ≡ words_at code.size (effects code.modulus code.lanes actions (beginning code x)).memory
    (padded code)
results_on_residues code actions is one lists x turns =
    let apart = apart_alone code (none_past code.lists actions lists) in
    ap (λ memory. words_at code.size memory (padded code)) (memory_of_runs code is apart x turns ∙ in_order_alone code actions one lists x)

-- ---- where it begins

-- it begins with residues
pub beginning_is : (code : Code) (x : List ℕ) → AllBelow code.modulus x →
    beginning code x ≡ residue_local code.modulus (beginning code x)
beginning_is code x low =
    let n = 4 * padded code - code.size in
    let made : List ℕ → List ℕ → Local = λ memory registers. record { memory = memory; registers = registers } in
    let files = replicate code.procs (replicate (code.regs * code.lanes) 0) in
    let file =
    sym (get_or-map (residues code.modulus) files 0 [])
    ∙ ap (λ fs. slice_index_or fs 0 []) (empty_files code.modulus code.procs (code.regs * code.lanes)) in
    ap₂ made (sym (input_is code.modulus x n low)) (sym file)

pub begins_below : (code : Code) (s : Scale) (x : List ℕ) → 0 < s.modulus → 1 ≤ s.kept.of_a → 1 ≤ s.kept.of_b →
    AllBelow s.modulus x → IsMemoryBelow s (beginning code x).memory
begins_below code s x pos of_a of_b low = starts_below s x (4 * padded code - code.size) pos of_a of_b low

pub begins_low : (code : Code) (b : Bounds) (m lanes : ℕ) (x : List ℕ) → 0 < m → ((r : ℕ) → 1 ≤ b r) →
    AreRegistersBelow m lanes b (beginning code x).registers
begins_low code b m lanes x pos some = starts_low m lanes b code.procs (code.regs * code.lanes) 0 pos some
