-- Steps of v lanes that touch words of a group's steps alone, and fit.
use Rattle.std.proofs.Common.{◌≡◌, ℕ, ◌+◌, ◌*◌, ◌<◌, ◌≤◌, List, [], ◌∷◌, ◌++◌, All, Contains, flat_map, length, subst}
use Rattle.std.proofs.Common.{arith}
use Rattle.std.proofs.lemmas.List.Elements.{All-map, All-contains}
use Rattle.std.proofs.lemmas.List.Folds.{flat_map-map}
use Rattle.icode.specs.declared.action.Action.{Action}
use Rattle.icode.specs.Actions.{Step, StepFits, step_of, actions_of}
use Rattle.icode.specs.Machine.{stored_words, touched_words}
use Rattle.icode.specs.Plain.{PlainOp, PlainProgram}
use Rattle.icode.proofs.Lines.{Contains-map}
use Rattle.nests.proofs.Rows.{in-loop}
use Rattle.nests.proofs.Members.{all_of_members, into_flat_map, from_flat_map}
use Rattle.loop_lanes.specs.Layers.{AreLanesFor, steps_at, group_at, on_lanes, memory_by, stored_by, touched_by}

-- ---- the words of steps

words-of : (f : Action → List ℕ) (steps : List Step) (s : Step) (k : ℕ) → Contains steps s → Contains (f s.action) k →
    Contains (flat_map f (actions_of steps)) k
words-of f steps s k h has =
    into_flat_map f (actions_of steps) s.action k (Contains-map (λ (s : Step). s.action) steps s h) has

words-among : (f : Action → List ℕ) (steps : List Step) (P : ℕ → Type 0) →
    ((s : Step) → Contains steps s → (k : ℕ) → Contains (f s.action) k → P k) →
    (k : ℕ) → Contains (flat_map f (actions_of steps)) k → P k
words-among f steps P each k h =
    let at =
    from_flat_map (λ (s : Step). f s.action) steps k
    (subst (λ ks. Contains ks k) (flat_map-map f (λ (s : Step). s.action) steps) h) in
    each at.0 at.1 k at.2

-- ---- steps that are covered

-- a step of v lanes touches words of these steps alone, and fits
pub record IsCovered (v : ℕ) (p : PlainProgram) (old : List Step) (s : Step) : Type 0 where
  pub stored : (k : ℕ) → Contains (stored_words v s.action) k → Contains (stored_by 1 (actions_of old)) k
  pub touched : (k : ℕ) → Contains (touched_words v s.action) k → Contains (touched_by 1 (actions_of old)) k
  pub fits : StepFits (on_lanes v p) s

module _ (v : ℕ) (p : PlainProgram) (old : List Step) (ws : List ℕ) (q : ℕ) where
  -- the step of an operation is
  abbrev pub IsOpCovered : PlainOp → Type 0
  IsOpCovered op = IsCovered v p old (step_of (on_lanes v p) op ws q)

  steps_covered : (ops : List PlainOp) → All IsOpCovered ops → (s : Step) →
      Contains (steps_at (on_lanes v p) ops ws q) s → IsCovered v p old s
  steps_covered ops covered s h =
      All-contains (IsCovered v p old) (steps_at (on_lanes v p) ops ws q) s
      (All-map (IsCovered v p old) (λ op. step_of (on_lanes v p) op ws q) ops covered) h

  -- and leave the same memory, and are no more
  pub lanes_from : (ops : List PlainOp) → All IsOpCovered ops →
      length (steps_at (on_lanes v p) ops ws q) ≤ length old →
      ((r s memory : List ℕ) → 3 * p.regs * v ≤ length r → p.regs ≤ length s →
      memory_by p.modulus v (actions_of (steps_at (on_lanes v p) ops ws q)) r memory ≡ memory_by p.modulus 1
      (actions_of old) s memory) →
      AreLanesFor v p (steps_at (on_lanes v p) ops ws q) old
  lanes_from ops covered few same =
      let new : List Step = steps_at (on_lanes v p) ops ws q in
      record {
        same = same;
        stored =
            words-among (stored_words v) new (λ k. Contains (stored_by 1 (actions_of old)) k)
            (λ s has. (steps_covered ops covered s has).stored);
        touched =
            words-among (touched_words v) new (λ k. Contains (touched_by 1 (actions_of old)) k)
            (λ s has. (steps_covered ops covered s has).touched);
        few = few;
        fits = all_of_members (StepFits (on_lanes v p)) new (λ s has. (steps_covered ops covered s has).fits);
      }

-- ---- what is known of the steps of a group

module _ (v : ℕ) (p : PlainProgram) (ops : List PlainOp) (vs : List ℕ) (b q : ℕ) where
  abbrev pub group : List Step
  group = group_at v p ops vs b q

  -- an operation's step in a round
  abbrev pub step_in : PlainOp → ℕ → Step
  step_in op l = step_of p op (vs ++ (v * b + l) ∷ []) q

  pub record IsInGroup (op : PlainOp) : Type 0 where
    pub fits : (l : ℕ) → l < v → StepFits p (step_in op l)
    pub stored : (l : ℕ) → l < v → (k : ℕ) → Contains (stored_words 1 (step_in op l).action) k →
        Contains (stored_by 1 (actions_of group)) k
    pub touched : (l : ℕ) → l < v → (k : ℕ) → Contains (touched_words 1 (step_in op l).action) k →
        Contains (touched_by 1 (actions_of group)) k

  pub in_group : All (StepFits p) group → (op : PlainOp) → Contains ops op → IsInGroup op
  in_group fits op has =
      record {
        fits = λ l lt. All-contains (StepFits p) group (step_in op l) fits (inside l lt);
        stored = λ l lt k word. words-of (stored_words 1) group (step_in op l) k (inside l lt) word;
        touched = λ l lt k word. words-of (touched_words 1) group (step_in op l) k (inside l lt) word;
      }
    where
      inside : (l : ℕ) → l < v → Contains group (step_in op l)
      inside l lt =
          in-loop (λ l. steps_at p ops (vs ++ (v * b + l) ∷ []) q) 0 v l (step_in op l) (omega arith)
          (omega (arith, lt))
          (Contains-map (λ op. step_of p op (vs ++ (v * b + l) ∷ []) q) ops op has)
