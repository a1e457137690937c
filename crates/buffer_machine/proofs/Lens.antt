-- How long lists are, and how many stores they have, phase after phase.
use Rattle.std.proofs.Common.{◌≡◌, ℕ, zero, suc, ◌+◌, ◌<◌, ◌≤◌, ◌^◌, List, [], ◌∷◌, ◌++◌, length, refl, sym, ap, ◌∙◌}
use Rattle.std.proofs.Common.{subst, arith, ⊎_elim, length-append}
use Rattle.std.specs.Prelude.{slice_index, slice_index_or}
use Rattle.std.proofs.lemmas.Bool.{cases_eq, cases_lt}
use Rattle.std.proofs.lemmas.List.{get_or_past, length-map}
use Rattle.icode.specs.declared.action.Action.{Action}
use Rattle.icode.specs.declared.program.Program.{Program}
use Rattle.icode.specs.Buffers.{stores_among}
use Rattle.icode.specs.Machine.{acts}
use Rattle.icode.specs.Program.{plain_program, code_of}
use Rattle.buffer_machine.specs.Stand.{HasLens}
use Rattle.buffer_machine.proofs.Fitting.{lens_same}

pub lists_are : (p : Program) → length (code_of p).lists ≡ length p.phases.items
lists_are p = length-map (plain_program p).phases _ ∙ length-map p.phases.items _

-- past the phases there are no actions
pub acts_none : (p : Program) (phase q : ℕ) → length p.phases.items ≤ phase → acts (code_of p) phase q ≡ []
acts_none p phase q le = ap (λ (ls : List (List Action)). slice_index_or ls q []) (get_or_past (code_of p).lists phase [] (omega (arith, lists_are p))) ∙ get_or_past [] q [] (omega arith)

-- of the first n phases
pub record AreLens (p : Program) (lens : List ℕ) (n : ℕ) : Type 0 where
  pub count : length lens ≡ n
  pub each : (phase q : ℕ) → phase < n → q < p.procs → length (acts (code_of p) phase q) ≡ slice_index lens phase

index_front : (xs : List ℕ) (x k : ℕ) → k < length xs → slice_index (xs ++ x ∷ []) k ≡ slice_index xs k
index_front [] x k lt = absurd (omega arith)
index_front (y ∷ xs) x zero lt = refl
index_front (y ∷ xs) x (suc k) lt = index_front xs x k (omega arith)

index_last : (xs : List ℕ) (x k : ℕ) → k ≡ length xs → slice_index (xs ++ x ∷ []) k ≡ x
index_last [] x zero e = refl
index_last [] x (suc k) e = absurd (omega arith)
index_last (y ∷ xs) x zero e = absurd (omega arith)
index_last (y ∷ xs) x (suc k) e = index_last xs x k (omega arith)

pub lens_more : (p : Program) (lens new : List ℕ) (n len : ℕ) → AreLens p lens n → len ≡ length (acts (code_of p) n 0) →
    new ≡ lens ++ len ∷ [] → AreLens p new (n + 1)
lens_more p lens new n len h e en =
    subst (λ (xs : List ℕ). AreLens p xs (n + 1)) (sym en)
    (record {
      count = omega (arith, length-append lens (len ∷ []), h.count);
      each = λ phase q lt small. ⊎_elim
          (λ (same : phase ≡ n). ap (λ k. length (acts (code_of p) k q)) same
          ∙ (lens_same (plain_program p) n q 0 small (omega (arith, p.header.of_procs.0))
          ∙ (sym e ∙ sym (index_last lens len phase (omega (arith, h.count))))))
          (λ (ne : phase ≡ n → ⊥). h.each phase q (omega arith) small ∙ sym (index_front lens len phase (omega (arith, h.count))))
          (cases_eq phase n);
    })

pub lens_all : (p : Program) (lens : List ℕ) (n : ℕ) → length p.phases.items ≤ n → n ≤ length p.phases.items →
    AreLens p lens n → HasLens (code_of p) lens
lens_all p lens n le ge h =
    record {
      count = lists_are p ∙ omega (arith, h.count);
      each = λ phase q small. ⊎_elim
          (λ (lt : phase < n). h.each phase q lt small)
          (λ (past : n ≤ phase). ap length (acts_none p phase q (omega arith)) ∙ sym (get_or_past lens phase 0 (omega (arith, h.count))))
          (cases_lt phase n);
    }

-- Stores

pub record IsMost (p : Program) (most n : ℕ) : Type 0 where
  pub each : (phase q : ℕ) → phase < n → q < p.procs → stores_among (acts (code_of p) phase q) ≤ most
  pub few : most < 2 ^ 59

pub most_more : (p : Program) (most new stores n : ℕ) → IsMost p most n →
    ((q : ℕ) → q < p.procs → stores ≡ stores_among (acts (code_of p) n q)) → most ≤ new → stores ≤ new → new < 2 ^ 59 →
    IsMost p new (n + 1)
most_more p most new stores n h e left right few =
    record {
      each = λ phase q lt small. ⊎_elim
          (λ (same : phase ≡ n). subst (λ k. stores_among (acts (code_of p) k q) ≤ new) (sym same) (omega (arith, e q small)))
          (λ (ne : phase ≡ n → ⊥). omega (arith, h.each phase q (omega arith) small))
          (cases_eq phase n);
      few = few;
    }

pub most_all : (p : Program) (most n : ℕ) → length p.phases.items ≤ n → IsMost p most n → (phase q : ℕ) → q < p.procs →
    stores_among (acts (code_of p) phase q) ≤ most
most_all p most n le h phase q small =
    ⊎_elim
    (λ (lt : phase < n). h.each phase q lt small)
    (λ (past : n ≤ phase). subst (λ (xs : List Action). stores_among xs ≤ most) (sym (acts_none p phase q (omega arith))) (omega arith))
    (cases_lt phase n)
