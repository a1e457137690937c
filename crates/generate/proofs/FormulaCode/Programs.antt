-- The program of a formula is its code.
use Rattle.std.proofs.Common.{◌≡◌, ℕ, ◌^◌, ◌<◌, ◌≤◌, List, [], ◌∷◌, ◌++◌, refl, sym, ap, ◌∙◌, arith, subst, reverse}
use Rattle.std.proofs.lemmas.List.{length-map, reverse-append}
use Rattle.generate.specs.FormulaCode.Code.{IsCodeOf}
use Rattle.generate.specs.FormulaCode.Coalesced.{phases_coalesced}
use Rattle.generate.specs.FormulaCode.Letters.{program_as_it_stands}
use Rattle.sigma_lower.specs.OnePhase.{formula_sigma}
use Rattle.sigma_lower.specs.Terms.{term_of}
use Rattle.generate.specs.FormulaPasses.Computes.{formula_merged}
use Rattle.icode.specs.Plain.{PlainProgram}
use Rattle.loop_merge.specs.Coalescing.Copies.{all_coalesced}
use Rattle.loop_merge.proofs.CoalescingLemmas.Passes.{coalesced-order}
use Rattle.loop_merge.proofs.PlainPasses.{in_order_reversed}
use Rattle.sigma_spl.specs.Shared.Machine.{plain_machine}
use Rattle.code_gen.specs.PassCode.Contract.{Performs}
use Rattle.sigma_spl.specs.Shared.Ready.{IsReady}
use Rattle.code_gen.specs.PassCode.Program.{program_of}
use Rattle.sigma_spl.specs.Merge.{passes_of}
use Rattle.sigma_spl.specs.Merged.{PlainMerged}
use Rattle.sigma_spl.specs.Nest.{PlainNest}
use Rattle.sigma_spl.specs.Sigma.{merged_of}
use Rattle.sigma_spl.specs.PlainPasses.{in_order}
use Rattle.spl_ast.specs.Formula.{Formula, parts_of, size_of}
use Rattle.spl_ast.specs.Shape.{IsShaped}
use Rattle.generate.specs.GoodPrograms.{FormulaProgramsAreCode}
use Rattle.code_gen.proofs.WholePrograms.Performs.{programs_perform}
use Rattle.code_gen.proofs.WholePrograms.ReadyPrograms.{ready_can_program}
use Rattle.spl_ast.specs.Halves.Balanced.{balanced}
use Rattle.spl_ast.proofs.HalvesLemmas.Sums.{same_matrix}
use Rattle.generate.proofs.FormulaPasses.Programs.{formulas_are_ready, formulas_compute}
use Rattle.generate.proofs.Performed.{among-leftovers, any-turns}
use Rattle.generate.proofs.FormulaCode.Balanced.{balanced_alike, balanced_shaped}
use Rattle.generate.proofs.FormulaCode.Regrouped.{few_parts, same_code}

-- ---- a program that performs a formula's passes is its code

-- ---- passes in one phase

abbrev in_phase : ℕ → List (List PlainNest) → PlainMerged
in_phase n ps = record { size = n; procs = 1; lanes = 1; phases = ps ∷ [] }

pub formula_coalesced : (m : ℕ) (f : Formula) → phases_coalesced (merged_of (formula_sigma m f)) ≡ formula_merged m f
formula_coalesced m f =
    let ps = passes_of (size_of f) (term_of m [] f) in
    ap (in_phase (size_of f)) (ap all_coalesced (in_order_reversed ps) ∙ sym (coalesced-order ps))

pub can_emit : (m : ℕ) (f : Formula) (g : PlainMerged) → 2 ≤ m → m < 2 ^ 62 → IsShaped f → parts_of f ≤ 65536 →
    g ≡ formula_merged m f → IsReady (plain_machine g.size m) g
can_emit m f g large small shaped few is =
    subst (λ (h : PlainMerged). IsReady (plain_machine h.size m) h) (sym is) (formulas_are_ready m f large small shaped few)

-- ---- code

pub is_code : (m : ℕ) (f : Formula) (p : PlainProgram) → 2 ≤ m → m < 2 ^ 62 → IsShaped f → parts_of f ≤ 65536 →
    Performs (plain_machine (size_of f) m) (formula_merged m f) p → IsCodeOf m f p
is_code m f p large small shaped few performs =
    let computes = formulas_compute m f p large small shaped few performs in
    record {
      header = record { size = performs.size; modulus = performs.modulus; procs = performs.procs; line = performs.line; lanes = performs.lanes };
      limits = performs.limits;
      tables = performs.tables;
      fits = performs.fits;
      phases = length-map _ _ ∙ performs.phases;
      apart = performs.apart;
      product = λ x turns vector _.
          any-turns (plain_machine (size_of f) m) (formula_merged m f) p performs x turns ∙ computes.results x vector;
      again = λ left x turns are vector.
          among-leftovers (plain_machine (size_of f) m) (formula_merged m f) p performs left x turns are vector.size
          ∙ any-turns (plain_machine (size_of f) m) (formula_merged m f) p performs x turns ∙ computes.results x vector;
      fresh = performs.fresh;
      operations = computes.cost 1 (omega arith);
    }

-- ---- letters

pub has_letters : (m : ℕ) (f : Formula) (g : PlainMerged) (p : PlainProgram) → g ≡ formula_merged m f →
    p ≡ program_of (plain_machine g.size m) g → p ≡ program_as_it_stands m f
has_letters m f g p is written = written ∙ ap (λ (h : PlainMerged). program_of (plain_machine h.size m) h) is

-- ---- the program of a formula is its code

-- as its direct sums stand
pub as-it-stands : (m : ℕ) (f : Formula) → 2 ≤ m → m < 2 ^ 62 → IsShaped f → parts_of f ≤ 65536 →
    IsCodeOf m f (program_as_it_stands m f)
as-it-stands m f large small shaped few =
    let g = formula_merged m f in
    is_code m f (program_as_it_stands m f) large small shaped few
    (programs_perform (plain_machine (size_of f) m) g
    (ready_can_program (plain_machine (size_of f) m) g (formulas_are_ready m f large small shaped few)))

pub formula_programs_are_code : FormulaProgramsAreCode
formula_programs_are_code m f large small shaped few =
    let same = balanced_alike f in
    let fits = balanced_shaped f shaped in
    same_code m f (balanced f) (program_as_it_stands m (balanced f)) same
    (same_matrix m f (balanced f) shaped fits same)
    (as-it-stands m (balanced f) large small fits (few_parts f (balanced f) same few))
