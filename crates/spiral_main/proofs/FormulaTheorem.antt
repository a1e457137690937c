-- The theorem of the commands for formulas and for convolutions, from the laws on them.
use Rattle.std.proofs.Common.{Bool, ◌≡◌, ◌≤◌, ◌<◌, ◌^◌, ◌∙◌, ℕ, true, false, List, [], ◌∷◌, None, Ok, ap, arith}
use Rattle.std.proofs.Common.{codes, inr, refl}
use Rattle.std.proofs.Common.{sym}
use Rattle.std.proofs.lemmas.List.Elements.{All-nil}
use Rattle.std.specs.declared.option.Option.{Option}
use Rattle.commands.specs.Convolutions.ConvPlanned.{IsConvPlanned}
use Rattle.commands.specs.Convolutions.Convolving.{IsConvRequest}
use Rattle.commands.specs.Emission.Whole.{conv_emission}
use Rattle.commands.specs.Equations.Formulas.{formed}
use Rattle.commands.specs.Equations.Front.{line}
use Rattle.commands.specs.Formulas.Letters.{program_for}
use Rattle.spl_ast.specs.Meaning.{IsVector}
use Rattle.commands.specs.Input.Commands.{admitted, first_stranger}
use Rattle.commands.proofs.FormulaLemmas.Programs.{formula_programs_are_code}
use Rattle.commands.proofs.FormulaLemmas.Shaped.{written_few, written_shaped}
use Rattle.commands.proofs.GoodPrograms.{conv_programs_convolve}
use Rattle.io_edge.specs.Told.{Told}
use Rattle.listing_text.specs.Listing.{listing_of}
use Rattle.matrix_meaning.specs.Convolution.{convolution}
use Rattle.matrix_meaning.specs.declared.Request.{Request}
use Rattle.request_text.proofs.Judged.{conv_in_range}
use Rattle.schedules.specs.Turns.{named}
use Rattle.runs.specs.Stream.{lines}
use Rattle.spiral_main.specs.FormulaTheorem.{FormulasAreRight, IsRightCode, IsRightConvolver, IsRightFormulaAnswer}
use Rattle.spiral_main.specs.FormulaTheorem.{IsRightFormulaRun}
use Rattle.spiral_main.specs.Outcome.{Accounts, AccountsFor}
use Rattle.spiral_main.specs.RightFront.{vectors_behind}
use Rattle.spiral_main.proofs.Accounts.{told_input}
use Rattle.spiral_main.proofs.RightFront.{applied_is_right, convolved_is_right, convolver_is_first, listing_is_right}
use Rattle.spiral_main.proofs.Theorem.{leaves_asked, lists, what_was_read, writes}
use Rattle.spiral_words.specs.Statuses.Status.{IsDefined}
use Rattle.spiral_words.specs.declared.Command.TheVariants as command
use Rattle.spiral_words.specs.declared.FormulaCommand.TheVariants as formula_command
use Rattle.spiral_words.specs.declared.statuses.status.Status.{Status}
use Rattle.spl_ast.specs.Formula.{Formula, parts_of, size_of}
use Rattle.spl_ast.specs.Meaning as formulas
use Rattle.spl_ast.specs.Shape.{IsShaped}
use Rattle.tree_model.specs.Breakdown.{Breakdown}

pub right_code : (m : ℕ) (f : Formula) → 2 ≤ m → m < 2 ^ 62 → IsShaped f → parts_of f ≤ 65536 →
    IsRightCode m f (program_for m f)
right_code m f large small shaped few =
    let good = formula_programs_are_code m f large small shaped few in
    record {
      header = good.header;
      phases = good.phases;
      leaves = leaves_asked (IsVector m (size_of f)) (formulas.apply m f) (program_for m f) good.limits good.tables
          good.fits good.fresh good.apart
          (λ x vector. vector.size ∙ sym good.header.size)
          (λ x vector. good.product x [] vector (All-nil (λ q. q < 1)));
      operations = good.operations;
    }

pub right_convolver : (r : Request) (t : Breakdown) (h : List ℕ) → IsConvRequest r → IsConvPlanned r (Ok t) →
    IsRightConvolver r t h (conv_emission r t h)
right_convolver r t h able planned =
    let good = conv_programs_convolve r t h able planned in
    record {
      header = good.header;
      phases = good.phases;
      leaves = leaves_asked (IsVector r.modulus r.size) (convolution r.modulus r.size h) (conv_emission r t h) good.limits good.tables
          good.fits good.fresh good.apart
          (λ x vector. vector.size ∙ sym good.header.size)
          (λ x vector. good.product x [] vector (All-nil (λ q. q < r.procs)));
      operations = good.operations;
      loads = good.loads;
      stores = good.stores;
      cheapest = λ u is. let less = planned.2.least u is in omega (arith, less);
    }

right_answer : (words : List (List ℕ)) (bytes left : List ℕ) (ended : Bool) (before after : Option (List ℕ))
    (status : Status)
    → Accounts words bytes left ended before after status → IsDefined status
    → IsRightFormulaAnswer words bytes before after status
right_answer words bytes left ended before after status accounts well = record {
  compile = λ options m f found modulus right.
      let program = program_for m f in
      let first = (line 65536).first bytes in
      let few : parts_of f ≤ 65536 =
      (let most = written_few first f right.spells in let short = right.short in omega (arith, most, short)) in
      let own = right_code m f modulus.1 modulus.0.0 (written_shaped first f right.spells) few in
      writes words bytes left ended before after status _ (listing_of program) accounts well
      (inr (
        command.ByFormula m formula_command.Compile,
        (codes "compile", options, found, (refl, modulus)),
        listing_is_right m bytes f right.short right.spells,
      ))
      (lists (IsRightCode m f) program own own.leaves.listed);
  apply = λ options m schedule f found modulus scheduled none right vectors.
      let text = lines (formulas.apply m f) (vectors_behind (line 65536) (size_of f) m bytes) in
      let gives : formed (named schedule) ((line 65536).first bytes) (Ok f) =
      record {
        value = f;
        before = right.spells;
        behind = sym (ap (λ stranger. admitted stranger 1 f) none);
      } in
      writes words bytes left ended before after status (λ t. t ≡ text) text accounts well
      (inr (
        command.ByFormula m (formula_command.Apply schedule),
        (codes "apply", options, found, (refl, modulus, scheduled)),
        applied_is_right m schedule bytes f right.short gives vectors,
      ))
      refl;
  convolver = λ options schedule plan h later found scheduled listed right seen.
      let program = conv_emission plan.request plan.tree h in
      let able = conv_in_range ((line 256).first bytes) plan.request right.spells.0 right.spells.1 in
      let own = right_convolver plan.request plan.tree h able right.planned in
      writes words bytes left ended before after status _ (listing_of program) accounts well
      (inr (
        command.ByList schedule true,
        (codes "convolve", options, found, (refl, scheduled, listed)),
        convolver_is_first schedule bytes plan h later (listing_of program) right seen refl,
      ))
      (lists (IsRightConvolver plan.request plan.tree h) program own own.leaves.listed);
  convolve = λ options schedule plan h later found scheduled unlisted right vectors same.
      let text = lines (convolution plan.request.modulus plan.request.size h) later in
      writes words bytes left ended before after status (λ t. t ≡ text) text accounts well
      (inr (
        command.ByList schedule false,
        (codes "convolve", options, found, (refl, scheduled, unlisted)),
        convolved_is_right schedule bytes plan h later text right vectors same refl,
      ))
      refl;
}

pub formulas_are_right : FormulasAreRight
formulas_are_right words bytes input input' before after status tells told well =
    let rest = told_input words bytes input input' before after status tells told in
    right_answer words bytes rest.0 input'.ended before after status rest.2 well

pub formula_run_is_right : (words : List (List ℕ)) (input input' : Told) (before after : Option (List ℕ))
    (status : Status)
    → AccountsFor words input input' before after status → IsDefined status
    → IsRightFormulaRun words input input' before after status
formula_run_is_right words input input' before after status told well =
    what_was_read (λ bytes. IsRightFormulaAnswer words bytes before after status) words input input' before after status
    told (λ bytes left accounts. right_answer words bytes left input'.ended before after status accounts well)
