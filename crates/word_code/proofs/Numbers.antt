-- The numbers beside the operations of a program on words are words, so it fits where the program does.
use Rattle.std.proofs.Common.{◌≡◌, ℕ, zero, suc, ◌<◌, ◌≤◌, List, [], ◌∷◌, All, length, map, sym, ap, ◌∙◌, subst}
use Rattle.std.proofs.Common.{arith, mul-le-mul_left}
use Rattle.std.specs.Prelude.{slice_index_or}
use Rattle.std.proofs.Math.Path.{fun_ext}
use Rattle.std.proofs.lemmas.List.{length-map}
use Rattle.std.proofs.lemmas.Simd.{map-map}
use Rattle.std.proofs.lemmas.List.Elements.{All-nil, All-append}
use Rattle.icode.specs.Actions.{StepFits, PlainFits, steps_of_stmt, steps_of_body}
use Rattle.icode.specs.Plain.{PlainBody, PlainProgram}
use Rattle.icode.specs.Plain as plain
use Rattle.nests.proofs.Listed.{all-left, all-right}
use Rattle.word_code.specs.Bare.{NumbersFit, WordsFit}
use Rattle.word_code.specs.Laws.{IsLazyWithin}
use Rattle.word_code.specs.Needs.{needs}
use Rattle.word_code.specs.Quicken.{PlainLaziness, header_of, bound_at, loosest, loosened, quick_stmt, quick_alone}
use Rattle.word_code.specs.Quicken.{quickened}
use Rattle.word_code.specs.Words.{base_of, quotient_of}
use Rattle.word_code.specs.WordMachine.{WordAction}
use Rattle.word_code.specs.WordProgram.{NoStmts, PlainWordProgram, word_actions_of_stmt, word_actions_of_body}
use Rattle.word_code.proofs.Bare.{bare_quickened, phases_cases}
use Rattle.word_code.proofs.Arithmetic.{two_at_least}
use Rattle.word_code.proofs.Flow.{loosened_lazy, stmt_same, body_same}
use Rattle.word_code.proofs.Operations.{sound_of}
use Rattle.word_code.proofs.Programs.{evenly, stmt_leads, phase_leads, loose_long, loose_sane}
use Rattle.word_code.proofs.Rows.{lists_have}

module _ (z : PlainLaziness) (p : PlainProgram) (fits : PlainFits p) (lazy : IsLazyWithin z p.modulus)
    (pos : 0 < p.modulus) where
  abbrev w : PlainWordProgram
  w = quickened z p

  abbrev Fit : WordAction → Type 0
  Fit f = NumbersFit z.width p.regs f

  -- the only phase of the only processor
  alone_numbers : (body : PlainBody) (bounds : List ℕ) (q : ℕ) → length bounds ≡ p.regs →
      ((r : ℕ) → bound_at z.limit bounds r ≤ z.limit) → All (StepFits p) (steps_of_body p body [] q) →
      All Fit (word_actions_of_body w (quick_alone z (header_of p) body bounds).body [] q)
  alone_numbers plain.NoStmts bounds q long sane fit = All-nil Fit
  alone_numbers (plain.AndStmts stmt rest) bounds q long sane fit =
      let n = needs (plain.AndStmts stmt rest) in
      let y = loosened z n in
      let steps = steps_of_stmt p stmt [] q in
      let others = steps_of_body p rest [] q in
      let sound = sound_of y p (loosened_lazy z p.modulus n lazy) pos in
      let one = stmt_leads y p sound stmt bounds [] q long sane (all-left (StepFits p) steps others fit) in
      let first = quick_stmt y (header_of p) stmt bounds in
      All-append Fit (word_actions_of_stmt w first.stmt [] q)
      (word_actions_of_body w (quick_alone z (header_of p) rest first.bounds).body [] q)
      (subst (All Fit) (stmt_same w (evenly y p).phases first.stmt [] q) one.numbers)
      (alone_numbers rest first.bounds q one.long one.sane (all-right (StepFits p) steps others fit))

  phases_numbers : (phase q : ℕ) → q < p.procs →
      All Fit (word_actions_of_body w (slice_index_or w.phases phase NoStmts) [] q)
  phases_numbers phase q lt =
      phases_cases z (header_of p) p.procs p.phases
      (λ bodies. All Fit (word_actions_of_body w (slice_index_or bodies phase NoStmts) [] q))
      (λ body one is. alone body is phase (fits.each phase q lt))
      (subst (All Fit) (body_same w (evenly z p).phases (slice_index_or (evenly z p).phases phase NoStmts) [] q)
      (phase_leads z p (sound_of z p lazy pos) fits phase q lt).numbers)
    where
      alone : (body : PlainBody) → p.phases ≡ body ∷ [] → (phase : ℕ) →
          All (StepFits p) (steps_of_body p (slice_index_or p.phases phase plain.NoStmts) [] q) →
          All Fit (word_actions_of_body w
          (slice_index_or ((quick_alone z (header_of p) body (loosest z (header_of p))).body ∷ []) phase NoStmts) [] q)
      alone body is zero fit =
          let sound = sound_of z p lazy pos in
          alone_numbers body (loosest z (header_of p)) q (loose_long z p sound) (loose_sane z p sound)
          (subst (λ bodies. All (StepFits p) (steps_of_body p (slice_index_or bodies 0 plain.NoStmts) [] q)) is fit)
      alone body is (suc phase) fit = All-nil Fit

-- a quickened program fits where the program does
pub quickened_fits : (z : PlainLaziness) (p : PlainProgram) → PlainFits p → IsLazyWithin z p.modulus → 0 < p.modulus →
    WordsFit (quickened z p)
quickened_fits z p fits lazy pos =
    record {
      fits = subst PlainFits (sym (bare_quickened z p)) fits;
      quotients =
          let quotient : ℕ → ℕ = quotient_of (base_of z.width) p.modulus in
          map-map length (map quotient) p.tables
          ∙ ap (λ long. map long p.tables) (fun_ext (λ entries. length-map entries quotient));
      modulus =
          let two = two_at_least z.width in
          let product = lazy.product in
          let one : 1 ≤ z.limit = omega (arith, two, product) in
          let a = mul-le-mul_left p.modulus one in
          let b = lazy.room in
          omega (arith, a, b);
      numbers = lists_have (quickened z p) (All (NumbersFit z.width p.regs)) (All-nil (NumbersFit z.width p.regs))
          (phases_numbers z p fits lazy pos);
    }
