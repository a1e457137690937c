-- The law of coalesced loops.
use Rattle.std.proofs.Common.{◌≡◌, ℕ, List, [], ◌∷◌, map, length, refl, ap, ap₂, ◌∙◌, subst, Contains, arith}
use Rattle.std.specs.Prelude.{slice_index_or}
use Rattle.std.specs.List.{range_with_len}
use Rattle.std.proofs.Math.Path.{fun_ext}
use Rattle.std.proofs.lemmas.List.{length-map}
use Rattle.icode.specs.declared.action.Action.{Action}
use Rattle.icode.specs.Actions.{PlainFits, steps_of_phase, actions_of, plain_code}
use Rattle.icode.specs.Plain.{PlainBody, PlainProgram, NoStmts}
use Rattle.coalesced_loops.specs.Coalesced.{coalesced_body, coalesced}
use Rattle.coalesced_loops.specs.Laws.{CoalescedDoesTheSame}
use Rattle.nests.proofs.InPlace.{no-more, body_is, row, phase-is, members-fit}
use Rattle.coalesced_loops.proofs.Steps.{body_coalesced}

module _ (p : PlainProgram) where
  abbrev there : PlainProgram
  there = coalesced p

  -- ---- the lists of actions

  rows_there : (bodies : List PlainBody) → map (row there) (map (coalesced_body 0) bodies) ≡ map (row p) bodies
  rows_there [] = refl
  rows_there (body ∷ bodies) =
      ap₂ (λ (r : List (List Action)) rs. r ∷ rs)
      (ap (λ (f : ℕ → List Action). map f (range_with_len 0 p.procs))
      (fun_ext (λ q. ap actions_of
      (body_is p there.phases (coalesced_body 0 body) [] q ∙ body_coalesced p q 0 body [] refl))))
      (rows_there bodies)

  code_there : plain_code there ≡ plain_code p
  code_there =
      ap (λ (lists : List (List (List Action))). record (plain_code p) { lists = lists }) (rows_there p.phases)

  -- ---- what fits

  phase_there : (phase q : ℕ) → steps_of_phase there phase q ≡ steps_of_phase p phase q
  phase_there phase q =
      phase-is (coalesced_body 0) refl p.phases p phase q
      ∙ body_coalesced p q 0 (slice_index_or p.phases phase NoStmts) [] refl

  fits_there : PlainFits p → PlainFits there
  fits_there fits =
      record {
        few = no-more p there fits (length-map p.phases (coalesced_body 0)) (λ phase q lt.
            let e = ap (λ steps. length steps) (phase_there phase q) in omega (arith, e));
        each = λ phase q lt. members-fit p there.phases (steps_of_phase there phase q) (steps_of_phase p phase q)
            (fits.each phase q lt) (λ s has. subst (λ steps. Contains steps s) (phase_there phase q) has);
      }

pub coalesced_does_the_same : CoalescedDoesTheSame
coalesced_does_the_same p = record { code = code_there p; fits = fits_there p }
