-- The lists of a code: a row for each phase, with a list for each processor.
use Rattle.std.proofs.Common.{◌≡◌, ℕ, zero, suc, ◌<◌, ◌≤◌, List, [], ◌∷◌, map, refl, sym, subst, arith}
use Rattle.std.proofs.Common.{⊎_elim}
use Rattle.std.specs.Prelude.{slice_index_or}
use Rattle.std.specs.List.{range_with_len}
use Rattle.std.proofs.lemmas.Bool.{cases_lt}
use Rattle.std.proofs.lemmas.List.{get_or_past}
use Rattle.std.proofs.lemmas.List.FromFn.{get_or-map-range_with_len, length-map-range_with_len}
use Rattle.word_code.specs.WordMachine.{WordAction, word_acts}
use Rattle.word_code.specs.WordProgram.{WordBody, NoStmts, PlainWordProgram, word_actions_of_body, word_code}

module _ (w : PlainWordProgram) where
  abbrev row : WordBody → List (List WordAction)
  row body = map (λ q. word_actions_of_body w body [] q) (range_with_len 0 w.frame.procs)

  -- what a processor below their number does in a phase is what its body says
  pub acts_are : (phase q : ℕ) → q < w.frame.procs →
      word_acts (word_code w) phase q ≡ word_actions_of_body w (slice_index_or w.phases phase NoStmts) [] q
  acts_are phase q lt = at w.phases phase
    where
      at : (bodies : List WordBody) (phase : ℕ) → slice_index_or (slice_index_or (map row bodies) phase []) q []
          ≡ word_actions_of_body w (slice_index_or bodies phase NoStmts) [] q
      at [] phase = refl
      at (body ∷ bodies) zero =
          get_or-map-range_with_len (λ q. word_actions_of_body w body [] q) 0 w.frame.procs q q [] lt (omega arith)
      at (body ∷ bodies) (suc phase) = at bodies phase

  -- and the others do nothing
  pub none_past : (phase q : ℕ) → w.frame.procs ≤ q → word_acts (word_code w) phase q ≡ []
  none_past phase q ge = at w.phases phase
    where
      at : (bodies : List WordBody) (phase : ℕ) → slice_index_or (slice_index_or (map row bodies) phase []) q [] ≡ []
      at [] phase = refl
      at (body ∷ bodies) zero =
          let a = length-map-range_with_len (λ q. word_actions_of_body w body [] q) 0 w.frame.procs in
          get_or_past (row body) q [] (omega (arith, a, ge))
      at (body ∷ bodies) (suc phase) = at bodies phase

  -- what an empty list has and what the bodies have, all lists have
  pub lists_have : (P : List WordAction → Type 0) → P [] →
      ((phase q : ℕ) → q < w.frame.procs → P (word_actions_of_body w (slice_index_or w.phases phase NoStmts) [] q)) →
      (phase q : ℕ) → P (word_acts (word_code w) phase q)
  lists_have P none each phase q =
      ⊎_elim
      (λ (lt : q < w.frame.procs). subst P (sym (acts_are phase q lt)) (each phase q lt))
      (λ (ge : w.frame.procs ≤ q). subst P (sym (none_past phase q ge)) none)
      (cases_lt q w.frame.procs)
