-- Programs on words whose statements go by other routes are read back from their texts as those that they are made of.
use Rattle.std.proofs.Common.{◌≡◌, ℕ, ◌+◌, ltb, ◌&&◌, List, [], ◌∷◌, length, map, refl, sym, ap, ap₂, ◌∙◌}
use Rattle.std.specs.List.{list_all}
use Rattle.std.proofs.lemmas.List.{length-map}
use Rattle.icode.specs.Limits.{is_small_positive, is_op_within, is_stmt_within, is_body_within, are_phases_within}
use Rattle.icode.specs.Plain.{PlainOp, PlainProgram, Load, Store}
use Rattle.word_code.specs.Bare.{bare_stmt, bare_body}
use Rattle.word_code.specs.InPlace.Sharing.{in_place, routes_of}
use Rattle.word_code.specs.InPlace.Routes.{rerouted_op, rerouted_stmt, rerouted_body, rerouted_phase}
use Rattle.word_code.specs.WordProgram.{Note, WordStmt, WordBody, PlainWordProgram, Loop, Do, NoStmts, AndStmts}
use Rattle.fast_text.specs.WordTexts.{is_reduction_of_words, is_note_of, has_notes_of_words, have_notes_of_words}
use Rattle.fast_text.specs.WordTexts.{IsSpellable}

op-within : (route : _) (m : ℕ) (op : PlainOp) (depth : ℕ) → is_op_within m (rerouted_op route op) depth ≡
    is_op_within m op depth
op-within route m (Load register array place) depth = refl
op-within route m (Store array place register) depth = refl
op-within route m op depth = refl

note-same : (route : _) (op : PlainOp) (note : Note) → is_note_of (rerouted_op route op) note ≡ is_note_of op note
note-same route (Load register array place) note = refl
note-same route (Store array place register) note = refl
note-same route op note = refl

mutual
  stmt-within : (route : _) (m : ℕ) (stmt : WordStmt) (depth : ℕ) → is_stmt_within m
      (bare_stmt (rerouted_stmt route stmt)) depth
      ≡ is_stmt_within m (bare_stmt stmt) depth
  stmt-within route m (Loop count body) depth =
      ap (λ b. is_small_positive count && (ltb depth 64 && b)) (body-within route m body (depth + 1))
  stmt-within route m (Do note op) depth = op-within route m op depth

  body-within : (route : _) (m : ℕ) (body : WordBody) (depth : ℕ) → is_body_within m
      (bare_body (rerouted_body route body)) depth
      ≡ is_body_within m (bare_body body) depth
  body-within route m NoStmts depth = refl
  body-within route m (AndStmts stmt rest) depth =
      ap₂ (λ a b. a && b) (stmt-within route m stmt depth) (body-within route m rest depth)

mutual
  stmt-notes : (route : _) (stmt : WordStmt) → has_notes_of_words (rerouted_stmt route stmt) ≡ has_notes_of_words stmt
  stmt-notes route (Loop count body) = body-notes route body
  stmt-notes route (Do note op) = ap (λ b. list_all is_reduction_of_words note.before && b) (note-same route op note)

  body-notes : (route : _) (body : WordBody) → have_notes_of_words (rerouted_body route body) ≡ have_notes_of_words body
  body-notes route NoStmts = refl
  body-notes route (AndStmts stmt rest) = ap₂ (λ a b. a && b) (stmt-notes route stmt) (body-notes route rest)

phase-within : (routes : List _) (m : ℕ) (body : WordBody) → is_body_within m (bare_body (rerouted_phase routes body)) 0
    ≡ is_body_within m (bare_body body) 0
phase-within [] m NoStmts = refl
phase-within [] m (AndStmts stmt rest) = refl
phase-within (route ∷ routes) m NoStmts = refl
phase-within (route ∷ routes) m (AndStmts stmt rest) = ap₂ (λ a b. a && b) (stmt-within route m stmt 0)
    (phase-within routes m rest)

phase-notes : (routes : List _) (body : WordBody) → have_notes_of_words (rerouted_phase routes body) ≡
    have_notes_of_words body
phase-notes [] NoStmts = refl
phase-notes [] (AndStmts stmt rest) = refl
phase-notes (route ∷ routes) NoStmts = refl
phase-notes (route ∷ routes) (AndStmts stmt rest) = ap₂ (λ a b. a && b) (stmt-notes route stmt)
    (phase-notes routes rest)

bodies-within : (routes : List _) (m : ℕ) (phases : List WordBody) →
    list_all (λ b. is_body_within m b 0) (map bare_body (map (rerouted_phase routes) phases))
    ≡ list_all (λ b. is_body_within m b 0) (map bare_body phases)
bodies-within routes m [] = refl
bodies-within routes m (body ∷ phases) = ap₂ (λ a b. a && b) (phase-within routes m body)
    (bodies-within routes m phases)

phases-notes : (routes : List _) (phases : List WordBody) →
    list_all have_notes_of_words (map (rerouted_phase routes) phases) ≡ list_all have_notes_of_words phases
phases-notes routes [] = refl
phases-notes routes (body ∷ phases) = ap₂ (λ a b. a && b) (phase-notes routes body) (phases-notes routes phases)

phases-within : (routes : List _) (m : ℕ) (phases : List WordBody) →
    are_phases_within m (map bare_body (map (rerouted_phase routes) phases)) ≡ are_phases_within m
    (map bare_body phases)
phases-within routes m phases =
    let count : length (map bare_body (map (rerouted_phase routes) phases)) ≡ length (map bare_body phases) =
    length-map (map (rerouted_phase routes) phases) bare_body ∙ length-map phases (rerouted_phase routes) ∙ sym
    (length-map phases bare_body) in
    ap₂ (λ n b. ltb 0 n && b) count (bodies-within routes m phases)

pub in_place_spells : (p : PlainProgram) (words : PlainWordProgram) → IsSpellable words → IsSpellable (in_place p words)
in_place_spells p words s =
    let routes = routes_of p p.phases in
    record {
      within = record {
        header = s.within.header;
        constants = s.within.constants;
        statements = phases-within routes words.frame.modulus words.phases ∙ s.within.statements;
      };
      frame = s.frame;
      half = s.half;
      quotients = s.quotients;
      notes = phases-notes routes words.phases ∙ s.notes;
    }
