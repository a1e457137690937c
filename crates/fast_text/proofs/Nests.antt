-- The loops of programs within their limits can be counted on.
use Rattle.std.proofs.Common.{◌≡◌, ℕ, ◌+◌, true, ltb, ◌&&◌, List, [], ◌∷◌, length, map, refl}
use Rattle.std.specs.List.{list_all}
use Rattle.std.proofs.lemmas.Bool.{and_parts, and_from}
use Rattle.icode.specs.Limits.{is_small_positive, is_op_within, is_stmt_within, is_body_within}
use Rattle.icode.specs.Plain.{PlainOp, Tile}
use Rattle.word_code.specs.Bare.{bare_stmt, bare_body}
use Rattle.word_code.specs.WordProgram.{WordStmt, WordBody, PlainWordProgram, Loop, Do, NoStmts, AndStmts}
use Rattle.fast_text.specs.WordNests.{is_tile_small, is_word_nest_within, are_word_nests_within}
use Rattle.fast_text.specs.WordNests.{are_word_phases_within}
use Rattle.fast_text.specs.WordTexts.{IsSpellable}

tile_small : (m : ℕ) (op : PlainOp) (depth : ℕ) → is_op_within m op depth ≡ true → is_tile_small op ≡ true
tile_small m (Tile register source) depth h = h
tile_small m _ depth h = refl

module _ (m : ℕ) where
  mutual
    stmt_nests : (s : WordStmt) (depth : ℕ) → is_stmt_within m (bare_stmt s) depth ≡ true → is_word_nest_within s
        depth ≡ true
    stmt_nests (Loop count body) depth h =
        let deep = (and_parts (is_small_positive count) (ltb depth 64 && is_body_within m (bare_body body)
        (depth + 1)) h).1 in
        let parts = and_parts (ltb depth 64) (is_body_within m (bare_body body) (depth + 1)) deep in
        and_from (ltb depth 64) (are_word_nests_within body (depth + 1)) parts.0 (body_nests body (depth + 1) parts.1)
    stmt_nests (Do note op) depth h = tile_small m op depth h

    body_nests : (b : WordBody) (depth : ℕ) → is_body_within m (bare_body b) depth ≡ true → are_word_nests_within b
        depth ≡ true
    body_nests NoStmts depth h = refl
    body_nests (AndStmts s rest) depth h =
        let parts = and_parts (is_stmt_within m (bare_stmt s) depth) (is_body_within m (bare_body rest) depth) h in
        and_from (is_word_nest_within s depth) (are_word_nests_within rest depth) (stmt_nests s depth parts.0)
        (body_nests rest depth parts.1)

  phases_nest : (phases : List WordBody) → list_all (λ b. is_body_within m b 0) (map bare_body phases) ≡ true
      → are_word_phases_within phases ≡ true
  phases_nest [] h = refl
  phases_nest (b ∷ phases) h =
      let parts = and_parts (is_body_within m (bare_body b) 0)
      (list_all (λ b. is_body_within m b 0) (map bare_body phases)) h in
      and_from (are_word_nests_within b 0) (are_word_phases_within phases) (body_nests b 0 parts.0)
      (phases_nest phases parts.1)

pub spellable_nests : (p : PlainWordProgram) → IsSpellable p → are_word_phases_within p.phases ≡ true
spellable_nests p s =
    phases_nest p.frame.modulus p.phases
    (and_parts (ltb 0 (length (map bare_body p.phases))) (list_all (λ b. is_body_within p.frame.modulus b 0)
    (map bare_body p.phases)) s.within.statements).1
