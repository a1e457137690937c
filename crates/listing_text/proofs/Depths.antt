-- Loops within the limits of programs stand no deeper than these limits.
use Rattle.std.proofs.Common.{◌≡◌, ℕ, ◌+◌, true, ltb, ◌&&◌, List, [], ◌∷◌, refl}
use Rattle.std.specs.List.{list_all}
use Rattle.std.proofs.lemmas.Bool.{and_parts, and_from}
use Rattle.icode.specs.Plain.{PlainStmt, PlainBody, Loop, Do, NoStmts, AndStmts}
use Rattle.icode.specs.Limits.{is_small_positive, is_stmt_within, is_body_within, are_phases_within}
use Rattle.listing_text.specs.Nests.{is_nest_within, are_nests_within}

mutual
  stmt_nests : (m : ℕ) (s : PlainStmt) (depth : ℕ) → is_stmt_within m s depth ≡ true → is_nest_within s depth ≡ true
  stmt_nests m (Loop count body) depth h =
      let deep = (and_parts (is_small_positive count) (ltb depth 64 && is_body_within m body (depth + 1)) h).1 in
      let parts = and_parts (ltb depth 64) (is_body_within m body (depth + 1)) deep in
      and_from (ltb depth 64) (are_nests_within body (depth + 1)) parts.0 (body_nests m body (depth + 1) parts.1)
  stmt_nests m (Do op) depth h = refl

  pub body_nests : (m : ℕ) (b : PlainBody) (depth : ℕ) → is_body_within m b depth ≡ true →
      are_nests_within b depth ≡ true
  body_nests m NoStmts depth h = refl
  body_nests m (AndStmts s rest) depth h =
      let parts = and_parts (is_stmt_within m s depth) (is_body_within m rest depth) h in
      and_from (is_nest_within s depth) (are_nests_within rest depth) (stmt_nests m s depth parts.0) (body_nests m rest depth parts.1)

all_nest : (m : ℕ) (phases : List PlainBody) → list_all (λ b. is_body_within m b 0) phases ≡ true →
    list_all (λ b. are_nests_within b 0) phases ≡ true
all_nest m [] h = refl
all_nest m (b ∷ phases) h =
    let parts = and_parts (is_body_within m b 0) (list_all (λ b. is_body_within m b 0) phases) h in
    and_from (are_nests_within b 0) (list_all (λ b. are_nests_within b 0) phases) (body_nests m b 0 parts.0) (all_nest m phases parts.1)

pub phases_nest : (m : ℕ) (phases : List PlainBody) → are_phases_within m phases ≡ true →
    list_all (λ b. are_nests_within b 0) phases ≡ true
phases_nest m phases h = all_nest m phases (and_parts _ (list_all (λ b. is_body_within m b 0) phases) h).1
