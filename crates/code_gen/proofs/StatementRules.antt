-- The statements of works, put together.
use Rattle.std.proofs.Common.{◌≡◌, ℕ, ◌+◌, ◌≤◌, List, length, get_or, map, sym, ap, ◌∙◌, arith, subst, Option, Some}
use Rattle.std.proofs.lemmas.List.{get_or-map, length-map}
use Rattle.icode.specs.declared.program.Array.{Array}
use Rattle.icode.specs.Plain.{PlainBody, PlainExpr, PlainOp, AndStmts, Do, Store}
use Rattle.sigma_spl.specs.Shared.Machine.{PlainFrame}
use Rattle.code_gen.specs.PassCode.Conditions.{CanWrite}
use Rattle.code_gen.specs.PassCode.Statements.{do_only, finish_body, followed_by, one_factor, place_at, product_op}
use Rattle.sigma_spl.specs.Nest.{PlainMultiplier}
use Rattle.perm_algebra.specs.Affine.{Sum, constant}
use Rattle.perm_algebra.specs.Views.{plain_sum}
use Rattle.perm_algebra.specs.declared.Affine.{Affine}
use Rattle.code_gen.specs.Conditions.{HasPlaces}
use Rattle.code_gen.proofs.PlainRules.{followed-one}

-- a place of the code can be written
pub writable-at : (sums : List Affine) (i : ℕ) (e : Affine) → HasPlaces (i + 1) (map plain_sum sums) →
    e ≡ get_or sums i e → CanWrite (plain_sum e)
writable-at sums i e places is =
    let long : length (map plain_sum sums) ≡ length sums = length-map sums plain_sum in
    let enough : i + 1 ≤ length (map plain_sum sums) = places.enough in
    let item : CanWrite (get_or (map plain_sum sums) i (constant 0)) = places.writable i (constant 0) (omega arith) in
    subst CanWrite (get_or-map plain_sum sums i e (constant 0) (omega arith) ∙ ap plain_sum (sym is)) item

module _ (f : PlainFrame) where
  -- a product, and the store of it
  pub stored-product : (old one two : PlainBody) (o : Option PlainMultiplier) (m : PlainMultiplier)
      (scatters : List Sum) (place : PlainExpr) (step open_loops table : ℕ) (target : Array) (item from free : ℕ) →
      o ≡ Some m → place ≡ place_at f open_loops scatters item →
      one ≡ followed_by old
      (do_only (product_op (one_factor m.factors) free from table (place_at f open_loops m.places item) step)) →
      two ≡ followed_by one (do_only (Store target place free)) →
      two ≡ followed_by old (finish_body f step o scatters open_loops table target item from free)
  stored-product old one two o m scatters place step open_loops table target item from free is to first second =
      let op : PlainOp = product_op (one_factor m.factors) free from table (place_at f open_loops m.places item) step in
      second ∙ ap (λ (b : PlainBody). followed_by b (do_only (Store target place free))) first
      ∙ followed-one old (do_only (Store target place free)) (Do op)
      ∙ ap (λ (p : PlainExpr). followed_by old (AndStmts (Do op) (do_only (Store target p free)))) to
      ∙ sym (ap (λ (z : Option PlainMultiplier). followed_by old (finish_body f step z scatters open_loops table target item from free)) is)
