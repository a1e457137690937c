-- Straight statements and lists, made one after another.
use Rattle.std.proofs.Common.{◌≡◌, ℕ, suc, ◌+◌, ◌≤◌, List, [], ◌∷◌, ◌++◌, map}
use Rattle.std.proofs.Common.{length, refl, sym, ap, ◌∙◌, arith, append-nil, drop}
use Rattle.std.specs.List.{range_with_len}
use Rattle.std.proofs.lemmas.List.{drop_all}
use Rattle.icode.specs.Plain.{PlainOp, Do, AndStmts, body_of}
use Rattle.icode.proofs.SequenceLemmas.Statements.{range-last}
use Rattle.nests.specs.Rounds.{straight}

-- ---- lists

-- one more round
pub range-more : (n : ℕ) → range_with_len 0 (n + 1) ≡ range_with_len 0 n ++ n ∷ []
range-more n =
    let more : n + 1 ≡ suc n = omega arith in
    let same : 0 + n ≡ n = omega arith in
    ap (range_with_len 0) more ∙ range-last 0 n ∙ ap (λ k. range_with_len 0 n ++ k ∷ []) same

-- operations, one by one
pub straight_is : (ops : List PlainOp) → straight ops ≡ body_of (map Do ops)
straight_is [] = refl
straight_is (op ∷ ops) = ap (AndStmts (Do op)) (straight_is ops)

-- ---- loops of the code

-- what is made is all of it, where none is left
pub whole : {X Y : Type 0} (f : List X → List Y) (i : ℕ) (xs : List X) (made : List Y) → length xs ≤ i →
    made ++ f (drop i xs) ≡ f xs →
    f [] ≡ [] → made ≡ f xs
whole f i xs made le h nothing =
    sym (append-nil made) ∙ ap (λ ys. made ++ ys) (sym nothing ∙ ap f (sym (drop_all i xs le))) ∙ h
