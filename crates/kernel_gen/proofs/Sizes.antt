-- The sizes of the trees that stand for a node of a request's transform.
use Rattle.std.proofs.Common.{◌≡◌, ℕ, ◌%◌, ◌^◌, ◌<◌, ◌≤◌, inl, inr, arith}
use Rattle.std.proofs.Math.Nat.{mod-eq_of_lt}
use Rattle.std.proofs.lemmas.Bool.{cases_lt}
use Rattle.matrix_meaning.specs.declared.Request.{Request}
use Rattle.matrix_meaning.specs.Valid.{IsValid}
use Rattle.tree_model.specs.Breakdown.{Breakdown, size_of, HasWordSizes}
use Rattle.tree_model.proofs.FlatTrees.{tree_word_sizes}
use Rattle.kernel_gen.specs.Nodes.{IsNodeTree}

divisor-below : (n d : ℕ) → 0 < n → n % d ≡ 0 → d ≤ n
divisor-below n d some divides =
    elim (cases_lt n d) [
      | inl less ↦ let whole : n % d ≡ n = mod-eq_of_lt less in absurd (omega arith)
      | inr more ↦ more
    ]

node_below : (c : Request) (t : Breakdown) → IsValid c → c.size % size_of t ≡ 0 → size_of t ≤ 1048576
node_below c t valid divides =
    let size = valid.in_range.size in
    let below = divisor-below c.size (size_of t) (omega arith) divides in
    omega arith

pub node_small : (p : Request) (t : Breakdown) → IsNodeTree p t → size_of t < 2 ^ 32
node_small p t h = let below = node_below p t h.valid h.divides in omega arith

pub node_words : (p : Request) (t : Breakdown) → IsNodeTree p t → HasWordSizes t
node_words p t h = let below = node_below p t h.valid h.divides in tree_word_sizes p t h.tree (omega arith)
