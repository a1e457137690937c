-- A tree of a request does what the request asks for.
use Rattle.std.proofs.Common.{◌≡◌, ℕ, ◌*◌, ◌/◌, ◌%◌, ◌^◌, List, arith, sym, ap, ap₂, ◌∙◌}
use Rattle.std.proofs.Math.Nat.{div_self, mod-eq_of_lt, one-mul, pow-suc, pow-zero}
use Rattle.matrix_meaning.specs.Asked.{asked_of}
use Rattle.matrix_meaning.specs.declared.Dimensions.TheVariants.{One}
use Rattle.matrix_meaning.specs.declared.Request.{Request}
use Rattle.matrix_meaning.specs.Kind.{transform}
use Rattle.matrix_meaning.specs.Parts.{first_of, rest_of}
use Rattle.matrix_meaning.specs.Valid.{IsValid}
use Rattle.matrix_meaning.proofs.Asked.{asked_by_parts, asked_of_one}
use Rattle.matrix_meaning.proofs.Parts.{first_is_valid, rest_is_valid}
use Rattle.operators.specs.Operator.{on_blocks, on_columns}
use Rattle.operators.proofs.Lists.{on_blocks-same, on_columns-same}
use Rattle.ring_mod.specs.Residue.{power_mod}
use Rattle.tree_model.specs.declared.tree.Rule.TheVariants.{Gt, Ct, Split, Dim}
use Rattle.tree_model.specs.Breakdown.{Breakdown, leaf, node, size_of}
use Rattle.tree_model.specs.Cost.{node_root}
use Rattle.tree_model.specs.Laws.{NodesDoWhatIsAsked}
use Rattle.tree_model.specs.Whole.{IsTreeOf, node_on, node_transform}

-- the root of the whole is the request's
pub root_of_whole : (c : Request) → IsValid c → node_root c c.size ≡ c.root
unfolding power_mod
root_of_whole c valid =
    let some = valid.in_range.size in
    let one : c.size / c.size ≡ 1 = div_self (omega (arith, some)) in
    ap (λ e. c.root ^ e % c.modulus) one
    ∙ ap (λ v. v % c.modulus) (pow-suc c.root 0 ∙ ap (λ v. v * c.root) (pow-zero c.root) ∙ one-mul c.root)
    ∙ mod-eq_of_lt valid.in_range.root

-- a node of the whole size does what a request of one size asks for
one_asked : (c : Request) (d : ℕ) (x : List ℕ) → IsValid c → c.dimensions ≡ One → d ≡ c.size →
    node_transform c d x ≡ asked_of c x
one_asked c d x valid one size =
    ap (λ n. node_transform c n x) size
    ∙ ap (λ w. transform c.kind c.modulus c.size w x) (root_of_whole c valid)
    ∙ sym (asked_of_one c x one)

tree_asked : (c : Request) (t : Breakdown) (x : List ℕ) → IsValid c → IsTreeOf c t → size_of t ≡ c.size →
    node_on c t x ≡ asked_of c x
tree_asked c (leaf d) x valid h size = one_asked c d x valid h.0 size
tree_asked c (node Gt a b) x valid h size = one_asked c (size_of a * size_of b) x valid h.2.0 size
tree_asked c (node Ct a b) x valid h size = one_asked c (size_of a * size_of b) x valid h.2.0 size
tree_asked c (node Split a b) x valid h size = one_asked c (size_of a * size_of b) x valid h.2.0 size
tree_asked c (node Dim a b) x valid h size =
    let several = h.2.0 in
    let first = first_of c in
    let rest = rest_of c in
    let rows : on_blocks (size_of a) (size_of b) (node_on rest b) x
    ≡ on_blocks (size_of a) (size_of b) (asked_of rest) x =
    on_blocks-same (size_of a) (size_of b) (node_on rest b) (asked_of rest) x
    (λ y. tree_asked rest b y (rest_is_valid c valid several) h.4 h.2.2) in
    on_columns-same (size_of a) (size_of b) (node_on first a) (asked_of first)
    (on_blocks (size_of a) (size_of b) (node_on rest b) x)
    (λ y. tree_asked first a y (first_is_valid c valid several) h.3 h.2.1)
    ∙ ap (λ y. on_columns (size_of a) (size_of b) (asked_of first) y) rows
    ∙ ap₂ (λ r s. on_columns r s (asked_of first) (on_blocks r s (asked_of rest) x)) h.2.1 h.2.2
    ∙ sym (asked_by_parts c x valid.in_range several)

pub nodes_do_what_is_asked : NodesDoWhatIsAsked
nodes_do_what_is_asked c t x valid kind h size = tree_asked c t x valid h size
