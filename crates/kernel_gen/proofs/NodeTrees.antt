-- The parts of a node are trees of the requests that they are of.
use Rattle.std.proofs.Common.{◌≡◌, ◌≢◌, ℕ, zero, suc, ◌*◌, ◌/◌, ◌%◌, ◌<◌, ◌≤◌, true, refl, sym, ap, ◌∙◌, arith}
use Rattle.std.proofs.Common.{mul_comm}
use Rattle.std.proofs.Math.Nat.{mod_self, zero-mod}
use Rattle.matrix_meaning.specs.declared.Dimensions.{Dimensions}
use Rattle.matrix_meaning.specs.declared.Dimensions.TheVariants.{One, Two, Three, Four}
use Rattle.matrix_meaning.specs.declared.Kind.TheVariants.{Dft}
use Rattle.matrix_meaning.specs.declared.Request.{Request}
use Rattle.matrix_meaning.specs.Parts.{first_in, first_of, rest_in, rest_of}
use Rattle.matrix_meaning.proofs.Parts.{first_is_valid, rest_is_valid}
use Rattle.ring_mod.proofs.Congruence.{same-from_product}
use Rattle.kernel_gen.specs.Nodes.{IsNodeTree}
use Rattle.tree_model.specs.Breakdown.{Breakdown, node, size_of}
use Rattle.tree_model.specs.Cost.{is_plain}
use Rattle.tree_model.specs.Whole.{left_of, right_of}
use Rattle.tree_model.specs.declared.tree.Rule.{Rule}
use Rattle.tree_model.specs.declared.tree.Rule.TheVariants.{Gt, Ct, Split, Dim}
use Rattle.tree_model.proofs.Splits.{below_product, other_below, product_div}

-- ---- a dimension's request has these fields of the whole

pub record IsPartOf (p q : Request) : Type 0 where
  pub modulus : q.modulus ≡ p.modulus
  pub weight : q.weight ≡ p.weight
  pub unroll : q.unroll ≡ p.unroll
  pub plain : is_plain q ≡ true
  pub kind : q.kind ≡ Dft

first_in-part : (p : Request) (ds : Dimensions) → ds ≢ One → IsPartOf p (first_in p ds)
first_in-part p One some = absurd (some refl)
first_in-part p (Two a b) some = record { modulus = refl; weight = refl; unroll = refl; plain = refl; kind = refl }
first_in-part p (Three a b c) some = record { modulus = refl; weight = refl; unroll = refl; plain = refl; kind = refl }
first_in-part p (Four a b c d) some = record { modulus = refl; weight = refl; unroll = refl; plain = refl; kind = refl }

rest_in-part : (p : Request) (ds : Dimensions) → ds ≢ One → IsPartOf p (rest_in p ds)
rest_in-part p One some = absurd (some refl)
rest_in-part p (Two a b) some = record { modulus = refl; weight = refl; unroll = refl; plain = refl; kind = refl }
rest_in-part p (Three a b c) some = record { modulus = refl; weight = refl; unroll = refl; plain = refl; kind = refl }
rest_in-part p (Four a b c d) some = record { modulus = refl; weight = refl; unroll = refl; plain = refl; kind = refl }

pub first_is_part : (p : Request) → p.dimensions ≢ One → IsPartOf p (first_of p)
first_is_part p some = first_in-part p p.dimensions some

pub rest_is_part : (p : Request) → p.dimensions ≢ One → IsPartOf p (rest_of p)
rest_is_part p some = rest_in-part p p.dimensions some

-- ---- sizes

first_divides : (n r s : ℕ) → n % (r * s) ≡ 0 → n % r ≡ 0
first_divides n r s h = same-from_product r s n 0 (h ∙ sym (zero-mod (r * s))) ∙ zero-mod r

second_divides : (n r s : ℕ) → n % (r * s) ≡ 0 → n % s ≡ 0
second_divides n r s h = first_divides n s r (ap (λ k. n % k) (mul_comm s r) ∙ h)

whole_divides : (n d : ℕ) → d ≡ n → n % d ≡ 0
whole_divides n d same = ap (λ k. n % k) same ∙ mod_self n

pub part-le : (q n size : ℕ) → q * n ≡ size → 0 < size → n ≤ size
part-le zero n size e some = absurd (omega arith)
part-le (suc q) n size e some = omega arith

-- how often the tree's size goes into the request's
pub times_size : (p : Request) (t : Breakdown) → IsNodeTree p t → p.size / size_of t * size_of t ≡ p.size
times_size p t h = mul_comm (p.size / size_of t) (size_of t) ∙ product_div p.size (size_of t) h.divides

pub size-le : (p : Request) (t : Breakdown) → IsNodeTree p t → size_of t ≤ p.size
size-le p t h = part-le (p.size / size_of t) (size_of t) p.size (times_size p t h) h.valid.in_range.size.0

-- ---- the parts of a node

pub left_tree : (p : Request) (rule : Rule) (a b : Breakdown) → IsNodeTree p (node rule a b) →
    IsNodeTree (left_of rule p) a
left_tree p Gt a b h =
    record { valid = h.valid; tree = h.tree.3; divides = first_divides p.size (size_of a) (size_of b) h.divides }
left_tree p Ct a b h =
    record { valid = h.valid; tree = h.tree.3; divides = first_divides p.size (size_of a) (size_of b) h.divides }
left_tree p Split a b h =
    record { valid = h.valid; tree = h.tree.3; divides = first_divides p.size (size_of a) (size_of b) h.divides }
left_tree p Dim a b h = record {
  valid = first_is_valid p h.valid h.tree.2.0;
  tree = h.tree.3;
  divides = whole_divides (first_of p).size (size_of a) h.tree.2.1;
}

pub right_tree : (p : Request) (rule : Rule) (a b : Breakdown) → IsNodeTree p (node rule a b) →
    IsNodeTree (right_of rule p) b
right_tree p Gt a b h =
    record { valid = h.valid; tree = h.tree.4; divides = second_divides p.size (size_of a) (size_of b) h.divides }
right_tree p Ct a b h =
    record { valid = h.valid; tree = h.tree.4; divides = second_divides p.size (size_of a) (size_of b) h.divides }
right_tree p Split a b h =
    record { valid = h.valid; tree = h.tree.4; divides = second_divides p.size (size_of a) (size_of b) h.divides }
right_tree p Dim a b h = record {
  valid = rest_is_valid p h.valid h.tree.2.0;
  tree = h.tree.4;
  divides = whole_divides (rest_of p).size (size_of b) h.tree.2.2;
}

-- a part is smaller than its node
pub left_less : (p : Request) (rule : Rule) (a b : Breakdown) → IsNodeTree p (node rule a b) →
    size_of a < size_of a * size_of b
left_less p rule a b h =
    let two_a : 2 ≤ size_of a = h.tree.0 in
    below_product (size_of a * size_of b) (size_of a) (size_of b) h.tree.1 refl (omega (arith, two_a))

pub right_less : (p : Request) (rule : Rule) (a b : Breakdown) → IsNodeTree p (node rule a b) →
    size_of b < size_of a * size_of b
right_less p rule a b h =
    let two_b : 2 ≤ size_of b = h.tree.1 in
    other_below (size_of a * size_of b) (size_of a) (size_of b) h.tree.0 refl (omega (arith, two_b))

-- ---- the requests of the parts have these fields of the node's

pub record HasFields (p q : Request) : Type 0 where
  pub modulus : q.modulus ≡ p.modulus
  pub weight : q.weight ≡ p.weight

itself : (p : Request) → HasFields p p
itself p = record { modulus = refl; weight = refl }

part-fields : (p q : Request) → IsPartOf p q → HasFields p q
part-fields p q h = record { modulus = h.modulus; weight = h.weight }

pub left_fields : (p : Request) (rule : Rule) (a b : Breakdown) → IsNodeTree p (node rule a b) →
    HasFields p (left_of rule p)
left_fields p Gt a b h = itself p
left_fields p Ct a b h = itself p
left_fields p Split a b h = itself p
left_fields p Dim a b h = part-fields p (first_of p) (first_is_part p h.tree.2.0)

pub right_fields : (p : Request) (rule : Rule) (a b : Breakdown) → IsNodeTree p (node rule a b) →
    HasFields p (right_of rule p)
right_fields p Gt a b h = itself p
right_fields p Ct a b h = itself p
right_fields p Split a b h = itself p
right_fields p Dim a b h = part-fields p (rest_of p) (rest_is_part p h.tree.2.0)
