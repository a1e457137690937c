-- The roots of the nodes of a request's transform.
use Rattle.std.proofs.Common.{◌≡◌, ℕ, ◌*◌, ◌%◌, ◌<◌, ◌≤◌, sym, ap, ◌∙◌, mul_comm}
use Rattle.std.proofs.Math.Nat.{mod-eq_of_lt}
use Rattle.matrix_meaning.specs.declared.Kind.{Kind}
use Rattle.matrix_meaning.specs.declared.Kind.TheVariants.{Dft, Wht, Idft}
use Rattle.matrix_meaning.specs.declared.Request.{Request}
use Rattle.matrix_meaning.specs.Valid.{IsValid, HasRoot}
use Rattle.ring_mod.specs.Residue.{power_mod}
use Rattle.ring_mod.proofs.Powers.{power_mod_of_power}
use Rattle.tree_model.specs.Breakdown.{Breakdown, size_of}
use Rattle.tree_model.specs.Cost.{node_root}
use Rattle.tree_model.proofs.Splits.{product_div}
use Rattle.tree_model.specs.KernelCosts.{IsRoot, AllowsRoot}
use Rattle.kernel_gen.proofs.KernelLemmas.{root-any}

-- the root of a part
part_root : (kind : Kind) (m w n d q : ℕ) → 2 ≤ m → d * q ≡ n → HasRoot kind m w n → IsRoot kind m d (power_mod m w q)
part_root Wht m w n d q large whole root = tt
part_root Dft m w n d q large whole root =
    let least : 1 < m = large in
    power_mod_of_power m w q d ∙ ap (power_mod m w) (mul_comm q d ∙ whole) ∙ root ∙ sym (mod-eq_of_lt least)
part_root Idft m w n d q large whole root =
    let least : 1 < m = large in
    power_mod_of_power m w q d ∙ ap (power_mod m w) (mul_comm q d ∙ whole) ∙ root ∙ sym (mod-eq_of_lt least)

pub root-of : (c : Request) (t : Breakdown) → IsValid c → c.size % size_of t ≡ 0 →
    IsRoot c.kind c.modulus (size_of t) (node_root c (size_of t))
root-of c t valid divides =
    part_root c.kind c.modulus c.root c.size (size_of t) _ valid.in_range.modulus.0 (product_div c.size (size_of t) divides) valid.root

pub any-root : (c : Request) (t : Breakdown) → IsValid c → c.size % size_of t ≡ 0 →
    AllowsRoot c.modulus (node_root c (size_of t)) c.kind t
any-root c t valid divides = root-any c.kind c.modulus t (node_root c (size_of t)) (root-of c t valid divides)
