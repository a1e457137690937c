-- One block more, and columns as blocks.
use Rattle.std.proofs.Common.{◌≡◌, ℕ, ◌+◌, ◌*◌, ◌/◌, ◌≤◌, ◌<◌, List, ◌++◌, ◌∙◌, sym, arith, length, ap, ap₂, mul_comm}
use Rattle.std.proofs.Common.{subst}
use Rattle.std.specs.List.{between}
use Rattle.std.proofs.Math.Nat.{mul-div_cancel_left, mul-div_cancel}
use Rattle.operators.specs.Identities.{HasSize}
use Rattle.operators.specs.Operator.{Operator, on_blocks}
use Rattle.operators.proofs.Places.{on_blocks_more, between-block}
use Rattle.sigma_spl.proofs.Keeps.{left_positive, right_positive}
use Rattle.spl_ast.specs.Shape.{IsSize}
use Rattle.spl_ast.proofs.Blocks.{block_inside}

-- the size of one of a number of parts
pub block_part : (count s : ℕ) (x : List ℕ) → length x ≡ count * s → 0 < count * s → length x / count ≡ s
block_part count s x long some = ap (λ n. n / count) long ∙ mul-div_cancel_left s (left_positive count s some)

pub column_part : (s count : ℕ) (x : List ℕ) → length x ≡ s * count → 0 < s * count → length x / count ≡ s
column_part s count x long some = ap (λ n. n / count) long ∙ mul-div_cancel s (right_positive s count some)

pub one_block : (count d i size from end : ℕ) (a : Operator) (x before part out : List ℕ) → HasSize d a → size ≡ d →
    from ≡ i * size → end ≡ from + size → i < count → length x ≡ count * d →
    before ≡ on_blocks i size a x → part ≡ a (between from end x) → out ≡ before ++ part →
    out ≡ on_blocks (i + 1) size a x
one_block count d i size from end a x before part out sized is start stop below long old new joined =
    let inside : i * size + size ≤ length x = block_inside count d size i x below is long in
    joined
    ∙ ap₂ (λ u v. u ++ v) old (new ∙ ap a (between-block size i x from end start (stop ∙ ap (λ n. n + size) start) (omega (arith, inside, start, stop))))
    ∙ sym (on_blocks_more i size a x (λ y e. sized y ∙ sym is))

pub turned_size : (r k : ℕ) → IsSize (r * k) → IsSize (k * r)
turned_size r k h = subst IsSize (mul_comm r k) h
