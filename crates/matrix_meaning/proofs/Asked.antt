-- What requests ask for, by the requests that they are made of.
use Rattle.std.proofs.Common.{◌≡◌, ◌≢◌, refl, sym, ap, ◌∙◌, List, [], ◌∷◌, ℕ}
use Rattle.std.specs.Prelude.{map}
use Rattle.ring_mod.specs.Inverse.{inverse_mod}
use Rattle.matrix_meaning.specs.declared.Dimension.{Dimension}
use Rattle.matrix_meaning.specs.declared.Dimensions.{Dimensions}
use Rattle.matrix_meaning.specs.declared.Dimensions.TheVariants.{One, Two, Three, Four}
use Rattle.matrix_meaning.specs.declared.Kind.{Kind}
use Rattle.matrix_meaning.specs.declared.Kind.TheVariants.{Dft}
use Rattle.matrix_meaning.specs.declared.Request.{Request}
use Rattle.matrix_meaning.specs.Asked.{asked_of}
use Rattle.matrix_meaning.specs.Dimensions.{dims_by, transform_in}
use Rattle.matrix_meaning.specs.Kind.{transform}
use Rattle.matrix_meaning.specs.Laws.{AskedByForward, AskedByParts, AskedOfOne}
use Rattle.matrix_meaning.specs.Parts.{first_in, forward_by, forward_of, inverted, rest_in}
use Rattle.matrix_meaning.proofs.InverseTransform.{inverse_transform_is}
use Rattle.matrix_meaning.proofs.Parts.{is_of_one_size, several_kind}
use Rattle.matrix_meaning.proofs.Tensors.{dimension_by_dimension}
use Rattle.operators.specs.Operator.{Operator, scale, on_blocks, on_columns}

-- what a request of this kind and these dimensions asks for
asked_in : Request → Kind → Dimensions → Operator
asked_in r kind ds =
    transform_in kind r.modulus
    (map (λ (d : Dimension). d.size) (dims_by r.size r.root ds))
    (map (λ (d : Dimension). d.root) (dims_by r.size r.root ds))

pub asked_of_one : AskedOfOne
unfolding asked_in
asked_of_one r x one = ap (λ ds. asked_in r r.kind ds x) one

pub asked_by_forward : AskedByForward
asked_by_forward r x in_range inverse =
    let one = is_of_one_size r in_range (λ dft. absurd cc) in
    let forward : asked_of (forward_of r) x ≡ asked_of (inverted r) x =
    ap (λ kind. asked_of (forward_by kind r) x) inverse in
    asked_of_one r x one
    ∙ ap (λ kind. transform kind r.modulus r.size r.root x) inverse
    ∙ inverse_transform_is r.modulus r.size r.root x
    ∙ ap (scale r.modulus r.size (λ _. inverse_mod r.modulus r.size)) (sym (forward ∙ asked_of_one (inverted r) x one))

by_parts : (r : Request) (ds : Dimensions) (x : List ℕ) → ds ≢ One →
    asked_in r Dft ds x
    ≡ on_columns (first_in r ds).size (rest_in r ds).size (asked_of (first_in r ds))
    (on_blocks (first_in r ds).size (rest_in r ds).size (asked_of (rest_in r ds)) x)
unfolding asked_in
by_parts r One x some = absurd (some refl)
by_parts r (Two a b) x some = dimension_by_dimension Dft r.modulus a.size b.size a.root b.root [] [] x
by_parts r (Three a b c) x some =
    dimension_by_dimension Dft r.modulus a.size b.size a.root b.root (c.size ∷ []) (c.root ∷ []) x
by_parts r (Four a b c d) x some =
    dimension_by_dimension Dft r.modulus a.size b.size a.root b.root (c.size ∷ d.size ∷ []) (c.root ∷ d.root ∷ []) x

pub asked_by_parts : AskedByParts
unfolding asked_in
asked_by_parts r x in_range some =
    ap (λ kind. asked_in r kind r.dimensions x) (several_kind r in_range some) ∙ by_parts r r.dimensions x some
