use Rattle.std.proofs.Common.{◌≡◌, map, sym, ap, ap₂, ◌∙◌, subst}
use Rattle.std.specs.Int.{IsGcd}
use Rattle.matrix_meaning.specs.declared.Request.{Request}
use Rattle.ring_mod.specs.Inverse.{inverse_mod}
use Rattle.ring_mod.specs.Residue.{product_mod}
use Rattle.generate.proofs.ConvGoodness.{factors-are}
use Rattle.generate.proofs.conv_program.list_factors.Goals as goal
use Rattle.generate.proofs.conv_program.list_factors.Goals.{After-inverse}

-- the size of the request, and its modulus
size : (c : After-inverse) → c.request-request.result.size ≡ c.args.c.now.size
size c = ap (λ (r : Request). r.size) c.request-request.ensures.value

modulus : (c : After-inverse) → c.unwrap-modulus.result ≡ c.args.c.now.modulus
modulus c =
    let same : c.unwrap-modulus.result ≡ c.request-request.result.modulus = rw c.unwrap-modulus.ensures at c.new.ensures.value in
    same ∙ ap (λ (r : Request). r.modulus) c.request-request.ensures.value

pub unwrap-inverse-requires : goal.unwrap-inverse-requires
unwrap-inverse-requires c =
    c.inverse.ensures.some.1
    (subst (λ n. IsGcd n c.unwrap-modulus.result 1) (sym (size c)) (subst (λ m. IsGcd c.args.c.now.size m 1) (sym (modulus c)) c.requires.request.unit))

pub returns-clause-value : goal.returns-clause-value
returns-clause-value c =
    let request = c.args.c.now in
    let there = (goal.at.returns-clause-value c).After-inverse in
    let inverse : c.unwrap-inverse.result ≡ inverse_mod c.unwrap-modulus.result c.request-request.result.size =
    rw c.unwrap-inverse.ensures at c.inverse.ensures.value in
    factors-are request.kind request.modulus request.size request.root c.unwrap-inverse.result c.args.h.now
    c.in_ok-spectrum.spectrum.items c.in_ok-factors.factors.items c.requires.request.kind
    c.in_ok-spectrum.ensures.value (inverse ∙ ap₂ inverse_mod (modulus there) (size there))
    (c.in_ok-factors.ensures.value
    ∙ ap₂ (λ m vs. map (product_mod m c.unwrap-inverse.result) vs) (modulus there) c.deref.ensures.value)
