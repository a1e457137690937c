use Rattle.std.proofs.Common.{◌≡◌, ◌-◌, sym, ap, ◌∙◌, subst}
use Rattle.ring_mod.specs.Residue.{power_mod}
use Rattle.matrix_meaning.specs.Kind.{inverse_root}
use Rattle.matrix_meaning.specs.Parts.{inverted}
use Rattle.matrix_meaning.specs.Valid.{IsValid}
use Rattle.matrix_meaning.proofs.Requests.{inverse_is_valid}
use Rattle.matrix_meaning.proofs.Request.inverted.Goals as goal

pub returns-clause-valid : goal.returns-clause-valid
returns-clause-valid c valid other one =
    let r = c.args.self.now in
    let modulus : c.unwrap-modulus.result ≡ r.modulus = rw c.unwrap-modulus.ensures at c.new.ensures.value in
    let root : c.pow.result ≡ inverse_root r.modulus r.size r.root =
    c.pow.ensures.value ∙ ap (λ m. power_mod m r.root (r.size - 1)) modulus in
    subst (λ v. IsValid (record (inverted r) { root = v })) (sym root) (inverse_is_valid r other one valid)
