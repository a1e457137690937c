-- Valid requests.
use Rattle.std.proofs.Common.{◌≡◌, ◌≢◌, ℕ, ◌-◌, ◌<◌, arith, refl, sym, ap, subst, ◌∙◌, List, [], ◌∷◌, inl, inr, mod-lt}
use Rattle.std.specs.Prelude.{All, IfNone, None, Some, Option, if◌then◌else◌}
use Rattle.std.proofs.lemmas.Bool.{cases_eq, eq-eqb, ne_eqb}
use Rattle.std.proofs.lemmas.List.Elements.{All-cons, All-head, All-nil}
use Rattle.ring_mod.specs.Residue.{power_mod}
use Rattle.ring_mod.proofs.Powers.{power_mod-mod}
use Rattle.matrix_meaning.specs.declared.Dimensions.{Dimensions}
use Rattle.matrix_meaning.specs.declared.Dimensions.TheVariants.{One, Two, Three, Four}
use Rattle.matrix_meaning.specs.declared.Kind.{Kind}
use Rattle.matrix_meaning.specs.declared.Kind.TheVariants.{Dft, Wht, Idft}
use Rattle.matrix_meaning.specs.declared.Request.{Request}
use Rattle.matrix_meaning.specs.Kind.{inverse_root}
use Rattle.matrix_meaning.specs.Laws.{InverseIsValid}
use Rattle.matrix_meaning.specs.Parts.{bad_power, bad_power_by, first_bad, forward_by, forward_of, inverted, parts_in}
use Rattle.matrix_meaning.specs.Parts.{parts_of, root_power}
use Rattle.matrix_meaning.specs.Valid.{AreDimensions, HasRoot, IsInRange, IsValid}
use Rattle.matrix_meaning.proofs.InverseTransform.{inverse_root_is_root}
use Rattle.matrix_meaning.proofs.Parts.{is_of_one_size}
use Rattle.matrix_meaning.proofs.Roots.{HasItsRoot, one_is_root, root-by_power, root-is, root-reduced}

-- a power is a residue
pub power_below : (m w e : ℕ) → 0 < m → power_mod m w e < m
power_below m w e some = subst (λ z. z < m) (power_mod-mod m w e) (mod-lt (power_mod m w e) some)

-- ---- the request with the inverse root

pub inverse_is_valid : InverseIsValid
inverse_is_valid r other one valid =
    let range = valid.in_range in
    let two = range.modulus.0 in
    let v = inverse_root r.modulus r.size r.root in
    let root : power_mod r.modulus v r.size ≡ 1 =
    root-reduced r.modulus v r.size two
    (inverse_root_is_root r.modulus r.size r.root (root-is r.kind r.modulus r.root r.size two other valid.root)) in
    record {
      in_range = record {
        size = range.size;
        modulus = range.modulus;
        root = power_below r.modulus r.root (r.size - 1) (omega (arith, two));
        procs = range.procs;
        line = range.line;
        lanes = range.lanes;
        unroll = range.unroll;
        budget = range.budget;
        weight = range.weight;
        shape = tt;
        lanes_in_line = range.lanes_in_line;
        unit = tt;
        dimensions = subst (AreDimensions (inverted r)) (sym one) tt;
      };
      root = root;
      parts = subst (λ ds. All HasItsRoot (parts_in (inverted r) ds)) (sym one)
          (All-cons HasItsRoot (inverted r) [] root (All-nil HasItsRoot));
    }

-- ---- the request whose trees a request has

forward_by-valid : (kind : Kind) (r : Request) → r.kind ≡ kind → IsValid r → IsValid (forward_by kind r)
forward_by-valid Dft r same valid = valid
forward_by-valid Wht r same valid = valid
forward_by-valid Idft r same valid =
    inverse_is_valid r (λ wht. absurd cc) (is_of_one_size r valid.in_range (λ dft. absurd cc)) valid

pub forward_is_valid : (r : Request) → IsValid r → IsValid (forward_of r)
forward_is_valid r valid = forward_by-valid r.kind r refl valid

forward_by-kind : (kind : Kind) (r : Request) → r.kind ≡ kind → (forward_by kind r).kind ≢ Idft
forward_by-kind Dft r same is = absurd cc
forward_by-kind Wht r same is = absurd cc
forward_by-kind Idft r same is = absurd cc

pub forward_kind : (r : Request) → (forward_of r).kind ≢ Idft
forward_kind r = forward_by-kind r.kind r refl

-- ---- requests without a bad power

no_bad_power : (ps : List Request) → first_bad ps ≡ None → All HasItsRoot ps
no_bad_power [] none = All-nil HasItsRoot
no_bad_power (p ∷ ps) none =
    elim (cases_eq (root_power p) 1) [
      | inl one ↦
          All-cons HasItsRoot p ps (root-by_power p.kind p.modulus p.root p.size one)
          (no_bad_power ps (later p ps one none))
      | inr other ↦ absurd (found p ps other none)
    ]
  where
    later : (p : Request) (ps : List Request) → root_power p ≡ 1 → first_bad (p ∷ ps) ≡ None → first_bad ps ≡ None
    later p ps one none =
        sym (ap (λ b. if b then first_bad ps else Some (root_power p)) (eq-eqb (root_power p) 1 one)) ∙ none

    found : (p : Request) (ps : List Request) → root_power p ≢ 1 → first_bad (p ∷ ps) ≡ None → ⊥
    found p ps other none =
        let some : Some (root_power p) ≡ None =
        sym (ap (λ b. if b then first_bad ps else Some (root_power p)) (ne_eqb (root_power p) 1 other)) ∙ none in
        absurd cc

-- the root of a Walsh-Hadamard transform is not looked at
wht_root : (r : Request) → r.kind ≡ Wht → HasItsRoot r
wht_root r same = subst (λ kind. HasRoot kind r.modulus r.root r.size) (sym same) tt

powers_good : (kind : Kind) (r : Request) → r.kind ≡ kind → IsInRange r → bad_power_by kind r ≡ None →
    All HasItsRoot (parts_of r)
powers_good Dft r same in_range none = no_bad_power (parts_of r) none
powers_good Wht r same in_range none =
    subst (λ ds. All HasItsRoot (parts_in r ds)) (sym (is_of_one_size r in_range (λ dft. absurd cc)))
    (All-cons HasItsRoot r [] (wht_root r same) (All-nil HasItsRoot))
powers_good Idft r same in_range none = no_bad_power (parts_of r) none

one_root : (r : Request) → IsInRange r → r.root ≡ 1 → HasItsRoot r
one_root r in_range one =
    root-by_power r.kind r.modulus r.root r.size
    (ap (λ w. power_mod r.modulus w r.size) one ∙ one_is_root r.modulus r.size in_range.modulus.0)

root_by_parts : (r : Request) (ds : Dimensions) → IsInRange r → AreDimensions r ds → All HasItsRoot (parts_in r ds) →
    HasItsRoot r
root_by_parts r One in_range several h = All-head HasItsRoot r [] h
root_by_parts r (Two a b) in_range several h = one_root r in_range several.root
root_by_parts r (Three a b c) in_range several h = one_root r in_range several.root
root_by_parts r (Four a b c d) in_range several h = one_root r in_range several.root

pub valid_by_powers : (r : Request) → IsInRange r → bad_power r ≡ None → IsValid r
valid_by_powers r in_range none =
    let parts = powers_good r.kind r refl in_range none in
    record {
      in_range = in_range;
      root = root_by_parts r r.dimensions in_range in_range.dimensions parts;
      parts = parts;
    }

pub none_valid : (r : Request) (power : Option ℕ) → IsInRange r → power ≡ bad_power r → IfNone power (IsValid r)
none_valid r None in_range is = valid_by_powers r in_range (sym is)
none_valid r (Some p) in_range is = tt
