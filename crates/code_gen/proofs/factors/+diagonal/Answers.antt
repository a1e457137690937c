use Rattle.std.proofs.Common.{◌≡◌, ℕ, ◌^◌, ◌<◌, List, length, sym, ap, ap₂, ◌∙◌, subst, slice_index}
use Rattle.index_fn.specs.Mapping.{at}
use Rattle.operators.specs.Sum.{list_below}
use Rattle.code_gen.specs.PassCode.Statements.{diagonal_of}
use Rattle.sigma_spl.specs.Nest.{factor_count, inner_of, spread}
use Rattle.sigma_spl.specs.Views.{plain_factors}
use Rattle.sigma_spl.specs.declared.nest.Factors.{Factors}
use Rattle.code_gen.specs.Conditions.{CanList}
use Rattle.operators.specs.Paths.Tensors.{Path, size_under}
use Rattle.code_gen.proofs.Diagonals.{diagonal-size, spread-is, values-are}
use Rattle.code_gen.proofs.factors.+diagonal.Goals as goal

-- the size of the whole, where these are the path and the entries that are spread
whole-is : (m : ℕ) (value factors : Factors) (path ps : Path) (inner xs : List ℕ) → factors ≡ value → ps ≡ path →
    xs ≡ inner → inner ≡ diagonal_of m (plain_factors factors) →
    size_under path (factor_count (plain_factors value)) ≡ size_under ps (length xs)
whole-is m value factors path ps inner xs is same taken made =
    ap₂ size_under (sym same) (ap (λ (fs : Factors). factor_count (plain_factors fs)) (sym is) ∙ sym (ap length taken ∙ diagonal-size m (plain_factors factors) inner made))

pub spread-requires : goal.spread-requires
spread-requires t c =
    let can : CanList (spread c.in-Spread.path.items (plain_factors c.in-Spread.factors.value)) =
    subst (λ (fs : Factors). CanList (plain_factors fs)) c.in-Spread.is c.requires in
    let whole =
    whole-is c.args.modulus.now c.in-Spread.factors.value c.deref-in-Spread.result.now c.in-Spread.path.items
    c.deref-in-Spread-2.result.now c.in_ok-inner-in-Spread.inner.items c.deref-in-Spread-3.result.now
    c.deref-in-Spread.ensures c.deref-in-Spread-2.ensures.value c.deref-in-Spread-3.ensures.value
    c.in_ok-inner-in-Spread.ensures in
    record { some = subst (λ n. 0 < n) whole can.1; small = subst (λ n. n < 2 ^ 32) whole can.2 }

pub returns-in_ok-entries-in-Values : goal.returns-in_ok-entries-in-Values
returns-in_ok-entries-in-Values t c =
    c.in_ok-entries-in-Values.ensures.items
    ∙ c.deref.ensures.value
    ∙ values-are c.in-Values.entries.items
    ∙ sym (ap (λ (fs : Factors). diagonal_of c.args.modulus.now (plain_factors fs)) c.in-Values.is)

pub returns-in_ok-entries-in-Spread : goal.returns-in_ok-entries-in-Spread
returns-in_ok-entries-in-Spread t c =
    let m = c.args.modulus.now in
    let factors = plain_factors c.deref-in-Spread.result.now in
    let path : Path = c.in-Spread.path.items in
    c.in_ok-entries-in-Spread.ensures
    ∙ ap₂ (λ (ps : Path) (xs : List ℕ). list_below (size_under ps (length xs)) (λ i. slice_index xs (at (inner_of ps (length xs)) i))) c.deref-in-Spread-2.ensures.value c.deref-in-Spread-3.ensures.value
    ∙ spread-is m path factors c.in_ok-inner-in-Spread.inner.items c.in_ok-inner-in-Spread.ensures
    ∙ ap (λ (fs : Factors). diagonal_of m (spread path (plain_factors fs))) c.deref-in-Spread.ensures
    ∙ sym (ap (λ (fs : Factors). diagonal_of m (plain_factors fs)) c.in-Spread.is)
