-- What a state of merging is after a diagonal, for each way out of the code.
use Rattle.std.proofs.Common.{◌≡◌, ℕ, sym, ap, ◌∙◌, ap₂, true, false, List, [], ◌∷◌, ◌++◌, Global}
use Rattle.std.specs.Prelude.{Vec}
use Rattle.std.proofs.lemmas.Bool.{cond-false, cond-true}
use Rattle.index_fn.specs.Mapping.{Mapping}
use Rattle.operators.specs.Paths.Tensors.{Path}
use Rattle.sigma_spl.specs.Merge.{Merging, can_multiply, copying, factor_places, most, multiplied, settled, with_copy}
use Rattle.sigma_spl.specs.Merge.{with_diagonal}
use Rattle.sigma_spl.specs.Nest.{PlainFactors, PlainNest, spread}
use Rattle.sigma_spl.specs.declared.nest.Nest.{Nest}
use Rattle.loop_nests.specs.Views.{from_last, plain_pass}
use Rattle.loop_nests.proofs.Standing.{last_first, more_passes}
use Rattle.loop_merge.specs.Taken.{takes_diagonal}

abbrev state : List Mapping → List (Vec Nest Global) → Merging
state ws ps = record { waiting = ws; passes = from_last ps }

module _ (room n : ℕ) (ws fs : List Mapping) (path : Path) (factors : PlainFactors)
    (is : fs ≡ factor_places ws path factors) where
  -- the copy pass takes it
  pub copy_takes : (copies : List PlainNest) (ps pushed : List (Vec Nest Global)) (made : Vec Nest Global) →
      copies ≡ copying n → can_multiply room n factors fs copies ≡ true → plain_pass made ≡ multiplied factors fs copies →
      pushed ≡ ps ++ made ∷ [] → state ws pushed ≡ with_copy (most room) n (state ws ps) path factors
  copy_takes copies ps pushed made all can made_is pushed_is =
      ap (λ qs. record { waiting = ws; passes = qs }) (last_first pushed ps made pushed_is
      ∙ ap (λ z. z ∷ from_last ps) (made_is ∙ ap₂ (λ gs zs. multiplied factors gs zs) is all))
      ∙ sym (cond-true _ _ _ (ap₂ (λ gs zs. can_multiply room n factors gs zs) (sym is) (sym all) ∙ can))

  -- it does not
  pub copy_leaves : (none : List Mapping) (copies : List PlainNest) (ps after more pushed : List (Vec Nest Global))
      (made : Vec Nest Global) → none ≡ [] → copies ≡ copying n → can_multiply room n factors fs copies ≡ false →
      plain_pass made ≡ multiplied (spread path factors) [] copies → from_last after ≡ settled (most room) n ws →
      more ≡ ps ++ after → pushed ≡ more ++ made ∷ [] →
      state none pushed ≡ with_copy (most room) n (state ws ps) path factors
  copy_leaves none copies ps after more pushed made none_is all can made_is after_is more_is pushed_is =
      ap₂ (λ gs qs. record { waiting = gs; passes = qs }) none_is (last_first pushed more made pushed_is
      ∙ ap₂ (λ z qs. z ∷ qs) (made_is ∙ ap (multiplied (spread path factors) []) all)
      (more_passes more ps after more_is ∙ ap (λ qs. qs ++ from_last ps) after_is))
      ∙ sym (cond-false _ _ _ (ap₂ (λ gs zs. can_multiply room n factors gs zs) (sym is) (sym all) ∙ can))

  -- the last pass takes it
  pub last_takes : (whole ps pushed : List (Vec Nest Global)) (last made : Vec Nest Global) → whole ≡ ps ++ last ∷ [] →
      takes_diagonal room n path factors fs (plain_pass last) ≡ true →
      plain_pass made ≡ multiplied factors fs (plain_pass last) → pushed ≡ ps ++ made ∷ [] →
      state ws pushed ≡ with_diagonal (most room) n ws (from_last whole) path factors
  last_takes whole ps pushed last made whole_is can made_is pushed_is =
      ap (λ qs. record { waiting = ws; passes = qs }) (last_first pushed ps made pushed_is
      ∙ ap (λ z. z ∷ from_last ps) (made_is ∙ ap (λ gs. multiplied factors gs (plain_pass last)) is))
      ∙ sym (ap (λ qs. with_diagonal (most room) n ws qs path factors) (last_first whole ps last whole_is)
      ∙ cond-true _ _ _ (ap (λ gs. takes_diagonal room n path factors gs (plain_pass last)) (sym is) ∙ can))

  -- it does not
  pub last_leaves : (whole ps pushed : List (Vec Nest Global)) (last : Vec Nest Global) → whole ≡ ps ++ last ∷ [] →
      takes_diagonal room n path factors fs (plain_pass last) ≡ false → pushed ≡ ps ++ last ∷ [] →
      with_copy (most room) n (state ws pushed) path factors
      ≡ with_diagonal (most room) n ws (from_last whole) path factors
  last_leaves whole ps pushed last whole_is can pushed_is =
      ap (λ qs. with_copy (most room) n (record { waiting = ws; passes = qs }) path factors)
      (last_first pushed ps last pushed_is)
      ∙ sym (ap (λ qs. with_diagonal (most room) n ws qs path factors) (last_first whole ps last whole_is)
      ∙ cond-false _ _ _ (ap (λ gs. takes_diagonal room n path factors gs (plain_pass last)) (sym is) ∙ can))
