-- Gathers that wait and passes, in their order and from the latest on.
use Rattle.std.proofs.Common.{◌≡◌, ℕ, refl, sym, ap, ◌∙◌, ap₂, subst, false, true, List, [], ◌∷◌, ◌++◌, Global}
use Rattle.std.specs.Prelude.{map, reverse, Vec}
use Rattle.std.proofs.lemmas.Bool.{cond-false, cond-true}
use Rattle.std.proofs.lemmas.List.{map-append, reverse-append, reverse-reverse}
use Rattle.index_fn.specs.Index.{mapping_of}
use Rattle.index_fn.specs.declared.Index.{Index}
use Rattle.sigma_spl.specs.Merge.{Merging, Room, Taking, back_of, can_gather, can_scatter, copies_before, copy_by, ended}
use Rattle.sigma_spl.specs.Merge.{from_end, gathered, scattered, settled, with_scatter}
use Rattle.sigma_spl.specs.Nest.{PlainNest}
use Rattle.sigma_spl.specs.declared.nest.Nest.{Nest}
use Rattle.loop_nests.specs.Places.Known.{AreSteps}
use Rattle.loop_nests.specs.Places.Views.{mappings_of, waiting_of}
use Rattle.loop_nests.specs.Views.{from_last, plain_pass, plain_passes}
use Rattle.index_fn.specs.Mapping.{Mapping}
use Rattle.loop_nests.proofs.Standing.{last_first, last_waits, more_passes}
use Rattle.loop_merge.specs.Known.{AreKnownPasses}
use Rattle.loop_merge.specs.Taken.{taken}
use Rattle.loop_merge.proofs.Readies.{steps-end}

-- ---- gathers

pub end_waits : (xs : List Index) → from_end (mappings_of xs) ≡ waiting_of xs
end_waits [] = refl
end_waits (x ∷ xs) =
    ap (λ fs. fs ++ mapping_of x ∷ []) (end_waits xs)
    ∙ sym (ap (map mapping_of) (reverse-append (x ∷ []) xs) ∙ map-append mapping_of (reverse xs) (x ∷ []))

pub from_waiting : (xs : List Index) → from_end (waiting_of xs) ≡ mappings_of xs
from_waiting xs = end_waits (reverse xs) ∙ ap mappings_of (reverse-reverse xs)

pub steps_wait : (n : ℕ) (xs : List Index) → AreSteps n (mappings_of xs) → AreSteps n (waiting_of xs)
steps_wait n xs h = subst (AreSteps n) (end_waits xs) (steps-end n (mappings_of xs) h)

pub steps_turned : (n : ℕ) (xs : List Index) → AreSteps n (waiting_of xs) → AreSteps n (mappings_of xs)
steps_turned n xs h = subst (AreSteps n) (from_waiting xs) (steps-end n (waiting_of xs) h)

-- ---- passes

known_left : (room n : ℕ) (ps qs : List (List PlainNest)) → AreKnownPasses room n (ps ++ qs) → AreKnownPasses room n ps
known_left room n [] qs h = tt
known_left room n (p ∷ ps) qs h = (h.0, known_left room n ps qs h.1)

known_right : (room n : ℕ) (ps qs : List (List PlainNest)) → AreKnownPasses room n (ps ++ qs) → AreKnownPasses room n qs
known_right room n [] qs h = h
known_right room n (p ∷ ps) qs h = known_right room n ps qs h.1

pub known_turned : (room n : ℕ) (ps : List (Vec Nest Global)) → AreKnownPasses room n (from_last ps) →
    AreKnownPasses room n (plain_passes ps)
known_turned room n [] h = tt
known_turned room n (p ∷ ps) h =
    let whole = subst (AreKnownPasses room n) (more_passes (p ∷ ps) (p ∷ []) ps refl) h in
    ((known_right room n (from_last ps) (plain_pass p ∷ []) whole).0, known_turned room n ps (known_left room n (from_last ps) (plain_pass p ∷ []) whole))

-- ---- at the end

-- gathers and no pass
pub none_left : (room : Room) (n : ℕ) (xs : List Index) (f : Index) (rest : List Index) (ps : List (Vec Nest Global)) →
    xs ≡ f ∷ rest → ps ≡ [] → settled room n (waiting_of xs) ≡ ended room n (mappings_of xs) (from_last ps)
none_left room n xs f rest ps is none =
    ap (settled room n) (sym (end_waits xs))
    ∙ ap (λ ys. settled room n (from_end (mappings_of ys))) is
    ∙ sym (ap₂ (λ ys qs. ended room n (mappings_of ys) (from_last qs)) is none)

-- the last pass does not take the scatter
pub last_left : (room : Room) (n : ℕ) (xs : List Index) (f : Index) (rest : List Index)
    (whole ps pushed after all : List (Vec Nest Global)) (last same : Vec Nest Global) →
    xs ≡ f ∷ rest → can_scatter room n (back_of (mapping_of f)) (plain_pass last) ≡ false →
    whole ≡ ps ++ last ∷ [] → pushed ≡ ps ++ same ∷ [] → plain_pass same ≡ plain_pass last →
    all ≡ pushed ++ after → from_last after ≡ settled room n (waiting_of xs) →
    from_last all ≡ ended room n (mappings_of xs) (from_last whole)
last_left room n xs f rest whole ps pushed after all last same is can whole_is pushed_is same_is all_is after_is =
    more_passes all pushed after all_is
    ∙ ap₂ (λ qs rs. qs ++ rs)
    (after_is ∙ ap (settled room n) (sym (end_waits xs)) ∙ ap (λ ys. settled room n (from_end (mappings_of ys))) is)
    (last_first pushed ps same pushed_is ∙ ap (λ z. z ∷ from_last ps) same_is)
    ∙ sym (ap₂ (λ ys qs. ended room n (mappings_of ys) qs) is (last_first whole ps last whole_is)
    ∙ cond-false _ _ _ can)

-- the last pass takes the scatter
pub last_goes : (room : Room) (n : ℕ) (xs : List Index) (f : Index) (rest : List Index)
    (whole ps pushed : List (Vec Nest Global)) (last made : Vec Nest Global) →
    xs ≡ f ∷ rest → can_scatter room n (back_of (mapping_of f)) (plain_pass last) ≡ true → whole ≡ ps ++ last ∷ [] →
    pushed ≡ ps ++ made ∷ [] → plain_pass made ≡ scattered (back_of (mapping_of f)) (plain_pass last) →
    ended room n (mappings_of rest) (from_last pushed) ≡ ended room n (mappings_of xs) (from_last whole)
last_goes room n xs f rest whole ps pushed last made is can whole_is pushed_is made_is =
    ap (ended room n (mappings_of rest)) (last_first pushed ps made pushed_is ∙ ap (λ z. z ∷ from_last ps) made_is)
    ∙ sym (ap₂ (λ ys qs. ended room n (mappings_of ys) qs) is (last_first whole ps last whole_is)
    ∙ cond-true _ _ _ can)

-- ---- one by one, from the last of those that wait

module _ (room : Room) (n : ℕ) (xs ys : List Index) (x : Index) (zs : List PlainNest) (is : xs ≡ ys ++ x ∷ []) where
  -- a pass takes it
  pub copies_took : (made : List PlainNest) → can_gather room n (mapping_of x) zs ≡ true →
      made ≡ gathered (mapping_of x) zs →
      copies_before room n made (waiting_of ys) ≡ copies_before room n zs (waiting_of xs)
  copies_took made can made_is =
      ap (λ z. copies_before room n z (waiting_of ys)) made_is
      ∙ sym (ap (copies_before room n zs) (last_waits xs ys x is) ∙ cond-true _ _ _ can)

  pub pass_took : (made : List PlainNest) → can_gather room n (mapping_of x) zs ≡ true →
      made ≡ gathered (mapping_of x) zs → taken room n made (waiting_of ys) ≡ taken room n zs (waiting_of xs)
  pass_took made can made_is =
      ap (λ z. taken room n z (waiting_of ys)) made_is
      ∙ sym (ap (taken room n zs) (last_waits xs ys x is)
      ∙ ap (λ (t : Taking). t.pass ∷ settled room n t.left) (cond-true _ _ _ can))

  -- it does not
  pub copies_left : (copies : List PlainNest) (ps all : List (Vec Nest Global)) (same : Vec Nest Global) →
      can_gather room n (mapping_of x) zs ≡ false → plain_pass same ≡ zs → copies ≡ copy_by room n (mapping_of x) →
      from_last ps ≡ copies_before room n copies (waiting_of ys) → all ≡ ps ++ same ∷ [] →
      from_last all ≡ copies_before room n zs (waiting_of xs)
  copies_left copies ps all same can same_is copies_is ps_is all_is =
      last_first all ps same all_is
      ∙ ap₂ (λ z qs. z ∷ qs) same_is (ps_is ∙ ap (λ z. copies_before room n z (waiting_of ys)) copies_is)
      ∙ sym (ap (copies_before room n zs) (last_waits xs ys x is) ∙ cond-false _ _ _ can)

  pub pass_left : (ps all : List (Vec Nest Global)) (same : Vec Nest Global) →
      can_gather room n (mapping_of x) zs ≡ false → plain_pass same ≡ zs → from_last ps ≡ settled room n (waiting_of xs) →
      all ≡ ps ++ same ∷ [] → from_last all ≡ taken room n zs (waiting_of xs)
  pass_left ps all same can same_is ps_is all_is =
      last_first all ps same all_is
      ∙ ap₂ (λ z qs. z ∷ qs) same_is (ps_is ∙ ap (settled room n) (last_waits xs ys x is))
      ∙ sym (ap (taken room n zs) (last_waits xs ys x is)
      ∙ ap (λ (t : Taking). t.pass ∷ settled room n t.left) (cond-false _ _ _ can))

-- ---- a scatter where no gather waits

module _ (room : Room) (n : ℕ) (f : Mapping) (ws : List Mapping) (whole ps pushed : List (Vec Nest Global))
    (last same : Vec Nest Global) (none : ws ≡ []) (whole_is : whole ≡ ps ++ last ∷ []) (pushed_is : pushed ≡ ps ++ same ∷ []) where
  pub scatter_goes : can_scatter room n f (plain_pass last) ≡ true →
      plain_pass same ≡ scattered f (plain_pass last) →
      record { waiting = ws; passes = from_last pushed } ≡ with_scatter room n [] (from_last whole) f
  scatter_goes can same_is =
      ap₂ (λ gs qs. record { waiting = gs; passes = qs }) none
      (last_first pushed ps same pushed_is ∙ ap (λ z. z ∷ from_last ps) same_is)
      ∙ sym (ap (λ qs. with_scatter room n [] qs f) (last_first whole ps last whole_is) ∙ cond-true _ _ _ can)

  pub scatter_waits : (next : Merging) → can_scatter room n f (plain_pass last) ≡ false →
      plain_pass same ≡ plain_pass last → next.waiting ≡ back_of f ∷ ws → next.passes ≡ from_last pushed →
      next ≡ with_scatter room n [] (from_last whole) f
  scatter_waits next can same_is waiting passes =
      ap₂ (λ gs qs. record { waiting = gs; passes = qs }) (waiting ∙ ap (λ gs. back_of f ∷ gs) none)
      (passes ∙ last_first pushed ps same pushed_is ∙ ap (λ z. z ∷ from_last ps) same_is)
      ∙ sym (ap (λ qs. with_scatter room n [] qs f) (last_first whole ps last whole_is) ∙ cond-false _ _ _ can)
