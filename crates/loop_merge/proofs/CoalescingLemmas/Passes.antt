-- Passes whose copies are coalesced.
use Rattle.std.proofs.Common.{◌≡◌, ℕ, ◌+◌, ◌*◌, ◌%◌, ◌^◌, ◌<◌, ◌≤◌, refl, sym, ap, ap₂, ◌∙◌, subst, List, [], ◌∷◌, ◌++◌}
use Rattle.std.proofs.Common.{All}
use Rattle.std.proofs.lemmas.List.{map-append, length-map}
use Rattle.std.proofs.lemmas.List.Elements.{All-nil, All-cons, All-head, All-tail}
use Rattle.loop_merge.specs.Coalescing.Copies.{with_copies_coalesced, all_coalesced}
use Rattle.loop_merge.specs.Coalescing.Laws.{CoalescedMean, CoalescedCost, CoalescedArePlain}
use Rattle.loop_merge.proofs.CoalescingLemmas.Joining.{all-alike}
use Rattle.operators.proofs.Lists.{list_below-same}
use Rattle.sigma_spl.specs.Shared.Costs.{work_cost}
use Rattle.sigma_spl.specs.Shared.Machine.{plain_machine}
use Rattle.sigma_spl.specs.Shared.Owners.{most_actions}
use Rattle.sigma_spl.specs.Shared.Ready.{passes_tables}
use Rattle.sigma_spl.specs.Nest.{PlainNest, nests_on}
use Rattle.sigma_spl.specs.PlainPasses.{IsPlainPass, in_order}

-- ---- meaning and counts

nests-mean : (m n : ℕ) (zs : List PlainNest) (x : List ℕ) → nests_on m n (with_copies_coalesced zs) x ≡ nests_on m n zs x
nests-mean m n zs x = list_below-same n _ _ (λ w low. ap (λ a. a % m) ((all-alike zs).stores m x w))

pub coalesced_mean : CoalescedMean
coalesced_mean m n [] x = refl
coalesced_mean m n (p ∷ ps) x = nests-mean m n p _ ∙ ap (nests_on m n p) (coalesced_mean m n ps x)

pub coalesced_cost : CoalescedCost
coalesced_cost weight cost [] free = refl
coalesced_cost weight cost (p ∷ ps) free = ap₂ (λ a b. a + b) ((all-alike p).costs weight cost free) (coalesced_cost weight cost ps free)

-- ---- programs

pub coalesced-order : (ps : List (List PlainNest)) → in_order (all_coalesced ps) ≡ all_coalesced (in_order ps)
coalesced-order [] = refl
coalesced-order (p ∷ ps) = ap (λ qs. qs ++ with_copies_coalesced p ∷ []) (coalesced-order ps) ∙ sym (map-append with_copies_coalesced (in_order ps) (p ∷ []))

module _ (n m : ℕ) (high : n ≤ 1048576) where
  pass-plain : (zs : List PlainNest) → IsPlainPass n m zs → IsPlainPass n m (with_copies_coalesced zs)
  pass-plain zs h =
      let alike = all-alike zs in
      record {
        nests = alike.plain n m high h.nests;
        once = λ w low. alike.hit m w ∙ h.once w low;
      }

  passes-plain : (ps : List (List PlainNest)) → All (IsPlainPass n m) ps → All (IsPlainPass n m) (all_coalesced ps)
  passes-plain [] h = All-nil (IsPlainPass n m)
  passes-plain (p ∷ ps) h =
      All-cons (IsPlainPass n m) (with_copies_coalesced p) (all_coalesced ps) (pass-plain p (All-head (IsPlainPass n m) p ps h)) (passes-plain ps (All-tail (IsPlainPass n m) p ps h))

  actions-same : (ps : List (List PlainNest)) → most_actions (plain_machine n m) (all_coalesced ps)
      ≡ most_actions (plain_machine n m) ps
  actions-same [] = refl
  actions-same (p ∷ ps) =
      let alike = all-alike p in
      let cost = alike.costs 1 (work_cost 1 m) (λ d. refl) in
      let loads = alike.loads in
      let rest = actions-same ps in
      ap₂ (λ a b. a + b) (ap₂ (λ a b. a + b + 2 * n) cost loads) rest

tables-same : (ps : List (List PlainNest)) → passes_tables (all_coalesced ps) ≡ passes_tables ps
tables-same [] = refl
tables-same (p ∷ ps) = ap₂ (λ a b. a + b) (all-alike p).tables (tables-same ps)

pub coalesced_are_plain : CoalescedArePlain
coalesced_are_plain n m ps h =
    let high = h.size.1 in
    let order = coalesced-order ps in
    record {
      size = h.size;
      modulus = h.modulus;
      some = subst (λ k. 0 < k) (sym (length-map ps with_copies_coalesced)) h.some;
      passes = subst (All (IsPlainPass n m)) (sym order) (passes-plain n m high (in_order ps) h.passes);
      few = subst (λ a. a < 2 ^ 59) (sym (ap (most_actions (plain_machine n m)) order ∙ actions-same n m high (in_order ps))) h.few;
      tables = subst (λ a. a < 2 ^ 32) (sym (ap passes_tables order ∙ tables-same (in_order ps))) h.tables;
    }
