-- A program can be made of joined passes.
use Rattle.std.proofs.Common.{◌≡◌, ℕ, ◌+◌, ◌^◌, ◌<◌, List, [], ◌∷◌, ◌++◌, length, map, sym, arith, subst, append-nil}
use Rattle.std.proofs.Common.{length-append, inl, inr, All}
use Rattle.std.specs.Prelude.{slice_index}
use Rattle.std.proofs.lemmas.Bool.{cases_lt}
use Rattle.std.proofs.lemmas.List.{get_or_past}
use Rattle.std.proofs.lemmas.List.Elements.{All-nil, All-cons, All-append}
use Rattle.operators.specs.declared.target.Target.{Target}
use Rattle.sigma_spl.proofs.Tables.{tables-append}
use Rattle.sigma_spl.specs.Merged.{PlainMerged}
use Rattle.sigma_spl.specs.Nest.{PlainNest, values}
use Rattle.sigma_spl.specs.Shared.Owners.{all_passes, most_actions}
use Rattle.sigma_spl.specs.Shared.Ready.{IsReady, IsReadyPass, passes_tables}
use Rattle.loop_merge.specs.JoinedPasses.InOnePhase.{joined}
use Rattle.loop_merge.specs.JoinedPasses.Laws.{CanJoin, IsReadyJoined}
use Rattle.loop_merge.specs.MultipliedPasses.Multiplied.{multiplied_last, with_factors}
use Rattle.loop_merge.proofs.AloneOwns.{shared-first}
use Rattle.loop_merge.proofs.JoinedPasses.Counts.{most-joined}
use Rattle.loop_merge.proofs.MultipliedPasses.Lasts.{length-last}
use Rattle.loop_merge.proofs.MultipliedPasses.ReadyLasts.{CanFollow, last-ready}

-- what is listed is below m, and so is what is not
at-residues : (m : ℕ) (ds : List ℕ) → 0 < m → All (λ d. d < m) ds → (i : ℕ) → slice_index ds i < m
at-residues m ds some h i =
    elim (cases_lt i (length ds)) [
      | inl inside ↦ h i 0 inside
      | inr past ↦ subst (λ v. v < m) (sym (get_or_past ds i 0 past)) some
    ]

module _ (h : Target) (g k : PlainMerged) (ds : List ℕ) (can : CanJoin h g ds k) where
  abbrev first : List (List PlainNest)
  first = all_passes g.phases

  abbrev second : List (List PlainNest)
  second = all_passes k.phases

  abbrev passes : List (List PlainNest)
  passes = multiplied_last (values ds) first ++ second

  one : all_passes (passes ∷ []) ≡ passes
  one = append-nil passes

  follow : CanFollow h (values ds)
  follow =
      let large = can.first.host.modulus in
      record {
        lanes = can.lanes;
        size = can.size;
        residues = at-residues h.modulus ds (omega (arith, large)) can.residues;
      }

  all-ready : All (IsReadyPass h) passes
  all-ready =
      All-append (IsReadyPass h) (multiplied_last (values ds) first) second
      (last-ready h can.first.host (values ds) follow first can.first.passes) can.second.passes

  some : 0 < length passes
  some =
      let all = length-append (multiplied_last (values ds) first) second in
      let before = length-last (map (with_factors (values ds))) first in
      let any = can.first.some in
      omega (arith, all, before, any)

  is-ready : IsReady h (joined g ds k)
  is-ready =
      record {
        host = can.first.host;
        size = can.first.size;
        procs = can.first.procs;
        lanes = can.first.lanes;
        passes = subst (All (IsReadyPass h)) (sym one) all-ready;
        some = subst (λ ps. 0 < length ps) (sym one) some;
        each_some = All-cons (λ ps. 0 < length ps) passes [] some (All-nil (λ ps. 0 < length ps));
        few = subst (λ ps. most_actions h ps < 2 ^ 59) (sym one)
            (subst (λ n. n < 2 ^ 59) (sym (most-joined h ds first second can.first.passes can.free)) can.actions);
        tables = subst (λ ps. passes_tables ps < 2 ^ 32) (sym one)
            (let all = tables-append (multiplied_last (values ds) first) second in
            let few = can.tables in omega (arith, all, few));
        shared = (shared-first h can.procs passes, tt);
      }

pub joined_are_ready : (g k : PlainMerged) (ds : List ℕ) → IsReadyJoined g ds k (joined g ds k)
joined_are_ready g k ds h can = is-ready h g k ds can

-- so are those that have their phases
pub ready_joined : (g k : PlainMerged) (ds : List ℕ) (phases : List (List (List PlainNest))) →
    phases ≡ (joined g ds k).phases →
    IsReadyJoined g ds k (record { size = g.size; procs = g.procs; lanes = g.lanes; phases = phases })
ready_joined g k ds phases is =
    let Ready : List (List (List PlainNest)) → Type 0 =
    λ ps. IsReadyJoined g ds k (record { size = g.size; procs = g.procs; lanes = g.lanes; phases = ps }) in
    subst Ready (sym is) (joined_are_ready g k ds)
