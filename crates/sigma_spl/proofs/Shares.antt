-- In a pass that can run all processors do the same: together they do what the pass counts.
use Rattle.std.proofs.Common.{◌≡◌, ℕ, ◌+◌, ◌*◌, arith, ap, ap₂, ◌∙◌, sym, List, [], ◌∷◌, map, All, mul-zero}
use Rattle.std.proofs.lemmas.List.Elements.{All-head, All-tail}
use Rattle.sigma_spl.proofs.Frames.{copies-framed, loops-are}
use Rattle.operators.specs.declared.target.Target.{Target}
use Rattle.sigma_spl.proofs.Counting.{items_of, items-once}
use Rattle.sigma_spl.specs.Copies.{AreInside}
use Rattle.sigma_spl.specs.Counts.{copies_in, multiplier_cost}
use Rattle.sigma_spl.specs.Nest.{PlainNest, copies_of}
use Rattle.sigma_spl.specs.Shared.Costs.{pass_cost, pass_loads, work_cost, work_loads}
use Rattle.sigma_spl.specs.Shared.Names.{HasShares, lanes_round, own_copies, share_of}
use Rattle.sigma_spl.specs.Shared.Running.{CanRun, CanRunNest, IsFramed}
use Rattle.sigma_spl.specs.Work.{work_size}

-- all processors together have all copies
copies-shared : (h : Target) (z : PlainNest) → IsFramed h z → h.procs * own_copies h z ≡ copies_in z.counts
copies-shared h z f =
    let own : own_copies h z ≡ copies_in f.loops * lanes_round h z.work =
    ap (λ loops. copies_in loops * lanes_round h z.work) (loops-are h z f) in
    let turned : copies_in f.loops * lanes_round h z.work ≡ lanes_round h z.work * copies_in f.loops = omega arith in
    ap (λ n. h.procs * n) (own ∙ turned) ∙ sym (ap copies_in f.counts ∙ copies-framed h z.work f.loops)

shared : (procs own copies each rest all : ℕ) → procs * own ≡ copies → procs * rest ≡ all →
    procs * (own * each + rest) ≡ copies * each + all
shared procs own copies each rest all e f =
    let cut : procs * (own * each + rest) ≡ procs * own * each + procs * rest = omega arith in
    cut ∙ ap₂ (λ x y. x * each + y) e f

module _ (h : Target) (weight : ℕ) where
  -- what all processors do, nest by nest
  record AreShared (zs : List PlainNest) : Type 0 where
    operations : h.procs * (share_of h weight zs).operations ≡ pass_cost weight h.modulus zs
    loads : h.procs * (share_of h weight zs).loads ≡ pass_loads zs
    stores : h.procs * (share_of h weight zs).stores ≡ items_of (map (copies_of h.modulus) zs)

  are-shared : (zs : List PlainNest) → All (CanRunNest h) zs → AreShared zs
  are-shared [] can = record { operations = mul-zero h.procs; loads = mul-zero h.procs; stores = mul-zero h.procs }
  are-shared (z ∷ zs) can =
      let copies = copies-shared h z (All-head (CanRunNest h) z zs can).framed in
      let rest = are-shared zs (All-tail (CanRunNest h) z zs can) in
      let own = own_copies h z in
      let each = work_cost weight h.modulus z.work + multiplier_cost weight z.multiplier z.work in
      let others = share_of h weight zs in
      record {
        operations = shared h.procs own (copies_in z.counts) each others.operations _ copies rest.operations;
        loads = shared h.procs own (copies_in z.counts) (work_loads z.work) others.loads _ copies rest.loads;
        stores = shared h.procs own (copies_in z.counts) (work_size z.work) others.stores _ copies rest.stores;
      }

  all-inside : (zs : List PlainNest) → All (CanRunNest h) zs → AreInside h.size (map (copies_of h.modulus) zs)
  all-inside [] can = tt
  all-inside (z ∷ zs) can = ((All-head (CanRunNest h) z zs can).inside, all-inside zs (All-tail (CanRunNest h) z zs can))

  pub runs_have_shares : (zs : List PlainNest) → CanRun h zs → HasShares h weight zs
  runs_have_shares zs can =
      let are = are-shared zs can.nests in
      record {
        operations = are.operations;
        loads = are.loads;
        stores = are.stores
            ∙ items-once h.size (map (copies_of h.modulus) zs) (all-inside zs can.nests) can.once;
      }
