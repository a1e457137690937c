-- The counts of a nest's loops on a machine of some processors and lanes.
use Rattle.std.proofs.Common.{◌≡◌, ◌≢◌, ℕ, suc, ◌+◌, ◌*◌, Bool, true, false, arith, refl, sym, ap, ◌∙◌, List, [], ◌∷◌}
use Rattle.std.proofs.Common.{◌++◌, drop, if◌then◌else◌}
use Rattle.std.specs.Prelude.{◌==◌}
use Rattle.std.proofs.lemmas.Bool.Decides.{nat_tests}
use Rattle.operators.specs.declared.target.Target.{Target}
use Rattle.sigma_spl.specs.Counts.{copies_in}
use Rattle.sigma_spl.specs.Nest.{PlainNest}
use Rattle.sigma_spl.specs.Shared.Machine.{one_if_several, if_several, first_loop, framed_lanes, loop_counts}
use Rattle.sigma_spl.specs.Shared.Names.{lanes_round}
use Rattle.sigma_spl.specs.Shared.Running.{IsFramed}
use Rattle.sigma_spl.specs.Work.{PlainWork, kernel, rows, horner, tile, copy}

-- what holds of one and of several
pub one_or_several : (n : ℕ) (P : Bool → Type 0) → (n ≡ 1 → P true) → (n ≢ 1 → P false) → P (n == 1)
one_or_several n P one several = pick (n == 1) refl
  where
    pick : (b : Bool) → (n == 1) ≡ b → P b
    pick true e = one (grind (arith, nat_tests, e))
    pick false e = several (λ is. grind (arith, nat_tests, e, is))

-- ---- a variable that is left out where it has one value

copies-several : (n : ℕ) (counts : List ℕ) → copies_in (if_several n n ++ counts) ≡ n * copies_in counts
copies-several n counts =
    one_or_several n (λ b. copies_in ((if b then [] else n ∷ []) ++ counts) ≡ n * copies_in counts)
    (λ one.
    let same : copies_in counts ≡ 1 * copies_in counts = omega arith in same ∙ ap (λ k. k * copies_in counts) (sym one))
    (λ several. refl)

drop-several : (n : ℕ) (counts : List ℕ) (more : ℕ) →
    drop (one_if_several n + more) (if_several n n ++ counts) ≡ drop more counts
drop-several n counts more =
    one_or_several n
    (λ b. drop ((if b then 0 else 1) + more) ((if b then [] else n ∷ []) ++ counts) ≡ drop more counts)
    (λ one. let none : 0 + more ≡ more = omega arith in ap (λ k. drop k counts) none)
    (λ several. let next : 1 + more ≡ suc more = omega arith in ap (λ k. drop k (n ∷ counts)) next)

-- ---- all variables of a nest

-- the counts of the processors and lanes, before those of the loops
abbrev pub framed : Target → PlainWork → List ℕ → List ℕ
framed c w loops = if_several c.procs c.procs ++ (framed_lanes c w ++ loops)

module _ (c : Target) where
  copies-lanes : (w : PlainWork) (loops : List ℕ) →
      copies_in (framed_lanes c w ++ loops) ≡ lanes_round c w * copies_in loops
  copies-lanes (kernel trees) loops = copies-several c.lanes loops
  copies-lanes (rows root size) loops = copies-several c.lanes loops
  copies-lanes (horner root size) loops = copies-several c.lanes loops
  copies-lanes (tile lanes) loops = omega arith
  copies-lanes (copy size) loops = copies-several c.lanes loops

  pub copies-framed : (w : PlainWork) (loops : List ℕ) →
      copies_in (framed c w loops) ≡ c.procs * (lanes_round c w * copies_in loops)
  copies-framed w loops =
      copies-several c.procs (framed_lanes c w ++ loops) ∙ ap (λ n. c.procs * n) (copies-lanes w loops)

  drop-lane : (loops : List ℕ) → drop (one_if_several c.lanes) (if_several c.lanes c.lanes ++ loops) ≡ loops
  drop-lane loops =
      let all : one_if_several c.lanes ≡ one_if_several c.lanes + 0 = omega arith in
      ap (λ n. drop n (if_several c.lanes c.lanes ++ loops)) all ∙ drop-several c.lanes loops 0

  both-framed : (loops : List ℕ) →
      drop (one_if_several c.procs + one_if_several c.lanes)
      (if_several c.procs c.procs ++ (if_several c.lanes c.lanes ++ loops)) ≡ loops
  both-framed loops =
      drop-several c.procs (if_several c.lanes c.lanes ++ loops) (one_if_several c.lanes) ∙ drop-lane loops

  loops-framed : (w : PlainWork) (loops : List ℕ) → drop (first_loop c w) (framed c w loops) ≡ loops
  loops-framed (kernel trees) loops = both-framed loops
  loops-framed (rows root size) loops = both-framed loops
  loops-framed (horner root size) loops = both-framed loops
  loops-framed (tile lanes) loops = drop-several c.procs loops 0
  loops-framed (copy size) loops = both-framed loops

-- what the loops of a nest run over
pub loops-are : (c : Target) (p : PlainNest) (f : IsFramed c p) → loop_counts c p ≡ f.loops
loops-are c p f = ap (drop (first_loop c p.work)) f.counts ∙ loops-framed c p.work f.loops
