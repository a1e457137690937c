-- What is known of each pass of a layout.
use Rattle.sigma_lower.proofs.Words.{List, [], ◌∷◌, ◌++◌, map, sym, arith, subst, ◌≡◌, ◌<◌, reverse, map-append}
use Rattle.sigma_lower.proofs.Words.{reverse-append, reverse-reverse, AllHaveLoops, AllOrdered, phase_term, PlainPass}
use Rattle.sigma_lower.proofs.Words.{passes_of_terms, in_order, merged_of, loop_of, IsLimitedPass, IsSmallWork}
use Rattle.sigma_lower.proofs.Words.{PlainLoop, AreLimitedLoops, IsLimitedLoop, loops_in, one_nest, IsOrdered, most}
use Rattle.sigma_lower.proofs.Words.{AllFramed, IsFramed, PlainTerm, lowered_of, Layout, Target, IsMachine, merge_keeps}
use Rattle.sigma_lower.proofs.Words.{IsGoodLoop, unbounded, passes_within}
use Rattle.sigma_lower.proofs.HaveLoops.{phases_have_loops}
use Rattle.sigma_lower.proofs.Ordered.{trees_ordered}
use Rattle.sigma_lower.proofs.SharedTrees.{AllEmbed, trees_embed}
use Rattle.sigma_lower.proofs.TreeLoops.PassLists.{AllPasses}
use Rattle.sigma_lower.proofs.TreeLoops.RootPlaces.{HaveGoodPlaces}
use Rattle.sigma_lower.proofs.TreeLoops.LoopLimits.{tree_loops}
use Rattle.sigma_lower.proofs.TreeLoops.LoopNests.{loops_listed}
use Rattle.sigma_lower.proofs.TreeLoops.Shaped.{IsShaped, IsShapedWork}
use Rattle.sigma_lower.proofs.TreeLoops.TreePlaces.{good_places, tree_good_places}
use Rattle.sigma_spl.specs.Good.{AreGoodPasses, IsGoodPass}
use Rattle.sigma_spl.specs.Loops.{AreGoodLoops}
use Rattle.sigma_spl.proofs.GoodLoops.{loops_are_good}
use Rattle.sigma_lower.proofs.TreeLoops.SharedPasses.Framed.{passes_are_framed}
use Rattle.sigma_lower.proofs.TreeSigmas.Hosted.{IsHosted}
use Rattle.sigma_spl.proofs.Listed.{merge_listed}

pub record IsKnown (c : Target) (p : PlainPass) : Type 0 where
  pub framed : IsFramed c p
  pub shaped : IsShaped (IsShapedWork c.modulus) c.size p
  pub small : IsSmallWork p.work
  pub limited : IsLimitedLoop 64 c.size (loop_of p)
  pub placed : IsLimitedPass c p
  pub loop : IsGoodLoop c.lanes (loop_of p)
  pub good : IsGoodPass c.lanes c.modulus c.size (one_nest (loop_of p))

-- a loop whose nest is a good pass
record IsGood (c : Target) (l : PlainLoop) : Type 0 where
  loop : IsGoodLoop c.lanes l
  pass : IsGoodPass c.lanes c.modulus c.size (one_nest l)

abbrev AreGood : Target → List PlainLoop → Type 0
AreGood c [] = Unit {0}
AreGood c (l ∷ ls) = IsGood c l × AreGood c ls

good-loops : (c : Target) (ls : List PlainLoop) → AreGoodLoops c.lanes ls →
    AreGoodPasses c.lanes c.modulus c.size (map one_nest ls) → AreGood c ls
good-loops c [] h k = tt
good-loops c (l ∷ ls) h k = (record { loop = h.0; pass = k.0 }, good-loops c ls h.1 k.1)

good-append : (c : Target) (ls more : List PlainLoop) → AreGood c ls → AreGood c more → AreGood c (ls ++ more)
good-append c [] more h k = k
good-append c (l ∷ ls) more h k = (h.0, good-append c ls more h.1 k)

good-reverse : (c : Target) (ls : List PlainLoop) → AreGood c ls → AreGood c (reverse ls)
good-reverse c [] h = tt
good-reverse c (l ∷ ls) h =
    subst (AreGood c) (sym (reverse-append (l ∷ []) ls))
    (good-append c (reverse ls) (l ∷ []) (good-reverse c ls h.1) (h.0, tt))

-- those of a phase, in order
good-phase : (c : Target) (ts : List PlainTerm) → AreGood c (loops_in (phase_term ts)) →
    AreGood c (map loop_of (passes_of_terms ts))
good-phase c ts h =
    let ls = map loop_of (passes_of_terms ts) in
    subst (AreGood c) (reverse-reverse ls) (good-reverse c (reverse ls) (subst (AreGood c) (loops_listed ts) h))

good-phases : (c : Target) (phases : List (List PlainTerm)) → IsMachine c → AllEmbed c c.lanes phases →
    AllOrdered c phases → AllHaveLoops c phases → AreGood c (map loop_of (in_order (map passes_of_terms phases)))
good-phases c [] machine embedded ordered have = tt
good-phases c (ts ∷ more) machine embedded ordered have =
    let t = phase_term ts in
    let some : 0 < c.size = omega (arith, machine.size.0) in
    let positive : 0 < c.modulus = omega (arith, machine.modulus) in
    let good = loops_are_good c.lanes c.size t some embedded.0.good ordered.0.in_order in
    let order : IsOrdered t = record { in_order = ordered.0.in_order; none_waits = ordered.0.none_waits; some = have.0 } in
    let listed : passes_within unbounded c.size t ≡ map one_nest (loops_in t) = merge_listed unbounded c.size t order tt in
    let merged = merge_keeps c.lanes c.modulus c.size unbounded t positive some embedded.0.good in
    let passes = subst (AreGoodPasses c.lanes c.modulus c.size) listed merged.good in
    let first = good-phase c ts (good-loops c (loops_in t) good passes) in
    subst (AreGood c) (sym (map-append loop_of (passes_of_terms ts) (in_order (map passes_of_terms more))))
    (good-append c (map loop_of (passes_of_terms ts)) _ first (good-phases c more machine embedded.1 ordered.1 have.1))

-- ---- all passes

abbrev pub AllKnown : Target → List PlainPass → Type 0
AllKnown c ps = AllPasses (IsKnown c) ps

all-known : (c : Target) (ps : List PlainPass) → AllFramed c ps → HaveGoodPlaces c (IsShapedWork c.modulus) ps →
    HaveGoodPlaces c IsSmallWork ps → AreLimitedLoops (most 64) c.size (map loop_of ps) → AreGood c (map loop_of ps) →
    AllKnown c ps
all-known c [] framed places small limited good = tt
all-known c (p ∷ ps) framed places small limited good = (
  record {
    framed = framed.0;
    shaped = places.0.shaped;
    small = small.0.shaped.work;
    limited = limited.0;
    placed = places.0.limited;
    loop = good.0.loop;
    good = good.0.pass;
  },
  all-known c ps framed.1 places.1 small.1 limited.1 good.1,
)

pub layout-known : (c : Target) (l : Layout) → IsHosted c l → AllKnown c (merged_of c l)
layout-known c l is =
    all-known c (merged_of c l) (passes_are_framed c l is.shares is.good) (tree_good_places c l is.shares is.good)
    (good_places c IsSmallWork l is.shares is.good is.small tt)
    (tree_loops 64 c l (omega arith) is.machine is.shares is.good)
    (good-phases c (lowered_of c l) is.machine (trees_embed c l is.machine is.shares is.good)
    (trees_ordered c l is.machine is.shares is.good) (phases_have_loops c l is.machine is.shares is.good))
