-- Nests and passes that are written one after another.
use Rattle.std.proofs.Common.{◌≡◌, ℕ, Vec, Global, suc, ◌+◌, ◌<◌, List, [], ◌∷◌, ◌++◌, length, map, get_or, take, max}
use Rattle.std.proofs.Common.{refl, sym, ap, ap₂, ◌∙◌, arith, zero, ◌^◌, ◌≤◌, subst, All, Option, Some, None}
use Rattle.std.proofs.lemmas.List.{map-append, take_more, get_or-map, length-map}
use Rattle.std.proofs.lemmas.List.Elements.{Contains-get_or}
use Rattle.code_gen.specs.Views.{plain_passes}
use Rattle.icode.specs.Plain.{PlainBody, PlainProgram, NoStmts, AndStmts, plain_body}
use Rattle.icode.specs.declared.program.Array.{Array}
use Rattle.icode.specs.declared.program.Array.TheVariants.{X}
use Rattle.icode.specs.declared.program.Stmt.{Stmt}
use Rattle.code_gen.specs.PassActions.Acts.{nest_registers, pass_registers}
use Rattle.operators.specs.declared.target.Target.{Target}
use Rattle.code_gen.specs.PassCode.Program.{most_of_phases, phase_body, phases_body, program_of, tables_of_phases}
use Rattle.code_gen.specs.PassCode.Program.{written_array, count_in}
use Rattle.code_gen.specs.PassCode.Statements.{followed_by, nest_body, pass_body, tables_after, tables_of_nest}
use Rattle.sigma_spl.specs.Merged.{PlainMerged}
use Rattle.sigma_spl.specs.Nest.{PlainNest, PlainFactors, twiddles, spread, PlainMultiplier, factor_count}
use Rattle.sigma_spl.specs.Views.{plain_nest}
use Rattle.sigma_spl.specs.declared.nest.Nest.{Nest}
use Rattle.kernel_gen.specs.Kernel.{trees_kernel}
use Rattle.kernel_gen.proofs.Products.{trees-does}
use Rattle.sigma_spl.specs.Shared.Running.{CanWork}
use Rattle.code_gen.specs.PassCode.Conditions.{CanWritePass}
use Rattle.code_gen.specs.PassCode.Contract.{CanProgram}
use Rattle.sigma_spl.specs.Shared.Owners.{IsHost, all_passes, most_actions}
use Rattle.sigma_spl.specs.Shared.Kernels.{IsMadeKernel}
use Rattle.sigma_spl.specs.Work.{PlainKernel, PlainWork, kernel, trees_of, work_size}
use Rattle.tree_model.specs.Trees.{trees_size}
use Rattle.code_gen.specs.Conditions.{CanEmit, CanEmitAll, CanEmitPhases, CanList, HasFactors}
use Rattle.sigma_spl.proofs.Keeps.{right_positive}
use Rattle.code_gen.proofs.PlainRules.{plain-append}
use Rattle.code_gen.proofs.PassActions.Fillings.{registers-le}
use Rattle.code_gen.proofs.WholePrograms.Processor.{passes-count}
use Rattle.code_gen.proofs.Diagonals.{inner-some}

-- ---- one nest more

followed-assoc : (xs ys zs : PlainBody) → followed_by (followed_by xs ys) zs ≡ followed_by xs (followed_by ys zs)
followed-assoc NoStmts ys zs = refl
followed-assoc (AndStmts x xs) ys zs = ap (AndStmts x) (followed-assoc xs ys zs)

followed-none : (xs : PlainBody) → followed_by xs NoStmts ≡ xs
followed-none NoStmts = refl
followed-none (AndStmts x xs) = ap (AndStmts x) (followed-none xs)

tables-more : (m : ℕ) (zs : List PlainNest) (z : PlainNest) (tables : List (List ℕ)) →
    tables_after m (zs ++ z ∷ []) tables ≡ tables_of_nest m z (tables_after m zs tables)
tables-more m [] z tables = refl
tables-more m (y ∷ zs) z tables = tables-more m zs z (tables_of_nest m y tables)

body-more : (h : Target) (zs : List PlainNest) (z : PlainNest) (tables : List (List ℕ)) (source target : Array) →
    pass_body h (zs ++ z ∷ []) tables source target ≡ followed_by (pass_body h zs tables source target)
    (nest_body h z (tables_after h.modulus zs tables) source target)
body-more h [] z tables source target = followed-none (nest_body h z tables source target)
body-more h (y ∷ zs) z tables source target =
    ap (followed_by (nest_body h y tables source target)) (body-more h zs z (tables_of_nest h.modulus y tables) source target)
    ∙ sym (followed-assoc (nest_body h y tables source target) _ _)

registers-more : (h : Target) (zs : List PlainNest) (z : PlainNest) →
    pass_registers h.modulus (zs ++ z ∷ []) ≡ max (pass_registers h.modulus zs) (nest_registers h.modulus z z.work)
registers-more h [] z = omega arith
registers-more h (y ∷ zs) z = let rest = registers-more h zs z in omega arith

-- the nests of the code so far, and the next one
pub taken-more : (nests : List Nest) (i : ℕ) (z : Nest) → i < length nests → z ≡ get_or nests i z →
    map plain_nest (take (i + 1) nests) ≡ map plain_nest (take i nests) ++ plain_nest z ∷ []
taken-more nests i z below is =
    ap (map plain_nest) (take_more nests i z below)
    ∙ map-append plain_nest (take i nests) (get_or nests i z ∷ [])
    ∙ ap (λ (y : Nest). map plain_nest (take i nests) ++ plain_nest y ∷ []) (sym is)

module _ (h : Target) (nests : List Nest) (i : ℕ) (z : Nest) (tables : List (List ℕ)) (source target : Array)
    (below : i < length nests) (is : z ≡ get_or nests i z) where
  pub next-body : (before one whole : List Stmt) (had : List (List ℕ)) →
      plain_body before ≡ pass_body h (map plain_nest (take i nests)) tables source target →
      had ≡ tables_after h.modulus (map plain_nest (take i nests)) tables →
      plain_body one ≡ nest_body h (plain_nest z) had source target → whole ≡ before ++ one →
      plain_body whole ≡ pass_body h (map plain_nest (take (i + 1) nests)) tables source target
  next-body before one whole had so_far there written joined =
      ap plain_body joined ∙ plain-append before one
      ∙ ap₂ followed_by so_far (written ∙ ap (λ (ts : List (List ℕ)). nest_body h (plain_nest z) ts source target) there)
      ∙ sym (body-more h (map plain_nest (take i nests)) (plain_nest z) tables source target)
      ∙ sym (ap (λ (zs : List PlainNest). pass_body h zs tables source target) (taken-more nests i z below is))

  pub next-tables : (had now : List (List ℕ)) → had ≡ tables_after h.modulus (map plain_nest (take i nests)) tables →
      now ≡ tables_of_nest h.modulus (plain_nest z) had → now
      ≡ tables_after h.modulus (map plain_nest (take (i + 1) nests)) tables
  next-tables had now there added =
      added ∙ ap (tables_of_nest h.modulus (plain_nest z)) there
      ∙ sym (tables-more h.modulus (map plain_nest (take i nests)) (plain_nest z) tables)
      ∙ sym (ap (λ (zs : List PlainNest). tables_after h.modulus zs tables) (taken-more nests i z below is))

  pub next-registers : (before one now : ℕ) → before ≡ pass_registers h.modulus (map plain_nest (take i nests)) →
      one ≡ nest_registers h.modulus (plain_nest z) (plain_nest z).work → now ≡ max before one →
      now ≡ pass_registers h.modulus (map plain_nest (take (i + 1) nests))
  next-registers before one now so_far used more =
      more ∙ ap₂ max so_far used
      ∙ sym (registers-more h (map plain_nest (take i nests)) (plain_nest z))
      ∙ sym (ap (pass_registers h.modulus) (taken-more nests i z below is))

-- ---- passes in a row

-- the statements of the first pass after those that are there, and then those of the others
pub first_and_more : (h : Target) (after_them : ℕ) (zs : List PlainNest) (ps all : List (List PlainNest)) (number : ℕ)
    (tables after : List (List ℕ)) (source target : Array) (before first whole : List Stmt) (final : PlainBody) →
    all ≡ zs ∷ ps → target ≡ written_array number (after_them + length ps) →
    plain_body first ≡ pass_body h zs tables source target → after ≡ tables_after h.modulus zs tables →
    whole ≡ before ++ first → final ≡ followed_by (plain_body whole)
    (phase_body h after_them ps (number + 1) after target) →
    final ≡ followed_by (plain_body before) (phase_body h after_them all number tables source)
first_and_more h after_them zs ps all number tables after source target before first whole final is to head then joined rest =
    let next : number + 1 ≡ suc number = omega arith in
    rest
    ∙ ap (λ (b : PlainBody). followed_by b (phase_body h after_them ps (number + 1) after target)) (ap plain_body joined ∙ plain-append before first)
    ∙ followed-assoc (plain_body before) (plain_body first) (phase_body h after_them ps (number + 1) after target)
    ∙ ap (followed_by (plain_body before))
    (ap (λ (b : PlainBody). followed_by b (phase_body h after_them ps (number + 1) after target)) head
    ∙ ap₂ (λ (ts : List (List ℕ)) (n : ℕ). followed_by (pass_body h zs tables source target) (phase_body h after_them ps n ts target)) then next
    ∙ ap (λ (a : Array). followed_by (pass_body h zs tables source a) (phase_body h after_them ps (suc number) (tables_after h.modulus zs tables) a)) to
    ∙ ap (λ (qs : List (List PlainNest)). phase_body h after_them qs number tables source) (sym is))

-- no passes, and so nothing after those that are there
pub put_none : (h : Target) (after number : ℕ) (passes : List (Vec Nest Global)) (tables : List (List ℕ))
    (source : Array) (xs : PlainBody) → length passes ≡ 0 →
    xs ≡ followed_by xs (phase_body h after (plain_passes passes) number tables source)
put_none h after number [] tables source xs none = sym (followed-none xs)
put_none h after number (zs ∷ ps) tables source xs none = absurd (cc)

-- the program that is made of the statements, the tables and the registers
pub written_is : (h : Target) (g : PlainMerged) (modulus regs : ℕ) (ps : List (List (List PlainNest)))
    (had tables : List (List ℕ)) (phases : List PlainBody) → modulus ≡ h.modulus → ps ≡ g.phases →
    regs ≡ most_of_phases h ps → had ≡ [] → tables ≡ tables_of_phases h.modulus ps had →
    phases ≡ phases_body h ps 0 had X →
    (let p : PlainProgram = record { size = h.size; modulus = modulus; procs = h.procs; line = h.line; lanes = h.lanes; regs = regs; tables = tables; phases = phases } in p) ≡ program_of h g
written_is h g modulus regs ps had tables phases by same used none there written =
    λ i. record { size = h.size; modulus = by i; procs = h.procs; line = h.line; lanes = h.lanes; regs = regs_are i; tables = tables_are i; phases = phases_are i }
  where
    regs_are : regs ≡ most_of_phases h g.phases
    regs_are = used ∙ ap (most_of_phases h) same

    tables_are : tables ≡ tables_of_phases h.modulus g.phases []
    tables_are = there ∙ ap₂ (tables_of_phases h.modulus) same none

    phases_are : phases ≡ phases_body h g.phases 0 [] X
    phases_are = written ∙ ap₂ (λ (qs : List (List (List PlainNest))) (ts : List (List ℕ)). phases_body h qs 0 ts X) same none

-- ---- what is known of a nest that can be emitted

-- ---- works

work-of : (h : Target) (z : PlainNest) (w : PlainWork) → z.work ≡ w → CanEmit h z → CanWork h w × (work_size w < 2 ^ 32)
work-of h z w is can = (subst (CanWork h) is can.runs.work, subst (λ (v : PlainWork). work_size v < 2 ^ 32) is can.writes.items)

pub kernel-source : (h : Target) (z : PlainNest) (k : PlainKernel) → z.work ≡ kernel k → CanEmit h z →
    IsMadeKernel h.modulus k
kernel-source h z k is can = (work-of h z (kernel k) is can).0

-- the code of a kernel has an output for each item
pub kernel-sized : (h : Target) (z : PlainNest) (k : PlainKernel) → z.work ≡ kernel k → CanEmit h z →
    length (trees_kernel h.modulus (trees_of k)).outs ≡ trees_size (trees_of k)
kernel-sized h z k is can =
    let work = work-of h z (kernel k) is can in
    (trees-does h.modulus 1 (trees_of k) can.modulus work.0.trees).sized

can-list : (factors : PlainFactors) → 0 < factor_count factors → factor_count factors < 2 ^ 32 → CanList factors
can-list (twiddles r s root) some small = (right_positive r s some, small)
can-list (spread path factors) some small =
    let inner = inner-some path (factor_count factors) some in
    let low = inner.1 in (can-list factors inner.0 (omega arith), some, small)
can-list _ some small = tt

pub has-factors : (o : Option PlainMultiplier) → ((d : PlainMultiplier) → o ≡ Some d →
    (0 < factor_count d.factors) × (factor_count d.factors < 2 ^ 32)) → HasFactors o
has-factors None h = tt
has-factors (Some d) h = let known = h d refl in can-list d.factors known.0 known.1

-- ---- passes

can-pass : (h : Target) (zs : List PlainNest) → IsHost h → CanWritePass h zs → All (CanEmit h) zs
can-pass h zs host can k d below =
    record {
      modulus = host.modulus.0;
      lanes = host.lanes;
      runs = can.runs.nests k d below;
      writes = can.nests k d below;
      few = let low = registers-le h zs (get_or zs k d) (Contains-get_or zs k d below) in let few = can.few in omega arith;
    }

module _ (h : Target) (host : IsHost h) where
  first-passes : (ps qs : List (List PlainNest)) → All (CanWritePass h) (ps ++ qs) →
      CanEmitAll h ps × All (CanWritePass h) qs
  first-passes [] qs all = (tt, all)
  first-passes (zs ∷ ps) qs all =
      let rest = first-passes ps qs (λ k d below. all (suc k) d (omega arith)) in
      ((can-pass h zs host (all zero zs (omega arith)), rest.0), rest.1)

  can-phases : (pss : List (List (List PlainNest))) → All (CanWritePass h) (all_passes pss) → CanEmitPhases h pss
  can-phases [] all = tt
  can-phases (ps ∷ more) all = let parts = first-passes ps (all_passes more) all in (parts.0, can-phases more parts.1)

  most-passes : (ps : List (List PlainNest)) → length ps ≤ most_actions h ps
  most-passes [] = omega arith
  most-passes (zs ∷ ps) = let rest = most-passes ps in let size = host.size in omega arith

pub can-emit : (h : Target) (g : PlainMerged) → CanProgram h g → CanEmitPhases h g.phases
can-emit h g can = can-phases h can.host g.phases can.passes

pub few-passes : (h : Target) (g : PlainMerged) → CanProgram h g → 0 + count_in g.phases < 2 ^ 64
few-passes h g can = let all = passes-count g.phases in let most = most-passes h can.host (all_passes g.phases) in let few = can.few in omega (arith, all, most, few)

-- a nest of a pass
pub nest-at : (h : Target) (nests : List Nest) (i : ℕ) (z : Nest) → All (CanEmit h) (map plain_nest nests) →
    i < length nests → z ≡ get_or nests i z → CanEmit h (plain_nest z)
nest-at h nests i z all below is =
    let long : length (map plain_nest nests) ≡ length nests = length-map nests plain_nest in
    subst (CanEmit h) (get_or-map plain_nest nests i z (plain_nest z) below ∙ ap plain_nest (sym is)) (all i (plain_nest z) (omega arith))
