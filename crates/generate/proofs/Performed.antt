-- A program that performs passes leaves the same whatever turns come first, and each of its processors counts an equal
-- share of what the passes count.
use Rattle.std.proofs.Common.{◌≡◌, ℕ, zero, suc, ◌+◌, ◌*◌, ◌/◌, ◌<◌, All, List, [], ◌∷◌, length, flat_map, sym, ap, ap₂}
use Rattle.std.proofs.Common.{◌∙◌, arith, subst, sum_by, ◌++◌, length-append, map, refl, drop, take, sum}
use Rattle.std.specs.List.{range_with_len}
use Rattle.std.proofs.Math.Nat.{mul-div_cancel_left}
use Rattle.std.proofs.lemmas.List.{length-map, length-take-le, take-append-drop}
use Rattle.std.proofs.lemmas.List.Elements.{All-head, All-tail, All-weaker}
use Rattle.std.proofs.lemmas.List.Sums.{sum_by-cons, sum-map}
use Rattle.code_gen.proofs.WholePrograms.PartShares.{parts_share}
use Rattle.code_gen.proofs.WholePrograms.PhaseParts.{parts_in_a_row}
use Rattle.code_gen.specs.PassCode.Contract.{Performs, concatenated, in_a_row}
use Rattle.code_gen.specs.PassCode.Program.{written_array}
use Rattle.icode.proofs.Counting.{add-up, weighted-append}
use Rattle.icode.proofs.Lists.{code_is}
use Rattle.icode.specs.Leftovers.{AreLeftovers, Leftovers, results_among}
use Rattle.icode.proofs.FreshCodes.{fresh_ignores_leftovers, programs_have_factors}
use Rattle.icode.proofs.Runs.{memory_of_runs}
use Rattle.icode.specs.Actions.{plain_code}
use Rattle.icode.specs.Machine.{acts, counts_of, padded, results, weighted, whole_counts, words_at, Code}
use Rattle.icode.specs.Plain.{PlainProgram}
use Rattle.icode.specs.declared.action.Action.{Action}
use Rattle.icode.specs.declared.action.Counts.{Counts}
use Rattle.icode.specs.declared.program.Array.{Array}
use Rattle.icode.specs.declared.program.Array.TheVariants.{X}
use Rattle.sigma_spl.proofs.Shares.{runs_have_shares}
use Rattle.operators.specs.Sum.{sum_below}
use Rattle.operators.specs.declared.target.Target.{Target}
use Rattle.sigma_spl.specs.Merged.{PlainMerged}
use Rattle.sigma_spl.specs.Nest.{PlainNest}
use Rattle.sigma_spl.specs.Shared.Costs.{pass_cost, pass_loads}
use Rattle.sigma_spl.specs.Shared.Names.{HasShares}
use Rattle.sigma_spl.specs.Shared.Owners.{all_passes}
use Rattle.sigma_spl.specs.Shared.Ready.{IsReady, IsReadyPass}
use Rattle.matrix_meaning.specs.declared.Request.{Request}
use Rattle.tree_model.specs.Breakdown.{Breakdown, leaf, node}
use Rattle.tree_model.specs.WholePasses.{RequestPass, cost_of_pass, loads_of_pass, request_passes, pass_of, closed_by}
use Rattle.tree_model.specs.WholePasses.{flat_passes, whole_loads, whole_stores}
use Rattle.sigma_spl.specs.Shared.Targets.{target_of}
use Rattle.sigma_spl.specs.Trees.{IsMergedTree, CountsTree}
use Rattle.generate.specs.Lean.{AreParts, IsLeanCode, IsLeanList, IsPart, start_of, IsLean}
use Rattle.sigma_lower.specs.Merged.{tree_merged}
use Rattle.matrix_meaning.specs.Convolving.{IsConvRequest}
use Rattle.matrix_meaning.specs.declared.Kind.{Kind}
use Rattle.matrix_meaning.specs.Parts.{forward_by}
use Rattle.matrix_meaning.specs.Valid.{IsValid}
use Rattle.tree_model.specs.declared.tree.Rule.TheVariants.{Gt, Ct, Split, Dim}
use Rattle.tree_model.specs.Chosen.{IsWholeTree, whole_cost}
use Rattle.tree_model.specs.Passes.{Pass, loads_in, loads_of, whole_passes}
use Rattle.tree_model.specs.Whole.{IsTreeOf}
use Rattle.tree_model.proofs.WholeCosts.{passes_do_the_cost}
use Rattle.matrix_meaning.specs.Asked.{asked_of}
use Rattle.generate.specs.Good.{HasHeader, IsGood}
use Rattle.spl_ast.specs.Meaning.{IsVector}
use Rattle.generate.proofs.TreePasses.Merged.{trees_are_merged, trees_mean}
use Rattle.code_gen.specs.PassCode.Contract as contract
use Rattle.tree_model.specs.Passes as trees

-- ---- equal shares

-- n equal shares, of which p make the whole, are n of them
pub shares-sum : (p whole : ℕ) (f : ℕ → ℕ) (n : ℕ) → ((q : ℕ) → q < n → p * f q ≡ whole) → p * sum_below n f ≡ n * whole
shares-sum p whole f zero each = omega arith
shares-sum p whole f (suc n) each =
    let rest = shares-sum p whole f n (λ q low. each q (omega (arith, low))) in
    let last = each n (omega arith) in
    let spread : p * (sum_below n f + f n) ≡ p * sum_below n f + p * f n = omega arith in
    let more : suc n * whole ≡ n * whole + whole = omega arith in
    omega (arith, rest, last, spread, more)

-- equal shares of all are the whole
pub whole-of : (p whole : ℕ) (f : ℕ → ℕ) → 0 < p → ((q : ℕ) → q < p → p * f q ≡ whole) → sum_below p f ≡ whole
whole-of p whole f some each =
    sym (mul-div_cancel_left (sum_below p f) some)
    ∙ ap (λ n. n / p) (shares-sum p whole f p each)
    ∙ mul-div_cancel_left whole some

-- the share of one alone is all
pub alone : (p a b : ℕ) → p ≡ 1 → p * a ≡ b → a ≡ b
alone p a b one is = (let once : a ≡ 1 * a = omega arith in once) ∙ ap (λ n. n * a) (sym one) ∙ is

both : (p whole first rest a b : ℕ) → whole ≡ first + rest → p * first ≡ a → p * rest ≡ b → p * whole ≡ a + b
both p whole first rest a b is one other =
    ap (λ n. p * n) is
    ∙ (let out : p * (first + rest) ≡ p * first + p * rest = omega arith in out)
    ∙ ap₂ (λ n k. n + k) one other

-- ---- parts, one after another

-- as many lists as there are processors count what the passes do
pub record CountsPasses (h : Target) (ps : List (List PlainNest)) (counts : Counts) : Type 0 where
  pub operations : (weight : ℕ) → 0 < weight →
      h.procs * weighted weight counts ≡ sum_by (pass_cost weight h.modulus) ps
  pub loads : h.procs * counts.loads ≡ sum_by pass_loads ps
  pub stores : h.procs * counts.stores ≡ h.size * length ps

parts-count : (h : Target) (t : ℕ) (source : Array) (ps : List (List PlainNest)) (parts : List (List Action)) →
    ((weight : ℕ) → All (HasShares h weight) ps) → contract.AreParts h t source ps parts →
    CountsPasses h ps (counts_of h.lanes (concatenated parts))
parts-count h t source [] [] shares are =
    record { operations = λ weight some. omega arith; loads = omega arith; stores = omega arith }
parts-count h t source (zs ∷ ps) (part ∷ parts) shares are =
    let first = parts_share h zs _ _ part (λ weight. All-head (HasShares h weight) zs ps (shares weight)) are.0 in
    let rest = parts-count h (suc t) (written_array t (length ps)) ps parts
    (λ weight. All-tail (HasShares h weight) zs ps (shares weight)) are.1 in
    let all = add-up h.lanes part (concatenated parts) in
    record {
      operations = λ weight some.
          both h.procs _ _ _ _ _ (weighted-append h.lanes weight part (concatenated parts))
          (first.operations weight some) (rest.operations weight some)
          ∙ sym (sum_by-cons (pass_cost weight h.modulus) zs ps);
      loads = both h.procs _ _ _ _ _ all.loads first.loads rest.loads ∙ sym (sum_by-cons pass_loads zs ps);
      stores = both h.procs _ _ _ _ _ all.stores first.stores rest.stores
          ∙ (let more : (n k : ℕ) → n + n * k ≡ n * suc k = λ n k. omega arith in more h.size (length ps));
    }
parts-count h t source _ _ shares are = absurd are

-- ---- programs

module _ (h : Target) (g : PlainMerged) (p : PlainProgram) (performs : Performs h g p) where
  -- the turns that come first do not matter
  pub any-turns : (x turns : List ℕ) → results (plain_code p) x turns ≡ results (plain_code p) x []
  any-turns x turns =
      let first = memory_of_runs (plain_code p) (code_is p) performs.apart x turns in
      let none = memory_of_runs (plain_code p) (code_is p) performs.apart x [] in
      ap (λ memory. words_at p.size memory (padded (plain_code p))) (first ∙ sym none)

  -- neither does what is left over
  pub among-leftovers : (left : Leftovers) (x turns : List ℕ) → AreLeftovers (plain_code p) left → length x ≡ h.size →
      results_among (plain_code p) left x turns ≡ results (plain_code p) x turns
  among-leftovers left x turns are size =
      fresh_ignores_leftovers (plain_code p) left (code_is p) (programs_have_factors p) performs.fresh are x turns
      (size ∙ sym performs.size)

  pub phases-performed : length (plain_code p).lists ≡ length g.phases
  phases-performed = length-map p.phases _ ∙ performs.phases

  -- what a processor executes in the first n phases
  abbrev executed : ℕ → ℕ → List Action
  executed q n = flat_map (λ phase. acts (plain_code p) phase q) (range_with_len 0 n)

  pub performed-counts : IsReady h g → (q : ℕ) → q < h.procs →
      CountsPasses h (all_passes g.phases) (whole_counts (plain_code p) q)
  performed-counts ready q low =
      let ps = all_passes g.phases in
      let listed = parts_in_a_row h g (plain_code p) q (performs.parts q low) in
      let shares : (weight : ℕ) → All (HasShares h weight) ps =
      λ weight. All-weaker (IsReadyPass h) (HasShares h weight) (λ zs can. runs_have_shares h weight zs can.runs)
      ps ready.passes in
      subst (λ lanes. CountsPasses h ps (counts_of lanes (executed q (length (plain_code p).lists))))
      (sym performs.lanes)
      (subst (λ n. CountsPasses h ps (counts_of h.lanes (executed q n))) (sym phases-performed)
      (subst (λ actions. CountsPasses h ps (counts_of h.lanes actions)) listed.whole
      (parts-count h 0 X ps listed.parts shares listed.each)))

-- ---- programs of passes that count what those of the cost model do

cons-head : {A : Type 0} {x y : A} {xs ys : List A} → x ∷ xs ≡ y ∷ ys → x ≡ y
cons-head is = cc

cons-tail : {A : Type 0} {x y : A} {xs ys : List A} → x ∷ xs ≡ y ∷ ys → xs ≡ ys
cons-tail is = cc

-- what is listed alike is as long
pub same-length : {A B : Type 0} (f : A → ℕ) (g : B → ℕ) (xs : List A) (ys : List B) → map f xs ≡ map g ys →
    length xs ≡ length ys
same-length f g xs ys h = sym (length-map xs f) ∙ ap length h ∙ length-map ys g

module _ (r : Request) where
  one-part : (zs : List PlainNest) (pass : RequestPass) (source target : ℕ) (part : List Action) → 0 < r.weight →
      pass_cost r.weight r.modulus zs ≡ cost_of_pass r.size pass → pass_loads zs ≡ loads_of_pass r.size pass →
      ((weight : ℕ) → HasShares (target_of r) weight zs) → contract.IsPart (target_of r) zs source target part →
      IsPart r pass source target part
  one-part zs pass source target part some cost loads shares h =
      let all = parts_share (target_of r) zs source target part shares h in
      record {
        stays = h.stays;
        operations = all.operations r.weight some ∙ cost;
        loads = all.loads ∙ loads;
        stores = all.stores;
      }

  -- parts of passes that count as the cost model does
  parts-are : (t : ℕ) (source : Array) (ps : List (List PlainNest)) (passes : List RequestPass)
      (parts : List (List Action)) → 0 < r.weight →
      map (pass_cost r.weight r.modulus) ps ≡ map (cost_of_pass r.size) passes →
      map pass_loads ps ≡ map (loads_of_pass r.size) passes →
      ((weight : ℕ) → All (HasShares (target_of r) weight) ps) →
      contract.AreParts (target_of r) t source ps parts → AreParts r t source passes parts
  parts-are t source [] [] [] some costs loads shares h = tt
  parts-are t source [] (pass ∷ passes) parts some costs loads shares h = absurd (cc)
  parts-are t source (zs ∷ ps) [] parts some costs loads shares h = absurd (cc)
  parts-are t source (zs ∷ ps) (pass ∷ passes) (part ∷ parts) some costs loads shares h =
      let rest = cons-tail loads in
      subst
      (λ n. IsPart r pass (start_of r source) (start_of r (written_array t n)) part
      × AreParts r (suc t) (written_array t n) passes parts) (same-length pass_loads (loads_of_pass r.size) ps passes
      rest) (
        one-part zs pass _ _ part some (cons-head costs) (cons-head loads)
            (λ weight. All-head (HasShares (target_of r) weight) zs ps (shares weight)) h.0,
        parts-are (suc t) (written_array t (length ps)) ps passes parts some (cons-tail costs) rest
            (λ weight. All-tail (HasShares (target_of r) weight) zs ps (shares weight)) h.1,
      )
  parts-are t source _ _ _ some costs loads shares h = absurd h

-- ---- phases

-- these passes in phases, each of as many as its nests
record IsCut (phases : List (List (List PlainNest))) (passes : List RequestPass) : Type 0 where
  cut : List (List RequestPass)
  whole : flat_map (λ ps. ps) cut ≡ passes
  counts : map length phases ≡ map length cut

cut-in : (phases : List (List (List PlainNest))) (passes : List RequestPass) →
    length (all_passes phases) ≡ length passes → IsCut phases passes
cut-in [] [] is = record { cut = []; whole = refl; counts = refl }
cut-in [] (pass ∷ passes) is = cc
cut-in (ps ∷ phases) passes is =
    let n = length ps in
    let all : length (all_passes (ps ∷ phases)) ≡ length ps + length (all_passes phases) = length-append ps (all_passes phases) in
    let whole = take-append-drop n passes in
    let first : length (take n passes) ≡ n = length-take-le n passes (omega (arith, all, is)) in
    let parted = length-append (take n passes) (drop n passes) in
    let long = ap length whole in
    let rest = cut-in phases (drop n passes) (omega (arith, all, is, parted, long, first)) in
    record {
      cut = take n passes ∷ rest.cut;
      whole = ap (λ more. take n passes ++ more) rest.whole ∙ whole;
      counts = ap₂ (λ (k : ℕ) (ks : List ℕ). k ∷ ks) (sym first) rest.counts;
    }

-- the parts of each phase
record AreByPhase (code : Code) (q f : ℕ) (phases : List (List (List PlainNest))) (parts : List (List (List Action))) : Type 0 where
  counts : map length parts ≡ map length phases
  whole : map concatenated parts ≡ map (λ phase. acts code phase q) (range_with_len f (length phases))

by-phase : (code : Code) (q f : ℕ) (phases : List (List (List PlainNest))) (parts : List (List (List Action))) →
    contract.ArePhaseParts code q f phases parts → AreByPhase code q f phases parts
by-phase code q f [] [] h = record { counts = refl; whole = refl }
by-phase code q f (passes ∷ phases) (first ∷ more) h =
    let rest = by-phase code q (f + 1) phases more h.2 in
    record {
      counts = ap₂ (λ (k : ℕ) (ks : List ℕ). k ∷ ks) h.0 rest.counts;
      whole = ap₂ (λ (xs : List Action) (xss : List (List Action)). xs ∷ xss) h.1 rest.whole;
    }
by-phase code q f _ _ h = absurd h

module _ (r : Request) (t : Breakdown) (g : PlainMerged) (p : PlainProgram) (some : 0 < r.weight)
    (known : IsMergedTree r t g) (performs : Performs (target_of r) g p) where
  abbrev code : Code
  code = plain_code p

  lists-length : length code.lists ≡ length g.phases
  lists-length = phases-performed (target_of r) g p performs

  phases : IsCut g.phases (request_passes r t)
  phases = cut-in g.phases (request_passes r t)
      (same-length pass_loads (loads_of_pass r.size) (all_passes g.phases) (request_passes r t) known.counts.loads)

  lean-list : (q : ℕ) → q < r.procs → IsLeanList r phases.cut code q
  lean-list q low =
      let listed = performs.parts q low in
      let phased = by-phase code q 0 g.phases listed.phases listed.lists in
      record {
        parts = listed.phases;
        counts = phased.counts ∙ phases.counts;
        whole = phased.whole ∙ ap (λ n. map (λ phase. acts code phase q) (range_with_len 0 n)) (sym lists-length);
        each =
            subst (λ passes. AreParts r 0 X passes (in_a_row listed.phases)) (sym phases.whole)
            (parts-are r 0 X (all_passes g.phases) (request_passes r t) (in_a_row listed.phases) some
            known.counts.costs known.counts.loads known.parts listed.each);
      }

  pub lean-code : IsLeanCode r t code
  lean-code =
      record {
        number = lists-length ∙ known.phases;
        phases = phases.cut;
        passes = phases.whole;
        lists = lean-list;
      }

-- ---- what the merged passes of a tree count together

-- ---- what is listed alike has the same sum

sums-same : {A B : Type 0} (f : A → ℕ) (g : B → ℕ) (xs : List A) (ys : List B) → map f xs ≡ map g ys →
    sum_by f xs ≡ sum_by g ys
sums-same f g xs ys h = sym (sum-map f xs) ∙ ap sum h ∙ sum-map g ys

-- the operations and loads of the cost model, and a pass for each of its passes
pub record Totals (c : Request) (t : Breakdown) (ps : List (List PlainNest)) : Type 0 where
  pub operations : sum_by (pass_cost c.weight c.modulus) ps ≡ whole_cost c t
  pub loads : sum_by pass_loads ps ≡ whole_loads c t
  pub number : length ps ≡ length (request_passes c t)

pub tree-totals : (c : Request) (t : Breakdown) → IsValid c → IsWholeTree c t →
    Totals c t (all_passes (tree_merged c t).phases)
tree-totals c t valid h =
    let ps = all_passes (tree_merged c t).phases in
    let qs = request_passes c t in
    let counts : CountsTree c t ps = (trees_are_merged c t valid h).counts in
    record {
      operations =
          sums-same (pass_cost c.weight c.modulus) (cost_of_pass c.size) ps qs counts.costs
          ∙ passes_do_the_cost c t valid h;
      loads = sums-same pass_loads (loads_of_pass c.size) ps qs counts.loads;
      number = same-length pass_loads (loads_of_pass c.size) ps qs counts.loads;
    }

-- ---- the passes of a tree of one size

loads-listed : (c : Request) (ps : List Pass) → sum_by (loads_of_pass c.size) (map (pass_of c) ps) ≡ loads_in c ps
loads-listed c [] = refl
loads-listed c (p ∷ ps) =
    sum_by-cons (loads_of_pass c.size) (pass_of c p) (map (pass_of c) ps)
    ∙ ap (λ n. trees.pass_loads c c.size p + n) (loads-listed c ps)

module _ (c : Request) (request : IsConvRequest c) where
  flat-are : (t : Breakdown) → flat_passes c t ≡ map (pass_of c) (whole_passes c t)
  flat-are t =
      ap (λ (kind : Kind). map (pass_of (forward_by kind c)) (closed_by kind (whole_passes (forward_by kind c) t)))
      request.kind

  passes-are : (t : Breakdown) → IsTreeOf c t → request_passes c t ≡ map (pass_of c) (whole_passes c t)
  passes-are (leaf d) h = flat-are (leaf d)
  passes-are (node Gt a b) h = flat-are (node Gt a b)
  passes-are (node Ct a b) h = flat-are (node Ct a b)
  passes-are (node Split a b) h = flat-are (node Split a b)
  passes-are (node Dim a b) h = absurd (h.2.0 request.dimensions)

  -- the loads, and how many passes there are
  pub flat-loads : (t : Breakdown) → IsTreeOf c t → whole_loads c t ≡ loads_of c t
  flat-loads t h = ap (sum_by (loads_of_pass c.size)) (passes-are t h) ∙ loads-listed c (whole_passes c t)

  pub flat-number : (t : Breakdown) → IsTreeOf c t → length (request_passes c t) ≡ length (whole_passes c t)
  flat-number t h = ap length (passes-are t h) ∙ length-map (whole_passes c t) (pass_of c)

-- ---- the program of the chosen tree is good and lean

-- a program on the machine of a request is for the request
pub header-of : (r : Request) (g : PlainMerged) (p : PlainProgram) → Performs (target_of r) g p → HasHeader r p
header-of r g p performs =
    record {
      size = performs.size;
      modulus = performs.modulus;
      procs = performs.procs;
      line = performs.line;
      lanes = performs.lanes;
    }

module _ (r : Request) (t : Breakdown) (p : PlainProgram) (valid : IsValid r) (h : IsWholeTree r t)
    (performs : Performs (target_of r) (tree_merged r t) p) where
  known : IsMergedTree r t (tree_merged r t)
  known = trees_are_merged r t valid h

  some-weight : 0 < r.weight
  some-weight = let weight = valid.in_range.weight in omega (arith, weight)

  totals : Totals r t (all_passes (tree_merged r t).phases)
  totals = tree-totals r t valid h

  share : (q : ℕ) → q < r.procs →
      CountsPasses (target_of r) (all_passes (tree_merged r t).phases) (whole_counts (plain_code p) q)
  share = performed-counts (target_of r) (tree_merged r t) p performs known.ready

  transforms : (x : List ℕ) → IsVector r.modulus r.size x → results (plain_code p) x [] ≡ asked_of r x
  transforms x vector =
      performs.results x vector ∙ trees_mean r t valid h x vector

  pub good : IsGood r (whole_cost r t) p
  good =
      record {
        header = header-of r (tree_merged r t) p performs;
        fits = performs.fits;
        product = λ x turns vector _.
            any-turns (target_of r) (tree_merged r t) p performs x turns ∙ transforms x vector;
        again = λ left x turns are vector.
            among-leftovers (target_of r) (tree_merged r t) p performs left x turns are vector.size
            ∙ any-turns (target_of r) (tree_merged r t) p performs x turns ∙ transforms x vector;
        fresh = performs.fresh;
        apart = performs.apart;
        operations = λ q low. (share q low).operations r.weight some-weight ∙ totals.operations;
      }

  pub lean : IsLean r t p
  lean =
      record {
        parts = lean-code r t (tree_merged r t) p some-weight known performs;
        loads = λ q low. (share q low).loads ∙ totals.loads;
        stores = λ q low. (share q low).stores ∙ ap (λ n. r.size * n) totals.number;
      }
