-- A program of a tree's joined passes is one for convolutions.
use Rattle.std.proofs.Common.{◌≡◌, ◌≢◌, ℕ, List, refl, sym, ◌∙◌, subst, ◌*◌, ◌%◌, ◌<◌, ap, arith, mod-lt, slice_index}
use Rattle.std.proofs.Common.{◌+◌, ◌++◌, length, map, append-nil, length-append, sum_by, All, Ok, ap₂, []}
use Rattle.std.proofs.lemmas.List.Sums.{sum_by-append}
use Rattle.std.proofs.lemmas.List.{length-map}
use Rattle.std.proofs.lemmas.List.Elements.{All-map}
use Rattle.std.specs.List.{range_with_len}
use Rattle.std.proofs.lemmas.Simd.{map-map}
use Rattle.matrix_meaning.specs.Asked.{asked_of}
use Rattle.matrix_meaning.specs.Convolving.{IsConvRequest}
use Rattle.matrix_meaning.specs.declared.Kind.TheVariants.{Dft, Wht, Idft}
use Rattle.matrix_meaning.specs.declared.Request.{Request}
use Rattle.matrix_meaning.specs.Parts.{inverted}
use Rattle.matrix_meaning.specs.Valid.{IsValid}
use Rattle.matrix_meaning.proofs.Asked.{asked_of_one}
use Rattle.matrix_meaning.proofs.Requests.{inverse_is_valid, valid_by_powers}
use Rattle.tree_model.specs.Breakdown.{Breakdown}
use Rattle.tree_model.specs.Chosen.{IsWholeTree, whole_cost}
use Rattle.tree_model.specs.Cost.{cost_of}
use Rattle.tree_model.specs.Whole.{IsTreeOf}
use Rattle.tree_model.proofs.FlatTrees.{flat_costs}
use Rattle.tree_model.proofs.InverseCosts.{inverse_costs}
use Rattle.tree_model.proofs.InverseTrees.{inverse_admits}
use Rattle.tree_model.proofs.WholeTrees.{admissible_is_whole, cost_itself, forward_itself, whole_is_admissible}
use Rattle.generate.specs.Factors.{root_transform, factors_of}
use Rattle.matrix_meaning.specs.Convolution.{convolution, convolution_factor, IsPrincipal}
use Rattle.matrix_meaning.proofs.ConvolutionLaw.{convolution_by_diagonal}
use Rattle.sigma_lower.specs.Merged.{tree_merged}
use Rattle.matrix_meaning.proofs.Roots.{root-is}
use Rattle.loop_merge.proofs.JoinedPasses.Means.{joined_means}
use Rattle.matrix_meaning.specs.Kind.{transform, entry_of}
use Rattle.operators.specs.Operator.{scale}
use Rattle.operators.specs.Sum.{list_below, sum_below}
use Rattle.operators.proofs.Lists.{at-list_below, length-list_below, list_below-same}
use Rattle.spl_ast.specs.Meaning.{IsVector}
use Rattle.spl_ast.proofs.Vectors.{list_vector}
use Rattle.sigma_spl.specs.Merged.{merged_on, PlainMerged}
use Rattle.generate.specs.ConvLetters.{conv_merged}
use Rattle.code_gen.specs.PassCode.Contract.{Performs}
use Rattle.icode.specs.Actions.{plain_code}
use Rattle.icode.specs.Machine.{weighted, whole_counts}
use Rattle.icode.specs.Plain.{PlainProgram}
use Rattle.loop_merge.proofs.MultipliedPasses.Counts.{sum-costs, sum-loads, tables-last}
use Rattle.loop_merge.proofs.MultipliedPasses.Lasts.{length-last}
use Rattle.loop_merge.specs.JoinedPasses.InOnePhase.{joined}
use Rattle.loop_merge.specs.MultipliedPasses.Multiplied.{multiplied_last, with_factors}
use Rattle.operators.specs.declared.target.Target.{Target}
use Rattle.sigma_spl.specs.Lists.{LastIs}
use Rattle.sigma_spl.specs.Nest.{PlainNest, values}
use Rattle.sigma_spl.specs.Shared.Costs.{pass_cost, pass_loads}
use Rattle.sigma_spl.specs.Shared.Owners.{all_passes}
use Rattle.sigma_spl.specs.Shared.Ready.{IsReady}
use Rattle.sigma_spl.specs.Trees.{IsFree, IsMergedTree}
use Rattle.ring_mod.specs.Inverse.{inverse_mod}
use Rattle.tree_model.proofs.InverseTraffic.{inverse_loads, whole-same}
use Rattle.loop_merge.proofs.JoinedPasses.Programs.{joined_are_ready}
use Rattle.loop_merge.specs.JoinedPasses.Laws.{CanJoin}
use Rattle.tree_model.specs.Passes.{whole_passes}
use Rattle.sigma_spl.specs.Shared.Targets.{target_of}
use Rattle.generate.specs.Convolver.{IsConvolver}
use Rattle.generate.specs.ConvPlanned.{IsConvPlanned}
use Rattle.matrix_meaning.specs.declared.Kind.{Kind}
use Rattle.ring_mod.specs.Residue.{product_mod}
use Rattle.generate.proofs.TreePasses.Merged.{trees_are_merged, trees_mean}
use Rattle.generate.proofs.Performed.{CountsPasses, alone, performed-counts, among-leftovers, any-turns, header-of, flat-loads}
use Rattle.generate.proofs.Performed.{flat-number, tree-totals}

-- ---- trees of a request for convolutions, which is of one size and no inverse

-- ---- one such request

module _ (r : Request) (request : IsConvRequest r) where
  pub conv_not_wht : r.kind ≢ Wht
  conv_not_wht wht = let other : Dft ≡ Wht = sym request.kind ∙ wht in cc

  pub conv_not_idft : r.kind ≢ Idft
  conv_not_idft idft = let other : Dft ≡ Idft = sym request.kind ∙ idft in cc

  -- what it asks for
  pub conv_asked : (x : List ℕ) → asked_of r x ≡ root_transform r x
  conv_asked x = asked_of_one r x request.dimensions

  module _ (t : Breakdown) (h : IsWholeTree r t) where
    pub conv_tree : IsTreeOf r t
    conv_tree = subst (λ (c : Request). IsTreeOf c t) (forward_itself r conv_not_idft) h.tree

    -- its tree costs the same by its words for one size
    flat_cost : whole_cost r t ≡ cost_of r t
    flat_cost = cost_itself r t conv_not_idft ∙ flat_costs r t request.dimensions conv_tree

-- ---- the request by the inverse root

module _ (r : Request) (request : IsConvRequest r) (valid : IsValid r) where
  pub inverse_valid : IsValid (inverted r)
  inverse_valid = inverse_is_valid r (conv_not_wht r request) request.dimensions valid

  pub inverse_request : IsConvRequest (inverted r)
  inverse_request = record {
    in_range = inverse_valid.in_range;
    kind = refl;
    dimensions = request.dimensions;
    procs = request.procs;
    line = request.line;
    lanes = request.lanes;
    unit = request.unit;
  }

  -- it has the same trees, at the same cost
  module _ (t : Breakdown) (h : IsWholeTree r t) where
    pub inverse_tree : IsWholeTree (inverted r) t
    inverse_tree =
        admissible_is_whole (inverted r) t request.dimensions (conv_not_idft (inverted r) inverse_request)
        ((inverse_admits r t request.kind).1 (whole_is_admissible r t request.dimensions (conv_not_idft r request) h))

    pub inverse_cost : whole_cost (inverted r) t ≡ whole_cost r t
    inverse_cost =
        flat_cost (inverted r) inverse_request t inverse_tree
        ∙ inverse_costs r t request.kind valid
        ∙ sym (flat_cost r request t h)

-- ---- joined passes of a tree compute the convolution

scale-vector : (m n : ℕ) (f : ℕ → ℕ) (x : List ℕ) → 0 < m → IsVector m n (scale m n f x)
scale-vector m n f x some = list_vector m n _ (λ i low. mod-lt (f i * slice_index x i) some)

-- listed factors
scale-listed : (m n : ℕ) (f : ℕ → ℕ) (x : List ℕ) → scale m n (slice_index (list_below n f)) x ≡ scale m n f x
scale-listed m n f x = list_below-same n _ _ (λ i low. ap (λ v. (v * slice_index x i) % m) (at-list_below n f i low))

-- what a tree's passes do by the request's root
tree-does : (c : Request) (t : Breakdown) (x : List ℕ) →
    IsConvRequest c → IsValid c → IsWholeTree c t → IsVector c.modulus c.size x →
    merged_on c.modulus (tree_merged c t) x ≡ transform Dft c.modulus c.size c.root x
tree-does c t x request valid h vector =
    trees_mean c t valid h x vector
    ∙ conv_asked c request x
    ∙ ap (λ k. transform k c.modulus c.size c.root x) request.kind

module _ (r : Request) (t : Breakdown) (ls : List ℕ) (request : IsConvRequest r) (valid : IsValid r)
    (h : IsWholeTree r t) (principal : IsPrincipal r.modulus r.size r.root) where
  abbrev factor : ℕ → ℕ
  factor = convolution_factor r.modulus r.size r.root ls

  some : 0 < r.modulus
  some = let two = request.in_range.modulus.0 in omega (arith, two)

  pub joined-convolve : (x : List ℕ) → IsVector r.modulus r.size x →
      merged_on r.modulus (conv_merged r t (factors_of r ls)) x ≡ convolution r.modulus r.size ls x
  joined-convolve x vector =
      let m = r.modulus in
      let n = r.size in
      let g = tree_merged r t in
      let k = tree_merged (inverted r) t in
      let ds = factors_of r ls in
      let root = root-is r.kind m r.root n request.in_range.modulus.0 (conv_not_wht r request) valid.root in
      joined_means g k ds ((trees_are_merged r t valid h).free (conv_not_idft r request)) refl m x some
      ∙ ap (λ y. merged_on m k (scale m n (slice_index ds) y)) (tree-does r t x request valid h vector)
      ∙ ap (merged_on m k) (scale-listed m n factor (transform Dft m n r.root x))
      ∙ tree-does (inverted r) t (scale m n factor (transform Dft m n r.root x))
      (inverse_request r request valid) (inverse_valid r request valid) (inverse_tree r request valid t h)
      (scale-vector m n factor (transform Dft m n r.root x) some)
      ∙ convolution_by_diagonal m n r.root ls x some root request.unit principal

-- ---- what a program of joined passes counts on its one processor

-- the operations of g and of k, and a product for each word between them; the loads of both; and a store of each word in each pass
pub record CountsBoth (h : Target) (g k : PlainMerged) (p : PlainProgram) : Type 0 where
  pub operations : (weight : ℕ) → 0 < weight →
      weighted weight (whole_counts (plain_code p) 0)
      ≡ sum_by (pass_cost weight h.modulus) (all_passes g.phases) + weight * h.size
      + sum_by (pass_cost weight h.modulus) (all_passes k.phases)
  pub loads : (whole_counts (plain_code p) 0).loads
      ≡ sum_by pass_loads (all_passes g.phases) + sum_by pass_loads (all_passes k.phases)
  pub stores : (whole_counts (plain_code p) 0).stores
      ≡ h.size * (length (all_passes g.phases) + length (all_passes k.phases))

module _ (h : Target) (g k : PlainMerged) (ds : List ℕ) (procs : h.procs ≡ 1) (ready : IsReady h g)
    (all-ready : IsReady h (joined g ds k)) (free : LastIs IsFree (all_passes g.phases)) (p : PlainProgram)
    (performs : Performs h (joined g ds k) p) where
  abbrev earlier : List (List PlainNest)
  earlier = all_passes g.phases

  abbrev changed : List (List PlainNest)
  changed = multiplied_last (values ds) earlier

  abbrev later : List (List PlainNest)
  later = all_passes k.phases

  whole : all_passes (joined g ds k).phases ≡ changed ++ later
  whole = append-nil (changed ++ later)

  all : CountsPasses h (changed ++ later) (whole_counts (plain_code p) 0)
  all =
      subst (λ ps. CountsPasses h ps (whole_counts (plain_code p) 0)) whole
      (performed-counts h (joined g ds k) p performs all-ready 0 (omega (arith, procs)))

  pub counts-both : CountsBoth h g k p
  counts-both =
      record {
        operations = λ weight some.
            alone h.procs _ _ procs (all.operations weight some)
            ∙ sum_by-append (pass_cost weight h.modulus) changed later
            ∙ ap (λ n. n + sum_by (pass_cost weight h.modulus) later)
            (sum-costs h (values ds) weight earlier ready.passes free);
        loads =
            alone h.procs _ _ procs all.loads
            ∙ sum_by-append pass_loads changed later
            ∙ ap (λ n. n + sum_by pass_loads later) (sum-loads h (values ds) earlier);
        stores =
            alone h.procs _ _ procs all.stores
            ∙ ap (λ n. h.size * n)
            (length-append changed later
            ∙ ap (λ n. n + length later) (length-last (map (with_factors (values ds))) earlier));
      }

-- ---- a program of a tree's joined passes is one for convolutions

-- a request that is planned is valid
pub planned-valid : (r : Request) (t : Breakdown) → IsConvRequest r → IsConvPlanned r (Ok t) → IsValid r
planned-valid r t request planned = valid_by_powers r request.in_range planned.0

-- the passes that are joined are those of the request
pub joined-same : (r c d : Request) (t : Breakdown) (ls ds : List ℕ) (f s g : PlainMerged) →
    c ≡ r → d ≡ inverted r → ds ≡ factors_of c ls →
    f ≡ tree_merged c t → s ≡ tree_merged d t → g ≡ joined f ds s → g ≡ conv_merged r t (factors_of r ls)
joined-same r c d t ls ds f s g forward backward listed first second both =
    both
    ∙ ap₂ (λ x y. joined x ds y) first second
    ∙ ap (λ fs. joined (tree_merged c t) fs (tree_merged d t)) listed
    ∙ ap₂ (λ z y. joined (tree_merged z t) (factors_of z ls) (tree_merged y t)) forward backward

-- the diagonal of a convolution is of residues
all-numbers : (P : ℕ → Type 0) → ((k : ℕ) → P k) → (ks : List ℕ) → All P ks
all-numbers P each ks = λ i d low. each _

factors-residues : (r : Request) (h : List ℕ) → 0 < r.modulus → All (λ d. d < r.modulus) (factors_of r h)
factors-residues r h some =
    All-map (λ d. d < r.modulus) (convolution_factor r.modulus r.size r.root h) (range_with_len 0 r.size)
    (all-numbers _ (λ k. mod-lt
    (inverse_mod r.modulus r.size * slice_index (transform Dft r.modulus r.size r.root h) k) some)
    (range_with_len 0 r.size))

module _ (r : Request) (t : Breakdown) (ls : List ℕ) (request : IsConvRequest r) (valid : IsValid r)
    (h : IsWholeTree r t) where
  abbrev ds : List ℕ
  ds = factors_of r ls

  request' : IsConvRequest (inverted r)
  request' = inverse_request r request valid

  valid' : IsValid (inverted r)
  valid' = inverse_valid r request valid

  h' : IsWholeTree (inverted r) t
  h' = inverse_tree r request valid t h

  first : IsMergedTree r t (tree_merged r t)
  first = trees_are_merged r t valid h

  second : IsMergedTree (inverted r) t (tree_merged (inverted r) t)
  second = trees_are_merged (inverted r) t valid' h'

  free : LastIs IsFree (all_passes (tree_merged r t).phases)
  free = first.free (conv_not_idft r request)

  can-join : CanJoin (target_of r) (tree_merged r t) ds (tree_merged (inverted r) t)
  can-join =
      let low = first.few in
      let low' = second.few in
      let few = first.tables in
      let few' = second.tables in
      let more = tables-last (values ds) (all_passes (tree_merged r t).phases) first.no_moves in
      let most = request.in_range.size.1 in
      record {
        procs = request.procs;
        lanes = request.lanes;
        first = first.ready;
        second = second.ready;
        free = free;
        size = length-list_below r.size _;
        residues = factors-residues r ls (let two = request.in_range.modulus.0 in omega (arith, two));
        actions = omega (arith, low, low', most);
        tables = omega (arith, few, few', more);
      }

  pub can-convolve : IsReady (target_of r) (conv_merged r t ds)
  can-convolve = joined_are_ready (tree_merged r t) (tree_merged (inverted r) t) ds (target_of r) can-join

  module _ (p : PlainProgram) (performs : Performs (target_of r) (conv_merged r t ds) p) where
    both : CountsBoth (target_of r) (tree_merged r t) (tree_merged (inverted r) t) p
    both =
        counts-both (target_of r) (tree_merged r t) (tree_merged (inverted r) t) ds request.procs first.ready
        can-convolve free p performs

    pub is-convolver : IsPrincipal r.modulus r.size r.root → IsConvolver r t ls p
    is-convolver principal =
        let whole = tree-totals r t valid h in
        let whole' = tree-totals (inverted r) t valid' h' in
        let tree = conv_tree r request t h in
        let tree' = conv_tree (inverted r) request' t h' in
        let weight = valid.in_range.weight.0 in
        record {
          header = header-of r (conv_merged r t ds) p performs;
          limits = performs.limits;
          tables = performs.tables;
          fits = performs.fits;
          phases = length-map _ _ ∙ performs.phases;
          apart = performs.apart;
          product = λ x turns vector _.
              any-turns (target_of r) (conv_merged r t ds) p performs x turns
              ∙ performs.results x vector
              ∙ joined-convolve r t ls request valid h principal x vector;
          again = λ left x turns are vector.
              among-leftovers (target_of r) (conv_merged r t ds) p performs left x turns are vector.size
              ∙ any-turns (target_of r) (conv_merged r t ds) p performs x turns
              ∙ performs.results x vector
              ∙ joined-convolve r t ls request valid h principal x vector;
          fresh = performs.fresh;
          operations =
              let all = both.operations r.weight (omega (arith, weight)) in
              let one = whole.operations in
              let other = whole'.operations ∙ inverse_cost r request valid t h in
              omega (arith, all, one, other);
          loads =
              let all = both.loads in
              let one = whole.loads ∙ flat-loads r request t tree in
              let other = whole'.loads ∙ flat-loads (inverted r) request' t tree' ∙ inverse_loads r t in
              omega (arith, all, one, other);
          stores =
              both.stores
              ∙ ap₂ (λ a b. r.size * (a + b)) (whole.number ∙ flat-number r request t tree)
              (whole'.number ∙ flat-number (inverted r) request' t tree'
              ∙ ap length (whole-same r Dft (inverted r).root t))
              ∙ twice r.size (length (whole_passes r t));
        }
      where
        twice : (n k : ℕ) → n * (k + k) ≡ 2 * (n * k)
        twice n k = omega arith

-- ---- the factors between both transforms

map-listed : (n : ℕ) (f g : ℕ → ℕ) → map f (list_below n g) ≡ list_below n (λ k. f (slice_index (list_below n g) k))
map-listed n f g = map-map f g (range_with_len 0 n) ∙ list_below-same n _ _ (λ k low. ap f (sym (at-list_below n g k low)))

-- the transform of a list, times the inverse of the size
pub factors-are : (kind : Kind) (m n w inverse : ℕ) (ls ys zs : List ℕ) → kind ≡ Dft → ys ≡ transform kind m n w ls →
    inverse ≡ inverse_mod m n → zs ≡ map (product_mod m inverse) ys →
    zs ≡ list_below n (convolution_factor m n w ls)
factors-are kind m n w inverse ls ys zs dft transformed inverts multiplied =
    multiplied
    ∙ ap₂ (λ i vs. map (product_mod m i) vs) inverts (transformed ∙ ap (λ k. transform k m n w ls) dft)
    ∙ map-listed n (product_mod m (inverse_mod m n)) (λ k. sum_below n (λ l. entry_of Dft m n w k l * slice_index ls l) % m)
