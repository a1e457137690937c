-- The passes of a layout by the rules of emission are those that merging makes.
use Rattle.std.proofs.Common.{◌≡◌, ℕ, ◌+◌, ◌*◌, ◌≤◌, arith, ap, ◌∙◌, List, [], ◌∷◌, ◌++◌, length, subst, ◌==◌}
use Rattle.std.proofs.Common.{if◌then◌else◌, false, refl, sym, ap₂, length-append, map}
use Rattle.std.proofs.lemmas.Bool.Decides.{nat_tests}
use Rattle.std.proofs.lemmas.List.{map-append, append_assoc, length-map}
use Rattle.index_fn.specs.Mapping.{Mapping, Strided, ThomasIn, ThomasBack}
use Rattle.perm_algebra.specs.Affine.{Sum, constant, variable, scaled, added, Divided, reduced, simplified}
use Rattle.perm_algebra.proofs.Shape.{divided-added, turned-added}
use Rattle.sigma_lower.specs.TreeLoops.Placed.{Fits, place_sum, AreCounts, all_simplified}
use Rattle.sigma_lower.specs.TreeTerms.Good.{AreCoprime}
use Rattle.sigma_lower.specs.TreeTerms.Wrapped.{wrapped, unit_of, inner_of}
use Rattle.sigma_lower.proofs.TreeLoops.InCopies.{simplified-wrapped}
use Rattle.sigma_lower.proofs.TreeLoops.PartRules.{IsRuleIn, coprime_in, IsSize, rule_in}
use Rattle.sigma_lower.proofs.TreeLoops.PlaceSums.{tensor_sum, place_sum-push, counts-push, variable-fits}
use Rattle.sigma_lower.proofs.TreeLoops.PlaceSums.{all_simplified-append}
use Rattle.sigma_lower.proofs.TreeLoops.TreePasses.{rule_waiting, rule_passes, layout_passes}
use Rattle.operators.specs.declared.paths.Tensor.TheVariants.{Blocks, Columns}
use Rattle.operators.specs.Paths.Tensors.{Path, count_of, size_under}
use Rattle.tree_model.specs.declared.tree.Rule.{Rule}
use Rattle.tree_model.specs.declared.tree.Rule.TheVariants.{Gt, Ct}
use Rattle.generate.specs.Emission.Places.{left_out, right_in, PlaceFunction, after, blocks, columns, inside, same}
use Rattle.generate.specs.Emission.Places.{turn_of}
use Rattle.sigma_lower.proofs.TreeLoops.PlaceLimits.{at-tensor, thomas_back-one, thomas_in-one, turns-one}
use Rattle.sigma_lower.specs.TreeLoops.Merge.{PlainPass, multiplied, new_pass, scattered}
use Rattle.sigma_lower.proofs.TreeLoops.InnerPlaces.{inner-place}
use Rattle.sigma_lower.proofs.TreeLoops.Shaped.{HasWorks}
use Rattle.sigma_spl.specs.Work.{PlainWork, work_size}
use Rattle.smp_rewrite.specs.Layout.Tree.{Layout, work, by, layout_size, IsGoodLayout}
use Rattle.operators.specs.declared.paths.Tensor.{Tensor}
use Rattle.operators.proofs.PathLemmas.Under.{size_under-push}
use Rattle.generate.specs.Emission.Passes.{Factors, Pass, Site, entries, left_site, moved, none, right_site, twiddles}
use Rattle.generate.proofs.Emission.Layouts.{layout_emitted, named, named-plain}
use Rattle.generate.proofs.Emission.Matches.{ArePasses, AreSame, IsAround, IsLast, IsSame, all-free, at_last-none}
use Rattle.generate.proofs.Emission.Matches.{last-other, last-same, last-twiddled, natural, passes-append, IsNodeWork}
use Rattle.generate.proofs.Emission.Nested.{pass_at, plain_work}

-- ---- what a rule's permutations make of the places of its parts

-- ---- under one tensor

abbrev turn : ℕ → Sum
turn d = variable 1 d (constant 0)

-- what a permutation before a rule's right part makes of a place, and that it fits
record Leads (cs : ℕ → ℕ) (f : Mapping) (n : ℕ) (from to : Sum) : Type 0 where
  is : simplified cs f from ≡ to
  fits : Fits n to cs

leads-by : (cs : ℕ → ℕ) (f : Mapping) (n : ℕ) (from to : Sum) → simplified cs f from ≡ to →
    Fits n (simplified cs f from) cs → Leads cs f n from to
leads-by cs f n from to is fits = record { is = is; fits = subst (λ e. Fits n e cs) is fits }

thomas_in-leads : (r s d : ℕ) (e : Sum) (cs : ℕ → ℕ) → cs d ≡ r → 2 ≤ r → 2 ≤ s → r * s ≤ 1048576 → Fits s e cs →
    Leads cs (ThomasIn r s) (r * s) (tensor_sum (Blocks r) s d e) (right_in Gt r s (turn d) cs e)
thomas_in-leads r s d e cs count two_r two_s high f =
    leads-by cs (ThomasIn r s) (r * s) (tensor_sum (Blocks r) s d e) _
    (ap (λ (z : Divided). reduced cs (r * s) (added (scaled s z.quot) (scaled r z.rem)))
    (divided-added s (turn d) e cs (omega arith) f.proper f.small))
    (thomas_in-one r s d e cs count two_r two_s high f)

turns-leads : (r s d : ℕ) (e : Sum) (cs : ℕ → ℕ) → cs d ≡ r → 2 ≤ r → 2 ≤ s → Fits s e cs →
    Leads cs (Strided r s) (r * s) (tensor_sum (Blocks r) s d e) (right_in Ct r s (turn d) cs e)
turns-leads r s d e cs count two_r two_s f =
    leads-by cs (Strided r s) (r * s) (tensor_sum (Blocks r) s d e) _
    (turned-added r s (turn d) e cs (omega arith) f.proper f.small) (turns-one r s d e cs count two_r two_s f)

thomas_back-leads : (r s d : ℕ) (e : Sum) (cs : ℕ → ℕ) → AreCoprime r s → cs d ≡ s → 2 ≤ r → 2 ≤ s → Fits r e cs →
    Leads cs (ThomasBack r s (unit_of r s) (unit_of s r)) (r * s) (tensor_sum (Columns s) r d e)
    (left_out Gt r s (turn d) cs e)
thomas_back-leads r s d e cs both count two_r two_s f =
    let fit = variable-fits s d cs count two_s in
    leads-by cs (ThomasBack r s (unit_of r s) (unit_of s r)) (r * s) (tensor_sum (Columns s) r d e) _
    (ap (λ (z : Divided). reduced cs (r * s) (added (scaled (unit_of r s) z.quot) (scaled (unit_of s r) z.rem)))
    (divided-added s e (turn d) cs (omega arith) fit.proper fit.small))
    (thomas_back-one r s d e cs both count two_r two_s f)

-- ---- under a path

-- a permutation under the path, at a place in a part
pub record LeadsUnder (cs : ℕ → ℕ) (f : Mapping) (path : Path) (n d : ℕ) (from to : Sum) : Type 0 where
  pub is : simplified cs (wrapped path n f) from ≡ place_sum path n d to
  pub fits : Fits n to cs

under-path : (cs : ℕ → ℕ) (f : Mapping) (path : Path) (n d : ℕ) (from at to : Sum) → AreCounts path n d cs →
    Fits n at cs → from ≡ place_sum path n d at → Leads cs f n at to → LeadsUnder cs f path n d from to
under-path cs f path n d from at to counts fits is leads =
    record {
      is = ap (simplified cs (wrapped path n f)) is ∙ simplified-wrapped path n d f at cs counts fits
          ∙ ap (place_sum path n d) leads.is;
      fits = leads.fits;
    }

-- where a rule's right part loads, past the functions that wait
pub record IsLoaded (cs : ℕ → ℕ) (rule : Rule) (path : Path) (r s d : ℕ) (waiting : List Mapping)
    (e : Sum) : Type 0 where
  pub is : all_simplified cs (rule_waiting rule path r s waiting) (place_sum (path ++ Blocks r ∷ []) s d e)
      ≡ all_simplified cs waiting
      (place_sum path (r * s) d (right_in rule r s (variable 1 (d + length path) (constant 0)) cs e))
  pub fits : Fits (r * s) (right_in rule r s (variable 1 (d + length path) (constant 0)) cs e) cs

pub loaded_by : (size : ℕ) (rule : Rule) (path : Path) (r s d : ℕ) (waiting : List Mapping) (e : Sum) (cs : ℕ → ℕ) →
    IsRuleIn size rule path r s → AreCounts (path ++ Blocks r ∷ []) s d cs → Fits s e cs →
    IsLoaded cs rule path r s d waiting e
loaded_by size Gt path r s d waiting e cs h counts fits =
    let p = counts-push path (Blocks r) s d cs counts in
    let leads = under-path cs (ThomasIn r s) path (r * s) d (place_sum (path ++ Blocks r ∷ []) s d e)
    (tensor_sum (Blocks r) s (d + length path) e) _ p.before (at-tensor path (Blocks r) s d e cs counts fits)
    (place_sum-push path (Blocks r) s d e)
    (thomas_in-leads r s (d + length path) e cs p.count h.left h.right h.small fits) in
    record { is = ap (all_simplified cs waiting) leads.is; fits = leads.fits }
loaded_by size Ct path r s d waiting e cs h counts fits =
    let p = counts-push path (Blocks r) s d cs counts in
    let leads = under-path cs (Strided r s) path (r * s) d (place_sum (path ++ Blocks r ∷ []) s d e)
    (tensor_sum (Blocks r) s (d + length path) e) _ p.before (at-tensor path (Blocks r) s d e cs counts fits)
    (place_sum-push path (Blocks r) s d e)
    (turns-leads r s (d + length path) e cs p.count h.left h.right fits) in
    record { is = ap (all_simplified cs waiting) leads.is; fits = leads.fits }
loaded_by size _ path r s d waiting e cs h counts fits =
    record {
      is = ap (all_simplified cs waiting) (place_sum-push path (Blocks r) s d e);
      fits = at-tensor path (Blocks r) s d e cs counts fits;
    }

-- where a left part by coprime factors stores
pub stored_back : (size : ℕ) (path : Path) (r s d : ℕ) (e : Sum) (cs : ℕ → ℕ) → IsRuleIn size Gt path r s →
    AreCounts (path ++ Columns s ∷ []) r d cs → Fits r e cs →
    LeadsUnder cs (ThomasBack r s (unit_of r s) (unit_of s r)) path (r * s) d
    (place_sum (path ++ Columns s ∷ []) r d e) (left_out Gt r s (variable 1 (d + length path) (constant 0)) cs e)
stored_back size path r s d e cs h counts fits =
    let p = counts-push path (Columns s) r d cs counts in
    under-path cs (ThomasBack r s (unit_of r s) (unit_of s r)) path (r * s) d
    (place_sum (path ++ Columns s ∷ []) r d e) (tensor_sum (Columns s) r (d + length path) e) _ p.before
    (at-tensor path (Columns s) r d e cs counts fits) (place_sum-push path (Columns s) r d e)
    (thomas_back-leads r s (d + length path) e cs (coprime_in size path r s h) p.count h.left h.right fits)

-- ---- the passes of a layout by the rules of emission are those that merging makes

-- ---- loops of two turns or more

not-one : (n : ℕ) → 2 ≤ n → n == 1 ≡ false
not-one n two = grind (arith, nat_tests)

pub inside-several : (counts : List ℕ) (n : ℕ) → 2 ≤ n → inside counts n ≡ counts ++ n ∷ []
inside-several counts n two = ap (λ b. if b then counts else counts ++ n ∷ []) (not-one n two)

pub turn-several : (counts : List ℕ) (n : ℕ) → 2 ≤ n → turn_of counts n ≡ variable 1 (length counts) (constant 0)
turn-several counts n two = ap (λ b. if b then constant 0 else variable 1 (length counts) (constant 0)) (not-one n two)

moved-same : (f : Factors) → moved f same ≡ f
moved-same none = refl
moved-same _ = refl

pub moved-moved : (f : Factors) (g h : PlaceFunction) → moved (moved f g) h ≡ moved f (after g h)
moved-moved none g h = refl
moved-moved _ g h = refl

module _ (outer : List ℕ) (d : ℕ) (whole : PlaceFunction) (long : length outer ≡ d) where
  -- one tensor more
  counts-inside : (path : Path) (t : Tensor) (counts : List ℕ) → 2 ≤ count_of t → counts ≡ outer ++ map count_of path →
      inside counts (count_of t) ≡ outer ++ map count_of (path ++ t ∷ [])
  counts-inside path t counts two is =
      inside-several counts (count_of t) two
      ∙ ap (λ ns. ns ++ count_of t ∷ []) is
      ∙ append_assoc outer (map count_of path) (count_of t ∷ [])
      ∙ ap (λ ns. outer ++ ns) (sym (map-append count_of path (t ∷ [])))

  turn-inside : (path : Path) (n : ℕ) (counts : List ℕ) → 2 ≤ n → counts ≡ outer ++ map count_of path →
      turn_of counts n ≡ variable 1 (d + length path) (constant 0)
  turn-inside path n counts two is =
      turn-several counts n two
      ∙ ap (λ k. variable 1 k (constant 0))
      (ap length is ∙ length-append outer (map count_of path) ∙ ap₂ (λ n k. n + k) long (length-map path count_of))

  -- ---- the parts of a node

  module _ (size : ℕ) (rule : Rule) (path : Path) (r s root : ℕ) (waiting : List Mapping) (o : Site)
      (h : IsRuleIn size rule path r s) (around : IsAround outer d whole path waiting (r * s) o) where
    right-turn : turn_of o.counts r ≡ variable 1 (d + length path) (constant 0)
    right-turn = turn-inside path r o.counts h.left around.counts

    left-turn : turn_of o.counts s ≡ variable 1 (d + length path) (constant 0)
    left-turn = turn-inside path s o.counts h.right around.counts

    right_around :
        IsAround outer d whole (path ++ Blocks r ∷ []) (rule_waiting rule path r s waiting) s
        (right_site rule r s root o)
    right_around = record {
      counts = counts-inside path (Blocks r) o.counts h.left around.counts;
      load = λ cs e counts fits.
          let there = loaded_by size rule path r s d waiting e cs h counts fits in
          ap (λ z. o.load cs (right_in rule r s z cs e)) right-turn
          ∙ around.load cs _ (counts-push path (Blocks r) s d cs counts).before there.fits
          ∙ ap (whole cs) (sym there.is);
      keep = λ cs e.
          ap (λ z. o.keep cs (blocks s z cs e)) right-turn
          ∙ around.keep cs (tensor_sum (Blocks r) s (d + length path) e)
          ∙ ap (whole cs) (sym (place_sum-push path (Blocks r) s d e));
    }

    kept : (cs : ℕ → ℕ) (e : Sum) →
        o.keep cs (columns s (turn_of o.counts s) cs e) ≡ whole cs (place_sum (path ++ Columns s ∷ []) r d e)
    kept cs e =
        ap (λ z. o.keep cs (columns s z cs e)) left-turn
        ∙ around.keep cs (tensor_sum (Columns s) r (d + length path) e)
        ∙ ap (whole cs) (sym (place_sum-push path (Columns s) r d e))

    left_around : IsAround outer d whole (path ++ Columns s ∷ []) [] r (left_site rule r s o)
    left_around = record {
      counts = counts-inside path (Columns s) o.counts h.right around.counts;
      load = λ cs e counts fits. kept cs e;
      keep = kept;
    }

    -- ---- the last pass of the right part: the twiddles of a ct come with it, or it has no diagonal

    right_twiddled : (right_site rule r s root o).factors ≡ entries (twiddles r s root)
        (blocks s (turn_of o.counts r)) → (p : PlainPass) (q : Pass) →
        IsLast outer d whole (path ++ Blocks r ∷ []) s (right_site rule r s root o) p q →
        IsSame outer d whole (multiplied path r s root p) q
    right_twiddled has p q last =
        last-twiddled outer d whole (path ++ Blocks r ∷ []) s (right_site rule r s root o) right_around.keep path r s
        root (blocks s (turn_of o.counts r)) has p q last (λ cs e counts fits.
        let below = last.counts cs counts in
        let own = last.own cs e in
        ap (λ z. blocks s z cs own) right-turn
        ∙ sym (inner-place path (r * s) d (tensor_sum (Blocks r) s (d + length path) own) cs
        (counts-push path (Blocks r) s d cs below).before
        (at-tensor path (Blocks r) s d own cs below (last.fits cs e counts fits)))
        ∙ ap (simplified cs (inner_of path (r * s)))
        (sym (last.place cs e counts fits ∙ place_sum-push path (Blocks r) s d own)))

    right_freed : (right_site rule r s root o).factors ≡ none → (ps : List PlainPass) (qs : List Pass) →
        ArePasses outer d whole (path ++ Blocks r ∷ []) s (right_site rule r s root o) ps qs →
        AreSame outer d whole ps qs
    right_freed = all-free outer d whole (path ++ Blocks r ∷ []) s (right_site rule r s root o) right_around.keep

    -- ---- the last pass of the left part is that of the node

    abbrev IsLastLeft : PlainPass → Pass → Type 0
    IsLastLeft = IsLast outer d whole (path ++ Columns s ∷ []) r (left_site rule r s o)

    left_last : ((i : Sum) (cs : ℕ → ℕ) (k : Sum) → left_out rule r s i cs k ≡ columns s i cs k) → (p : PlainPass)
        (q : Pass) → IsLastLeft p q → IsLast outer d whole path (r * s) o p q
    left_last out p q last =
        let is : (cs : ℕ → ℕ) (k : Sum) →
        left_out rule r s (turn_of o.counts s) cs k ≡ tensor_sum (Columns s) r (d + length path) k =
        λ cs k. out (turn_of o.counts s) cs k ∙ ap (λ z. columns s z cs k) left-turn in
        record {
          begun = last.begun;
          free = last.free;
          own = after (left_out rule r s (turn_of o.counts s)) last.own;
          counts = λ cs counts. (counts-push path (Columns s) r d cs (last.counts cs counts)).before;
          fits = λ cs e counts fits.
              subst (λ z. Fits (r * s) z cs) (sym (is cs (last.own cs e)))
              (at-tensor path (Columns s) r d (last.own cs e) cs (last.counts cs counts) (last.fits cs e counts fits));
          place = λ cs e counts fits.
              last.place cs e counts fits
              ∙ place_sum-push path (Columns s) r d (last.own cs e)
              ∙ ap (place_sum path (r * s) d) (sym (is cs (last.own cs e)));
          store = last.store;
          factors = last.factors ∙ moved-moved o.factors (left_out rule r s (turn_of o.counts s)) last.own;
        }

    left_same : ((i : Sum) (cs : ℕ → ℕ) (k : Sum) → left_out rule r s i cs k ≡ columns s i cs k) → (ps : List PlainPass)
        (qs : List Pass) → ArePasses outer d whole (path ++ Columns s ∷ []) r (left_site rule r s o) ps qs →
        ArePasses outer d whole path (r * s) o ps qs
    left_same out ps qs l =
        subst (λ zs. ArePasses outer d whole path (r * s) o zs qs) (at_last-none ps)
        (last-other outer d whole path (path ++ Columns s ∷ []) (r * s) r o _ (λ p. p) (left_last out) ps qs l)

  -- a gt's goes back
  left_back : (size : ℕ) (path : Path) (r s root : ℕ) (waiting : List Mapping) (o : Site) → IsRuleIn size Gt path r s →
      IsAround outer d whole path waiting (r * s) o → (p : PlainPass) (q : Pass) →
      IsLast outer d whole (path ++ Columns s ∷ []) r (left_site Gt r s o) p q →
      IsLast outer d whole path (r * s) o
      (scattered (wrapped path (r * s) (ThomasBack r s (unit_of r s) (unit_of s r))) p) q
  left_back size path r s root waiting o h around p q last =
      let back = wrapped path (r * s) (ThomasBack r s (unit_of r s) (unit_of s r)) in
      let j = left-turn size Gt path r s root waiting o h around in
      record {
        begun = record { counts = last.begun.counts; work = last.begun.work; load = last.begun.load };
        free = last.free;
        own = after (left_out Gt r s (turn_of o.counts s)) last.own;
        counts = λ cs counts. (counts-push path (Columns s) r d cs (last.counts cs counts)).before;
        fits = λ cs e counts fits.
            let leads = stored_back size path r s d (last.own cs e) cs h (last.counts cs counts)
            (last.fits cs e counts fits) in
            subst (λ i. Fits (r * s) (left_out Gt r s i cs (last.own cs e)) cs) (sym j) leads.fits;
        place = λ cs e counts fits.
            let leads = stored_back size path r s d (last.own cs e) cs h (last.counts cs counts)
            (last.fits cs e counts fits) in
            all_simplified-append cs p.afters back (natural outer d whole p e)
            ∙ ap (simplified cs back) (last.place cs e counts fits)
            ∙ leads.is
            ∙ ap (λ i. place_sum path (r * s) d (left_out Gt r s i cs (last.own cs e))) (sym j);
        store = last.store;
        factors = last.factors ∙ moved-moved o.factors (left_out Gt r s (turn_of o.counts s)) last.own;
      }

  -- ---- a node

  by_rule : (size : ℕ) (rule : Rule) (path : Path) (r s root : ℕ) (waiting : List Mapping) (o : Site)
      (left right : List PlainPass) (lefts rights : List Pass) → IsRuleIn size rule path r s →
      IsAround outer d whole path waiting (r * s) o →
      ArePasses outer d whole (path ++ Columns s ∷ []) r (left_site rule r s o) left lefts →
      ArePasses outer d whole (path ++ Blocks r ∷ []) s (right_site rule r s root o) right rights →
      ArePasses outer d whole path (r * s) o (rule_passes rule path r s root left right) (rights ++ lefts)
  by_rule size Gt path r s root waiting o left right lefts rights h around l k =
      passes-append outer d whole path (r * s) o right _ rights lefts
      (right_freed size Gt path r s root waiting o h around refl right rights k)
      (last-other outer d whole path (path ++ Columns s ∷ []) (r * s) r o _ _
      (left_back size path r s root waiting o h around) left lefts l)
  by_rule size Ct path r s root waiting o left right lefts rights h around l k =
      passes-append outer d whole path (r * s) o _ left rights lefts
      (last-same outer d whole (path ++ Blocks r ∷ []) s _ (multiplied path r s root)
      (right_twiddled size Ct path r s root waiting o h around refl) right rights k)
      (left_same size Ct path r s root waiting o h around (λ i cs e. refl) left lefts l)
  by_rule size rule path r s root waiting o left right lefts rights h around l k =
      passes-append outer d whole path (r * s) o right left rights lefts
      (right_freed size rule path r s root waiting o h around refl right rights k)
      (left_same size rule path r s root waiting o h around (λ i cs e. refl) left lefts l)

  one-pass : (path : Path) (waiting : List Mapping) (o : Site) (w : PlainWork) →
      plain_work (named w) ≡ w → IsAround outer d whole path waiting (work_size w) o →
      IsLast outer d whole path (work_size w) o (new_pass path w waiting) (pass_at o (named w))
  one-pass path waiting o w is around = record {
    begun = record { counts = around.counts; work = is; load = around.load };
    free = refl;
    own = same;
    counts = λ cs counts. counts;
    fits = λ cs e counts fits. fits;
    place = λ cs e counts fits. refl;
    store = λ cs e. refl;
    factors = sym (moved-same o.factors);
  }

  pub layouts_match : (m size : ℕ) (path : Path) (waiting : List Mapping) (o : Site) (l : Layout) → IsSize size →
      IsGoodLayout m l → HasWorks IsNodeWork l → size_under path (layout_size l) ≡ size →
      IsAround outer d whole path waiting (layout_size l) o →
      ArePasses outer d whole path (layout_size l) o (layout_passes path waiting l) (layout_emitted o l)
  layouts_match m size path waiting o (work w) low h works e around =
      one-pass path waiting o w (named-plain w works) around
  layouts_match m size path waiting o (by rule root a b) low h works e around =
      let r = layout_size a in
      let s = layout_size b in
      let here = rule_in m size rule root path a b low h e in
      by_rule size rule path r s root waiting o _ _ _ _ here around
      (layouts_match m size (path ++ Columns s ∷ []) [] (left_site rule r s o) a low h.1 works.0
      (size_under-push path (Columns s) r ∙ e)
      (left_around size rule path r s root waiting o here around))
      (layouts_match m size (path ++ Blocks r ∷ []) (rule_waiting rule path r s waiting)
      (right_site rule r s root o) b low h.2 works.1 (size_under-push path (Blocks r) s ∙ e)
      (right_around size rule path r s root waiting o here around))
