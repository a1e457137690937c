-- Passes by the rules of emission, and passes that merging makes: what it is that they are the same.
use Rattle.std.proofs.Common.{◌≡◌, ℕ, ◌*◌, refl, sym, ap, ◌∙◌, subst, List, [], ◌∷◌, ◌++◌, Option, Some, None, map, ◌+◌}
use Rattle.std.proofs.Common.{◌<◌, arith, ap₂, length, option_map}
use Rattle.std.proofs.lemmas.List.{length-map}
use Rattle.std.proofs.lemmas.Simd.{map-map}
use Rattle.index_fn.specs.Mapping.{Mapping}
use Rattle.perm_algebra.specs.Affine.{Sum, simplified}
use Rattle.sigma_lower.specs.TreeLoops.Merge.{PlainDiagonal, PlainPass, at_last, multiplied}
use Rattle.sigma_lower.specs.TreeLoops.Placed.{Fits, place_sum, AreCounts, all_simplified}
use Rattle.sigma_lower.specs.TreeTerms.Wrapped.{inner_of}
use Rattle.sigma_spl.specs.Work.{work_size, PlainWork, kernel, rows, horner, tile, copy, node_of, short}
use Rattle.operators.specs.Paths.Tensors.{Path, count_of, copies_of, size_under}
use Rattle.generate.specs.Emission.Passes.{Pass, Site, entries, moved, none, twiddles}
use Rattle.generate.specs.Emission.Places.{PlaceFunction, after, same}
use Rattle.sigma_lower.specs.TreeLoops.Nests.{loop_of, taken_of}
use Rattle.sigma_lower.proofs.TreeLoops.LoopItems.{AllName, HaveNames, counts-from, names-of}
use Rattle.sigma_lower.proofs.TreeLoops.PlaceSums.{all_simplified-append}
use Rattle.sigma_spl.proofs.Keeps.{right_positive}
use Rattle.sigma_lower.proofs.TreeLoops.Shaped.{IsShaped, IsShapedWork}
use Rattle.sigma_spl.specs.Loops.{limits_in, multiplier_of, nest_of, one_nest, places_by}
use Rattle.sigma_spl.specs.Merge.{items_in, items_out}
use Rattle.sigma_spl.specs.Nest.{PlainFactors, PlainNest}
use Rattle.sigma_spl.specs.Limits.{AreSeveral}
use Rattle.operators.proofs.PathLemmas.Under.{size_under-copies}
use Rattle.generate.proofs.Emission.Nested.{plain_work, bounds, each, emitted_nest, multiplier_at, nest_at, nest_with}
use Rattle.sigma_spl.specs.Nest as sums

-- nothing changed
pub at_last-none : (ps : List PlainPass) → at_last (λ p. p) ps ≡ ps
at_last-none (p ∷ q ∷ ps) = ap (λ rest. p ∷ rest) (at_last-none (q ∷ ps))
at_last-none _ = refl

-- in these outer loops, of which there are d, where the words of the whole stand at these places
module _ (outer : List ℕ) (d : ℕ) (whole : PlaceFunction) where
  -- the place of an item that e names, before the pass's functions
  abbrev pub natural : PlainPass → Sum → Sum
  natural p e = place_sum p.path (work_size p.work) d e

  -- wherever a pass may be
  abbrev pub Always : PlainPass → ((ℕ → ℕ) → Sum → Type 0) → Type 0
  Always p P = (cs : ℕ → ℕ) (e : Sum) → AreCounts p.path (work_size p.work) d cs → Fits (work_size p.work) e cs → P cs e

  -- a node of n places under the tensors of the path, where these functions wait
  pub record IsAround (path : Path) (waiting : List Mapping) (n : ℕ) (o : Site) : Type 0 where
    pub counts : o.counts ≡ outer ++ map count_of path
    pub load : (cs : ℕ → ℕ) (e : Sum) → AreCounts path n d cs → Fits n e cs →
        o.load cs e ≡ whole cs (all_simplified cs waiting (place_sum path n d e))
    pub keep : (cs : ℕ → ℕ) (e : Sum) → o.keep cs e ≡ whole cs (place_sum path n d e)

  -- both do the same work in the same loops, on what they load at the same places
  pub record IsBegun (p : PlainPass) (q : Pass) : Type 0 where
    pub counts : q.site.counts ≡ outer ++ map count_of p.path
    pub work : plain_work q.work ≡ p.work
    pub load : Always p (λ cs e. q.site.load cs e ≡ whole cs (all_simplified cs p.befores (natural p e)))

  -- where an item's factor stands
  abbrev pub factor_at : PlainPass → PlainDiagonal → (ℕ → ℕ) → Sum → Sum
  factor_at p x cs e = simplified cs (inner_of x.path (x.rows * x.cols)) (all_simplified cs x.places (natural p e))

  abbrev pub HasDiagonal : PlainPass → Pass → Option PlainDiagonal → Type 0
  HasDiagonal p q None = q.site.factors ≡ none
  HasDiagonal p q (Some x) =
      (place : PlaceFunction) × (q.site.factors ≡ entries (twiddles x.rows x.cols x.root) place) × Always p
      (λ cs e. place cs e ≡ factor_at p x cs e)

  -- and store it alike
  pub record IsSame (p : PlainPass) (q : Pass) : Type 0 where
    pub begun : IsBegun p q
    pub store : Always p (λ cs e. q.site.store cs e ≡ whole cs (all_simplified cs p.afters (natural p e)))
    pub factors : HasDiagonal p q p.diagonal

  -- the last pass of a node stores at the node's places of its own items' places, by the node's factors
  pub record IsLast (path : Path) (n : ℕ) (o : Site) (p : PlainPass) (q : Pass) : Type 0 where
    pub begun : IsBegun p q
    pub free : p.diagonal ≡ None
    pub own : PlaceFunction
    pub counts : (cs : ℕ → ℕ) → AreCounts p.path (work_size p.work) d cs → AreCounts path n d cs
    pub fits : Always p (λ cs e. Fits n (own cs e) cs)
    pub place : Always p (λ cs e. all_simplified cs p.afters (natural p e) ≡ place_sum path n d (own cs e))
    pub store : (cs : ℕ → ℕ) (e : Sum) → q.site.store cs e ≡ o.store cs (own cs e)
    pub factors : q.site.factors ≡ moved o.factors own

  -- ---- lists of them

  abbrev pub AreSame : List PlainPass → List Pass → Type 0
  AreSame [] [] = Unit {0}
  AreSame [] (q ∷ qs) = ⊥
  AreSame (p ∷ ps) [] = ⊥
  AreSame (p ∷ ps) (q ∷ qs) = IsSame p q × AreSame ps qs

  -- all but the last are the same
  abbrev pub AreUpTo : Path → ℕ → Site → PlainPass → Pass → List PlainPass → List Pass → Type 0
  AreUpTo path n o p q [] [] = IsLast path n o p q
  AreUpTo path n o p q [] (y ∷ ys) = ⊥
  AreUpTo path n o p q (x ∷ xs) [] = ⊥
  AreUpTo path n o p q (x ∷ xs) (y ∷ ys) = IsSame p q × AreUpTo path n o x y xs ys

  abbrev pub ArePasses : Path → ℕ → Site → List PlainPass → List Pass → Type 0
  ArePasses path n o [] qs = ⊥
  ArePasses path n o (p ∷ ps) [] = ⊥
  ArePasses path n o (p ∷ ps) (q ∷ qs) = AreUpTo path n o p q ps qs

  passes-cons : (path : Path) (n : ℕ) (o : Site) (p : PlainPass) (q : Pass) (ps : List PlainPass) (qs : List Pass) →
      IsSame p q → ArePasses path n o ps qs → ArePasses path n o (p ∷ ps) (q ∷ qs)
  passes-cons path n o p q (x ∷ xs) (y ∷ ys) h k = (h, k)
  passes-cons path n o p q _ _ h k = absurd k

  pub passes-append : (path : Path) (n : ℕ) (o : Site) (ps rs : List PlainPass) (qs ts : List Pass) → AreSame ps qs →
      ArePasses path n o rs ts → ArePasses path n o (ps ++ rs) (qs ++ ts)
  passes-append path n o [] rs [] ts h k = k
  passes-append path n o (p ∷ ps) rs (q ∷ qs) ts h k =
      passes-cons path n o p q (ps ++ rs) (qs ++ ts) h.0 (passes-append path n o ps rs qs ts h.1 k)
  passes-append path n o _ rs _ ts h k = absurd h

  -- the last one changed, and then the same
  pub last-same : (path : Path) (n : ℕ) (o : Site) (f : PlainPass → PlainPass) →
      ((p : PlainPass) (q : Pass) → IsLast path n o p q → IsSame (f p) q) → (ps : List PlainPass) (qs : List Pass) →
      ArePasses path n o ps qs → AreSame (at_last f ps) qs
  last-same path n o f step (p ∷ []) (q ∷ []) h = (step p q h, tt)
  last-same path n o f step (p ∷ x ∷ xs) (q ∷ y ∷ ys) h = (h.0, last-same path n o f step (x ∷ xs) (y ∷ ys) h.1)
  last-same path n o f step _ _ h = absurd h

  -- ---- the last pass of a node that stores at its natural places

  module _ (path : Path) (n : ℕ) (o : Site)
      (stores : (cs : ℕ → ℕ) (e : Sum) → o.store cs e ≡ whole cs (place_sum path n d e)) where
    pub stored-natural : (p : PlainPass) (q : Pass) → IsLast path n o p q →
        Always p (λ cs e. q.site.store cs e ≡ whole cs (all_simplified cs p.afters (natural p e)))
    stored-natural p q last cs e counts fits =
        last.store cs e ∙ stores cs (last.own cs e) ∙ ap (whole cs) (sym (last.place cs e counts fits))

    -- with no factors it is the same, and so are all
    last-free : o.factors ≡ none → (p : PlainPass) (q : Pass) → IsLast path n o p q → IsSame p q
    last-free free p q last = record {
      begun = last.begun;
      store = stored-natural p q last;
      factors = subst (HasDiagonal p q) (sym last.free) (last.factors ∙ ap (λ f. moved f last.own) free);
    }

    pub all-free : o.factors ≡ none → (ps : List PlainPass) (qs : List Pass) → ArePasses path n o ps qs → AreSame ps qs
    all-free free ps qs h =
        subst (λ zs. AreSame zs qs) (at_last-none ps) (last-same path n o (λ p. p) (last-free free) ps qs h)

    -- with twiddles it is the same where merging multiplies by them
    pub last-twiddled : (inner : Path) (r s root : ℕ) (place : PlaceFunction) →
        o.factors ≡ entries (twiddles r s root) place → (p : PlainPass) (q : Pass) (last : IsLast path n o p q) →
        Always p (λ cs e. place cs (last.own cs e)
        ≡ simplified cs (inner_of inner (r * s)) (all_simplified cs p.afters (natural p e))) →
        IsSame (multiplied inner r s root p) q
    last-twiddled inner r s root place has p q last at = record {
      begun = record { counts = last.begun.counts; work = last.begun.work; load = last.begun.load };
      store = stored-natural p q last;
      factors = (after place last.own, last.factors ∙ ap (λ f. moved f last.own) has, at);
    }

  -- the last one changed, as the last of another node
  pub last-other : (path inner : Path) (n k : ℕ) (o i : Site) (f : PlainPass → PlainPass) →
      ((p : PlainPass) (q : Pass) → IsLast inner k i p q → IsLast path n o (f p) q) →
      (ps : List PlainPass) (qs : List Pass) →
      ArePasses inner k i ps qs → ArePasses path n o (at_last f ps) qs
  last-other path inner n k o i f step (p ∷ []) (q ∷ []) h = step p q h
  last-other path inner n k o i f step (p ∷ x ∷ xs) (q ∷ y ∷ ys) h =
      passes-cons path n o p q (at_last f (x ∷ xs)) (y ∷ ys) h.0
      (last-other path inner n k o i f step (x ∷ xs) (y ∷ ys) h.1)
  last-other path inner n k o i f step _ _ h = absurd h

-- ---- passes that are the same are the same nests

-- ---- lists of sums

map-named : (w : PlainWork) (cs : ℕ → ℕ) (n : ℕ) (f g : Sum → Sum) (es : List Sum) → AllName w cs n es →
    ((e : Sum) → Fits n e cs → f e ≡ g e) → map f es ≡ map g es
map-named w cs n f g [] named step = refl
map-named w cs n f g (e ∷ es) named step =
    ap₂ (λ x xs. x ∷ xs) (step e named.0.0) (map-named w cs n f g es named.1 step)

pub maps-same : (f g : Sum → Sum) (es : List Sum) → ((e : Sum) → f e ≡ g e) → map f es ≡ map g es
maps-same f g [] step = refl
maps-same f g (e ∷ es) step = ap₂ (λ x xs. x ∷ xs) (step e) (maps-same f g es step)

-- ---- a pass of a kernel or a leaf

-- a tree of a request, or a longer leaf
abbrev pub IsNodeWork : PlainWork → Type 0
IsNodeWork (kernel (node_of p t)) = Unit {0}
IsNodeWork (kernel (short kind root size)) = ⊥
IsNodeWork (rows root size) = Unit {0}
IsNodeWork (horner root size) = ⊥
IsNodeWork (tile v) = ⊥
IsNodeWork (copy size) = ⊥

items-in : (w : PlainWork) (depth : ℕ) → IsNodeWork w → items_in w depth ≡ each w (depth + 1)
items-in (kernel k) depth h = refl
items-in (rows root size) depth h = refl
items-in _ depth h = absurd h

items-out : (w : PlainWork) (depth : ℕ) → IsNodeWork w → items_out w depth ≡ each w depth
items-out (kernel k) depth h = refl
items-out (rows root size) depth h = refl
items-out _ depth h = absurd h

-- its loops turn twice or more, and its copies fill an array
pub record IsLooped (m size : ℕ) (p : PlainPass) : Type 0 where
  pub wide : AreSeveral p.path
  pub fills : size_under p.path (work_size p.work) ≡ size
  pub work : IsShapedWork m p.work
  pub node : IsNodeWork p.work

pub looped-of : (m size : ℕ) (p : PlainPass) → IsShaped (IsShapedWork m) size p → IsNodeWork p.work → IsLooped m size p
looped-of m size p shape node = record { wide = shape.wide; fills = shape.fills; work = shape.work; node = node }

module _ (m size : ℕ) (p : PlainPass) (q : Pass) (low : 0 < size) (shape : IsLooped m size p) where
  abbrev n : ℕ
  n = work_size p.work

  abbrev depth : ℕ
  depth = length p.path

  abbrev cs : ℕ → ℕ
  cs = limits_in (loop_of p)

  some : 0 < n
  some =
      let fills : copies_of p.path * work_size p.work ≡ size = sym (size_under-copies p.path (work_size p.work))
      ∙ shape.fills in
      right_positive (copies_of p.path) (work_size p.work) (omega (arith, fills, low))

  counts : AreCounts p.path n 0 cs
  counts = counts-from p.path n 0 cs (n ∷ n ∷ []) shape.wide some (λ i. ap cs (omega arith))

  names : HaveNames p.path p.work
  names = names-of m p.path p.work shape.work

  abbrev loops : List ℕ
  loops = map count_of p.path

  placed-by : (fs : List Mapping) (g : Sum → Sum) (es : List Sum) → AllName p.work cs n es →
      ((e : Sum) → Fits n e cs → g e ≡ all_simplified cs fs (place_sum p.path n 0 e)) →
      places_by (loop_of p) fs es ≡ map g es
  placed-by fs g es named step =
      map-map (all_simplified cs fs) (place_sum p.path n 0) es
      ∙ map-named p.work cs n (λ e. all_simplified cs fs (place_sum p.path n 0 e)) g es named
      (λ e fits. sym (step e fits))

  loads : IsBegun [] 0 same p q →
      places_by (loop_of p) p.befores (items_in p.work depth)
      ≡ map (q.site.load cs) (each p.work (length loops + 1))
  loads begun =
      placed-by p.befores (q.site.load cs) (items_in p.work depth) names.loads (λ e fits. begun.load cs e counts fits)
      ∙ ap (map (q.site.load cs))
      (items-in p.work depth shape.node ∙ ap (λ k. each p.work (k + 1)) (sym (length-map p.path count_of)))

  out : (fs : List Mapping) (g : Sum → Sum) →
      ((e : Sum) → Fits n e cs → g e ≡ all_simplified cs fs (place_sum p.path n 0 e)) →
      places_by (loop_of p) fs (items_out p.work depth) ≡ map g (each p.work (length loops))
  out fs g step =
      placed-by fs g (items_out p.work depth) names.stores step
      ∙ ap (map g) (items-out p.work depth shape.node ∙ ap (each p.work) (sym (length-map p.path count_of)))

  multipliers : (x : Option PlainDiagonal) → HasDiagonal [] 0 same p q x →
      multiplier_of (loop_of p) (option_map taken_of x) ≡ multiplier_at loops p.work q.site.factors
  multipliers None h = ap (multiplier_at loops p.work) (sym h)
  multipliers (Some x) h =
      let place = h.0 in
      let fs = x.places ++ inner_of x.path (x.rows * x.cols) ∷ [] in
      ap (λ es. Some (record { factors = sums.twiddles x.rows x.cols x.root; places = es }))
      (out fs (place cs) (λ e fits. h.2 cs e counts fits
      ∙ sym (all_simplified-append cs x.places (inner_of x.path (x.rows * x.cols)) (place_sum p.path n 0 e))))
      ∙ ap (multiplier_at loops p.work) (sym h.1)

  with-loops : IsBegun [] 0 same p q → nest_at loops p.work q.site.load q.site.factors q.site.store ≡ emitted_nest q
  with-loops begun =
      ap₂ (λ ls w. nest_at ls w q.site.load q.site.factors q.site.store) (sym begun.counts) (sym begun.work)

  pub same-nest : IsSame [] 0 same p q → nest_of (loop_of p) ≡ emitted_nest q
  same-nest h =
      let first = loads h.begun in
      let second = multipliers p.diagonal h.factors in
      let third = out p.afters (q.site.store cs) (λ e fits. h.store cs e counts fits) in
      ap₂ (λ gs us. nest_with loops p.work gs us (places_by (loop_of p) p.afters (items_out p.work depth))) first second
      ∙ ap (nest_with loops p.work (map (q.site.load cs) (each p.work (length loops + 1)))
      (multiplier_at loops p.work q.site.factors)) third
      ∙ with-loops h.begun

-- ---- the last pass of the whole, with factors or without

abbrev pub freed : Pass → Pass
freed q = record { site = record (q.site) { factors = none }; work = q.work }

-- a nest that multiplies what it stores by factors, where f tells their places from those of the stores
abbrev pub multiplying : PlainFactors → (List Sum → List Sum) → PlainNest → PlainNest
multiplying ds f z =
    nest_with z.counts z.work z.gathers (Some (record { factors = ds; places = f z.scatters })) z.scatters

pub multiplied-nest : (ds : PlainFactors) (place : PlaceFunction) (f : List Sum → List Sum) (q : Pass) →
    (let w = plain_work q.work in
    multiplier_at q.site.counts w q.site.factors
    ≡ Some (record { factors = ds; places = map (place (bounds q.site.counts w)) (each w (length q.site.counts)) })) →
    ((cs : ℕ → ℕ) (es : List Sum) → f (map (q.site.store cs) es) ≡ map (place cs) es) →
    multiplying ds f (emitted_nest (freed q)) ≡ emitted_nest q
multiplied-nest ds place f q is at =
    let w = plain_work q.work in
    let cs = bounds q.site.counts w in
    let es = each w (length q.site.counts) in
    let loads = map (q.site.load cs) (each w (length q.site.counts + 1)) in
    let stores = map (q.site.store cs) es in
    ap (λ ps. nest_with q.site.counts w loads (Some (record { factors = ds; places = ps })) stores) (at cs es)
    ∙ ap (λ x. nest_with q.site.counts w loads x stores) (sym is)

-- ---- lists of passes

abbrev pub nests : List PlainPass → List (List PlainNest)
nests ps = map (λ p. one_nest (loop_of p)) ps
