-- The terms of trees are in order: a scatter or a diagonal comes right after a loop, a diagonal after one that has none,
-- and after tiles only one under no tensors.
use Rattle.sigma_lower.proofs.Words.{◌≡◌, ℕ, ◌*◌, ◌/◌, ◌==◌, Bool, true, false, List, [], ◌∷◌, ◌++◌, refl, sym, subst}
use Rattle.sigma_lower.proofs.Words.{if◌then◌else◌, None, map, not, ◌&&◌, Mapping, Strided, ThomasIn, Target, Columns}
use Rattle.sigma_lower.proofs.Words.{Path, size_under, AllOrdered, embed, phase_term, left_core, left_path, left_terms}
use Rattle.sigma_lower.proofs.Words.{lines_dealt, lines_moved, right_path, right_terms, root_terms, tile_path}
use Rattle.sigma_lower.proofs.Words.{vectors_grouped, vectors_turned, whole_path, PlainTerm, gath, scat, diag, nest}
use Rattle.sigma_lower.proofs.Words.{lowered, lowered_of, wrapped, chosen, PlainLoop, HasLoop, is_tile, is_alone}
use Rattle.sigma_lower.proofs.Words.{PlainWork, kernel, rows, tile, RootHasParts, Layout, work, by, layout_size}
use Rattle.sigma_lower.proofs.Words.{IsGoodWork, IsGoodLayout, steps_of, Looping, looped, stored_last, CanScale}
use Rattle.sigma_lower.specs.Order.{IsOrderedPhase, TreesOrdered}
use Rattle.sigma_lower.proofs.TreeLoops.Emitted.{as_lowered, emitted-lowered}
use Rattle.sigma_lower.proofs.TreeLoops.TreePasses.{back}
use Rattle.sigma_lower.proofs.TreeLoops.Walks.{IsLaw, Keeps, Point, RightKeeps, begun, done, ready, right-law, settled}
use Rattle.sigma_lower.proofs.TreeLoops.Walks.{steps-law, tiled}
use Rattle.sigma_lower.proofs.TreeTerms.Both.{plain_terms}
use Rattle.sigma_lower.proofs.TreeTerms.RootTerms.{rule-shared, shared_terms}
use Rattle.sigma_spl.specs.Loops.{InOrder}
use Rattle.sigma_spl.specs.Loops as loops

-- ---- the law

abbrev LastFree : List PlainLoop → Type 0
LastFree [] = ⊥
LastFree (p ∷ ps) = p.taken ≡ None

abbrev LastLoose : List PlainLoop → Type 0
LastLoose [] = ⊥
LastLoose (p ∷ ps) = not (is_tile p.work) ≡ true

-- what holds of the loops at a point
abbrev At : Point → Looping → Type 0
At begun st = st.waiting ≡ []
At ready st = Unit {0}
At done st = (st.waiting ≡ []) × LastFree st.loops × LastLoose st.loops
At tiled st = (st.waiting ≡ []) × LastFree st.loops
At settled st = st.waiting ≡ []

-- the terms are in order from one point to another
abbrev Orders : Point → List PlainTerm → Point → Type 0
Orders i ts j = (st : Looping) → At i st → InOrder st (phase_term ts) × At j (looped st (phase_term ts))

looped-append : (ts us : List PlainTerm) (st : Looping) →
    looped st (phase_term (ts ++ us)) ≡ looped (looped st (phase_term ts)) (phase_term us)
looped-append [] us st = refl
looped-append (t ∷ ts) us st = looped-append ts us (looped st (embed t))

order-append : (ts us : List PlainTerm) (st : Looping) → InOrder st (phase_term ts) →
    InOrder (looped st (phase_term ts)) (phase_term us) → InOrder st (phase_term (ts ++ us))
order-append [] us st h k = k
order-append (t ∷ ts) us st h k = (h.0, order-append ts us (looped st (embed t)) h.1 k)

law : IsLaw Orders
law = record {
  both = λ i j k ts us h g st is.
      let first = h st is in
      let second = g (looped st (phase_term ts)) first.1 in
      (order-append ts us st first.0 second.0, subst (At k) (sym (looped-append ts us st)) second.1);
  weak = λ i k ts h st is. h st tt;
  settle = λ i ts h st is. let all = h st is in (all.0, all.1.0);
}

-- ---- each term

gathers : (i : Point) (f : Mapping) → Orders i (gath f ∷ []) ready
gathers i f st is = ((tt, tt), tt)

transforms : (m : ℕ) (path : Path) (w : PlainWork) → IsGoodWork m w → Orders ready (nest path w ∷ []) done
transforms m path (kernel trees) good st is = ((tt, tt), (refl, refl, refl))
transforms m path (rows root size) good st is = ((tt, tt), (refl, refl, refl))
transforms m path _ good st is = absurd good

stored-free : (f : Mapping) (ps : List PlainLoop) → LastFree ps → HasLoop ps × LastFree (stored_last f ps)
stored-free f [] free = absurd free
stored-free f (p ∷ ps) free = (tt, free)

stored-loose : (f : Mapping) (ps : List PlainLoop) → LastLoose ps → LastLoose (stored_last f ps)
stored-loose f [] loose = loose
stored-loose f (p ∷ ps) loose = loose

scatters : (f : Mapping) → Orders done (scat f ∷ []) done
scatters f st is =
    let last = stored-free f st.loops is.1 in
    (((is.0, last.0), tt), (is.0, last.1, stored-loose f st.loops is.2))

scatters-tiles : (f : Mapping) → Orders tiled (scat f ∷ []) tiled
scatters-tiles f st is = let last = stored-free f st.loops is.1 in (((is.0, last.0), tt), (is.0, last.1))

can-scale : (path : Path) (ps : List PlainLoop) → LastFree ps → LastLoose ps → CanScale path ps
can-scale path [] free loose = absurd free
can-scale [] (p ∷ ps) free loose = (free, refl)
can-scale (t ∷ path) (p ∷ ps) free loose = (free, and-one (not (is_tile p.work)) loose)
  where
    and-one : (b : Bool) → b ≡ true → (b && true) ≡ true
    and-one true is = refl
    and-one false is = absurd (cc)

multiplies : (path : Path) (r s w : ℕ) → Orders done (diag path r s w ∷ []) ready
multiplies path r s w st is = (((is.0, can-scale path st.loops is.1 is.2), tt), tt)

can-scale-root : (ps : List PlainLoop) → LastFree ps → CanScale [] ps
can-scale-root [] free = absurd free
can-scale-root (p ∷ ps) free = (free, refl)

multiplies-root : (r s w : ℕ) → Orders tiled (diag [] r s w ∷ []) settled
multiplies-root r s w st is = (((is.0, can-scale-root st.loops is.1), tt), is.0)

-- ---- the steps of a tree

keeps-lowered : (m n : ℕ) → Keeps Orders m [] n as_lowered
keeps-lowered m n = record {
  pieces = λ path w good e. transforms m path w good;
  turned = λ path r s e. gathers ready (wrapped path (r * s) (Strided r s));
  twiddled = λ path r s w e. multiplies path r s w;
  gathered = λ path r s e. gathers ready (wrapped path (r * s) (ThomasIn r s));
  scattered = λ path r s e. scatters (back path r s);
}

orders-steps : (m : ℕ) (path : Path) (l : Layout) → IsGoodLayout m l →
    Orders ready (map lowered (steps_of path l)) done
orders-steps m path l good =
    let n = size_under path (layout_size l) in
    subst (λ ts. Orders ready ts done) (emitted-lowered (steps_of path l))
    (steps-law Orders law m [] n as_lowered (keeps-lowered m n) path l good refl)

-- ---- the left part

orders-piece : (m : ℕ) (b : Bool) (into out : Mapping) (path : Path) (w : PlainWork) → IsGoodWork m w →
    Orders ready (if b then nest path w ∷ [] else gath into ∷ nest path w ∷ scat out ∷ []) done
orders-piece m true into out path w good = transforms m path w good
orders-piece m false into out path w good =
    law.both ready ready done (gath into ∷ []) (nest path w ∷ scat out ∷ []) (gathers ready into)
    (law.both ready done done (nest path w ∷ []) (scat out ∷ []) (transforms m path w good) (scatters out))

keeps-left : (m n p v k s : ℕ) → Keeps Orders m [] n (left_core p v k s)
keeps-left m n p v k s = record {
  pieces = λ path w good e.
      orders-piece m (p == 1) (lines_dealt (p * k) p v k s) (lines_dealt (k * p) p v k s) (left_path p v s ++ path) w
      good;
  turned = λ path a b e. gathers ready (wrapped (whole_path v s ++ path) (a * b) (Strided a b));
  twiddled = λ path a b w e. multiplies (Columns s ∷ path) a b w;
  gathered = λ path a b e. gathers ready (wrapped (whole_path v s ++ path) (a * b) (ThomasIn a b));
  scattered = λ path a b e. scatters (back (whole_path v s ++ path) a b);
}

orders-left : (m p v s : ℕ) (a : Layout) → IsGoodLayout m a →
    Orders ready (left_terms p v (layout_size a) s (steps_of [] a)) done
orders-left m p v s a good =
    let k = layout_size a in
    steps-law Orders law m [] k (left_core p v k s) (keeps-left m k p v k s) [] a good refl

-- ---- the right part

orders-turned : (b : Bool) (f g : Mapping) → Orders begun ((if b then [] else gath f ∷ []) ++ gath g ∷ []) ready
orders-turned true f g = gathers begun g
orders-turned false f g =
    law.both begun ready ready (gath f ∷ []) (gath g ∷ []) (gathers begun f) (gathers ready g)

orders-before : (b : Bool) (path : Path) (v : ℕ) (f : Mapping) →
    Orders begun (if b then [] else gath f ∷ nest path (tile v) ∷ []) ready
orders-before true path v f = λ st is. (tt, tt)
orders-before false path v f =
    law.both begun ready ready (gath f ∷ []) (nest path (tile v) ∷ []) (gathers begun f) (λ st is. ((tt, tt), tt))

orders-after : (b : Bool) (path : Path) (v : ℕ) (f : Mapping) →
    Orders done (if b then [] else nest path (tile v) ∷ scat f ∷ []) tiled
orders-after true path v f = λ st is. (tt, (is.0, is.1))
orders-after false path v f =
    law.both done tiled tiled (nest path (tile v) ∷ []) (scat f ∷ []) (λ st is. ((tt, tt), (refl, refl)))
    (scatters-tiles f)

keeps-right : (m p v w r : ℕ) (b : Layout) → IsGoodLayout m b →
    RightKeeps Orders p v r (layout_size b) w (map lowered (steps_of (right_path p v r) b))
keeps-right m p v w r b good =
    let s = layout_size b in
    record {
      turned = orders-turned (p == 1) (lines_moved p v r s) (vectors_turned p v r s);
      before = orders-before (v == 1) (tile_path p v r s) v (vectors_grouped (s / v * v) p v r s);
      steps = orders-steps m (right_path p v r) b good;
      after = orders-after (v == 1) (tile_path p v r s) v (vectors_grouped (v * (s / v)) p v r s);
      twiddled = multiplies-root r s w;
    }

-- ---- phases

settled-phase : (c : Target) (ts : List PlainTerm) → Orders begun ts settled → IsOrderedPhase c ts
settled-phase c ts orders = let all = orders loops.begun refl in record { in_order = all.0; none_waits = all.1 }

done-phase : (c : Target) (ts : List PlainTerm) → Orders begun ts done → IsOrderedPhase c ts
done-phase c ts orders = let all = orders loops.begun refl in record { in_order = all.0; none_waits = all.1.0 }

root-ordered : (c : Target) (l : Layout) → RootHasParts c l → IsGoodLayout c.modulus l → AllOrdered c (root_terms c l)
root-ordered c (work w) parts good = tt
root-ordered c (by rule root a b) parts good =
    let p = c.procs in
    let v = c.lanes in
    let r = layout_size a in
    let s = layout_size b in
    let first = right_terms p v rule root a b in
    let second = left_terms p v r s (steps_of [] a) in
    let right : Orders begun first settled =
    right-law Orders law p v root a b (keeps-right c.modulus p v root r b good.2) rule (rule-shared c rule r s parts) in
    let left : Orders ready second done = orders-left c.modulus p v s a good.1 in
    let both = law.both begun settled done first second right (law.weak settled done second left) in
    chosen (AllOrdered c) (p == 1) ((first ++ second) ∷ []) (first ∷ second ∷ [])
    (λ one. (done-phase c (first ++ second) both, tt))
    (settled-phase c first right, (done-phase c second (law.weak begun done second left), tt))

pub trees_ordered : TreesOrdered
trees_ordered c l valid shares good = pick (is_alone c) refl
  where
    pick : (b : Bool) → is_alone c ≡ b → AllOrdered c (lowered_of c l)
    pick true is =
        let steps : Orders ready (map lowered (steps_of [] l)) done = orders-steps c.modulus [] l good in
        subst (AllOrdered c) (sym (plain_terms c l is))
        (done-phase c (map lowered (steps_of [] l)) (law.weak begun done (map lowered (steps_of [] l)) steps), tt)
    pick false is =
        subst (AllOrdered c) (sym (shared_terms c l shares good is)) (root-ordered c l (shares.root is) good)
