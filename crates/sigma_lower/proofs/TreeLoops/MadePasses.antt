-- The terms of a layout's steps are merged into its passes. Terms that make each function, each pass and the path of
-- each diagonal another are merged into such passes: so those of a root's left part into the passes of its layout, each
-- in all copies.
use Rattle.sigma_lower.proofs.Words.{◌≡◌, ℕ, ◌*◌, List, [], ◌∷◌, ◌++◌, refl, sym, ap, ap₂, subst, ◌∙◌, append_assoc}
use Rattle.sigma_lower.proofs.Words.{append-nil, map, map-append, Mapping, Strided, ThomasIn, PlainPass, Merging}
use Rattle.sigma_lower.proofs.Words.{new_pass, scattered, multiplied, at_last, merge_term, merged, passes_of_terms}
use Rattle.sigma_lower.proofs.Words.{PlainTerm, gath, scat, diag, lowered, wrapped, PlainWork, Layout, work, by}
use Rattle.sigma_lower.proofs.Words.{layout_size, PlainStep, piece, step, turns, twiddles, thomas_in, thomas_out}
use Rattle.sigma_lower.proofs.Words.{rule_steps, steps_of, Blocks, Columns, Path, size_under, size_under-push, Rule, Gt}
use Rattle.sigma_lower.proofs.Words.{Ct, map-id}
use Rattle.sigma_lower.proofs.TreeLoops.Emitted.{Emission, as_lowered, emitted, emitted-lowered, merged-steps}
use Rattle.sigma_lower.proofs.TreeLoops.TreePasses.{IsFull, at_last-append, back, full-mapped, full_passes}
use Rattle.sigma_lower.proofs.TreeLoops.TreePasses.{layout_passes, rule_passes, rule_waiting}

abbrev pub done : List PlainPass → Merging
done ps = record { waiting = []; passes = ps }

-- the terms of cores of n words make these of functions, passes and paths
pub record Lifts (n : ℕ) (emit : Emission) (wait : Mapping → Mapping) (pass : PlainPass → PlainPass)
    (over : Path → Path) : Type 0 where
  pub pieces : (path : Path) (w : PlainWork) (fs : List Mapping) (ps : List PlainPass) →
      merged (record { waiting = map wait fs; passes = ps }) (emit path (piece w))
      ≡ done (ps ++ pass (new_pass path w fs) ∷ [])
  pub turned : (path : Path) (r s : ℕ) → size_under path (r * s) ≡ n →
      emit path (turns r s) ≡ gath (wait (wrapped path (r * s) (Strided r s))) ∷ []
  pub gathered : (path : Path) (r s : ℕ) → size_under path (r * s) ≡ n →
      emit path (thomas_in r s) ≡ gath (wait (wrapped path (r * s) (ThomasIn r s))) ∷ []
  pub twiddled : (path : Path) (r s w : ℕ) → emit path (twiddles r s w) ≡ diag (over path) r s w ∷ []
  pub taken_back : (path : Path) (r s : ℕ) → size_under path (r * s) ≡ n →
      emit path (thomas_out r s) ≡ scat (wait (back path r s)) ∷ []
  pub multiplies : (path : Path) (r s w : ℕ) (q : PlainPass) →
      multiplied (over path) r s w (pass q) ≡ pass (multiplied path r s w q)
  pub scatters : (f : Mapping) (q : PlainPass) → scattered (wait f) (pass q) ≡ pass (scattered f q)

abbrev Makes : Type 0
Makes = List Mapping → List PlainPass

abbrev Fills : Makes → Type 0
Fills make = (fs : List Mapping) → IsFull (make fs)

module _ (n : ℕ) (emit : Emission) (wait : Mapping → Mapping) (pass : PlainPass → PlainPass) (over : Path → Path)
    (lifts : Lifts n emit wait pass over) where
  -- steps whose terms make these passes, whatever waits
  abbrev Make : List PlainStep → Makes → Type 0
  Make steps make =
      (fs : List Mapping) (ps : List PlainPass) →
      merged (record { waiting = map wait fs; passes = ps }) (emitted emit steps) ≡ done (ps ++ map pass (make fs))

  last-mapped : (f g : PlainPass → PlainPass) (ps : List PlainPass) → ((q : PlainPass) → g (pass q) ≡ pass (f q)) →
      at_last g (map pass ps) ≡ map pass (at_last f ps)
  last-mapped f g [] same = refl
  last-mapped f g (p ∷ []) same = ap (λ q. q ∷ []) (same p)
  last-mapped f g (p ∷ q ∷ ps) same = ap (λ rest. pass p ∷ rest) (last-mapped f g (q ∷ ps) same)

  -- a gather before the steps
  make-gathered : (e : PlainStep) (f : Mapping) (steps : List PlainStep) (make : Makes) →
      emit e.path e.core ≡ gath (wait f) ∷ [] → Make steps make → Make (e ∷ steps) (λ fs. make (f ∷ fs))
  make-gathered e f steps make is on fs ps =
      ap (λ ts. merged (record { waiting = map wait fs; passes = ps }) (ts ++ emitted emit steps)) is ∙ on (f ∷ fs) ps

  -- a term after them that changes the last pass
  make-changed : (e : PlainStep) (t : PlainTerm) (f g : PlainPass → PlainPass) (steps : List PlainStep)
      (make : Makes) → emit e.path e.core ≡ t ∷ [] →
      ((ps : List PlainPass) → merge_term (done ps) t ≡ done (at_last g ps)) →
      ((q : PlainPass) → g (pass q) ≡ pass (f q)) → Fills make → Make steps make →
      Make (steps ++ e ∷ []) (λ fs. at_last f (make fs))
  make-changed e t f g steps make is changes same full on fs ps =
      let made = map pass (make fs) in
      merged-steps emit _ (done (ps ++ made)) _ steps (e ∷ []) (on fs ps)
      (ap (λ ts. merged (done (ps ++ made)) (ts ++ [])) is ∙ changes (ps ++ made))
      ∙ ap done
      (at_last-append g ps made (full-mapped pass (make fs) (full fs))
      ∙ ap (λ qs. ps ++ qs) (last-mapped f g (make fs) same))

  -- the right part and then the left one
  make-both : (left right : List PlainStep) (make_left make_right : Makes) → Make left make_left →
      Make right make_right → Make (right ++ left) (λ fs. make_right fs ++ make_left [])
  make-both left right make_left make_right on_left on_right fs ps =
      let made = ps ++ map pass (make_right fs) in
      merged-steps emit _ (done made) _ right left (on_right fs ps) (on_left [] made)
      ∙ ap done
      (append_assoc ps (map pass (make_right fs)) (map pass (make_left []))
      ∙ ap (λ qs. ps ++ qs) (sym (map-append pass (make_right fs) (make_left []))))

  make-rule : (rule : Rule) (path : Path) (r s w : ℕ) (left right : List PlainStep) (make_left make_right : Makes) →
      size_under path (r * s) ≡ n → Fills make_left → Fills make_right → Make left make_left → Make right make_right →
      Make (rule_steps rule path r s w left right)
      (λ fs. rule_passes rule path r s w (make_left []) (make_right (rule_waiting rule path r s fs)))
  make-rule Gt path r s w left right make_left make_right e full_left full_right on_left on_right =
      let last = step path (thomas_out r s) in
      let f : Mapping = back path r s in
      let make : Makes = λ fs. at_last (scattered f) (make_left fs) in
      make-gathered (step path (thomas_in r s)) (wrapped path (r * s) (ThomasIn r s)) (right ++ (left ++ last ∷ []))
      (λ fs. make_right fs ++ make []) (lifts.gathered path r s e)
      (make-both (left ++ last ∷ []) right make make_right
      (make-changed last (scat (wait f)) (scattered f) (scattered (wait f)) left make_left (lifts.taken_back path r s e)
      (λ ps. refl) (lifts.scatters f) full_left on_left)
      on_right)
  make-rule Ct path r s w left right make_left make_right e full_left full_right on_left on_right =
      let last = step path (twiddles r s w) in
      let make : Makes = λ fs. at_last (multiplied path r s w) (make_right fs) in
      make-gathered (step path (turns r s)) (wrapped path (r * s) (Strided r s)) (right ++ (last ∷ left))
      (λ fs. make fs ++ make_left []) (lifts.turned path r s e)
      (subst (λ steps. Make steps (λ fs. make fs ++ make_left [])) (append_assoc right (last ∷ []) left)
      (make-both left (right ++ last ∷ []) make_left make on_left
      (make-changed last (diag (over path) r s w) (multiplied path r s w) (multiplied (over path) r s w) right
      make_right (lifts.twiddled path r s w) (λ ps. refl) (lifts.multiplies path r s w) full_right on_right)))
  make-rule _ path r s w left right make_left make_right e full_left full_right on_left on_right =
      make-both left right make_left make_right on_left on_right

  pub make-layout : (path : Path) (l : Layout) → size_under path (layout_size l) ≡ n → (fs : List Mapping)
      (ps : List PlainPass) →
      merged (record { waiting = map wait fs; passes = ps }) (emitted emit (steps_of path l))
      ≡ done (ps ++ map pass (layout_passes path fs l))
  make-layout path (work w) e =
      λ fs ps.
      ap (merged (record { waiting = map wait fs; passes = ps })) (append-nil (emit path (piece w)))
      ∙ lifts.pieces path w fs ps
  make-layout path (by rule root a b) e =
      let r = layout_size a in
      let s = layout_size b in
      make-rule rule path r s root _ _ (λ fs. layout_passes (path ++ Columns s ∷ []) fs a)
      (λ fs. layout_passes (path ++ Blocks r ∷ []) fs b) e (λ fs. full_passes (path ++ Columns s ∷ []) fs a)
      (λ fs. full_passes (path ++ Blocks r ∷ []) fs b)
      (make-layout (path ++ Columns s ∷ []) a (size_under-push path (Columns s) r ∙ e))
      (make-layout (path ++ Blocks r ∷ []) b (size_under-push path (Blocks r) s ∙ e))

-- ---- the lowered terms

lifts-lowered : (n : ℕ) → Lifts n as_lowered (λ f. f) (λ p. p) (λ path. path)
lifts-lowered n = record {
  pieces = λ path w fs ps. ap (λ gs. done (ps ++ new_pass path w gs ∷ [])) (map-id fs);
  turned = λ path r s e. refl;
  gathered = λ path r s e. refl;
  twiddled = λ path r s w. refl;
  taken_back = λ path r s e. refl;
  multiplies = λ path r s w q. refl;
  scatters = λ f q. refl;
}

pub merged_tree : (path : Path) (l : Layout) (fs : List Mapping) (ps : List PlainPass) →
    merged (record { waiting = fs; passes = ps }) (map lowered (steps_of path l))
    ≡ done (ps ++ layout_passes path fs l)
merged_tree path l fs ps =
    let n = size_under path (layout_size l) in
    sym (ap₂ (λ gs ts. merged (record { waiting = gs; passes = ps }) ts) (map-id fs)
    (emitted-lowered (steps_of path l)))
    ∙ make-layout n as_lowered (λ f. f) (λ p. p) (λ path. path) (lifts-lowered n) path l refl fs ps
    ∙ ap (λ qs. done (ps ++ qs)) (map-id (layout_passes path fs l))

pub passes_of_terms-tree : (l : Layout) → passes_of_terms (map lowered (steps_of [] l)) ≡ layout_passes [] [] l
passes_of_terms-tree l = ap (λ (z : Merging). z.passes) (merged_tree [] l [] [])
