-- Passes whose places belong to their processors, and what merging keeps of them.
use Rattle.sigma_lower.proofs.Words.{◌≡◌, ℕ, ◌≤◌, arith, refl, sym, ap, ◌∙◌, List, [], ◌∷◌, ◌++◌, subst, Mapping, at}
use Rattle.sigma_lower.proofs.Words.{Target, PlainPass, Merging, through, new_pass, scattered, multiplied, at_last}
use Rattle.sigma_lower.proofs.Words.{gather_place, scatter_place, merge_term, gath, scat, diag, nest, PlainWork}
use Rattle.sigma_lower.proofs.Words.{work_size, Path, place, IsOwner}
use Rattle.sigma_lower.specs.TreeLoops.SharedPasses.Framed.{Owns, AllOwn, FirstOwns, AllShared, ArePhasesShared}
use Rattle.sigma_lower.proofs.TreeLoops.PassLists.{AllPasses, all-append, all-last}
use Rattle.sigma_lower.proofs.TreeLoops.TreePasses.{at_last-append}
use Rattle.sigma_lower.proofs.TreeLoops.SharedPasses.Shares.{OwnsNatural}
use Rattle.sigma_lower.proofs.TreeLoops.PlaceValues.{through-end}

-- ---- functions that keep the owner of a word

abbrev pub KeepsOwner : (ℕ → ℕ) → Mapping → Type 0
KeepsOwner owner f = (i : ℕ) → owner (at f i) ≡ owner i

abbrev pub AllKeepOwner : (ℕ → ℕ) → List Mapping → Type 0
AllKeepOwner owner [] = Unit {0}
AllKeepOwner owner (f ∷ fs) = KeepsOwner owner f × AllKeepOwner owner fs

through-owner : (owner : ℕ → ℕ) (fs : List Mapping) → AllKeepOwner owner fs → (i : ℕ) → owner (through fs i) ≡ owner i
through-owner owner [] h i = refl
through-owner owner (f ∷ fs) h i = through-owner owner fs h.1 (at f i) ∙ h.0 i

module _ (c : Target) (owner : ℕ → ℕ) where
  -- ---- one pass

  -- its natural places, past these functions, are its processors' own
  abbrev pub Takes : PlainPass → List Mapping → Type 0
  Takes p fs = OwnsNatural c p.path (work_size p.work) (λ i. owner (through fs i))

  -- what it loads and what it stores is its processors' own
  pub record OwnsBoth (p : PlainPass) : Type 0 where
    pub gathers : Takes p p.befores
    pub scatters : Takes p p.afters

  same-owner : (path : Path) (n : ℕ) (own other : ℕ → ℕ) → ((i : ℕ) → other i ≡ own i) → OwnsNatural c path n own →
      OwnsNatural c path n other
  same-owner path n own other same h q vs k below range head inside =
      same (place path n vs k) ∙ h q vs k below range head inside

  new-owns : (path : Path) (w : PlainWork) (fs : List Mapping) → OwnsNatural c path (work_size w) owner →
      AllKeepOwner owner fs → OwnsBoth (new_pass path w fs)
  new-owns path w fs h k = record {
    gathers = same-owner path (work_size w) owner (λ i. owner (through fs i)) (through-owner owner fs k) h;
    scatters = h;
  }

  scattered-stores : (f : Mapping) → KeepsOwner owner f → (p : PlainPass) → Takes p p.afters →
      Takes p (p.afters ++ f ∷ [])
  scattered-stores f k p h =
      same-owner p.path (work_size p.work) (λ i. owner (through p.afters i))
      (λ i. owner (through (p.afters ++ f ∷ []) i))
      (λ i. ap owner (through-end p.afters f i) ∙ k (through p.afters i)) h

  scattered-owns : (f : Mapping) → KeepsOwner owner f → (p : PlainPass) → OwnsBoth p → OwnsBoth (scattered f p)
  scattered-owns f k p h = record { gathers = h.gathers; scatters = scattered-stores f k p h.scatters }

  multiplied-owns : (path : Path) (r s w : ℕ) (p : PlainPass) → OwnsBoth p → OwnsBoth (multiplied path r s w p)
  multiplied-owns path r s w p h = record { gathers = h.gathers; scatters = h.scatters }

  -- a pass between lines that are dealt and dealt back
  dealt-owns : (path : Path) (w : PlainWork) (f g : Mapping) (fs : List Mapping) →
      OwnsNatural c path (work_size w) (λ i. owner (at f i)) → OwnsNatural c path (work_size w) (λ i. owner (at g i)) →
      AllKeepOwner owner fs → OwnsBoth (scattered g (new_pass path w (f ∷ fs)))
  dealt-owns path w f g fs h l k = record {
    gathers =
        same-owner path (work_size w) (λ i. owner (at f i)) (λ i. owner (through fs (at f i)))
        (λ i. through-owner owner fs k (at f i)) h;
    scatters = l;
  }

  -- ---- all passes

  -- passes that own their places, and functions that keep owners
  abbrev pub Shared : Merging → Type 0
  Shared st = AllPasses OwnsBoth st.passes × AllKeepOwner owner st.waiting

  pub shared-gath : (st : Merging) (f : Mapping) → KeepsOwner owner f → Shared st → Shared (merge_term st (gath f))
  shared-gath st f k h = (h.0, (k, h.1))

  pub shared-scat : (st : Merging) (f : Mapping) → KeepsOwner owner f → Shared st → Shared (merge_term st (scat f))
  shared-scat st f k h = (all-last OwnsBoth (scattered f) (scattered-owns f k) st.passes h.0, h.1)

  pub shared-diag : (st : Merging) (path : Path) (r s w : ℕ) → Shared st → Shared (merge_term st (diag path r s w))
  shared-diag st path r s w h =
      (all-last OwnsBoth (multiplied path r s w) (multiplied-owns path r s w) st.passes h.0, h.1)

  pub shared-dealt : (st : Merging) (path : Path) (w : PlainWork) (f g : Mapping) →
      OwnsNatural c path (work_size w) (λ i. owner (at f i)) → OwnsNatural c path (work_size w) (λ i. owner (at g i)) →
      Shared st → Shared (merge_term (merge_term (merge_term st (gath f)) (nest path w)) (scat g))
  shared-dealt st path w f g k l h =
      let last = new_pass path w (f ∷ st.waiting) in (
        subst (AllPasses OwnsBoth) (sym (at_last-append (scattered g) st.passes (last ∷ []) tt))
            (all-append OwnsBoth st.passes (scattered g last ∷ []) h.0 (dealt-owns path w f g st.waiting k l h.1, tt)),
        tt,
      )

  own-all : (ps : List PlainPass) → AllPasses OwnsBoth ps → AllOwn c owner ps
  own-all [] h = tt
  own-all (p ∷ ps) h = (
    λ q vs k below copy inside. h.0.gathers q vs k below copy.in_range copy.processor inside,
    λ q vs k below copy inside. h.0.scatters q vs k below copy.in_range copy.processor inside,
    own-all ps h.1,
  )

  pub shared-own : (st : Merging) → Shared st → AllOwn c owner st.passes
  shared-own st h = own-all st.passes h.0

  -- ---- the first phase: the first pass may load what it will, and so may gathers that wait for it

  abbrev pub Begins : List PlainPass → List Mapping → Type 0
  Begins [] fs = Unit {0}
  Begins (p ∷ ps) fs = Takes p p.afters × AllPasses OwnsBoth ps × AllKeepOwner owner fs

  abbrev pub First : Merging → Type 0
  First st = Begins st.passes st.waiting

  begins-more : (ps : List PlainPass) (fs : List Mapping) (f : Mapping) → KeepsOwner owner f → Begins ps fs →
      Begins ps (f ∷ fs)
  begins-more [] fs f k h = tt
  begins-more (p ∷ ps) fs f k h = (h.0, h.1, (k, h.2))

  begins-last : (f : PlainPass → PlainPass) → ((p : PlainPass) → Takes p p.afters → Takes (f p) (f p).afters) →
      ((p : PlainPass) → OwnsBoth p → OwnsBoth (f p)) → (ps : List PlainPass) (fs : List Mapping) → Begins ps fs →
      Begins (at_last f ps) fs
  begins-last f k l [] fs h = tt
  begins-last f k l (p ∷ []) fs h = (k p h.0, tt, h.2)
  begins-last f k l (p ∷ q ∷ ps) fs h = (h.0, all-last OwnsBoth f l (q ∷ ps) h.1, h.2)

  begins-push : (ps : List PlainPass) (path : Path) (w : PlainWork) (fs : List Mapping) →
      OwnsNatural c path (work_size w) owner → Begins ps fs → Begins (ps ++ new_pass path w fs ∷ []) []
  begins-push [] path w fs k h = (k, tt, tt)
  begins-push (p ∷ ps) path w fs k h =
      (h.0, all-append OwnsBoth ps (new_pass path w fs ∷ []) h.1 (new-owns path w fs k h.2, tt), tt)

  pub first-gath : (st : Merging) (f : Mapping) → KeepsOwner owner f → First st → First (merge_term st (gath f))
  first-gath st f k h = begins-more st.passes st.waiting f k h

  pub first-scat : (st : Merging) (f : Mapping) → KeepsOwner owner f → First st → First (merge_term st (scat f))
  first-scat st f k h = begins-last (scattered f) (scattered-stores f k) (scattered-owns f k) st.passes st.waiting h

  pub first-diag : (st : Merging) (path : Path) (r s w : ℕ) → First st → First (merge_term st (diag path r s w))
  first-diag st path r s w h =
      begins-last (multiplied path r s w) (λ p k. k) (multiplied-owns path r s w) st.passes st.waiting h

  pub first-nest : (st : Merging) (path : Path) (w : PlainWork) → OwnsNatural c path (work_size w) owner → First st →
      First (merge_term st (nest path w))
  first-nest st path w k h = begins-push st.passes path w st.waiting k h

  first-all : (ps : List PlainPass) (fs : List Mapping) → Begins ps fs → FirstOwns c owner ps
  first-all [] fs h = tt
  first-all (p ∷ ps) fs h =
      (λ q vs k below copy inside. h.0 q vs k below copy.in_range copy.processor inside, own-all ps h.1)

  pub first-own : (st : Merging) → First st → FirstOwns c owner st.passes
  first-own st h = first-all st.passes st.waiting h

-- ---- one processor owns all words

module _ (c : Target) (low : 1 ≤ c.procs) (one : c.procs ≡ 1) where
  abbrev alone : ℕ → ℕ
  alone a = 0

  alone-owner : IsOwner c alone
  alone-owner = record { lines = λ a b _ _ _. refl; procs = λ a _. omega (arith, low) }

  alone-owns : (places : List ℕ → ℕ → ℕ) (p : PlainPass) → Owns c p places alone
  alone-owns places p q vs k below copy inside = omega (arith, one, below)

  alone-all : (ps : List PlainPass) → AllOwn c alone ps
  alone-all [] = tt
  alone-all (p ∷ ps) = (alone-owns (gather_place p) p, alone-owns (scatter_place p) p, alone-all ps)

  alone-first : (ps : List PlainPass) → FirstOwns c alone ps
  alone-first [] = tt
  alone-first (p ∷ ps) = (alone-owns (scatter_place p) p, alone-all ps)

  alone-more : (phases : List (List PlainPass)) → AllShared c phases
  alone-more [] = tt
  alone-more (ps ∷ more) = (record { owner = alone; is_owner = alone-owner; owns = alone-all ps }, alone-more more)

  pub alone-phases : (phases : List (List PlainPass)) → ArePhasesShared c phases
  alone-phases [] = tt
  alone-phases (ps ∷ more) = (record { owner = alone; is_owner = alone-owner; owns = alone-first ps }, alone-more more)
