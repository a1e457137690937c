-- In each phase of a layout every line belongs to one processor.
use Rattle.sigma_lower.proofs.Words.{◌≡◌, ℕ, zero, suc, ◌<◌, List, [], ◌∷◌, map, sym, ap, ◌∙◌, arith, subst, PlainPass}
use Rattle.sigma_lower.proofs.Words.{gather_place, scatter_place, in_order, loop_of, Target, ArePhasesShared, nest_of}
use Rattle.sigma_lower.proofs.Words.{one_nest, loops_of, PlainNest, load_place, store_place, work_size, ranged}
use Rattle.sigma_lower.proofs.Words.{AreInRange, Option, PlainLoop, PlainTaken}
use Rattle.std.proofs.Common.{Contains}
use Rattle.sigma_spl.specs.Shared.Running.{IsCopyOf, IsLoadedBy, IsStoredBy}
use Rattle.sigma_spl.specs.Shared.Owners.{AllOwn, AllShared, FirstOwns}
use Rattle.sigma_lower.proofs.TreeLoops.PassLists.{all-split}
use Rattle.sigma_lower.proofs.TreeSigmas.Known.{AllKnown, IsKnown}
use Rattle.sigma_lower.proofs.TreeSigmas.Places.{load-is, store-is}
use Rattle.sigma_lower.specs.TreeLoops.SharedPasses.Framed as shared

-- the only nest of a pass
pub only-nest : (z y : PlainNest) → Contains (z ∷ []) y → z ≡ y
only-nest z y (zero, low, e) = e
only-nest z y (suc k, low, e) = absurd (omega (arith, low))

-- ---- loops of passes, whatever multiplies their items

abbrev pub retaken : PlainPass → Option PlainTaken → PlainLoop
retaken p o = record { path = p.path; work = p.work; befores = p.befores; taken = o; afters = p.afters }

abbrev pub AreLoops : List PlainPass → List PlainLoop → Type 0
AreLoops [] [] = Unit {0}
AreLoops (p ∷ ps) (l ∷ ls) = ((o : Option PlainTaken) × (retaken p o ≡ l)) × AreLoops ps ls
AreLoops _ _ = ⊥

abbrev pub AllAreLoops : List (List PlainPass) → List (List PlainLoop) → Type 0
AllAreLoops [] [] = Unit {0}
AllAreLoops (ps ∷ more) (ls ∷ others) = AreLoops ps ls × AllAreLoops more others
AllAreLoops _ _ = ⊥

module _ (c : Target) where
  -- each pass as one nest
  abbrev pub pass_nests : List PlainPass → List (List PlainNest)
  pass_nests ps = map one_nest (map loop_of ps)

  -- an item of the one nest of a pass stands where that of the pass does
  item-owns : (owner : ℕ → ℕ) (p : PlainPass) (o : Option PlainTaken) (at : PlainNest → List ℕ → ℕ → ℕ)
      (places : List ℕ → ℕ → ℕ) →
      ((vs : List ℕ) (k : ℕ) → AreInRange p.path vs → k < work_size p.work →
      at (nest_of (retaken p o)) vs k ≡ places vs k) →
      shared.Owns c p places owner → (q w : ℕ) → q < c.procs → (z : PlainNest) → Contains (one_nest (retaken p o)) z →
      (vs : List ℕ) (k : ℕ) → IsCopyOf c z q vs → k < work_size z.work → at z vs k ≡ w → owner w ≡ q
  item-owns owner p o at places is owns q w below z one vs k copy low there =
      subst
      (λ (y : PlainNest). AreInRange (loops_of y.counts) vs → k < work_size y.work → at y vs k ≡ w → owner w ≡ q)
      (only-nest (nest_of (retaken p o)) z one)
      (λ range item here.
      let inner : AreInRange p.path vs = ranged p.path vs range in
      ap owner (sym here ∙ is vs k inner item)
      ∙ owns q vs k below (record { in_range = inner; processor = copy.processor }) item)
      copy.in_range low there

  loads-own : (owner : ℕ → ℕ) (p : PlainPass) (l : PlainLoop) → (o : Option PlainTaken) × (retaken p o ≡ l) →
      IsKnown c p → shared.Owns c p (gather_place p) owner → (q w : ℕ) → q < c.procs → IsLoadedBy c (one_nest l) q w →
      owner w ≡ q
  loads-own owner p l (o, e) known owns q w below =
      subst (λ l. IsLoadedBy c (one_nest l) q w → owner w ≡ q) e
      (λ by.
      item-owns owner p o (λ z. load_place z.work z.gathers) (gather_place p) (load-is c p known.loop) owns q w below
      by.nest by.one by.values by.item by.copy by.below by.there)

  stores-own : (owner : ℕ → ℕ) (p : PlainPass) (l : PlainLoop) → (o : Option PlainTaken) × (retaken p o ≡ l) →
      IsKnown c p → shared.Owns c p (scatter_place p) owner → (q w : ℕ) → q < c.procs → IsStoredBy c (one_nest l) q w →
      owner w ≡ q
  stores-own owner p l (o, e) known owns q w below =
      subst (λ l. IsStoredBy c (one_nest l) q w → owner w ≡ q) e
      (λ by.
      item-owns owner p o (λ z. store_place z.work z.scatters) (scatter_place p) (store-is c p known.loop) owns q w below
      by.nest by.one by.values by.item by.copy by.below by.there)

  all-own : (owner : ℕ → ℕ) (ps : List PlainPass) (ls : List PlainLoop) → AreLoops ps ls → AllKnown c ps →
      shared.AllOwn c owner ps → AllOwn c owner (map one_nest ls)
  all-own owner [] [] are known own = tt
  all-own owner (p ∷ ps) (l ∷ ls) are known own = (
    loads-own owner p l are.0 known.0 own.0,
    stores-own owner p l are.0 known.0 own.1,
    all-own owner ps ls are.1 known.1 own.2,
  )
  all-own owner _ _ are known own = absurd are

  first-own : (owner : ℕ → ℕ) (ps : List PlainPass) (ls : List PlainLoop) → AreLoops ps ls → AllKnown c ps →
      shared.FirstOwns c owner ps → FirstOwns c owner (map one_nest ls)
  first-own owner [] [] are known own = tt
  first-own owner (p ∷ ps) (l ∷ ls) are known own =
      (stores-own owner p l are.0 known.0 own.0, all-own owner ps ls are.1 known.1 own.1)
  first-own owner _ _ are known own = absurd are

  all-shared : (phases : List (List PlainPass)) (loops : List (List PlainLoop)) → AllAreLoops phases loops →
      AllKnown c (in_order phases) → shared.AllShared c phases → AllShared c (map (map one_nest) loops)
  all-shared [] [] are known h = tt
  all-shared (ps ∷ more) (ls ∷ others) are known h =
      let split = all-split (IsKnown c) ps (in_order more) known in (
        record {
          owner = h.0.owner;
          is_owner = h.0.is_owner;
          owns = all-own h.0.owner ps ls are.0 split.0 h.0.owns;
        },
        all-shared more others are.1 split.1 h.1,
      )
  all-shared _ _ are known h = absurd are

  pub phases-shared : (phases : List (List PlainPass)) (loops : List (List PlainLoop)) → AllAreLoops phases loops →
      AllKnown c (in_order phases) → shared.ArePhasesShared c phases → ArePhasesShared c (map (map one_nest) loops)
  phases-shared [] [] are known h = tt
  phases-shared (ps ∷ more) (ls ∷ others) are known h =
      let split = all-split (IsKnown c) ps (in_order more) known in (
        record {
          owner = h.0.owner;
          is_owner = h.0.is_owner;
          owns = first-own h.0.owner ps ls are.0 split.0 h.0.owns;
        },
        all-shared more others are.1 split.1 h.1,
      )
  phases-shared _ _ are known h = absurd are
