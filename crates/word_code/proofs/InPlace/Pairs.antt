-- Actions on words that differ in their addresses alone.
use Rattle.std.proofs.Common.{◌≡◌, ◌⊎◌, ℕ, ◌+◌, ◌≤◌, List, [], ◌∷◌, ◌++◌, sym, ap, ◌∙◌, subst, append_assoc}
use Rattle.icode.specs.declared.action.Action.{Action}
use Rattle.icode.specs.declared.action.Action.TheVariants.{Load, Store}
use Rattle.word_code.specs.WordMachine.{WordAction}
use Rattle.word_code.specs.InPlace.Accesses.{Access, Reads, Writes}

-- an action on registers alone
abbrev pub IsInner : Action → Type 0
IsInner (Load r address) = ⊥
IsInner (Store address r) = ⊥
IsInner _ = Unit {0}

pub record IsOwnPair (f g : WordAction) (accesses : List Access) : Type 0 where
  pub same : g ≡ f
  pub inner : IsInner f.action
  pub none : accesses ≡ []

-- the same access by two actions, of one place and of another
pub record IsTouchPair (act : ℕ → ℕ → Action) (access : ℕ → ℕ → Access) (lanes words : ℕ) (f g : WordAction) (accesses : List Access) : Type 0 where
  pub register : ℕ
  pub at : ℕ
  pub to : ℕ
  pub acts : f.action ≡ act register at
  pub other : g ≡ record f { action = act register to }
  pub touches : accesses ≡ access at to ∷ []
  pub inside : at + lanes ≤ words
  pub inside_other : to + lanes ≤ words

abbrev pub stored : ℕ → ℕ → Action
stored register address = Store address register

abbrev pub IsLoadPair : ℕ → ℕ → WordAction → WordAction → List Access → Type 0
IsLoadPair = IsTouchPair Load Reads

abbrev pub IsStorePair : ℕ → ℕ → WordAction → WordAction → List Access → Type 0
IsStorePair = IsTouchPair stored Writes

abbrev pub IsPair : ℕ → ℕ → WordAction → WordAction → List Access → Type 0
IsPair lanes words f g accesses =
    IsOwnPair f g accesses ⊎ (IsLoadPair lanes words f g accesses ⊎ IsStorePair lanes words f g accesses)

abbrev pub ArePairs : ℕ → ℕ → List WordAction → List WordAction → List Access → Type 0
ArePairs lanes words [] [] accesses = accesses ≡ []
ArePairs lanes words (f ∷ fs) (g ∷ gs) accesses =
    (first : List Access) × (rest : List Access) × (accesses ≡ first ++ rest) × IsPair lanes words f g first × ArePairs lanes words fs gs rest
ArePairs lanes words [] (g ∷ gs) accesses = ⊥
ArePairs lanes words (f ∷ fs) [] accesses = ⊥

-- pairs after pairs
pub pairs-append : (lanes words : ℕ) (fs gs fs2 gs2 : List WordAction) (xs ys : List Access) →
    ArePairs lanes words fs gs xs → ArePairs lanes words fs2 gs2 ys →
    ArePairs lanes words (fs ++ fs2) (gs ++ gs2) (xs ++ ys)
pairs-append lanes words [] [] fs2 gs2 xs ys none others = subst (λ zs. ArePairs lanes words fs2 gs2 (zs ++ ys)) (sym none) others
pairs-append lanes words (f ∷ fs) (g ∷ gs) fs2 gs2 xs ys (first, rest, whole, pair, pairs) others = (
  first,
  rest ++ ys,
  ap (λ zs. zs ++ ys) whole ∙ append_assoc first rest ys,
  pair,
  pairs-append lanes words fs gs fs2 gs2 rest ys pairs others,
)
pairs-append lanes words _ _ fs2 gs2 xs ys none others = absurd none
