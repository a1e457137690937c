-- The counts of two lists of actions, one after the other.
use Rattle.std.proofs.Common.{◌≡◌, ℕ, ◌+◌, ◌-◌, ◌*◌, List, [], ◌∷◌, ◌++◌, ap₂, ◌∙◌, arith}
use Rattle.icode.specs.Machine.{counts_of, weighted}
use Rattle.icode.specs.declared.action.Action.{Action}
use Rattle.icode.specs.declared.action.Action.TheVariants.{Load, Store, Zero, Add, Sub, Neg, Mul, Tile}

pub record AddUp (lanes : ℕ) (xs ys : List Action) : Type 0 where
  pub operations : (counts_of lanes (xs ++ ys)).operations ≡ (counts_of lanes xs).operations
      + (counts_of lanes ys).operations
  pub muls : (counts_of lanes (xs ++ ys)).muls ≡ (counts_of lanes xs).muls + (counts_of lanes ys).muls
  pub loads : (counts_of lanes (xs ++ ys)).loads ≡ (counts_of lanes xs).loads + (counts_of lanes ys).loads
  pub stores : (counts_of lanes (xs ++ ys)).stores ≡ (counts_of lanes xs).stores + (counts_of lanes ys).stores

add-one : (lanes : ℕ) (x : Action) (xs ys : List Action) → AddUp lanes xs ys → AddUp lanes (x ∷ xs) ys
add-one lanes (Load r a) xs ys h = record { operations = h.operations; muls = h.muls; loads = let e = h.loads in omega arith; stores = h.stores }
add-one lanes (Store a r) xs ys h = record { operations = h.operations; muls = h.muls; loads = h.loads; stores = let e = h.stores in omega arith }
add-one lanes (Zero r) xs ys h = record { operations = h.operations; muls = h.muls; loads = h.loads; stores = h.stores }
add-one lanes (Add r x y) xs ys h = record { operations = let e = h.operations in omega arith; muls = h.muls; loads = h.loads; stores = h.stores }
add-one lanes (Sub r x y) xs ys h = record { operations = let e = h.operations in omega arith; muls = h.muls; loads = h.loads; stores = h.stores }
add-one lanes (Neg r x) xs ys h = record { operations = let e = h.operations in omega arith; muls = h.muls; loads = h.loads; stores = h.stores }
add-one lanes (Mul r x f) xs ys h = record { operations = let e = h.operations in omega arith; muls = let e = h.muls in omega arith; loads = h.loads; stores = h.stores }
add-one lanes (Tile r x) xs ys h = record { operations = h.operations; muls = h.muls; loads = h.loads; stores = h.stores }

pub add-up : (lanes : ℕ) (xs ys : List Action) → AddUp lanes xs ys
add-up lanes [] ys = record { operations = omega arith; muls = omega arith; loads = omega arith; stores = omega arith }
add-up lanes (x ∷ xs) ys = add-one lanes x xs ys (add-up lanes xs ys)

apart : (a b x y k : ℕ) → a + b + k * (x + y) ≡ a + k * x + (b + k * y)
apart a b x y k = omega arith

pub weighted-append : (lanes weight : ℕ) (xs ys : List Action) →
    weighted weight (counts_of lanes (xs ++ ys)) ≡ weighted weight (counts_of lanes xs)
    + weighted weight (counts_of lanes ys)
weighted-append lanes weight xs ys = let both = add-up lanes xs ys in ap₂ (λ a b. a + (weight - 1) * b) both.operations both.muls ∙ apart _ _ _ _ (weight - 1)
