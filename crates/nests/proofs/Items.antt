-- Items that are changed one after another, by what is seen of them.
use Rattle.std.proofs.Common.{◌≡◌, ℕ, zero, suc, ◌+◌, ◌<◌, ◌≤◌, List, [], ◌∷◌, ◌++◌, length, take, drop, map, get_or}
use Rattle.std.proofs.Common.{refl, sym, ap, ◌∙◌, ap₂, arith, append-nil, length-set}
use Rattle.std.specs.Prelude.{slice_set}
use Rattle.std.proofs.Math.ListN.{get_or-map}
use Rattle.std.proofs.lemmas.List.{length-map, map-set, take_all, drop_all}
use Rattle.std.proofs.lemmas.List.Edits.{map_over_more}

-- what is seen of an item
seen : {X Y : Type 0} (f : X → Y) (xs : List X) (i : ℕ) (x : X) → x ≡ get_or xs i x → f x ≡ get_or (map f xs) i (f x)
seen f xs i x e = ap f e ∙ sym (get_or-map f xs i x)

-- an item that is not yet changed
same_item : {X : Type 0} (f : X → X) (old : List X) (i : ℕ) (x : X) → i < length old →
    get_or (map f (take i old) ++ drop i old) i x ≡ get_or old i x
same_item f [] i x lt = absurd (omega arith)
same_item f (y ∷ old) zero x lt = refl
same_item f (y ∷ old) (suc i) x lt = same_item f old i x (omega arith)

-- the first i items are changed, and the others are as they were
pub record AreChanged {X Y : Type 0} (view : X → Y) (f : Y → Y) (i : ℕ) (old now : List X) : Type 0 where
  pub same : length now ≡ length old
  pub so_far : map view now ≡ map f (take i (map view old)) ++ drop i (map view old)

-- none yet
pub changed-none : {X Y : Type 0} (view : X → Y) (f : Y → Y) (old : List X) → AreChanged view f 0 old old
changed-none view f old = record { same = refl; so_far = refl }

-- one more
pub changed-more : {X Y : Type 0} (view : X → Y) (f : Y → Y) (i : ℕ) (old now : List X) (x y : X) → i < length now →
    x ≡ get_or now i x → view y ≡ f (view (get_or now i x)) → AreChanged view f i old now →
    AreChanged view f (i + 1) old (slice_set now i y)
changed-more view f i old now x y lt e is h =
    let olds : List _ = map view old in
    let small : i < length olds = omega (arith, lt, h.same, length-map old view) in
    record {
      same = length-set now i y ∙ h.same;
      so_far =
          map-set view now i y
          ∙ (ap (slice_set (map view now) i) (is ∙ ap (λ z. f (view z)) (sym e))
          ∙ map_over_more f olds (map view now) i (view x) small h.so_far (seen view now i x e));
    }

-- all of them
pub changed-all : {X Y : Type 0} (view : X → Y) (f : Y → Y) (i : ℕ) (old now : List X) → length now ≤ i →
    AreChanged view f i old now → map view now ≡ map f (map view old)
changed-all view f i old now le h =
    let olds : List _ = map view old in
    let past : length olds ≤ i = omega (arith, le, h.same, length-map old view) in
    h.so_far ∙ (ap₂ (λ xs ys. map f xs ++ ys) (take_all i olds past) (drop_all i olds past) ∙ append-nil (map f olds))

-- what is seen of an item that is not yet changed
pub unchanged-item : {X Y : Type 0} (view : X → Y) (f : Y → Y) (i : ℕ) (old now : List X) (x : X) → i < length now →
    x ≡ get_or now i x → AreChanged view f i old now → view (get_or now i x) ≡ get_or (map view old) i (view x)
unchanged-item view f i old now x lt e h =
    let small : i < length (map view old) = omega (arith, lt, h.same, length-map old view) in
    ap view (sym e)
    ∙ (seen view now i x e
    ∙ (ap (λ xs. get_or xs i (view x)) h.so_far ∙ same_item f (map view old) i (view x) small))
