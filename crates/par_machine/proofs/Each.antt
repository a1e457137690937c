-- Items that are changed one after another, and what all of them have.
use Rattle.std.proofs.Common.{◌≡◌, ℕ, zero, suc, ◌+◌, ◌<◌, List, [], ◌∷◌, length, map, take, drop, get_or, replicate}
use Rattle.std.proofs.Common.{refl, sym, ap, ap₂, ◌∙◌, subst, arith, add-one}
use Rattle.std.specs.Prelude.{slice_index_or, slice_set}

module _ {X : Type 0} (f : X → X) where
  -- the items before i are changed, and the others are as they were
  pub record AreChanged (i : ℕ) (old now : List X) : Type 0 where
    pub same : length now ≡ length old
    pub so_far : take i now ≡ map f (take i old)
    pub rest : drop i now ≡ drop i old

  heads : (x y : X) (xs ys : List X) → x ∷ xs ≡ y ∷ ys → x ≡ y
  heads x y xs ys e = cc

  tails : (x y : X) (xs ys : List X) → x ∷ xs ≡ y ∷ ys → xs ≡ ys
  tails x y xs ys e = cc

  front : (i : ℕ) (old now : List X) (x : X) → i < length now → x ≡ get_or now i x → take i now ≡ map f (take i old) →
      drop i now ≡ drop i old → take (suc i) (slice_set now i (f x)) ≡ map f (take (suc i) old)
  front i old [] x lt e so_far rest = absurd (omega arith)
  front zero [] (y ∷ now) x lt e so_far rest = absurd (omega (arith, ap length rest))
  front zero (o ∷ old) (y ∷ now) x lt e so_far rest = ap (λ z. f z ∷ []) (e ∙ heads y o now old rest)
  front (suc i) [] (y ∷ now) x lt e so_far rest = absurd (omega (arith, ap length so_far))
  front (suc i) (o ∷ old) (y ∷ now) x lt e so_far rest =
      ap₂ (λ z zs. z ∷ zs) (heads y (f o) (take i now) (map f (take i old)) so_far)
      (front i old now x (omega (arith, lt)) e (tails y (f o) (take i now) (map f (take i old)) so_far) rest)

  back : (i : ℕ) (old now : List X) (y : X) → i < length now → drop i now ≡ drop i old →
      drop (suc i) (slice_set now i y) ≡ drop (suc i) old
  back i old [] y lt rest = absurd (omega arith)
  back zero [] (x ∷ now) y lt rest = absurd (omega (arith, ap length rest))
  back zero (o ∷ old) (x ∷ now) y lt rest = tails x o now old rest
  back (suc i) [] (x ∷ now) y lt rest = back_none i now y (omega (arith, lt)) rest
    where
      back_none : (i : ℕ) (now : List X) (y : X) → i < length now → drop i now ≡ [] →
          drop (suc i) (slice_set now i y) ≡ []
      back_none i [] y lt rest = absurd (omega arith)
      back_none zero (x ∷ now) y lt rest = absurd (omega (arith, ap length rest))
      back_none (suc i) (x ∷ now) y lt rest = back_none i now y (omega (arith, lt)) rest
  back (suc i) (o ∷ old) (x ∷ now) y lt rest = back i old now y (omega (arith, lt)) rest

  set_length : (xs : List X) (i : ℕ) (y : X) → length (slice_set xs i y) ≡ length xs
  set_length [] i y = refl
  set_length (x ∷ xs) zero y = refl
  set_length (x ∷ xs) (suc i) y = ap suc (set_length xs i y)

  pub one_more : (i : ℕ) (old now : List X) (x y : X) → i < length now → x ≡ get_or now i x → y ≡ f (get_or now i x) →
      AreChanged i old now → AreChanged (i + 1) old (slice_set now i y)
  one_more i old now x y lt e is h =
      subst (λ z. AreChanged (i + 1) old (slice_set now i z)) (sym (is ∙ ap f (sym e)))
      (subst (λ k. AreChanged k old (slice_set now i (f x))) (sym (add-one i))
      (record {
        same = set_length now i (f x) ∙ h.same;
        so_far = front i old now x lt e h.so_far h.rest;
        rest = back i old now (f x) lt h.rest;
      }))

-- What all of them have

pub map_set : {X Y : Type 0} (f : X → Y) (xs : List X) (i : ℕ) (x : X) →
    map f (slice_set xs i x) ≡ slice_set (map f xs) i (f x)
map_set f [] i x = refl
map_set f (y ∷ xs) zero x = refl
map_set f (y ∷ xs) (suc i) x = ap (λ ys. f y ∷ ys) (map_set f xs i x)

pub map_replicate : {X Y : Type 0} (f : X → Y) (n : ℕ) (x : X) → map f (replicate n x) ≡ replicate n (f x)
map_replicate f zero x = refl
map_replicate f (suc n) x = ap (λ ys. f x ∷ ys) (map_replicate f n x)

pub map_map : {X Y : Type 0} (f : X → Y) (g : X → X) (xs : List X) → ((x : X) → f (g x) ≡ f x) →
    map f (map g xs) ≡ map f xs
map_map f g [] same = refl
map_map f g (x ∷ xs) same = ap₂ (λ y ys. y ∷ ys) (same x) (map_map f g xs same)

pub map_all : {X Y : Type 0} (f : X → Y) (g : X → X) (xs : List X) (y : Y) → ((x : X) → f (g x) ≡ y) →
    map f (map g xs) ≡ replicate (length xs) y
map_all f g [] y same = refl
map_all f g (x ∷ xs) y same = ap₂ (λ z zs. z ∷ zs) (same x) (map_all f g xs y same)

pub at_map : {X Y : Type 0} (f : X → Y) (xs : List X) (i : ℕ) (x : X) (y : Y) → i < length xs → x ≡ get_or xs i x →
    f x ≡ slice_index_or (map f xs) i y
at_map f [] i x y lt e = absurd (omega arith)
at_map f (z ∷ xs) zero x y lt e = ap f e
at_map f (z ∷ xs) (suc i) x y lt e = at_map f xs i x y (omega (arith, lt)) e
