-- Places within the limits: what simplification asks of them.
use Rattle.std.proofs.Common.{◌≡◌, ℕ, zero, suc, ◌+◌, ◌^◌, ◌<◌, ◌≤◌, Bool, true, false, arith, refl, sym, ap, ap₂, ◌∙◌}
use Rattle.std.proofs.Common.{List, [], ◌∷◌, ◌++◌, length, subst}
use Rattle.std.specs.Prelude.{map, take, get_or, ◌&&◌, nat_lt}
use Rattle.std.specs.List.{list_all}
use Rattle.std.proofs.lemmas.Bool.Decides.{nat_tests}
use Rattle.std.proofs.lemmas.List.{map-append, take_more}
use Rattle.std.proofs.lemmas.Bool.{and_left}
use Rattle.index_fn.specs.Mapping.{Mapping}
use Rattle.perm_algebra.specs.Affine.{Sum, constant, variable, remainder, quotient, IsSound, top, value, simplified}
use Rattle.perm_algebra.specs.Fits.{InRange, IsAffine, Stays}
use Rattle.perm_algebra.specs.Room.{HasCounts, IsReady, has_room}
use Rattle.perm_algebra.proofs.AffineLaws.{value-le-top}
use Rattle.sigma_spl.specs.Merge.{is_limited, are_small, is_divided, total}
use Rattle.sigma_spl.proofs.Limited.{tested}
use Rattle.sigma_spl.proofs.Walk.{and-left, and-right}
use Rattle.loop_nests.specs.Ready.{AreReady}
use Rattle.loop_nests.specs.Limits.Leading.{can_lead}

word-true : (n : ℕ) → nat_lt n (2 ^ 64) ≡ true → n < 2 ^ 64
word-true n h = grind (arith, nat_tests)

-- what is divided fits a word
divided-word : (cs : ℕ → ℕ) (f : ℕ) (of : Sum) (m : ℕ) → is_divided cs f of m ≡ true → top of cs < 2 ^ 64
divided-word cs f of m h =
    let first = nat_lt 0 f && nat_lt f (2 ^ 32) in
    let second = nat_lt 0 m && nat_lt m (2 ^ 32) in
    word-true (top of cs) (and-right (nat_lt (total of) (2 ^ 32)) _ (and-right second _ (and-right first _ h)))

stays : (cs : ℕ → ℕ) (e : Sum) (n : ℕ) → IsSound e → top e cs < n → (vs : ℕ → ℕ) → InRange cs vs → value e vs < n
unfolding InRange
stays cs e n sound low vs range = let bound = value-le-top e vs cs sound range in omega (arith, bound, low)

pub affine : (k : ℕ) (cs : ℕ → ℕ) (e : Sum) → HasCounts k e → IsSound e → are_small cs e ≡ true → IsAffine k cs e
affine k cs (constant c) counts sound small = tt
affine k cs (variable f d rest) counts sound small = (counts.0, affine k cs rest counts.1 sound (and-right (nat_lt f (2 ^ 32)) _ small))
affine k cs (remainder f of m rest) counts sound small =
    let outer = is_divided cs f of m in
    let inner = and-right outer _ small in
    (sound.0, affine k cs of counts.0 sound.1 (and-left (are_small cs of) _ inner), stays cs of (2 ^ 64) sound.1 (divided-word cs f of m (and-left outer _ small)), affine k cs rest counts.1 sound.2 (and-right (are_small cs of) _ inner))
affine k cs (quotient f of m rest) counts sound small =
    let outer = is_divided cs f of m in
    let inner = and-right outer _ small in
    (sound.0, affine k cs of counts.0 sound.1 (and-left (are_small cs of) _ inner), stays cs of (2 ^ 64) sound.1 (divided-word cs f of m (and-left outer _ small)), affine k cs rest counts.1 sound.2 (and-right (are_small cs of) _ inner))

-- a place in an array of n words, and what may be simplified there
pub record IsPlace (n k : ℕ) (cs : ℕ → ℕ) (e : Sum) : Type 0 where
  pub is_affine : IsAffine k cs e
  pub fits : Stays cs (value e)
  pub below : (vs : ℕ → ℕ) → InRange cs vs → value e vs < n

pub place : (room n k : ℕ) (cs : ℕ → ℕ) (e : Sum) → n ≤ 2 ^ 20 → IsReady k e → is_limited room n cs e ≡ true →
    IsPlace n k cs e
place room n k cs e low ready within =
    let small = tested room n cs e within in
    let below = stays cs e n ready.sound small.top in
    record { is_affine = affine k cs e ready.counts ready.sound small.small; fits = λ vs range. (let h = below vs range in omega (arith, h, low)); below = below }

-- ---- lists of sums

ready-at : (k : ℕ) (A : Type 0) (view : A → Sum) (xs : List A) (i : ℕ) (x : A) → AreReady k (map view xs) →
    i < length xs → x ≡ get_or xs i x → IsReady k (view x)
ready-at k A view [] i x h below is = absurd (omega (arith, below))
ready-at k A view (y ∷ ys) zero x h below is = subst (λ z. IsReady k (view z)) (sym is) h.0
ready-at k A view (y ∷ ys) (suc i) x h below is = ready-at k A view ys i x h.1 (omega (arith, below)) is

pub all-at : (A B : Type 0) (g : B → Bool) (view : A → B) (xs : List A) (i : ℕ) (x : A) →
    list_all g (map view xs) ≡ true → i < length xs → x ≡ get_or xs i x → g (view x) ≡ true
all-at A B g view [] i x h below is = absurd (omega (arith, below))
all-at A B g view (y ∷ ys) zero x h below is = ap (λ z. g (view z)) is ∙ and-left (g (view y)) _ h
all-at A B g view (y ∷ ys) (suc i) x h below is = all-at A B g view ys i x (and-right (g (view y)) _ h) (omega (arith, below)) is

pub place-at : (room n k : ℕ) (cs : ℕ → ℕ) (A : Type 0) (view : A → Sum) (xs : List A) (i : ℕ) (x : A) → n ≤ 2 ^ 20 →
    AreReady k (map view xs) → list_all (is_limited room n cs) (map view xs) ≡ true → i < length xs →
    x ≡ get_or xs i x → IsPlace n k cs (view x)
place-at room n k cs A view xs i x low ready within below is = place room n k cs (view x) low (ready-at k A view xs i x ready below is) (all-at A Sum (is_limited room n cs) view xs i x within below is)

-- ---- tests over a list

false-right : (a b : Bool) → b ≡ false → (a && b) ≡ false
false-right true b h = h
false-right false b h = refl

-- the test fails at one
pub fails-at : (A B : Type 0) (g : B → Bool) (view : A → B) (xs : List A) (i : ℕ) (x : A) → i < length xs →
    x ≡ get_or xs i x → g (view x) ≡ false → list_all g (map view xs) ≡ false
fails-at A B g view [] i x below is h = absurd (omega (arith, below))
fails-at A B g view (y ∷ ys) zero x below is h = and_left (g (view y)) _ (ap (λ z. g (view z)) (sym is) ∙ h)
fails-at A B g view (y ∷ ys) (suc i) x below is h = false-right (g (view y)) _ (fails-at A B g view ys i x (omega (arith, below)) is h)

all-append : (B : Type 0) (g : B → Bool) (xs ys : List B) → list_all g xs ≡ true → list_all g ys ≡ true →
    list_all g (xs ++ ys) ≡ true
all-append B g [] ys h k = k
all-append B g (x ∷ xs) ys h k = both (g x) _ (and-left (g x) _ h) (all-append B g xs ys (and-right (g x) _ h) k) where
  both : (a b : Bool) → a ≡ true → b ≡ true → (a && b) ≡ true
  both true b h k = k
  both false b h k = absurd (cc)

-- the test holds of one more
pub all-more : (A B : Type 0) (g : B → Bool) (view : A → B) (xs : List A) (i : ℕ) (x : A) → i < length xs →
    x ≡ get_or xs i x → list_all g (map view (take i xs)) ≡ true → g (view x) ≡ true →
    list_all g (map view (take (i + 1) xs)) ≡ true
all-more A B g view xs i x below is h k =
    subst (λ ys. list_all g ys ≡ true) (sym (ap (map view) (take_more xs i x below) ∙ map-append view (take i xs) (get_or xs i x ∷ [])))
    (all-append B g (map view (take i xs)) _ h (ap (λ b. b && true) (ap (λ z. g (view z)) (sym is) ∙ k)))

-- one item more, which is what the next one gives
pub mapped-more : (A C X Y : Type 0) (f : A → X) (g : Y → X) (h : C → Y) (before after : List A) (a : A) (bs : List C)
    (i : ℕ) (b : C) → i < length bs → b ≡ get_or bs i b → after ≡ before ++ a ∷ [] →
    map f before ≡ map g (map h (take i bs)) → f a ≡ g (h b) →
    map f after ≡ map g (map h (take (i + 1) bs))
mapped-more A C X Y f g h before after a bs i b low item is begun same =
    ap (map f) is
    ∙ map-append f before (a ∷ [])
    ∙ ap₂ (λ xs x. xs ++ x ∷ []) begun (same ∙ ap (λ y. g (h y)) item)
    ∙ sym (ap (λ ys. map g (map h ys)) (take_more bs i b low) ∙ ap (map g) (map-append h (take i bs) (get_or bs i b ∷ [])) ∙ map-append g (map h (take i bs)) (h (get_or bs i b) ∷ []))

-- one item more, of which the test holds
pub grown : (A C X Y : Type 0) (test : Y → Bool) (f : A → X) (g : Y → X) (h : C → Y) (before after : List A) (a : A)
    (bs : List C) (i : ℕ) (b : C) → i < length bs → b ≡ get_or bs i b → after ≡ before ++ a ∷ [] →
    (list_all test (map h (take i bs)) ≡ true) × (map f before ≡ map g (map h (take i bs))) → test (h b) ≡ true →
    f a ≡ g (h b) →
    (list_all test (map h (take (i + 1) bs)) ≡ true) × (map f after ≡ map g (map h (take (i + 1) bs)))
grown A C X Y test f g h before after a bs i b below item is begun holds same =
    (all-more C Y test h bs i b below item begun.0 holds, mapped-more A C X Y f g h before after a bs i b below item is begun.1 same)

-- the place that a function makes of one, within the limits
pub leads : (room n : ℕ) (cs : ℕ → ℕ) (f : Mapping) (e s : Sum) → has_room cs f e ≡ true →
    is_limited room n cs s ≡ true → s ≡ simplified cs f e → can_lead room n cs f e ≡ true
leads room n cs f e s roomy within is = ap (λ b. b && is_limited room n cs (simplified cs f e)) roomy ∙ ap (is_limited room n cs) (sym is) ∙ within
