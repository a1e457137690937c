-- Passes of two parts can stand side by side.
use Rattle.std.proofs.Common.{◌≡◌, ℕ, ◌+◌, ◌^◌, ◌<◌, ◌≤◌, true, arith, refl, sym, ap, ap₂, ◌∙◌, List, [], ◌∷◌}
use Rattle.std.proofs.Common.{◌++◌, length, inl, inr, subst, length-append, append-nil, Option, Some, None}
use Rattle.std.specs.Prelude.{map, reverse, Vec, ◌&&◌}
use Rattle.std.specs.List.{list_all}
use Rattle.std.proofs.lemmas.Bool.{cases_eq, and_from}
use Rattle.std.proofs.lemmas.Bool.Decides.{nat_tests}
use Rattle.std.proofs.lemmas.List.{map-append, reverse-append, reverse-reverse}
use Rattle.index_fn.specs.Index.{mapping_of}
use Rattle.index_fn.specs.declared.Index.{Index}
use Rattle.loop_nests.specs.Places.Views.{waiting_of}
use Rattle.perm_algebra.specs.Affine.{Sum, constant, variable, remainder, quotient, added}
use Rattle.perm_algebra.specs.Room.{constant_of}
use Rattle.sigma_spl.specs.Limits.{AreSeveral, AreWithin}
use Rattle.sigma_spl.specs.Merge.{is_limited, is_multiplier_within, is_within, items_in, lifted, limits_of, new_nest}
use Rattle.sigma_spl.specs.Merge.{one_loop, renumbered, renumbered_places}
use Rattle.sigma_spl.specs.Nest.{PlainMultiplier, PlainNest}
use Rattle.sigma_spl.specs.declared.nest.Nest.{Nest}
use Rattle.sigma_spl.specs.Work.{copy}
use Rattle.sigma_spl.proofs.Walk.{and-left, and-right}
use Rattle.sigma_spl.proofs.Within.{constant-small, limited}
use Rattle.sigma_spl.proofs.Limited.{both-within}
use Rattle.operators.specs.declared.paths.Tensor.TheVariants.{Blocks}
use Rattle.operators.specs.Paths.Tensors.{Path, size_under}
use Rattle.loop_nests.specs.Ready.{AreReadyPasses, IsReadyNest, IsReadyPass}
use Rattle.loop_nests.specs.Lifted.{AllFit, AllLift, AreLifted, AreRaised, CanStand, SumsFit, behind}
use Rattle.loop_nests.specs.Parts.{IsPart}
use Rattle.loop_nests.specs.Views.{from_last, plain_pass, plain_passes}
use Rattle.std.proofs.Common.{Global}
use Rattle.loop_nests.proofs.Items.{low-of, variable-item}
use Rattle.loop_nests.proofs.Lifting.{can-lift}

-- ---- copies

abbrev copies : Path → PlainNest
copies path = new_nest path (copy 1) (items_in (copy 1) (length path))

record IsPlain (k : ℕ) (z : PlainNest) : Type 0 where
  within : is_within 64 k (z ∷ []) ≡ true
  ready : IsReadyNest z

copies-plain : (k : ℕ) → 0 < k → k ≤ 2 ^ 20 → IsPlain k (copies (one_loop k))
copies-plain k some high =
    elim (cases_eq k 1) [
      | inl one ↦
          let is : one_loop k ≡ [] = grind (arith, nat_tests) in
          let item = and_from _ _ (limited 64 k (limits_of (copies [])) (constant 0) (constant-small 64 k (limits_of (copies [])) 0 some high)) refl in
          subst (λ p. IsPlain k (copies p)) (sym is)
          (record { within = both-within _ _ item item; ready = record { words = tt; gathers = (record { counts = tt; sound = tt }, tt); scatters = (record { counts = tt; sound = tt }, tt); multiplier = tt } })
      | inr several ↦
          let is : one_loop k ≡ Blocks k ∷ [] = grind (arith, nat_tests) in
          let cs : ℕ → ℕ = limits_of (copies (Blocks k ∷ [])) in
          let small = variable-item k cs 0 (omega (arith, some, several)) refl in
          let item = and_from _ _ (limited 64 k cs (variable 1 0 (constant 0)) small) refl in
          subst (λ p. IsPlain k (copies p)) (sym is)
          (record {
            within = both-within _ _ item item;
            ready = record { words = tt; gathers = (record { counts = (omega arith, tt); sound = tt }, tt); scatters = (record { counts = (omega arith, tt); sound = tt }, tt); multiplier = tt };
          })
    ]

-- ---- passes of a part

module _ (room part n before : ℕ) (path : Path) (several : AreSeveral path) (some : 0 < n)
    (high : size_under path n ≤ 2 ^ 20) (fits : before + part ≤ n) where
  lift-all : (zs : List PlainNest) → is_within room part zs ≡ true → IsReadyPass zs → AllLift path n before zs
  lift-all [] h ready = tt
  lift-all (z ∷ zs) h ready =
      let here = (list_all (is_limited room part (limits_of z)) z.gathers && list_all (is_limited room part (limits_of z)) z.scatters) && is_multiplier_within room (limits_of z) z.multiplier in (
        can-lift room part n before path z several some high fits (and_from here true (and-left here _ h) refl) ready.0,
        lift-all zs (and-right here _ h) ready.1,
      )

  lift-passes : (ps : List (List PlainNest)) → AreWithin room part ps → AreReadyPasses ps → AreLifted path n before ps
  lift-passes [] h ready = tt
  lift-passes (zs ∷ ps) h ready = (lift-all zs h.0 ready.0, lift-passes ps h.1 ready.1)

pub first_lifted : (n k : ℕ) (path : Path) (ps : List (List PlainNest)) → AreSeveral path → 0 < n →
    size_under path (n + k) ≤ 2 ^ 20 → IsPart n ps → AreLifted path (n + k) 0 ps
first_lifted n k path ps several some high h = lift-passes h.room n (n + k) 0 path several (omega (arith, some)) high (omega arith) ps h.within h.ready

pub second_lifted : (n k : ℕ) (path : Path) (ps : List (List PlainNest)) → AreSeveral path → 0 < n →
    size_under path (n + k) ≤ 2 ^ 20 → IsPart k ps → AreLifted path (n + k) n ps
second_lifted n k path ps several some high h = lift-passes h.room k (n + k) n path several (omega (arith, some)) high (omega arith) ps h.within h.ready

pub can_stand : (n k : ℕ) (path : Path) → AreSeveral path → (0 < n) × (0 < k) → size_under path (n + k) ≤ 2 ^ 20 →
    CanStand path n k
can_stand n k path several some high =
    let low = low-of path (n + k) several high in
    let left = copies-plain n some.0 (omega (arith, low)) in
    let right = copies-plain k some.1 (omega (arith, low)) in
    record {
      left = (some.0, omega (arith, low));
      right = (some.1, omega (arith, low));
      first = (can-lift 64 n (n + k) 0 path (copies (one_loop n)) several (let a = some.0 in omega (arith, a)) high (omega arith) left.within left.ready, tt);
      second = (can-lift 64 k (n + k) n path (copies (one_loop k)) several (let a = some.0 in omega (arith, a)) high (omega arith) right.within right.ready, tt);
    }

-- ---- from the end

-- the last of a list is the first of the other way round
pub last_first : (xs ys : List (Vec Nest Global)) (x : Vec Nest Global) → xs ≡ ys ++ x ∷ [] →
    from_last xs ≡ plain_pass x ∷ from_last ys
last_first xs ys x is = ap from_last is ∙ ap plain_passes (reverse-append ys (x ∷ []))

-- nothing came from the end
pub same-first : (xs ys : List (Vec Nest Global)) → xs ≡ ys ++ [] → from_last xs ≡ from_last ys
same-first xs ys is = ap from_last (is ∙ append-nil ys)

-- the other way round twice
pub in_turn : (xs : List (Vec Nest Global)) (ps : List (List PlainNest)) → from_last xs ≡ ps →
    plain_passes xs ≡ reverse ps
in_turn xs ps is = sym (ap plain_passes (reverse-reverse xs)) ∙ each (reverse xs) ∙ ap reverse is
  where
    each : (qs : List (Vec Nest Global)) → plain_passes (reverse qs) ≡ reverse (plain_passes qs)
    each [] = refl
    each (q ∷ qs) =
        ap plain_passes (reverse-append (q ∷ []) qs)
        ∙ map-append plain_pass (reverse qs) (q ∷ [])
        ∙ ap (λ rs. rs ++ plain_pass q ∷ []) (each qs)
        ∙ sym (reverse-append (plain_pass q ∷ []) (plain_passes qs))

-- the passes of a longer list are the latest
pub more_passes : (xs ys zs : List (Vec Nest Global)) → xs ≡ ys ++ zs → from_last xs ≡ from_last zs ++ from_last ys
more_passes xs ys zs is =
    ap from_last is ∙ ap plain_passes (reverse-append ys zs) ∙ map-append plain_pass (reverse zs) (reverse ys)

-- the last of those that wait is the latest
pub last_waits : (xs ys : List Index) (x : Index) → xs ≡ ys ++ x ∷ [] → waiting_of xs ≡ mapping_of x ∷ waiting_of ys
last_waits xs ys x is = ap waiting_of is ∙ ap (map mapping_of) (reverse-append ys (x ∷ []))

pub shorter : (A : Type 0) (xs ys : List A) (x : A) → xs ≡ ys ++ x ∷ [] → length ys + 1 ≡ length xs
shorter A xs ys x is = sym (ap length is ∙ length-append ys (x ∷ []))

pub as-long : (A : Type 0) (xs ys : List A) → xs ≡ ys ++ [] → length ys ≡ length xs
as-long A xs ys is = sym (ap length (is ∙ append-nil ys))

-- ---- under no tensors

as-it-is : (e : Sum) → renumbered 0 e ≡ e
as-it-is (constant c) = refl
as-it-is (variable f d rest) = ap₂ (λ a b. variable f a b) (let is : d + 0 ≡ d = omega arith in is) (as-it-is rest)
as-it-is (remainder f of m rest) = ap₂ (λ a b. remainder f a m b) (as-it-is of) (as-it-is rest)
as-it-is (quotient f of m rest) = ap₂ (λ a b. quotient f a m b) (as-it-is of) (as-it-is rest)

same-sums : (before : ℕ) (es : List Sum) → map (added (constant before)) es
    ≡ map (λ e. added (constant before) (renumbered 0 e)) es
same-sums before [] = refl
same-sums before (e ∷ es) = ap₂ (λ (x : Sum) xs. x ∷ xs) (ap (added (constant before)) (sym (as-it-is e))) (same-sums before es)

same-numbers : (es : List Sum) → es ≡ map (renumbered 0) es
same-numbers [] = refl
same-numbers (e ∷ es) = ap₂ (λ (x : Sum) xs. x ∷ xs) (sym (as-it-is e)) (same-numbers es)

same-factors : (o : Option PlainMultiplier) → o ≡ renumbered_places 0 o
same-factors None = refl
same-factors (Some d) = ap (λ es. Some (record { factors = d.factors; places = es })) (same-numbers d.places)

pub behind-lifted : (path : Path) (n before : ℕ) (zs : List PlainNest) → length path ≡ 0 →
    map (behind before) zs ≡ map (lifted path n before) zs
behind-lifted (t ∷ path) n before zs none = absurd (omega (arith, none))
behind-lifted [] n before zs none = each zs
  where
    each : (xs : List PlainNest) → map (behind before) xs ≡ map (lifted [] n before) xs
    each [] = refl
    each (z ∷ xs) =
        ap₂ (λ (y : PlainNest) ys. y ∷ ys)
        (ap (λ es. record { counts = z.counts; work = z.work; gathers = es; multiplier = z.multiplier; scatters = map (added (constant before)) z.scatters }) (same-sums before z.gathers)
        ∙ ap (λ o. record { counts = z.counts; work = z.work; gathers = map (λ e. added (constant before) (renumbered 0 e)) z.gathers; multiplier = o; scatters = map (added (constant before)) z.scatters }) (same-factors z.multiplier)
        ∙ ap (λ es. record { counts = z.counts; work = z.work; gathers = map (λ e. added (constant before) (renumbered 0 e)) z.gathers; multiplier = renumbered_places 0 z.multiplier; scatters = es }) (same-sums before z.scatters))
        (each xs)

sums-fit : (depth n before : ℕ) (es : List Sum) → AreRaised depth [] n before es → SumsFit before es
sums-fit depth n before [] h = tt
sums-fit depth n before (e ∷ es) h =
    (subst (λ x. before + constant_of x < 2 ^ 64) (as-it-is e) h.0.adds, sums-fit depth n before es h.1)

pub all-fit : (path : Path) (n before : ℕ) (zs : List PlainNest) → length path ≡ 0 → AllLift path n before zs →
    AllFit before zs
all-fit (t ∷ path) n before zs none h = absurd (omega (arith, none))
all-fit [] n before [] none h = tt
all-fit [] n before (z ∷ zs) none h =
    let depth = length z.counts + 2 in (
      sums-fit depth n before z.gathers h.0.gathers,
      sums-fit depth n before z.scatters h.0.scatters,
      all-fit [] n before zs none h.1,
    )
