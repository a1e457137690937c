-- The factors of the steps of a tree's root can be cut into lanes.
use Rattle.std.proofs.Common.{◌≡◌, ◌≢◌, ℕ, zero, suc, ◌*◌, ◌/◌, ◌%◌, ◌<◌, false, arith, refl, sym, ap, ◌∙◌, List, []}
use Rattle.std.proofs.Common.{◌∷◌, ◌++◌, if◌then◌else◌, subst, mul_comm, append_assoc}
use Rattle.std.specs.Prelude.{◌==◌, Option, None, Some}
use Rattle.std.specs.List.{flat_map}
use Rattle.std.proofs.Math.Nat.{div-add-mod', zero-mul, suc-mul, mul-mod_right}
use Rattle.std.proofs.lemmas.Bool.Decides.{nat_tests}
use Rattle.std.proofs.lemmas.Grind.{flat_map-append}
use Rattle.smp_rewrite.specs.Smp as smp
use Rattle.smp_rewrite.specs.Smp.{within}
use Rattle.smp_rewrite.specs.Cut.{cut_factors, factors_of}
use Rattle.smp_rewrite.proofs.Factors.{rows_of}
use Rattle.smp_rewrite.proofs.Sized.{AreOfSize}
use Rattle.smp_rewrite.specs.Layout.Meaning.{core_size}
use Rattle.smp_rewrite.specs.Layout.Step.{PlainCore, piece, turns, twiddles, thomas_in, thomas_out, PlainStep}
use Rattle.smp_rewrite.specs.Layout.Step.{step}
use Rattle.operators.specs.declared.paths.Tensor.{Tensor}
use Rattle.operators.specs.declared.paths.Tensor.TheVariants.{Blocks, Columns}
use Rattle.operators.specs.Paths.Tensors.{Path, count_of, grown, size_under}
use Rattle.vec_rewrite.specs.declared.Deal.{Deal}
use Rattle.vec_rewrite.specs.declared.Grid.{Grid}
use Rattle.vec_rewrite.specs.Turning.{order_after}
use Rattle.vec_rewrite.proofs.Following.{IsWide, IsGridOf, BlockFollows, MoveFollows, AllFollow}

-- ---- lists

follow-append : (d : Deal) (o : Option Grid) (fs gs : List smp.PlainFactor) → AllFollow d o fs →
    ((q : Option Grid) → AllFollow d q gs) → AllFollow d o (fs ++ gs)
follow-append d o [] gs h k = k o
follow-append d o (f ∷ fs) gs h k = (h.0, follow-append d (order_after d f) fs gs h.1 k)

-- steps under this tensor
abbrev pub HasHead : Tensor → Path → Type 0
HasHead t [] = ⊥
HasHead t (u ∷ path) = u ≡ t

abbrev pub HaveHead : Tensor → List PlainStep → Type 0
HaveHead t [] = Unit {0}
HaveHead t (s ∷ ss) = HasHead t s.path × HaveHead t ss

-- ---- numbers

pub wide_from : (v k : ℕ) → k % v ≡ 0 → IsWide v k
wide_from v k e = sym (div-add-mod' k v) ∙ omega (arith, e)

pub wide_part : (v line k : ℕ) → k % line ≡ 0 → line % v ≡ 0 → IsWide v k
wide_part v line k e h =
    let part : line ≡ line / v * v = wide_from v line h in
    let whole : k ≡ v * (line / v * (k / line)) = wide_from line k e ∙ ap (λ n. k / line * n) part ∙ omega arith in
    wide_from v k (ap (λ n. n % v) whole ∙ mul-mod_right v (line / v * (k / line)))

no_unit : (k v : ℕ) → 1 < v → k * v ≡ 1 → ⊥
no_unit zero v h e = absurd (let none = zero-mul v in omega (arith, e, none))
no_unit (suc k) v h e = absurd (let more = suc-mul k v in omega (arith, e, more, h))

pub not_one : (v w : ℕ) → 1 < v → IsWide v w → w ≢ 1
not_one v w h wide e = no_unit (w / v) v h (sym wide ∙ e)

pub unequal : (n : ℕ) → n ≢ 1 → (n == 1) ≡ false
unequal n h = grind (arith, nat_tests)

pub within-wide : (t : Tensor) (path : Path) → count_of t ≢ 1 → within t path ≡ t ∷ path
within-wide t path h = ap (λ b. if b then path else t ∷ path) (unequal (count_of t) h)

-- ---- the factors of the root's steps, for r rows and s columns, of which each processor has u rows

pub record AreLaned (d : Deal) (n r s u : ℕ) : Type 0 where
  pub size : s * r ≡ n
  pub positive : 0 < r
  pub rows : IsWide d.lanes u
  pub columns : IsWide d.lanes s
  pub block : d.block / u ≡ s
  pub right : (path : Path) (core : PlainCore) → factors_of n d.procs (step (Blocks r ∷ path) core)
      ≡ smp.blocks (step (Blocks u ∷ path) core) ∷ []
  pub left : (path : Path) (core : PlainCore) (o : Option Grid) →
      AllFollow d o (factors_of n d.procs (step (Columns s ∷ path) core))
  pub root : (o : Option Grid) (fs : List smp.PlainFactor) → AllFollow d (Some (record { groups = u / d.lanes; tiles = s / d.lanes })) fs → AllFollow d o (factors_of n d.procs (step [] (turns r s)) ++ fs)
  pub diagonal : (w : ℕ) (o : Option Grid) → AllFollow d o (factors_of n d.procs (step [] (twiddles r s w)))

-- the groups of the root's right part
abbrev pub grid : Deal → ℕ → Grid
grid d u = record { groups = u / d.lanes; tiles = d.block / u / d.lanes }

right-one : (d : Deal) (n r s u : ℕ) (o : Option Grid) (path : Path) (core : PlainCore) (fs : List smp.PlainFactor) →
    AreLaned d n r s u → HasHead (Blocks r) path → size_under path (core_size core) ≡ n →
    IsGridOf o (grid d u) → AllFollow d (Some (grid d u)) fs →
    AllFollow d o (factors_of n d.procs (step path core) ++ fs)
right-one d n r s u o [] core fs h head e g follow = absurd head
right-one d n r s u o (t ∷ path) core fs h head e g follow =
    let m = size_under path (core_size core) in
    let whole : r * m ≡ n = subst (λ t. grown t m ≡ n) head e in
    let size : m ≡ s = sym (rows_of n m r h.positive (mul_comm m r ∙ whole)) ∙ rows_of n s r h.positive h.size in
    let tall : m ≡ d.block / u / d.lanes * d.lanes = size ∙ h.columns ∙ ap (λ k. k / d.lanes * d.lanes) (sym h.block) in
    let main : AllFollow d o (factors_of n d.procs (step (Blocks r ∷ path) core) ++ fs) = subst (λ gs. AllFollow d o (gs ++ fs)) (sym (h.right path core)) ((h.rows, tall, g), follow) in
    subst (λ t. AllFollow d o (factors_of n d.procs (step (t ∷ path) core) ++ fs)) (sym head) main

pub right-all : (d : Deal) (n r s u : ℕ) (o : Option Grid) (ss : List PlainStep) (fs : List smp.PlainFactor) →
    AreLaned d n r s u → HaveHead (Blocks r) ss → AreOfSize n ss →
    IsGridOf o (grid d u) → ((q : Option Grid) → AllFollow d q fs) →
    AllFollow d o (flat_map (factors_of n d.procs) ss ++ fs)
right-all d n r s u o [] fs h heads sized g rest = rest o
right-all d n r s u o (x ∷ ss) fs h heads sized g rest =
    let others = flat_map (factors_of n d.procs) ss in
    let next : AllFollow d (Some (grid d u)) (others ++ fs) = right-all d n r s u (Some (grid d u)) ss fs h heads.1 sized.1 refl rest in
    subst (AllFollow d o) (sym (append_assoc (factors_of n d.procs x) others fs)) (right-one d n r s u o x.path x.core (others ++ fs) h heads.0 sized.0 g next)

left-one : (d : Deal) (n r s u : ℕ) (o : Option Grid) (path : Path) (core : PlainCore) → AreLaned d n r s u →
    HasHead (Columns s) path → AllFollow d o (factors_of n d.procs (step path core))
left-one d n r s u o [] core h head = absurd head
left-one d n r s u o (t ∷ path) core h head = subst (λ t. AllFollow d o (factors_of n d.procs (step (t ∷ path) core))) (sym head) (h.left path core o)

pub left-all : (d : Deal) (n r s u : ℕ) (ss : List PlainStep) → AreLaned d n r s u → HaveHead (Columns s) ss →
    (o : Option Grid) → AllFollow d o (flat_map (factors_of n d.procs) ss)
left-all d n r s u [] h heads o = tt
left-all d n r s u (x ∷ ss) h heads o =
    follow-append d o (factors_of n d.procs x) (flat_map (factors_of n d.procs) ss) (left-one d n r s u o x.path x.core h heads.0) (left-all d n r s u ss h heads.1)

-- the root of a ct, and of a split, with the steps of its left part or without
pub ct-follows : (d : Deal) (n r s u w : ℕ) (right rest : List PlainStep) → AreLaned d n r s u →
    HaveHead (Blocks r) right → AreOfSize n right → HaveHead (Columns s) rest →
    AllFollow d None (flat_map (factors_of n d.procs) (step [] (turns r s)
    ∷ (right ++ (step [] (twiddles r s w) ∷ rest))))
ct-follows d n r s u w right rest h heads sized others =
    let tail = step [] (twiddles r s w) ∷ rest in
    let after : (q : Option Grid) → AllFollow d q (flat_map (factors_of n d.procs) tail) =
    λ q. follow-append d q (factors_of n d.procs (step [] (twiddles r s w))) (flat_map (factors_of n d.procs) rest) (h.diagonal w q) (left-all d n r s u rest h others) in
    let same : record { groups = u / d.lanes; tiles = s / d.lanes } ≡ grid d u = ap (λ k. record { groups = u / d.lanes; tiles = k / d.lanes }) (sym h.block) in
    h.root None (flat_map (factors_of n d.procs) (right ++ tail))
    (subst (AllFollow d (Some (record { groups = u / d.lanes; tiles = s / d.lanes }))) (sym (flat_map-append (factors_of n d.procs) right tail))
    (right-all d n r s u (Some (record { groups = u / d.lanes; tiles = s / d.lanes })) right (flat_map (factors_of n d.procs) tail) h heads sized same after))

pub split-follows : (d : Deal) (n r s u : ℕ) (right rest : List PlainStep) → AreLaned d n r s u →
    HaveHead (Blocks r) right → AreOfSize n right → HaveHead (Columns s) rest →
    AllFollow d None (flat_map (factors_of n d.procs) (right ++ rest))
split-follows d n r s u right rest h heads sized others =
    subst (AllFollow d None) (sym (flat_map-append (factors_of n d.procs) right rest))
    (right-all d n r s u None right (flat_map (factors_of n d.procs) rest) h heads sized tt (left-all d n r s u rest h others))

-- ---- one processor, and several

picked : (n p : ℕ) (s : PlainStep) → p ≡ 1 → factors_of n p s ≡ smp.blocks s ∷ []
picked n p s e = ap (λ k. factors_of n k s) e

cut-picked : (n p : ℕ) (s : PlainStep) → p ≢ 1 → factors_of n p s ≡ cut_factors n p s.path s.core
cut-picked n p s h = ap (λ b. if b then smp.blocks s ∷ [] else cut_factors n p s.path s.core) (unequal p h)

pub laned_alone : (d : Deal) (n r s : ℕ) → d.procs ≡ 1 → s * r ≡ n → 0 < r → IsWide d.lanes r → IsWide d.lanes s →
    d.block / r ≡ s → AreLaned d n r s r
laned_alone d n r s one size positive rows columns block = record {
  size = size;
  positive = positive;
  rows = rows;
  columns = columns;
  block = block;
  right = λ path core. picked n d.procs (step (Blocks r ∷ path) core) one;
  left = λ path core o. subst (AllFollow d o) (sym (picked n d.procs (step (Columns s ∷ path) core) one)) (columns, tt);
  root = λ o fs h. subst (λ gs. AllFollow d o (gs ++ fs)) (sym (picked n d.procs (step [] (turns r s)) one)) ((rows, columns), h);
  diagonal = λ w o. subst (AllFollow d o) (sym (picked n d.procs (step [] (twiddles r s w)) one)) (tt, tt);
}

move-wide : (d : Deal) (w : ℕ) → 1 < d.lanes → IsWide d.lanes w → MoveFollows d (within (Columns w) [])
move-wide d w several wide = subst (MoveFollows d) (sym (within-wide (Columns w) [] (not_one d.lanes w several wide))) wide

block-wide : (d : Deal) (w : ℕ) (o : Option Grid) (path : Path) (core : PlainCore) → 1 < d.lanes → IsWide d.lanes w →
    BlockFollows d o (within (Columns w) path) core
block-wide d w o path core several wide = subst (λ path. BlockFollows d o path core) (sym (within-wide (Columns w) path (not_one d.lanes w several wide))) wide

left-cut : (d : Deal) (n s : ℕ) (o : Option Grid) (path : Path) (core : PlainCore) → 1 < d.lanes → IsWide d.lanes s →
    IsWide d.lanes (s / d.procs) → AllFollow d o (cut_factors n d.procs (Columns s ∷ path) core)
left-cut d n s o path (piece t) several wide part =
    (move-wide d (s / d.procs) several part, (block-wide d (s / d.procs) None path (piece t) several part, (move-wide d (s / d.procs) several part, tt)))
left-cut d n s o path (turns q r) several wide part = (wide, tt)
left-cut d n s o path (twiddles q r w) several wide part = (tt, tt)
left-cut d n s o path (thomas_in q r) several wide part = (wide, tt)
left-cut d n s o path (thomas_out q r) several wide part = (wide, tt)

pub laned_among : (d : Deal) (n r s : ℕ) → d.procs ≢ 1 → 1 < d.lanes → s * r ≡ n → 0 < r →
    IsWide d.lanes (r / d.procs) → IsWide d.lanes s → IsWide d.lanes (s / d.procs) → d.block / (r / d.procs) ≡ s →
    AreLaned d n r s (r / d.procs)
laned_among d n r s many several size positive rows columns part block = record {
  size = size;
  positive = positive;
  rows = rows;
  columns = columns;
  block = block;
  right = λ path core. cut-picked n d.procs (step (Blocks r ∷ path) core) many ∙ ap (λ path. smp.blocks (step path core) ∷ []) (within-wide (Blocks (r / d.procs)) path (not_one d.lanes (r / d.procs) several rows));
  left = λ path core o. subst (AllFollow d o) (sym (cut-picked n d.procs (step (Columns s ∷ path) core) many)) (left-cut d n s o path core several columns part);
  root = λ o fs h. subst (λ gs. AllFollow d o (gs ++ fs)) (sym (cut-picked n d.procs (step [] (turns r s)) many)) (move-wide d (r / d.procs) several rows, ((rows, columns), h));
  diagonal = λ w o. subst (AllFollow d o) (sym (cut-picked n d.procs (step [] (twiddles r s w)) many)) (tt, tt);
}
