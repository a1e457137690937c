-- The terms of trees are good terms, which do what they did.
use Rattle.sigma_lower.proofs.Words.{◌≡◌, ℕ, ◌*◌, ◌<◌, ◌≤◌, arith, refl, sym, ap, ap₂, ◌∙◌, List, subst, Mapping}
use Rattle.sigma_lower.proofs.Words.{Strided, ThomasIn, ThomasOut, ThomasBack, at, Target, IsMachine, gather, IsMove}
use Rattle.sigma_lower.proofs.Words.{IsGoodTerm, IsVector, AreBlocks, unit_below, back_of, term_on, tile}
use Rattle.sigma_lower.proofs.Words.{moves-no-words, embed, core_term, IsGoodCore, IsGood, lowered_core, factor_term}
use Rattle.sigma_lower.proofs.Words.{wrapped, within, core_size, step_on, PlainCore, piece, turns, thomas_in}
use Rattle.sigma_lower.proofs.Words.{thomas_out, PlainStep, Blocks, Columns, Path, copies_of, size_under}
use Rattle.sigma_lower.proofs.Words.{size_under-copies, PlainFactor, lanes, diagonals, move_before, move_after}
use Rattle.sigma_lower.proofs.Words.{factor_step, HasLanes, ◌+◌, ◌/◌, ◌%◌, div-add-mod', scatter-same, IsDiagonal}
use Rattle.sigma_lower.proofs.Words.{blocks-within, MovesVectors}
use Rattle.sigma_spl.specs.Term.{scat, nest}
use Rattle.sigma_lower.proofs.Moves.{back-wrapped, strided-move, in-move, out-move, move-wrapped}
use Rattle.sigma_lower.proofs.Parts.{tile-under}
use Rattle.sigma_lower.proofs.Trees.{piece-nests, core-lowers, flip}
use Rattle.sigma_lower.proofs.TreeTerms.Vectors.{HasVectors, vectors-blocks, vectors-columns, KeepsVectors}
use Rattle.sigma_lower.proofs.TreeTerms.Vectors.{keeps-wrapped}
use Rattle.sigma_lower.proofs.TreeTerms.Lowering.{factor_on, part-le}
use Rattle.sigma_lower.proofs.TreeTerms.Permuted.{gather-under}
use Rattle.vec_rewrite.specs.Vectors.{tiles}
use Rattle.std.proofs.lemmas.Nat.{mod-mul-add}
use Rattle.sigma_lower.specs.TreeTerms.Term as lowered
use Rattle.smp_rewrite.specs.Layout.Step as steps

-- ---- permutations under tensors move whole vectors, where the first columns are a multiple of the lanes

pub moves-vectors : (v : ℕ) (f : Mapping) → KeepsVectors v f → MovesVectors v (at f)
moves-vectors v f h =
    record {
      together = λ i j whole below.
          let place : i ≡ i / v * v = sym (div-add-mod' i v) ∙ omega (arith, whole) in
          let to = h (i / v) in
          let first : i ≡ i / v * v + 0 = omega (arith, place) in
          let here : at f i ≡ to.0 * v + 0 = ap (at f) first ∙ to.1 0 (omega (arith, below)) in
          ap (λ k. at f (k + j)) place ∙ to.1 j below ∙ omega (arith, here);
      begins = λ i whole some.
          let place : i ≡ i / v * v = sym (div-add-mod' i v) ∙ omega (arith, whole) in
          let first : i ≡ i / v * v + 0 = omega (arith, place) in
          let to = h (i / v) in
          ap (λ k. k % v) (ap (at f) first ∙ to.1 0 some) ∙ mod-mul-add to.0 v 0 some;
    }

-- a permutation under tensors that move vectors
pub laned-move : (v : ℕ) (path : Path) (n : ℕ) (f : Mapping) → 0 < size_under path n → HasVectors v path →
    IsMove 0 n f → IsMove v (size_under path n) (wrapped path n f)
laned-move v path n f positive vectors h =
    let all = move-wrapped path n f positive h in
    record {
      there = all.there;
      back = all.back;
      permutes = all.permutes;
      vectors = moves-vectors v (wrapped path n f) (keeps-wrapped v path n f vectors);
      back_vectors = subst (λ g. MovesVectors v (at g)) (sym (back-wrapped path n f)) (moves-vectors v (wrapped path n (back_of f)) (keeps-wrapped v path n (back_of f) vectors));
    }

-- The term of a factor is good, and does what it did
pub record Embeds (h : Target) (p v : ℕ) (f : PlainFactor) : Type 0 where
  pub good : IsGoodTerm v h.size (embed (factor_term p v f))
  pub on : (x : List ℕ) → IsVector h.modulus h.size x → term_on h.modulus h.size (embed (factor_term p v f)) x
      ≡ lowered.term_on h (factor_term p v f) x

-- permutations move whole vectors
abbrev MovesBy : ℕ → Path → PlainCore → Type 0
MovesBy v path (piece t) = Unit {0}
MovesBy v path (turns r s) = HasVectors v path
MovesBy v path (steps.twiddles r s w) = Unit {0}
MovesBy v path (thomas_in r s) = HasVectors v path
MovesBy v path (thomas_out r s) = HasVectors v path

vectors-move : (v : ℕ) (path : Path) (k : PlainCore) → HasVectors v path → MovesBy v path k
vectors-move v path (piece t) h = tt
vectors-move v path (steps.twiddles r s w) h = tt
vectors-move v path _ h = h

diagonal-moves : (v : ℕ) (path : Path) (k : PlainCore) → IsDiagonal k → MovesBy v path k
diagonal-moves v path (piece t) h = tt
diagonal-moves v path (steps.twiddles r s w) h = tt
diagonal-moves v path _ h = absurd h

pub embed-core : (path : Path) (k : PlainCore) → embed (lowered_core path k) ≡ core_term path k
embed-core path (piece t) = refl
embed-core path _ = refl

-- a scatter by what undoes a permutation
scat-good : (v : ℕ) (path : Path) (n : ℕ) (f : Mapping) → 0 < size_under path n → HasVectors v path →
    back_of (back_of f) ≡ f → IsMove 0 n f → IsMove 0 n (back_of f) →
    IsGoodTerm v (size_under path n) (scat (wrapped path n f))
scat-good v path n f some vectors twice h g =
    let there = laned-move v path n f some vectors h in
    let other = laned-move v path n (back_of f) some vectors g in
    (there, subst (IsMove v (size_under path n)) (sym (back-wrapped path n f)) other, flip (size_under path n) (at (wrapped path n f)) (at (back_of (wrapped path n f))) there.permutes)

core-good : (v : ℕ) (path : Path) (k : PlainCore) → 0 < size_under path (core_size k) → IsGoodCore k →
    core_size k ≤ 1048576 → MovesBy v path k → IsGoodTerm v (size_under path (core_size k)) (core_term path k)
core-good v path (piece w) some h low moves = (piece-nests v path w h, refl)
core-good v path (turns r s) some h low moves = laned-move v path (r * s) (Strided r s) some moves (strided-move r s (omega (arith, h.0)) (omega (arith, h.1)) low)
core-good v path (steps.twiddles r s w) some h low moves = refl
core-good v path (thomas_in r s) some h low moves = laned-move v path (r * s) (ThomasIn r s) some moves (in-move r s h)
core-good v path (thomas_out r s) some h low moves =
    let out = out-move r s h in
    let back : IsMove 0 (r * s) (ThomasBack r s (unit_below r s r) (unit_below s r s)) =
    record { vectors = moves-no-words _; back_vectors = moves-no-words _; there = out.back; back = out.there; permutes = flip (r * s) (at (ThomasOut r s)) _ out.permutes } in
    scat-good v path (r * s) (ThomasBack r s (unit_below r s r) (unit_below s r s)) some moves refl back out

-- the sizes of a step
pub record AreSizes (c : Target) (path : Path) (k : PlainCore) : Type 0 where
  pub some : 0 < size_under path (core_size k)
  pub high : size_under path (core_size k) ≤ 1048576
  pub low : core_size k ≤ 1048576

pub sizes-of : (c : Target) (s : PlainStep) → IsMachine c → IsGood c.size s → AreSizes c s.path s.core
sizes-of c s valid h =
    let size = h.size in
    let d = core_size s.core in
    let low : d ≤ c.size = part-le (copies_of s.path) d c.size (sym (size_under-copies s.path d) ∙ size) valid.size.0 in
    record { some = omega (arith, size, valid.size.0); high = omega (arith, size, valid.size.1); low = omega (arith, low, valid.size.1) }

core-embeds-good : (c : Target) (v : ℕ) (s : PlainStep) → IsMachine c → IsGood c.size s → MovesBy v s.path s.core →
    IsGoodTerm v c.size (embed (lowered_core s.path s.core))
core-embeds-good c v s valid h moves =
    let sizes = sizes-of c s valid h in
    subst (λ t. IsGoodTerm v c.size t) (sym (embed-core s.path s.core)) (subst (λ n. IsGoodTerm v n (core_term s.path s.core)) h.size (core-good v s.path s.core sizes.some h.core sizes.low moves))

core-embeds-on : (c : Target) (s : PlainStep) (x : List ℕ) → IsMachine c → IsGood c.size s →
    IsVector c.modulus c.size x → term_on c.modulus c.size (embed (lowered_core s.path s.core)) x
    ≡ step_on c.modulus s x
core-embeds-on c s x valid h v =
    let sizes = sizes-of c s valid h in
    let lower = core-lowers c s.path s.core sizes.some h.core sizes.high sizes.low in
    ap₂ (λ n t. term_on c.modulus n t x) (sym h.size) (embed-core s.path s.core) ∙ lower.on x (subst (λ n. IsVector c.modulus n x) (sym h.size) v)

core-embeds : (c : Target) (p v : ℕ) (f : PlainFactor) → IsMachine c → IsGood c.size (factor_step p v f) →
    factor_term p v f ≡ lowered_core (factor_step p v f).path (factor_step p v f).core →
    MovesBy v (factor_step p v f).path (factor_step p v f).core → Embeds c p v f
core-embeds c p v f valid h same moves =
    let s = factor_step p v f in
    record {
      good = subst (λ t. IsGoodTerm v c.size (embed t)) (sym same) (core-embeds-good c v s valid h moves);
      on = λ x w. ap (λ t. term_on c.modulus c.size (embed t) x) same ∙ core-embeds-on c s x valid h w ∙ sym (factor_on c p v f x h);
    }

-- a stride permutation after what comes before it
turned-embeds : (c : Target) (p v : ℕ) (path : Path) (r s : ℕ) → IsMachine c →
    IsGood c.size (factor_step p v (move_after (steps.step path (turns r s)))) →
    Embeds c p v (move_after (steps.step path (turns r s)))
turned-embeds c p v path r s valid h =
    let all = within (Columns v) path in
    let n = r * s in
    let sizes = sizes-of c (steps.step all (turns r s)) valid h in
    let turned = strided-move r s (omega (arith, h.core.0)) (omega (arith, h.core.1)) sizes.low in
    let back : IsMove 0 n (Strided s r) = record { vectors = moves-no-words _; back_vectors = moves-no-words _; there = turned.back; back = turned.there; permutes = flip n (at (Strided r s)) (at (Strided s r)) turned.permutes } in
    let good : IsGoodTerm v (size_under all n) (scat (wrapped all n (Strided s r))) = scat-good v all n (Strided s r) sizes.some (vectors-columns v path) refl back turned in
    record {
      good = subst (λ k. IsGoodTerm v k (scat (wrapped all n (Strided s r)))) h.size good;
      on = λ x w.
          let wide = subst (λ k. IsVector c.modulus k x) (sym h.size) w in
          ap (λ k. term_on c.modulus k (scat (wrapped all n (Strided s r))) x) (sym h.size)
          ∙ sym (scatter-same c.modulus (size_under all n) (wrapped all n (Strided s r)) x good.2 wide)
          ∙ ap (λ g. gather (size_under all n) (at g) x) (back-wrapped all n (Strided s r))
          ∙ sym (gather-under all n (Strided r s) x turned.permutes.there_below)
          ∙ sym (factor_on c p v (move_after (steps.step path (turns r s))) x h);
    }

tile-embeds : (c : Target) (p v : ℕ) (path : Path) → IsMachine c → AreBlocks path →
    IsGood c.size (factor_step p v (tiles path)) → Embeds c p v (tiles path)
tile-embeds c p v path valid blocks h =
    record {
      good = ((λ some. refl, blocks-within p path blocks), h.size);
      on = λ x w.
          let all = within (Blocks p) path in
          ap (λ k. term_on c.modulus k (nest all (tile v)) x) (sym h.size)
          ∙ tile-under c.modulus all v x (subst (λ k. IsVector c.modulus k x) (sym h.size) w)
          ∙ sym (factor_on c p v (tiles path) x h);
    }

after-embeds : (c : Target) (p v : ℕ) (path : Path) (k : PlainCore) → IsMachine c →
    IsGood c.size (factor_step p v (move_after (steps.step path k))) → Embeds c p v (move_after (steps.step path k))
after-embeds c p v path (turns r s) valid h = turned-embeds c p v path r s valid h
after-embeds c p v path k valid h =
    core-embeds c p v (move_after (steps.step path k)) valid h refl
    (vectors-move v (within (Columns v) path) k (vectors-columns v path))

pub factors_embed : (h : Target) (p v : ℕ) (f : PlainFactor) → IsMachine h → HasLanes h.size p v f →
    IsGood h.size (factor_step p v f) → Embeds h p v f
factors_embed c p v (lanes s) valid laned h =
    core-embeds c p v (lanes s) valid h refl (vectors-move v (factor_step p v (lanes s)).path s.core (vectors-blocks v p (within (Columns v) s.path) (vectors-columns v s.path)))
factors_embed c p v (diagonals s) valid laned h = core-embeds c p v (diagonals s) valid h refl (diagonal-moves v s.path s.core laned.1)
factors_embed c p v (move_before s) valid laned h = core-embeds c p v (move_before s) valid h refl (vectors-move v (within (Columns v) s.path) s.core (vectors-columns v s.path))
factors_embed c p v (move_after s) valid laned h = after-embeds c p v s.path s.core valid h
factors_embed c p v (tiles path) valid laned h = tile-embeds c p v path valid laned.1 h
