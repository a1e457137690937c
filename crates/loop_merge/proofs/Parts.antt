-- The parts of a product and of a direct sum, each merged by itself.
use Rattle.std.proofs.Common.{◌≡◌, ℕ, ◌+◌, ◌-◌, ◌<◌, ◌≤◌, arith, refl, sym, ap, subst, List, length}
use Rattle.sigma_spl.specs.Limits.{AreSeveral, HasSeveral}
use Rattle.sigma_spl.specs.Merge.{most, Merging, nothing, sides, merged}
use Rattle.sigma_spl.specs.Nest.{PlainNest}
use Rattle.sigma_spl.specs.Term.{PlainTerm, product, beside}
use Rattle.sigma_spl.specs.Views.{plain_term}
use Rattle.sigma_spl.specs.Words.{AreWords}
use Rattle.sigma_spl.specs.declared.term.Term.{Term}
use Rattle.operators.specs.Paths.Tensors.{Path, size_under}
use Rattle.loop_nests.specs.Parts.{IsPart}
use Rattle.loop_merge.specs.Alone.{merged_alone}
use Rattle.loop_merge.specs.Known.{IsGood, AreKnownPasses, HasRoom, IsKnown}
use Rattle.loop_merge.proofs.Readies.{steps-end}
use Rattle.loop_merge.proofs.Merged.{inner-room, known-ended, known-sides, merged-known, nothing-known, ready-of}
use Rattle.loop_merge.proofs.Merged.{within-of}

-- a term that can be merged on n words, where so much room is left
pub record CanMerge (room n : ℕ) (t : PlainTerm) : Type 0 where
  pub room_left : HasRoom room n
  pub good : IsGood n t
  pub several : HasSeveral t
  pub words : AreWords n t

pub can-merge : (room n : ℕ) (t : PlainTerm) → HasRoom room n → IsGood n t → HasSeveral t → AreWords n t →
    CanMerge room n t
can-merge room n t h good several words = record { room_left = h; good = good; several = several; words = words }

pub same-term : (room n : ℕ) (t s : Term) → s ≡ t → CanMerge room n (plain_term t) → CanMerge room n (plain_term s)
same-term room n t s is h = subst (λ x. CanMerge room n (plain_term x)) (sym is) h

-- ---- parts

pub record AreFactors (room n : ℕ) (a b : PlainTerm) : Type 0 where
  pub first : CanMerge room n a
  pub second : CanMerge room n b

pub factors-of : (room n : ℕ) (t a b : PlainTerm) → CanMerge room n t → t ≡ product a b → AreFactors room n a b
factors-of room n t a b can is = parted (subst (CanMerge room n) is can) where
  parted : CanMerge room n (product a b) → AreFactors room n a b
  parted h =
      record {
        first = record { room_left = h.room_left; good = record { lanes = h.good.lanes; term = h.good.term.0 }; several = h.several.0; words = h.words.0 };
        second = record { room_left = h.room_left; good = record { lanes = h.good.lanes; term = h.good.term.1 }; several = h.several.1; words = h.words.1 };
      }

-- the room r is left for the parts of a direct sum
pub record AreParts (room r n : ℕ) (path : Path) (k l : ℕ) (a b : PlainTerm) : Type 0 where
  pub inner : r ≡ room - length path
  pub short : length path ≤ room
  pub several : AreSeveral path
  pub some : (0 < k) × (0 < l)
  pub size : size_under path (k + l) ≡ n
  pub first : CanMerge r k a
  pub second : CanMerge r l b

pub parts-of : (room n depth : ℕ) (path : Path) (k l : ℕ) (t a b : PlainTerm) → CanMerge room n t →
    t ≡ beside path k a l b → depth ≡ length path → AreParts room (room - depth) n path k l a b
parts-of room n depth path k l t a b can is deep = parted (subst (CanMerge room n) is can) where
  parted : CanMerge room n (beside path k a l b) → AreParts room (room - depth) n path k l a b
  parted h =
      let inner = inner-room room n path k l h.room_left h.several.0 h.good.term.0 h.good.term.1 h.good.term.2 in
      let left = ap (λ d. room - d) deep in
      record {
        inner = left;
        short = omega (arith, inner.short);
        several = h.several.0;
        some = (h.good.term.0, h.good.term.1);
        size = h.good.term.2;
        first = record { room_left = subst (λ s. HasRoom s k) (sym left) inner.left; good = record { lanes = 0; term = h.good.term.3 }; several = h.several.1; words = h.words.0 };
        second = record { room_left = subst (λ s. HasRoom s l) (sym left) inner.right; good = record { lanes = 0; term = h.good.term.4 }; several = h.several.2; words = h.words.1 };
      }

-- ---- what is merged

pub merged-anew : (room n : ℕ) (a : PlainTerm) (st : Merging) → CanMerge room n a →
    st ≡ merged (most room) n nothing a → IsKnown room n st
merged-anew room n a st can is =
    subst (IsKnown room n) (sym is) (merged-known room n nothing a can.room_left can.good can.several can.words (nothing-known room n))

module _ (room n : ℕ) (a : PlainTerm) (can : CanMerge room n a) (ps : List (List PlainNest))
    (is : ps ≡ merged_alone (most room) n a) where
  pub alone-known : AreKnownPasses room n ps
  alone-known =
      let all = merged-anew room n a (merged (most room) n nothing a) can refl in
      subst (AreKnownPasses room n) (sym is) (known-ended room n can.room_left _ _ (steps-end n _ all.waiting) all.passes)

  pub is-part : IsPart n ps
  is-part = record { room = room; within = within-of room n ps alone-known; ready = ready-of room n ps alone-known }

pub known-both : (room r n : ℕ) (path : Path) (k l : ℕ) (a b : PlainTerm) (ps qs both : List (List PlainNest)) →
    HasRoom room n → AreParts room r n path k l a b →
    AreKnownPasses r k ps → AreKnownPasses r l qs → both ≡ sides path k l ps qs → AreKnownPasses room n both
known-both room r n path k l a b ps qs both h parts p q e =
    subst (AreKnownPasses room n) (sym e)
    (known-sides room n path k l ps qs h parts.several (inner-room room n path k l h parts.several parts.some.0 parts.some.1 parts.size) parts.size
    (subst (λ s. AreKnownPasses s k ps) parts.inner p) (subst (λ s. AreKnownPasses s l qs) parts.inner q))
