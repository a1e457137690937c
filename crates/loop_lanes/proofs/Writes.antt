-- Words that are written one after another.
use Rattle.std.proofs.Common.{◌≡◌, ◌≢◌, ℕ, zero, suc, ◌<◌, List, [], ◌∷◌, ◌++◌, length, refl, sym, ap, ◌∙◌, subst}
use Rattle.std.proofs.Common.{arith, ⊎_elim, Contains}
use Rattle.std.specs.Prelude.{slice_index, slice_set}
use Rattle.std.proofs.lemmas.Bool.{cases_eq}
use Rattle.std.proofs.lemmas.List.{ext_get_or}
use Rattle.icode.proofs.Lines.{Contains-head, Contains-tail, Contains-nil}
use Rattle.icode.proofs.Words.{slice_get-set_other, slice_index-agree}
use Rattle.icode.proofs.SequenceLemmas.Placing.{length-slice_set, slice_index-slice_set}
use Rattle.loop_lanes.specs.Layers.{Write, written, OrderIsFree}

pub length-written : (memory : List ℕ) (ws : List Write) → length (written memory ws) ≡ length memory
length-written memory [] = refl
length-written memory (w ∷ ws) =
    length-written (slice_set memory w.word w.value) ws ∙ length-slice_set memory w.word w.value

pub written-append : (memory : List ℕ) (ws zs : List Write) → written memory (ws ++ zs) ≡ written (written memory ws) zs
written-append memory [] zs = refl
written-append memory (w ∷ ws) zs = written-append (slice_set memory w.word w.value) ws zs

-- what stands at a word: what stood there, or what one of the writes puts there
pub data StandsAt (memory : List ℕ) (ws : List Write) (k : ℕ) : Type 0 where
  Before : ((w : Write) → Contains ws w → w.word ≢ k) → slice_index (written memory ws) k ≡ slice_index memory k →
      StandsAt memory ws k
  Put : (w : Write) → Contains ws w → w.word ≡ k → slice_index (written memory ws) k ≡ w.value → StandsAt memory ws k

pub other_word : (memory : List ℕ) (i v k : ℕ) → i ≢ k → slice_index (slice_set memory i v) k ≡ slice_index memory k
other_word memory i v k ne =
    slice_index-agree (slice_set memory i v) memory k (slice_get-set_other memory i k v (λ e. ne (sym e)))

none_more : (w : Write) (ws : List Write) (k : ℕ) → w.word ≢ k → ((x : Write) → Contains ws x → x.word ≢ k) →
    (x : Write) → Contains (w ∷ ws) x → x.word ≢ k
none_more w ws k ne none x (zero, lt, e) = subst (λ (y : Write). y.word ≢ k) e ne
none_more w ws k ne none x (suc i, lt, e) = none x (i, omega arith, e)

pub stands_at : (memory : List ℕ) (ws : List Write) (k : ℕ) → k < length memory → StandsAt memory ws k
stands_at memory [] k lt = Before (λ w h. absurd (Contains-nil w h)) refl
stands_at memory (w ∷ ws) k lt =
    more (stands_at (slice_set memory w.word w.value) ws k (omega (arith, lt, length-slice_set memory w.word w.value)))
  where
    more : StandsAt (slice_set memory w.word w.value) ws k → StandsAt memory (w ∷ ws) k
    more (Put x has there is) = Put x (Contains-tail w ws x has) there is
    more (Before none is) =
        ⊎_elim
        (λ (e : w.word ≡ k). Put w (Contains-head w ws) e
        (is ∙ ap (slice_index (slice_set memory w.word w.value)) (sym e)
        ∙ slice_index-slice_set memory w.word w.value (omega (arith, lt, e))))
        (λ (ne : w.word ≢ k). Before (none_more w ws k ne none) (is ∙ other_word memory w.word w.value k ne))
        (cases_eq w.word k)

pub order_is_free : OrderIsFree
order_is_free memory after ws sure h =
    h.is ∙ ext_get_or 0 (written memory h.done) (written memory ws)
    (length-written memory h.done ∙ sym (length-written memory ws))
    (λ k lt. let low : k < length memory = omega (arith, lt, length-written memory h.done) in
    same k (stands_at memory h.done k low) (stands_at memory ws k low))
  where
    same : (k : ℕ) → StandsAt memory h.done k → StandsAt memory ws k →
        slice_index (written memory h.done) k ≡ slice_index (written memory ws) k
    same k (Before none is) (Before none_too is_too) = is ∙ sym is_too
    same k (Put w has there is) (Put x has_too there_too is_too) =
        is ∙ sure.sure w x (h.within w has) has_too (there ∙ sym there_too) ∙ sym is_too
    same k (Before none is) (Put x has there is_too) = absurd (none x (h.whole x has) there)
    same k (Put w has there is) (Before none is_too) = absurd (none w (h.within w has) there)
