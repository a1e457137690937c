-- Code that fills words of the memory, piece by piece. No piece needs to know which words another fills.
use Rattle.std.proofs.Common.{◌≡◌, ℕ, zero, suc, ◌<◌, ◌⊎◌, inl, inr, arith, refl, sym, ap, ◌∙◌, List, [], ◌∷◌, ◌++◌}
use Rattle.std.proofs.Common.{subst, append-nil, append_assoc}
use Rattle.std.specs.Prelude.{slice_index}
use Rattle.std.proofs.lemmas.Bool.{cases_eq}
use Rattle.icode.specs.declared.action.Action.{Action}
use Rattle.icode.specs.Machine.{Local, effects}
use Rattle.icode.specs.Sequences.Nests.{bodies, nest, AreInRange}
use Rattle.icode.proofs.SequenceLemmas.ByLane.{lists_follow}

-- a word of the memory
abbrev pub word : Local → ℕ → ℕ
word s a = slice_index s.memory a

-- From each state in which `Ready` holds, the code fills these words, writes no word that is no output, and writes into
-- an output nothing but what is to stand there. Then `Ready` holds again.
pub record Fills (m lanes : ℕ) (Ready : Local → Type 0) (IsOutput : ℕ → Type 0) (output : ℕ → ℕ) (Filled : ℕ → Type 0) (actions : List Action) : Type 0 where
  pub done : (s : Local) → Ready s → (a : ℕ) → Filled a → word (effects m lanes actions s) a ≡ output a
  pub kept : (s : Local) → Ready s → (a : ℕ) → (IsOutput a → ⊥) → word (effects m lanes actions s) a ≡ word s a
  pub only : (s : Local) → Ready s → (a : ℕ) → (word (effects m lanes actions s) a ≡ word s a)
      ⊎ (word (effects m lanes actions s) a ≡ output a)
  pub still : (s : Local) → Ready s → Ready (effects m lanes actions s)

module _ (m lanes : ℕ) (Ready : Local → Type 0) (IsOutput : ℕ → Type 0) (output : ℕ → ℕ) where
  pub fills-none : Fills m lanes Ready IsOutput output (λ _. ⊥) []
  fills-none = record { done = λ s h a c. absurd c; kept = λ s h a c. refl; only = λ s h a. inl refl; still = λ s h. h }

  pub fills-append : (Filled More : ℕ → Type 0) (xs ys : List Action) → Fills m lanes Ready IsOutput output Filled xs →
      Fills m lanes Ready IsOutput output More ys → Fills m lanes Ready IsOutput output (λ a. Filled a ⊎ More a)
      (xs ++ ys)
  fills-append Filled More xs ys f g =
      record {
        done = λ s h a c. at s a ∙ second s h a c;
        kept = λ s h a c. at s a ∙ g.kept (effects m lanes xs s) (f.still s h) a c ∙ f.kept s h a c;
        only = λ s h a. either s h a (g.only (effects m lanes xs s) (f.still s h) a) (f.only s h a);
        still = λ s h. subst Ready (sym (lists_follow m lanes xs ys s)) (g.still (effects m lanes xs s) (f.still s h));
      }
    where
      at : (s : Local) (a : ℕ) → word (effects m lanes (xs ++ ys) s) a
          ≡ word (effects m lanes ys (effects m lanes xs s)) a
      at s a = ap (λ (z : Local). word z a) (lists_follow m lanes xs ys s)

      second : (s : Local) → Ready s → (a : ℕ) → Filled a ⊎ More a →
          word (effects m lanes ys (effects m lanes xs s)) a ≡ output a
      second s h a (inr c) = g.done (effects m lanes xs s) (f.still s h) a c
      second s h a (inl c) =
          elim (g.only (effects m lanes xs s) (f.still s h) a) [
            | inl same ↦ same ∙ f.done s h a c
            | inr filled ↦ filled
          ]

      either : (s : Local) → Ready s → (a : ℕ) → (word (effects m lanes ys (effects m lanes xs s)) a
          ≡ word (effects m lanes xs s) a) ⊎ (word (effects m lanes ys (effects m lanes xs s)) a ≡ output a) →
          (word (effects m lanes xs s) a ≡ word s a) ⊎ (word (effects m lanes xs s) a ≡ output a) →
          (word (effects m lanes (xs ++ ys) s) a ≡ word s a) ⊎ (word (effects m lanes (xs ++ ys) s) a ≡ output a)
      either s h a (inr filled) f_only = inr (at s a ∙ filled)
      either s h a (inl same) (inl kept) = inl (at s a ∙ same ∙ kept)
      either s h a (inl same) (inr filled) = inr (at s a ∙ same ∙ filled)

  pub fills-fewer : (Filled Fewer : ℕ → Type 0) (actions : List Action) → ((a : ℕ) → Fewer a → Filled a) →
      Fills m lanes Ready IsOutput output Filled actions → Fills m lanes Ready IsOutput output Fewer actions
  fills-fewer Filled Fewer actions sub f = record { done = λ s h a c. f.done s h a (sub a c); kept = f.kept; only = f.only; still = f.still }

  pub fills-loop : (n : ℕ) (Filled : ℕ → ℕ → Type 0) (body : ℕ → List Action) →
      ((v : ℕ) → v < n → Fills m lanes Ready IsOutput output (Filled v) (body v)) →
      Fills m lanes Ready IsOutput output (λ a. (v : ℕ) × (v < n) × Filled v a) (bodies n body)
  fills-loop zero Filled body h = fills-fewer (λ _. ⊥) _ [] (λ a c. absurd (omega arith)) fills-none
  fills-loop (suc n) Filled body h =
      fills-fewer (λ a. ((v : ℕ) × (v < n) × Filled v a) ⊎ Filled n a) _ (bodies n body ++ body n) into
      (fills-append (λ a. (v : ℕ) × (v < n) × Filled v a) (Filled n) (bodies n body) (body n) (fills-loop n Filled body (λ v below. h v (omega arith))) (h n (omega arith)))
    where
      into : (a : ℕ) → (v : ℕ) × (v < suc n) × Filled v a → ((v : ℕ) × (v < n) × Filled v a) ⊎ Filled n a
      into a (v, below, c) =
          elim (cases_eq v n) [
            | inl last ↦ inr (subst (λ u. Filled u a) last c)
            | inr other ↦ inl (v, omega arith, c)
          ]

  -- loops in one another, after the values of outer loops
  pub fills-nest : (counts : List ℕ) (Filled : List ℕ → ℕ → Type 0) (body : List ℕ → List Action) (outer : List ℕ) →
      ((vs : List ℕ) → AreInRange counts vs → Fills m lanes Ready IsOutput output (Filled (outer ++ vs))
      (body (outer ++ vs))) →
      Fills m lanes Ready IsOutput output (λ a. (vs : List ℕ) × AreInRange counts vs × Filled (outer ++ vs) a)
      (nest counts body outer)
  fills-nest [] Filled body outer h =
      subst (λ us. Fills m lanes Ready IsOutput output (λ a. (vs : List ℕ) × AreInRange [] vs × Filled (outer ++ vs) a) (body us)) (append-nil outer)
      (fills-fewer (Filled (outer ++ [])) _ (body (outer ++ [])) only_value (h [] tt))
    where
      only_value : (a : ℕ) → (vs : List ℕ) × AreInRange [] vs × Filled (outer ++ vs) a → Filled (outer ++ []) a
      only_value a ([], within, c) = c
      only_value a (v ∷ vs, within, c) = absurd within
  fills-nest (count ∷ counts) Filled body outer h =
      fills-fewer _ _ (nest (count ∷ counts) body outer) into
      (fills-loop count (λ v a. (vs : List ℕ) × AreInRange counts vs × Filled ((outer ++ v ∷ []) ++ vs) a) (λ v. nest counts body (outer ++ v ∷ []))
      (λ v below. fills-nest counts Filled body (outer ++ v ∷ []) (λ vs within.
      subst (λ us. Fills m lanes Ready IsOutput output (Filled us) (body us)) (sym (append_assoc outer (v ∷ []) vs)) (h (v ∷ vs) (below, within)))))
    where
      into : (a : ℕ) → (vs : List ℕ) × AreInRange (count ∷ counts) vs × Filled (outer ++ vs) a →
          (v : ℕ) × (v < count) × ((vs : List ℕ) × AreInRange counts vs × Filled ((outer ++ v ∷ []) ++ vs) a)
      into a ([], within, c) = absurd within
      into a (v ∷ vs, within, c) = (v, within.0, (vs, within.1, subst (λ us. Filled us a) (sym (append_assoc outer (v ∷ []) vs)) c))

-- code that first changes no word, and after which more is known
pub fills-after : (m lanes : ℕ) (Ready Known : Local → Type 0) (IsOutput : ℕ → Type 0) (output : ℕ → ℕ)
    (Filled : ℕ → Type 0) (xs ys : List Action) →
    ((s : Local) → Ready s → Known (effects m lanes xs s)) →
    ((s : Local) → Ready s → (effects m lanes xs s).memory ≡ s.memory) → ((s : Local) → Known s → Ready s) →
    Fills m lanes Known IsOutput output Filled ys → Fills m lanes Ready IsOutput output Filled (xs ++ ys)
fills-after m lanes Ready Known IsOutput output Filled xs ys learn same known f =
    record {
      done = λ s h a c. at s a ∙ f.done (effects m lanes xs s) (learn s h) a c;
      kept = λ s h a c. at s a ∙ f.kept (effects m lanes xs s) (learn s h) a c ∙ before s h a;
      only = λ s h a.
          elim (f.only (effects m lanes xs s) (learn s h) a) [
            | inl kept ↦ inl (at s a ∙ kept ∙ before s h a)
            | inr filled ↦ inr (at s a ∙ filled)
          ];
      still = λ s h. subst Ready (sym (lists_follow m lanes xs ys s)) (known (effects m lanes ys (effects m lanes xs s)) (f.still (effects m lanes xs s) (learn s h)));
    }
  where
    at : (s : Local) (a : ℕ) → word (effects m lanes (xs ++ ys) s) a
        ≡ word (effects m lanes ys (effects m lanes xs s)) a
    at s a = ap (λ (z : Local). word z a) (lists_follow m lanes xs ys s)

    before : (s : Local) → Ready s → (a : ℕ) → word (effects m lanes xs s) a ≡ word s a
    before s h a = ap (λ (words : List ℕ). slice_index words a) (same s h)
