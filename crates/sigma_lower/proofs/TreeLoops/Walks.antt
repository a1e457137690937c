-- Laws of the terms of a layout. A law says between which points terms may stand. It holds of a layout's terms if it
-- holds of those of each step, and of the right part of a root if it holds of the pieces of that.
use Rattle.sigma_lower.proofs.Words.{◌≡◌, ℕ, ◌*◌, sym, subst, ◌∙◌, List, [], ◌∷◌, ◌++◌, append_assoc, append-nil, map}
use Rattle.sigma_lower.proofs.Words.{Merging, merged, right_path, right_terms, tiled_after, tiled_before, turned_in}
use Rattle.sigma_lower.proofs.Words.{PlainTerm, diag, lowered, PlainWork, work_size, Layout, work, by, layout_size}
use Rattle.sigma_lower.proofs.Words.{IsGoodLayout, IsGoodWork, PlainStep, piece, step, turns, twiddles, thomas_in}
use Rattle.sigma_lower.proofs.Words.{thomas_out, rule_steps, steps_of, Tensor, Blocks, Columns, Path, size_under}
use Rattle.sigma_lower.proofs.Words.{size_under-push, Rule, Gt, Ct, Split}
use Rattle.sigma_lower.proofs.TreeLoops.Emitted.{Emission, emitted, emitted-append, merged-append}
use Rattle.sigma_lower.proofs.TreeTerms.RootTerms.{IsShared}

-- there is nothing yet; gathers may wait; a transform was the last; it, or tiles, can take a root's diagonal; none waits
pub data Point : Type 0 where
  begun : Point
  ready : Point
  done : Point
  tiled : Point
  settled : Point

pub record IsLaw (T : Point → List PlainTerm → Point → Type 0) : Type 0 where
  pub both : (i j k : Point) (ts us : List PlainTerm) → T i ts j → T j us k → T i (ts ++ us) k
  -- at each point gathers may wait
  pub weak : (i k : Point) (ts : List PlainTerm) → T ready ts k → T i ts k
  pub settle : (i : Point) (ts : List PlainTerm) → T i ts tiled → T i ts settled

-- the law of the terms of each core of n words, under paths that begin with this one
pub record Keeps (T : Point → List PlainTerm → Point → Type 0) (m : ℕ) (pre : Path) (n : ℕ)
    (emit : Emission) : Type 0 where
  pub pieces : (path : Path) (w : PlainWork) → IsGoodWork m w → size_under (pre ++ path) (work_size w) ≡ n →
      T ready (emit (pre ++ path) (piece w)) done
  pub turned : (path : Path) (r s : ℕ) → size_under (pre ++ path) (r * s) ≡ n →
      T ready (emit (pre ++ path) (turns r s)) ready
  pub twiddled : (path : Path) (r s w : ℕ) → size_under (pre ++ path) (r * s) ≡ n →
      T done (emit (pre ++ path) (twiddles r s w)) ready
  pub gathered : (path : Path) (r s : ℕ) → size_under (pre ++ path) (r * s) ≡ n →
      T ready (emit (pre ++ path) (thomas_in r s)) ready
  pub scattered : (path : Path) (r s : ℕ) → size_under (pre ++ path) (r * s) ≡ n →
      T done (emit (pre ++ path) (thomas_out r s)) done

-- and of the pieces of a root's right part, with the terms of its layout
pub record RightKeeps (T : Point → List PlainTerm → Point → Type 0) (p v r s w : ℕ)
    (body : List PlainTerm) : Type 0 where
  pub turned : T begun (turned_in p v r s) ready
  pub before : T begun (tiled_before p v r s) ready
  pub steps : T ready body done
  pub after : T done (tiled_after p v r s) tiled
  pub twiddled : T tiled (diag [] r s w ∷ []) settled

module _ (T : Point → List PlainTerm → Point → Type 0) (law : IsLaw T) where
  -- ---- the steps of a layout

  module _ (m : ℕ) (pre : Path) (n : ℕ) (emit : Emission) (keeps : Keeps T m pre n emit) where
    steps-both : (i j k : Point) (ss es : List PlainStep) → T i (emitted emit ss) j → T j (emitted emit es) k →
        T i (emitted emit (ss ++ es)) k
    steps-both i j k ss es h g =
        subst (λ ts. T i ts k) (sym (emitted-append emit ss es))
        (law.both i j k (emitted emit ss) (emitted emit es) h g)

    one-step : (i j : Point) (e : PlainStep) → T i (emit e.path e.core) j → T i (emitted emit (e ∷ [])) j
    one-step i j e h = subst (λ ts. T i ts j) (sym (append-nil (emit e.path e.core))) h

    parts-law : (left right : List PlainStep) → T ready (emitted emit left) done → T ready (emitted emit right) done →
        T ready (emitted emit (right ++ left)) done
    parts-law left right on_left on_right =
        steps-both ready done done right left on_right (law.weak done done (emitted emit left) on_left)

    rule-law : (rule : Rule) (path : Path) (r s w : ℕ) (left right : List PlainStep) →
        size_under (pre ++ path) (r * s) ≡ n → T ready (emitted emit left) done → T ready (emitted emit right) done →
        T ready (emitted emit (rule_steps rule (pre ++ path) r s w left right)) done
    rule-law Gt path r s w left right e on_left on_right =
        let last = step (pre ++ path) (thomas_out r s) in
        law.both ready ready done (emit (pre ++ path) (thomas_in r s)) _ (keeps.gathered path r s e)
        (parts-law (left ++ last ∷ []) right
        (steps-both ready done done left (last ∷ []) on_left (one-step done done last (keeps.scattered path r s e)))
        on_right)
    rule-law Ct path r s w left right e on_left on_right =
        law.both ready ready done (emit (pre ++ path) (turns r s)) _ (keeps.turned path r s e)
        (steps-both ready done done right (step (pre ++ path) (twiddles r s w) ∷ left) on_right
        (law.both done ready done (emit (pre ++ path) (twiddles r s w)) (emitted emit left)
        (keeps.twiddled path r s w e) on_left))
    rule-law _ path r s w left right e on_left on_right = parts-law left right on_left on_right

    pub steps-law : (path : Path) (l : Layout) → IsGoodLayout m l → size_under (pre ++ path) (layout_size l) ≡ n →
        T ready (emitted emit (steps_of (pre ++ path) l)) done
    steps-law path (work w) good e =
        one-step ready done (step (pre ++ path) (piece w)) (keeps.pieces path w good.1 e)
    steps-law path (by rule root a b) good e =
        rule-law rule path (layout_size a) (layout_size b) root _ _ e
        (inner (Columns (layout_size b)) a (layout_size a) (steps-law (path ++ Columns (layout_size b) ∷ []) a good.1)
        (size_under-push (pre ++ path) (Columns (layout_size b)) (layout_size a) ∙ e))
        (inner (Blocks (layout_size a)) b (layout_size b) (steps-law (path ++ Blocks (layout_size a) ∷ []) b good.2)
        (size_under-push (pre ++ path) (Blocks (layout_size a)) (layout_size b) ∙ e))
      where
        inner : (u : Tensor) (l : Layout) (x : ℕ) →
            (size_under (pre ++ (path ++ u ∷ [])) x ≡ n →
            T ready (emitted emit (steps_of (pre ++ (path ++ u ∷ [])) l)) done) →
            size_under ((pre ++ path) ++ u ∷ []) x ≡ n →
            T ready (emitted emit (steps_of ((pre ++ path) ++ u ∷ []) l)) done
        inner u l x =
            subst (λ z. size_under z x ≡ n → T ready (emitted emit (steps_of z l)) done)
            (sym (append_assoc pre path (u ∷ [])))

  -- ---- the right part of a root

  module _ (p v w : ℕ) (a b : Layout)
      (keeps : RightKeeps T p v (layout_size a) (layout_size b) w
      (map lowered (steps_of (right_path p v (layout_size a)) b)))
    where
      abbrev steps : List PlainTerm
      steps = map lowered (steps_of (right_path p v (layout_size a)) b)

      abbrev tiles : List PlainTerm
      tiles = tiled_after p v (layout_size a) (layout_size b)

      split-law : T begun (right_terms p v Split w a b) settled
      split-law =
          law.settle begun (right_terms p v Split w a b)
          (law.both begun ready tiled (tiled_before p v (layout_size a) (layout_size b)) (steps ++ tiles) keeps.before
          (law.both ready done tiled steps tiles keeps.steps keeps.after))

      pub right-law : (rule : Rule) → IsShared rule → T begun (right_terms p v rule w a b) settled
      right-law Gt shared = absurd shared
      right-law Ct shared =
          law.both begun ready settled (turned_in p v (layout_size a) (layout_size b)) _ keeps.turned
          (law.both ready done settled steps _ keeps.steps
          (law.both done tiled settled tiles (diag [] (layout_size a) (layout_size b) w ∷ []) keeps.after keeps.twiddled))
      right-law _ shared = split-law

-- ---- laws of the passes that terms are merged into

abbrev pub Brings : (Point → Merging → Type 0) → Point → List PlainTerm → Point → Type 0
Brings At i ts j = (st : Merging) → At i st → At j (merged st ts)

pub brings-law : (At : Point → Merging → Type 0) → ((i : Point) (st : Merging) → At i st → At ready st) →
    ((st : Merging) → At tiled st → At settled st) → IsLaw (Brings At)
brings-law At weak settle = record {
  both = λ i j k ts us h g st is. subst (At k) (sym (merged-append st ts us)) (g (merged st ts) (h st is));
  weak = λ i k ts h st is. h st (weak i st is);
  settle = λ i ts h st is. settle (merged st ts) (h st is);
}
