-- Code that is written piece by piece.
use Rattle.std.proofs.Common.{◌≡◌, ℕ, ◌+◌, ◌++◌, List, length, refl, sym, ap, ap₂, subst, ◌∙◌, add-one, append-nil}
use Rattle.std.proofs.Common.{append_assoc}
use Rattle.kernel_gen.specs.declared.straight.KernelOp.{KernelOp}
use Rattle.kernel_gen.specs.declared.writer.Writer.{Writer}
use Rattle.operators.specs.Operator.{Operator, block}
use Rattle.kernel_gen.specs.Making.{Made, Maker, pick_make, then_make, rows_make, diagonal_make}
use Rattle.kernel_gen.specs.Writing.{next_of, Appends, Wrote}

-- what is written so far, and then the code that is left, are the whole
pub record IsPartOf (old new : Writer) (whole left : Made) : Type 0 where
  pub code : old.code.items ++ whole.code ≡ new.code.items ++ left.code
  pub outs : whole.outs ≡ left.outs
  pub next : whole.next ≡ left.next
  pub inputs : new.inputs ≡ old.inputs

-- a piece, and another after it
pub Appends-then : (old mid new : Writer) (first second : List KernelOp) (next last : ℕ) →
    Appends old mid first next → Appends mid new second last → Appends old new (first ++ second) last
Appends-then old mid new first second next last p q =
    record {
      code_is = q.code_is ∙ ap (λ xs. xs ++ second) p.code_is ∙ append_assoc old.code.items first second;
      next_is = q.next_is;
      inputs = q.inputs ∙ p.inputs;
    }

-- a permutation needs no code
pub wrote-pick : (w : Writer) (pick : Operator) (ins outs : List ℕ) → outs ≡ pick ins →
    Wrote w w (pick_make pick) ins outs
wrote-pick w pick ins outs is =
    record { code = record { code_is = sym (append-nil w.code.items); next_is = refl; inputs = refl }; outs_are = is }

-- two pieces, one after the other
pub wrote-then : (old mid new : Writer) (first second : Maker) (ins x outs : List ℕ) → Wrote old mid first ins x →
    Wrote mid new second x outs → Wrote old new (then_make first second) ins outs
wrote-then old mid new first second ins x outs p q =
    let made = first ins (next_of old) in
    let same : second x (next_of mid) ≡ second made.outs made.next = ap₂ second p.outs_are p.code.next_is in
    record {
      code = Appends-then old mid new made.code (second made.outs made.next).code made.next (second made.outs made.next).next p.code
          (subst (λ (z : Made). Appends mid new z.code z.next) same q.code);
      outs_are = q.outs_are ∙ ap (λ (z : Made). z.outs) same;
    }

-- one more row
pub wrote-row : (old mid new : Writer) (piece : ℕ → Maker) (i s : ℕ) (ins outs row out all : List ℕ) →
    Wrote old mid (rows_make i s piece) ins outs → row ≡ block s i ins → Wrote mid new (piece i) row out →
    all ≡ outs ++ out → Wrote old new (rows_make (i + 1) s piece) ins all
wrote-row old mid new piece i s ins outs row out all p row_is q all_are =
    let made = rows_make i s piece ins (next_of old) in
    let same : piece i row (next_of mid) ≡ piece i (block s i ins) made.next = ap₂ (piece i) row_is p.code.next_is in
    rw (add-one i) (record {
      code = Appends-then old mid new made.code (piece i (block s i ins) made.next).code made.next (piece i (block s i ins) made.next).next p.code
          (subst (λ (z : Made). Appends mid new z.code z.next) same q.code);
      outs_are = all_are ∙ ap₂ (λ xs ys. xs ++ ys) p.outs_are (q.outs_are ∙ ap (λ (z : Made). z.outs) same);
    })

-- the code of a diagonal, with its size under another name
pub wrote-diagonal : (old new : Writer) (m s : ℕ) (factor : ℕ → ℕ) (ins outs : List ℕ) → length ins ≡ s →
    Appends old new (diagonal_make m (length ins) factor ins (next_of old)).code
    (diagonal_make m (length ins) factor ins (next_of old)).next →
    outs ≡ (diagonal_make m (length ins) factor ins (next_of old)).outs →
    Wrote old new (diagonal_make m s factor) ins outs
wrote-diagonal old new m s factor ins outs size code outs_are = subst (λ n. Wrote old new (diagonal_make m n factor) ins outs) size (record { code = code; outs_are = outs_are })
