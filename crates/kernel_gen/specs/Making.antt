-- Straight-line code that is put together from pieces.
use Rattle.std.specs.Prelude.{ℕ, zero, suc, ◌+◌, ◌-◌, List, [], ◌∷◌, ◌++◌, ◌==◌, if◌then◌else◌}
use Rattle.kernel_gen.specs.declared.straight.KernelOp.{KernelOp}
use Rattle.kernel_gen.specs.declared.straight.KernelOp.TheVariants.{Add, Sub, Neg, Mul}
use Rattle.operators.specs.Operator.{Operator, block}

-- code, the registers of its outputs, and the first register that is still free
pub record Made : Type 0 where
  pub code : List KernelOp
  pub outs : List ℕ
  pub next : ℕ

-- code from the registers of its inputs and the first free register
abbrev pub Maker : Type 0
Maker = List ℕ → ℕ → Made

-- no code and no output
abbrev pub none_make : Maker
none_make ins next = record { code = []; outs = []; next = next }

-- the inputs in another order
abbrev pub pick_make : Operator → Maker
pick_make pick ins next = record { code = []; outs = pick ins; next = next }

-- one piece, and another on its outputs
abbrev pub then_make : Maker → Maker → Maker
then_make first second ins next =
    let p = first ins next in
    let q = second p.outs p.next in
    record { code = p.code ++ q.code; outs = q.outs; next = q.next }

-- two pieces on the same inputs, with the outputs of both
abbrev pub beside_make : Maker → Maker → Maker
beside_make first second ins next =
    let p = first ins next in
    let q = second ins p.next in
    record { code = p.code ++ q.code; outs = p.outs ++ q.outs; next = q.next }

-- a piece for each of r rows of s inputs
abbrev pub rows_make : ℕ → ℕ → (ℕ → Maker) → Maker
rows_make zero s piece = none_make
rows_make (suc r) s piece = beside_make (rows_make r s piece) (then_make (pick_make (block s r)) (piece r))

abbrev pub after_code : List KernelOp → Made → Made
after_code code made = record { code = code ++ made.code; outs = made.outs; next = made.next }

-- code that adds to a number, the register of the sum, and the first register that is still free
pub record Term : Type 0 where
  pub code : List KernelOp
  pub acc : ℕ
  pub next : ℕ

-- acc, plus an input times a constant: 1 takes an addition, -1 a subtraction
abbrev pub term_make : ℕ → ℕ → ℕ → ℕ → ℕ → Term
term_make m c acc i next =
    if c == 1 then record { code = Add next acc i ∷ []; acc = next; next = next + 1 }
    else if c == m - 1 then record { code = Sub next acc i ∷ []; acc = next; next = next + 1 }
    else record { code = Mul next i c ∷ Add (next + 1) acc next ∷ []; acc = next + 1; next = next + 2 }

-- acc, plus the inputs times the entries from place l on
abbrev pub sum_make : ℕ → (ℕ → ℕ) → ℕ → ℕ → Maker
sum_make m e l acc [] next = record { code = []; outs = acc ∷ []; next = next }
sum_make m e l acc (i ∷ ins) next =
    let t = term_make m (e l) acc i next in after_code t.code (sum_make m e (l + 1) t.acc ins t.next)

-- a row of a matrix whose first entry is 1, times the inputs
abbrev pub row_make : ℕ → (ℕ → ℕ) → Maker
row_make m e [] next = none_make [] next
row_make m e (i ∷ ins) next = sum_make m e 1 i ins next

-- the first n rows of a matrix
abbrev pub matrix_make : ℕ → (ℕ → ℕ → ℕ) → ℕ → Maker
matrix_make m e zero = none_make
matrix_make m e (suc n) = beside_make (matrix_make m e n) (row_make m (e n))

-- an input times a constant: 1 takes nothing, -1 a negation
abbrev pub factor_make : ℕ → ℕ → Maker
factor_make m c [] next = none_make [] next
factor_make m c (i ∷ ins) next =
    if c == 1 then record { code = []; outs = i ∷ []; next = next }
    else if c == m - 1 then record { code = Neg next i ∷ []; outs = next ∷ []; next = next + 1 }
    else record { code = Mul next i c ∷ []; outs = next ∷ []; next = next + 1 }

-- n inputs, each times its constant
abbrev pub diagonal_make : ℕ → ℕ → (ℕ → ℕ) → Maker
diagonal_make m n c = rows_make n 1 (λ k. factor_make m (c k))
