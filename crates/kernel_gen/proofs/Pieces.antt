-- Pieces of straight-line code, and how they are put together.
use Rattle.std.proofs.Common.{◌≡◌, ℕ, ◌+◌, ◌<◌, arith, refl, ap, ap₂, ◌∙◌, List, [], ◌∷◌, ◌++◌, length, map, subst}
use Rattle.std.proofs.lemmas.List.{map-append}
use Rattle.icode.specs.declared.action.Action.{Action}
use Rattle.icode.specs.Sequences.Lanes.{Registers, lane_effect, weighted_operations}
use Rattle.icode.proofs.SequenceLemmas.Placing.{length-mapped}
use Rattle.operators.specs.Operator.{Operator, gather}
use Rattle.operators.proofs.Lists.{length-list_below}
use Rattle.kernel_gen.specs.declared.straight.KernelOp.{KernelOp}
use Rattle.kernel_gen.specs.KernelOps.{action_by, code_effect, code_cost, AreWithin}
use Rattle.kernel_gen.specs.Making.{Made, Maker, none_make, pick_make, then_make, beside_make}
use Rattle.kernel_gen.specs.Ordered.{AreOrdered}
use Rattle.kernel_gen.proofs.Below.{AllBelow, AllBelow-more, AllBelow-append, map-agree, map-joined, length-joined}
use Rattle.kernel_gen.proofs.Below.{ReadsBelow, map-gather, gather-below}
use Rattle.kernel_gen.proofs.KernelOps.{AreWithin-more, AreWithin-append}

-- ---- code after code

pub code_effect-append : (m : ℕ) (xs ys : List KernelOp) (g : Registers) →
    code_effect m (xs ++ ys) g ≡ code_effect m ys (code_effect m xs g)
code_effect-append m [] ys g = refl
code_effect-append m (i ∷ xs) ys g = code_effect-append m xs ys (lane_effect m 0 (action_by 1 i) g)

pub weighted-append : (weight : ℕ) (xs ys : List Action) → weighted_operations weight (xs ++ ys)
    ≡ weighted_operations weight xs + weighted_operations weight ys
weighted-append weight [] ys = omega arith
weighted-append weight (action ∷ xs) ys = omega (arith, weighted-append weight xs ys)

pub code_cost-append : (weight : ℕ) (xs ys : List KernelOp) →
    code_cost weight (xs ++ ys) ≡ code_cost weight xs + code_cost weight ys
code_cost-append weight xs ys = ap (weighted_operations weight) (map-append (action_by 1) xs ys) ∙ weighted-append weight _ _

pub ordered-append : (next other : ℕ) (xs ys : List KernelOp) → other ≡ next + length xs → AreOrdered next xs →
    AreOrdered other ys → AreOrdered next (xs ++ ys)
ordered-append next other [] ys at first rest = subst (λ n. AreOrdered n ys) (omega (arith, at)) rest
ordered-append next other (i ∷ xs) ys at first rest =
    (first.0, ordered-append (next + 1) other xs ys (omega (arith, at)) first.1 rest)

pub length-code : (xs ys : List KernelOp) → length (xs ++ ys) ≡ length xs + length ys
length-code [] ys = omega arith
length-code (i ∷ xs) ys = omega (arith, length-code xs ys)

-- ---- what a piece does

-- The code puts f of the inputs into its k outputs. It leaves the registers that are in use, uses none past its own, one for
-- each operation in their order, multiplies by residues, and costs so much where a multiplication counts as `weight` operations.
pub record DoesAt (m weight k price : ℕ) (ins : List ℕ) (next : ℕ) (made : Made) (f : Operator) : Type 0 where
  pub next_is : made.next ≡ next + length made.code
  pub kept : (g : Registers) (r : ℕ) → r < next → code_effect m made.code g r ≡ g r
  pub within : AreWithin m made.next made.code
  pub ordered : AreOrdered next made.code
  pub below : AllBelow made.next made.outs
  pub sized : length made.outs ≡ k
  pub costs : code_cost weight made.code ≡ price
  pub values : (g : Registers) → AllBelow m (map g ins) → map (code_effect m made.code g) made.outs ≡ f (map g ins)

-- a piece does so from any n inputs
pub record Does (m weight n k price : ℕ) (make : Maker) (f : Operator) : Type 0 where
  pub at : (ins : List ℕ) (next : ℕ) → length ins ≡ n → AllBelow next ins →
      DoesAt m weight k price ins next (make ins next) f
  pub residues : (x : List ℕ) → length x ≡ n → AllBelow m x → AllBelow m (f x)
  pub width : (x : List ℕ) → length x ≡ n → length (f x) ≡ k

module _ (m weight : ℕ) where
  -- prices that are equal, and operators that are on these residues
  pub does_at-same : (k price other : ℕ) (ins : List ℕ) (next : ℕ) (made : Made) (f h : Operator) → price ≡ other →
      ((g : Registers) → AllBelow m (map g ins) → f (map g ins) ≡ h (map g ins)) →
      DoesAt m weight k price ins next made f → DoesAt m weight k other ins next made h
  does_at-same k price other ins next made f h price_is same done =
      record {
        next_is = done.next_is;
        kept = done.kept;
        within = done.within;
        ordered = done.ordered;
        below = done.below;
        sized = done.sized;
        costs = done.costs ∙ price_is;
        values = λ g small. done.values g small ∙ same g small;
      }

  pub does-same : (n k price other : ℕ) (make : Maker) (f h : Operator) → price ≡ other →
      ((x : List ℕ) → length x ≡ n → AllBelow m x → f x ≡ h x) → ((x : List ℕ) → length x ≡ n → length (h x) ≡ k) →
      Does m weight n k price make f → Does m weight n k other make h
  does-same n k price other make f h price_is same width p =
      record {
        at = λ ins next size under.
            does_at-same k price other ins next (make ins next) f h price_is (λ g small. same (map g ins) (length-mapped g ins ∙ size) small) (p.at ins next size under);
        residues = λ x size small. subst (AllBelow m) (same x size small) (p.residues x size small);
        width = width;
      }

  pub does-size : (n n' k k' price : ℕ) (make : Maker) (f : Operator) → n ≡ n' → k ≡ k' →
      Does m weight n k price make f → Does m weight n' k' price make f
  does-size n n' k k' price make f e d p = subst (λ j. Does m weight n' j price make f) d (subst (λ j. Does m weight j k price make f) e p)

  pub does-pick : (n k : ℕ) (f : ℕ → ℕ) → ReadsBelow n k f → Does m weight n k 0 (pick_make (gather k f)) (gather k f)
  does-pick n k f reads =
      record {
        at = λ ins next size under.
            record {
              next_is = omega arith;
              kept = λ g r low. refl;
              within = tt;
              ordered = tt;
              below = gather-below next n k f ins size reads under;
              sized = length-list_below k _;
              costs = refl;
              values = λ g small. map-gather g n k f ins size reads;
            };
        residues = λ x size small. gather-below m n k f x size reads small;
        width = λ x size. length-list_below k _;
      }

  pub does-none : (n : ℕ) → Does m weight n 0 0 none_make (λ _. [])
  does-none n = does-pick n 0 (λ i. i) (λ i below. absurd (omega arith))

  pub does-then : (n j k cost price : ℕ) (first second : Maker) (f h : Operator) → Does m weight n j cost first f →
      Does m weight j k price second h → Does m weight n k (cost + price) (then_make first second) (λ x. h (f x))
  does-then n j k cost price first second f h p q =
      record {
        at = λ ins next size under.
            let made = first ins next in
            let more = second made.outs made.next in
            let a : DoesAt m weight j cost ins next made f = p.at ins next size under in
            let b : DoesAt m weight k price made.outs made.next more h = q.at made.outs made.next a.sized a.below in
            let low = a.next_is in
            let high = b.next_is in
            record {
              next_is = let all = length-code made.code more.code in omega arith;
              kept = λ g r under. ap (λ (z : Registers). z r) (code_effect-append m made.code more.code g) ∙ b.kept (code_effect m made.code g) r (omega arith) ∙ a.kept g r under;
              within = AreWithin-append m _ made.code _ (AreWithin-more m made.next _ made.code (omega arith) a.within) b.within;
              ordered = ordered-append next made.next made.code more.code a.next_is a.ordered b.ordered;
              below = b.below;
              sized = b.sized;
              costs = code_cost-append weight made.code more.code ∙ ap₂ (λ x y. x + y) a.costs b.costs;
              values = λ g small.
                  ap (λ (z : Registers). map z more.outs) (code_effect-append m made.code more.code g)
                  ∙ b.values (code_effect m made.code g) (rw (a.values g small) (p.residues (map g ins) (length-mapped g ins ∙ size) small))
                  ∙ ap h (a.values g small);
            };
        residues = λ x size small. q.residues (f x) (p.width x size) (p.residues x size small);
        width = λ x size. q.width (f x) (p.width x size);
      }

  pub does-beside : (n j k cost price : ℕ) (first second : Maker) (f h : Operator) → Does m weight n j cost first f →
      Does m weight n k price second h → Does m weight n (j + k) (cost + price) (beside_make first second)
      (λ x. f x ++ h x)
  does-beside n j k cost price first second f h p q =
      record {
        at = λ ins next size under.
            let made = first ins next in
            let more = second ins made.next in
            let a : DoesAt m weight j cost ins next made f = p.at ins next size under in
            let low = a.next_is in
            let b : DoesAt m weight k price ins made.next more h = q.at ins made.next size (AllBelow-more next made.next ins (omega arith) under) in
            let high = b.next_is in
            record {
              next_is = let all = length-code made.code more.code in omega arith;
              kept = λ g r under. ap (λ (z : Registers). z r) (code_effect-append m made.code more.code g) ∙ b.kept (code_effect m made.code g) r (omega arith) ∙ a.kept g r under;
              within = AreWithin-append m _ made.code _ (AreWithin-more m made.next _ made.code (omega arith) a.within) b.within;
              ordered = ordered-append next made.next made.code more.code a.next_is a.ordered b.ordered;
              below = AllBelow-append _ made.outs _ (AllBelow-more _ _ made.outs (omega arith) a.below) b.below;
              sized = length-joined made.outs _ ∙ ap₂ (λ x y. x + y) a.sized b.sized;
              costs = code_cost-append weight made.code more.code ∙ ap₂ (λ x y. x + y) a.costs b.costs;
              values = λ g small.
                  let mid : Registers = code_effect m made.code g in
                  let same : map mid ins ≡ map g ins = map-agree mid g next ins under (λ r low. a.kept g r low) in
                  ap (λ (z : Registers). map z (made.outs ++ more.outs)) (code_effect-append m made.code more.code g)
                  ∙ map-joined (code_effect m more.code mid) made.outs more.outs
                  ∙ ap₂ (λ xs ys. xs ++ ys)
                  (map-agree (code_effect m more.code mid) mid made.next made.outs a.below (λ r low. b.kept mid r low) ∙ a.values g small)
                  (b.values mid (rw same small) ∙ ap h same);
            };
        residues = λ x size small. AllBelow-append m (f x) (h x) (p.residues x size small) (q.residues x size small);
        width = λ x size. length-joined (f x) (h x) ∙ ap₂ (λ a b. a + b) (p.width x size) (q.width x size);
      }

  -- ---- with their makers, operators and prices

  -- a piece from n inputs to k outputs
  pub record Piece (n k : ℕ) : Type 0 where
    pub make : Maker
    pub op : Operator
    pub price : ℕ
    pub does : Does m weight n k price make op

  abbrev pub piece : {n k price : ℕ} {make : Maker} {f : Operator} → Does m weight n k price make f → Piece n k
  piece {n} {k} {price} {make} {f} p = record { make = make; op = f; price = price; does = p }

  abbrev pub picked : (n k : ℕ) (f : ℕ → ℕ) → ReadsBelow n k f → Piece n k
  picked n k f reads = piece (does-pick n k f reads)

  abbrev pub joined : {n j k : ℕ} → Piece n j → Piece j k → Piece n k
  joined {n} {j} {k} p q = piece (does-then n j k p.price q.price p.make q.make p.op q.op p.does q.does)

  -- at another price and for another operator that are equal
  pub does-as : {n k : ℕ} (p : Piece n k) (price : ℕ) (f : Operator) → p.price ≡ price →
      ((x : List ℕ) → length x ≡ n → AllBelow m x → p.op x ≡ f x) → ((x : List ℕ) → length x ≡ n → length (f x) ≡ k) →
      Does m weight n k price p.make f
  does-as {n} {k} p price f price_is same width = does-same n k p.price price p.make p.op f price_is same width p.does
