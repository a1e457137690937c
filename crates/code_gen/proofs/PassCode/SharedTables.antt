-- Tables that passes share.
use Rattle.std.proofs.Common.{◌≡◌, ◌≢◌, ℕ, suc, ◌+◌, ◌≤◌, Bool, true, false, Decides, List, [], ◌∷◌, ◌++◌, length, inl}
use Rattle.std.proofs.Common.{inr, refl, sym, ap, ap₂, ◌∙◌, arith, append-nil, append_assoc, length-append}
use Rattle.std.specs.Prelude.{◌==◌, if◌then◌else◌, slice_index_or, Option, Some, None}
use Rattle.std.proofs.lemmas.Bool.{cases_eq, eq-eqb, ne_eqb}
use Rattle.sigma_spl.specs.Nest.{PlainMultiplier, PlainNest}
use Rattle.sigma_spl.specs.Work.{PlainWork, rows, horner}
use Rattle.sigma_spl.proofs.Walk.{chosen}
use Rattle.code_gen.specs.PassCode.Statements.{diagonal_of, is_table, one_factor, powers_of, table_number}
use Rattle.code_gen.specs.PassCode.Statements.{tables_of_multiplier, tables_of_nest, tables_of_work, with_diagonal}
use Rattle.code_gen.specs.PassCode.Statements.{with_table}

decides-more : (x y : ℕ) (xs ys : List ℕ) → Decides (is_table xs ys) (xs ≡ ys) →
    Decides (if x == y then is_table xs ys else false) ((x ∷ xs) ≡ (y ∷ ys))
decides-more x y xs ys h =
    elim (cases_eq x y) [
      | inl same ↦ rw (eq-eqb x y same) (λ e. ap₂ (λ (z : ℕ) zs. z ∷ zs) same (h.0 e), λ e. h.1 (cc))
      | inr other ↦ rw (ne_eqb x y other) (λ e. (cc), λ e. absurd (other (cc)))
    ]

-- the test tells whether two tables are equal
pub is_table-Decides : (xs ys : List ℕ) → Decides (is_table xs ys) (xs ≡ ys)
is_table-Decides [] [] = (λ _. refl, λ _. refl)
is_table-Decides (x ∷ xs) (y ∷ ys) = decides-more x y xs ys (is_table-Decides xs ys)
is_table-Decides _ _ = (λ e. (cc), λ e. (cc))

-- ---- a table among others

there-pick : (b : Bool) (t entries : List ℕ) (ts more : List (List ℕ)) → is_table t entries ≡ b →
    slice_index_or (with_table ts entries ++ more) (table_number ts entries) [] ≡ entries →
    slice_index_or ((if b then t ∷ ts else t ∷ with_table ts entries) ++ more)
    (if b then 0 else suc (table_number ts entries)) [] ≡ entries
there-pick true t entries ts more is h = (is_table-Decides t entries).0 is
there-pick false t entries ts more is h = h

-- the table stands at its number
pub number-there : (ts : List (List ℕ)) (entries : List ℕ) (more : List (List ℕ)) →
    slice_index_or (with_table ts entries ++ more) (table_number ts entries) [] ≡ entries
number-there [] entries more = refl
number-there (t ∷ ts) entries more = there-pick (is_table t entries) t entries ts more refl (number-there ts entries more)

-- a table more or none after those that there are
pub record Extends (new old : List (List ℕ)) : Type 0 where
  pub last : List (List ℕ)
  pub is : new ≡ old ++ last

pub extends-same : (ts : List (List ℕ)) → Extends ts ts
extends-same ts = record { last = []; is = sym (append-nil ts) }

pub extends-more : {a b d : List (List ℕ)} → Extends a b → Extends b d → Extends a d
extends-more {a} {b} {d} h k =
    record {
      last = k.last ++ h.last;
      is = h.is ∙ ap (λ (ts : List (List ℕ)). ts ++ h.last) k.is ∙ append_assoc d k.last h.last;
    }

pub extends-longer : {new old : List (List ℕ)} → Extends new old → length old ≤ length new
extends-longer {new} {old} h =
    let all = ap length h.is in let both = length-append old h.last in omega (arith, all, both)

pub with_table-extends : (ts : List (List ℕ)) (entries : List ℕ) → Extends (with_table ts entries) ts
with_table-extends [] entries = record { last = entries ∷ []; is = refl }
with_table-extends (t ∷ ts) entries =
    let h = with_table-extends ts entries in
    chosen (λ us. Extends us (t ∷ ts)) (is_table t entries) (t ∷ ts) (t ∷ with_table ts entries)
    (λ _. extends-same (t ∷ ts)) (record { last = h.last; is = ap (λ (us : List (List ℕ)). t ∷ us) h.is })

-- it still stands there after further tables
pub number-stays : (ts : List (List ℕ)) (entries : List ℕ) (new more : List (List ℕ)) →
    Extends new (with_table ts entries) → slice_index_or (new ++ more) (table_number ts entries) [] ≡ entries
number-stays ts entries new more h =
    ap (λ (us : List (List ℕ)). slice_index_or (us ++ more) (table_number ts entries) []) h.is
    ∙ ap (λ (us : List (List ℕ)). slice_index_or us (table_number ts entries) []) (append_assoc (with_table ts entries) h.last more)
    ∙ number-there ts entries (h.last ++ more)

-- ---- how many there are

pub number-small : (ts : List (List ℕ)) (entries : List ℕ) → table_number ts entries ≤ length ts
number-small [] entries = omega arith
number-small (t ∷ ts) entries =
    let rest = number-small ts entries in
    chosen (λ n. n ≤ suc (length ts)) (is_table t entries) 0 (suc (table_number ts entries)) (λ _. omega arith)
    (omega arith)

pub with_table-length : (ts : List (List ℕ)) (entries : List ℕ) → length (with_table ts entries) ≤ length ts + 1
with_table-length [] entries = omega arith
with_table-length (t ∷ ts) entries =
    let rest = with_table-length ts entries in
    chosen (λ (us : List (List ℕ)). length us ≤ length (t ∷ ts) + 1) (is_table t entries) (t ∷ ts)
    (t ∷ with_table ts entries) (λ _. omega arith) (omega arith)

-- ---- a table that is shared or added

new-pick : (b : Bool) (t entries : List ℕ) (ts : List (List ℕ)) →
    (table_number ts entries ≡ length ts → with_table ts entries ≡ ts ++ entries ∷ []) →
    (if b then 0 else suc (table_number ts entries)) ≡ suc (length ts) →
    (if b then t ∷ ts else t ∷ with_table ts entries) ≡ t ∷ (ts ++ entries ∷ [])
new-pick true t entries ts h new = absurd (omega arith)
new-pick false t entries ts h new = ap (λ (us : List (List ℕ)). t ∷ us) (h (omega arith))

pub with_table-new : (ts : List (List ℕ)) (entries : List ℕ) → table_number ts entries ≡ length ts →
    with_table ts entries ≡ ts ++ entries ∷ []
with_table-new [] entries new = refl
with_table-new (t ∷ ts) entries new = new-pick (is_table t entries) t entries ts (with_table-new ts entries) new

old-pick : (b : Bool) (t entries : List ℕ) (ts : List (List ℕ)) →
    (table_number ts entries ≢ length ts → with_table ts entries ≡ ts) →
    (if b then 0 else suc (table_number ts entries)) ≢ suc (length ts) →
    (if b then t ∷ ts else t ∷ with_table ts entries) ≡ t ∷ ts
old-pick true t entries ts h old = refl
old-pick false t entries ts h old = ap (λ (us : List (List ℕ)). t ∷ us) (h (λ same. old (ap suc same)))

pub with_table-old : (ts : List (List ℕ)) (entries : List ℕ) → table_number ts entries ≢ length ts →
    with_table ts entries ≡ ts
with_table-old [] entries old = absurd (old refl)
with_table-old (t ∷ ts) entries old = old-pick (is_table t entries) t entries ts (with_table-old ts entries) old

-- ---- the tables of a nest come after those that are there

diagonal-extends : (o : Option ℕ) (ts : List (List ℕ)) (entries : List ℕ) → Extends (with_diagonal o ts entries) ts
diagonal-extends None ts entries = with_table-extends ts entries
diagonal-extends (Some value) ts entries = extends-same ts

pub multiplier-extends : (m : ℕ) (o : Option PlainMultiplier) (ts : List (List ℕ)) →
    Extends (tables_of_multiplier m o ts) ts
multiplier-extends m None ts = extends-same ts
multiplier-extends m (Some d) ts = diagonal-extends (one_factor d.factors) ts (diagonal_of m d.factors)

pub work-extends : (m : ℕ) (w : PlainWork) (ts : List (List ℕ)) → Extends (tables_of_work m w ts) ts
work-extends m (rows root n) ts = with_table-extends ts (powers_of m root n)
work-extends m (horner root n) ts = with_table-extends ts (powers_of m root n)
work-extends m _ ts = extends-same ts

pub nest-extends : (m : ℕ) (z : PlainNest) (ts : List (List ℕ)) → Extends (tables_of_nest m z ts) ts
nest-extends m z ts =
    extends-more (multiplier-extends m z.multiplier (tables_of_work m z.work ts)) (work-extends m z.work ts)
