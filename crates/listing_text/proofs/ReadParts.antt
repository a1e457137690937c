-- The steps of the loop that reads the parts of a place.
use Rattle.std.proofs.Common.{◌≡◌, ℕ, zero, suc, ◌+◌, ◌-◌, ◌<◌, ◌≤◌, ◌≢◌, List, [], ◌∷◌, ◌++◌, length, map, Option}
use Rattle.std.proofs.Common.{Some, None, Result, Ok, Err, refl, sym, ap, ◌∙◌, append_assoc, arith}
use Rattle.std.proofs.lemmas.List.{append-nil, map-append}
use Rattle.grammar.specs.Reading.{Place, and_then, pure_at}
use Rattle.grammar.specs.Cursor.{Tells}
use Rattle.grammar.specs.declared.token.ReadError.{ReadError}
use Rattle.grammar.specs.declared.token.ReadError.TheVariants as errors
use Rattle.listing_text.specs.Reading.{up_to_at, inner_at, marked_inner_at, sum_at}

-- the parts so far, and those that are read after them
abbrev pub in_front : {A : Type 0} → List A → Result (List A × Place ℕ) ℕ → Result (List A × Place ℕ) ℕ
in_front front (Ok x) = Ok (front ++ x.0, x.1)
in_front front (Err left) = Err left

regrouped : {A : Type 0} (front : List A) (x : A) (r : Result (List A × Place ℕ) ℕ) →
    in_front front (and_then r (λ others. pure_at (x ∷ others))) ≡ in_front (front ++ x ∷ []) r
regrouped front x (Ok y) = ap (λ xs. Ok (xs, y.1)) (sym (append_assoc front (x ∷ []) y.0))
regrouped front x (Err left) = refl

pub one_part : {A : Type 0} (read : Place ℕ → Result (Option A × Place ℕ) ℕ) (i : ℕ) (place next : Place ℕ)
    (front : List A) (x : A) (total : Result (List A × Place ℕ) ℕ) → i < 64
    → read place ≡ Ok (Some x, next) → in_front front (up_to_at (64 - i) read place) ≡ total →
    in_front (front ++ x ∷ []) (up_to_at (64 - (i + 1)) read next) ≡ total
unfolding up_to_at
one_part read i place next front x total lt e so_far =
    let k : 64 - i ≡ suc (64 - (i + 1)) = omega arith in
    let one : in_front front (up_to_at (64 - i) read place) ≡ in_front (front ++ x ∷ []) (up_to_at (64 - (i + 1)) read next) =
    rw (k, e) (regrouped front x (up_to_at (64 - (i + 1)) read next)) in
    sym one ∙ so_far

pub no_part : {A : Type 0} (read : Place ℕ → Result (Option A × Place ℕ) ℕ) (i : ℕ) (place next : Place ℕ)
    (front : List A) (total : Result (List A × Place ℕ) ℕ) → i < 64
    → read place ≡ Ok (None, next) → in_front front (up_to_at (64 - i) read place) ≡ total → total ≡ Ok (front, next)
unfolding up_to_at
no_part read i place next front total lt e so_far =
    let k : 64 - i ≡ suc (64 - (i + 1)) = omega arith in
    let one : in_front front (up_to_at (64 - i) read place) ≡ Ok (front, next) = rw (k, e) (ap (λ xs. Ok (xs, next)) (append-nil front)) in
    sym so_far ∙ one

pub part_error : {X Y A : Type 0} (view : X → Option A) (all : Y → List A)
    (read : Place ℕ → Result (Option A × Place ℕ) ℕ) (i : ℕ) (place next last : Place ℕ) (front : List A)
    (error : ReadError) (total : Result (List A × Place ℕ) ℕ) → i < 64
    → Tells view (Err error) next (read place) → in_front front (up_to_at (64 - i) read place) ≡ total →
    Tells all (Err error) last total
unfolding up_to_at
part_error view all read i place next last front (errors.Stuck stuck) total lt e so_far =
    let k : 64 - i ≡ suc (64 - (i + 1)) = omega arith in
    let one : in_front front (up_to_at (64 - i) read place) ≡ Err stuck.left = rw (k, e) refl in
    sym so_far ∙ one
part_error view all read i place next last front errors.NoMemory total lt e so_far = tt

pub parts_end : {A : Type 0} (read : Place ℕ → Result (Option A × Place ℕ) ℕ) (i : ℕ) (place : Place ℕ) (front : List A)
    (total : Result (List A × Place ℕ) ℕ) → 64 ≤ i
    → in_front front (up_to_at (64 - i) read place) ≡ total → total ≡ Ok (front, place)
unfolding up_to_at
parts_end read i place front total le so_far =
    let k : 64 - i ≡ 0 = omega arith in
    let one : in_front front (up_to_at (64 - i) read place) ≡ Ok (front, place) = rw k (ap (λ xs. Ok (xs, place)) (append-nil front)) in
    sym so_far ∙ one

-- with no parentheses left, and with some
pub inner_none : (depth : ℕ) (place : Place ℕ) → depth ≡ 0 → inner_at depth place ≡ Err (length place.rest)
unfolding marked_inner_at
inner_none depth place e = rw e refl

pub inner_some : (depth : ℕ) (place : Place ℕ) → depth ≢ 0 → inner_at depth place ≡ sum_at (depth - 1) place
unfolding marked_inner_at
inner_some zero place ne = absurd (ne refl)
inner_some (suc depth) place ne = let k : suc depth - 1 ≡ depth = omega arith in ap (λ d. sum_at d place) (sym k)

-- a part that is pushed
pub part_pushed : {X A : Type 0} (view : X → A) (read : Place ℕ → Result (Option A × Place ℕ) ℕ) (i : ℕ)
    (place next : Place ℕ) (front pushed : List X) (x : X) (total : Result (List A × Place ℕ) ℕ) → i < 64
    → pushed ≡ front ++ x ∷ [] → read place ≡ Ok (Some (view x), next) →
    in_front (map view front) (up_to_at (64 - i) read place) ≡ total →
    in_front (map view pushed) (up_to_at (64 - (i + 1)) read next) ≡ total
part_pushed view read i place next front pushed x total lt p e so_far =
    ap (λ xs. in_front xs (up_to_at (64 - (i + 1)) read next)) (ap (map view) p ∙ map-append view front (x ∷ [])) ∙ one_part read i place next (map view front) (view x) total lt e so_far
