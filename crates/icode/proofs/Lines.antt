-- Which lines a list's actions name.
use Rattle.std.proofs.Common.{◌≡◌, ℕ, zero, suc, ◌+◌, ◌/◌, ◌<◌, ◌≤◌, ◌⊎◌, List, [], ◌∷◌, map, flat_map, Some, refl, sym}
use Rattle.std.proofs.Common.{ap, ◌∙◌, subst, arith, inl, inr, ⊎_elim, Contains}
use Rattle.std.specs.Prelude.{slice_get}
use Rattle.std.specs.List.{range_with_len}
use Rattle.std.proofs.Math.Nat.{eq-or-lt_of_le}
use Rattle.std.proofs.Math.ListN.{get_or-map}
use Rattle.std.proofs.lemmas.List.{length-map}
use Rattle.std.proofs.lemmas.Bool.{cases_eq}
use Rattle.std.proofs.lemmas.List.Elements.{Contains-append_left, Contains-append_right, Contains-append_cases}
use Rattle.icode.specs.declared.action.Action.{Action}
use Rattle.icode.specs.declared.action.Action.TheVariants.{Store}
use Rattle.icode.specs.Machine.{Code, acts, lines_of, stored_words, touched_words, written_lines, touched_lines}

pub Contains-head : {X : Type 0} (x : X) (xs : List X) → Contains (x ∷ xs) x
Contains-head x xs = (0, omega arith, refl)

pub Contains-tail : {X : Type 0} (y : X) (xs : List X) (x : X) → Contains xs x → Contains (y ∷ xs) x
Contains-tail y xs x h = Contains-append_right (y ∷ []) xs x h

pub Contains-nil : {X : Type 0} (x : X) → Contains [] x → ⊥
Contains-nil x h = omega (arith, h.1)

pub Contains_or_not : (xs : List ℕ) (x : ℕ) → Contains xs x ⊎ (Contains xs x → ⊥)
Contains_or_not [] x = inr (Contains-nil x)
Contains_or_not (y ∷ ys) x =
    ⊎_elim
    (λ (e : y ≡ x). inl (subst (λ z. Contains (y ∷ ys) z) e (Contains-head y ys)))
    (λ (ne : y ≡ x → ⊥). ⊎_elim
    (λ (h : Contains ys x). inl (Contains-tail y ys x h))
    (λ (no : Contains ys x → ⊥). inr (λ h. ⊎_elim (λ (one : Contains (y ∷ []) x). ne (only y x one)) no (Contains-append_cases (y ∷ []) ys x h)))
    (Contains_or_not ys x))
    (cases_eq y x)
  where
    only : (y x : ℕ) → Contains (y ∷ []) x → y ≡ x
    only y x (zero, lt, e) = e
    only y x (suc k, lt, e) = absurd (omega arith)

pub Contains-range : (n i k : ℕ) → i ≤ k → k < i + n → Contains (range_with_len i n) k
Contains-range zero i k a b = absurd (omega arith)
Contains-range (suc n) i k a b =
    ⊎_elim
    (λ (e : i ≡ k). subst (λ j. Contains (i ∷ range_with_len (i + 1) n) j) e (Contains-head i _))
    (λ (h : i < k). Contains-tail i _ k (Contains-range n (i + 1) k (omega arith) (omega arith)))
    (eq-or-lt_of_le a)

pub Contains-map : {X Y : Type 0} (f : X → Y) (xs : List X) (x : X) → Contains xs x → Contains (map f xs) (f x)
Contains-map f xs x h = (h.0, rw length-map h.1, get_or-map f xs h.0 x ∙ ap f h.2)

pub Contains-flat_map : {X Y : Type 0} (f : X → List Y) (xs : List X) (n : ℕ) (x : X) (y : Y) →
    slice_get xs n ≡ Some x → Contains (f x) y → Contains (flat_map f xs) y
Contains-flat_map f [] n x y e h = cc
Contains-flat_map f (z ∷ xs) zero x y e h =
    let same : z ≡ x = cc in
    Contains-append_left (f z) (flat_map f xs) y (subst (λ w. Contains (f w) y) (sym same) h)
Contains-flat_map f (z ∷ xs) (suc n) x y e h =
    Contains-append_right (f z) (flat_map f xs) y (Contains-flat_map f xs n x y e h)

-- the lines of the words that an action touches
pub touches : (code : Code) (phase q n k : ℕ) (a : Action) → slice_get (acts code phase q) n ≡ Some a →
    Contains (touched_words code.lanes a) k → Contains (touched_lines code phase q) (k / code.line)
touches code phase q n k a e h =
    Contains-flat_map (λ a. lines_of code.line (touched_words code.lanes a)) (acts code phase q) n a (k / code.line) e
    (Contains-map (λ k. k / code.line) (touched_words code.lanes a) k h)

pub writes : (code : Code) (phase q n k : ℕ) (a : Action) → slice_get (acts code phase q) n ≡ Some a →
    Contains (stored_words code.lanes a) k → Contains (written_lines code phase q) (k / code.line)
writes code phase q n k a e h =
    Contains-flat_map (λ a. lines_of code.line (stored_words code.lanes a)) (acts code phase q) n a (k / code.line) e
    (Contains-map (λ k. k / code.line) (stored_words code.lanes a) k h)

-- a line that is written is touched
touched_by : (code : Code) (a : Action) (line : ℕ) → Contains (lines_of code.line (stored_words code.lanes a)) line →
    Contains (lines_of code.line (touched_words code.lanes a)) line
touched_by code (Store address r) line h = h
touched_by code _ line h = absurd (Contains-nil line h)

touched_by_all : (code : Code) (actions : List Action) (line : ℕ) →
    Contains (flat_map (λ a. lines_of code.line (stored_words code.lanes a)) actions) line →
    Contains (flat_map (λ a. lines_of code.line (touched_words code.lanes a)) actions) line
touched_by_all code [] line h = h
touched_by_all code (a ∷ actions) line h =
    ⊎_elim
    (λ (one : Contains (lines_of code.line (stored_words code.lanes a)) line). Contains-append_left _ _ line (touched_by code a line one))
    (λ (more : Contains (flat_map (λ a. lines_of code.line (stored_words code.lanes a)) actions) line). Contains-append_right (lines_of code.line (touched_words code.lanes a)) _ line (touched_by_all code actions line more))
    (Contains-append_cases (lines_of code.line (stored_words code.lanes a)) _ line h)

pub touched_from_written : (code : Code) (phase q line : ℕ) → Contains (written_lines code phase q) line →
    Contains (touched_lines code phase q) line
touched_from_written code phase q line h = touched_by_all code (acts code phase q) line h
