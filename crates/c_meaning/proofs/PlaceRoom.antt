-- Where there is room for the numbers on the way to a place.
use Rattle.std.proofs.Common.{◌≡◌, ℕ, ◌^◌, ◌<◌, ◌≤◌, ◌⊎◌, ⊎_elim, inl, inr, true, List, length, arith, refl, sym, subst}
use Rattle.std.specs.Prelude.{nat_lt, nat_le}
use Rattle.std.proofs.lemmas.Bool.{ltb-true, and_parts, or_cases, false≢true}
use Rattle.icode.specs.Limits.{is_small, rank, next_rank, is_sum_within, are_parts_within, is_part_within}
use Rattle.icode.specs.Plain.{PlainExpr, PlainParts, PlainPart, Sum, NoParts, AndParts, Proc, Var, Product, Rem, Quot}
use Rattle.c_meaning.specs.Types.{CType, Word, Bare, room, promoted, common}
use Rattle.c_meaning.specs.Syntax.{CExpr, Constant, Named, Grouped, Two, Plus, Times, Over, Modulo, Tight}
use Rattle.c_meaning.specs.Scopes.{Scope}
use Rattle.c_meaning.specs.Expressions.{type_of}
use Rattle.c_meaning.specs.PlaceTrees.{processor, loop_variable, place_tree, with_parts, part_tree}
use Rattle.c_meaning.specs.PlaceLaws.{Knows, AreNamed, AreAllNamed, IsDeepNamed, is_named, is_one_named, is_part_named}
use Rattle.c_meaning.proofs.NumberLaws.{widens, widens_right, least_room, promoted_common}

-- what is computed with a tree has room for numbers below the limit
abbrev pub Fits : Scope → ℕ → CExpr → Type 0
Fits s limit tree = limit ≤ room (promoted (type_of s tree))

-- each part of a place fits, and what remainders and quotients are of
abbrev mutual
  pub IsRoomy : Scope → ℕ → PlainExpr → Type 0
  IsRoomy s limit (Sum constant parts) = AreRoomy s limit parts

  pub AreRoomy : Scope → ℕ → PlainParts → Type 0
  AreRoomy s limit NoParts = Unit {0}
  AreRoomy s limit (AndParts part rest) = Fits s limit (part_tree part) × IsRoomyPart s limit part × AreRoomy s limit rest

  pub IsRoomyPart : Scope → ℕ → PlainPart → Type 0
  IsRoomyPart s limit (Proc factor) = Unit {0}
  IsRoomyPart s limit (Var depth factor) = Unit {0}
  IsRoomyPart s limit (Product outer inner factor) = Unit {0}
  IsRoomyPart s limit (Rem of divisor factor) = Fits s limit (place_tree of) × IsRoomy s limit of
  IsRoomyPart s limit (Quot of divisor factor) = Fits s limit (place_tree of) × IsRoomy s limit of

-- every type that is promoted has the room of int
mutual
  pub ints_roomy : (s : Scope) (place : PlainExpr) → IsRoomy s (2 ^ 31) place
  ints_roomy s (Sum constant parts) = ints_all_roomy s parts

  ints_all_roomy : (s : Scope) (parts : PlainParts) → AreRoomy s (2 ^ 31) parts
  ints_all_roomy s NoParts = tt
  ints_all_roomy s (AndParts part rest) = (least_room (type_of s (part_tree part)), ints_roomy_part s part, ints_all_roomy s rest)

  ints_roomy_part : (s : Scope) (part : PlainPart) → IsRoomyPart s (2 ^ 31) part
  ints_roomy_part s (Proc factor) = tt
  ints_roomy_part s (Var depth factor) = tt
  ints_roomy_part s (Product outer inner factor) = tt
  ints_roomy_part s (Rem of divisor factor) = (least_room (type_of s (place_tree of)), ints_roomy s of)
  ints_roomy_part s (Quot of divisor factor) = (least_room (type_of s (place_tree of)), ints_roomy s of)

-- an operator's type has the room of both operands'
common_left : (limit : ℕ) (a b : CType) → limit ≤ room (promoted a) → limit ≤ room (promoted (common a b))
common_left limit a b fits = subst (λ type. limit ≤ room type) (sym (promoted_common a b)) (omega (arith, widens a b))

common_right : (limit : ℕ) (a b : CType) → limit ≤ room (promoted b) → limit ≤ room (promoted (common a b))
common_right limit a b fits = subst (λ type. limit ≤ room type) (sym (promoted_common a b)) (omega (arith, widens_right a b))

pub times_fits : (s : Scope) (limit : ℕ) (left right : CExpr) → Fits s limit left → Fits s limit (Two Times Tight left right)
times_fits s limit left right fits = common_left limit (type_of s left) (type_of s right) fits

pub modulo_fits : (s : Scope) (limit : ℕ) (left right : CExpr) → Fits s limit left → Fits s limit (Two Modulo Tight left right)
modulo_fits s limit left right fits = common_left limit (type_of s left) (type_of s right) fits

pub over_fits : (s : Scope) (limit : ℕ) (left right : CExpr) → Fits s limit left → Fits s limit (Two Over Tight left right)
over_fits s limit left right fits = common_left limit (type_of s left) (type_of s right) fits

-- a variable that is a word fits
pub word_fits : (s : Scope) (limit : ℕ) (tree : CExpr) → type_of s tree ≡ Word → limit ≤ 2 ^ 64 → Fits s limit tree
word_fits s limit tree e h = subst (λ type. limit ≤ room (promoted type)) (sym e) h

pub loop_fits : (s : Scope) (limit : ℕ) (vs : List ℕ) (q depth : ℕ) → Knows s vs q → depth < length vs → limit ≤ 2 ^ 64 →
    Fits s limit (Named (loop_variable depth))
loop_fits s limit vs q depth knows h below =
    word_fits s limit (Named (loop_variable depth)) (knows.loop_type depth h) below

-- the first loop of a product is open, since the second one is
pub outer_open : (outer inner n : ℕ) → nat_lt outer inner ≡ true → nat_lt inner n ≡ true → outer < n
outer_open outer inner n h g = omega (arith, ltb-true outer inner h, ltb-true inner n g)

-- a part is named where what it is of is
part_named : (part : PlainPart) → IsDeepNamed part → is_part_named part ≡ true
part_named (Proc factor) deep = refl
part_named (Var depth factor) deep = refl
part_named (Product outer inner factor) deep = refl
part_named (Rem of divisor factor) deep = deep.0
part_named (Quot of divisor factor) deep = deep.0

all_words : 2 ^ 64 ≤ 2 ^ 64
all_words = omega arith

module _ (s : Scope) (vs : List ℕ) (q : ℕ) (knows : Knows s vs q) where
  mutual
    place_fits : (place : PlainExpr) → is_sum_within place (length vs) ≡ true → is_named place ≡ true → Fits s (2 ^ 64) (place_tree place)
    place_fits (Sum constant parts) h named = parts_fit parts 0 (and_parts (is_small constant) _ h).1 (Constant constant Bare) (inr named)

    parts_fit : (parts : PlainParts) (least : ℕ) → are_parts_within parts (length vs) least ≡ true → (left : CExpr) →
        (Fits s (2 ^ 64) left) ⊎ (is_one_named parts ≡ true) → Fits s (2 ^ 64) (with_parts left parts)
    parts_fit NoParts least h left fits = ⊎_elim (λ f. f) (λ e. absurd (false≢true e)) fits
    parts_fit (AndParts part rest) least h left fits =
        let within = and_parts (is_part_within part (length vs)) _ h in
        let more = (and_parts (nat_le least (rank part)) _ within.1).1 in
        let onto = parts_fit rest (next_rank part) more (Two Plus Tight left (part_tree part)) in
        ⊎_elim
        (λ f. onto (inl (common_left (2 ^ 64) (type_of s left) (type_of s (part_tree part)) f)))
        (λ e. ⊎_elim
        (λ named. onto (inl (common_right (2 ^ 64) (type_of s left) (type_of s (part_tree part)) (part_fits part within.0 named))))
        (λ named. onto (inr named))
        (or_cases (is_part_named part) (is_one_named rest) e))
        fits

    part_fits : (part : PlainPart) → is_part_within part (length vs) ≡ true → is_part_named part ≡ true → Fits s (2 ^ 64) (part_tree part)
    part_fits (Proc factor) h named =
        times_fits s (2 ^ 64) (Named processor) (Constant factor Bare)
        (word_fits s (2 ^ 64) (Named processor) knows.processor_type all_words)
    part_fits (Var depth factor) h named =
        let is_open = ltb-true depth (length vs) (and_parts (nat_lt depth (length vs)) _ h).0 in
        times_fits s (2 ^ 64) (Named (loop_variable depth)) (Constant factor Bare)
        (loop_fits s (2 ^ 64) vs q depth knows is_open all_words)
    part_fits (Product outer inner factor) h named =
        let within = and_parts (nat_lt outer inner) _ h in
        let is_open = outer_open outer inner (length vs) within.0 (and_parts (nat_lt inner (length vs)) _ within.1).0 in
        times_fits s (2 ^ 64) (Two Times Tight (Named (loop_variable outer)) (Named (loop_variable inner))) (Constant factor Bare)
        (times_fits s (2 ^ 64) (Named (loop_variable outer)) (Named (loop_variable inner))
        (loop_fits s (2 ^ 64) vs q outer knows is_open all_words))
    part_fits (Rem of divisor factor) h named =
        times_fits s (2 ^ 64) (Two Modulo Tight (Grouped (place_tree of)) (Constant divisor Bare)) (Constant factor Bare)
        (modulo_fits s (2 ^ 64) (Grouped (place_tree of)) (Constant divisor Bare)
        (place_fits of (and_parts (is_sum_within of (length vs)) _ h).0 named))
    part_fits (Quot of divisor factor) h named =
        times_fits s (2 ^ 64) (Two Over Tight (Grouped (place_tree of)) (Constant divisor Bare)) (Constant factor Bare)
        (over_fits s (2 ^ 64) (Grouped (place_tree of)) (Constant divisor Bare)
        (place_fits of (and_parts (is_sum_within of (length vs)) _ h).0 named))

  -- where remainders and quotients name a variable, all numbers on the way are words
  mutual
    pub named_roomy : (place : PlainExpr) → is_sum_within place (length vs) ≡ true → AreNamed place → IsRoomy s (2 ^ 64) place
    named_roomy (Sum constant parts) h named = named_all_roomy parts 0 (and_parts (is_small constant) _ h).1 named

    named_all_roomy : (parts : PlainParts) (least : ℕ) → are_parts_within parts (length vs) least ≡ true → AreAllNamed parts →
        AreRoomy s (2 ^ 64) parts
    named_all_roomy NoParts least h named = tt
    named_all_roomy (AndParts part rest) least h named =
        let within = and_parts (is_part_within part (length vs)) _ h in
        let more = (and_parts (nat_le least (rank part)) _ within.1).1 in (
          part_fits part within.0 (part_named part named.0),
          named_roomy_part part within.0 named.0,
          named_all_roomy rest (next_rank part) more named.1,
        )

    named_roomy_part : (part : PlainPart) → is_part_within part (length vs) ≡ true → IsDeepNamed part → IsRoomyPart s (2 ^ 64) part
    named_roomy_part (Proc factor) h named = tt
    named_roomy_part (Var depth factor) h named = tt
    named_roomy_part (Product outer inner factor) h named = tt
    named_roomy_part (Rem of divisor factor) h named =
        let within = (and_parts (is_sum_within of (length vs)) _ h).0 in (place_fits of within named.0, named_roomy of within named.1)
    named_roomy_part (Quot of divisor factor) h named =
        let within = (and_parts (is_sum_within of (length vs)) _ h).0 in (place_fits of within named.0, named_roomy of within named.1)
