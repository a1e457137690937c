-- What a lane of an operation computes, and what it leaves.
use Rattle.std.proofs.Common.{◌≡◌, ℕ, ◌+◌, ◌*◌, ◌^◌, ◌<◌, ◌≤◌, List, [], ◌∷◌, codes, arith, refl, ap, ap₂, ◌∙◌}
use Rattle.std.specs.Prelude.{ℤ, pos, slice_index_or, if◌then◌else◌}
use Rattle.std.proofs.lemmas.Bool.{lt-ltb}
use Rattle.icode.specs.Plain.{PlainProgram}
use Rattle.c_meaning.specs.Types.{Word, Bare, room, constant_type}
use Rattle.c_meaning.specs.Syntax.{Name, CExpr, Cons, Nil, word}
use Rattle.c_meaning.specs.Numbers.{Outcome, Undefined, Defined, ◌>>=◌, converted}
use Rattle.c_meaning.specs.Scopes.{Scope, Words, with_variable, with_word, word_at}
use Rattle.c_meaning.specs.Expressions.{value_of, values_of}
use Rattle.c_meaning.specs.Units.{scope_of}
use Rattle.c_meaning.specs.PlaceTrees.{loop_variable}
use Rattle.c_meaning.specs.ProgramTrees.{unit_of, registers_name, number, register, lane_of}
use Rattle.c_meaning.specs.ProgramLaws.{with_loops, phase_scope}
use Rattle.c_meaning.specs.AddressLaws.{lane_scope}
use Rattle.c_meaning.specs.LaneLaws.{Holds, LanesCompute, LanesBecome}
use Rattle.c_meaning.proofs.NumberLaws.{converted_is, constant_below}
use Rattle.c_meaning.proofs.ProgramScopes.{units_compute}
use Rattle.c_meaning.proofs.Addresses.{registers_are_words}

-- one step after another, in either grouping
pub grouped : {A B C : Type 0} (o : Outcome A) (f : A → Outcome B) (g : B → Outcome C) → (o >>= λ x. f x >>= g) ≡ ((o >>= f) >>= g)
grouped Undefined f g = refl
grouped (Defined x) f g = refl

-- a constant of any modulus
wide_constant : (s : Scope) (words : Words) (n : ℕ) → n < 2 ^ 63 → value_of s words (number n) ≡ Defined (pos n)
wide_constant s words n h =
    ap (λ b. if b then Defined (pos n) else Undefined) (lt-ltb n (room (constant_type Bare n)) (constant_below n h))

-- loops change neither functions nor the registers' type
functions_kept : (vs : List ℕ) (depth : ℕ) (s : Scope) (name : Name) → (with_loops depth vs s).function name ≡ s.function name
functions_kept [] depth s name = refl
functions_kept (v ∷ vs) depth s name = functions_kept vs (depth + 1) (with_variable Word (loop_variable depth) (pos v) s) name

type_kept : (vs : List ℕ) (depth : ℕ) (s : Scope) → (with_loops depth vs s).type registers_name ≡ s.type registers_name
type_kept [] depth s = refl
type_kept (v ∷ vs) depth s = type_kept vs (depth + 1) (with_variable Word (loop_variable depth) (pos v) s)

module _ (p : PlainProgram) (q : ℕ) (vs : List ℕ) (words : Words) (l : ℕ) (few : p.regs < 2 ^ 20) (narrow : p.lanes ≤ 16) (is_lane : l < p.lanes) where
  pub register_value : (x a : ℕ) → x < p.regs → Holds words registers_name (x * p.lanes + l) a →
      value_of (lane_scope p q vs l) words (register x) ≡ Defined (pos a)
  register_value x a h held =
      let s = lane_scope p q vs l in
      let at = registers_are_words p q vs words x l h few is_lane narrow in
      grouped (values_of s words (lane_of x)) (λ is. word_at s registers_name is) (λ place. slice_index_or (words (s.lies registers_name).0) place Undefined)
      ∙ ap (λ o. o >>= λ place. slice_index_or (words (s.lies registers_name).0) place Undefined) at.1
      ∙ ap (λ name. slice_index_or (words name) (x * p.lanes + l) Undefined) at.0
      ∙ held

  -- a call with two arguments
  pub call_is : (function : Name) (left right : CExpr) (a b : ℤ) (result : Outcome ℤ) →
      value_of (lane_scope p q vs l) words left ≡ Defined a → value_of (lane_scope p q vs l) words right ≡ Defined b →
      (scope_of (unit_of p)).function function (a ∷ b ∷ []) ≡ result →
      (values_of (lane_scope p q vs l) words (Cons left (Cons right Nil)) >>= λ xs. (lane_scope p q vs l).function function xs) ≡ result
  call_is function left right a b result h g e =
      ap₂ (λ x y. (x >>= λ x. (y >>= λ y. Defined (y ∷ [])) >>= λ xs. Defined (x ∷ xs)) >>= λ xs. (lane_scope p q vs l).function function xs) h g
      ∙ ap (λ f. f (a ∷ b ∷ [])) (functions_kept vs 0 (phase_scope p q) function)
      ∙ e

pub lanes_compute : LanesCompute
lanes_compute p q vs words l x y a b factor small few narrow is_lane h g a_below b_below factor_below a_held b_held =
    let left = register_value p q vs words l few narrow is_lane x a h a_held in
    let right = register_value p q vs words l few narrow is_lane y b g b_held in
    let zero_is = wide_constant (lane_scope p q vs l) words 0 (omega arith) in
    let factor_is = wide_constant (lane_scope p q vs l) words factor (omega arith) in
    let both = units_compute p small a b a_below b_below in
    let times = units_compute p small a factor a_below factor_below in (
      call_is p q vs words l few narrow is_lane (word (codes "add")) (register x) (register y) (pos a) (pos b) _ left right both.0,
      call_is p q vs words l few narrow is_lane (word (codes "sub")) (register x) (register y) (pos a) (pos b) _ left right both.1,
      call_is p q vs words l few narrow is_lane (word (codes "sub")) (number 0) (register x) (pos 0) (pos a) _ zero_is left both.2,
      call_is p q vs words l few narrow is_lane (word (codes "mul")) (register x) (number factor) (pos a) (pos factor) _ left factor_is times.3,
    )

pub lanes_become : LanesBecome
lanes_become p q vs words l r n value few narrow is_lane h small e =
    let s = lane_scope p q vs l in
    let at = registers_are_words p q vs words r l h few is_lane narrow in
    grouped (values_of s words (lane_of r)) (λ is. word_at s registers_name is)
    (λ place. value_of s words value >>= λ x. Defined (with_word (s.lies registers_name).0 place (converted (s.type registers_name) x) words))
    ∙ ap (λ o. o >>= λ place. value_of s words value >>= λ x. Defined (with_word (s.lies registers_name).0 place (converted (s.type registers_name) x) words)) at.1
    ∙ ap (λ o. o >>= λ x. Defined (with_word (s.lies registers_name).0 (r * p.lanes + l) (converted (s.type registers_name) x) words)) e
    ∙ ap₂ (λ name type. Defined (with_word name (r * p.lanes + l) (converted type (pos n)) words)) at.0 (type_kept vs 0 (phase_scope p q))
    ∙ ap (λ z. Defined (with_word registers_name (r * p.lanes + l) z words)) (converted_is Word n small)
