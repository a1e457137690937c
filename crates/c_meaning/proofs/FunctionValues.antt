-- The functions of a C text compute on residues.
use Rattle.std.proofs.Common.{◌≡◌, ℕ, ◌+◌, ◌-◌, ◌*◌, ◌%◌, ◌^◌, ◌<◌, ◌≤◌, Bool, true, false, [], ◌∷◌, arith, mod-lt, mod-eq_of_lt, refl, sym, ap, ap₂, ◌∙◌, if◌then◌else◌}
use Rattle.std.specs.Prelude.{ℤ, pos, ◌-ℤ◌, nat_lt}
use Rattle.std.proofs.lemmas.Bool.{ltb-true, ltb-false}
use Rattle.std.proofs.Math.Nat.{add-mod_right}
use Rattle.std.proofs.lemmas.Int.{ints}
use Rattle.std.proofs.lemmas.Nat.{mul-le}
use Rattle.ring_mod.specs.Residue.{sum_mod, difference_mod, product_mod}
use Rattle.c_print.specs.CText.{add_text, sub_text, mul_text, functions_text}
use Rattle.c_meaning.specs.Types.{CType, Word, Wide, common}
use Rattle.c_meaning.specs.Syntax.{Name, Function, Minus, AtLeast, Plus, Times, Modulo}
use Rattle.c_meaning.specs.Numbers.{Outcome, Defined, ◌>>=◌, converted, settled, truth, combined}
use Rattle.c_meaning.specs.Scopes.{Scope, instead, no_words, with_variable}
use Rattle.c_meaning.specs.Expressions.{value_of, operated, chosen, with_locals, returned}
use Rattle.c_meaning.specs.Functions.{modulus_name, first, second, sum, add_function, sub_function, mul_function}
use Rattle.c_meaning.specs.FunctionLaws.{FunctionsAreTrees, FunctionsCompute, HasModulus}
use Rattle.c_meaning.proofs.NumberLaws.{converted_is, settled_is, sum_is, product_is, remainder_is}

pub functions_are_trees : FunctionsAreTrees
unfolding add_text sub_text mul_text functions_text
functions_are_trees = (refl, refl, refl, refl)

-- with a word, which its type leaves as it is
abbrev holding : Name → ℕ → Scope → Scope
holding name n s = record s { type = instead name Word s.type; value = instead name (Defined (pos n)) s.value }

holds_word : (name : Name) (n : ℕ) (s : Scope) → n < 2 ^ 64 → with_variable Word name (pos n) s ≡ holding name n s
holds_word name n s h =
    ap (λ z. record s { type = instead name Word s.type; value = instead name (Defined z) s.value }) (converted_is Word n h)

-- the scope of two parameters
both : Scope → ℕ → ℕ → Scope
both s a b = holding second b (holding first a s)

holds_both : (s : Scope) (a b : ℕ) → a < 2 ^ 64 → b < 2 ^ 64 →
    with_variable Word second (pos b) (with_variable Word first (pos a) s) ≡ both s a b
unfolding both
holds_both s a b h g = ap (λ s. with_variable Word second (pos b) s) (holds_word first a s h) ∙ holds_word second b (holding first a s) g

-- a difference of words that is not below zero, and a comparison
difference : (x y : ℕ) → y ≤ x → pos x -ℤ pos y ≡ pos (x - y)
difference x y h = omega (arith, ints)

difference_is : (x y : ℕ) → x < 2 ^ 64 → y ≤ x → operated Minus Word Word (pos x) (pos y) ≡ Defined (pos (x - y))
difference_is x y h g =
    ap₂ (λ u v. combined Minus Word u v) (converted_is Word x h) (converted_is Word y (omega arith))
    ∙ ap (λ z. settled Word z) (difference x y g) ∙ settled_is Word (x - y) (omega arith)

compared : (x y : ℕ) → x < 2 ^ 64 → y < 2 ^ 64 →
    operated AtLeast Word Word (pos x) (pos y) ≡ Defined (truth (if nat_lt x y then false else true))
compared x y h g = ap₂ (λ u v. combined AtLeast Word u v) (converted_is Word x h) (converted_is Word y g)

-- as a word, which a result stays
as_word : (o : Outcome ℤ) (n : ℕ) → o ≡ Defined (pos n) → n < 2 ^ 64 → (o >>= λ v. Defined (converted Word v)) ≡ Defined (pos n)
as_word o n e small = ap (λ o. o >>= λ v. Defined (converted Word v)) e ∙ ap (λ v. Defined v) (converted_is Word n small)

-- a choice by which of two words is greater
choose : (x y z : ℕ) (one other : Outcome ℤ) → x < 2 ^ 64 → y < 2 ^ 64 → z < 2 ^ 64 → (y ≤ x → one ≡ Defined (pos z)) →
    (x < y → other ≡ Defined (pos z)) → (operated AtLeast Word Word (pos x) (pos y) >>= λ t. chosen Word t one other) ≡ Defined (pos z)
choose x y z one other h g small above below = ap (λ o. o >>= λ t. chosen Word t one other) (compared x y h g) ∙ by_case (nat_lt x y) refl
  where
    by_case : (b : Bool) → nat_lt x y ≡ b → chosen Word (truth (if b then false else true)) one other ≡ Defined (pos z)
    by_case true e = as_word other z (below (ltb-true x y e)) small
    by_case false e = as_word one z (above (ltb-false x y e)) small

sum_small : (m a b : ℕ) → m < 2 ^ 62 → a < m → b < m → a + b < 2 ^ 64
sum_small m a b h f g = omega arith

-- the remainder of a number below 2 * m
once : (m c : ℕ) → m ≤ c → c < m + m → c % m ≡ c - m
once m c h g =
    let parts : c ≡ (c - m) + m = omega arith in
    ap (λ n. n % m) parts ∙ add-mod_right (c - m) m ∙ mod-eq_of_lt (omega arith)

-- the value of `add`, given what M is
added : CType → Outcome ℤ → ℕ → Outcome ℤ
added type value c =
    (value >>= λ y. operated AtLeast Word type (pos c) y) >>= λ t.
    chosen (common (common Word type) Word) t (value >>= λ y. operated Minus Word type (pos c) y) (Defined (pos c))

-- the value of `sub`, and that of `mul` for an `a` that is converted
subtracted : CType → Outcome ℤ → ℕ → ℕ → Outcome ℤ
subtracted type value a b =
    operated AtLeast Word Word (pos a) (pos b) >>= λ t.
    chosen (common Word (common (common Word type) Word)) t (operated Minus Word Word (pos a) (pos b))
    ((value >>= λ y. operated Plus Word type (pos a) y) >>= λ z. operated Minus (common Word type) Word z (pos b))

multiplied : CType → Outcome ℤ → ℤ → ℕ → Outcome ℤ
multiplied type value x b =
    (operated Times Wide Word x (pos b) >>= λ z. value >>= λ y. operated Modulo Wide type z y) >>= λ v. Defined (converted Word v)

-- what a function returns, where the scope has its parameters
abbrev body : Function → Scope → Outcome ℤ
body f inside =
    with_locals f.locals inside >>= λ inside. value_of inside no_words f.value >>= λ x. Defined (converted f.result x)

module _ (s : Scope) (m : ℕ) (known : HasModulus s m) (small : m < 2 ^ 62) (a b : ℕ) (a_below : a < m) (b_below : b < m) where
  add_value : value_of (holding sum (a + b) (both s a b)) no_words add_function.value ≡ added (s.type modulus_name) (s.value modulus_name) (a + b)
  unfolding both added
  add_value = refl

  add_is : value_of (holding sum (a + b) (both s a b)) no_words add_function.value ≡ Defined (pos (sum_mod m a b))
  unfolding added
  add_is =
      add_value
      ∙ ap₂ (λ type value. added type value (a + b)) known.type known.value
      ∙ choose (a + b) m ((a + b) % m) _ _ (sum_small m a b small a_below b_below) (omega arith) (omega (arith, mod-lt (a + b) {m = m}))
      (λ h. difference_is (a + b) m (sum_small m a b small a_below b_below) h ∙ ap (λ n. Defined (pos n)) (sym (once m (a + b) h (omega arith))))
      (λ h. ap (λ n. Defined (pos n)) (sym (mod-eq_of_lt h)))

  a_word : a < 2 ^ 64
  a_word = omega arith

  b_word : b < 2 ^ 64
  b_word = omega arith

  residue_word : (n : ℕ) → n % m < 2 ^ 64
  residue_word n = omega (arith, mod-lt n {m = m})

  add_local : with_locals add_function.locals (both s a b) ≡ Defined (holding sum (a + b) (both s a b))
  unfolding both
  add_local =
      ap (λ o. o >>= λ x. Defined (with_variable Word sum x (both s a b)))
      (sum_is Word Word a b a_word b_word (sum_small m a b small a_below b_below))
      ∙ ap (λ s. Defined s) (holds_word sum (a + b) (both s a b) (sum_small m a b small a_below b_below))

  pub add_returns : returned s add_function (pos a ∷ pos b ∷ []) ≡ Defined (pos (sum_mod m a b))
  add_returns =
      ap (λ s. body add_function s) (holds_both s a b a_word b_word)
      ∙ ap (λ o. o >>= λ inside. value_of inside no_words add_function.value >>= λ x. Defined (converted Word x)) add_local
      ∙ as_word _ ((a + b) % m) add_is (residue_word (a + b))

  sub_value : value_of (both s a b) no_words sub_function.value ≡ subtracted (s.type modulus_name) (s.value modulus_name) a b
  unfolding both subtracted
  sub_value = refl

  over : b ≤ a → a - b ≡ (a + (m - b)) % m
  over h =
      let parts : a + (m - b) ≡ (a - b) + m = omega arith in
      sym (ap (λ n. n % m) parts ∙ add-mod_right (a - b) m ∙ mod-eq_of_lt (omega arith))

  under : a < b → a + m - b ≡ (a + (m - b)) % m
  under h =
      let parts : a + (m - b) ≡ a + m - b = omega arith in
      let below : a + (m - b) < m = omega arith in
      sym (mod-eq_of_lt below ∙ parts)

  sub_is : value_of (both s a b) no_words sub_function.value ≡ Defined (pos (difference_mod m a b))
  unfolding subtracted
  sub_is =
      sub_value
      ∙ ap₂ (λ type value. subtracted type value a b) known.type known.value
      ∙ choose a b ((a + (m - b)) % m) _ _ a_word b_word (residue_word (a + (m - b)))
      (λ h. difference_is a b a_word h ∙ ap (λ n. Defined (pos n)) (over h))
      (λ h. ap (λ o. o >>= λ z. operated Minus Word Word z (pos b)) (sum_is Word Word a m a_word (omega arith) (omega arith))
      ∙ difference_is (a + m) b (omega arith) (omega arith) ∙ ap (λ n. Defined (pos n)) (under h))

  pub sub_returns : returned s sub_function (pos a ∷ pos b ∷ []) ≡ Defined (pos (difference_mod m a b))
  sub_returns =
      ap (λ s. body sub_function s) (holds_both s a b a_word b_word)
      ∙ as_word _ ((a + (m - b)) % m) sub_is (residue_word (a + (m - b)))

  mul_value : value_of (both s a b) no_words mul_function.value ≡ multiplied (s.type modulus_name) (s.value modulus_name) (converted Wide (pos a)) b
  unfolding both multiplied
  mul_value = refl

  product_small : a * b < 2 ^ 128
  product_small = omega (arith, mul-le a b (2 ^ 62) (2 ^ 62) (omega arith) (omega arith))

  mul_is : value_of (both s a b) no_words mul_function.value ≡ Defined (pos (product_mod m a b))
  unfolding multiplied
  mul_is =
      mul_value
      ∙ ap₂ (λ type value. multiplied type value (converted Wide (pos a)) b) known.type known.value
      ∙ ap (λ x. multiplied Word (Defined (pos m)) x b) (converted_is Wide a (omega arith))
      ∙ as_word _ ((a * b) % m)
      (ap (λ o. o >>= λ z. operated Modulo Wide Word z (pos m)) (product_is Wide Word a b (omega arith) b_word product_small)
      ∙ remainder_is Wide Word (a * b) m product_small (omega arith) (omega arith))
      (residue_word (a * b))

  pub mul_returns : returned s mul_function (pos a ∷ pos b ∷ []) ≡ Defined (pos (product_mod m a b))
  mul_returns =
      ap (λ s. body mul_function s) (holds_both s a b a_word b_word) ∙ as_word _ ((a * b) % m) mul_is (residue_word (a * b))

pub functions_compute : FunctionsCompute
functions_compute s m known small a b a_below b_below =
    let nothing : 0 < m = omega arith in
    let minus : (0 + (m - a)) % m ≡ (m - a) % m = ap (λ n. n % m) (omega arith) in (
      add_returns s m known small a b a_below b_below,
      sub_returns s m known small a b a_below b_below,
      sub_returns s m known small 0 a nothing a_below ∙ ap (λ n. Defined (pos n)) minus,
      mul_returns s m known small a b a_below b_below,
    )
