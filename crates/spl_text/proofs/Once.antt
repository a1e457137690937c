-- A text spells one formula at most, and no front of it spells another.
use Rattle.std.proofs.Common.{◌≡◌, ℕ, List, [], ◌++◌, codes, decimal, Result, Ok, refl, sym, ap, subst, ◌∙◌}
use Rattle.std.proofs.Common.{append_assoc}
use Rattle.std.proofs.lemmas.List.{append-nil}
use Rattle.grammar.specs.Grammar.{one_of, positive}
use Rattle.grammar.specs.Reading.{Place, start, one_of_at}
use Rattle.grammar.proofs.Numbers.{NoDigit}
use Rattle.grammar.proofs.Parts.{Anything}
use Rattle.grammar.proofs.Places.{IsReader}
use Rattle.grammar.proofs.Whole.{again}
use Rattle.spl_ast.specs.Formula.{Formula, Identity, Fourier, Hadamard, Twiddles, Diagonal, Stride, Permutation}
use Rattle.spl_ast.specs.Formula.{GoodThomasIn, GoodThomasOut, Product, TensorLeft, TensorRight, DirectSum, Pending}
use Rattle.spl_text.specs.declared.reading.Head.{Head}
use Rattle.spl_text.specs.declared.reading.Head.TheVariants as head
use Rattle.spl_text.specs.Arguments.{factor_at, one_size_at, two_sizes_at, size_value_at, sizes_value_at, values_at}
use Rattle.spl_text.specs.Reading.{heads}
use Rattle.spl_text.specs.Spelling.{spelling, spells, values_text, HasSpelling}
use Rattle.spl_text.proofs.Heads.{one_size, two_sizes, size_value, sizes_value, values, made, arguments}
use Rattle.spl_text.proofs.Heads.{head_word, word_of_head, head_of_word, one_size_texts, two_sizes_texts}
use Rattle.spl_text.proofs.Heads.{size_value_texts}
use Rattle.spl_text.proofs.Heads.{sizes_value_texts, values_texts, two_formulas_texts, left_texts, right_texts}
use Rattle.spl_text.proofs.Heads.{spelt_by_heads}
use Rattle.spl_text.proofs.Readers.{heads_reader, factors, one_size_reader, two_sizes_reader, size_value_reader}
use Rattle.spl_text.proofs.Readers.{sizes_value_reader, values_reader}

same_ok : {A : Type 0} (x y : A × Place ℕ) → (let r : Result (A × Place ℕ) ℕ = Ok x in r ≡ Ok y) → x ≡ y
same_ok x y e = cc

-- what is read of a text is one value, and what is left of it is one
read_once : {A : Type 0} (C : List ℕ → Type 0) (L : List ℕ → A → Type 0) (read : Place ℕ → Result (A × Place ℕ) ℕ) →
    IsReader C L read → (a b : A) (u v s t : List ℕ) → L u a → L v b → C s → C t → u ++ s ≡ v ++ t → (a ≡ b) × (s ≡ t)
read_once {A} C L read reader a b u v s t l m c d e =
    let p = again C L read reader (start (u ++ s)) u s a l c refl in
    let q = again C L read reader (start (u ++ s)) v t b m d e in
    let same : (a, p.0) ≡ (b, q.0) = same_ok (a, p.0) (b, q.0) (sym p.1 ∙ q.1) in
    (ap (λ (x : A × Place ℕ). x.0) same, sym p.2 ∙ ap (λ (x : A × Place ℕ). x.1.rest) same ∙ q.2)

-- a formula whose text begins with a head has this head
behind : (h : Head) (text y : List ℕ) (g : Formula) → HasSpelling g → head_word h ++ text ≡ spelling g ++ y →
    (v : List ℕ) × arguments h v g × (text ≡ v ++ y)
behind h text y g spelt e =
    let l = spelt_by_heads g spelt in
    let split : head_word h ++ text ≡ head_word l.spelt ++ (l.rest ++ y) =
    e ∙ ap (λ z. z ++ y) (l.whole ∙ ap (λ z. z ++ l.rest) (word_of_head l.front l.spelt l.begins))
    ∙ append_assoc (head_word l.spelt) l.rest y in
    let one = read_once Anything (one_of heads) (one_of_at heads) heads_reader h l.spelt (head_word h)
    (head_word l.spelt)
    text (l.rest ++ y) (head_of_word h) (head_of_word l.spelt) tt tt split in
    (l.rest, subst (λ k. arguments k l.rest g) (sym one.0) l.ends, one.1)

-- numbers behind a head
leaf : {A : Type 0} (L : List ℕ → A → Type 0) (read : Place ℕ → Result (A × Place ℕ) ℕ) → IsReader Anything L read →
    (make : A → Formula) (a : A) (u x v y : List ℕ) (g : Formula) → L u a → made L make v g → u ++ x ≡ v ++ y →
    (make a ≡ g) × (x ≡ y)
leaf L read reader make a u x v y g l m e =
    let front : v ≡ m.front = m.whole ∙ ap (λ z. m.front ++ z) m.ends.0 ∙ append-nil m.front in
    let one = read_once Anything L read reader a m.spelt u m.front x y l m.begins tt tt (e ∙ ap (λ z. z ++ y) front) in
    (ap make one.0 ∙ sym m.ends.1, one.1)

behind_comma : (x y : List ℕ) → codes "," ++ x ≡ codes "," ++ y → x ≡ y
behind_comma x y e = cc

behind_end : (x y : List ℕ) → codes ")" ++ x ≡ codes ")" ++ y → x ≡ y
behind_end x y e = cc

-- a piece, a comma, another piece and a parenthesis, before more
regrouped : (a b x : List ℕ) → (a ++ (codes "," ++ (b ++ codes ")"))) ++ x ≡ a ++ (codes "," ++ (b ++ (codes ")" ++ x)))
regrouped a b x =
    append_assoc a (codes "," ++ (b ++ codes ")")) x ∙ ap (λ z. a ++ (codes "," ++ z)) (append_assoc b (codes ")") x)

pub once : (f g : Formula) (x y : List ℕ) → HasSpelling f → HasSpelling g → spelling f ++ x ≡ spelling g ++ y →
    (f ≡ g) × (x ≡ y)
once (Identity n) g x y h k e =
    let b = behind head.I ((decimal n ++ codes ")") ++ x) y g k e in
    leaf one_size one_size_at one_size_reader Identity n (decimal n ++ codes ")") x b.0 y g
    (one_size_texts.back n h) b.1 b.2
once (Fourier n w) g x y h k e =
    let text = decimal n ++ (codes "," ++ (decimal w ++ codes ")")) in
    let b = behind head.Dft (text ++ x) y g k e in
    leaf size_value size_value_at size_value_reader (λ z. Fourier z.0 z.1) (n, w) text x b.0 y g
    (size_value_texts.back (n, w) h) b.1 b.2
once (Hadamard n) g x y h k e =
    let b = behind head.Wht ((decimal n ++ codes ")") ++ x) y g k e in
    leaf one_size one_size_at one_size_reader Hadamard n (decimal n ++ codes ")") x b.0 y g
    (one_size_texts.back n h) b.1 b.2
once (Twiddles n s w) g x y h k e =
    let text = decimal n ++ (codes "," ++ (decimal s ++ (codes "," ++ (decimal w ++ codes ")")))) in
    let b = behind head.T (text ++ x) y g k e in
    leaf sizes_value sizes_value_at sizes_value_reader (λ z. Twiddles z.0 z.1 z.2) (n, s, w) text x b.0 y g
    (sizes_value_texts.back (n, (s, w)) (h.0, (h.1, h.2))) b.1 b.2
once (Diagonal c) g x y h k e =
    let b = behind head.Diag ((values_text c ++ codes ")") ++ x) y g k e in
    leaf values values_at values_reader Diagonal c (values_text c ++ codes ")") x b.0 y g
    (values_texts.back c h) b.1 b.2
once (Stride n r) g x y h k e =
    let text = decimal n ++ (codes "," ++ (decimal r ++ codes ")")) in
    let b = behind head.L (text ++ x) y g k e in
    leaf two_sizes two_sizes_at two_sizes_reader (λ z. Stride z.0 z.1) (n, r) text x b.0 y g
    (two_sizes_texts.back (n, r) h) b.1 b.2
once (Permutation c) g x y h k e =
    let b = behind head.Perm ((values_text c ++ codes ")") ++ x) y g k e in
    leaf values values_at values_reader Permutation c (values_text c ++ codes ")") x b.0 y g
    (values_texts.back c h) b.1 b.2
once (GoodThomasIn n r) g x y h k e =
    let text = decimal n ++ (codes "," ++ (decimal r ++ codes ")")) in
    let b = behind head.GtIn (text ++ x) y g k e in
    leaf two_sizes two_sizes_at two_sizes_reader (λ z. GoodThomasIn z.0 z.1) (n, r) text x b.0 y g
    (two_sizes_texts.back (n, r) h) b.1 b.2
once (GoodThomasOut n r) g x y h k e =
    let text = decimal n ++ (codes "," ++ (decimal r ++ codes ")")) in
    let b = behind head.GtOut (text ++ x) y g k e in
    leaf two_sizes two_sizes_at two_sizes_reader (λ z. GoodThomasOut z.0 z.1) (n, r) text x b.0 y g
    (two_sizes_texts.back (n, r) h) b.1 b.2
once (Product a b) g x y h k e =
    let p = behind head.Times ((spelling a ++ (codes "," ++ (spelling b ++ codes ")"))) ++ x) y g k e in
    let q = (two_formulas_texts Product).from p.0 g p.1 in
    let texts = sym (regrouped (spelling a) (spelling b) x) ∙ p.2 ∙ ap (λ z. z ++ y) q.3 ∙ regrouped (spelling q.0.0)
    (spelling q.0.1) y in
    let first = once a q.0.0 _ _ h.0 q.1.0 texts in
    let second = once b q.0.1 _ _ h.1 q.1.1 (behind_comma _ _ first.1) in
    (ap (λ z. Product z b) first.0 ∙ ap (λ z. Product q.0.0 z) second.0 ∙ sym q.2, behind_end x y second.1)
once (TensorLeft a n) g x y h k e =
    let p = behind head.Left ((spelling a ++ (codes "," ++ (decimal n ++ codes ")"))) ++ x) y g k e in
    let q = left_texts.from p.0 g p.1 in
    let texts = sym (regrouped (spelling a) (decimal n) x) ∙ p.2 ∙ ap (λ z. z ++ y) q.3 ∙ regrouped (spelling q.0.0)
    (decimal q.0.1) y in
    let first = once a q.0.0 _ _ h.0 q.1.0 texts in
    let second = read_once NoDigit (positive 1048577) factor_at factors n q.0.1 (decimal n) (decimal q.0.1)
    (codes ")" ++ x)
    (codes ")" ++ y) (h.1.0, h.1.1, refl) (q.1.1.0, q.1.1.1, refl) refl refl (behind_comma _ _ first.1) in
    (ap (λ z. TensorLeft z n) first.0 ∙ ap (λ z. TensorLeft q.0.0 z) second.0 ∙ sym q.2, behind_end x y second.1)
once (TensorRight n a) g x y h k e =
    let p = behind head.Right ((decimal n ++ (codes "," ++ (spelling a ++ codes ")"))) ++ x) y g k e in
    let q = right_texts.from p.0 g p.1 in
    let texts = sym (regrouped (decimal n) (spelling a) x) ∙ p.2 ∙ ap (λ z. z ++ y) q.3 ∙ regrouped (decimal q.0.0)
    (spelling q.0.1) y in
    let first = read_once NoDigit (positive 1048577) factor_at factors n q.0.0 (decimal n) (decimal q.0.0)
    (codes "," ++ (spelling a ++ (codes ")" ++ x))) (codes "," ++ (spelling q.0.1 ++ (codes ")" ++ y)))
    (h.0.0, h.0.1, refl) (q.1.0.0, q.1.0.1, refl) refl refl texts in
    let second = once a q.0.1 _ _ h.1 q.1.1 (behind_comma _ _ first.1) in
    (ap (λ z. TensorRight z a) first.0 ∙ ap (λ z. TensorRight q.0.0 z) second.0 ∙ sym q.2, behind_end x y second.1)
once (DirectSum a b) g x y h k e =
    let p = behind head.Sum ((spelling a ++ (codes "," ++ (spelling b ++ codes ")"))) ++ x) y g k e in
    let q = (two_formulas_texts DirectSum).from p.0 g p.1 in
    let texts = sym (regrouped (spelling a) (spelling b) x) ∙ p.2 ∙ ap (λ z. z ++ y) q.3 ∙ regrouped (spelling q.0.0)
    (spelling q.0.1) y in
    let first = once a q.0.0 _ _ h.0 q.1.0 texts in
    let second = once b q.0.1 _ _ h.1 q.1.1 (behind_comma _ _ first.1) in
    (ap (λ z. DirectSum z b) first.0 ∙ ap (λ z. DirectSum q.0.0 z) second.0 ∙ sym q.2, behind_end x y second.1)
once (Pending a) g x y h k e = absurd h

pub spelt_once : (text : List ℕ) (f g : Formula) → spells text f → spells text g → f ≡ g
unfolding spells
spelt_once text f g h k = (once f g [] [] h.0 k.0 (ap (λ z. z ++ []) (sym h.1 ∙ k.1))).0
