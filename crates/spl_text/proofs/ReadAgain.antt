-- What is printed is read back.
use Rattle.std.proofs.Common.{◌≡◌, ℕ, zero, suc, ◌<◌, ◌≤◌, List, [], ◌++◌, length, codes, decimal, Result, Ok, Err}
use Rattle.std.proofs.Common.{None, refl, sym, ap, subst, ◌∙◌, append_assoc, arith}
use Rattle.std.specs.Option.{option_map}
use Rattle.grammar.specs.Grammar.{word, one_of, positive, optional}
use Rattle.grammar.specs.Reading.{Place, start, ended, pure_at, word_at, one_of_at, optional_at}
use Rattle.grammar.specs.Stops.{Stop, Lost, Fault, and_go_on, spelling_only, passed, tested_at}
use Rattle.grammar.proofs.Numbers.{NoDigit}
use Rattle.grammar.proofs.Parts.{Anything, Nothing, word_reader}
use Rattle.grammar.proofs.Places.{IsReader, optional_reader}
use Rattle.grammar.proofs.Whole.{again}
use Rattle.spl_ast.specs.Formula.{Formula, Identity, Fourier, Hadamard, Twiddles, Diagonal, Stride, Permutation}
use Rattle.spl_ast.specs.Formula.{GoodThomasIn, GoodThomasOut, Product, TensorLeft, TensorRight, DirectSum, Pending}
use Rattle.spl_ast.specs.Nesting.{nesting_of, IsPrintable}
use Rattle.spl_ast.specs.Shape.{IsShaped}
use Rattle.spl_text.specs.declared.reading.Head.{Head}
use Rattle.spl_text.specs.declared.reading.Head.TheVariants as head
use Rattle.spl_text.specs.declared.reading.Halt.{Halt}
use Rattle.spl_text.specs.declared.reading.Halt.TheVariants as halts
use Rattle.spl_text.specs.declared.reading.SplFault.TheVariants as faults
use Rattle.spl_text.specs.Reader.{SaysAll, fault_of}
use Rattle.spl_text.specs.Arguments.{factor_at, one_size_at, two_sizes_at, size_value_at}
use Rattle.spl_text.specs.Arguments.{sizes_value_at, values_at}
use Rattle.spl_text.specs.Fault.{TextFault, TooDeep, Shape, refusal, shape_fault}
use Rattle.spl_text.specs.Reading.{heads, plain, made_at, arguments_by}
use Rattle.spl_text.specs.Reading.{formula_at, ended_formula, all_of, whole_line}
use Rattle.spl_text.specs.Spelling.{spells, spells_line, spelling, IsFactor, HasSpelling}
use Rattle.spl_text.proofs.Heads.{one_size, two_sizes, size_value, sizes_value, values, head_word, head_of_word}
use Rattle.spl_text.proofs.Heads.{one_size_texts, two_sizes_texts, size_value_texts, sizes_value_texts, values_texts}
use Rattle.spl_text.proofs.Readers.{heads_reader, factors, one_size_reader, two_sizes_reader}
use Rattle.spl_text.proofs.Readers.{size_value_reader, sizes_value_reader, values_reader, no_line_end}
use Rattle.spl_text.proofs.Fits.{not_refused}
use Rattle.spl_text.proofs.Nested.{pair_by}

-- the reader gives this value here, and stands before v then
abbrev Gets : {A : Type 0} → Result (A × Place ℕ) (Stop TextFault) → A → List ℕ → Type 0
Gets r x v = (q : Place ℕ) × (r ≡ Ok (x, q)) × (q.rest ≡ v)

-- the same of a reader wherever this text stands before such a rest
abbrev Finds : {A : Type 0} → (Place ℕ → Result (A × Place ℕ) (Stop TextFault)) → A → List ℕ → (List ℕ → Type 0) → Type 0
Finds read x text C = (v : List ℕ) (place : Place ℕ) → C v → place.rest ≡ text ++ v → Gets (read place) x v

word_again : (w : List ℕ) → Finds (plain (word_at w)) tt w Anything
word_again w v place c e =
    let r = again Anything (word w) (word_at w) (word_reader Anything w) place w v tt refl tt e in
    (r.0, ap (λ y. spelling_only y) r.1, r.2)

factor_again : (n : ℕ) → IsFactor n → Finds (plain factor_at) n (decimal n) NoDigit
factor_again n h v place c e =
    let r = again NoDigit (positive 1048577) factor_at factors place (decimal n) v n (h.0, h.1, refl) c e in
    (r.0, ap (λ y. spelling_only y) r.1, r.2)

made_again : {A : Type 0} (L : List ℕ → A → Type 0) (read : Place ℕ → Result (A × Place ℕ) ℕ) (make : A → Formula) →
    IsReader Anything L read
    → (x : A) (text : List ℕ) → L text x → Finds (made_at read make) (make x) text Anything
made_again L read make reader x text l v place c e =
    let r = again Anything L read reader place text v x l tt e in
    (r.0, ap (λ y. and_go_on (spelling_only y) (λ z. plain (pure_at (make z)))) r.1, r.2)

-- two pieces; a comma comes behind the first one, and a parenthesis behind the second
pair_again : {A B : Type 0} (C D : List ℕ → Type 0) (read : Place ℕ → Result (A × Place ℕ) (Stop TextFault))
    (read' : Place ℕ → Result (B × Place ℕ) (Stop TextFault)) (make : A → B → Formula) (a : A) (b : B)
    → (s t : List ℕ) → Finds read a s C → Finds read' b t D → ((v : List ℕ) → C (codes "," ++ v)) →
    ((v : List ℕ) → D (codes ")" ++ v))
    → Finds (pair_by read read' make) (make a b) (s ++ (codes "," ++ (t ++ codes ")"))) Anything
pair_again C D read read' make a b s t first second commas closes v place c e =
    let p = first (codes "," ++ ((t ++ codes ")") ++ v)) place (commas _) (e ∙ append_assoc s (codes "," ++ (t ++ codes ")")) v) in
    let m = word_again (codes ",") ((t ++ codes ")") ++ v) p.0 tt p.2 in
    let q = second (codes ")" ++ v) m.0 (closes v) (m.2 ∙ append_assoc t (codes ")") v) in
    let w = word_again (codes ")") v q.0 tt q.2 in
    (w.0, rw (p.1, m.1, q.1, w.1) refl, w.2)

passes : (left : ℕ) (f : Formula) (q : Place ℕ) → refusal f ≡ None → passed (shape_fault left f) (f, q) ≡ Ok (f, q)
passes left f q e = ap (λ o. passed (option_map (λ p. Shape left p.0 p.1) o) (f, q)) e

-- a part is read when its head is and what comes after it
behind_head : (depth : ℕ) (h : Head) (f : Formula) (text : List ℕ) → IsShaped f → spelling f ≡ head_word h ++ text →
    Finds (arguments_by (formula_at depth) h) f text Anything → Finds (formula_at (suc depth)) f (spelling f) Anything
unfolding formula_at
behind_head depth h f text s is inner v place c e =
    let p = again Anything (one_of heads) (one_of_at heads) heads_reader place (head_word h) (text ++ v) h (head_of_word h) tt
    (e ∙ ap (λ z. z ++ v) is ∙ append_assoc (head_word h) text v) in
    let q = inner v p.0 tt p.2 in (
      q.0,
      ap (λ r. tested_at (length place.rest) shape_fault (and_go_on (spelling_only r) (arguments_by (formula_at depth)))) p.1
          ∙ ap (λ r. tested_at (length place.rest) shape_fault r) q.1
          ∙ passes (length place.rest) f q.0 (not_refused f s),
      q.2,
    )

some_nesting : (f : Formula) → 0 < nesting_of f
some_nesting (Identity n) = omega arith
some_nesting (Fourier n w) = omega arith
some_nesting (Hadamard n) = omega arith
some_nesting (Twiddles n s w) = omega arith
some_nesting (Diagonal c) = omega arith
some_nesting (Stride n r) = omega arith
some_nesting (Permutation k) = omega arith
some_nesting (GoodThomasIn r s) = omega arith
some_nesting (GoodThomasOut r s) = omega arith
some_nesting (Product a b) = omega arith
some_nesting (TensorLeft a k) = omega arith
some_nesting (TensorRight k a) = omega arith
some_nesting (DirectSum a b) = omega arith
some_nesting (Pending a) = omega arith

read_again : (depth : ℕ) (f : Formula) → nesting_of f ≤ depth → HasSpelling f → IsShaped f →
    Finds (formula_at depth) f (spelling f) Anything
read_again zero f n h s = absurd (let some = some_nesting f in omega arith)
read_again (suc depth) (Identity k) n h s =
    behind_head depth head.I (Identity k) _ s refl
    (made_again one_size one_size_at Identity one_size_reader k _ (one_size_texts.back k h))
read_again (suc depth) (Fourier k w) n h s =
    behind_head depth head.Dft (Fourier k w) _ s refl
    (made_again size_value size_value_at (λ y. Fourier y.0 y.1) size_value_reader (k, w) _ (size_value_texts.back (k, w) h))
read_again (suc depth) (Hadamard k) n h s =
    behind_head depth head.Wht (Hadamard k) _ s refl
    (made_again one_size one_size_at Hadamard one_size_reader k _ (one_size_texts.back k h))
read_again (suc depth) (Twiddles k r w) n h s =
    behind_head depth head.T (Twiddles k r w) _ s refl
    (made_again sizes_value sizes_value_at (λ y. Twiddles y.0 y.1 y.2) sizes_value_reader (k, r, w) _ (sizes_value_texts.back (k, (r, w)) (h.0, (h.1, h.2))))
read_again (suc depth) (Diagonal c) n h s =
    behind_head depth head.Diag (Diagonal c) _ s refl
    (made_again values values_at Diagonal values_reader c _ (values_texts.back c h))
read_again (suc depth) (Stride k r) n h s =
    behind_head depth head.L (Stride k r) _ s refl
    (made_again two_sizes two_sizes_at (λ y. Stride y.0 y.1) two_sizes_reader (k, r) _ (two_sizes_texts.back (k, r) h))
read_again (suc depth) (Permutation k) n h s =
    behind_head depth head.Perm (Permutation k) _ s refl
    (made_again values values_at Permutation values_reader k _ (values_texts.back k h))
read_again (suc depth) (GoodThomasIn k r) n h s =
    behind_head depth head.GtIn (GoodThomasIn k r) _ s refl
    (made_again two_sizes two_sizes_at (λ y. GoodThomasIn y.0 y.1) two_sizes_reader (k, r) _ (two_sizes_texts.back (k, r) h))
read_again (suc depth) (GoodThomasOut k r) n h s =
    behind_head depth head.GtOut (GoodThomasOut k r) _ s refl
    (made_again two_sizes two_sizes_at (λ y. GoodThomasOut y.0 y.1) two_sizes_reader (k, r) _ (two_sizes_texts.back (k, r) h))
read_again (suc depth) (Product a b) n h s =
    behind_head depth head.Times (Product a b) _ s refl
    (pair_again Anything Anything (formula_at depth) (formula_at depth) Product a b (spelling a) (spelling b)
    (read_again depth a (omega arith) h.0 s.0) (read_again depth b (omega arith) h.1 s.1) (λ v. tt) (λ v. tt))
read_again (suc depth) (TensorLeft a k) n h s =
    behind_head depth head.Left (TensorLeft a k) _ s refl
    (pair_again Anything NoDigit (formula_at depth) (plain factor_at) TensorLeft a k (spelling a) (decimal k)
    (read_again depth a (omega arith) h.0 s.0) (factor_again k h.1) (λ v. tt) (λ v. refl))
read_again (suc depth) (TensorRight k a) n h s =
    behind_head depth head.Right (TensorRight k a) _ s refl
    (pair_again NoDigit Anything (plain factor_at) (formula_at depth) TensorRight k a (decimal k) (spelling a)
    (factor_again k h.0) (read_again depth a (omega arith) h.1 s.1) (λ v. refl) (λ v. tt))
read_again (suc depth) (DirectSum a b) n h s =
    behind_head depth head.Sum (DirectSum a b) _ s refl
    (pair_again Anything Anything (formula_at depth) (formula_at depth) DirectSum a b (spelling a) (spelling b)
    (read_again depth a (omega arith) h.0 s.0) (read_again depth b (omega arith) h.1 s.1) (λ v. tt) (λ v. tt))
read_again (suc depth) (Pending a) n h s = absurd h

-- ---- the line

ended_here : (f : Formula) (q : Place ℕ) → q.rest ≡ [] → ended_formula (ended f q.rest q.far) ≡ Ok f
ended_here f q e = rw e refl

pub line_again : (text : List ℕ) (f : Formula) → spells_line text f → IsShaped f → IsPrintable f →
    whole_line text ≡ Ok f
unfolding spells
line_again text f l s printable =
    let same : f ≡ l.spelt = l.ends.ends.1 in
    let spelt : HasSpelling f = subst HasSpelling (sym same) l.begins.0 in
    let front : l.front ≡ spelling f = l.begins.1 ∙ ap spelling (sym same) in
    let p = read_again 128 f printable.shallow spelt s l.rest (start text) tt (l.whole ∙ ap (λ z. z ++ l.rest) front) in
    let line = l.ends in
    let last : line.front ++ [] ≡ l.rest = ap (λ z. line.front ++ z) (sym line.ends.0) ∙ sym line.whole in
    let w = again Nothing (optional tt (word (codes "\n"))) (optional_at tt (word_at (codes "\n"))) (optional_reader Nothing (word (codes "\n")) tt (word_at (codes "\n")) (word_reader Nothing (codes "\n")) no_line_end) p.0 line.front [] line.spelt line.begins refl (p.2 ∙ sym last) in
    ap all_of (ap (λ r. and_go_on r (λ g. λ place. and_go_on (plain (optional_at tt (word_at (codes "\n"))) place) (λ _. plain (pure_at g)))) p.1
    ∙ ap (λ r. and_go_on (spelling_only r) (λ _. plain (pure_at f))) w.1) ∙ ended_here f w.0 w.2

same_formula : (g f : Formula) → (let r : Result Formula (Stop TextFault) = Ok g in r ≡ Ok f) → g ≡ f
same_formula g f e = cc

no_stop : (stop : Stop TextFault) (f : Formula) → (let r : Result Formula (Stop TextFault) = Err stop in r ≡ Ok f) → ⊥
no_stop stop f e = cc

pub only_formula : (text : List ℕ) (g : Formula) → whole_line text ≡ Ok g → (f : Formula) → spells_line text f →
    IsShaped f → IsPrintable f → g ≡ f
only_formula text g e f l s p = same_formula g f (sym e ∙ line_again text f l s p)

pub only_fault : (text : List ℕ) (halt : Halt) → SaysAll (Err halt) (whole_line text) → (f : Formula) →
    spells_line text f → IsShaped f → IsPrintable f → fault_of (length text) halt ≡ faults.NoMemory
only_fault text halts.NoMemory e f l s p = refl
only_fault text (halts.Syntax left) e f l s p = absurd (no_stop (Lost left) f (sym e ∙ line_again text f l s p))
only_fault text (halts.TooDeep left) e f l s p = absurd (no_stop (Fault (TooDeep left)) f (sym e ∙ line_again text f l s p))
only_fault text (halts.Shape left first second) e f l s p = absurd (no_stop (Fault (Shape left first second)) f (sym e ∙ line_again text f l s p))
