-- The reader of the request line reads by its grammar.
use Rattle.std.proofs.Common.{◌≡◌, ℕ, ◌<◌, ◌≤◌, true, List, [], ◌∷◌, ◌++◌, refl, sym, ap, ◌∙◌, subst, append_assoc}
use Rattle.std.proofs.Common.{codes, map, Result, arith}
use Rattle.matrix_meaning.specs.declared.Kind.{Kind}
use Rattle.matrix_meaning.specs.declared.Kind.TheVariants.{Dft, Wht, Idft}
use Rattle.matrix_meaning.specs.declared.Request.{Request}
use Rattle.grammar.specs.Grammar.{Follows, Judges, named_number, one_of}
use Rattle.grammar.specs.Reading.{whole, one_of_at}
use Rattle.grammar.proofs.Lists.{numbers_reader}
use Rattle.grammar.proofs.Whole.{whole_judges}
use Rattle.grammar.proofs.Numbers.{NoDigit}
use Rattle.grammar.proofs.Places.{IsReader, Leaves, pure_reader, bind_reader}
use Rattle.grammar.proofs.Parts.{Anything, Nothing, Behind, Keeps, behind_anything, keeps_pure, keeps_then}
use Rattle.grammar.proofs.Parts.{leaves_at_end, named_no_digit, one_of_reader, named_number_reader, is_wordy}
use Rattle.grammar.proofs.OptionalParts.{BehindParts, parts_reader, parts_no_digit, parts_end}
use Rattle.request_text.specs.Line.{above_all, dimension, dimensions, kinds, more_sizes, optional_parts, request_line}
use Rattle.request_text.specs.Line.{rooted, rootless}
use Rattle.request_text.specs.Reading.{dimension_at, dimensions_at, request_at, rooted_at}

pub pos : 0 < above_all
pos = omega arith

pub small : above_all ≤ above_all
small = omega arith

kinds_reader : IsReader Anything (one_of kinds) (one_of_at kinds)
kinds_reader = one_of_reader Anything (codes "dft ", Dft) ((codes "idft ", Idft) ∷ (codes "wht ", Wht) ∷ []) refl

-- ---- dimensions

pub dimension_reader : (word : List ℕ) (n : ℕ) → IsReader NoDigit (dimension word n) (dimension_at word n)
dimension_reader word n =
    bind_reader NoDigit NoDigit _ _ _ _ (named_number_reader word above_all pos small)
    (λ w u l. pure_reader NoDigit _) (λ w. keeps_pure NoDigit _)

pub dimension_keeps : (word : List ℕ) (n : ℕ) → is_wordy word ≡ true → Keeps NoDigit (dimension word n)
dimension_keeps word n h = keeps_then NoDigit _ _ (named_no_digit NoDigit word above_all h) (λ w. keeps_pure NoDigit _)

rooted_keeps : (word sizes : List ℕ) → is_wordy word ≡ true → Keeps NoDigit (rooted word sizes)
rooted_keeps word [] h = keeps_pure NoDigit []
rooted_keeps word (n ∷ sizes) h =
    keeps_then NoDigit _ _ (dimension_keeps word n h)
    (λ first. keeps_then NoDigit _ _ (rooted_keeps (codes "x") sizes refl)
    (λ others. keeps_pure NoDigit (first ∷ others)))

rooted_reader : (word sizes : List ℕ) → IsReader NoDigit (rooted word sizes) (rooted_at word sizes)
rooted_reader word [] = pure_reader NoDigit []
rooted_reader word (n ∷ sizes) =
    bind_reader NoDigit NoDigit _ _ _ _ (dimension_reader word n) (λ first u l.
    bind_reader NoDigit NoDigit _ _ _ _ (rooted_reader (codes "x") sizes)
    (λ others u l. pure_reader NoDigit (first ∷ others))
    (λ others. keeps_pure NoDigit (first ∷ others)))
    (λ first. keeps_then NoDigit _ _ (rooted_keeps (codes "x") sizes refl)
    (λ others. keeps_pure NoDigit (first ∷ others)))

dimensions_reader : (kind : Kind) (sizes : List ℕ) → IsReader NoDigit (dimensions kind sizes) (dimensions_at kind sizes)
dimensions_reader Dft sizes = rooted_reader (codes " root ") sizes
dimensions_reader Wht sizes = pure_reader NoDigit (map rootless sizes)
dimensions_reader Idft sizes = rooted_reader (codes " root ") sizes

dimensions_keep : (kind : Kind) (sizes : List ℕ) → Keeps NoDigit (dimensions kind sizes)
dimensions_keep Dft sizes = rooted_keeps (codes " root ") sizes refl
dimensions_keep Wht sizes = keeps_pure NoDigit (map rootless sizes)
dimensions_keep Idft sizes = rooted_keeps (codes " root ") sizes refl

-- ---- the line

-- what comes after the sizes is none of them
behind_sizes : {B : Type 0} (C : List ℕ → Type 0) (L : ℕ → List ℕ → B → Type 0)
    → Leaves (Behind (codes "x")) C (Follows (named_number (codes " mod ") above_all) L)
behind_sizes C L u b v l c =
    let begun : codes " mod " ++ (l.begins.rest ++ (l.rest ++ v)) ≡ u ++ v =
    ap (λ y. y ++ (l.begins.rest ++ (l.rest ++ v))) (sym l.begins.begins)
    ∙ sym (append_assoc l.begins.front l.begins.rest (l.rest ++ v))
    ∙ ap (λ y. y ++ (l.rest ++ v)) (sym l.begins.whole) ∙ sym (append_assoc l.front l.rest v)
    ∙ ap (λ y. y ++ v) (sym l.whole) in
    subst (Behind (codes "x")) begun (record { no_digit = refl; no_word = refl })

pub request_reader : IsReader Nothing request_line request_at
unfolding request_at
request_reader =
    bind_reader Anything Nothing _ _ _ _ kinds_reader (λ kind u l.
    bind_reader (Behind (codes "x")) Nothing _ _ _ _
    (numbers_reader (codes "x") above_all (more_sizes kind) refl pos small) (λ sizes u l.
    bind_reader NoDigit Nothing _ _ _ _ (named_number_reader (codes " mod ") above_all pos small) (λ modulus u l.
    bind_reader NoDigit Nothing _ _ _ _ (dimensions_reader kind sizes) (λ ds u l.
    bind_reader (BehindParts optional_parts) Nothing _ _ _ _ (parts_reader above_all optional_parts pos small refl refl)
    (λ options u l. pure_reader Nothing _)
    (λ options. leaves_at_end (BehindParts optional_parts) _ (keeps_pure (BehindParts optional_parts) _)
    (parts_end optional_parts refl)))
    (λ ds. leaves_at_end NoDigit _ (keeps_then NoDigit _ _ (parts_no_digit above_all optional_parts refl)
    (λ options. keeps_pure NoDigit _)) refl))
    (λ modulus. leaves_at_end NoDigit _
    (keeps_then NoDigit _ _ (dimensions_keep kind sizes)
    (λ ds. keeps_then NoDigit _ _ (parts_no_digit above_all optional_parts refl) (λ options. keeps_pure NoDigit _)))
    refl))
    (λ sizes. behind_sizes Nothing _))
    (λ kind. behind_anything Nothing _)

-- what the reader gives of a whole line is what the grammar says
pub line_judges : (text : List ℕ) (r : Result Request ℕ) → whole request_at text ≡ r → Judges request_line text r
line_judges text r e = subst (Judges request_line text) e
    (whole_judges Nothing request_line request_at request_reader refl text)
