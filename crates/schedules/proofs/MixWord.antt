-- The reader of turns and drains reads by its grammar.
use Rattle.std.proofs.Common.{◌≡◌, ℕ, zero, suc, ◌≤◌, ◌^◌, List, [], ◌∷◌, ◌++◌, length, refl, sym, ap, subst, ◌∙◌}
use Rattle.std.proofs.Common.{codes, arith, Result, inl, inr}
use Rattle.std.proofs.lemmas.Bool.{false≢true}
use Rattle.grammar.specs.Grammar.{pure, word, Follows, Judges}
use Rattle.grammar.specs.Reading.{whole, many_at}
use Rattle.grammar.proofs.Numbers.{NoDigit}
use Rattle.grammar.proofs.Places.{IsReader, Leaves, Excludes, pure_reader, optional_reader, bind_reader}
use Rattle.grammar.proofs.Parts.{Anything, Nothing, Behind, Keeps, behind_anything, behind_nothing, keeps_pure}
use Rattle.grammar.proofs.Parts.{keeps_then, leaves_at_end, one_of_reader, number_reader, word_reader}
use Rattle.grammar.proofs.Whole.{whole_judges}
use Rattle.icode.specs.declared.event.Event.{Event}
use Rattle.schedules.specs.declared.mix.Letter.TheVariants as letters
use Rattle.schedules.specs.Mix.{event, event_of, next_event, more_events, mix_word}
use Rattle.schedules.specs.MixReading.{event_at, next_event_at, mix_at}

event_reader : IsReader NoDigit event event_at
event_reader =
    bind_reader Anything NoDigit _ _ _ _ (one_of_reader Anything (codes "t", letters.Turn) ((codes "d", letters.Drain) ∷ []) refl) (λ letter u l.
    bind_reader NoDigit NoDigit _ _ _ _ (number_reader (2 ^ 32) (omega arith) (omega arith)) (λ q u l. pure_reader NoDigit (event_of letter q)) (λ q. keeps_pure NoDigit (event_of letter q)))
    (λ letter. behind_anything NoDigit _)

next_reader : IsReader NoDigit next_event next_event_at
next_reader = bind_reader Anything NoDigit (word (codes ",")) (λ _. event) _ (λ _. event_at) (word_reader Anything (codes ",")) (λ t u l. event_reader) (λ t. behind_anything NoDigit event)

-- what begins with a comma has no digit in front
comma_no_digit : {B : Type 0} (C : List ℕ → Type 0) (L : Event → List ℕ → B → Type 0) →
    Leaves NoDigit C (Follows next_event L)
comma_no_digit C L u b v l c =
    let e : u ≡ (codes "," ++ l.begins.rest) ++ l.rest = l.whole ∙ ap (λ y. y ++ l.rest) (l.begins.whole ∙ ap (λ y. y ++ l.begins.rest) l.begins.begins) in
    subst (λ y. NoDigit (y ++ v)) (sym e) refl

comma_excluded : {B : Type 0} (L : Event → List ℕ → B → Type 0) → Excludes (Behind (codes ",")) (Follows next_event L)
comma_excluded L u b v l c =
    let e : u ≡ (codes "," ++ l.begins.rest) ++ l.rest = l.whole ∙ ap (λ y. y ++ l.rest) (l.begins.whole ∙ ap (λ y. y ++ l.begins.rest) l.begins.begins) in
    let none = (subst (λ y. Behind (codes ",") (y ++ v)) e c).no_word in
    false≢true (sym none)

more_no_digit : (count : ℕ) → Keeps NoDigit (more_events count)
unfolding more_events
more_no_digit zero = keeps_pure NoDigit []
more_no_digit (suc count) = λ u b v l c. elim l [
  | inl l1 ↦ subst (λ y. NoDigit (y ++ v)) (sym l1.0) c
  | inr l2 ↦ comma_no_digit NoDigit _ u b v l2 c
]

more_leaves : (count : ℕ) (first : Event) → Leaves NoDigit (Behind (codes ","))
    (Follows (more_events count) (λ others. pure (first ∷ others)))
more_leaves count first u b v l c =
    keeps_then NoDigit (more_events count) (λ others. pure (first ∷ others)) (more_no_digit count) (λ others. keeps_pure NoDigit (first ∷ others)) u b v l c.no_digit

more_reader : (count : ℕ) → IsReader (Behind (codes ",")) (more_events count) (many_at count next_event_at)
unfolding more_events many_at
more_reader zero = pure_reader (Behind (codes ",")) []
more_reader (suc count) =
    optional_reader (Behind (codes ",")) _ [] _
    (bind_reader NoDigit (Behind (codes ",")) _ _ _ _ next_reader (λ first u l.
    bind_reader (Behind (codes ",")) (Behind (codes ",")) _ _ _ _ (more_reader count) (λ others u l. pure_reader (Behind (codes ",")) (first ∷ others)) (λ others. keeps_pure (Behind (codes ",")) (first ∷ others)))
    (λ first. more_leaves count first))
    (comma_excluded _)

all_leaves : (count : ℕ) (first : Event) → Leaves NoDigit Nothing
    (Follows (more_events count) (λ others. pure (first ∷ others)))
all_leaves count first u b v l c =
    keeps_then NoDigit (more_events count) (λ others. pure (first ∷ others)) (more_no_digit count) (λ others. keeps_pure NoDigit (first ∷ others)) u b v l (subst NoDigit (sym c) refl)

mix_reader : IsReader Nothing mix_word mix_at
unfolding mix_at
mix_reader =
    bind_reader Anything Nothing (word (codes "mix:")) _ _ _ (word_reader Anything (codes "mix:")) (λ t u l.
    bind_reader NoDigit Nothing _ _ _ _ event_reader (λ first u l.
    bind_reader (Behind (codes ",")) Nothing _ _ _ _ (more_reader 65535) (λ others u l. pure_reader Nothing (first ∷ others))
    (λ others. leaves_at_end (Behind (codes ",")) _ (keeps_pure (Behind (codes ",")) (first ∷ others)) (behind_nothing (codes ",") refl)))
    (λ first. all_leaves 65535 first))
    (λ t. behind_anything Nothing _)

-- what the reader gives of a whole word is what the grammar says
pub mix_judges : (text : List ℕ) (r : Result (List Event) ℕ) → whole mix_at text ≡ r → Judges mix_word text r
mix_judges text r e = subst (Judges mix_word text) e (whole_judges Nothing mix_word mix_at mix_reader refl text)

few_more : (count : ℕ) (text : List ℕ) (others : List Event) → more_events count text others → length others ≤ count
unfolding more_events
few_more zero text others l = omega (arith, ap length l.1)
few_more (suc count) text others (inl l) = omega (arith, ap length l.1)
few_more (suc count) text others (inr l) =
    omega (arith, ap length l.ends.ends.1, few_more count l.ends.front l.ends.spelt l.ends.begins)

pub few_events : (text : List ℕ) (events : List Event) → mix_word text events → length events ≤ 65536
few_events text events l =
    let more = l.ends.ends in
    omega (arith, ap length more.ends.1, few_more 65535 more.front more.spelt more.begins)
