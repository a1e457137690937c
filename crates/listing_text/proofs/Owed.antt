-- A line at the front of the text that has to come next.
use Rattle.std.proofs.Common.{◌≡◌, ℕ, zero, suc, ◌<◌, ◌≤◌, true, false, List, [], ◌∷◌, ◌++◌, length, drop, Result, Ok}
use Rattle.std.proofs.Common.{Err, refl, sym, ap, ◌∙◌, arith}
use Rattle.std.specs.Result.{is_ok}
use Rattle.std.proofs.lemmas.List.{length-append, drop_at}
use Rattle.grammar.specs.declared.token.Stuck.{Stuck}
use Rattle.grammar.specs.Cursor.{Gives}
use Rattle.grammar.specs.Grammar.{word}
use Rattle.grammar.specs.Reading.{Place, start, placed, word_in, word_at}
use Rattle.grammar.proofs.Parts.{Anything}
use Rattle.grammar.proofs.Tokens as tokens
use Rattle.grammar.proofs.Words.{word_token}
use Rattle.listing_text.specs.Drafts.{is_empty}

word_cases : (line text : List ℕ) (r : Result (Unit {0} × List ℕ) ℕ) (x : Unit {0} × List ℕ) →
    tokens.Answers Anything (word line) text r → r ≡ Ok x → text ≡ line ++ x.1
word_cases line text (Ok y) x p e = let same : y ≡ x = cc in p.whole ∙ ap (λ t. t ++ y.1) p.spelt ∙ ap (λ z. line ++ z.1) same
word_cases line text (Err left) x p e = absurd cc

pub word_is : (line text : List ℕ) (x : Unit {0} × List ℕ) → word_in line text ≡ Ok x → text ≡ line ++ x.1
word_is line text x e = word_cases line text (word_in line text) x ((word_token Anything line).each text) e

placed_ok : (far : ℕ) (r : Result (Unit {0} × List ℕ) ℕ) (x : Unit {0} × Place ℕ) → placed far r ≡ Ok x →
    (y : Unit {0} × List ℕ) × (r ≡ Ok y)
placed_ok far (Ok y) x e = (y, refl)
placed_ok far (Err left) x e = absurd cc

placed_err : (far : ℕ) (r : Result (Unit {0} × List ℕ) ℕ) (left : ℕ) → placed far r ≡ Err left → (n : ℕ) × (r ≡ Err n)
placed_err far (Ok y) left e = absurd cc
placed_err far (Err n) left e = (n, refl)

found : (line text : List ℕ) (x : Unit {0} × Place ℕ) → word_at line (start text) ≡ Ok x →
    (length line ≤ length text) × (word_in line text ≡ Ok (tt, drop (length line) text))
found line text x e =
    let y = placed_ok (length text) (word_in line text) x e in
    let is = word_is line text y.0 y.1 in
    let rest : drop (length line) text ≡ y.0.1 = ap (λ t. drop (length line) t) is ∙ drop_at line y.0.1 (length line) refl in
    (omega (arith, ap length is, length-append line y.0.1), y.1 ∙ ap (λ t. Ok (tt, t)) (sym rest))

pub front_yes : (line text : List ℕ) (r : Result (Unit {0}) Stuck) (place : Place ℕ) →
    Gives r place (word_at line (start text)) → is_ok r ≡ true →
    (length line ≤ length text) × (word_in line text ≡ Ok (tt, drop (length line) text))
front_yes line text (Ok x) place g e = found line text (x, place) g
front_yes line text (Err stuck) place g e = absurd cc

pub front_no : (line text : List ℕ) (r : Result (Unit {0}) Stuck) (place : Place ℕ) →
    Gives r place (word_at line (start text)) → is_ok r ≡ false → (left : ℕ) × (word_in line text ≡ Err left)
front_no line text (Ok x) place g e = absurd cc
front_no line text (Err stuck) place g e = placed_err (length text) (word_in line text) stuck.left g

pub owes : (at : ℕ) (owed : List ℕ) → at < length owed → is_empty (drop at owed) ≡ false
owes at [] lt = absurd (omega arith)
owes zero (b ∷ owed) lt = refl
owes (suc at) (b ∷ owed) lt = owes at owed (omega arith)
