-- Words ask for one command.
use Rattle.std.proofs.Common.{◌≡◌, ℕ, ◌^◌, List, [], ◌∷◌, ◌++◌, Bool, true, false, refl, sym, ap}
use Rattle.std.proofs.Common.{ap₂, subst, ◌∙◌, codes, arith, inl, inr}
use Rattle.clap.specs.Words.{Row, Text}
use Rattle.grammar.specs.Grammar.{Judges, number, one_of}
use Rattle.icode.specs.declared.event.Event.{Event}
use Rattle.schedules.specs.Mix.{mix_word}
use Rattle.schedules.specs.Schedule.{Plan, schedule_word}
use Rattle.schedules.proofs.MixWord.{mix_judges}
use Rattle.schedules.proofs.ScheduleWord.{word_judges}
use Rattle.request_text.proofs.OneAnswer.{judged_once}
use Rattle.spiral_words.proofs.NumberWord.{seed_judges, small_judges}
use Rattle.spiral_words.specs.declared.app.OptionName.TheVariants as option
use Rattle.spiral_words.specs.declared.command.Command.{Command}
use Rattle.spiral_words.specs.declared.command.Command.TheVariants.{ByRequest, ByFormula, ByListing, ByList}
use Rattle.spiral_words.specs.declared.command.RequestCommand.TheVariants.{Writes, Runs, Traces}
use Rattle.spiral_words.specs.declared.command.RequestCommand.TheVariants as request
use Rattle.spiral_words.specs.declared.command.Document.TheVariants as document
use Rattle.spiral_words.specs.declared.command.FormulaCommand.TheVariants.{Compile, Apply}
use Rattle.spiral_words.specs.declared.command.Order.{Order}
use Rattle.spiral_words.specs.declared.command.Order.TheVariants as order
use Rattle.spiral_words.specs.CommandLine.{is_given, text_of}
use Rattle.spiral_words.specs.Asked.{AsksOrder, IsAsked, Means, SpellsOrder, modulus_word, seed_word}
use Rattle.spiral_words.proofs.Meanings.{plan_only, formula_only, code_only, c_only, cert_only, check_only, sample_only}
use Rattle.spiral_words.proofs.Meanings.{run_only, trace_only, compile_only, apply_only, exec_only, convolve_only}
use Rattle.spiral_words.proofs.Decided.{some_same}

seed_once : (word : List ℕ) (s t : ℕ) → seed_word word s → seed_word word t → s ≡ t
seed_once word s t p q = judged_once seed_word word _ s t (seed_judges word _ refl) p q

modulus_once : (word : List ℕ) (s t : ℕ) → modulus_word word s → modulus_word word t → s ≡ t
modulus_once word s t p q = judged_once (number (2 ^ 62)) word _ s t (small_judges word _ refl) p.0 q.0

pub schedule_once : (word : List ℕ) (s t : Plan) → schedule_word word s → schedule_word word t → s ≡ t
schedule_once word s t p q = judged_once schedule_word word _ s t (word_judges word _ refl) p q

pub mix_once : (word : List ℕ) (s t : List Event) → mix_word word s → mix_word word t → s ≡ t
mix_once word s t p q = judged_once mix_word word _ s t (mix_judges word _ refl) p q

-- ---- no word spells a schedule, and turns and drains

abbrev first_letter : List ℕ → ℕ
first_letter [] = 0
first_letter (x ∷ text) = x

mix_letter : (word : List ℕ) (events : List Event) → mix_word word events → first_letter word ≡ 109
mix_letter word events l = ap (λ (w : List ℕ). first_letter w) (l.whole ∙ ap (λ (w : List ℕ). w ++ l.rest) l.begins)

other_letter : (front rest w : List ℕ) → front ≡ w → first_letter (front ++ rest) ≡ 109 → first_letter (w ++ rest) ≡ 109
other_letter front rest w is e = subst (λ (u : List ℕ). first_letter (u ++ rest) ≡ 109) is e

form_letter : {F : Type 0} (front rest : List ℕ) (a b c d form : F) →
    one_of ((codes "seq", a) ∷ (codes "rr:", b) ∷ (codes "turns:", c) ∷ (codes "seed:", d) ∷ []) front form →
    first_letter (front ++ rest) ≡ 109 → ⊥
form_letter front rest a b c d form (inl p) e = absurd (omega (arith, other_letter front rest (codes "seq") p.0 e))
form_letter front rest a b c d form (inr (inl p)) e = absurd (omega (arith, other_letter front rest (codes "rr:") p.0 e))
form_letter front rest a b c d form (inr (inr (inl p))) e = absurd (omega (arith, other_letter front rest (codes "turns:") p.0 e))
form_letter front rest a b c d form (inr (inr (inr (inl p)))) e = absurd (omega (arith, other_letter front rest (codes "seed:") p.0 e))
form_letter front rest a b c d form (inr (inr (inr (inr p)))) e = p

pub not_both : (word : List ℕ) (schedule : Plan) (events : List Event) → schedule_word word schedule →
    mix_word word events → ⊥
not_both word schedule events p q =
    form_letter p.front p.rest _ _ _ _ p.spelt p.begins (ap (λ (w : List ℕ). first_letter w) (sym p.whole) ∙ mix_letter word events q)

order_once : (buffers : Bool) (word : Text) (a b : Order) → SpellsOrder buffers word a → SpellsOrder buffers word b →
    a ≡ b
order_once false word (order.Turns s) (order.Turns t) p q = ap order.Turns (schedule_once word s t p q)
order_once false word (order.Turns s) (order.Buffered t) p q = absurd q
order_once false word (order.Turns s) (order.Mixed t) p q = absurd q
order_once false word (order.Buffered s) b p q = absurd p
order_once false word (order.Mixed s) b p q = absurd p
order_once true word (order.Turns s) b p q = absurd p
order_once true word (order.Buffered s) (order.Turns t) p q = absurd q
order_once true word (order.Buffered s) (order.Buffered t) p q = ap order.Buffered (schedule_once word s t p q)
order_once true word (order.Buffered s) (order.Mixed t) p q = absurd (not_both word s t p q)
order_once true word (order.Mixed s) (order.Turns t) p q = absurd q
order_once true word (order.Mixed s) (order.Buffered t) p q = absurd (not_both word t s q p)
order_once true word (order.Mixed s) (order.Mixed t) p q = ap order.Mixed (mix_once word s t p q)

asks_once : (rows : List Row) (a b : Order) → AsksOrder rows a → AsksOrder rows b → a ≡ b
asks_once rows = order_once (is_given option.Buffers rows) (text_of option.Schedule rows)

-- ---- commands

means_once : (name : Text) (rows : List Row) (a b : Command) → Means name rows a → Means name rows b → a ≡ b
means_once name rows (ByRequest (Writes document.Plan)) b p q = sym (plan_only rows b (subst (λ n. Means n rows b) p q))
means_once name rows (ByRequest (Writes document.Formula)) b p q = sym (formula_only rows b (subst (λ n. Means n rows b) p q))
means_once name rows (ByRequest (Writes document.Code)) b p q = sym (code_only rows b (subst (λ n. Means n rows b) p q))
means_once name rows (ByRequest (Writes document.C)) b p q = sym (c_only rows b (subst (λ n. Means n rows b) p q))
means_once name rows (ByRequest (Writes document.Cert)) b p q = sym (cert_only rows b (subst (λ n. Means n rows b) p q))
means_once name rows (ByRequest request.Judges) b p q = sym (check_only rows b (subst (λ n. Means n rows b) p q))
means_once name rows (ByRequest (Writes (document.Sample seed schedule))) b p q =
    let r = sample_only rows b (subst (λ n. Means n rows b) p.0 q) in
    let same = ap₂ document.Sample (seed_once (text_of option.Seed rows) seed r.0 p.1 r.3) (schedule_once (text_of option.Schedule rows) schedule r.1 p.2 r.4) in
    ap (λ d. ByRequest (Writes d)) same ∙ sym r.2
means_once name rows (ByRequest (Runs order)) b p q =
    let r = run_only rows b (subst (λ n. Means n rows b) p.0 q) in
    ap (λ o. ByRequest (Runs o)) (asks_once rows order r.0 p.1 r.2) ∙ sym r.1
means_once name rows (ByRequest (Traces order)) b p q =
    let r = trace_only rows b (subst (λ n. Means n rows b) p.0 q) in
    ap (λ o. ByRequest (Traces o)) (asks_once rows order r.0 p.1 r.2) ∙ sym r.1
means_once name rows (ByFormula modulus Compile) b p q =
    let r = compile_only rows b (subst (λ n. Means n rows b) p.0 q) in
    ap (λ m. ByFormula m Compile) (modulus_once (text_of option.Modulus rows) modulus r.0 p.1 r.2) ∙ sym r.1
means_once name rows (ByFormula modulus (Apply schedule)) b p q =
    let r = apply_only rows b (subst (λ n. Means n rows b) p.0 q) in
    let same = schedule_once (text_of option.Schedule rows) schedule r.1 p.2 r.4 in
    ap₂ (λ m s. ByFormula m (Apply s)) (modulus_once (text_of option.Modulus rows) modulus r.0 p.1 r.3) same ∙ sym r.2
means_once name rows (ByListing schedule) b p q =
    let r = exec_only rows b (subst (λ n. Means n rows b) p.0 q) in
    ap ByListing (schedule_once (text_of option.Schedule rows) schedule r.0 p.1 r.2) ∙ sym r.1
means_once name rows (ByList schedule as_code) b p q =
    let r = convolve_only rows b (subst (λ n. Means n rows b) p.0 q) in
    ap₂ ByList (schedule_once (text_of option.Schedule rows) schedule r.0 p.1 r.3) (p.2 ∙ sym r.4) ∙ sym r.2

pub asked_once : (words : List Text) (a b : Command) → IsAsked words a → IsAsked words b → a ≡ b
asked_once words a b p q =
    let same : (p.0, p.1) ≡ (q.0, q.1) = some_same (p.0, p.1) (q.0, q.1) (sym p.2 ∙ q.2) in
    means_once q.0 q.1 a b (subst (λ (t : Text × List Row). Means t.0 t.1 a) same p.3) q.3
