-- An outcome of words that ask for a command is an answer of this command, and words and bytes have one.
use Rattle.std.proofs.Common.{◌≡◌, ℕ, List, Ok, Err, sym, ap, ◌∙◌}
use Rattle.spiral_words.specs.Asked.{IsAsked}
use Rattle.spiral_words.specs.declared.Command.{Command}
use Rattle.spiral_words.proofs.OneCommand.{asked_once}
use Rattle.spiral_words.specs.declared.statuses.status.Status.{Status}
use Rattle.commands.specs.Equations.Commands.{outcomes_of}
use Rattle.commands.specs.Input.Commands.{commanded}
use Rattle.commands.proofs.Inputs.Stages.{IsDecided, done, ended, answer_for, of_answers}
use Rattle.spiral_main.specs.Outcome.{IsOutcome}
use Rattle.spiral_main.proofs.OneAnswer.{command_one}

commanded_decided : (words : List (List ℕ)) → IsDecided (commanded words)
commanded_decided words (Ok a) (Ok b) p q = ap done (asked_once words a b p q)
commanded_decided words (Ok a) (Err t) p q = absurd (q.1 a p)
commanded_decided words (Err s) (Ok b) p q = absurd (p.1 b q)
commanded_decided words (Err s) (Err t) p q = ap ended (p.0 ∙ sym q.0)

pub outcome_of : (words : List (List ℕ)) (bytes : List ℕ) (wanted : Command) (s : Status) (t : List ℕ)
    → IsAsked words wanted → IsOutcome words bytes s t
    → (outcomes_of wanted).answer bytes s t
outcome_of words bytes wanted s t asked p =
    answer_for (commanded words) (λ (c : Command). (outcomes_of c).answer bytes) wanted s t (commanded_decided words) asked p

pub one_status : (words : List (List ℕ)) (bytes : List ℕ) (a b : Status) (s t : List ℕ) → IsOutcome words bytes a s
    → IsOutcome words bytes b t → a ≡ b
one_status words bytes a b s t =
    of_answers (a ≡ b) (commanded words) (λ (c : Command). (outcomes_of c).answer bytes) a b s t (commanded_decided words) (λ same _. same)
    (λ c _ p q. (command_one c).status bytes a b s t p q)

pub one_text : (words : List (List ℕ)) (bytes : List ℕ) (a b : Status) (s t : List ℕ) → IsOutcome words bytes a s
    → IsOutcome words bytes b t → s ≡ t
one_text words bytes a b s t =
    of_answers (s ≡ t) (commanded words) (λ (c : Command). (outcomes_of c).answer bytes) a b s t (commanded_decided words) (λ _ same. same)
    (λ c _ p q. (command_one c).text bytes a b s t p q)
