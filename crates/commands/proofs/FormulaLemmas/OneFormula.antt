-- A text spells one formula, or has one first fault.
use Rattle.std.proofs.Common.{◌≡◌, ℕ, List, Ok, Err, sym, ap, ◌∙◌}
use Rattle.spl_text.proofs.Answering.{line_once}
use Rattle.spl_text.proofs.FirstFault.{first_once}
use Rattle.commands.specs.Input.Commands.{admitted, first_stranger}
use Rattle.commands.specs.Equations.Formulas.{formed, written}
use Rattle.spiral_words.specs.Statuses.Fault.{status_of_spl}
use Rattle.commands.proofs.Inputs.Stages.{IsDecided, done, ended, given_decided, bind_decided}

pub written_decided : (text : List ℕ) → IsDecided (written text)
written_decided text (Ok a) (Ok b) p q = ap done (line_once text a b p.spelt q.spelt)
written_decided text (Ok a) (Err t) p q = absurd (p.faultless q.0 q.1.0 q.1.1)
written_decided text (Err s) (Ok b) p q = absurd (q.faultless p.0 p.1.0 p.1.1)
written_decided text (Err s) (Err t) p q = ap ended (p.2 ∙ ap status_of_spl (first_once text p.0 q.0 p.1 q.1) ∙ sym q.2)

pub formed_decided : (names text : List ℕ) → IsDecided (formed names text)
formed_decided names text = bind_decided (written text) _ (written_decided text) (λ formula. given_decided (admitted (first_stranger names 1) 1 formula))
