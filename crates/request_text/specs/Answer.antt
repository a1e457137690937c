-- What is answered for a line.
use Rattle.std.specs.Prelude.{◌≡◌, ℕ, List, Result, Ok, Err}
use Rattle.matrix_meaning.specs.declared.Request.{Request}
use Rattle.grammar.specs.Grammar.{IsStuck}
use Rattle.request_text.specs.declared.fault.RequestFault.{RequestFault}
use Rattle.request_text.specs.declared.fault.RequestFault.TheVariants.{Syntax}
use Rattle.request_text.specs.ConvLine.{conv_line}
use Rattle.request_text.specs.Limits.{judged, judged_conv}
use Rattle.request_text.specs.Line.{request_line}

-- some request has this line and this first fault
abbrev pub HasFault : (List ℕ → Request → Type 0) → (Request → Result Request RequestFault) → List ℕ → RequestFault →
    Type 0
HasFault spells judge text fault = (r : Request) × spells text r × (judge r ≡ Err fault)

-- Ok: the line spells the request, which has no fault. Syntax: the line spells no request, and the longest front of it
-- with which some spelling begins has this length. Else: it spells a request whose first fault this is.
abbrev pub AnswersBy : (List ℕ → Request → Type 0) → (Request → Result Request RequestFault) →
    List ℕ → Result Request RequestFault → Type 0
AnswersBy spells judge text (Ok r) = spells text r × (judge r ≡ Ok r)
AnswersBy spells judge text (Err (Syntax at)) = IsStuck spells text at
AnswersBy spells judge text (Err fault) = HasFault spells judge text fault

-- the answer for a request line
abbrev pub Answers : List ℕ → Result Request RequestFault → Type 0
Answers = AnswersBy request_line judged

-- the answer for the line of a convolution
abbrev pub ConvAnswers : List ℕ → Result Request RequestFault → Type 0
ConvAnswers = AnswersBy conv_line judged_conv
