-- The texts that are written for a request alone.
use Rattle.std.proofs.Common.{Bool, ◌≡◌, ℕ, List, [], Ok, refl, ap, subst, ◌∙◌}
use Rattle.std.specs.declared.option.Option.{Option}
use Rattle.std.specs.Io.KnownBytes.{Appends}
use Rattle.plan_cert.specs.Table.{IsTableText}
use Rattle.c_print.specs.CText.{c_text_of}
use Rattle.generate.specs.Planned.{IsPlanned}
use Rattle.icode.specs.Program.{plain_program}
use Rattle.icode.specs.declared.program.Program.{Program}
use Rattle.io_edge.specs.Taken.{AppendsPrefix}
use Rattle.listing_text.specs.Listing.{listing_of}
use Rattle.matrix_meaning.specs.declared.Request.{Request}
use Rattle.generate_faults.specs.declared.generate_fault.GenerateFault.{GenerateFault}
use Rattle.generate_faults.specs.declared.generate_fault.GenerateFault.TheVariants as generate
use Rattle.spiral_words.specs.Statuses.Fault.{status_of_generate}
use Rattle.spiral_words.specs.declared.Document.{Document}
use Rattle.spiral_words.specs.declared.Document.TheVariants as document
use Rattle.spiral_words.specs.declared.statuses.status.Status.TheVariants.{Success, WriteFault}
use Rattle.tree_model.specs.Breakdown.{Breakdown}
use Rattle.commands.specs.Equations.Orders.{Planned, chosen}
use Rattle.commands.specs.Equations.Requests.{IsDocument, IsDocumentText, document_work}
use Rattle.commands.specs.Equations.Front.{staged}
use Rattle.commands.specs.Programs.{IsProgramFor}
use Rattle.commands.specs.Input.Outcomes.{Meets}
use Rattle.commands.specs.Input.Refusals.{IsRefusal}
use Rattle.commands.proofs.Inputs.OutcomeLemmas.{answered_meets, cut_meets}
use Rattle.commands.proofs.Inputs.StageLemmas.{stage_meets}

-- a fault of the making refuses the request
pub generate_refusal : (fault : GenerateFault) → IsRefusal (status_of_generate fault)
generate_refusal generate.NoDivide = record { success = λ e. cc; read = λ e. cc; write = λ e. cc; usage = λ e. cc }
generate_refusal fault = record { success = λ e. cc; read = λ e. cc; write = λ e. cc; usage = λ e. cc }

-- the request with its tree
abbrev pub with_tree : Request → Breakdown → Planned
with_tree request tree = record { request = request; tree = tree }

pub document_of : (wanted : Document) (request : Request) (tree : Breakdown) (text : List ℕ)
    → IsPlanned request (Ok tree) → IsDocumentText wanted (with_tree request tree) text → IsDocument wanted request text
document_of wanted request tree text planned told = (with_tree request tree, (refl, planned), told)

-- of a context that is the request
pub certificate_document : (request context : Request) (tree : Breakdown) (text : List ℕ)
    → IsPlanned request (Ok tree) → context ≡ request → IsTableText context text → IsDocument document.Cert request text
certificate_document request context tree text planned same told =
    document_of document.Cert request tree text planned (subst (λ (r : Request). IsTableText r text) same told)

-- of the program that is made
pub listing_document : (request : Request) (program : Program) (text : List ℕ)
    → IsProgramFor request program → text ≡ listing_of (plain_program program) → IsDocument document.Code request text
listing_document request program text made told =
    document_of document.Code request made.0 text made.1 (told ∙ ap listing_of made.2)

pub c_document : (request : Request) (program : Program) (text : List ℕ)
    → IsProgramFor request program → text ≡ c_text_of (plain_program program) → IsDocument document.C request text
c_document request program text made told =
    document_of document.C request made.0 text made.1 (told ∙ ap c_text_of made.2)

-- What the command comes to

pub document_meets : (wanted : Document) (request : Request) (room : ℕ) (bytes left : List ℕ) (ended : Bool)
    (out out' : Option (List ℕ)) (text : List ℕ)
    → IsDocument wanted request text → Appends out out' text
    → Meets (staged (chosen request) (document_work wanted) room) bytes left ended out out' Success
document_meets wanted request room bytes left ended out out' text is wrote =
    stage_meets (chosen request) (document_work wanted) room is.0 bytes left ended out out' Success is.1
    (answered_meets (document_work wanted is.0 room) bytes left ended out out' Success
    (λ d. (text, (refl, is.2), wrote)) (λ e. cc) (λ e. cc))

-- a text that is not written whole
pub document_cut : (wanted : Document) (request : Request) (room : ℕ) (bytes : List ℕ) (ended : Bool)
    (out out' : Option (List ℕ))
    (text : List ℕ)
    → IsDocument wanted request text → AppendsPrefix out out' text
    → Meets (staged (chosen request) (document_work wanted) room) bytes bytes ended out out' WriteFault
document_cut wanted request room bytes ended out out' text is wrote =
    stage_meets (chosen request) (document_work wanted) room is.0 bytes bytes ended out out' WriteFault is.1
    (cut_meets (document_work wanted is.0 room) [] bytes ended text out out' wrote (refl, is.2))
