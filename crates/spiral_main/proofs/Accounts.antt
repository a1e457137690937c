-- From what a command does to the account of the whole call.
use Rattle.std.proofs.Common.{◌≡◌, ◌≤◌, ◌++◌, ℕ, List, [], Some, Err, length, refl, sym, ap, subst, inl, inr}
use Rattle.std.proofs.Common.{◌+◌, append_assoc, arith, false, length-append, true}
use Rattle.std.specs.declared.option.Option.{Option}
use Rattle.io_edge.specs.Feed.{Fed, limit, most_held, to_come}
use Rattle.io_edge.specs.Told.{Tells, Told, rest_of}
use Rattle.io_edge.proofs.ToldLemmas.{Gives-nil, gives_held, gives_told, tells_held}
use Rattle.spiral_words.specs.Asked.{IsAsked}
use Rattle.spiral_words.specs.Statuses.Status.{IsDefined}
use Rattle.spiral_words.specs.declared.Command.{Command}
use Rattle.spiral_words.specs.declared.Command.TheVariants.{ByRequest, ByFormula, ByListing, ByList}
use Rattle.spiral_words.specs.declared.Document.TheVariants as document
use Rattle.spiral_words.specs.declared.FormulaCommand.TheVariants.{Compile, Apply}
use Rattle.spiral_words.specs.declared.RequestCommand.TheVariants.{Writes, Runs, Traces, Judges}
use Rattle.spiral_words.specs.declared.statuses.status.Status.{Status}
use Rattle.spiral_words.specs.declared.statuses.status.Status.TheVariants.{NoMemory, ReadFault}
use Rattle.commands.specs.Equations.Commands.{outcomes_of}
use Rattle.commands.specs.Input.Commands.{commanded}
use Rattle.commands.specs.Input.Outcomes.{Meets, Outcomes, SourceMeets}
use Rattle.commands.specs.Input.Refusals.{IsEarly}
use Rattle.commands.proofs.Inputs.OutcomeLemmas.{all_few, meets_nothing}
use Rattle.commands.proofs.Inputs.Within.{Within, meets_within, told_within}
use Rattle.spiral_main.specs.Outcome.{Accounts, AccountsFor, CallMeetsFor, call_outcomes}

-- no command reads past the byte behind the limit
commands_read : (command : Command) → (outcomes_of command).most ≤ limit + 1
commands_read (ByRequest (Writes document.Plan)) = all_few limit
commands_read (ByRequest (Writes document.Formula)) = all_few limit
commands_read (ByRequest (Writes document.Code)) = all_few limit
commands_read (ByRequest (Writes document.C)) = all_few limit
commands_read (ByRequest (Writes document.Cert)) = all_few limit
commands_read (ByRequest (Writes (document.Sample seed schedule))) = all_few limit
commands_read (ByRequest (Runs order)) = all_few limit
commands_read (ByRequest (Traces order)) = all_few limit
commands_read (ByRequest Judges) = all_few limit
commands_read (ByFormula m Compile) = all_few limit
commands_read (ByFormula m (Apply schedule)) = all_few limit
commands_read (ByListing schedule) = all_few limit
commands_read (ByList schedule false) = all_few limit
commands_read (ByList schedule true) = all_few limit

-- what is right for the command that the words ask for is right for the call
pub called : (words : List (List ℕ)) (wanted : Command) → IsAsked words wanted →
    Within (outcomes_of wanted) (call_outcomes words)
called words wanted asked = record {
  most = commands_read wanted;
  answer = λ bytes s t p. inr (wanted, asked, p);
  broken = λ read ended t p. (wanted, asked, p);
  cut = λ read left t taken p. (wanted, asked, p);
}

-- a call that reads nothing
unread : (outcomes : Outcomes) (input : Told) (out : Option (List ℕ)) (status : Status)
    → ((bytes : List ℕ) → Meets outcomes bytes bytes input.ended out out status)
    → CallMeetsFor outcomes input input out out status
unread outcomes input out status p = record {
  used = [];
  held = [];
  gave = Gives-nil input;
  within = omega arith;
  few = omega arith;
  none = λ _. refl;
  meets = λ rest tells. p rest;
}

-- what the feed holds is left for the feed, and was read from the source
by_source : (outcomes : Outcomes) (input input' : Told) (first feed : Fed) (out out' : Option (List ℕ))
    (status : Status)
    → first.held ≡ [] → length feed.held ≤ most_held → (status ≡ ReadFault → feed.held ≡ [])
    → SourceMeets outcomes (to_come first input) (to_come feed input') out out' status
    → CallMeetsFor outcomes input input' out out' status
by_source outcomes input input' first feed out out' status fresh few none p = record {
  used = p.read;
  held = feed.held;
  gave = gives_held input input' first feed p.read p.consumed fresh;
  within = p.few;
  few = few;
  none = none;
  meets = λ rest tells. p.meets (feed.held ++ rest) (tells_held feed.held (rest_of input') rest tells);
}

-- a command that the words ask for, whose feed held nothing at first
pub command_told : (words : List (List ℕ)) (given wanted : Command) (first feed : Fed)
    (input input' : Told) (out out' : Option (List ℕ)) (status : Status)
    → first ≡ record { held = []; taken = 0 } → IsAsked words given → given ≡ wanted
    → length feed.held ≤ most_held → (status ≡ ReadFault → feed.held ≡ [])
    → SourceMeets (outcomes_of wanted) (to_come first input) (to_come feed input') out out' status
    → CallMeetsFor (call_outcomes words) input input' out out' status
command_told words given wanted first feed input input' out out' status fresh asked is few empty told =
    by_source (call_outcomes words) input input' first feed out out' status (ap (λ (f : Fed). f.held) fresh) few empty
    (told_within (outcomes_of wanted) (call_outcomes words) (to_come first input) (to_come feed input') out out' status
    (called words wanted (subst (λ (k : Command). IsAsked words k) is asked)) told)

-- a call that ends with the words
pub accounted_words : (words : List (List ℕ)) (input : Told) (out : Option (List ℕ)) (status : Status)
    → (IsDefined status → commanded words (Err status)) → IsEarly status
    → CallMeetsFor (call_outcomes words) input input out out status
accounted_words words input out status refused early = unread (call_outcomes words) input out status (λ bytes.
    meets_nothing (call_outcomes words) bytes bytes input.ended out status
    (λ d. inl (refused d, refl)) early.read early.write)

-- and one that has no memory to begin with
pub accounted_nothing : (words : List (List ℕ)) (input : Told) (out : Option (List ℕ))
    → CallMeetsFor (call_outcomes words) input input out out NoMemory
accounted_nothing words input out = unread (call_outcomes words) input out NoMemory (λ bytes.
    meets_nothing (call_outcomes words) bytes bytes input.ended out NoMemory (λ d. absurd (d.memory refl)) (λ e. cc)
    (λ e. cc))

-- more is right for the call
pub call_within : (a b : Outcomes) (before left : Told) (out out' : Option (List ℕ)) (status : Status) → Within a b
    → CallMeetsFor a before left out out' status → CallMeetsFor b before left out out' status
call_within a b before left out out' status w m = record {
  used = m.used;
  held = m.held;
  gave = m.gave;
  within = omega (arith, m.within, w.most);
  few = m.few;
  none = m.none;
  meets = λ rest tells.
      meets_within a b (m.used ++ (m.held ++ rest)) (m.held ++ rest) left.ended out out' status w (m.meets rest tells);
}

-- of an input that may have these bytes left
pub told_left : (words : List (List ℕ)) (input input' : Told) (before after : Option (List ℕ)) (status : Status)
    (told : AccountsFor words input input' before after status) (left : List ℕ) → Tells (rest_of input') left
    → Accounts words ((told.used ++ told.held) ++ left) left input'.ended before after status
told_left words input input' before after status told left tells = record {
  held = told.held;
  few = told.few;
  none = told.none;
  within =
      let all = length-append (told.used ++ told.held) left in
      let read = length-append told.used told.held in
      let rest = length-append told.held left in
      omega (arith, told.within, all, read, rest);
  meets =
      subst (λ (b : List ℕ). Meets (call_outcomes words) b (told.held ++ left) input'.ended before after status)
      (sym (append_assoc told.used told.held left)) (told.meets left tells);
}

-- of an input that tells its bytes
pub told_input : (words : List (List ℕ)) (bytes : List ℕ) (input input' : Told) (before after : Option (List ℕ))
    (status : Status)
    → rest_of input ≡ Some bytes → AccountsFor words input input' before after status
    → (rest : List ℕ) × (rest_of input' ≡ Some rest) × Accounts words bytes rest input'.ended before after status
told_input words bytes input input' before after status tells p =
    let left = gives_told input input' bytes (p.used ++ p.held) tells p.gave in (
      left.0,
      left.1,
      subst (λ (b : List ℕ). Accounts words b left.0 input'.ended before after status) (sym left.2)
          (told_left words input input' before after status p left.0
          (subst (λ (k : Option (List ℕ)). Tells k left.0) (sym left.1) refl)),
    )
