-- Where clap takes words, they name a command of the table.
use Rattle.std.proofs.Common.{◌≡◌, List, [], ◌∷◌, Bool, true, false, Option, Some, None, is_some, option_map, find}
use Rattle.std.proofs.Common.{refl, subst, ◌∙◌, arith}
use Rattle.std.specs.List.{Any}
use Rattle.std.proofs.lemmas.Bool.Decides.{nat_tests}
use Rattle.clap.specs.Words.{App, Shape, Row, Text, Kinds, built, fault_of, subcommand_of}
use Rattle.clap.specs.Kinds.{or_else}
use Rattle.clap.specs.Faults.{check_fault, defaults_fault, settle_fault, entered_fault, walk_fault}
use Rattle.clap.specs.Simple.{argument_words, names_of, label_of, entered, rows_at}
use Rattle.clap.specs.Walk.{is_empty, nothing_held, walk, walk_from, finished, settled, answers_to, stop_after}
use Rattle.spiral_words.specs.CommandLine.{commands, found_in, spiral_app}
use Rattle.spiral_words.proofs.Each.{Each}
use Rattle.spiral_words.proofs.Refused.{taken_found}

none_of : (kinds : Kinds) → is_empty kinds ≡ true → kinds ≡ []
none_of [] h = refl
none_of (k ∷ kinds) h = absurd (grind (arith, nat_tests))

last_of : (a b : Kinds) → or_else a b ≡ [] → b ≡ []
last_of [] b h = h
last_of (k ∷ ks) b h = absurd (cc)

wants_command : (s : Shape) (rows : List Row) (b : Bool) → s.subcommand_required ≡ true →
    s.arg_required_else_help ≡ false → check_fault s rows b ≡ [] → b ≡ true
wants_command s rows true required help h = refl
wants_command s rows false required help h = absurd (let e = rw (required, help) at h in cc)

-- where clap takes the words, they name a command
names_one : (words : List Text) → fault_of spiral_app words ≡ [] → is_some (subcommand_of spiral_app words) ≡ true
names_one words h =
    let a : App = built spiral_app in
    let given : List Text = argument_words spiral_app words in
    let read = walk a.top.rules (names_of a) nothing_held given in
    wants_command a.top (finished a.top.rules read.held) (is_some (subcommand_of spiral_app words)) refl refl
    (last_of (defaults_fault (settled a.top.rules read.held).rows a.top.rules) _
    (last_of (settle_fault a.top.rules a.top.args_override_self read.held) _
    (last_of (entered_fault a read.stopped) _
    (last_of (walk_fault a.top (names_of a) (walk_from nothing_held) given) _ h))))

-- ---- the command that they name

among : (P : Shape → Type 0) (p : Shape → Bool) (ss : List Shape) (s : Shape) → Each P ss → find p ss ≡ Some s → P s
among P p [] s h e = absurd (cc)
among P p (x ∷ ss) s h e = at (p x) refl (among P p ss s h.1)
  where
    at : (b : Bool) → p x ≡ b → (find p ss ≡ Some s → P s) → P s
    at true is later = let same : Some x ≡ Some s = rw is at e in subst P (cc) h.0
    at false is later = later (rw is at e)

-- the table has a command of this name
abbrev pub IsKnown : Text → Type 0
IsKnown name = Any (λ row. row.0 ≡ name) commands

known : Each (λ s. IsKnown s.name) (built spiral_app).subs
known = (
  (0, _, omega arith, refl, refl),
  (
    (1, _, omega arith, refl, refl),
    (
      (2, _, omega arith, refl, refl),
      (
        (3, _, omega arith, refl, refl),
        (
          (4, _, omega arith, refl, refl),
          (
            (5, _, omega arith, refl, refl),
            (
              (6, _, omega arith, refl, refl),
              (
                (7, _, omega arith, refl, refl),
                (
                  (8, _, omega arith, refl, refl),
                  (
                    (9, _, omega arith, refl, refl),
                    (
                      (10, _, omega arith, refl, refl),
                      (
                        (11, _, omega arith, refl, refl),
                        (
                          (12, _, omega arith, refl, refl),
                          tt,
                        ),
                      ),
                    ),
                  ),
                ),
              ),
            ),
          ),
        ),
      ),
    ),
  ),
)

some_first : (a b : Text × List Row) → Some a ≡ Some b → a.0 ≡ b.0
some_first a b e = cc

entered_known : (stop : Option (Text × List Text)) (name : Text) (rows : List Row) →
    entered (built spiral_app) stop ≡ Some (name, rows) → IsKnown name
entered_known None name rows is = absurd (cc)
entered_known (Some p) name rows is = at (find (λ s. answers_to p.0 (label_of s)) (built spiral_app).subs) refl is
  where
    at : (f : Option Shape) → find (λ s. answers_to p.0 (label_of s)) (built spiral_app).subs ≡ f →
        option_map (λ s. rows_at s p.1) f ≡ Some (name, rows) → IsKnown name
    at None found is = absurd (cc)
    at (Some s) found is =
        let same : s.name ≡ name = some_first (rows_at s p.1) (name, rows) is in
        subst IsKnown same (among (λ s. IsKnown s.name) (λ s. answers_to p.0 (label_of s)) (built spiral_app).subs s known found)

-- where clap takes the words, they name a command of the table
pub takes_known : (words : List Text) → is_empty (fault_of spiral_app words) ≡ true
    → (name : Text) × (rows : List Row) × (found_in words ≡ Some (name, rows)) × IsKnown name
takes_known words taken = at (subcommand_of spiral_app words) refl (names_one words (none_of (fault_of spiral_app words) taken))
  where
    at : (f : Option (Text × List Row)) → subcommand_of spiral_app words ≡ f → is_some f ≡ true →
        (name : Text) × (rows : List Row) × (found_in words ≡ Some (name, rows)) × IsKnown name
    at None is some = absurd (cc)
    at (Some p) is some =
        let stop = stop_after (built spiral_app).top.rules (names_of (built spiral_app)) (argument_words spiral_app words) in
        (p.0, p.1, taken_found words taken ∙ is, entered_known stop p.0 p.1 is)
