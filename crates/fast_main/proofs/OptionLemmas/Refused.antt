-- What clap's clauses say of the one simple command.
use Rattle.std.proofs.Common.{◌≡◌, List, [], ◌∷◌, true, false, refl, sym, ap, ap₂, ◌∙◌, inl, inr, arith}
use Rattle.std.proofs.lemmas.Bool.Decides.{nat_tests}
use Rattle.clap.specs.Words.{App, Text, HasKind, HasMatchesOf, IsAmong, Kinds, fault_of, found_of, is_simple}
use Rattle.clap.specs.Words.{is_simple_and_free, kind_of, matches_of, rows_of}
use Rattle.clap.specs.Walk.{is_empty}
use Rattle.clap.specs.declared.Error.{Error}
use Rattle.clap.specs.declared.ArgMatches.{ArgMatches}
use Rattle.clap.specs.declared.error.ErrorKind.TheVariants as kind
use Rattle.clap.proofs.OnLiterals.{clap_on_literals}
use Rattle.fast_main.specs.Options.CommandLine.{fast_app}

pub simple : is_simple fast_app ≡ true
unfolding clap_on_literals
simple = refl

pub simple_and_free : is_simple_and_free fast_app ≡ true
unfolding clap_on_literals
simple_and_free = refl

has_some : (e : Error) (kinds : Kinds) → IsAmong (kind_of e) kinds → is_empty kinds ≡ false
has_some e [] h = absurd h
has_some e (k ∷ kinds) h = grind (arith, nat_tests)

module _ (a : App) (read words : List Text) (is : a ≡ fast_app) (same : read ≡ words) where
  -- an error other than of memory shows that the words are refused
  pub refused : (e : Error) → (is_simple_and_free a ≡ true → HasKind (fault_of a read) e) →
      (kind_of e ≡ kind.OutOfMemory → ⊥) → is_empty (fault_of fast_app words) ≡ false
  refused e h other =
      let fails : HasKind (fault_of a read) e = h (ap is_simple_and_free is ∙ simple_and_free) in
      let some : is_empty (fault_of a read) ≡ false = elim fails [
        | inl memory ↦ absurd (other memory)
        | inr among ↦ has_some e (fault_of a read) among
      ] in
      ap₂ (λ b ws. is_empty (fault_of b ws)) (sym is) (sym same) ∙ some

  -- and with no error they are not
  pub taken : (is_simple_and_free a ≡ true → fault_of a read ≡ []) → is_empty (fault_of fast_app words) ≡ true
  taken h =
      let none : is_empty (fault_of a read) ≡ true = ap is_empty (h (ap is_simple_and_free is ∙ simple_and_free)) in
      ap₂ (λ b ws. is_empty (fault_of b ws)) (sym is) (sym same) ∙ none

  -- what clap found is what the command finds
  pub found : (m : ArgMatches) → HasMatchesOf a read m → rows_of (found_of m) ≡ matches_of fast_app words
  found m h = (h (ap is_simple is ∙ simple)).0 ∙ ap₂ matches_of is same
