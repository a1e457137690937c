-- Bytes that are given, held and left.
use Rattle.std.proofs.Common.{◌≡◌, Bool, ℕ, List, [], ◌++◌, None, Some, refl, sym, ap, subst, ◌∙◌}
use Rattle.std.proofs.Common.{append_assoc, append-nil}
use Rattle.std.specs.declared.option.Option.{Option}
use Rattle.std.specs.Io.KnownBytes as known_bytes
use Rattle.std.specs.Io.KnownBytes.{prepend_known}
use Rattle.std.proofs.KnownBytes as bytes
use Rattle.io_edge.specs.Feed.{Fed, to_come}
use Rattle.io_edge.specs.Told.{Coming, Consumes, Gives, IsOver, Keeps, Tells, Told, known, left_of, rest_of}

pub Consumes-nil : (a : Coming) → Consumes a a []
Consumes-nil a = record {
  left = bytes.Consumes-nil (known a);
  given = λ used is. is ∙ ap (λ l. l ++ a.held) (sym (append-nil used));
  ended = λ ends. ends;
}

pub Consumes-trans : (a b c : Coming) (bs cs : List ℕ) → Consumes a b bs → Consumes b c cs → Consumes a c (bs ++ cs)
Consumes-trans a b c bs cs p q = record {
  left = bytes.Consumes-trans (known a) (known b) (known c) bs cs p.left q.left;
  given = λ used is.
      q.given (used ++ bs) (p.given used is) ∙ ap (λ l. l ++ c.held) (append_assoc used bs cs);
  ended = λ ends. q.ended (p.ended ends);
}

pub Consumes-kept : (a b c : Coming) (bs : List ℕ) → Consumes a b bs → Keeps b c → Consumes a c bs
Consumes-kept a b c bs p q = subst (Consumes a c) (append-nil bs) (Consumes-trans a b c bs [] p q)

over_known : (coming : Coming) → IsOver coming → known coming ≡ Some []
over_known coming over =
    ap (λ (e : Bool). prepend_known coming.held (left_of e coming.told.left)) over.1
    ∙ ap (λ (h : List ℕ). Some (h ++ [])) over.0

-- what is over has nothing left
pub over_left : (coming : Coming) (left : List ℕ) → Tells (known coming) left → IsOver coming → left ≡ []
over_left coming left tells over = subst (λ k. Tells k left) (over_known coming over) tells

nothing_read : (after : Option (List ℕ)) (read left : List ℕ) → known_bytes.Consumes (Some []) after read
    → Tells after left
    → read ++ left ≡ []
nothing_read None read left consumed tells = absurd consumed
nothing_read (Some rest) read left consumed tells = ap (λ l. read ++ l) tells ∙ sym consumed

-- and had nothing to read
pub over_rest : (before after : Coming) (read left : List ℕ) → Consumes before after read → Tells (known after) left
    → IsOver before → read ++ left ≡ []
over_rest before after read left consumed tells over = nothing_read (known after) read left
    (subst (λ k. known_bytes.Consumes k (known after) read) (over_known before over) consumed.left) tells

-- what is held comes before what the source has left
pub tells_held : (held : List ℕ) (source : Option (List ℕ)) (left : List ℕ) → Tells source left
    → Tells (prepend_known held source) (held ++ left)
tells_held held None left tells = tt
tells_held held (Some bytes) left tells = ap (λ l. held ++ l) tells

known_held : (before source : Option (List ℕ)) (read held : List ℕ)
    → known_bytes.Consumes before (prepend_known held source) read → known_bytes.Consumes before source (read ++ held)
known_held None source read held consumed = tt
known_held (Some bytes) None read held consumed = absurd consumed
known_held (Some bytes) (Some rest) read held consumed = consumed ∙ sym (append_assoc read held rest)

-- by a feed that held nothing the source gave what was read and what is held
pub gives_held : (before after : Told) (old new : Fed) (read : List ℕ)
    → Consumes (to_come old before) (to_come new after) read → old.held ≡ [] → Gives before after (read ++ new.held)
gives_held before after old new read consumed none = record {
  given = consumed.given before.given
      (sym (append-nil before.given) ∙ ap (λ (h : List ℕ). before.given ++ h) (sym none))
      ∙ append_assoc before.given read new.held;
  left = known_held (rest_of before) (rest_of after) read new.held
      (subst (λ k. known_bytes.Consumes k (prepend_known new.held (rest_of after)) read)
      (ap (λ (h : List ℕ). prepend_known h (rest_of before)) none ∙ bytes.prepend_known-nil (rest_of before))
      consumed.left);
  ended = consumed.ended;
}

-- a source of which nothing was read
pub Gives-nil : (told : Told) → Gives told told []
Gives-nil told = record {
  given = sym (append-nil told.given);
  left = bytes.Consumes-nil (rest_of told);
  ended = λ ends. ends;
}

told_after : (rest : Option (List ℕ)) (bytes read : List ℕ) → known_bytes.Consumes (Some bytes) rest read
    → (left : List ℕ) × (rest ≡ Some left) × (bytes ≡ read ++ left)
told_after None bytes read consumed = absurd consumed
told_after (Some left) bytes read consumed = (left, refl, consumed)

-- a source that tells its bytes tells what is left of them
pub gives_told : (before after : Told) (bytes read : List ℕ) → rest_of before ≡ Some bytes → Gives before after read
    → (left : List ℕ) × (rest_of after ≡ Some left) × (bytes ≡ read ++ left)
gives_told before after bytes read tells gives = told_after (rest_of after) bytes read
    (subst (λ k. known_bytes.Consumes k (rest_of after) read) tells gives.left)
