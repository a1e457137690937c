-- Texts of vectors of which the last was not written whole.
use Rattle.std.proofs.Common.{◌≡◌, ◌<◌, ℕ, List, [], ◌∷◌, ◌++◌, Err, Result, length, take, drop, refl, sym, ap}
use Rattle.std.proofs.Common.{subst, ◌∙◌, append_assoc, take-append-drop, inl, inr}
use Rattle.std.proofs.KnownBytes.{Appends-trans}
use Rattle.std.proofs.lemmas.Bool.{cases_lt}
use Rattle.std.proofs.lemmas.List.{length-take-le}
use Rattle.std.specs.declared.option.Option.{Option}
use Rattle.std.specs.Io.KnownBytes.{Appends}
use Rattle.io_edge.specs.Taken.{AppendsPrefix}
use Rattle.data_stream.specs.Reading.{residues}
use Rattle.runs.proofs.StreamLemmas.{texts-push, texts_same, vectors_few, vectors_more}
use Rattle.runs.specs.Stream.{FailsAtLast, Writes, texts, vectors_of}
use Rattle.runs.specs.declared.stream.StreamFault.{StreamFault}
use Rattle.runs.specs.declared.stream.StreamFault.TheVariants.{WriteFault}

-- after a front the output took a prefix of the texts of all vectors, which begins with those of all but the last
pub cut_behind : (text : List ℕ → List ℕ) (vectors : List (List ℕ)) (front : List ℕ) (start out after : Option (List ℕ))
    → Appends start out front → (f : FailsAtLast text vectors out after)
    → (took : AppendsPrefix start after (front ++ texts text vectors))
    × (took.front ≡ (front ++ texts text f.ahead) ++ f.cut.front)
cut_behind text vectors front start out after begun f =
    let ahead : List ℕ = texts text f.ahead in
    let all : texts text vectors ≡ ahead ++ (f.cut.front ++ f.cut.rest) =
    ap (texts text) f.whole ∙ texts-push text f.ahead f.last ∙ ap (λ l. ahead ++ l) f.cut.whole in (
      record {
        front = (front ++ ahead) ++ f.cut.front;
        rest = f.cut.rest;
        whole = ap (λ l. front ++ l) all ∙ sym (append_assoc front ahead (f.cut.front ++ f.cut.rest))
            ∙ sym (append_assoc (front ++ ahead) f.cut.front f.cut.rest);
        appends = Appends-trans start f.mid after (front ++ ahead) f.cut.front
            (Appends-trans start out f.mid front ahead begun f.took) f.cut.appends;
      },
      refl,
    )

-- texts that are the same, vector by vector
pub writes_same : (text text' : List ℕ → List ℕ) → ((x : List ℕ) → text x ≡ text' x) → (vectors : List (List ℕ))
    (before after : Option (List ℕ)) (result : Result (Unit {0}) StreamFault)
    → Writes before after result text vectors → Writes before after result text' vectors
writes_same text text' same vectors before after (Err WriteFault) f = record {
  ahead = f.ahead;
  last = f.last;
  whole = f.whole;
  mid = f.mid;
  took = subst (Appends before f.mid) (texts_same text text' same f.ahead) f.took;
  cut = subst (AppendsPrefix f.mid after) (same f.last) f.cut;
}
writes_same text text' same vectors before after result w =
    subst (Appends before after) (texts_same text text' same vectors) w

first_same : (x y : List ℕ) (xs ys : List (List ℕ)) → x ∷ xs ≡ y ∷ ys → (x ≡ y) × (xs ≡ ys)
first_same x y xs ys e = (cc, cc)

-- the vectors before the last are the whole vectors of some tokens
pub vectors_ahead : (size modulus : ℕ) (ts ahead : List (List ℕ)) (last : List ℕ) → 0 < size →
    vectors_of size modulus ts ≡ ahead ++ last ∷ [] → (us : List (List ℕ)) × (vectors_of size modulus us ≡ ahead)
vectors_ahead size modulus ts [] last some e = ([], vectors_few size modulus [] some)
vectors_ahead size modulus ts (x ∷ ahead) last some e =
    elim (cases_lt (length ts) size) [
      | inl few ↦ absurd (let none = vectors_few size modulus ts few in cc)
      | inr full ↦
          let us = take size ts in
          let here : length us ≡ size = length-take-le size ts full in
          let cut = sym (vectors_more size modulus us (drop size ts) some here)
          ∙ ap (vectors_of size modulus) (take-append-drop size ts) ∙ e in
          let parts = first_same (residues modulus us) x _ _ cut in
          let later = vectors_ahead size modulus (drop size ts) ahead last some parts.1 in (
            us ++ later.0,
            vectors_more size modulus us later.0 some here ∙ ap (λ v. v ∷ vectors_of size modulus later.0) parts.0
                ∙ ap (λ l. x ∷ l) later.1,
          )
    ]
