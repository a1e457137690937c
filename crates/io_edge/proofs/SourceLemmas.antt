-- Bytes in memory, as a source tells of them.
use Rattle.std.proofs.Common.{◌≡◌, ◌+◌, ◌≤◌, Bool, true, false, ℕ, List, [], ◌++◌, Some, length, take, drop, refl}
use Rattle.std.proofs.Common.{sym, ap}
use Rattle.std.proofs.Common.{subst, ◌∙◌, rules, arith}
use Rattle.std.proofs.Math.Seq.{take-add}
use Rattle.std.proofs.lemmas.List.{drop-drop, drop_all, take-append-drop}
use Rattle.std.specs.Io.KnownBytes as known_bytes
use Rattle.io_edge.specs.Told.{Gives, Told, left_of}

-- of the bytes so many were given
abbrev pub given_of : List ℕ → ℕ → Bool → Told
given_of items at ended = record { given = take at items; left = Some (drop at items); ended = ended }

-- a source that says that it ends has nothing left
left_is : (ended : Bool) (left : List ℕ) → (ended ≡ true → left ≡ []) → left_of ended (Some left) ≡ Some left
left_is true left none = ap (λ (l : List ℕ). Some l) (sym (none refl))
left_is false left none = refl

-- more of them were given
pub gives_on : (items : List ℕ) (at count : ℕ) (was ended : Bool) (bytes : List ℕ) → bytes ≡ take count (drop at items)
    → (was ≡ true → length items ≤ at) → (ended ≡ true → length items ≤ at + count) → (was ≡ true → ended ≡ true)
    → Gives (given_of items at was) (given_of items (at + count) ended) bytes
gives_on items at count was ended bytes are none now stays =
    let before = left_is was (drop at items) (λ ends. drop_all at items (none ends)) in
    let after = left_is ended (drop (at + count) items) (λ ends. drop_all (at + count) items (now ends)) in
    record {
      given = take-add at count items ∙ ap (λ l. take at items ++ l) (sym are);
      left = subst (λ k. known_bytes.Consumes k (left_of ended (Some (drop (at + count) items))) bytes) (sym before)
          (subst (λ k. known_bytes.Consumes (Some (drop at items)) k bytes) (sym after)
          (sym (take-append-drop count (drop at items))
          ∙ ap (λ l. l ++ drop count (drop at items)) (sym are)
          ∙ ap (λ l. bytes ++ l) (drop-drop count at items)));
      ended = stays;
    }
