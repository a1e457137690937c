-- Words of one memory that stand in another.
use Rattle.std.proofs.Common.{◌≡◌, ◌≢◌, ℕ, zero, suc, ◌+◌, ◌==◌, ◌<◌, ◌≤◌, List, [], ◌∷◌, true, length, refl, sym, ap}
use Rattle.std.proofs.Common.{ap₂, ◌∙◌, subst, arith, ⊎_elim, get_or-set_same, get_or-set_other}
use Rattle.std.specs.Prelude.{slice_index, slice_set}
use Rattle.std.proofs.lemmas.Bool.{cases_eq, eqb-true}
use Rattle.std.proofs.lemmas.List.{length-set}
use Rattle.std.proofs.lemmas.List.FromFn.{length-range_with_len, get_or-range_with_len}
use Rattle.icode.specs.Machine.{words_at, with_words}
use Rattle.icode.proofs.Bools.{both_true}
use Rattle.word_code.specs.InPlace.Homes.{Homes, own_homes, is_home, are_home, housed}

-- the words of one memory stand in the other where the homes say
pub record Stands (words : ℕ) (h : Homes) (one other : List ℕ) : Type 0 where
  pub homes : length h.homes ≡ words
  pub guests : length h.guests ≡ words
  pub long : words ≤ length one
  pub same_length : length other ≡ length one
  pub linked : (at to : ℕ) → at < words → to < words → slice_index h.homes at ≡ to → slice_index h.guests to ≡ at →
      slice_index one at ≡ slice_index other to

-- each word at its own address
pub stands_first : (words : ℕ) (memory : List ℕ) → words ≤ length memory → Stands words (own_homes words) memory memory
stands_first words memory long =
    record {
      homes = length-range_with_len 0 words;
      guests = length-range_with_len 0 words;
      long = long;
      same_length = refl;
      linked = λ at to below below_too there back.
          let own = get_or-range_with_len 0 words at 0 below in
          let same : at ≡ to = omega (arith, own, there) in
          ap (slice_index memory) same;
    }

-- one word is put there in both
stands_put : (words at to v : ℕ) (h : Homes) (one other : List ℕ) → at < words → to < words → Stands words h one other →
    Stands words (record { homes = slice_set h.homes at to; guests = slice_set h.guests to at }) (slice_set one at v) (slice_set other to v)
stands_put words at to v h one other inside inside_too stands =
    record {
      homes = length-set h.homes at to ∙ stands.homes;
      guests = length-set h.guests to at ∙ stands.guests;
      long = subst (λ n. words ≤ n) (sym (length-set one at v)) stands.long;
      same_length = length-set other to v ∙ stands.same_length ∙ sym (length-set one at v);
      linked = linked;
    }
  where
    at_it : slice_index (slice_set one at v) at ≡ v
    at_it = get_or-set_same one at v 0 (let a = stands.long in omega arith)

    at_it_too : slice_index (slice_set other to v) to ≡ v
    at_it_too = get_or-set_same other to v 0 (let a = stands.long in let b = stands.same_length in omega arith)

    home : slice_index (slice_set h.homes at to) at ≡ to
    home = get_or-set_same h.homes at to 0 (let a = stands.homes in omega arith)

    guest : slice_index (slice_set h.guests to at) to ≡ at
    guest = get_or-set_same h.guests to at 0 (let a = stands.guests in omega arith)

    here : (p q : ℕ) → p ≡ at → slice_index (slice_set h.homes at to) p ≡ q →
        slice_index (slice_set one at v) p ≡ slice_index (slice_set other to v) q
    here p q same there =
        let same_too : q ≡ to = sym there ∙ ap (slice_index (slice_set h.homes at to)) same ∙ home in
        ap (slice_index (slice_set one at v)) same ∙ at_it ∙ sym at_it_too ∙ sym (ap (slice_index (slice_set other to v)) same_too)

    elsewhere : (p q : ℕ) → p < words → q < words → p ≢ at → q ≢ to → slice_index (slice_set h.homes at to) p ≡ q →
        slice_index (slice_set h.guests to at) q ≡ p →
        slice_index (slice_set one at v) p ≡ slice_index (slice_set other to v) q
    elsewhere p q below below_too apart apart_too there back =
        get_or-set_other one at p v 0 apart
        ∙ stands.linked p q below below_too (sym (get_or-set_other h.homes at p to 0 apart) ∙ there) (sym (get_or-set_other h.guests to q at 0 apart_too) ∙ back)
        ∙ sym (get_or-set_other other to q v 0 apart_too)

    linked : (p q : ℕ) → p < words → q < words → slice_index (slice_set h.homes at to) p ≡ q →
        slice_index (slice_set h.guests to at) q ≡ p →
        slice_index (slice_set one at v) p ≡ slice_index (slice_set other to v) q
    linked p q below below_too there back =
        ⊎_elim
        (λ (same : p ≡ at). here p q same there)
        (λ (apart : p ≢ at).
        let apart_too : q ≢ to = λ same. apart (sym back ∙ ap (slice_index (slice_set h.guests to at)) same ∙ guest) in
        elsewhere p q below below_too apart apart_too there back)
        (cases_eq p at)

-- words are put there in both
pub stands_housed : (words n at to : ℕ) (h : Homes) (one other vs : List ℕ) → at + n ≤ words → to + n ≤ words →
    length vs ≡ n → Stands words h one other →
    Stands words (housed n at to h) (with_words one at vs) (with_words other to vs)
stands_housed words zero at to h one other [] inside inside_too long stands = stands
stands_housed words (suc n) at to h one other (v ∷ vs) inside inside_too long stands =
    stands_housed words n (at + 1) (to + 1) (record { homes = slice_set h.homes at to; guests = slice_set h.guests to at })
    (slice_set one at v) (slice_set other to v) vs (omega arith) (omega arith) (omega arith)
    (stands_put words at to v h one other (omega arith) (omega arith) stands)
stands_housed words _ at to h one other _ inside inside_too long stands = absurd (omega arith)

-- what is read where words are at home
pub stands_read : (words n at to : ℕ) (h : Homes) (one other : List ℕ) → at + n ≤ words → to + n ≤ words →
    are_home h n at to ≡ true → Stands words h one other →
    words_at n one at ≡ words_at n other to
stands_read words zero at to h one other inside inside_too right stands = refl
stands_read words (suc n) at to h one other inside inside_too right stands =
    let both = both_true (is_home h at to) (are_home h n (at + 1) (to + 1)) right in
    let link = both_true (slice_index h.homes at == to) (slice_index h.guests to == at) both.0 in
    let first = stands.linked at to (omega arith) (omega arith) (eqb-true (slice_index h.homes at) to link.0) (eqb-true (slice_index h.guests to) at link.1) in
    let rest = stands_read words n (at + 1) (to + 1) h one other (omega arith) (omega arith) both.1 stands in
    ap₂ (λ v vs. v ∷ vs) first rest
