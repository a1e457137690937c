-- The entries of a table, with a separator between two of them.
use Rattle.std.proofs.Common.{◌≡◌, ℕ, zero, suc, ◌<◌, ◌≤◌, true, ltb, List, [], ◌∷◌, ◌++◌, length, flat_map, decimal}
use Rattle.std.proofs.Common.{refl, sym, ap, ◌∙◌, arith, inl, inr}
use Rattle.std.specs.List.{list_all}
use Rattle.std.proofs.lemmas.Bool.{ltb-true, and_parts}
use Rattle.std.proofs.lemmas.List.{append-nil, length-append}
use Rattle.grammar.specs.Grammar.{numbers, more_numbers}
use Rattle.grammar.proofs.Parts.{spells_named}
use Rattle.listing_text.specs.Reading.{above_all}

module _ (separator : List ℕ) where
  abbrev pub more_text : List ℕ → List ℕ
  more_text entries = flat_map (λ c. separator ++ decimal c) entries

  abbrev pub joined_text : List ℕ → List ℕ
  joined_text [] = []
  joined_text (c ∷ entries) = decimal c ++ more_text entries

  more_spelt : (count : ℕ) (text entries : List ℕ) → more_numbers separator above_all count text entries →
      text ≡ more_text entries
  unfolding more_numbers
  more_spelt zero text entries l = l.0 ∙ ap more_text (sym l.1)
  more_spelt (suc count) text entries (inl l) = l.0 ∙ ap more_text (sym l.1)
  more_spelt (suc count) text entries (inr l) =
      l.whole ∙ ap (λ y. y ++ l.rest) (l.begins.whole ∙ ap (λ y. y ++ l.begins.rest) l.begins.begins ∙ ap (λ y. separator ++ y) l.begins.ends.1)
      ∙ ap (λ y. (separator ++ decimal l.spelt) ++ y) (l.ends.whole ∙ ap (λ y. l.ends.front ++ y) l.ends.ends.0 ∙ append-nil l.ends.front ∙ more_spelt count l.ends.front l.ends.spelt l.ends.begins)
      ∙ ap more_text (sym l.ends.ends.1)

  pub all_spelt : (count : ℕ) (text entries : List ℕ) → numbers separator above_all count text entries →
      (0 < length entries) × (text ≡ joined_text entries)
  all_spelt count text entries l = (
    omega (arith, ap length l.ends.ends.1),
    l.whole ∙ ap (λ y. y ++ l.rest) l.begins.1
        ∙ ap (λ y. decimal l.spelt ++ y) (l.ends.whole ∙ ap (λ y. l.ends.front ++ y) l.ends.ends.0 ∙ append-nil l.ends.front ∙ more_spelt count l.ends.front l.ends.spelt l.ends.begins)
        ∙ ap joined_text (sym l.ends.ends.1),
  )

  more_spells : (count : ℕ) (entries : List ℕ) → list_all (λ c. ltb c above_all) entries ≡ true →
      length entries ≤ count → more_numbers separator above_all count (more_text entries) entries
  unfolding more_numbers
  more_spells zero [] h le = (refl, refl)
  more_spells zero (c ∷ entries) h le = absurd (omega arith)
  more_spells (suc count) [] h le = inl (refl, refl)
  more_spells (suc count) (c ∷ entries) h le =
      let limits = and_parts (ltb c above_all) (list_all (λ c. ltb c above_all) entries) h in
      inr record {
        front = separator ++ decimal c;
        rest = more_text entries;
        spelt = c;
        whole = refl;
        begins = spells_named separator above_all c (ltb-true c above_all limits.0);
        ends = record { front = more_text entries; rest = []; spelt = entries; whole = sym (append-nil (more_text entries)); begins = more_spells count entries limits.1 (omega arith); ends = (refl, refl) };
      }

  pub all_spells : (count c : ℕ) (entries : List ℕ) → c < above_all → list_all (λ c. ltb c above_all) entries ≡ true →
      length entries ≤ count → numbers separator above_all count (decimal c ++ more_text entries) (c ∷ entries)
  all_spells count c entries fits h le = record {
    front = decimal c;
    rest = more_text entries;
    spelt = c;
    whole = refl;
    begins = (fits, refl);
    ends = record { front = more_text entries; rest = []; spelt = entries; whole = sym (append-nil (more_text entries)); begins = more_spells count entries h le; ends = (refl, refl) };
  }

  longer : 0 < length separator → (entries : List ℕ) → length entries ≤ length (more_text entries)
  longer some [] = omega arith
  longer some (c ∷ entries) = omega (arith, some, longer some entries, length-append (separator ++ decimal c) (more_text entries), length-append separator (decimal c))

  -- there are no more of them than bytes in a text that has them
  pub few_entries : 0 < length separator → (front : List ℕ) (c : ℕ) (entries back : List ℕ) →
      length entries ≤ length (front ++ (decimal c ++ more_text entries) ++ back)
  few_entries some front c entries back =
      omega (arith, length-append (front ++ (decimal c ++ more_text entries)) back, length-append front (decimal c ++ more_text entries), length-append (decimal c) (more_text entries), longer some entries)
