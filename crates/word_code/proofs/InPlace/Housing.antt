-- Whether words stand where they are looked for, one after another.
use Rattle.std.proofs.Common.{◌≡◌, ℕ, suc, ◌+◌, ◌-◌, ◌<◌, ◌&&◌, true, ap, ◌∙◌, arith}
use Rattle.word_code.specs.InPlace.Homes.{Homes, is_home, are_home}

module _ (h : Homes) (count at to word : ℕ) where
  words_split : word < count → are_home h (count - word) (at + word) (to + word)
      ≡ (is_home h (at + word) (to + word) && are_home h (count - (word + 1)) (at + (word + 1)) (to + (word + 1)))
  words_split lt =
      let left : count - word ≡ suc (count - (word + 1)) = omega arith in
      let next : (at + word) + 1 ≡ at + (word + 1) = omega arith in
      let next_to : (to + word) + 1 ≡ to + (word + 1) = omega arith in
      ap (λ n. are_home h n (at + word) (to + word)) left
      ∙ (ap (λ k. is_home h (at + word) (to + word) && are_home h (count - (word + 1)) k ((to + word) + 1)) next
      ∙ ap (λ k. is_home h (at + word) (to + word) && are_home h (count - (word + 1)) (at + (word + 1)) k) next_to)

  pub words_go_on : word < count → is_home h (at + word) (to + word) ≡ true →
      are_home h (count - word) (at + word) (to + word) ≡ are_home h (count - (word + 1)) (at + (word + 1))
      (to + (word + 1))
  words_go_on lt e = words_split lt ∙ ap (λ b. b && are_home h (count - (word + 1)) (at + (word + 1)) (to + (word + 1))) e
