-- How pieces of text are put together, one after the other.
use Rattle.std.proofs.Common.{◌≡◌, ℕ, List, ◌++◌, append_assoc}

pub two_pieces : (old a b end : List ℕ) → ((old ++ a) ++ b) ++ end ≡ old ++ (a ++ b ++ end)
two_pieces old a b end = simp append_assoc

pub four_numbers : (old a x b y c z d w end : List ℕ) → ((((old ++ a ++ x) ++ b ++ y) ++ c ++ z) ++ d ++ w) ++ end ≡ old
    ++ (a ++ x ++ b ++ y ++ c ++ z ++ d ++ w ++ end)
four_numbers old a x b y c z d w end = simp append_assoc

pub eight_pieces : (old a b c d e f g h : List ℕ) → (((((((old ++ a) ++ b) ++ c) ++ d) ++ e) ++ f) ++ g) ++ h ≡ old
    ++ (a ++ b ++ c ++ d ++ e ++ f ++ g ++ h)
eight_pieces old a b c d e f g h = simp append_assoc
