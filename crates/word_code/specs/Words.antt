-- Operations on words: numbers below a base, as 2 ^ 64, that wrap.
use Rattle.std.specs.Prelude.{ℕ, ◌+◌, ◌-◌, ◌*◌, ◌/◌, ◌%◌, ◌==◌, Bool, min, if◌then◌else◌}

-- A word's size: products go by a base that is the square of `half`. Where `rough` holds, the high half of a product
-- is made of three of its four partial products, and may be up to 2 too small
pub record Width : Type 0 where
  pub half : ℕ
  pub rough : Bool

abbrev pub base_of : Width → ℕ
base_of w = w.half * w.half

-- what sums and differences wrap at: words of 52 bits stand in words of 64
abbrev pub sums_of : Width → ℕ
sums_of w =
    if w.half == 256 then 65536 else (if w.half == 65536 then 4294967296 else 18446744073709551616)

abbrev pub wrapped_sum : ℕ → ℕ → ℕ → ℕ
wrapped_sum base a b = (a + b) % base

-- a minus b, for a b that is at most the base
abbrev pub wrapped_difference : ℕ → ℕ → ℕ → ℕ
wrapped_difference base a b = (a + (base - b)) % base

abbrev pub wrapped_product : ℕ → ℕ → ℕ → ℕ
wrapped_product base a b = a * b % base

-- the high half of a product
abbrev pub high : ℕ → ℕ → ℕ → ℕ
high base a b = a * b / base

-- the same without the product of the two low halves
abbrev pub rough_high : ℕ → ℕ → ℕ → ℕ
rough_high half a b = a / half * (b / half) + a / half * (b % half) / half + a % half * (b / half) / half

abbrev pub high_of : Width → ℕ → ℕ → ℕ
high_of w a b = if w.rough then rough_high w.half a b else high (base_of w) a b

-- the quotient of a factor c below m
abbrev pub quotient_of : ℕ → ℕ → ℕ → ℕ
quotient_of base m c = c * base / m

-- a times the factor c with quotient q, up to a multiple of m. Of a, what is below the base counts
abbrev pub lazy_product : Width → ℕ → ℕ → ℕ → ℕ → ℕ
lazy_product w m a c q =
    wrapped_difference (base_of w) (wrapped_product (base_of w) a c)
    (wrapped_product (base_of w) (high_of w (a % base_of w) q) m)

-- such a product is below this number of times m
abbrev pub product_bound : Width → ℕ
product_bound w = if w.rough then 4 else 2

-- a minus b, with a multiple of m that keeps it from falling below 0
abbrev pub biased_difference : ℕ → ℕ → ℕ → ℕ → ℕ
biased_difference base bias a b = wrapped_difference base (wrapped_sum base a bias) b

-- a, minus the amount where a isn't below it
abbrev pub reduced : ℕ → ℕ → ℕ → ℕ
reduced base amount a = min a (wrapped_difference base a amount)
