-- The C text of products of residues, place by place: a function to link by itself, and its header.
use Rattle.std.specs.Prelude.{ℕ, List, ◌++◌, codes}
use Rattle.listing_text.specs.Numbers.{numbered_text}
use Rattle.fast_text.specs.FunctionText.{macro_text}

-- the high and the low half of a product of two words, of which neither has a quotient
unfoldable pub halves_text : List ℕ
halves_text =
    codes "INLINE word high_half(word a, word b) {\n"
    ++ codes "#if HALF == 4294967296\n"
    ++ codes "return (unsigned __int128)a * b >> 64;\n"
    ++ codes "#else\n"
    ++ codes "return high(a, b);\n"
    ++ codes "#endif\n"
    ++ codes "}\n"
    ++ codes "INLINE word low_half(word a, word b) {\n"
    ++ codes "#if HALF == 67108864\n"
    ++ codes "return a * b & LOW52;\n"
    ++ codes "#else\n"
    ++ codes "return 1u * a * b;\n"
    ++ codes "#endif\n"
    ++ codes "}\n"

-- of registers of one lane
unfoldable pub one_lane_halves_text : List ℕ
one_lane_halves_text =
    codes "#if V == 1\n"
    ++ codes "INLINE vec highs(vec a, vec b) { return high_half(a, b); }\n"
    ++ codes "INLINE vec lows(vec a, vec b) { return low_half(a, b); }\n"

-- of registers in parts, in words of 52 bits
unfoldable pub part_halves_of_52_text : List ℕ
part_halves_of_52_text =
    codes "#elif defined PARTS\n"
    ++ codes "#if HALF == 67108864 && defined FMA\n"
    ++ codes "INLINE part highs_part(part a, part b) { part none = {}; return FMA(hi, none, a, b); }\n"
    ++ codes "INLINE part lows_part(part a, part b) { part none = {}; return FMA(lo, none, a, b); }\n"
    ++ codes "#elif HALF == 67108864\n"
    ++ codes "INLINE part highs_part(part a, part b) {\n"
    ++ codes "part a1 = a >> 26, a0 = a & PART, b1 = b >> 26, b0 = b & PART;\n"
    ++ codes "return low(a1, b1) + ((low(a1, b0) + low(a0, b1) + (low(a0, b0) >> 26)) >> 26); }\n"
    ++ codes "INLINE part lows_part(part a, part b) { return a * b & LOW52; }\n"

-- and in other words: halves of 64 bits are made of four partial products
unfoldable pub part_halves_text : List ℕ
part_halves_text =
    codes "#elif HALF == 4294967296\n"
    ++ codes "INLINE part highs_part(part a, part b) {\n"
    ++ codes "part a1 = a >> 32, b1 = b >> 32, x = low(a1, b), y = low(a, b1);\n"
    ++ codes "part carried = (low(a, b) >> 32) + (x & 0xffffffffULL) + (y & 0xffffffffULL);\n"
    ++ codes "return low(a1, b1) + (x >> 32) + (y >> 32) + (carried >> 32); }\n"
    ++ codes "INLINE part lows_part(part a, part b) { return a * b; }\n"
    ++ codes "#else\n"
    ++ codes "INLINE part highs_part(part a, part b) { return halves(a, b); }\n"
    ++ codes "INLINE part lows_part(part a, part b) { return a * b; }\n"
    ++ codes "#endif\n"
    ++ codes "INLINE vec highs(vec a, vec b) { PARTS(highs_part(a.p[i], b.p[i])); }\n"
    ++ codes "INLINE vec lows(vec a, vec b) { PARTS(lows_part(a.p[i], b.p[i])); }\n"

-- of registers of other lanes, one by one
unfoldable pub lane_halves_text : List ℕ
lane_halves_text =
    codes "#else\n"
    ++ codes "INLINE vec highs(vec a, vec b) { LANES(high_half(a.l[l], b.l[l])); }\n"
    ++ codes "INLINE vec lows(vec a, vec b) { LANES(low_half(a.l[l], b.l[l])); }\n"
    ++ codes "#endif\n"

-- a residue of each half, and their sum: the base modulo M and 1 are known factors, whose quotients a compiler computes
unfoldable pub times_text : List ℕ
times_text =
    codes "#if HALF <= 65536\n"
    ++ codes "#define BASE ((uint64_t)HALF * HALF)\n"
    ++ codes "#else\n"
    ++ codes "#define BASE ((unsigned __int128)HALF * HALF)\n"
    ++ codes "#endif\n"
    ++ codes "INLINE vec residue(vec a) { return ROUGH ? reduced(reduced(a, 2 * (word)M), M) : reduced(a, M); }\n"
    ++ codes "INLINE vec times(vec a, vec b) {\n"
    ++ codes "vec x = residue(mul(highs(a, b), splat(BASE % M), splat(BASE % M * BASE / M)));\n"
    ++ codes "vec y = residue(mul(lows(a, b), splat(1), splat(BASE / M)));\n"
    ++ codes "return reduced(add(x, y), M); }\n"

-- what products of registers do, whatever the program
unfoldable pub products_text : List ℕ
products_text =
    halves_text ++ one_lane_halves_text ++ part_halves_of_52_text ++ part_halves_text ++ lane_halves_text ++ times_text

-- where CHECK is defined, the function stops at a word that is too large
unfoldable pub factors_check_text : ℕ → List ℕ
factors_check_text size =
    numbered_text (codes "#ifdef CHECK\nfor (uint64_t n = 0; n < ") size
    (codes "; n++) if (a[n] >= M || b[n] >= M) __builtin_trap();\n#endif\n")

-- whole registers, and then the words that are left, in a register that is filled up
unfoldable pub each_product_text : ℕ → List ℕ
each_product_text size =
    numbered_text (codes "uint64_t n = 0;\nfor (; n + V <= ") size
    (codes "; n += V) store(out + n, times(load(a + n), load(b + n)));\nword x[V] = {0}, y[V] = {0};\n")
    ++ numbered_text (codes "for (uint64_t l = 0; n + l < ") size (codes "; l++) { x[l] = a[n + l]; y[l] = b[n + l]; }\n")
    ++ codes "store(x, times(load(x), load(y)));\n"
    ++ numbered_text (codes "for (uint64_t l = 0; n + l < ") size (codes "; l++) out[n + l] = x[l];\n}\n")

-- the function of vectors of this size
abbrev pub product_function_text : List ℕ → ℕ → List ℕ
product_function_text name size =
    codes "void " ++ name ++ codes "_times(word *out, const word *a, const word *b) {\n" ++ factors_check_text size
    ++ each_product_text size

-- ---- the header

-- what is asked of who calls, and what is told
abbrev pub product_asked_text : List ℕ → List ℕ → List ℕ
product_asked_text capitals name =
    codes "/* " ++ name ++ codes "_times multiplies place by place: word k of out becomes a[k] * b[k] modulo " ++ capitals
    ++ codes "_TIMES_MODULUS, for k below\n * " ++ capitals ++ codes "_TIMES_SIZE.\n * a, b: words below " ++ capitals
    ++ codes "_TIMES_MODULUS. With -DCHECK the function stops at a greater one.\n * out: words below " ++ capitals
    ++ codes "_TIMES_MODULUS. It may be a or b, and else overlaps neither. */\n"

-- the three arrays as parameters
abbrev pub declared_product_text : List ℕ → List ℕ → List ℕ
declared_product_text name type =
    codes "void " ++ name ++ codes "_times(" ++ type ++ codes " *out, const " ++ type ++ codes " *a, const " ++ type
    ++ codes " *b);\n"

abbrev pub product_guard_text : List ℕ → List ℕ
product_guard_text capitals =
    codes "#ifndef " ++ capitals ++ codes "_TIMES_H\n#define " ++ capitals ++ codes "_TIMES_H\n#include <stdint.h>\n"

-- its size and its modulus as macros
abbrev pub product_macros_text : List ℕ → ℕ → ℕ → List ℕ
product_macros_text capitals size modulus =
    macro_text capitals (codes "_TIMES_SIZE ") size (codes "\n")
    ++ macro_text capitals (codes "_TIMES_MODULUS ") modulus (codes "ULL\n")
