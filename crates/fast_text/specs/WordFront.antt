-- The first lines of a C text on words: words, registers, and what operations do to them.
use Rattle.std.specs.Prelude.{ℕ, List, ◌++◌, Bool, true, false, codes}
use Rattle.listing_text.specs.Numbers.{numbered_text}
use Rattle.word_code.specs.Words.{Width}

-- the words: their type, and the high half of a product
unfoldable pub word_text : List ℕ
word_text =
    codes "#pragma GCC diagnostic ignored \"-Wpsabi\"\n"
    ++ codes "#define INLINE static inline __attribute__((always_inline, unused))\n"
    ++ codes "#if HALF == 256\n"
    ++ codes "typedef uint16_t word;\n"
    ++ codes "INLINE word high(word a, word q) { return (uint32_t)a * q >> 16; }\n"
    ++ codes "#elif HALF == 65536\n"
    ++ codes "typedef uint32_t word;\n"
    ++ codes "INLINE word high(word a, word q) { return (uint64_t)a * q >> 32; }\n"
    ++ codes "#elif HALF == 67108864\n"
    ++ codes "typedef uint64_t word;\n"
    ++ codes "#define LOW52 0xfffffffffffffULL\n"
    ++ codes "INLINE word high(word a, word q) { return (unsigned __int128)(a & LOW52) * q >> 52; }\n"
    ++ codes "#else\n"
    ++ codes "typedef uint64_t word;\n"
    ++ codes "#if ROUGH\n"
    ++ codes "INLINE word high(word a, word q) { uint64_t a1 = a >> 32, q1 = q >> 32; return a1 * q1 + (a1 * (uint32_t)q >> 32) + ((uint32_t)a * q1 >> 32); }\n"
    ++ codes "#else\n"
    ++ codes "INLINE word high(word a, word q) { return (unsigned __int128)a * q >> 64; }\n"
    ++ codes "#endif\n"
    ++ codes "#endif\n"

-- a register of one lane
unfoldable pub one_lane_text : List ℕ
one_lane_text =
    codes "#if V == 1\n"
    ++ codes "typedef word vec;\n"
    ++ codes "INLINE vec splat(word x) { return x; }\n"
    ++ codes "INLINE vec load(const word *p) { return *p; }\n"
    ++ codes "INLINE void store(word *p, vec a) { *p = a; }\n"
    ++ codes "INLINE vec add(vec a, vec b) { return a + b; }\n"
    ++ codes "INLINE vec sub(vec a, vec b, word k) { return a + k - b; }\n"
    ++ codes "INLINE vec neg(vec a, word k) { return k - a; }\n"
    ++ codes "#if HALF == 67108864\n"
    ++ codes "INLINE vec mul(vec a, vec c, vec q) { return (a * c - high(a, q) * (word)M) & LOW52; }\n"
    ++ codes "#else\n"
    ++ codes "INLINE vec mul(vec a, vec c, vec q) { return 1u * a * c - 1u * high(a, q) * (word)M; }\n"
    ++ codes "#endif\n"
    ++ codes "INLINE vec reduced(vec a, word k) { vec d = a - k; return a < d ? a : d; }\n"
    ++ codes "INLINE void tile(vec *b) { (void)b; }\n"

-- a register of lanes in parts: what a register of the machine holds, or at most 16 bytes where none is known.
-- P is how many words that is, and BY names an operation of the machine on it
unfoldable pub part_text : List ℕ
part_text =
    codes "#elif (V == 2 || V == 4 || V == 8 || V == 16) && (HALF < 4294967296 || ROUGH)\n"
    ++ codes "#define _MM_MALLOC_H_INCLUDED\n"
    ++ codes "#define __MM_MALLOC_H\n"
    ++ codes "#if defined __AVX2__\n"
    ++ codes "#include <immintrin.h>\n"
    ++ codes "#elif defined __SSE4_1__\n"
    ++ codes "#include <smmintrin.h>\n"
    ++ codes "#elif defined __SSE2__\n"
    ++ codes "#include <emmintrin.h>\n"
    ++ codes "#endif\n"
    ++ codes "#if HALF == 256\n"
    ++ codes "#define WORDS(bytes) ((bytes) / 2)\n"
    ++ codes "#elif HALF == 65536\n"
    ++ codes "#define WORDS(bytes) ((bytes) / 4)\n"
    ++ codes "#else\n"
    ++ codes "#define WORDS(bytes) ((bytes) / 8)\n"
    ++ codes "#endif\n"
    ++ codes "#if defined __AVX512F__ && V >= WORDS(64)\n"
    ++ codes "#define P WORDS(64)\n"
    ++ codes "#define BITS(a) (__m512i)(a)\n"
    ++ codes "#define BY(operation, ...) _mm512_##operation(__VA_ARGS__)\n"
    ++ codes "#elif defined __AVX2__ && V >= WORDS(32)\n"
    ++ codes "#define P WORDS(32)\n"
    ++ codes "#define BITS(a) (__m256i)(a)\n"
    ++ codes "#define BY(operation, ...) _mm256_##operation(__VA_ARGS__)\n"
    ++ codes "#elif defined __SSE2__ && V >= WORDS(16)\n"
    ++ codes "#define P WORDS(16)\n"
    ++ codes "#define BITS(a) (__m128i)(a)\n"
    ++ codes "#define BY(operation, ...) _mm_##operation(__VA_ARGS__)\n"
    ++ codes "#else\n"
    ++ codes "#define P (V < WORDS(16) ? V : WORDS(16))\n"
    ++ codes "#endif\n"

-- registers of such parts
unfoldable pub vector_text : List ℕ
vector_text =
    codes "typedef word part __attribute__((vector_size(sizeof(word) * P)));\n"
    ++ codes "typedef part unaligned __attribute__((aligned(sizeof(word)), may_alias));\n"
    ++ codes "#if HALF == 256\n"
    ++ codes "typedef uint32_t wide __attribute__((vector_size(2 * sizeof(part))));\n"
    ++ codes "#else\n"
    ++ codes "typedef uint64_t wide __attribute__((vector_size(sizeof(part))));\n"
    ++ codes "#endif\n"
    ++ codes "typedef struct { part p[V / P]; } vec;\n"
    ++ codes "#define PARTS(e) vec r; for (int i = 0; i < V / P; i++) r.p[i] = (e); return r\n"
    ++ codes "INLINE vec splat(word x) { PARTS((part){} + x); }\n"
    ++ codes "INLINE vec load(const word *p) { PARTS(*(const unaligned *)(p + P * i)); }\n"
    ++ codes "INLINE void store(word *p, vec a) {\n"
    ++ codes "for (int i = 0; i < V / P; i++) *(unaligned *)(p + P * i) = a.p[i]; }\n"
    ++ codes "INLINE vec add(vec a, vec b) { PARTS(a.p[i] + b.p[i]); }\n"
    ++ codes "INLINE vec sub(vec a, vec b, word k) { PARTS(a.p[i] + k - b.p[i]); }\n"
    ++ codes "INLINE vec neg(vec a, word k) { PARTS(k - a.p[i]); }\n"

-- the lanes of two parts, picked as UPPER or LOWER says; both together exchange the lanes that are d apart
unfoldable pub exchange_text : List ℕ
exchange_text =
    codes "#if P == 2\n"
    ++ codes "#define EACH(f, d) f(d, 0), f(d, 1)\n"
    ++ codes "#elif P == 4\n"
    ++ codes "#define EACH(f, d) f(d, 0), f(d, 1), f(d, 2), f(d, 3)\n"
    ++ codes "#elif P == 8\n"
    ++ codes "#define EACH(f, d) f(d, 0), f(d, 1), f(d, 2), f(d, 3), f(d, 4), f(d, 5), f(d, 6), f(d, 7)\n"
    ++ codes "#else\n"
    ++ codes "#define FIRST(f, d) f(d, 0), f(d, 1), f(d, 2), f(d, 3), f(d, 4), f(d, 5), f(d, 6), f(d, 7)\n"
    ++ codes "#define LAST(f, d) f(d, 8), f(d, 9), f(d, 10), f(d, 11), f(d, 12), f(d, 13), f(d, 14), f(d, 15)\n"
    ++ codes "#define EACH(f, d) FIRST(f, d), LAST(f, d)\n"
    ++ codes "#endif\n"
    ++ codes "#define UPPER(d, l) ((l) & (d) ? P + (l) - (d) : (l))\n"
    ++ codes "#define LOWER(d, l) ((l) & (d) ? P + (l) : (l) + (d))\n"
    ++ codes "#define PICKED(a, b, f, d) __builtin_shufflevector(a, b, EACH(f, d))\n"

-- the least of a and a - k. No word is twice its k or more, so where k is at most half of all words, the top bit of
-- a - k says which it is
unfoldable pub vector_reduced_text : List ℕ
vector_reduced_text =
    codes "#if defined BITS && HALF == 256 && defined __SSE4_1__\n"
    ++ codes "#define MINIMUM(a, b) (part)BY(min_epu16, BITS(a), BITS(b))\n"
    ++ codes "#elif defined BITS && HALF == 65536 && defined __SSE4_1__\n"
    ++ codes "#define MINIMUM(a, b) (part)BY(min_epu32, BITS(a), BITS(b))\n"
    ++ codes "#elif defined BITS && HALF > 65536 && defined __AVX512F__ && (P == WORDS(64) || defined __AVX512VL__)\n"
    ++ codes "#define MINIMUM(a, b) (part)BY(min_epu64, BITS(a), BITS(b))\n"
    ++ codes "#elif !defined BITS && HALF <= 65536 && defined __has_builtin\n"
    ++ codes "#if __has_builtin(__builtin_elementwise_min)\n"
    ++ codes "#define MINIMUM __builtin_elementwise_min\n"
    ++ codes "#endif\n"
    ++ codes "#endif\n"
    ++ codes "#ifdef MINIMUM\n"
    ++ codes "INLINE part reduced_part(part a, word k) { return MINIMUM(a, a - k); }\n"
    ++ codes "#else\n"
    ++ codes "#define TOP_BIT ((word)1 << (8 * sizeof(word) - 1))\n"
    ++ codes "INLINE part reduced_part(part a, word k) {\n"
    ++ codes "part d = a - k;\n"
    ++ codes "return k > TOP_BIT ? a - ((part)(a >= k) & k) : d + ((part)((__typeof__(a < d))d < 0) & k); }\n"
    ++ codes "#endif\n"
    ++ codes "INLINE vec reduced(vec a, word k) { PARTS(reduced_part(a.p[i], k)); }\n"

-- products of the low 32 bits, and a part of moduli. GCC makes shifts and sums of a product by a constant, which take
-- longer, so it does not see that this is one
unfoldable pub vector_low_text : List ℕ
vector_low_text =
    codes "#ifdef BITS\n"
    ++ codes "INLINE part moduli(void) { part m = (part){} + (word)M; __asm__(\"\" : \"+v\"(m)); return m; }\n"
    ++ codes "#else\n"
    ++ codes "INLINE part moduli(void) { return (part){} + (word)M; }\n"
    ++ codes "#endif\n"
    ++ codes "#if defined BITS && HALF > 256\n"
    ++ codes "INLINE wide low(wide a, wide b) { return (wide)BY(mul_epu32, BITS(a), BITS(b)); }\n"
    ++ codes "#elif HALF > 256\n"
    ++ codes "#define LOW 0xffffffffULL\n"
    ++ codes "INLINE wide low(wide a, wide b) { return (a & LOW) * (b & LOW); }\n"
    ++ codes "#endif\n"

-- products in words of 52 bits: by an operation that gives the low or the high half of a product, or else by halves of
-- 26 bits
unfoldable pub vector_fused_text : List ℕ
vector_fused_text =
    codes "#if HALF == 67108864\n"
    ++ codes "#if defined BITS && defined __AVX512IFMA__ && (P == WORDS(64) || defined __AVX512VL__)\n"
    ++ codes "#define FMA(h, a, b, c) (part)BY(madd52##h##_epu64, BITS(a), BITS(b), BITS(c))\n"
    ++ codes "#elif defined BITS && defined __AVXIFMA__ && P < WORDS(64)\n"
    ++ codes "#define FMA(h, a, b, c) (part)BY(madd52##h##_avx_epu64, BITS(a), BITS(b), BITS(c))\n"
    ++ codes "#endif\n"
    ++ codes "#ifdef FMA\n"
    ++ codes "INLINE part mul_part(part a, part c, part q) {\n"
    ++ codes "part none = {}, h = FMA(hi, none, a, q);\n"
    ++ codes "return FMA(lo, FMA(lo, none, a, c), h, none + ((1ULL << 52) - M)) & LOW52; }\n"
    ++ codes "#else\n"
    ++ codes "#define PART 0x3ffffffULL\n"
    ++ codes "INLINE part mul_part(part a, part c, part q) {\n"
    ++ codes "part a1 = (a & LOW52) >> 26, a0 = a & PART, q1 = q >> 26, q0 = q & PART;\n"
    ++ codes "part h = low(a1, q1) + ((low(a1, q0) + low(a0, q1) + (low(a0, q0) >> 26)) >> 26);\n"
    ++ codes "return (a * c - h * moduli()) & LOW52; }\n"
    ++ codes "#endif\n"

-- products in words of 16, of 32 and of 64 bits, and of registers
unfoldable pub vector_product_text : List ℕ
vector_product_text =
    codes "#else\n"
    ++ codes "#if defined BITS && HALF == 256\n"
    ++ codes "INLINE part halves(part a, part q) { return (part)BY(mulhi_epu16, BITS(a), BITS(q)); }\n"
    ++ codes "#elif HALF == 256\n"
    ++ codes "INLINE wide widened(part a) { return __builtin_convertvector(a, wide); }\n"
    ++ codes "INLINE part halves(part a, part q) { return __builtin_convertvector(widened(a) * widened(q) >> 16, part); }\n"
    ++ codes "#elif HALF == 65536\n"
    ++ codes "INLINE part halves(part a, part q) {\n"
    ++ codes "wide even = low((wide)a, (wide)q), odd = low((wide)a >> 32, (wide)q >> 32);\n"
    ++ codes "return PICKED((part)even, (part)odd, LOWER, 1); }\n"
    ++ codes "#else\n"
    ++ codes "INLINE part halves(part a, part q) {\n"
    ++ codes "part a1 = a >> 32, q1 = q >> 32;\n"
    ++ codes "return low(a1, q1) + (low(a1, q) >> 32) + (low(a, q1) >> 32); }\n"
    ++ codes "#endif\n"
    ++ codes "INLINE part mul_part(part a, part c, part q) { return a * c - halves(a, q) * moduli(); }\n"
    ++ codes "#endif\n"
    ++ codes "INLINE vec mul(vec a, vec c, vec q) { PARTS(mul_part(a.p[i], c.p[i], q.p[i])); }\n"

-- the transposition of registers: of their parts, and then within these
unfoldable pub vector_tile_text : List ℕ
vector_tile_text =
    codes "INLINE void swap(part *a, part *b) { part x = *a; *a = *b; *b = x; }\n"
    ++ codes "#define EXCHANGED(a, b, d) { part x = PICKED(a, b, UPPER, d); b = PICKED(a, b, LOWER, d); a = x; }\n"
    ++ codes "#define EXCHANGE(d) for (int i = 0; i < V; i++) for (int k = 0; k < V / P; k++) \\\n"
    ++ codes "if (!(i & d)) EXCHANGED(b[i].p[k], b[i + d].p[k], d)\n"
    ++ codes "INLINE void tile(vec *b) {\n"
    ++ codes "for (int i = 0; i < V; i++) for (int k = i / P + 1; k < V / P; k++)\n"
    ++ codes "swap(b[i].p + k, b[P * k + i % P].p + i / P);\n"
    ++ codes "#if P > 8\n"
    ++ codes "EXCHANGE(8)\n"
    ++ codes "#endif\n"
    ++ codes "#if P > 4\n"
    ++ codes "EXCHANGE(4)\n"
    ++ codes "#endif\n"
    ++ codes "#if P > 2\n"
    ++ codes "EXCHANGE(2)\n"
    ++ codes "#endif\n"
    ++ codes "EXCHANGE(1)\n"
    ++ codes "}\n"

-- a register of other lanes, one by one
unfoldable pub lanes_text : List ℕ
lanes_text =
    codes "#else\n"
    ++ codes "typedef struct { word l[V]; } vec;\n"
    ++ codes "#define LANES(e) vec r; for (int l = 0; l < V; l++) r.l[l] = (e); return r\n"
    ++ codes "INLINE vec splat(word x) { LANES(x); }\n"
    ++ codes "INLINE vec load(const word *p) { LANES(p[l]); }\n"
    ++ codes "INLINE void store(word *p, vec a) { for (int l = 0; l < V; l++) p[l] = a.l[l]; }\n"
    ++ codes "INLINE vec add(vec a, vec b) { LANES(a.l[l] + b.l[l]); }\n"
    ++ codes "INLINE vec sub(vec a, vec b, word k) { LANES(a.l[l] + k - b.l[l]); }\n"
    ++ codes "INLINE vec neg(vec a, word k) { LANES(k - a.l[l]); }\n"
    ++ codes "#if HALF == 67108864\n"
    ++ codes "INLINE vec mul(vec a, vec c, vec q) { LANES((a.l[l] * c.l[l] - high(a.l[l], q.l[l]) * (word)M) & LOW52); }\n"
    ++ codes "#else\n"
    ++ codes "INLINE vec mul(vec a, vec c, vec q) { LANES(1u * a.l[l] * c.l[l] - 1u * high(a.l[l], q.l[l]) * (word)M); }\n"
    ++ codes "#endif\n"
    ++ codes "INLINE word least(word a, word b) { return a < b ? a : b; }\n"
    ++ codes "INLINE vec reduced(vec a, word k) { LANES(least(a.l[l], a.l[l] - k)); }\n"
    ++ codes "INLINE void tile(vec *b) { vec a[V]; for (int k = 0; k < V; k++) a[k] = b[k]; for (int k = 0; k < V; k++) for (int l = 0; l < V; l++) b[k].l[l] = a[l].l[k]; }\n"
    ++ codes "#endif\n"

-- what operations do, whatever the program
unfoldable pub functions_text : List ℕ
functions_text =
    word_text ++ one_lane_text ++ part_text ++ vector_text ++ exchange_text ++ vector_reduced_text ++ vector_low_text
    ++ vector_fused_text ++ vector_product_text ++ vector_tile_text ++ lanes_text

abbrev pub rough_text : Bool → List ℕ
rough_text true = codes "#define ROUGH 1\n"
rough_text false = codes "#define ROUGH 0\n"

-- the modulus, the lanes and the width of words
unfoldable pub sizes_text : Width → ℕ → ℕ → List ℕ
sizes_text width modulus lanes =
    codes "#include <stdint.h>\n" ++ numbered_text (codes "#define M ") modulus (codes "ULL\n") ++ numbered_text (codes "#define V ") lanes (codes "\n")
    ++ numbered_text (codes "#define HALF ") width.half (codes "\n") ++ rough_text width.rough

-- the four arrays, of a number of words
unfoldable pub arrays_text : ℕ → List ℕ
arrays_text words =
    codes "static __attribute__((aligned(64), unused)) word " ++ numbered_text (codes "X[") words (codes "]") ++ numbered_text (codes ", Y[") words (codes "]")
    ++ numbered_text (codes ", A[") words (codes "]") ++ numbered_text (codes ", B[") words (codes "];\n")
