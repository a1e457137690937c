-- The text of a function to link: what stands round its phases, and the header for its callers.
use Rattle.std.specs.Prelude.{ℕ, zero, suc, ◌+◌, ◌-◌, ◌&&◌, ◌==◌, nat_le, Bool, true, false, List, [], ◌++◌, codes, decimal}
use Rattle.std.specs.Prelude.{if◌then◌else◌}
use Rattle.listing_text.specs.Numbers.{numbered_text}

-- a text for each of a number of numbers, from this one on
abbrev pub each_from : (ℕ → List ℕ) → ℕ → ℕ → List ℕ
each_from text zero number = []
each_from text (suc n) number = text number ++ each_from text n (number + 1)

-- ---- the function

-- before the number of a phase, which this text alone sees
abbrev pub static_phase_text : List ℕ → List ℕ
static_phase_text name = codes "static void " ++ name ++ codes "_phase"

-- and after it: the arrays are the caller's
abbrev pub parameters_text : List ℕ
parameters_text =
    codes "(uint64_t q, const word *restrict X, word *restrict Y, word *restrict A, word *restrict B) {\n"
    ++ codes "(void)q; (void)X; (void)Y; (void)A; (void)B;\n"

-- a phase is called: `in` is X, `out` is Y, and A and B are the halves of `work`, of a number of words each
abbrev pub phase_call_text : List ℕ → ℕ → ℕ → List ℕ
phase_call_text name words number =
    name ++ numbered_text (codes "_phase") number (codes "(q, in, out, work, work + ") ++ decimal words ++ codes ");"

abbrev pub case_text : List ℕ → ℕ → ℕ → List ℕ
case_text name words number =
    numbered_text (codes "case ") number (codes ": ") ++ phase_call_text name words number ++ codes " break;\n"

abbrev pub turns_text : List ℕ → ℕ → ℕ → ℕ → List ℕ
turns_text name words procs number =
    numbered_text (codes "for (uint64_t q = 0; q < ") procs (codes "; q++) ")
    ++ phase_call_text name words number ++ codes "\n"

-- where CHECK is defined, a function stops at a word of its input that is too large
unfoldable pub input_check_text : ℕ → List ℕ
input_check_text words =
    numbered_text (codes "#ifdef CHECK\nfor (uint64_t n = 0; n < ") words
    (codes "; n++) if (in[n] >= M) __builtin_trap();\n#endif\n")

-- the function that does one phase of one processor
abbrev pub one_phase_text : List ℕ → ℕ → ℕ → List ℕ
one_phase_text name words phases =
    codes "void " ++ name ++ codes "_phase(uint64_t k, uint64_t q, word *out, const word *in, word *work) {\n"
    ++ input_check_text words ++ codes "switch (k) {\n" ++ each_from (case_text name words) phases 0 ++ codes "}\n}\n"

-- the function that does all phases, each of one processor after the other
abbrev pub whole_text : List ℕ → ℕ → ℕ → ℕ → List ℕ
whole_text name words procs phases =
    codes "void " ++ name ++ codes "(word *out, const word *in, word *work) {\n"
    ++ input_check_text words ++ each_from (turns_text name words procs) phases 0 ++ codes "}\n"

abbrev pub functions_to_link_text : List ℕ → ℕ → ℕ → ℕ → List ℕ
functions_to_link_text name words procs phases = one_phase_text name words phases ++ whole_text name words procs phases

-- ---- the header

abbrev pub capital : ℕ → ℕ
capital letter = if nat_le 97 letter && nat_le letter 122 then letter - 32 else letter

-- the name of a macro is that of the function in capitals, and a word
abbrev pub macro_text : List ℕ → List ℕ → ℕ → List ℕ → List ℕ
macro_text capitals word number end = codes "#define " ++ capitals ++ numbered_text word number end

abbrev pub guard_text : List ℕ → List ℕ
guard_text capitals = codes "#ifndef " ++ capitals ++ codes "_H\n#define " ++ capitals ++ codes "_H\n#include <stdint.h>\n"

-- the sizes: of the vector, of its array in whole lines, and of the array to work in
abbrev pub lengths_text : List ℕ → ℕ → ℕ → List ℕ
lengths_text capitals size words =
    macro_text capitals (codes "_SIZE ") size (codes "\n") ++ macro_text capitals (codes "_WORDS ") words (codes "\n")
    ++ macro_text capitals (codes "_WORK ") (words + words) (codes "\n")

abbrev pub counts_text : List ℕ → ℕ → ℕ → ℕ → List ℕ
counts_text capitals modulus procs phases =
    macro_text capitals (codes "_MODULUS ") modulus (codes "ULL\n") ++ macro_text capitals (codes "_PROCS ") procs (codes "\n")
    ++ macro_text capitals (codes "_PHASES ") phases (codes "\n")

abbrev pub line_bytes_text : List ℕ → ℕ → List ℕ
line_bytes_text capitals bytes = macro_text capitals (codes "_LINE_BYTES ") bytes (codes "\n")

-- the two ways of calling, which leave the same
abbrev pub calls_text : List ℕ → List ℕ → List ℕ
calls_text capitals name =
    codes "/* " ++ name ++ codes " does all phases, of each phase one processor after another. Threads call " ++ name
    ++ codes "_phase(k, q, ..)\n * for each phase k below " ++ capitals ++ codes "_PHASES, with all q below " ++ capitals
    ++ codes "_PROCS at once and a barrier after each k. Both leave the same.\n"

-- what the input has to be
abbrev pub input_asked_text : List ℕ → List ℕ
input_asked_text capitals =
    codes " * in: " ++ capitals ++ codes "_WORDS words below " ++ capitals
    ++ codes "_MODULUS, which stay as they are. With -DCHECK the functions stop at a greater one.\n"

-- what comes out, and where
abbrev pub results_told_text : List ℕ → List ℕ
results_told_text capitals =
    codes " * out: " ++ capitals ++ codes "_WORDS words. The first " ++ capitals
    ++ codes "_SIZE get the results, in the order of the listing (the natural one for\n * transforms), below "
    ++ capitals ++ codes "_MODULUS.\n * work: " ++ capitals ++ codes "_WORK words. No two of the three arrays overlap.\n"

-- where lines are those of the listing
abbrev pub lines_told_text : List ℕ → List ℕ
lines_told_text capitals =
    codes " * A line has " ++ capitals
    ++ codes "_LINE_BYTES bytes. Where each array begins at a multiple of that, no processor touches a line\n"
    ++ codes " * that another one writes in the phase. Best at multiples of 64 bytes, too. */\n"

-- what is asked of who calls, and what is told
abbrev pub asked_text : List ℕ → List ℕ → List ℕ
asked_text capitals name =
    calls_text capitals name ++ input_asked_text capitals ++ results_told_text capitals
    ++ lines_told_text capitals

-- of words whose base has this square root: of 16 bits, of 32, and of others
abbrev pub word_type_text : ℕ → List ℕ
word_type_text half =
    if half == 256 then codes "uint16_t" else (if half == 65536 then codes "uint32_t" else codes "uint64_t")

-- the three arrays as parameters
abbrev pub arrays_asked_text : List ℕ → List ℕ
arrays_asked_text type = type ++ codes " *out, const " ++ type ++ codes " *in, " ++ type ++ codes " *work);\n"

abbrev pub declared_functions_text : List ℕ → List ℕ → List ℕ
declared_functions_text name type =
    codes "void " ++ name ++ codes "(" ++ arrays_asked_text type
    ++ codes "void " ++ name ++ codes "_phase(uint64_t k, uint64_t q, " ++ arrays_asked_text type

abbrev pub linkage_text : List ℕ → List ℕ
linkage_text within =
    codes "#ifdef __cplusplus\nextern \"C\" {\n#endif\n" ++ within ++ codes "#ifdef __cplusplus\n}\n#endif\n#endif\n"
