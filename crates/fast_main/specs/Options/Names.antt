-- Which names a function may have: identifiers of C that neither C nor the text itself has taken.
use Rattle.std.specs.Prelude.{ℕ, ◌==◌, ◌&&◌, ◌||◌, nat_le, nat_eq, not, Bool, true, false, List, [], ◌∷◌, length, codes}
use Rattle.std.specs.List.{list_all, list_any, starts_with, ends_with}
use Rattle.std.specs.Str.{bytes_eq}

-- ---- identifiers

abbrev pub is_digit : ℕ → Bool
is_digit byte = nat_le 48 byte && nat_le byte 57

abbrev pub is_letter : ℕ → Bool
is_letter byte = (nat_le 97 byte && nat_le byte 122) || (nat_le 65 byte && nat_le byte 90)

abbrev pub is_name_byte : ℕ → Bool
is_name_byte byte = is_letter byte || (is_digit byte || byte == 95)

abbrev pub begins_with_digit : List ℕ → Bool
begins_with_digit [] = false
begins_with_digit (byte ∷ name) = is_digit byte

-- an identifier of C, of at most 64 bytes
abbrev pub is_name : List ℕ → Bool
is_name name =
    not (length name == 0) && (nat_le (length name) 64 && (not (begins_with_digit name) && list_all is_name_byte name))

-- ---- names that are taken

abbrev pub is_among : List (List ℕ) → List ℕ → Bool
is_among words name = list_any (λ word. bytes_eq word name) words

-- words of C from 1999 to 2023 and of GNU, and limits of stdint.h
abbrev pub words_of_c : List (List ℕ)
words_of_c =
    codes "alignas" ∷ codes "alignof" ∷ codes "asm" ∷ codes "auto" ∷ codes "bool" ∷ codes "break" ∷ codes "case"
    ∷ codes "char" ∷ codes "const" ∷ codes "constexpr" ∷ codes "continue" ∷ codes "default" ∷ codes "do"
    ∷ codes "double" ∷ codes "else" ∷ codes "enum" ∷ codes "extern" ∷ codes "false" ∷ codes "float" ∷ codes "for"
    ∷ codes "goto" ∷ codes "if" ∷ codes "inline" ∷ codes "int" ∷ codes "long" ∷ codes "main" ∷ codes "nullptr"
    ∷ codes "register" ∷ codes "restrict" ∷ codes "return" ∷ codes "short" ∷ codes "signed" ∷ codes "sizeof"
    ∷ codes "static" ∷ codes "static_assert" ∷ codes "struct" ∷ codes "switch" ∷ codes "thread_local" ∷ codes "true"
    ∷ codes "typedef" ∷ codes "typeof" ∷ codes "typeof_unqual" ∷ codes "union" ∷ codes "unsigned" ∷ codes "void"
    ∷ codes "volatile" ∷ codes "while" ∷ codes "i386" ∷ codes "linux" ∷ codes "unix" ∷ codes "PTRDIFF_MAX"
    ∷ codes "PTRDIFF_MIN" ∷ codes "SIG_ATOMIC_MAX" ∷ codes "SIG_ATOMIC_MIN" ∷ codes "SIZE_MAX" ∷ codes "WCHAR_MAX"
    ∷ codes "WCHAR_MIN" ∷ codes "WINT_MAX" ∷ codes "WINT_MIN" ∷ []

-- the text's functions and types, and its macros
abbrev pub words_of_text : List (List ℕ)
words_of_text =
    codes "add" ∷ codes "halves" ∷ codes "high" ∷ codes "least" ∷ codes "load" ∷ codes "low" ∷ codes "moduli"
    ∷ codes "mul" ∷ codes "mul_part" ∷ codes "neg" ∷ codes "part" ∷ codes "reduced" ∷ codes "reduced_part"
    ∷ codes "splat" ∷ codes "store" ∷ codes "sub" ∷ codes "swap" ∷ codes "tile" ∷ codes "unaligned" ∷ codes "vec"
    ∷ codes "wide" ∷ codes "widened" ∷ codes "word" ∷ codes "BITS" ∷ codes "BY" ∷ codes "CHECK" ∷ codes "EACH" ∷ codes "EXCHANGE"
    ∷ codes "EXCHANGED" ∷ codes "FIRST" ∷ codes "FMA" ∷ codes "HALF" ∷ codes "INLINE" ∷ codes "LANES"
    ∷ codes "LAST" ∷ codes "LOW" ∷ codes "LOW52" ∷ codes "LOWER" ∷ codes "M" ∷ codes "MINIMUM" ∷ codes "P"
    ∷ codes "PART" ∷ codes "PARTS" ∷ codes "PICKED" ∷ codes "ROUGH" ∷ codes "TOP_BIT" ∷ codes "UPPER" ∷ codes "V"
    ∷ codes "WORDS" ∷ []

-- a table of the text, as t0 or u12
abbrev pub is_table : List ℕ → Bool
is_table [] = false
is_table (byte ∷ number) = ((byte == 116) || (byte == 117)) && (not (length number == 0) && list_all is_digit number)

abbrev pub begins_with : List ℕ → List ℕ → Bool
begins_with front name = starts_with nat_eq name front

abbrev pub ends_in : List ℕ → List ℕ → Bool
ends_in back name = ends_with nat_eq name back

-- the types of stdint.h, as uint8_t, of which C keeps more for later
abbrev pub is_type_of_c : List ℕ → Bool
is_type_of_c name = (begins_with (codes "int") name || begins_with (codes "uint") name) && ends_in (codes "_t") name

-- and its macros, as UINT8_MAX and INT64_C
abbrev pub is_macro_of_c : List ℕ → Bool
is_macro_of_c name =
    (begins_with (codes "INT") name || begins_with (codes "UINT") name)
    && (ends_in (codes "_MAX") name
    || (ends_in (codes "_MIN") name || (ends_in (codes "_WIDTH") name || ends_in (codes "_C") name)))

-- what C keeps for itself
abbrev pub is_reserved : List ℕ → Bool
is_reserved name = begins_with (codes "_") name || (is_type_of_c name || is_macro_of_c name)

abbrev pub is_taken : List ℕ → Bool
is_taken name =
    is_among words_of_c name || (is_among words_of_text name || (is_table name || is_reserved name))

-- a name that a function may have
abbrev pub is_free_name : List ℕ → Bool
is_free_name name = is_name name && not (is_taken name)
