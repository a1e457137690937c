-- Whole texts.
use Rattle.std.specs.Prelude.{ℕ, pos, List, [], ◌∷◌, ◌++◌, map, length, replicate, codes, decimal, flat_map}
use Rattle.c_print.specs.CText.{joined_text}
use Rattle.c_meaning.specs.Types.{Word, Suffix, constant_type}
use Rattle.c_meaning.specs.Syntax.{Name, Function, Procedure}
use Rattle.c_meaning.specs.Numbers.{Defined}
use Rattle.c_meaning.specs.Scopes.{Scope, Words, nothing, no_words, instead, with_variable, with_array, with_part}
use Rattle.c_meaning.specs.Expressions.{with_function}
use Rattle.c_meaning.specs.Spelling.{name_text, constant_text, function_text, procedure_text}

-- a macro that stands for a constant
pub record Macro : Type 0 where
  pub name : Name
  pub number : ℕ
  pub suffix : Suffix

-- a macro that stands for the words of an array from a place on
pub record Part : Type 0 where
  pub name : Name
  pub start : ℕ

-- an array of words that stay as they are
pub record Table : Type 0 where
  pub name : Name
  pub entries : List ℕ

-- A text, in the order of its lines. Its memory is one array of words, which are 0 at first; each part lies in it
pub record CUnit : Type 0 where
  pub comment : List ℕ
  pub macros : List Macro
  pub parts : List Part
  pub memory : Name
  pub words : ℕ
  pub tables : List Table
  pub functions : List Function
  pub procedures : List Procedure

-- Its text

abbrev pub macro_text : Macro → List ℕ
macro_text m = codes "#define " ++ name_text m.name ++ codes " " ++ constant_text m.suffix m.number ++ codes "\n"

abbrev pub part_text : Name → Part → List ℕ
part_text memory p =
    codes "#define " ++ name_text p.name ++ codes " (" ++ name_text memory
    ++ codes " + " ++ decimal p.start ++ codes ")\n"

abbrev pub words_text : Name → ℕ → List ℕ
words_text memory words = codes "static uint64_t " ++ name_text memory ++ codes "[" ++ decimal words ++ codes "];\n"

abbrev pub table_text : Table → List ℕ
table_text t =
    codes "static const uint64_t " ++ name_text t.name ++ codes "[" ++ decimal (length t.entries) ++ codes "] = {"
    ++ joined_text t.entries ++ codes "};\n"

abbrev pub front_text : CUnit → List ℕ
front_text u =
    codes "#include <stdint.h>\n"
    ++ (flat_map macro_text u.macros ++ (flat_map (part_text u.memory) u.parts ++ words_text u.memory u.words))

abbrev pub unit_text : CUnit → List ℕ
unit_text u =
    codes "/* " ++ u.comment ++ codes " */\n" ++ front_text u ++ flat_map table_text u.tables
    ++ (flat_map function_text u.functions ++ flat_map procedure_text u.procedures)

-- What its names stand for, with the later ones first

abbrev pub with_macros : List Macro → Scope → Scope
with_macros [] s = s
with_macros (m ∷ macros) s =
    with_macros macros (with_variable (constant_type m.suffix m.number) m.name (pos m.number) s)

abbrev pub with_parts : Name → List Part → Scope → Scope
with_parts memory [] s = s
with_parts memory (p ∷ parts) s = with_parts memory parts (with_part Word p.name memory p.start s)

abbrev pub with_tables : List Table → Scope → Scope
with_tables [] s = s
with_tables (t ∷ tables) s = with_tables tables (with_array Word t.name (length t.entries ∷ []) s)

abbrev pub with_functions : List Function → Scope → Scope
with_functions [] s = s
with_functions (f ∷ functions) s = with_functions functions (with_function f s)

abbrev pub scope_of : CUnit → Scope
scope_of u =
    with_functions u.functions
    (with_tables u.tables
    (with_array Word u.memory (u.words ∷ []) (with_parts u.memory u.parts (with_macros u.macros nothing))))

-- Its words before anything runs

abbrev pub with_entries : List Table → Words → Words
with_entries [] words = words
with_entries (t ∷ tables) words = with_entries tables (instead t.name (map (λ c. Defined (pos c)) t.entries) words)

abbrev pub words_of : CUnit → Words
words_of u = with_entries u.tables (instead u.memory (replicate u.words (Defined (pos 0))) no_words)
