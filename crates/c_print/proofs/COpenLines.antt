-- The lines of a C text, and that no line ends inside of one.
use Rattle.std.proofs.Common.{◌≡◌, ℕ, ◌*◌, true, List, [], ◌∷◌, ◌++◌, length, codes, decimal, refl, sym, ap, subst, ◌∙◌}
use Rattle.std.proofs.Common.{append_assoc}
use Rattle.std.proofs.lemmas.List.{append-nil}
use Rattle.icode.specs.Plain.{PlainOp, PlainBody, Load, Store, Zero, Add, Sub, Neg, MulConst, MulTable, Tile}
use Rattle.listing_text.specs.Lines.{is_open, IsLine}
use Rattle.listing_text.specs.declared.draft.Header.{Header}
use Rattle.listing_text.specs.Wording.{PlainAct, Open, Close, Do}
use Rattle.listing_text.specs.Progress.{begin_text}
use Rattle.listing_text.proofs.OpenLines.{IsOpen, ◌&◌, literal, number_open, numbers_open, sum_open, array_open}
use Rattle.listing_text.proofs.OpenLines.{ends_line, header_open, HasLines, HasFirst, first_behind}
use Rattle.listing_text.specs.Numbers.{numbered_text}
use Rattle.c_print.specs.CText.{lane_loop, tile_loops, lane_text, becomes_text, c_op_text, c_line_text, c_header_text}
use Rattle.c_print.specs.CText.{front_text, joined_text, c_table_text, add_text, sub_text, mul_text, functions_text}
use Rattle.c_print.specs.CText.{phase_start_text, c_wording}
use Rattle.c_print.proofs.CSpelt.{c_act_text}
use Rattle.c_print.proofs.CLineLaws.{line_text_is}

-- ---- lines of a phase

lane_open : (register : ℕ) → IsOpen (lane_text register)
lane_open register = literal (codes "r[") refl & number_open register & literal (codes "][l]") refl

becomes_open : (register : ℕ) → IsOpen (becomes_text register)
unfolding lane_loop
becomes_open register = literal lane_loop refl & lane_open register & literal (codes " = ") refl

op_open : (op : PlainOp) → IsOpen (c_op_text op)
unfolding c_op_text lane_loop tile_loops
op_open (Load register array place) = becomes_open register & array_open array & literal (codes "[") refl & sum_open place & literal (codes " + l];") refl
op_open (Store array place register) = literal lane_loop refl & array_open array & literal (codes "[") refl & sum_open place & literal (codes " + l] = ") refl & lane_open register & literal (codes ";") refl
op_open (Zero register) = becomes_open register & literal (codes "0;") refl
op_open (Add register left right) = becomes_open register & literal (codes "add(") refl & lane_open left & literal (codes ", ") refl & lane_open right & literal (codes ");") refl
op_open (Sub register left right) = becomes_open register & literal (codes "sub(") refl & lane_open left & literal (codes ", ") refl & lane_open right & literal (codes ");") refl
op_open (Neg register source) = becomes_open register & literal (codes "sub(0, ") refl & lane_open source & literal (codes ");") refl
op_open (MulConst register source factor) = becomes_open register & literal (codes "mul(") refl & lane_open source & literal (codes ", ") refl & number_open factor & literal (codes ");") refl
op_open (MulTable register source table place step) =
    becomes_open register & literal (codes "mul(") refl & lane_open source & literal (codes ", t") refl & number_open table & literal (codes "[") refl & sum_open place & literal (codes " + ") refl & number_open step & literal (codes " * l]);") refl
op_open (Tile register source) = literal tile_loops refl & literal (codes "r[") refl & number_open register & literal (codes " + k][l] = r[") refl & number_open source & literal (codes " + l][k];") refl

act_open : (act : PlainAct) → IsOpen (c_act_text act)
act_open (Open depth count) =
    literal (codes "for (uint64_t v") refl & number_open depth & literal (codes " = 0; v") refl & number_open depth & literal (codes " < ") refl & number_open count & literal (codes "; v") refl & number_open depth & literal (codes "++) {") refl
act_open Close = literal (codes "}") refl
act_open (Do op) = op_open op

pub act_is_line : (act : PlainAct) → IsLine (c_line_text act)
act_is_line act = subst IsLine (line_text_is act) (ends_line (c_act_text act) (act_open act))

-- ---- the other lines

pub header_is_line : (h : Header) → IsLine (c_header_text h)
header_is_line h = header_open (codes "/* program size ") (codes " */") h (literal (codes "/* program size ") refl) (literal (codes " */") refl)

joined_open : (entries : List ℕ) → IsOpen (joined_text entries)
joined_open [] = literal [] refl
joined_open (c ∷ entries) = number_open c & numbers_open (codes ",") (literal (codes ",") refl) entries

pub table_is_line : (number : ℕ) (entries : List ℕ) → IsLine (c_table_text number entries)
unfolding c_table_text
table_is_line number entries =
    let front = codes "static const uint64_t t" ++ decimal number ++ codes "[" ++ decimal (length entries) ++ codes "] = {" ++ joined_text entries in
    subst IsLine (append_assoc front (codes "};") (codes "\n"))
    (ends_line (front ++ codes "};")
    (literal (codes "static const uint64_t t") refl & number_open number & literal (codes "[") refl & number_open (length entries) & literal (codes "] = {") refl & joined_open entries & literal (codes "};") refl))

-- a line with a number in it
numbered_line : (before : List ℕ) (number : ℕ) (after : List ℕ) → is_open before ≡ true → is_open after ≡ true →
    IsLine (numbered_text before number (after ++ codes "\n"))
numbered_line before number after h k = subst IsLine (append_assoc (before ++ decimal number) after (codes "\n")) (ends_line (before ++ decimal number ++ after) (literal before h & number_open number & literal after k))

-- ---- texts of whole lines

literal_line : (front : List ℕ) → is_open front ≡ true → IsLine (front ++ codes "\n")
literal_line front h = ends_line front (literal front h)

eight_right : (a b c d e f g h : List ℕ) → a ++ b ++ c ++ d ++ e ++ f ++ g ++ h ≡ a
    ++ (b ++ (c ++ (d ++ (e ++ (f ++ (g ++ (h ++ [])))))))
eight_right a b c d e f g h =
    let moved : a ++ b ++ c ++ d ++ e ++ f ++ g ++ h ≡ a ++ (b ++ (c ++ (d ++ (e ++ (f ++ (g ++ h)))))) = simp append_assoc in
    moved ∙ ap (λ y. a ++ (b ++ (c ++ (d ++ (e ++ (f ++ (g ++ y))))))) (sym (append-nil h))

three_right : (a b c : List ℕ) → a ++ b ++ c ≡ a ++ (b ++ (c ++ []))
three_right a b c = append_assoc a b c ∙ ap (λ y. a ++ (b ++ y)) (sym (append-nil c))

abbrev include_line : List ℕ
include_line = codes "#include <stdint.h>\n"

abbrev front_lines : ℕ → ℕ → ℕ → List (List ℕ)
front_lines modulus lanes words =
    numbered_text (codes "#define M ") modulus (codes "ULL\n") ∷ numbered_text (codes "#define V ") lanes (codes "\n")
    ∷ codes "#define X (W + 0)\n" ∷ numbered_text (codes "#define Y (W + ") words (codes ")\n") ∷ numbered_text (codes "#define A (W + ") (2 * words) (codes ")\n")
    ∷ numbered_text (codes "#define B (W + ") (3 * words) (codes ")\n") ∷ numbered_text (codes "static uint64_t W[") (4 * words) (codes "];\n") ∷ []

pub front_has_lines : (modulus lanes words : ℕ) → HasLines (front_text modulus lanes words)
unfolding front_text
front_has_lines modulus lanes words = record {
  lines = include_line ∷ front_lines modulus lanes words;
  whole = eight_right include_line (numbered_text (codes "#define M ") modulus (codes "ULL\n")) (numbered_text (codes "#define V ") lanes (codes "\n")) (codes "#define X (W + 0)\n")
      (numbered_text (codes "#define Y (W + ") words (codes ")\n")) (numbered_text (codes "#define A (W + ") (2 * words) (codes ")\n")) (numbered_text (codes "#define B (W + ") (3 * words) (codes ")\n")) (numbered_text (codes "static uint64_t W[") (4 * words) (codes "];\n"));
  are = (
    literal_line (codes "#include <stdint.h>") refl,
    (
      numbered_line (codes "#define M ") modulus (codes "ULL") refl refl,
      (
        numbered_line (codes "#define V ") lanes [] refl refl,
        (
          literal_line (codes "#define X (W + 0)") refl,
          (
            numbered_line (codes "#define Y (W + ") words (codes ")") refl refl,
            (
              numbered_line (codes "#define A (W + ") (2 * words) (codes ")") refl refl,
              (
                numbered_line (codes "#define B (W + ") (3 * words) (codes ")") refl refl,
                (
                  numbered_line (codes "static uint64_t W[") (4 * words) (codes "];") refl refl,
                  tt,
                ),
              ),
            ),
          ),
        ),
      ),
    ),
  );
}

functions_first : HasFirst functions_text
unfolding functions_text add_text sub_text mul_text
functions_first = record {
  first = add_text;
  others = sub_text ∷ mul_text ∷ [];
  whole = three_right add_text sub_text mul_text;
  is = literal_line (codes "static uint64_t add(uint64_t a, uint64_t b) { uint64_t c = a + b; return c >= M ? c - M : c; }") refl;
  are = (
    literal_line (codes "static uint64_t sub(uint64_t a, uint64_t b) { return a >= b ? a - b : a + M - b; }") refl,
    (literal_line (codes "static uint64_t mul(uint64_t a, uint64_t b) { return (uint64_t)((unsigned __int128)a * b % M); }") refl, tt),
  );
}

phase_first : (regs number : ℕ) → HasFirst (phase_start_text regs number)
unfolding phase_start_text
phase_first regs number = record {
  first = numbered_text (codes "void phase") number (codes "(uint64_t q) {\n");
  others = numbered_text (codes "uint64_t r[") regs (codes "][V];\n") ∷ codes "(void)q;\n" ∷ [];
  whole = three_right (numbered_text (codes "void phase") number (codes "(uint64_t q) {\n")) (numbered_text (codes "uint64_t r[") regs (codes "][V];\n")) (codes "(void)q;\n");
  is = numbered_line (codes "void phase") number (codes "(uint64_t q) {") refl refl;
  are = (numbered_line (codes "uint64_t r[") regs (codes "][V];") refl refl, (literal_line (codes "(void)q;") refl, tt));
}

-- the functions stand before the first phase
pub begin_first : (h : Header) (phases : List PlainBody) → HasFirst (begin_text c_wording h phases)
begin_first h [] = first_behind functions_text (phase_start_text h.regs 0) functions_first (phase_first h.regs 0)
begin_first h (b ∷ phases) = phase_first h.regs (length (b ∷ phases))
