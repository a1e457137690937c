use Rattle.std.proofs.Common.{ℕ, ◌≡◌, ◌≤◌, ◌+◌, ◌*◌, ◌++◌, codes, decimal, drop, flat_map}
use Rattle.arrayvec.specs.ArrayString.{array_string_len}
use Rattle.runs.proofs.text.put_more.Given as goal

-- the numbers from this one on are still to come
abbrev pub invariant-loop-factor : goal.invariant-loop-factor
invariant-loop-factor l =
    let f = λ (factor : ℕ). codes "," ++ decimal factor in
    record {
      text : l.line.bytes ++ flat_map f (drop l.factor-index l.factors) ≡ l.fn.line.bytes ++ flat_map f l.factors;
      len : array_string_len l.line ≤ array_string_len l.fn.line + 21 * l.factor-index;
    }
