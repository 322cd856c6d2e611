-- How images and results are written in the table.
use mathlib.Core.List.{List, [], ◌∷◌}
use Prim.Native.Nat.{ℕ, ◌/◌, ◌%◌}
use lib.IntN.{ℤ, pos}
use lib.ListN.{replicate}
use Rattle.semantics.specs.declared.RunResult.{RunResult}

-- An image is a start, and then for each of the six tables a count and so many rows, joined.

-- "Byte 0 is the version, 1. Bytes 1 to 4 give the length of the whole image.": here below 65,536
abbrev pub start : ℕ → List ℕ
start n = 1 ∷ 0 ∷ 0 ∷ n / 256 ∷ n % 256 ∷ []

-- "a 16-bit row count"
abbrev pub count : ℕ → List ℕ
count n = n / 256 ∷ n % 256 ∷ []

-- "A row is 8 bytes: kind, a zero byte, 16-bit numbers a, b, c."
abbrev pub row : ℕ → ℕ → ℕ → ℕ → List ℕ
row kind a b c = kind ∷ 0 ∷ a / 256 ∷ a % 256 ∷ b / 256 ∷ b % 256 ∷ c / 256 ∷ c % 256 ∷ []

-- a store of n cells, or an output of n places
abbrev pub zeros : ℕ → List ℤ
zeros n = replicate n (pos 0)

-- "refusal, row of refusal, outcome .., trap, HALT number, statement row, steps, read, written"; then base, top and mark
abbrev pub results : ℕ → ℕ → ℕ → ℕ → ℕ → ℕ → ℕ → ℕ → ℕ → ℕ → ℕ → ℕ → RunResult
results refusal fault outcome trap halt row steps read written base top mark = record {
  refusal = refusal;
  fault = fault;
  outcome = outcome;
  trap = trap;
  halt = pos halt;
  steps = steps;
  at = record { row = row; base = base; top = top; read = read; written = written };
  mark = mark;
}
