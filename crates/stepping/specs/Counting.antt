-- The numbers of a state.
use Rattle.std.specs.Prelude.{ℕ}
use Rattle.semantics.specs.declared.Registers.{Registers}

-- "the next row follows", or a jump's: the same numbers at another row
unfoldable pub at_row : Registers → ℕ → Registers
at_row s row = record { row = row; base = s.base; top = s.top; read = s.read; written = s.written }
