use Rattle.typing.specs.Typing.{type_in}
use Rattle.prelude.proofs.Choice.{choose_yes, choose_no}
use borrow.Author.Tests.{lt-ltb, le-ltb}
use mathlib.Core.Path.{sym}
use Rattle.typing.proofs.type_at.Goals as goal

pub returns-then-k-types : goal.returns-then-k-types
unfolding type_in
returns-then-k-types c = sym (choose_yes _ _ _ (lt-ltb _ _ c.if-k-types.true))

pub returns-else-k-types : goal.returns-else-k-types
unfolding type_in
returns-else-k-types c = sym (choose_no _ _ _ (le-ltb _ _ c.if-k-types.false))
