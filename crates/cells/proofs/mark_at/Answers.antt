use mathlib.Core.Path.{sym, ◌∙◌, ap}
use borrow.Author.Tests.{lt-ltb, le-ltb}
use borrow.Author.Rules.{rules}
use lib.IntN.{pos}
use lib.ListN.{get_or}
use Rattle.prelude.proofs.Choice.{choose_yes, choose_no}
use Rattle.values.proofs.Numbers.{plain64}
use Rattle.semantics.specs.Memory.{bare, cell_at, mark_of, mark_at}
use Rattle.cells.proofs.mark_at.Goals as goal

-- `cells::mark_at` meets its contract: a cell's number is read with any kind alike.
pub returns-then-top-address : goal.returns-then-top-address
unfolding mark_at
returns-then-top-address c = λ kind. sym (choose_no _ _ _ (le-ltb _ _ c.if-top-address.true))

pub returns : goal.returns
unfolding mark_at bare cell_at
returns c = λ kind.
    let z = get_or c.args.store.now c.args.address (pos 0) in
    c.mark_of.ensures ∙ ap mark_of (plain64 z (search rules))
    ∙ sym (choose_yes _ _ _ (lt-ltb _ _ c.if-top-address.false))
