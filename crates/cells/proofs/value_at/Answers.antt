use mathlib.Core.Path.{sym, ◌∙◌, ap}
use borrow.Author.Tests.{lt-ltb, le-ltb}
use borrow.Author.Rules.{rules}
use lib.IntN.{pos}
use lib.ListN.{get_or}
use Rattle.prelude.proofs.Choice.{choose_yes, choose_no}
use Rattle.values.proofs.Numbers.{plain64}
use Rattle.values.specs.Values.{cell_of}
use Rattle.semantics.specs.Memory.{bare, cell_at, value_at}
use Rattle.cells.proofs.value_at.Goals as goal

-- `cells::value_at` meets its contract: a cell's number below top, by the kind.
pub returns-then-top-address : goal.returns-then-top-address
unfolding value_at
returns-then-top-address c = sym (choose_no _ _ _ (le-ltb _ _ c.if-top-address.true))

pub returns : goal.returns
unfolding value_at bare cell_at
returns c =
    let z = get_or c.args.store.now c.args.address (pos 0) in
    c.cell.ensures ∙ ap (cell_of c.args.kind) (plain64 z (search rules))
    ∙ sym (choose_yes _ _ _ (lt-ltb _ _ c.if-top-address.false))
