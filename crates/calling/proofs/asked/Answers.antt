use mathlib.Core.Path.{◌≡◌, sym, ap, ◌∙◌}
use Prim.Native.Nat.{◌<◌}
use borrow.Author.Tests.{eq-eqb, ne_eqb, lt-ltb, le-ltb}
use lib.Dec.{ltb}
use Rattle.prelude.specs.Choice.{choose}
use Rattle.prelude.proofs.Choice.{choose_yes, choose_no}
use Rattle.image.specs.declared.Row.{Row}
use Rattle.image.specs.Rows.{rows_of}
use Rattle.semantics.specs.Running.{program_of, asked_by}
use Rattle.access.proofs.Bounds.{call_there}
use Rattle.calling.proofs.asked.Goals as goal
use Rattle.calling.proofs.asked.Goals.{After-new_top-end, After-statement_at-statement}

-- `calling::asked` meets its contract: a call's top, where the store has room for it.
-- behind the statement's row: a call's procedure is there
called : (c : After-statement_at-statement) → c.statement_at-statement.result.kind ≡ 1
    → c.statement_at-statement.result.a < rows_of (program_of c.args.loaded.now.image.now).procedures
called c e =
    rw c.statement_at-statement.ensures
    (call_there c.args.loaded.now.planned c.args.s.row
    (sym (ap (λ (r : Row). r.kind) c.statement_at-statement.ensures) ∙ e))

-- behind its top
asks : (c : After-new_top-end) → asked_by (program_of c.args.loaded.now.image.now) c.args.s c.args.cells
    ≡ choose (ltb c.args.cells c.new_top-end.result) 0 c.new_top-end.result
unfolding asked_by
asks c =
    rw (← c.statement_at-statement.ensures, ← c.new_top-end.ensures)
    (choose_yes _ _ _ (eq-eqb _ 1 c.if-statement-ne1.false))

pub returns-then-statement-ne1 : goal.returns-then-statement-ne1
unfolding asked_by
returns-then-statement-ne1 c =
    sym (rw (← c.statement_at-statement.ensures) (choose_no _ _ _ (ne_eqb _ 1 c.if-statement-ne1.true)))

pub new_top-end-requires : goal.new_top-end-requires
new_top-end-requires c =
    (c.requires, called (goal.at.new_top-end-requires c).After-statement_at-statement c.if-statement-ne1.false)

pub returns-then-cells-end : goal.returns-then-cells-end
returns-then-cells-end c = sym (asks (goal.at.returns-then-cells-end c).After-new_top-end ∙ choose_yes _ _ _ (lt-ltb _ _ c.if-cells-end.true))

pub returns : goal.returns
returns c = sym (asks (goal.at.returns c).After-new_top-end ∙ choose_no _ _ _ (le-ltb _ _ c.if-cells-end.false))
