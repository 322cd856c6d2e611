use mathlib.Core.Path.{sym, ◌∙◌}
use native.Mathlib.Omega.{arith}
use Rattle.prelude.specs.Choice.{choose}
use Rattle.access.specs.Ready.{table_of}
use Rattle.access.proofs.Bounds.{types_few, procedures_some}
use Rattle.prelude.proofs.Choice.{also_left, also_pass}
use Rattle.asking.specs.Passes.{values_pass}
use Rattle.referents.proofs.Lending.{typed_plan}
use Rattle.resuming.proofs.Passing.{evens_by, globals_first, globals_there, globals_room}
use Rattle.resuming.proofs.values_hold.Goals as goal

pub fill_even-requires : goal.fill_even-requires
unfolding table_of choose
fill_even-requires c =
    let p = c.args.loaded.now.planned in
    rw (c.table-2.ensures, c.table.ensures)
    (types_few p, (typed_plan p).kept, types_few p)

pub first_variable-requires : goal.first_variable-requires
first_variable-requires c =
    procedures_some c.args.loaded.now.planned

pub invariant_of-values : goal.invariant_of-values
unfolding table_of choose
invariant_of-values c =
    let types = c.table.ensures in
    let evens = rw (c.table-2.ensures, types) at c.fill_even.ensures in
    record {
      evens = evens_by (types_few c.args.loaded.now.planned) evens;
      skips = c.requires.0;
      most = c.requires.2;
    }

pub variables_hold-requires : goal.variables_hold-requires
variables_hold-requires c =
    rw (c.first_variable.ensures, globals_first _) (
      globals_there c.args.loaded.now.planned,
      omega (arith, globals_room _ _ _ _ _ c.requires.3, c.requires.1),
    )

pub returns-else-variables_hold : goal.returns-else-variables_hold
unfolding values_pass
returns-else-variables_hold c =
    let held = rw (c.first_variable.ensures, globals_first _)
    at c.variables_hold.ensures in
    c.if-variables_hold.false ∙ sym (also_left _ (sym held ∙ c.if-variables_hold.false))

pub frames_hold-requires : goal.frames_hold-requires
frames_hold-requires c = (c.requires.1, c.requires.3)

pub returns-then-variables_hold : goal.returns-then-variables_hold
unfolding values_pass
returns-then-variables_hold c =
    let held = rw (c.first_variable.ensures, globals_first _)
    at c.variables_hold.ensures in
    c.frames_hold.ensures ∙ sym (also_pass _ (sym held ∙ c.if-variables_hold.true))
