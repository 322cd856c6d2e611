-- The step law: from any sound state a step goes on to a sound one, finishes, or ends in a named trap.
use mathlib.Core.Path.{◌≡◌}
use mathlib.Core.Logic.{◌⊎◌, inl, inr}
use mathlib.Core.List.{List}
use lib.IntN.{ℤ}
use Rattle.prelude.specs.Choice.{choose}
use Rattle.image.specs.Rows.{Bytes, row_at}
use Rattle.shapes.proofs.Layouts.{decide}
use Rattle.checker.proofs.Accepted.{AcceptedTables}
use Rattle.semantics.specs.Memory.{Cell, tagged}
use Rattle.semantics.specs.Layout.{Program}
use Rattle.semantics.specs.Stepping.{State, perform, step_of}
use Rattle.semantics.specs.Sound.{Sound}
use Rattle.semantics.specs.Demand3.{NextOk}
use Rattle.semantics.proofs.Performing.{performed, simple_ok}
use Rattle.semantics.proofs.Calling.{called_ok}

module _ (g : Program)
    (ok : AcceptedTables g.types g.fields g.variables g.procedures g.nodes g.statements)
    (bytes : Bytes g.nodes) (s : State Cell) (sound : Sound g s) (input : List ℤ) where
  call_ok : (row_at g.statements s.at.row).kind ≡ 1 → NextOk g s (step_of tagged g input s)
  unfolding perform choose
  call_ok kind = performed g ok bytes s sound input 1 kind (called_ok g ok bytes s sound kind)

  pub step_ok : NextOk g s (step_of tagged g input s)
  step_ok = go (decide (row_at g.statements s.at.row).kind 1)
    where
      go : ((row_at g.statements s.at.row).kind ≡ 1) ⊎ ((row_at g.statements s.at.row).kind ≡ 1 → ⊥)
          → NextOk g s (step_of tagged g input s)
      go (inl kind) = call_ok kind
      go (inr other) = simple_ok g ok bytes s sound input other
