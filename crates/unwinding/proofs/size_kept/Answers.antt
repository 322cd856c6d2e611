use mathlib.Core.Path.{sym, ◌∙◌}
use borrow.Author.Tests.{lt-leb, ltb-true}
use Rattle.prelude.proofs.Choice.{also_left, also_right, also_pass}
use Rattle.unwinding.specs.Links.{size_kept}
use Rattle.unwinding.proofs.Links.{end_short, end_same}
use Rattle.unwinding.proofs.size_kept.Goals as goal

pub returns-then-not-is_procedure : goal.returns-then-not-is_procedure
unfolding size_kept
returns-then-not-is_procedure c = sym (also_left _ (sym c.is_procedure.ensures ∙ c.if-not-is_procedure.true))

pub frame_size-size-requires : goal.frame_size-size-requires
frame_size-size-requires c = ltb-true _ _ (sym c.is_procedure.ensures ∙ c.if-not-is_procedure.false)

pub returns-else-size-e : goal.returns-else-size-e
unfolding size_kept
returns-else-size-e c =
    lt-leb _ _ c.if-size-e.false ∙ sym (also_right _ (end_short _ _ c.frame_size-size.ensures c.if-size-e.false))

pub returns-then-size-e : goal.returns-then-size-e
unfolding size_kept
returns-then-size-e c =
    let low = sym c.is_procedure.ensures ∙ c.if-not-is_procedure.false in
    end_same _ _ c.frame_size-size.ensures c.if-size-e.true ∙ sym (also_pass _ low)
