use mathlib.Core.Path.{◌∙◌, ap}
use Rattle.image.specs.declared.Row.{Row}
use Rattle.shapes.specs.Forms.{form_of, form, kind_by, kind_in}
use Rattle.shapes.proofs.kind_in.Goals as goal

pub returns : goal.returns
unfolding kind_in form
returns c = c.kind_of.ensures ∙ ap (λ (row : Row). kind_by (form_of row)) c.row_at.ensures
