use mathlib.Core.Path.{◌∙◌}
use Rattle.semantics.specs.Memory.{bare, value_at}
use Rattle.access.proofs.Bounds.{kind_read}
use Rattle.finding.proofs.View.load.Goals as goal

pub returns : goal.returns
unfolding value_at bare
returns c = c.value_at.ensures ∙ rw (kind_read c.args.self.now.loaded.planned _ c.requires _)
