use mathlib.Core.Path.{◌∙◌}
use Rattle.calling.proofs.Entering.{past_end, local_there, local_low, local_place}
use Rattle.calling.proofs.locals_place.Goals as goal

pub returns-then-procedure-eq0 : goal.returns-then-procedure-eq0
returns-then-procedure-eq0 c =
    let at = c.procedure_at-procedure in
    c.frame_size.ensures ∙ past_end c.args.loaded.now.planned _ c.requires _ at.ensures c.if-procedure-eq0.true

pub overflow_add-first_variable : goal.overflow_add-first_variable
overflow_add-first_variable c =
    let at = c.procedure_at-procedure in
    record {
      fits =
          local_low c.args.loaded.now.planned _ c.requires _ at.ensures c.if-procedure-eq0.false _
          c.first_variable.ensures;
    }

pub place_of-requires : goal.place_of-requires
place_of-requires c =
    let at = c.procedure_at-procedure in
    local_there c.args.loaded.now.planned _ c.requires _ at.ensures c.if-procedure-eq0.false _
    c.first_variable.ensures

pub returns : goal.returns
returns c =
    let at = c.procedure_at-procedure in
    c.place_of.ensures
    ∙ local_place c.args.loaded.now.planned _ c.requires _ at.ensures c.if-procedure-eq0.false _
    c.first_variable.ensures
