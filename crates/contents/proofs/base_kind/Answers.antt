use mathlib.Core.Path.{sym, ◌∙◌, ap}
use native.Mathlib.Omega.{arith}
use lib.ListN.{get_or}
use Rattle.shapes.proofs.Rows.{of_base_lem, of_no_base}
use Rattle.contents.specs.Kinds.{EMPTY}
use Rattle.contents.proofs.base_kind.Goals as goal

pub returns-in_default : goal.returns-in_default
returns-in_default c =
    sym (of_no_base EMPTY (λ u. get_or c.args.even.now u 0) c.args.a (omega (arith, c.in_default.ensures)))

pub returns : goal.returns
returns c = let some = c.in-Some.ensures in
    c.kind_at.ensures
    ∙ ap (λ u. get_or c.args.even.now u 0) some.1
    ∙ sym (of_base_lem EMPTY (λ u. get_or c.args.even.now u 0) c.args.a (omega arith))
