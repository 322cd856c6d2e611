use mathlib.Core.Path.{◌≡◌, sym, ◌∙◌}
use Prim.Native.Nat.{◌+◌, ◌-◌, ◌<◌}
use native.Mathlib.Omega.{arith}
use Rattle.shapes.proofs.Rows.{of_base_lem}
use Rattle.objects.specs.Looking.{held, Below.inside_below}
use Rattle.objects.proofs.Looks.{looks_inside, looks_told, below_told}
use Rattle.objects.proofs.Records.{base_some, base_room, base_few, base_lower, own_fields, own_ahead}
use Rattle.objects.proofs.Records.{record_own, record_yes, record_no}
use Rattle.objects.proofs.Bases.{base_inside, base_end}
use Rattle.objects.proofs.fields.Goals as goal
use Rattle.objects.proofs.fields.Goals.{then-marked, else-marked}

pub base_cells-before-requires : goal.base_cells-before-requires
base_cells-before-requires c = base_room c.requires.0 c.args.r c.requires.2 c.requires.3 c.row_at-row.ensures

pub among-requires : goal.among-requires
among-requires c = (
  own_ahead c.requires.0 c.args.r c.requires.2 c.requires.3 c.row_at-row.ensures c.base_cells-before.ensures
      (omega arith) c.requires.5 (omega arith),
  c.requires.1,
  omega arith,
)

pub returns-then-before-o : goal.returns-then-before-o
returns-then-before-o c = let row = c.row_at-row.ensures in
    let before = c.base_cells-before.result in
    let size = c.base_cells-before.ensures in
    let place : before + (c.args.o - before) ≡ c.args.o = omega arith in
    let own = own_fields c.requires.0 c.args.r c.requires.2 c.requires.3 row size place c.requires.5 in record {
      result_value = λ edges.
          c.among.ensures.by_index _ _ c.args.r edges own
          ∙ record_own c.requires.0 c.args.r c.requires.2 c.requires.3 row _ size c.args.o edges
          c.if-before-o.true;
      lower = c.among.ensures.lower _ c.args.r own;
    }

pub overflow_sub-base : goal.overflow_sub-base
overflow_sub-base c = let some = base_some _ _ c.base_cells-before.ensures (omega arith) in omega arith

pub returns-then-o-before : goal.returns-then-o-before
returns-then-o-before c = let row = c.row_at-row.ensures in
    let a = c.row_at-row.result.a in
    let size = c.base_cells-before.ensures in
    let some : 0 < a = base_some _ _ size (omega arith) in record {
      result_value = λ edges.
          looks_inside _ _ _ (base_inside c.requires.0 c.args.w c.args.r c.requires.2 c.requires.3 row c.args.o
          some c.requires.4 size c.if-o-before.true);
      lower = inside_below {u = a - 1} {o = c.args.o}
          (base_lower c.requires.0 c.args.r c.requires.2 c.requires.3 row some).0 c.requires.4
          (omega (arith, size, of_base_lem 0 (held c.args.plan.now) a some));
    }

pub marked-requires : goal.marked-requires
marked-requires c = (
  c.requires.1,
  omega (
    arith,
    base_few c.requires.0 c.args.r c.requires.2 c.requires.3 c.row_at-row.ensures,
    base_some _ _ c.base_cells-before.ensures (omega arith),
  ),
)

pub among_first-requires : goal.among_first-requires
among_first-requires c = (
  own_ahead c.requires.0 c.args.r c.requires.2 c.requires.3 c.row_at-row.ensures
      c.base_cells-before.ensures (omega arith) c.requires.5 (omega arith),
  c.requires.1,
)

pub returns : goal.returns
returns c = let row = c.row_at-row.ensures in
    let size = c.base_cells-before.ensures in
    let last : c.args.o ≡ c.base_cells-before.result = omega arith in
    let place : c.base_cells-before.result + 0 ≡ c.args.o = omega arith in record {
      result_value = λ edges.
          let own = own_fields c.requires.0 c.args.r c.requires.2 c.requires.3 row size place c.requires.5 in
          let end = sym (base_end c.requires.0 c.args.w c.args.r c.requires.2 c.requires.3 row c.args.o edges
          (base_some _ _ size (omega arith)) c.requires.4 (last ∙ size)) ∙ sym c.marked.ensures in
          looks_told _ c.from.ensures (elim c.if-marked.branch [
            | then-marked w ↦
                w.from-is ∙ w.if-marked.true
                ∙ sym (record_yes c.requires.0 c.args.r c.requires.2 c.requires.3 row _ size c.args.o (end ∙ w.if-marked.true))
            | else-marked w ↦
                w.from-is ∙ w.among_first.ensures _ _ c.args.r _ edges own
                ∙ record_no c.requires.0 c.args.r c.requires.2 c.requires.3 row _ size c.args.o (end ∙ w.if-marked.false) last
          ]);
      lower = below_told _ c.from.ensures;
    }
