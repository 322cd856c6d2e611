use mathlib.Core.Path.{◌∙◌}
use Rattle.objects.proofs.Deciding.{element_low, element_few, element_some, array_held, is_record}
use Rattle.objects.proofs.Deciding.{part_array, part_record}
use Rattle.objects.proofs.parts.Goals as goal

pub elements-requires : goal.elements-requires
elements-requires c = let row = c.row_at-row.ensures in (
  c.requires.1,
  element_few c.requires.0 c.args.r c.requires.2 row c.if-row-eq3.true,
  element_some c.requires.0 c.args.r c.requires.2 row c.requires.3 c.requires.4 c.if-row-eq3.true,
  c.requires.3,
)

pub returns-then-row-eq3 : goal.returns-then-row-eq3
returns-then-row-eq3 c = let row = c.row_at-row.ensures in
    let kind = c.if-row-eq3.true in
    let low = element_low c.requires.0 c.args.r c.requires.2 row kind in record {
      result_value = λ edges.
          c.elements.ensures.by_index _ c.args.r c.row_at-row.result.b edges low
          (rw (array_held c.requires.0 c.args.r c.requires.2 row kind) c.requires.4)
          ∙ (part_array c.requires.0 c.args.r c.requires.2 row _ c.args.o kind).1;
      lower = c.elements.ensures.lower c.args.r low;
    }

pub fields-requires : goal.fields-requires
fields-requires c = let kind = is_record c.requires.0 c.args.r c.requires.2 c.row_at-row.ensures c.requires.3 c.requires.4
    c.if-row-eq3.false in
    (c.requires.0, c.requires.1, c.requires.2, kind, c.requires.3, c.requires.4)

pub returns : goal.returns
returns c = let row = c.row_at-row.ensures in
    let kind = is_record c.requires.0 c.args.r c.requires.2 row c.requires.3 c.requires.4 c.if-row-eq3.false in record {
      result_value = λ edges.
          c.fields.ensures.result_value edges
          ∙ part_record c.requires.0 c.args.r c.requires.2 row _ c.args.o (rw row kind);
      lower = c.fields.ensures.lower;
    }
