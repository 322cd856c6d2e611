use mathlib.Core.Path.{sym, ◌∙◌}
use Prim.Native.Nat.{◌/◌, ◌%◌, ◌<◌}
use native.Mathlib.Omega.{arith}
use native.Mathlib.Nat.{div-add-mod', mod-lt}
use Rattle.objects.specs.Looking.{Below.inside_below}
use Rattle.objects.proofs.Looks.{looks_told, looks_inside, below_told}
use Rattle.objects.proofs.Looks.{parted_inside, parted_yes, parted_both}
use Rattle.objects.proofs.elements.Goals as goal
use Rattle.objects.proofs.elements.Goals.{then-marked, else-marked}

pub returns-then-inside-gt0 : goal.returns-then-inside-gt0
returns-then-inside-gt0 c = let o = c.args.o in
    let size = c.cell-size.result in
    let is = c.cell-size.ensures in
    let less : o % size < size = mod-lt o (omega (arith, is, c.requires.2)) in record {
      by_index = λ deeper m n edges low within.
          looks_inside deeper _ _
          (parted_inside edges low n is (o / size) (o % size) (div-add-mod' o size) within c.if-inside-gt0.true less);
      lower = λ m low. inside_below {o = o % size} low c.if-inside-gt0.true (omega (arith, is, less));
    }

pub returns : goal.returns
returns c = let o = c.args.o in
    let size = c.cell-size.result in
    let is = c.cell-size.ensures in record {
      by_index = λ deeper m many edges low within.
          looks_told deeper c.from.ensures (elim c.if-marked.branch [
            | then-marked w ↦ w.from-is ∙ w.if-marked.true ∙ sym (parted_yes edges low many is (o / size) (o % size) (div-add-mod' o size) within
                (omega arith) c.marked.ensures w.if-marked.true)
            | else-marked w ↦ w.from-is ∙ parted_both edges low many is (o / size) (o % size) (div-add-mod' o size) within
                (omega arith) c.marked.ensures w.if-marked.false (omega (arith, is, c.requires.2)) c.requires.3 w.marked-else-marked.ensures
          ]);
      lower = λ m low. below_told _ c.from.ensures;
    }
