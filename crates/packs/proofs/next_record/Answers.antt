use mathlib.Core.Path.{◌≡◌, ◌∙◌}
use mathlib.Core.List.{List, ◌++◌}
use Prim.Native.Nat.{ℕ, ◌≤◌}
use native.Mathlib.Omega.{arith}
use lib.ListN.{length, take, drop, length-append, length-drop}
use lib.Seq.{length-take-le, drop_at}
use Rattle.std.proofs.Common.{rules, Err}
use Rattle.packs.specs.declared.PackEnd.TheVariants.{NoRecord, CutShort}
use Rattle.packs.specs.Records.{ReadTo, NextRecord.whole, NextRecord.none, NextRecord.cut}
use Rattle.packs.proofs.next_record.Goals as goal

-- What is lent to a read ends where the record does: n bytes lent and given back, before those that were kept
lent : (old part : List ℕ) (n : ℕ) → n ≤ length old → length part ≡ length (take n old)
    → ReadTo n old (part ++ drop n old)
lent old part n h size =
    let many : length part ≡ n = size ∙ length-take-le n old h in
    record {
      within = h;
      same = omega (arith, length-append part (drop n old), length-drop n old);
      behind = drop_at part (drop n old) n many;
    }

pub returns-in_err-map_err-clause-answer : goal.returns-in_err-map_err-clause-answer
returns-in_err-map_err-clause-answer g c =
    let e : c.from_residual.result ≡ Err NoRecord = search rules in rw e none

pub returns-then-buffer-n-clause-answer : goal.returns-then-buffer-n-clause-answer
returns-then-buffer-n-clause-answer g c = none

pub returns-in_err-map_err-2-clause-answer : goal.returns-in_err-map_err-2-clause-answer
returns-in_err-map_err-2-clause-answer g c =
    let e : c.from_residual-in_err-map_err-2.result ≡ Err CutShort = search rules in
    rw e (cut (lent _ c.read_exact-2.new.buf _ c.if-buffer-n.false c.read_exact-2.auto.buf))

pub returns-clause-answer : goal.returns-clause-answer
returns-clause-answer g c = whole (lent _ c.read_exact-2.new.buf _ c.if-buffer-n.false c.read_exact-2.auto.buf)
