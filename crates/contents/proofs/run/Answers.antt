use mathlib.Core.Path.{◌≡◌, sym, ◌∙◌}
use mathlib.Core.List.{List}
use Prim.Native.Nat.{◌+◌, ◌≤◌, ◌<◌}
use native.Mathlib.Nat.{add-sub_cancel_left}
use native.Mathlib.Omega.{arith}
use borrow.Author.Rules.{rules}
use lib.IntN.{ℤ, pos}
use lib.ListN.{get_or}
use mir.Syntax.{w64}
use mir.Val.{SFits}
use Rattle.prelude.proofs.Choice.{also_left, also_pass}
use Rattle.contents.proofs.Keeping.{compared, too_low, too_high, in_range, run_step, run_end, part_size, part_cell}
use Rattle.contents.proofs.run.Goals.{then-z-low-via-then-z-low, then-z-low-via-else-z-low+then-high-z}
use Rattle.contents.proofs.run.Goals as goal

pub loop-z-init : goal.loop-z-init
loop-z-init c = let none : c.args.a + 0 ≡ c.args.a = omega arith in
    rw (none, add-sub_cancel_left c.args.a c.args.n)

pub returns-then-z-low : goal.returns-then-z-low
returns-then-z-low c =
    let a = c.args in
    let l = c.loop-z in
    let at = a.a + l.z-index in
    let store : List ℤ = a.store.now in
    let more : l.z-index < a.n = omega (arith, part_size store a.a a.n c.requires.2) in
    let here = part_cell store a.a a.n l.z-index more in
    let low = c.lowest-low in
    let high = c.highest-high in
    let z = get_or store at (pos 0) in
    let fits : SFits w64 z = rw (← here) (search rules) in
    let step = l.invariant ∙ run_step a.kind store at (a.a + a.n) (omega arith) c.requires.2 in
    elim c.then-z-low.branch [
      | then-z-low-via-then-z-low w ↦
          let less = compared z low.result fits (record { sfits = low.type_inv }) (rw here at w.if-z-low.true) in
          sym (step ∙ also_left _ (too_low _ z c.requires.1 (rw low.ensures at less)))
      | then-z-low-via-else-z-low+then-high-z w ↦
          let less = compared z low.result fits (record { sfits = low.type_inv }) (rw here at w.if-z-low.false) in
          let more = compared high.result z (record { sfits = high.type_inv }) fits (rw here at w.if-high-z.true) in
          sym (step ∙ also_left _ (too_high _ z c.requires.1 (rw low.ensures at less) (rw high.ensures at more)))
    ]

pub loop-z-preserved : goal.loop-z-preserved
loop-z-preserved c =
    let a = c.args in
    let l = c.loop-z in
    let at = a.a + l.z-index in
    let store : List ℤ = a.store.now in
    let more : l.z-index < a.n = omega (arith, part_size store a.a a.n c.requires.2) in
    let here = part_cell store a.a a.n l.z-index more in
    let low = c.lowest-low in
    let high = c.highest-high in
    let z = get_or store at (pos 0) in
    let fits : SFits w64 z = rw (← here) (search rules) in
    let step = l.invariant ∙ run_step a.kind store at (a.a + a.n) (omega arith) c.requires.2 in
    let less = compared z low.result fits (record { sfits = low.type_inv }) (rw here at c.if-z-low.false) in
    let most = compared high.result z (record { sfits = high.type_inv }) fits (rw here at c.if-high-z.false) in
    let next : a.a + (l.z-index + 1) ≡ at + 1 = omega arith in
    rw next (step ∙ also_pass _ (in_range _ z c.requires.1 (rw low.ensures at less) (rw high.ensures at most)))

pub returns : goal.returns
returns c =
    let a = c.args in
    let l = c.loop-z in
    let end : a.a + a.n ≤ a.a + l.z-index = omega (arith, part_size a.store.now a.a a.n c.requires.2) in
    sym (l.invariant ∙ run_end a.kind a.store.now (a.a + l.z-index) (a.a + a.n) end)
