use mathlib.Core.Path.{◌≡◌}
use Prim.Native.Nat.{◌+◌, ◌-◌, ◌<◌}
use native.Mathlib.Omega.{arith}
use Rattle.places.proofs.Running.{run_none, run_next, run_small}
use Rattle.places.proofs.place_run.Goals as goal

pub loop-i-init : goal.loop-i-init
loop-i-init c = let s = c.args in
    let none : s.k - s.k ≡ 0 = omega arith in
    rw none (run_none _ _ _ _ _)

pub overflow_add-place : goal.overflow_add-place
overflow_add-place c =
    let l = c.loop-i in
    let s = c.requires in
    let here : c.args.k + (l.i - c.args.k) ≡ l.i = omega arith in
    let more : l.i - c.args.k < c.args.n = omega arith in
    let small = run_small _ _ _ _ _ _ _ _ s.0 s.1 l.invariant more c.width_at-width.result
    (rw here c.width_at-width.ensures) s.2 in
    record { fits = omega (arith, small) }

pub loop-i-preserved : goal.loop-i-preserved
loop-i-preserved c =
    let l = c.loop-i in
    let s = c.requires in
    let here : c.args.k + (l.i - c.args.k) ≡ l.i = omega arith in
    let one : l.i - c.args.k + 1 ≡ l.i + 1 - c.args.k = omega arith in
    let more : l.i - c.args.k < c.args.n = omega arith in
    let next = run_next _ _ _ _ _ _ _ _ s.0 s.1 l.invariant more c.width_at-width.result
    (rw here c.width_at-width.ensures) in
    rw (here, one) at next
