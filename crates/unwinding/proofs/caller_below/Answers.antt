use mathlib.Core.Logic.{inl, inr}
use native.Mathlib.Omega.{arith}
use Rattle.unwinding.proofs.Seeking.{seeking_start, seeking_on}
use Rattle.unwinding.proofs.caller_below.Goals as goal

pub loop-b-init : goal.loop-b-init
loop-b-init c = (
  c.requires.1,
  λ g qs older p start e walked within few above oldest is high. seeking_start walked within oldest is high,
)

pub caller-older-requires : goal.caller-older-requires
caller-older-requires c = (c.requires.0, c.loop-b.invariant.0)

pub returns-then-older-at : goal.returns-then-older-at
returns-then-older-at c = λ g qs older p start e walked within few above oldest is high.
    let l = c.loop-b in
    let s = l.invariant.1 g qs older p start e walked within few above oldest is high in
    let (less, found, on) = seeking_on few above l.invariant.0 s c.caller-older.ensures in
    elim c.then-older-at.either [
      | inl below ↦ found below
      | inr stays ↦ absurd (omega (arith, less, stays))
    ]

pub loop-b-smaller : goal.loop-b-smaller
loop-b-smaller c = c.if-b-older.false

pub loop-b-preserved : goal.loop-b-preserved
loop-b-preserved c = let l = c.loop-b in (
  omega (arith, l.invariant.0, c.if-b-older.false),
  λ g qs older p start e walked within few above oldest is high.
      let s = l.invariant.1 g qs older p start e walked within few above oldest is high in
      (seeking_on few above l.invariant.0 s c.caller-older.ensures).2 c.if-older-at.false,
)
