use mathlib.Core.Path.{refl, sym, ◌∙◌}
use native.Mathlib.Omega.{arith}
use Rattle.access.proofs.Bounds.{types_few, variable_typed}
use Rattle.referents.proofs.Scanning.{ahead_end, ahead_below, ahead_next, ahead_here, ahead_on, variable_low}
use Rattle.referents.proofs.Scanning.{variable_there}
use Rattle.referents.proofs.starts_there.Goals as goal

pub loop-j-init : goal.loop-j-init
loop-j-init c = λ i n lead firsts ahead. (ahead, refl)

pub place_of-requires : goal.place_of-requires
place_of-requires c = omega (arith, rw c.requires.0 at c.requires.1, c.loop-j-test.true)

pub returns-then-at-place_of : goal.returns-then-at-place_of
returns-then-at-place_of c = λ i n lead firsts ahead.
    let (now-ahead, same) = c.loop-j.invariant i n lead firsts ahead in
    ahead_below _ now-ahead c.loop-j-test.true c.place_of.ensures c.if-at-place_of.true
    ∙ sym same

pub at_start-requires : goal.at_start-requires
at_start-requires c = let rows = rw c.requires.0 at c.requires.1 in
    let there = variable_there rows c.loop-j-test.true in
    let low = variable_low _ _ c.row_at.ensures
    (rw (← c.requires.0) at (variable_typed c.args.loaded.now.planned c.loop-j.j there)) in
    (c.requires.2, omega (arith, low, types_few c.args.loaded.now.planned))

pub returns-then-at_start : goal.returns-then-at_start
returns-then-at_start c = let more = c.loop-j-test.true in
    let rows = rw c.requires.0 at c.requires.1 in
    let there = variable_there rows more in
    λ i n lead firsts ahead.
    let (now-ahead, same) = c.loop-j.invariant i n lead firsts ahead in
    ahead_here _ now-ahead more c.place_of.ensures
    c.if-at-place_of.false c.args.starts.now firsts (variable_typed c.args.loaded.now.planned _ there)
    (rw c.requires.0 at c.row_at.ensures) c.at_start.ensures c.if-at_start.true ∙ sym same

pub loop-j-preserved : goal.loop-j-preserved
loop-j-preserved c = let more = c.loop-j-test.true in
    let rows = rw c.requires.0 at c.requires.1 in
    let there = variable_there rows more in
    λ i n lead firsts ahead.
    let (now-ahead, same) = c.loop-j.invariant i n lead firsts ahead in (
      ahead_next c.args.w now-ahead more c.place_of.ensures,
      same
          ∙ ahead_on _ now-ahead more c.place_of.ensures
          c.if-at-place_of.false c.args.starts.now firsts (variable_typed c.args.loaded.now.planned _ there)
          (rw c.requires.0 at c.row_at.ensures) c.at_start.ensures c.if-at_start.false,
    )

pub returns : goal.returns
returns c = λ i n lead firsts ahead.
    let (now-ahead, same) = c.loop-j.invariant i n lead firsts ahead in
    ahead_end _ now-ahead c.loop-j-test.false ∙ sym same
