use Prim.Native.Nat.{◌-◌, ◌/◌}
use lib.ListN.{get_or}
use native.Mathlib.Decide.{dec_lt}
use native.Mathlib.Omega.{arith}
use Rattle.unwinding.specs.Blocks.{BLOCK}
use Rattle.unwinding.proofs.Blocks.{block_behind, table_above}
use Rattle.unwinding.proofs.frame_below.Goals as goal

pub caller_below-requires : goal.caller_below-requires
caller_below-requires c =
    let fits = c.type_inv.blocks ((c.args.at - 1) / BLOCK) in
    (c.requires.0, omega (arith, fits, c.min.ensures))

pub returns : goal.returns
returns c = λ g qs older p b e walked within few blocks above oldest is most.
    elim (dec_lt (get_or c.args.blocks.now ((c.args.at - 1) / BLOCK) 0) c.args.from) [
      | yes less ↦
          let a = table_above g blocks c.requires.3 oldest (omega (arith, less, is)) in
          c.caller_below.ensures g qs a.older a.procedure b e walked within few above a.oldest
          (omega (arith, c.min.ensures, less, a.base))
          (omega (arith, c.min.ensures, less, a.high, block_behind c.args.at))
      | no more ↦
          c.caller_below.ensures g qs older p b e walked within few above oldest
          (omega (arith, c.min.ensures, more, is)) (omega (arith, c.min.ensures, more, most))
    ]
