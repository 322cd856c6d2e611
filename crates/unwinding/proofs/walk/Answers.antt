use mathlib.Core.Path.{◌≡◌, refl, sym, ◌∙◌}
use mathlib.Core.Bool.{true}
use Prim.Native.Nat.{suc, ◌+◌, ◌≤◌}
use native.Mathlib.Omega.{arith}
use native.Mathlib.Nat.{div-le_self}
use Rattle.prelude.proofs.Choice.{clash}
use Rattle.semantics.specs.Running.{program_of}
use Rattle.asking.specs.State.{chain}
use Rattle.unwinding.specs.Links.{size_kept}
use Rattle.unwinding.specs.Blocks.{BLOCK}
use Rattle.unwinding.proofs.Along.{Past, size_links, along_start, along_unsized, along_block}
use Rattle.unwinding.proofs.Along.{along_filled, along_first, past_first, along_uncalled, along_unfallen}
use Rattle.unwinding.proofs.Along.{along_on}
use Rattle.unwinding.proofs.walk.Goals as goal
use Rattle.unwinding.proofs.walk.Goals.{After-fill, Else-not-size_kept}

pub loop-q-init : goal.loop-q-init
loop-q-init c = (refl, along_start c.args.loaded.now.planned _ _ _ _ c.requires.0 c.requires.1 _ refl _)

pub shape_of-blocks-then-not-size_kept : goal.shape_of-blocks-then-not-size_kept
shape_of-blocks-then-not-size_kept c = c.loop-q.invariant.0

pub returns-then-not-size_kept : goal.returns-then-not-size_kept
returns-then-not-size_kept c =
    let no = sym c.size_kept.ensures ∙ c.if-not-size_kept.true in record { value = along_unsized c.args.loaded.now.planned _ _ _ _ c.requires.0 c.requires.1 c.loop-q.invariant.1 no; blocks = λ e. clash (sym e) }

-- where the frame has its size
sized : (c : Else-not-size_kept) → let l = c.loop-q in
    size_kept (program_of c.args.loaded.now.image.now) l.procedure l.start l.end
    ≡ true
sized c = sym c.size_kept.ensures ∙ c.if-not-size_kept.false

-- and so lies low
small : (c : Else-not-size_kept) → let l = c.loop-q in
    l.start + 3 ≤ 65536
small c =
    let l = c.loop-q in
    let links = size_links _ c.args.store.now _ _ l.end (sized c) in
    let within = l.invariant.1.within in
    omega (arith, c.requires.0, c.requires.1)

-- where its blocks are filled
filled : (c : After-fill) → let l = c.loop-q in
    size_kept (program_of c.args.loaded.now.image.now) l.procedure l.start l.end ≡ true →
    let g = program_of c.args.loaded.now.image.now in
    Past g c.args.store.now (chain g c.args.store.now (suc c.args.base) c.args.q c.args.base)
    c.args.base c.args.top c.fill.new.blocks l.procedure l.start l.invariant.1.fuel
filled c kept =
    let l = c.loop-q in
    along_filled c.args.loaded.now.planned _ _ _ _ c.requires.0 c.requires.1 l.invariant.1 kept
    c.fill.ensures

pub overflow_cast-low : goal.overflow_cast-low
overflow_cast-low c = record { fits = omega (arith, small c, div-le_self c.loop-q.start BLOCK) }

pub fill-requires : goal.fill-requires
fill-requires c =
    let l = c.loop-q in (
      along_block c.args.loaded.now.planned _ _ _ _ c.requires.0 c.requires.1 l.invariant.1 (sized (goal.at.fill-requires c).Else-not-size_kept),
      omega (arith, l.invariant.0, l.invariant.1.few, c.requires.2),
    )

pub overflow_cast-above : goal.overflow_cast-above
overflow_cast-above c = record { fits = omega (arith, small (goal.at.overflow_cast-above c).Else-not-size_kept) }

pub fill-requires-then-procedure-eq0 : goal.fill-requires-then-procedure-eq0
fill-requires-then-procedure-eq0 c =
    let l = c.loop-q in
    let low = along_block c.args.loaded.now.planned _ _ _ _ c.requires.0 c.requires.1 l.invariant.1
    (sized (goal.at.fill-requires-then-procedure-eq0 c).Else-not-size_kept) in
    (omega arith, omega (arith, c.fill.ensures.cells, l.invariant.0, l.invariant.1.few, c.requires.2))

pub oldest_kept-requires : goal.oldest_kept-requires
oldest_kept-requires c =
    (c.requires.0, omega (arith, small (goal.at.oldest_kept-requires c).Else-not-size_kept))

pub shape_of-blocks-then-procedure-eq0 : goal.shape_of-blocks-then-procedure-eq0
shape_of-blocks-then-procedure-eq0 c =
    c.fill-then-procedure-eq0.ensures.cells
    ∙ c.fill.ensures.cells
    ∙ c.loop-q.invariant.0

pub returns-then-procedure-eq0 : goal.returns-then-procedure-eq0
returns-then-procedure-eq0 c =
    let l = c.loop-q in
    let first = c.if-procedure-eq0.true in
    let is = c.oldest_kept.ensures
    ∙ along_first c.args.loaded.now.planned _ _ _ _ c.requires.0 c.requires.1 l.invariant.1 first
    (sized (goal.at.returns-then-procedure-eq0 c).Else-not-size_kept) in record {
      value = is;
      blocks = λ said. past_first c.args.loaded.now.planned _ _ _ _ c.requires.0 c.requires.1 l.invariant.1 first (filled (goal.at.returns-then-procedure-eq0 c).After-fill (sized (goal.at.returns-then-procedure-eq0 c).Else-not-size_kept))
          c.fill-then-procedure-eq0.ensures (sym is ∙ said);
    }

pub caller-older-requires : goal.caller-older-requires
caller-older-requires c =
    (c.requires.0, omega (arith, small (goal.at.caller-older-requires c).Else-not-size_kept))

pub overflow_add-start : goal.overflow_add-start
overflow_add-start c = record { fits = omega (arith, small (goal.at.overflow_add-start c).Else-not-size_kept) }

pub link-back-requires : goal.link-back-requires
link-back-requires c = c.requires.0

pub shape_of-blocks-then-not-call_kept : goal.shape_of-blocks-then-not-call_kept
shape_of-blocks-then-not-call_kept c =
    c.fill.ensures.cells ∙ c.loop-q.invariant.0

pub returns-then-not-call_kept : goal.returns-then-not-call_kept
returns-then-not-call_kept c =
    let l = c.loop-q in
    let no = sym c.call_kept.ensures ∙ c.if-not-call_kept.true in record {
      value = along_uncalled c.args.loaded.now.planned _ _ _ _ c.requires.0 c.requires.1 l.invariant.1
          c.if-procedure-eq0.false
          c.caller-older.ensures c.link-back.ensures no;
      blocks = λ e. clash (sym e);
    }

pub shape_of-blocks-then-start-older : goal.shape_of-blocks-then-start-older
shape_of-blocks-then-start-older c =
    c.fill.ensures.cells ∙ c.loop-q.invariant.0

pub returns-then-start-older : goal.returns-then-start-older
returns-then-start-older c =
    let l = c.loop-q in
    record {
      value = along_unfallen c.args.loaded.now.planned _ _ _ _ c.requires.0 c.requires.1 l.invariant.1
          c.if-procedure-eq0.false
          c.caller-older.ensures c.link-back.ensures
          (omega (arith, c.if-start-older.true));
      blocks = λ e. clash (sym e);
    }

pub loop-q-smaller : goal.loop-q-smaller
loop-q-smaller c = c.if-start-older.false

pub loop-q-preserved : goal.loop-q-preserved
loop-q-preserved c =
    let l = c.loop-q in
    let called = sym c.call_kept.ensures ∙ c.if-not-call_kept.false in (
      c.fill.ensures.cells ∙ l.invariant.0,
      along_on c.args.loaded.now.planned _ _ _ _ c.requires.0 c.requires.1 l.invariant.1
          c.if-procedure-eq0.false
          c.caller-older.ensures c.link-back.ensures
          (sized (goal.at.loop-q-preserved c).Else-not-size_kept) called c.if-start-older.false (filled (goal.at.loop-q-preserved c).After-fill (sized (goal.at.loop-q-preserved c).Else-not-size_kept)),
    )
