use mathlib.Core.Path.{refl, sym, ◌∙◌}
use native.Mathlib.Omega.{arith}
use Rattle.semantics.specs.Running.{program_of}
use Rattle.semantics.proofs.Demand3.{program_accepted}
use Rattle.access.proofs.Bounds.{variables_few}
use Rattle.referents.proofs.Lending.{variables_are, variables_there}
use Rattle.referents.proofs.Scanning.{scan_start, scan_below, scan_behind, scan_last, scan_none}
use Rattle.referents.proofs.Scanning.{ahead_reached}
use Rattle.referents.proofs.in_places.Goals as goal

pub returns-then-n-eq0 : goal.returns-then-n-eq0
returns-then-n-eq0 c = λ lead placed. scan_none (program_of c.args.loaded.now.image.now) _ _ lead _ c.if-n-eq0.true

pub place_of-place-requires : goal.place_of-place-requires
place_of-place-requires c = let r = c.first_reaching-j.ensures in
    omega (arith, c.requires.2, r.some (omega (arith, c.if-n-eq0.false)))

pub returns-then-at-place : goal.returns-then-at-place
returns-then-at-place c = let r = c.first_reaching-j.ensures in
    λ lead placed.
    sym (scan_start _ _ _ _ lead _ placed (program_accepted _ c.requires.0.planned.checked.accepted) c.requires.2 r
    ∙ scan_below _ _ _ _ lead _ placed r.least (r.some (omega (arith, c.if-n-eq0.false)))
    c.place_of-place.ensures c.if-at-place.true)

pub overflow_add-j : goal.overflow_add-j
overflow_add-j c = let r = c.first_reaching-j.ensures in
    omega (arith, r.most, c.requires.2, variables_few c.requires.0.planned)

pub overflow_add-k : goal.overflow_add-k
overflow_add-k c = omega (arith, c.requires.2, variables_few c.requires.0.planned)

pub starts_there-requires : goal.starts_there-requires
starts_there-requires c = let l = c.requires.0 in
    let v = c.table-v.ensures in
    (variables_are _ v, variables_there _ v c.requires.2, omega (arith, c.requires.1, l.typed.few))

pub returns-then-starts_there : goal.returns-then-starts_there
returns-then-starts_there c =
    let l = c.requires.0 in
    let r = c.first_reaching-j.ensures in
    let more = r.some (omega (arith, c.if-n-eq0.false)) in
    λ lead placed.
    let behind = c.starts_there.ensures _ _ lead (l.edges.each _).start (ahead_reached placed r) in
    c.if-starts_there.true ∙ sym (scan_start _ _ _ _ lead _ placed (program_accepted _ l.planned.checked.accepted) c.requires.2 r
    ∙ scan_behind _ _ _ _ lead _ placed r.least more c.place_of-place.ensures c.if-at-place.false refl
    (sym behind ∙ c.if-starts_there.true))

pub in_variable-requires : goal.in_variable-requires
in_variable-requires c = let r = c.first_reaching-j.ensures in
    (c.requires.0, c.requires.1, omega (arith, c.requires.2, r.some (omega (arith, c.if-n-eq0.false))))

pub returns-else-starts_there : goal.returns-else-starts_there
returns-else-starts_there c =
    let l = c.requires.0 in
    let r = c.first_reaching-j.ensures in
    let more = r.some (omega (arith, c.if-n-eq0.false)) in
    λ lead placed.
    let behind = c.starts_there.ensures _ _ lead (l.edges.each _).start (ahead_reached placed r) in
    scan_last _ _ _ _ lead _ placed r.least more c.place_of-place.ensures c.if-at-place.false
    c.in_variable.ensures (sym behind ∙ c.if-starts_there.false)
    ∙ sym (scan_start _ _ _ _ lead _ placed (program_accepted _ l.planned.checked.accepted) c.requires.2 r)
