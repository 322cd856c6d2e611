-- Laws of the loop that writes the frames.
use mathlib.Core.Path.{◌≡◌, refl, ◌∙◌, ap}
use mathlib.Core.List.{List}
use Prim.Native.Nat.{ℕ, suc, ◌+◌, ◌≤◌, ◌<◌}
use native.Mathlib.Omega.{arith}
use native.Mathlib.Decide.{dec_lt}
use lib.ListN.{length, get_or, set, length-set}
use lib.Seq.{get_or-set_same, get_or-set_other}
use Rattle.image.specs.declared.Row.{Row}
use Rattle.image.specs.Rows.{row_at, rows_of}
use Rattle.frames.specs.Procedures.{claimed_by, first_variable}
use Rattle.frames.proofs.Claiming.{globals_within}
use Rattle.places.specs.Places.{room_by}
use Rattle.places.specs.Filling.{held, VariablesFit, FramesFit, Framed}
use Rattle.prelude.specs.Cells.{Filled}
use Rattle.sizes.specs.Cells.{INHERITED, PLACES, FRAMES, FIRSTS}
use Rattle.places.proofs.Rooms.{room_agree}
use Rattle.places.proofs.Counting.{first_none, first_next, first_grows, first_up}

-- the variables fit a plan of the same length with the same sizes
pub fit_same : (v old plan : List ℕ) → VariablesFit v old → length plan ≡ length old
    → ((i : ℕ) → i < INHERITED → get_or plan i 0 ≡ get_or old i 0) → VariablesFit v plan
fit_same v old plan fit cells same = record {
  few = fit.few;
  cells = let c = fit.cells in omega arith;
  low = fit.low;
  small = λ k h. rw (same (row_at v k).a (fit.low k h)) (fit.small k h);
}

-- the sizes of their types being the same, so are the cells of variables
pub room_same : (v : List ℕ) (g h : ℕ → ℕ) → ((k : ℕ) → k < rows_of v → g (row_at v k).a ≡ h (row_at v k).a)
    → (k n : ℕ) → k + n ≤ rows_of v → room_by g v k n ≡ room_by h v k n
room_same v g h same k n within = room_agree g h v k n (λ j low high. same j (omega arith))

pub framed_none : (size : ℕ → ℕ) (v p old : List ℕ) → Framed size v p 0 old old
framed_none size v p old = record {
  cells = refl;
  own = λ q j h. absurd (omega arith);
  frame = λ q h. absurd (omega arith);
  below = λ i h. refl;
  variables = λ i h l. refl;
  above = λ i h. refl;
}

module _ (v p old plan : List ℕ) (q : ℕ) (fit : FramesFit v p old) (framed : Framed (held old) v p q old plan)
    (more : q < rows_of p) where
  few_variables : rows_of v ≤ 256
  few_variables = fit.variables.few

  types_same : (i : ℕ) → i < INHERITED → get_or plan i 0 ≡ get_or old i 0
  types_same i h = framed.below i (omega arith)

  pub run_fits : VariablesFit v plan
  run_fits = fit_same v old plan fit.variables framed.cells types_same

  abbrev first : ℕ
  first = first_variable v p q

  abbrev count : ℕ
  count = claimed_by (row_at p q)

  -- the cell that the loop reads
  first_read : get_or plan (FIRSTS + q) 0 ≡ first
  first_read = let few = fit.few in framed.above (FIRSTS + q) (omega arith) ∙ fit.first q more

  rooms : (n : ℕ) → n ≤ count → room_by (held plan) v first n ≡ room_by (held old) v first n
  rooms n h =
      let claims = fit.claims q more in
      room_same v (held plan) (held old) (λ k l. types_same (row_at v k).a (fit.variables.low k l)) first n
      (omega arith)

  -- one frame more
  module _ (next : List ℕ) (size : ℕ)
      (run : Filled (PLACES + first) count (λ j. 3 + room_by (held plan) v first j) plan next)
      (total : size ≡ 3 + room_by (held plan) v first count) where
    abbrev last : List ℕ
    last = set next (FRAMES + q) size

    other : (i : ℕ) → (i ≡ FRAMES + q → ⊥) → get_or last i 0 ≡ get_or next i 0
    other i h = get_or-set_other next (FRAMES + q) i size 0 h

    own_next : (r j : ℕ) → r < q + 1 → j < claimed_by (row_at p r)
        → get_or last (PLACES + (first_variable v p r + j)) 0 ≡ 3 + room_by (held old) v (first_variable v p r) j
    own_next r j h l = go (dec_lt r q)
      where
        within : first_variable v p r + claimed_by (row_at p r) ≤ 256
        within = let claims = fit.claims r (omega arith) in let few = few_variables in omega arith

        go : Dec (r < q)
            → get_or last (PLACES + (first_variable v p r + j)) 0 ≡ 3 + room_by (held old) v (first_variable v p r) j
        go (yes low) =
            other (PLACES + (first_variable v p r + j)) (λ e. omega (arith, within))
            ∙ run.below (PLACES + (first_variable v p r + j)) (omega (arith, first_up v p r q low))
            ∙ framed.own r j low l
        go (no low) =
            let e : r ≡ q = omega arith in
            let few : j < count = rw (← e) l in
            let fits = rw e at within in
            let at : PLACES + (first + j) ≡ PLACES + first + j = omega arith in
            rw e
            (other (PLACES + (first + j)) (λ z. omega (arith, fits))
            ∙ rw at (run.cell j few)
            ∙ ap (λ n. 3 + n) (rooms j (omega arith)))

    frame_next : (r : ℕ) → r < q + 1
        → get_or last (FRAMES + r) 0 ≡ 3 + room_by (held old) v (first_variable v p r) (claimed_by (row_at p r))
    frame_next r h = go (dec_lt r q)
      where
        go : Dec (r < q)
            → get_or last (FRAMES + r) 0 ≡ 3 + room_by (held old) v (first_variable v p r) (claimed_by (row_at p r))
        go (yes low) =
            let claims = fit.claims q more in
            let few = few_variables in
            other (FRAMES + r) (omega arith) ∙ run.above (FRAMES + r) (omega arith) ∙ framed.frame r low
        go (no low) =
            let e : r ≡ q = omega arith in
            let many = fit.few in
            let cells = fit.variables.cells in
            let same = run.cells ∙ framed.cells in
            let room = ap (λ n. 3 + n) (rooms count (omega arith)) in
            rw e (get_or-set_same next (FRAMES + q) size 0 (omega arith) ∙ total ∙ room)

    framed_next : Framed (held old) v p (q + 1) old last
    framed_next =
        let few = few_variables in
        let claims = fit.claims q more in
        record {
          cells = length-set next (FRAMES + q) size ∙ run.cells ∙ framed.cells;
          own = own_next;
          frame = frame_next;
          below = λ i h. let globals = globals_within v in
              let begin = first_none v p in
              let up = first_grows v p 0 q (omega arith) in
              other i (omega arith) ∙ run.below i (omega arith) ∙ framed.below i h;
          variables = λ i h l. let one : q + 1 ≡ suc q = omega arith in
              let after = rw one at h in
              let step = first_next v p q in
              other i (omega arith) ∙ run.above i (omega arith) ∙ framed.variables i (omega arith) l;
          above = λ i h. other i (omega arith) ∙ run.above i (omega arith) ∙ framed.above i (omega arith);
        }

  -- the same with what the loop reads: the procedure's row and the cell of its first variable
  module _ (row : Row) (this_row : row ≡ row_at p q) (at : ℕ) (read : at ≡ get_or plan (FIRSTS + q) 0) where
    begins : at ≡ first
    begins = read ∙ first_read

    counts : row.b + row.c ≡ count
    unfolding claimed_by
    counts = rw this_row

    pub run_rows : at + (row.b + row.c) ≤ rows_of v
    run_rows = omega (arith, begins, counts, fit.claims q more)

    pub framed_more : (next : List ℕ) (size : ℕ)
        → Filled (PLACES + at) (row.b + row.c) (λ j. 3 + room_by (held plan) v at j) plan next
        → size ≡ 3 + room_by (held plan) v at (row.b + row.c)
        → Framed (held old) v p (q + 1) old (set next (FRAMES + q) size)
    framed_more next size run total = framed_next next size (rw (counts, begins) at run) (rw (counts, begins) at total)
