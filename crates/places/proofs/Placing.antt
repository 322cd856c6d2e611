-- Laws of the function that fills the plan's part of variables and procedures.
use mathlib.Core.Path.{◌≡◌, ◌∙◌, ap}
use mathlib.Core.List.{List, ◌++◌}
use Prim.Native.Nat.{ℕ, ◌+◌, ◌-◌, ◌≤◌, ◌<◌}
use native.Mathlib.Omega.{arith}
use lib.ListN.{length, get_or, set, take, drop, length-set}
use lib.Seq.{get_or-set_same, get_or-set_other}
use Rattle.image.specs.Rows.{row_at, rows_of}
use Rattle.shapes.specs.Sizes.{size_of}
use Rattle.types.proofs.Accepted.{types_kept}
use Rattle.shapes.proofs.Accepted.{size_small}
use Rattle.frames.specs.Variables.{globals_of}
use Rattle.frames.specs.Procedures.{claimed_by, first_variable}
use Rattle.frames.proofs.Accepted.{variables_kept}
use Rattle.frames.proofs.Claiming.{globals_within}
use Rattle.places.specs.Places.{room_by, room_from, global_cells, frame_size, Firsts, Places}
use Rattle.places.specs.Filling.{held, VariablesFit, FramesFit, Framed, PlacesFit}
use Rattle.prelude.specs.Cells.{Filled}
use Rattle.sizes.specs.Cells.{PLACES, FRAMES, FIRSTS, GLOBALS}
use Rattle.places.proofs.Cells.{lent_cell, put_length, put_below, put_cell}
use Rattle.places.proofs.Counting.{first_none, first_grows}
use Rattle.places.proofs.Framing.{fit_same, room_same}

-- the first variables stand in the plan from cell FIRSTS on, and nothing else is written
pub record Begun (v p old plan : List ℕ) : Type 0 where
  pub cells : length plan ≡ length old
  pub below : (i : ℕ) → i < FIRSTS → get_or plan i 0 ≡ get_or old i 0
  pub first : (q : ℕ) → q ≤ rows_of p → get_or plan (FIRSTS + q) 0 ≡ first_variable v p q
  pub above : (q : ℕ) → rows_of p < q → get_or plan (FIRSTS + q) 0 ≡ get_or old (FIRSTS + q) 0

pub begun : (v p old firsts : List ℕ) → FIRSTS ≤ length old
    → Firsts v p (take (length old - FIRSTS) (drop FIRSTS old)) firsts
    → Begun v p old (take FIRSTS old ++ (firsts ++ drop (length old - FIRSTS) (drop FIRSTS old)))
begun v p old firsts within f = record {
  cells = put_length FIRSTS old firsts within f.cells;
  below = put_below FIRSTS old firsts within;
  first = λ q h. put_cell FIRSTS old firsts within q ∙ f.first q h;
  above = λ q h. put_cell FIRSTS old firsts within q ∙ f.rest q h ∙ lent_cell FIRSTS old firsts within q;
}

module _ (t f v p old : List ℕ) (fit : PlacesFit t f v p old) where
  typed : (k : ℕ) → k < rows_of v → (row_at v k).a < rows_of t
  typed k h = (variables_kept t v fit.variables k h).typed

  sized : (k : ℕ) → k < rows_of v → held old (row_at v k).a ≡ size_of t f (row_at v k).a
  sized k h = fit.planned.size (row_at v k).a (typed k h)

  fits : VariablesFit v old
  fits = record {
    few = fit.few_variables;
    cells = fit.cells;
    low = λ k h. let low = typed k h in let few = fit.few_types in omega arith;
    small = λ k h. rw (sized k h) (size_small t f (types_kept t f fit.types) (row_at v k).a (typed k h));
  }

  -- in a plan with the same types, the cells of variables are those of the definitions
  rooms : (plan : List ℕ) → ((i : ℕ) → i < PLACES → get_or plan i 0 ≡ get_or old i 0) → (k n : ℕ) → k + n ≤ rows_of v
      → room_by (held plan) v k n ≡ room_from t f v k n
  rooms plan same k n h =
      room_same v (held plan) (size_of t f)
      (λ i l. same (row_at v i).a (let low = fits.low i l in omega arith) ∙ sized i l) k n h

  module _ (one : List ℕ) (b : Begun v p old one) where
    types_one : (i : ℕ) → i < PLACES → get_or one i 0 ≡ get_or old i 0
    types_one i h = b.below i (omega arith)

    pub globals_fit : VariablesFit v one
    globals_fit = fit_same v old one fits b.cells (λ i h. types_one i (omega arith))

    -- the globals are placed
    module _ (globals : ℕ) (all : globals ≡ globals_of v) where
      pub globals_rows : 0 + globals ≤ rows_of v
      globals_rows = omega (arith, all, globals_within v)

      module _ (two : List ℕ) (end : ℕ) (run : Filled (PLACES + 0) globals (λ j. 0 + room_by (held one) v 0 j) one two)
          (total : end ≡ 0 + room_by (held one) v 0 globals) where
        abbrev three : List ℕ
        three = set two GLOBALS end

        few_globals : globals ≤ 256
        few_globals = let few = fit.few_variables in let rows = globals_rows in omega arith

        cells_three : length three ≡ length old
        cells_three = length-set two GLOBALS end ∙ run.cells ∙ b.cells

        types_three : (i : ℕ) → i < PLACES → get_or three i 0 ≡ get_or old i 0
        types_three i h = get_or-set_other two GLOBALS i end 0 (omega arith) ∙ run.below i (omega arith) ∙ types_one i h

        above_three : (i : ℕ) → PLACES + globals_of v ≤ i → (i ≡ GLOBALS → ⊥) → get_or three i 0 ≡ get_or one i 0
        above_three i h other = get_or-set_other two GLOBALS i end 0 other ∙ run.above i (omega arith)

        pub frames_fit : FramesFit v p three
        frames_fit =
            let few = few_globals in
            let many = fit.few_procedures in
            record {
              variables = fit_same v old three fits cells_three (λ i h. types_three i (omega arith));
              few = many;
              claims = fit.claims;
              first = λ q h. above_three (FIRSTS + q) (omega arith) (omega arith) ∙ b.first q (omega arith);
            }

        -- the frames are placed
        module _ (plan : List ℕ) (framed : Framed (held three) v p (rows_of p) three plan) where
          global_place : (k : ℕ) → k < globals_of v → get_or plan (PLACES + k) 0 ≡ room_from t f v 0 k
          global_place k h =
              let few = few_globals in
              let rows = globals_rows in
              let at : PLACES + k ≡ PLACES + 0 + k = omega arith in
              let none : 0 + room_by (held one) v 0 k ≡ room_by (held one) v 0 k = omega arith in
              framed.below (PLACES + k) (omega arith)
              ∙ get_or-set_other two GLOBALS (PLACES + k) end 0 (omega arith)
              ∙ rw at (run.cell k (omega arith))
              ∙ none
              ∙ rooms one types_one 0 k (omega arith)

          own_place : (q j : ℕ) → q < rows_of p → j < claimed_by (row_at p q)
              → get_or plan (PLACES + (first_variable v p q + j)) 0 ≡ 3 + room_from t f v (first_variable v p q) j
          own_place q j h l =
              let claims = fit.claims q h in
              framed.own q j h l ∙ ap (λ n. 3 + n) (rooms three types_three (first_variable v p q) j (omega arith))

          frame_place : (q : ℕ) → q < rows_of p → get_or plan (FRAMES + q) 0 ≡ frame_size t f v p q
          unfolding frame_size
          frame_place q h =
              let room = rooms three types_three (first_variable v p q) (claimed_by (row_at p q)) (fit.claims q h) in
              framed.frame q h ∙ ap (λ n. 3 + n) room

          globals_place : get_or plan GLOBALS 0 ≡ global_cells t f v
          unfolding global_cells
          globals_place =
              let many = fit.few_procedures in
              let cells = fit.cells in
              let same = run.cells ∙ b.cells in
              let none : 0 + room_by (held one) v 0 globals ≡ room_by (held one) v 0 globals = omega arith in
              framed.above GLOBALS (omega arith)
              ∙ get_or-set_same two GLOBALS end 0 (omega arith)
              ∙ total
              ∙ none
              ∙ rooms one types_one 0 globals globals_rows
              ∙ ap (room_from t f v 0) all

          above_plan : (i : ℕ) → FRAMES + rows_of p ≤ i → (i ≡ GLOBALS → ⊥) → get_or plan i 0 ≡ get_or one i 0
          above_plan i h other = let few = few_globals in framed.above i h ∙ above_three i (omega arith) other

          pub places_filled : Places t f v p old plan
          places_filled =
              let few = few_globals in
              let many = fit.few_procedures in
              record {
                cells = framed.cells ∙ cells_three;
                global = global_place;
                own = own_place;
                frame = frame_place;
                first = λ q h. above_plan (FIRSTS + q) (omega arith) (omega arith) ∙ b.first q h;
                globals = globals_place;
                types = λ i h. framed.below i (omega arith) ∙ types_three i h;
                variables = λ k h l. let begin = first_none v p in
                    let up = first_grows v p 0 (rows_of p) (omega arith) in
                    framed.variables (PLACES + k) (omega arith) (omega arith)
                    ∙ above_three (PLACES + k) (omega arith) (omega arith)
                    ∙ b.below (PLACES + k) (omega arith);
                frames = λ q h l.
                    above_plan (FRAMES + q) (omega arith) (omega arith)
                    ∙ b.below (FRAMES + q) (omega arith);
                firsts = λ q h l. above_plan (FIRSTS + q) (omega arith) (omega arith) ∙ b.above q h;
                rest = λ i h. let at : FIRSTS + (i - FIRSTS) ≡ i = omega arith in
                    above_plan i (omega arith) (omega arith) ∙ rw at at (b.above (i - FIRSTS) (omega arith));
              }
