-- What the layers above cite: where a variable's cells stand, that variables do not overlap, and how large frames are.
use Rattle.std.specs.Prelude.{Ok}
use mathlib.Core.Path.{◌≡◌, ◌∙◌}
use mathlib.Core.List.{List}
use Prim.Native.Nat.{ℕ, suc, ◌+◌, ◌-◌, ◌*◌, ◌≤◌, ◌<◌}
use native.Mathlib.Omega.{arith}
use lib.ListN.{get_or}
use Rattle.image.specs.Rows.{row_at, rows_of}
use Rattle.shapes.specs.Sizes.{size_of}
use Rattle.types.specs.Question.{TypesAccepted}
use Rattle.types.specs.Plan.{Plan}
use Rattle.types.proofs.Accepted.{types_kept}
use Rattle.shapes.proofs.Accepted.{record_is, size_small}
use Rattle.sizes.specs.Cells.{INHERITED, OFFSETS, PLACES}
use Rattle.frames.specs.Variables.{globals_of, question5}
use Rattle.frames.specs.Procedures.{claimed_by, first_variable, question6}
use Rattle.frames.proofs.Accepted.{variables_kept, procedures_kept}
use Rattle.frames.proofs.Claiming.{globals_within}
use Rattle.places.specs.Places.{width_of, room_from, global_cells, frame_size, place_in, Places}
use Rattle.places.specs.Filling.{Claims}
use Rattle.places.proofs.Rooms.{width_small, room_both, room_up, room_small}
use Rattle.places.proofs.Counting.{first_next}

-- on accepted procedures every procedure's variables exist
pub claims_kept : (v p s : List ℕ) → question6 v p s ≡ Ok tt → Claims v p
unfolding claimed_by
claims_kept v p s e q h = ((procedures_kept v p s e).row q h).room

-- where the cells of types and fields are as they were, what question 4 put there is still there
pub plan_kept : (t f old plan : List ℕ) → ((i : ℕ) → i < PLACES → get_or plan i 0 ≡ get_or old i 0) → TypesAccepted t f
    → rows_of t ≤ 64 → rows_of f ≤ 256 → Plan t f (rows_of t) old → Plan t f (rows_of t) plan
plan_kept t f old plan same four few_types few_fields planned = record {
  size = λ r h. same r (omega arith) ∙ planned.size r h;
  inherited = λ r h. same (INHERITED + r) (omega arith) ∙ planned.inherited r h;
  offset = λ r base first count j h e l.
      let within = (record_is ((types_kept t f four).row r h).shape e).within in
      same (OFFSETS + (first + j)) (omega arith) ∙ planned.offset r base first count j h e l;
}

-- a frame has its links, its parameters, and behind them its locals
pub frame_parts : (t f v p : List ℕ) (q : ℕ)
    → frame_size t f v p q
    ≡ 3 + room_from t f v (first_variable v p q) (row_at p q).b
    + room_from t f v (first_variable v p q + (row_at p q).b) (row_at p q).c
unfolding frame_size claimed_by
frame_parts t f v p q = omega (arith, room_both (size_of t f) v (first_variable v p q) (row_at p q).b (row_at p q).c)

-- row k is a variable of procedure q
pub record Own (v p : List ℕ) (q k : ℕ) : Type 0 where
  pub low : first_variable v p q ≤ k
  pub high : k < first_variable v p (q + 1)

module _ (v p : List ℕ) (q k : ℕ) (own : Own v p q k) where
  -- it is one of those that the procedure claims
  pub own_count : k - first_variable v p q < claimed_by (row_at p q)
  own_count =
      let one : q + 1 ≡ suc q = omega arith in
      let high = rw one at own.high in
      let low = own.low in
      omega (arith, high, first_next v p q)

  own_row : first_variable v p q + (k - first_variable v p q) ≡ k
  own_row = let low = own.low in omega arith

module _ (t f v p : List ℕ) (q k : ℕ) (own : Own v p q k) where
  -- the plan has its place
  pub own_place : (old plan : List ℕ) → Places t f v p old plan → q < rows_of p
      → get_or plan (PLACES + k) 0 ≡ place_in t f v p q k
  unfolding place_in
  own_place old plan places h =
      let at = places.own q (k - first_variable v p q) h (own_count v p q k own) in
      rw (own_row v p q k own) at at

  own_up : (n : ℕ) → k - first_variable v p q < n
      → room_from t f v (first_variable v p q) (k - first_variable v p q) + width_of t f v k
      ≤ room_from t f v (first_variable v p q) n
  own_up n h = rw (own_row v p q k own) at (room_up (size_of t f) v (first_variable v p q) (k - first_variable v p q) n h)

  -- its cells stand behind the links and within the frame
  pub own_links : 3 ≤ place_in t f v p q k
  unfolding place_in
  own_links = omega arith

  pub own_within : place_in t f v p q k + width_of t f v k ≤ frame_size t f v p q
  unfolding place_in frame_size
  own_within = let up = own_up (claimed_by (row_at p q)) (own_count v p q k own) in omega arith

  -- and before those of a later variable
  pub own_apart : (l : ℕ) → k < l → place_in t f v p q k + width_of t f v k ≤ place_in t f v p q l
  unfolding place_in
  own_apart l h =
      let low = own.low in
      let up = own_up (l - first_variable v p q) (omega arith) in
      omega arith

-- the same of globals
module _ (t f v : List ℕ) (k : ℕ) where
  pub global_apart : (l : ℕ) → k < l → room_from t f v 0 k + width_of t f v k ≤ room_from t f v 0 l
  global_apart l h = let at : 0 + k ≡ k = omega arith in rw at at (room_up (size_of t f) v 0 k l h)

  pub global_within : k < globals_of v → room_from t f v 0 k + width_of t f v k ≤ global_cells t f v
  unfolding global_cells
  global_within h = global_apart (globals_of v) h

-- bounds of accepted tables
module _ (t f v : List ℕ) (four : TypesAccepted t f) (five : question5 t v ≡ Ok tt) where
  pub width_kept : (k : ℕ) → k < rows_of v → width_of t f v k ≤ 4096
  width_kept k h =
      let typed = (variables_kept t v five k h).typed in
      width_small (size_of t f) v k (size_small t f (types_kept t f four) (row_at v k).a typed)

  pub room_kept : (k n : ℕ) → k + n ≤ rows_of v → room_from t f v k n ≤ n * 4096
  room_kept k n h = room_small (size_of t f) v k n (λ j low high. width_kept j (omega arith))

  pub globals_kept : global_cells t f v ≤ globals_of v * 4096
  unfolding global_cells
  globals_kept = room_kept 0 (globals_of v) (omega (arith, globals_within v))

  pub frame_kept_lem : (p : List ℕ) → Claims v p → (q : ℕ) → q < rows_of p
      → frame_size t f v p q ≤ 3 + claimed_by (row_at p q) * 4096
  unfolding frame_size
  frame_kept_lem p claims q h =
      let room = room_kept (first_variable v p q) (claimed_by (row_at p q)) (claims q h) in
      omega arith
