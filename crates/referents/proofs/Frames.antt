-- Laws of the search for an object in frames.
use mathlib.Core.Path.{◌≡◌, refl, ◌∙◌}
use mathlib.Core.Bool.{Bool, false}
use mathlib.Core.List.{List, [], ◌∷◌}
use Prim.Native.Nat.{ℕ, ◌+◌, ◌-◌, ◌≤◌, ◌<◌}
use native.Mathlib.Omega.{arith}
use borrow.Author.Tests.{le-leb, lt-ltb}
use lib.Dec.{leb}
use lib.IntN.{ℤ}
use Rattle.prelude.specs.Choice.{choose}
use Rattle.prelude.proofs.Choice.{choose_yes}
use Rattle.image.specs.Rows.{row_at, rows_of}
use Rattle.shapes.specs.Sizes.{size_of}
use Rattle.frames.specs.Variables.{globals_of}
use Rattle.frames.specs.Procedures.{first_variable, claimed_by}
use Rattle.frames.proofs.Claiming.{globals_within}
use Rattle.places.specs.Places.{global_cells, frame_size}
use Rattle.checker.proofs.Accepted.{AcceptedTables}
use Rattle.semantics.specs.Layout.{Program}
use Rattle.objects.specs.Begins.{begins_at}
use Rattle.objects.proofs.Beginning.{begins_past}
use Rattle.asking.specs.Asking.{room_of, object_in, object_at}
use Rattle.asking.specs.Passes.{Walked}
use Rattle.asking.proofs.Objects.{object_older}
use Rattle.unwinding.specs.declared.Spot.{Spot}
use Rattle.unwinding.specs.Going.{Newest, Oldest, Oldest.all, Oldest.newer}
use Rattle.unwinding.proofs.Walking.{room_more, walked_base, walked_procedure, walked_older}
use Rattle.unwinding.proofs.Over.{oldest_tail}
use Rattle.referents.proofs.Variables.{Ends, search_past}

module _ (g : Program) where
  -- frames of existing procedures
  pub data Existing : List ℕ → Type 0 where
    no_frame : Existing []
    a_frame : {q : ℕ} {qs : List ℕ} → q < rows_of g.procedures → Existing qs → Existing (q ∷ qs)

  -- ---- walked frames

  walked_existing : (qs : List ℕ) {store : List ℤ} {b e : ℕ} → Walked g qs store b e → Existing qs
  walked_existing [] w = no_frame
  walked_existing (q ∷ []) w = a_frame (walked_procedure g w) no_frame
  walked_existing (q ∷ c ∷ qs) w = a_frame (walked_procedure g w) (walked_existing (c ∷ qs) (walked_older g w))

  oldest_existing : {older qs : List ℕ} → Oldest older qs → Existing qs → Existing older
  oldest_existing all e = e
  oldest_existing (newer o) (a_frame low e) = oldest_existing o e

  -- those older than one of them
  pub older_existing : {p : ℕ} {older qs : List ℕ} {store : List ℤ} {b e : ℕ} → Walked g qs store b e
      → Oldest (p ∷ older) qs → Existing older
  older_existing w o = oldest_existing (oldest_tail o) (walked_existing _ w)

  -- ---- where frames end

  -- all frames were there later than the globals
  oldest_none : (qs : List ℕ) → Oldest [] qs
  oldest_none [] = all
  oldest_none (q ∷ qs) = newer (oldest_none qs)

  room_oldest : {older qs : List ℕ} → Oldest older qs → room_of g older ≤ room_of g qs
  room_oldest all = omega arith
  room_oldest (newer {q = q} {qs = qs} o) = omega (arith, room_oldest o, room_more g q qs)

  -- a procedure's variables exist
  pub claimed_there : AcceptedTables g.types g.fields g.variables g.procedures g.nodes g.statements
      → (q : ℕ) → q < rows_of g.procedures
      → first_variable g.variables g.procedures q + claimed_by (row_at g.procedures q) ≤ rows_of g.variables
  unfolding claimed_by
  claimed_there ok q h = (ok.procedures.row q h).room

  module _ (ok : AcceptedTables g.types g.fields g.variables g.procedures g.nodes g.statements)
      (w : ℕ) where
    -- variables that exist end where their types do
    pub ends_there : (k n : ℕ) → k + n ≤ rows_of g.variables
        → Ends (begins_at g.types g.fields w) (size_of g.types g.fields) g.variables k n
    ends_there k n there j o low high h =
        begins_past g.types g.fields ok.types w _ o (ok.variable j (omega arith)).typed h

    -- behind the newest frame's end none begins
    pub object_past : {qs : List ℕ} → Existing qs → (at : ℕ) → room_of g qs < at → object_at g w qs at ≡ false
    unfolding object_at room_of global_cells frame_size
    object_past no_frame at h =
        let n = globals_of g.variables in
        search_past _ _ _ n 0 at (ends_there 0 n (omega (arith, globals_within g.variables))) h
    object_past (a_frame {q = q} {qs = qs} low e) at h =
        let first = first_variable g.variables g.procedures q in
        let n = claimed_by (row_at g.procedures q) in
        choose_yes _ _ _ (lt-ltb (room_of g qs) at (omega arith))
        ∙ choose_yes _ _ _ (le-leb (room_of g qs + 3) at (omega arith))
        ∙ search_past _ _ _ n first (at - (room_of g qs + 3)) (ends_there first n (claimed_there ok q low)) (omega arith)

    -- at an address where none of the newer frames begins below, only the older ones can have it
    pub object_oldest : {older qs : List ℕ} → Oldest older qs → (at : ℕ) → at ≤ room_of g older
        → object_at g w qs at ≡ object_at g w older at
    object_oldest all at h = refl
    object_oldest (newer {q = q} {qs = qs} o) at h =
        object_older g w q qs at (omega (arith, room_oldest o)) ∙ object_oldest o at h

    -- ---- in the frame that an address lies in

    -- o cells into the variables of procedure q's frame
    abbrev in_frame : ℕ → ℕ → Bool
    in_frame q o = object_in g w (first_variable g.variables g.procedures q) (claimed_by (row_at g.procedures q)) o

    -- at or below the globals' end
    pub object_global : (qs : List ℕ) (at : ℕ) → at ≤ room_of g []
        → object_at g w qs at ≡ object_in g w 0 (globals_of g.variables) at
    unfolding object_at
    object_global [] at h = refl
    object_global (q ∷ qs) at h =
        object_older g w q qs at (omega (arith, room_oldest (oldest_none qs))) ∙ object_global qs at h

    -- above it: in the newest frame that begins below the address
    frame_object : (q : ℕ) (qs : List ℕ) (at : ℕ) → room_of g qs < at → object_at g w (q ∷ qs) at
        ≡ choose (leb (room_of g qs + 3) at) (in_frame q (at - (room_of g qs + 3))) false
    unfolding object_at
    frame_object q qs at h = choose_yes _ _ _ (lt-ltb _ _ h)

    pub object_newest : {qs : List ℕ} {store : List ℤ} {e at : ℕ} {s : Spot} → Newest g qs store e at s
        → object_at g w qs at ≡ choose (leb (s.base + 3) at) (in_frame s.procedure (at - (s.base + 3))) false
    object_newest {at = at} {s = s} n =
        let base = walked_base g n.walked in
        n.object w at (omega arith)
        ∙ frame_object s.procedure n.older at (omega (arith, n.below))
        ∙ rw (← base) refl
