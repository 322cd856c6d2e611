-- Where variables stand, and the kinds of their cells.
use Rattle.std.specs.Prelude.{ℕ, zero, suc, ◌+◌, List, [], ◌∷◌, ◌++◌, ltb, eqb}
use Rattle.prelude.specs.Choice.{choose}
use Rattle.image.specs.Rows.{row_at, rows_of}
use Rattle.shapes.specs.Sizes.{layout_of}
use Rattle.frames.specs.Variables.{is_global}
use Rattle.frames.specs.Procedures.{first_variable}
use Rattle.places.specs.Places.{room_from, place_in, frame_size}
use Rattle.semantics.specs.Memory.{ADDRESS, TYPE}

-- the six tables of an accepted image
pub record Program : Type 0 where
  pub types : List ℕ
  pub fields : List ℕ
  pub variables : List ℕ
  pub procedures : List ℕ
  pub nodes : List ℕ
  pub statements : List ℕ

-- "Procedures use up the remaining variables in order": the procedure, of n from q on, that has variable row a
unfoldable pub owner_from : List ℕ → List ℕ → ℕ → ℕ → ℕ → ℕ
owner_from v p a q zero = q
owner_from v p a q (suc n) = choose (ltb a (first_variable v p (q + 1))) q (owner_from v p a (q + 1) n)

unfoldable pub owner_of : List ℕ → List ℕ → ℕ → ℕ
owner_of v p a = owner_from v p a 0 (rows_of p)

-- "Globals fill cells 0 to G - 1."; "three links .., then its variables": a global's first cell, another variable's
-- first cell behind its frame's base
unfoldable pub place_of : Program → ℕ → ℕ
place_of g a =
    choose (is_global g.variables a)
    (room_from g.types g.fields g.variables 0 a)
    (place_in g.types g.fields g.variables g.procedures (owner_of g.variables g.procedures a) a)

-- "the new frame's cells begin at the old top": where those of a call of procedure q end
abbrev pub new_top : Program → ℕ → ℕ → ℕ
new_top g top q = top + frame_size g.types g.fields g.variables g.procedures q

-- "a VAR parameter two cells, address and dynamic type, others their size": the kinds of variable row k's cells
unfoldable pub kinds_of : Program → ℕ → List ℕ
kinds_of g k =
    choose (eqb (row_at g.variables k).kind 3) (ADDRESS ∷ TYPE ∷ [])
    (layout_of g.types g.fields (row_at g.variables k).a)

-- of n variables from row k on
unfoldable pub kinds_from : Program → ℕ → ℕ → List ℕ
kinds_from g k zero = []
kinds_from g k (suc n) = kinds_of g k ++ kinds_from g (k + 1) n
