-- Cells, and the two memories of the machine: tagged, as document 01 has it, and bare numbers, as the store has them.
use Rattle.std.specs.Prelude.{ℕ, ◌+◌, List, ◌++◌, ltb, eqb, ℤ, pos, negsuc, length, get_or, take, drop}
use Rattle.std.specs.Prelude.{Option, Err, Some, None}
use Rattle.prelude.specs.Choice.{choose}
use Rattle.values.specs.Values.{kind_of, number_of, cell_of, Answer}
use Rattle.values.specs.declared.Value.{Value}
use Rattle.values.specs.declared.Stop.TheVariants as St

-- the number of a link, an address or a type, where a cell holds one
abbrev pub Mark : Type 0
Mark = Option ℕ

-- "A cell is a kind (BOOLEAN, INTEGER, SET, link, address, type)": the lowest are the scalar kinds
abbrev pub LINK : ℕ
LINK = 5

abbrev pub ADDRESS : ℕ
ADDRESS = 6

abbrev pub TYPE : ℕ
TYPE = 7

-- ".. and a number"
pub record Cell : Type 0 where
  pub kind : ℕ
  pub number : ℤ

-- a number as a link, an address or a type, in 16 bits: no store has more cells, and no table more rows
unfoldable pub mark_of : ℤ → Mark
mark_of (pos n) = choose (ltb n 65536) (Some n) None
mark_of (negsuc n) = None

-- how cells of a memory are read and written
pub record Memory (X : Type 0) : Type 0 where
  pub held : ℕ → X → Answer
  pub marked : ℕ → X → Mark
  pub put : Value → X
  pub mark : ℕ → ℕ → X
  pub blank : ℕ → X
  pub loose : ℤ → X
  pub number : X → ℤ

-- "A zeroed cell has the kind that its place gives; a cell written later has the kind of what was written". A cell is
-- read only with its own kind. A number above top has none.
unfoldable pub tagged : Memory Cell
tagged = record {
  held = λ kind c. choose (eqb kind c.kind) (cell_of kind c.number) (Err St.Stuck);
  marked = λ kind c. choose (eqb kind c.kind) (mark_of c.number) None;
  put = λ v. record { kind = kind_of v; number = number_of v };
  mark = λ kind n. record { kind = kind; number = pos n };
  blank = λ kind. record { kind = kind; number = pos 0 };
  loose = λ z. record { kind = 255; number = z };
  number = λ c. c.number;
}

-- "the lent store holds the numbers": whatever kind is wanted, its range alone is asked
unfoldable pub bare : Memory ℤ
bare = record {
  held = λ kind z. cell_of kind z;
  marked = λ kind z. mark_of z;
  put = λ v. number_of v;
  mark = λ kind n. pos n;
  blank = λ kind. pos 0;
  loose = λ z. z;
  number = λ z. z;
}

-- ---- cells at places

unfoldable pub cell_at : {X : Type 0} → Memory X → List X → ℕ → X
cell_at m cells a = get_or cells a (m.loose (pos 0))

-- the value of a scalar kind in the cell at a, which lies below top
unfoldable pub value_at : {X : Type 0} → Memory X → ℕ → List X → ℕ → ℕ → Answer
value_at m top cells kind a = choose (ltb a top) (m.held kind (cell_at m cells a)) (Err St.Stuck)

-- the link, address or type in the cell at a
unfoldable pub mark_at : {X : Type 0} → Memory X → ℕ → List X → ℕ → ℕ → Mark
mark_at m top cells kind a = choose (ltb a top) (m.marked kind (cell_at m cells a)) None

-- n cells from a on
unfoldable pub part_at : {X : Type 0} → List X → ℕ → ℕ → List X
part_at cells a n = take n (drop a cells)

-- cells from a on replaced by others
unfoldable pub overwrite : {X : Type 0} → List X → ℕ → List X → List X
overwrite cells a new = take a cells ++ (new ++ drop (a + length new) cells)
