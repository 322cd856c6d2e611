-- What the functions that look for an object read and answer.
use Rattle.std.specs.Prelude.{ℕ, ◌-◌, ◌≤◌, ◌<◌, ◌≡◌, Bool, true, false, List, map, eqb, length, get_or}
use Rattle.prelude.specs.Bits.{bit_of}
use Rattle.prelude.specs.Choice.{choose}
use Rattle.prelude.specs.Parts.{sum}
use Rattle.image.specs.Rows.{row_at, rows_of}
use Rattle.shapes.specs.Forms.{of_base, own_types}
use Rattle.shapes.specs.Sizes.{size_of}
use Rattle.types.specs.Question.{TypesAccepted}
use Rattle.objects.specs.declared.Look.{Look}
use Rattle.objects.specs.declared.Look.TheVariants as Ls

-- ---- what they read

-- a type's size, as the plan holds it
abbrev pub held : List ℕ → ℕ → ℕ
held plan r = get_or plan r 0

-- accepted types, and a plan that holds their sizes
pub record Typed (t f plan : List ℕ) : Type 0 where
  pub few : rows_of t ≤ 64
  pub kept : TypesAccepted t f
  pub room : rows_of t ≤ length plan
  pub size : (r : ℕ) → r < rows_of t → get_or plan r 0 ≡ size_of t f r

-- two tables say in bit w, of the types below row m, what `deeper` says at the start and at the end of each; behind the
-- end it says no
pub record Edges (deeper : ℕ → ℕ → Bool) (size : ℕ → ℕ) (w m : ℕ) (starts ends : List ℕ) : Type 0 where
  pub start : (u : ℕ) → u < m → bit_of (get_or starts u 0) w ≡ deeper u 0
  pub end : (u : ℕ) → u < m → bit_of (get_or ends u 0) w ≡ deeper u (size u)
  pub past : (u o : ℕ) → u < m → size u < o → deeper u o ≡ false

-- two words say in bit w what a test says at the start and at the end of n cells; behind the end it says no
pub record AtEdges (test : ℕ → Bool) (n w first last : ℕ) : Type 0 where
  pub start : bit_of first w ≡ test 0
  pub end : bit_of last w ≡ test n
  pub past : (o : ℕ) → n < o → test o ≡ false

-- a table is as it was from row m on
pub record Beyond (m : ℕ) (old table : List ℕ) : Type 0 where
  pub cells : length table ≡ length old
  pub rest : (i : ℕ) → m ≤ i → get_or table i 0 ≡ get_or old i 0

-- rows k to e of the field table have types below row m
pub record LowTypes (f : List ℕ) (k e m : ℕ) : Type 0 where
  pub within : e ≤ rows_of f
  pub each : (j : ℕ) → k ≤ j → j < e → (row_at f j).a < m

-- the same, and these fields have more than o cells
pub record Fields (f plan : List ℕ) (k e m o : ℕ) : Type 0 where
  pub lows : LowTypes f k e m
  pub more : o < sum (map (held plan) (own_types f k (e - k)))

-- from row k on there are such fields, whose types the plan and the tables have; the first row's number and how many
-- they are have 16 bits
pub record Ahead (f plan : List ℕ) (k o : ℕ) : Type 0 where
  pub end : ℕ
  pub below : ℕ
  pub fields : Fields f plan k end below o
  pub small : end ≤ 131070
  pub planned : below ≤ length plan
  pub few : below ≤ 64

-- ---- what they answer

-- a look that leads nowhere
unfoldable pub told_by : Bool → Look
told_by true = Ls.Yes
told_by false = Ls.No

-- what a table of type w says of a record's base, whose row plus 1 is a
unfoldable pub said_of_base : List ℕ → ℕ → ℕ → Bool
said_of_base s w a = of_base false (λ u. choose (eqb u w) false (bit_of (get_or s u 0) w)) a

-- the answer that a look comes to, where `deeper` says what begins in the part that it leads to
unfoldable pub settled : (ℕ → ℕ → Bool) → Look → Bool
settled deeper Ls.Yes = true
settled deeper Ls.No = false
settled deeper (Ls.Inside u o) = deeper u o

-- a look leads to no type but one below row m, and between its edges
pub data Below (size : ℕ → ℕ) (m : ℕ) : Look → Type 0 where
  yes_below : Below size m Ls.Yes
  no_below : Below size m Ls.No
  inside_below : {u o : ℕ} → u < m → 0 < o → o < size u → Below size m (Ls.Inside u o)
