-- Where objects begin within another one: itself, or a field or element at any depth.
use Rattle.std.specs.Prelude.{ℕ, ◌+◌, ◌-◌, Bool, true, false, List, [], ◌∷◌, map, leb, eqb, take, replicate}
use Rattle.prelude.specs.Choice.{choose, ◌also◌}
use Rattle.prelude.specs.Rec.{rec}
use Rattle.prelude.specs.Parts.{sum, Nth}
use Rattle.image.specs.Rows.{row_at}
use Rattle.shapes.specs.Sizes.{size_of, fields_of}

-- the types of a type's parts, one after the other: an array's elements, or a record's fields, the base's first
unfoldable pub parts_of : List ℕ → List ℕ → ℕ → List ℕ
parts_of t f r = choose (eqb (row_at t r).kind 3) (replicate (row_at t r).b (row_at t r).a) (fields_of t f r)

-- o cells into an object of type r begins one declared with type w; it may have no cells
pub data Begins (t f : List ℕ) (w : ℕ) : ℕ → ℕ → Type 0 where
  itself : Begins t f w w 0
  in_part : {r u n o : ℕ} → Nth (parts_of t f r) n u → Begins t f w u o
      → Begins t f w r (sum (map (size_of t f) (take n (parts_of t f r))) + o)

-- ---- the same as a test

-- o cells into objects of these types that follow one another: `deeper` says what begins in each
unfoldable pub among : (ℕ → ℕ → Bool) → (ℕ → ℕ) → List ℕ → ℕ → Bool
among deeper size [] o = false
among deeper size (u ∷ l) o =
    choose (deeper u o) true (choose (leb (size u) o) (among deeper size l (o - size u)) false)

-- o cells into an object of type r begins one declared with type w
unfoldable pub begins_at : List ℕ → List ℕ → ℕ → ℕ → ℕ → Bool
begins_at t f w =
    rec (λ o. false)
    (λ deeper r o. choose (eqb r w also eqb o 0) true (among deeper (size_of t f) (parts_of t f r) o))
