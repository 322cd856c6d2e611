-- The words of a type row say what begins at its edges.
use mathlib.Core.Path.{◌≡◌, refl, sym, ◌∙◌, ap}
use mathlib.Core.Bool.{false}
use mathlib.Core.List.{List, [], ◌++◌, map}
use mathlib.Core.Logic.{◌⊎◌, inl, inr}
use Prim.Native.Nat.{ℕ, ◌^◌, ◌<◌}
use native.Mathlib.Omega.{arith}
use borrow.Author.Tests.{eq-eqb, ne_eqb}
use lib.Bits.{bit_or}
use lib.Dec.{eqb}
use lib.ListN.{get_or}
use Rattle.prelude.specs.Bits.{bit_of}
use Rattle.prelude.specs.Choice.{choose}
use Rattle.prelude.specs.Parts.{sum}
use Rattle.prelude.proofs.Bits.{bit_none, bit_single}
use Rattle.prelude.proofs.Choice.{choose_yes, choose_no, also_first}
use Rattle.image.specs.declared.Row.{Row}
use Rattle.image.specs.Rows.{row_at, rows_of}
use Rattle.shapes.specs.Forms.{of_base, own_types}
use Rattle.shapes.specs.Sizes.{fields_of}
use Rattle.shapes.proofs.Layouts.{decide}
use Rattle.objects.specs.Begins.{parts_of, among, begins_at}
use Rattle.objects.specs.Looking.{held, Typed, Edges, AtEdges, said_of_base}
use Rattle.objects.proofs.Records.{fields_held, whole, record_past}
use Rattle.objects.proofs.Deciding.{element_low, array_held, part_array, part_record, part_none}
use Rattle.objects.proofs.Deciding.{begins_by, by_inner}
use Rattle.objects.proofs.Bases.{said_start, said_end}
use Rattle.objects.proofs.Joining.{or_bit, at_same, at_many}

module _ {t f plan : List ℕ} (typed : Typed t f plan) (w r : ℕ) (low : r < rows_of t) where
  abbrev Parts : ℕ → ℕ → Type 0
  Parts first last = AtEdges (among (begins_at t f w) (held plan) (parts_of t f r)) (held plan r) w first last

  -- ---- its parts, by the kind

  module _ {row : Row} (this : row ≡ row_at t r) where
    pub at_none : (row.kind ≡ 3 → ⊥) → (row.kind ≡ 4 → ⊥) → Parts 0 0
    at_none a b =
        let none : (o : ℕ) → among (begins_at t f w) (held plan) (parts_of t f r) o ≡ false =
        λ o. part_none typed r low this (begins_at t f w) o a b in
        record {
          start = bit_none w ∙ sym (none 0);
          end = bit_none w ∙ sym (none (held plan r));
          past = λ o h. none o;
        }

    module _ {starts ends : List ℕ} (edges : Edges (begins_at t f w) (held plan) w r starts ends) where
      pub at_array : row.kind ≡ 3 → Parts (get_or starts row.a 0) (get_or ends row.a 0)
      at_array kind =
          let less = element_low typed r low this kind in
          let (least, same) = part_array typed r low this (begins_at t f w) 0 kind in
          rw (array_held typed r low this kind) at
          (at_same (λ o. (part_array typed r low this (begins_at t f w) o kind).1) (at_many edges less row.b least))

      -- a record's base
      pub at_base : row.kind ≡ 4 → {before first last : ℕ} → before ≡ of_base 0 (held plan) row.a
          → bit_of first w ≡ said_of_base starts w row.a → bit_of last w ≡ said_of_base ends w row.a
          → AtEdges (among (begins_at t f w) (held plan) (of_base [] (fields_of t f) row.a)) before w first last
      at_base kind {before} is p q =
          let k : (row_at t r).kind ≡ 4 = rw (← this) kind in
          record {
            start = p ∙ said_start typed w r low k this 0 edges refl;
            end = q ∙ said_end typed w r low k this before edges is;
            past = λ o h. record_past typed r low k this (begins_at t f w) is o edges h;
          }

      -- and its fields
      pub at_record : row.kind ≡ 4 → {first last : ℕ}
          → let l = of_base [] (fields_of t f) row.a ++ own_types f row.b row.c in
          AtEdges (among (begins_at t f w) (held plan) l) (sum (map (held plan) l)) w first last → Parts first last
      at_record kind h =
          let k : (row_at t r).kind ≡ 4 = rw (← this) kind in
          at_same (λ o. part_record typed r low this (begins_at t f w) o kind)
          (rw (← whole typed r low k this, fields_held typed r low k) at h)

  -- ---- the row itself

  module _ {first last : ℕ} (parts : Parts first last) where
    -- where it begins itself
    own_edge : (o word : ℕ) → o ≡ 0 → bit_of word w ≡ among (begins_at t f w) (held plan) (parts_of t f r) o
        → bit_of (bit_or word (2 ^ r)) w ≡ begins_at t f w r o
    own_edge o word e h =
        or_bit w word (2 ^ r)
        ∙ rw (bit_single r w, h) (sym (begins_by typed w r low o ∙ rw (also_first (eqb r w) (eq-eqb o 0 e))))

    own_end : (held plan r ≡ 0) ⊎ (held plan r ≡ 0 → ⊥)
        → bit_of (choose (eqb (held plan r) 0) (bit_or last (2 ^ r)) last) w ≡ begins_at t f w r (held plan r)
    own_end (inl e) =
        ap (λ word. bit_of word w) (choose_yes _ _ _ (eq-eqb (held plan r) 0 e))
        ∙ own_edge (held plan r) last e parts.end
    own_end (inr e) =
        ap (λ word. bit_of word w) (choose_no _ _ _ (ne_eqb (held plan r) 0 e)) ∙ parts.end
        ∙ sym (by_inner typed w r low (held plan r) e)

    pub at_row : {own size x y : ℕ} → own ≡ 2 ^ r → size ≡ held plan r → x ≡ bit_or first own
        → y ≡ choose (eqb size 0) (bit_or last own) last → AtEdges (begins_at t f w r) (held plan r) w x y
    at_row one is p q =
        rw (p, q, one, is) (record {
          start = own_edge 0 first refl parts.start;
          end = own_end (decide (held plan r) 0);
          past = λ o h. by_inner typed w r low o (omega arith) ∙ parts.past o h;
        })
