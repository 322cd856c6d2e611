-- One step: the eight statements.
use Rattle.std.specs.Prelude.{ℕ, zero, suc, ◌+◌, Bool, not, List, [], ◌∷◌, map, ltb, leb, eqb, ℤ, pos, length, get_or, set}
use Rattle.std.specs.Prelude.{Ok, Err, Some, None}
use Rattle.prelude.specs.Choice.{choose, ◌also◌}
use Rattle.image.specs.declared.Row.{Row}
use Rattle.image.specs.Rows.{row_at}
use Rattle.shapes.specs.Forms.{is_single}
use Rattle.shapes.specs.Sizes.{size_of}
use Rattle.frames.specs.Procedures.{first_variable}
use Rattle.statements.specs.Statements.{procedure_at}
use Rattle.places.specs.Places.{room_from}
use Rattle.values.specs.Values.{is_integer, as_boolean, as_integer, Answer}
use Rattle.values.specs.declared.Value.{Value}
use Rattle.values.specs.declared.Value.TheVariants as Vs
use Rattle.values.specs.declared.Trap.{Trap}
use Rattle.values.specs.declared.Trap.TheVariants as Ts
use Rattle.values.specs.declared.Stop.TheVariants as St
use Rattle.semantics.specs.declared.Registers.{Registers}
use Rattle.semantics.specs.declared.Place.{Place}
use Rattle.semantics.specs.Memory.{LINK, ADDRESS, TYPE, Memory, mark_at, part_at, overwrite, Mark}
use Rattle.semantics.specs.Layout.{Program, place_of, new_top, kinds_from}
use Rattle.semantics.specs.Finding.{find_of, eval_of, Found}

-- "State: cells below top, row, base, top, counts read, written, steps." The cells are the whole lent store's; the
-- steps are counted by the run.
pub record State (X : Type 0) : Type 0 where
  pub at : Registers
  pub cells : List X
  pub output : List ℤ

-- what a step comes to. A trap has HALT's number. A step that traps, or that no rule applies to (it is stuck), leaves
-- the state that it began in, with what a call's earlier arguments wrote above top.
pub data Next (X : Type 0) : Type 0 where
  goes : State X → Next X
  finished : Next X
  trapped : Trap → ℤ → State X → Next X
  stuck : State X → Next X

-- trap "3 record target's dynamic type is not its static one (after both sides)"
unfoldable pub other_record : Program → Place → Bool
other_record g target =
    eqb (row_at g.types target.declared).kind 4
    also not (eqb target.dynamic target.declared)

-- input i: the number itself, where it is a 32-bit number, as every lent one is
unfoldable pub input_at : List ℤ → ℕ → ℤ
input_at input i = choose (is_integer (get_or input i (pos 0))) (get_or input i (pos 0)) (pos 0)

module _ {X : Type 0} where
  -- ---- "A trap in an operand ends the step with that trap."

  unfoldable pub on_place : State X → Found → (Place → Next X) → Next X
  on_place s (Ok place) next = next place
  on_place s (Err (St.Trap t)) next = trapped t (pos 0) s
  on_place s (Err St.Stuck) next = stuck s

  unfoldable pub on_value : State X → Answer → (Value → Next X) → Next X
  on_value s (Ok v) next = next v
  on_value s (Err (St.Trap t)) next = trapped t (pos 0) s
  on_value s (Err St.Stuck) next = stuck s

  unfoldable pub on_mark : State X → Mark → (ℕ → Next X) → Next X
  on_mark s (Some n) next = next n
  on_mark s None next = stuck s

  -- "the next row follows", or a jump's
  unfoldable pub go_to : State X → ℕ → State X
  go_to s row = record {
    at = record { row = row; base = s.at.base; top = s.at.top; read = s.at.read; written = s.at.written };
    cells = s.cells;
    output = s.output;
  }

  unfoldable pub following : State X → State X
  following s = go_to s (s.at.row + 1)

  -- the same with other cells
  unfoldable pub with_cells : State X → List X → State X
  with_cells s cells = record { at = s.at; cells = cells; output = s.output }

  -- cells written from address a on, which lie below top
  unfoldable pub written : State X → ℕ → List X → Next X
  written s a new =
      choose (leb (a + length new) s.at.top) (goes (following (with_cells s (overwrite s.cells a new))))
      (stuck s)

  -- n cells read from address a on, which lie below top
  unfoldable pub on_part : State X → ℕ → ℕ → (List X → Next X) → Next X
  on_part s a n next = choose (leb (a + n) s.at.top) (next (part_at s.cells a n)) (stuck s)

  -- one more input was read
  unfoldable pub after_read : Next X → Next X
  after_read (goes s) = goes (record {
    at = record {
      row = s.at.row;
      base = s.at.base;
      top = s.at.top;
      read = s.at.read + 1;
      written = s.at.written;
    };
    cells = s.cells;
    output = s.output;
  })
  after_read finished = finished
  after_read (trapped t z s) = trapped t z s
  after_read (stuck s) = stuck s

  module _ (m : Memory X) (g : Program) (s : State X) where
    abbrev find : ℕ → Found
    find r = find_of m g s.at.base s.at.top s.cells r

    abbrev eval : ℕ → Answer
    eval r = eval_of m g s.at.base s.at.top s.cells r

    -- ---- "0 assign b to designator a."

    -- "then copy the target type's cells, all read before any is written"
    unfoldable pub copied : Place → Place → Next X
    copied target source =
        choose (other_record g target) (trapped Ts.Target (pos 0) s)
        (on_part s source.address (size_of g.types g.fields target.declared) (written s target.address))

    -- "Assign: target, source": a scalar's value, or another object's cells
    unfoldable pub assigned : Row → Next X
    assigned row =
        on_place s (find row.a) λ target.
        choose (is_single g.types target.declared)
        (on_value s (eval row.b) λ v. written s target.address (m.put v ∷ []))
        (on_place s (find row.b) λ source. copied target source)

    -- ---- "1 call procedure a": "each argument is written once found"

    -- an argument's cells, by its parameter's row: "A VAR argument passes its object's address and dynamic type."
    unfoldable pub argument_cells : ℕ → Row → (List X → Next X) → Next X
    argument_cells k parameter next =
        choose (eqb parameter.kind 3)
        (on_place s (find k) λ place. next (m.mark ADDRESS place.address ∷ m.mark TYPE place.dynamic ∷ []))
        (choose (is_single g.types parameter.a)
        (on_value s (eval k) λ v. next (m.put v ∷ []))
        (on_place s (find k) λ place. on_part s place.address (size_of g.types g.fields parameter.a) next))

  -- n arguments from node row k on, to the parameters from variable row a on: "the new frame's cells begin at the old
  -- top"
  unfoldable pub passed : Memory X → Program → ℕ → ℕ → ℕ → State X → (State X → Next X) → Next X
  passed m g k a zero s next = next s
  passed m g k a (suc n) s next =
      argument_cells m g s k (row_at g.variables a) λ new.
      passed m g (k + 1) (a + 1) n (with_cells s (overwrite s.cells (s.at.top + place_of g a) new)) next

  module _ (m : Memory X) (g : Program) where
    -- "then locals zero, links, and the state's row (the procedure's first), base and top"
    unfoldable pub entered : ℕ → Row → State X → Next X
    entered q procedure s =
        let top : ℕ = s.at.top in
        let first : ℕ = first_variable g.variables g.procedures q in
        let locals : List X = map m.blank (kinds_from g (first + procedure.b) procedure.c) in
        let caller : ℕ = procedure_at g.procedures s.at.row in
        let links : List X = m.mark LINK caller ∷ m.mark LINK (s.at.row + 1) ∷ m.mark LINK s.at.base ∷ [] in
        let past : ℕ = top + (3 + room_from g.types g.fields g.variables first procedure.b) in
        let zeroed : List X = overwrite s.cells past locals in
        goes (record {
          at = record {
            row = procedure.a;
            base = top;
            top = new_top g top q;
            read = s.at.read;
            written = s.at.written;
          };
          cells = overwrite zeroed top links;
          output = s.output;
        })

    -- "Call: store check first"; trap "7 frame beyond the store"
    unfoldable pub called : Row → State X → Next X
    called row s =
        let first : ℕ = first_variable g.variables g.procedures row.a in
        choose (ltb (length s.cells) (new_top g s.at.top row.a)) (trapped Ts.Frame (pos 0) s)
        (passed m g row.b first (row_at g.procedures row.a).b s
        (entered row.a (row_at g.procedures row.a)))

    -- ---- "2 go to b if a is FALSE. 3 go to b."

    unfoldable pub jumped : Row → State X → Next X
    jumped row s =
        on_value s (eval m g s row.a) λ v.
        as_boolean (stuck s) v λ holds.
        goes (choose holds (following s) (go_to s row.b))

    -- ---- "4 RETURN.": "restores row, base and top (the ended frame's base); in procedure 0 it finishes"

    unfoldable pub returned : State X → Next X
    returned s =
        choose (eqb (procedure_at g.procedures s.at.row) 0) finished
        (on_mark s (mark_at m s.at.top s.cells LINK (s.at.base + 1)) λ row.
        on_mark s (mark_at m s.at.top s.cells LINK (s.at.base + 2)) λ base.
        goes (record {
          at = record { row = row; base = base; top = s.at.base; read = s.at.read; written = s.at.written };
          cells = s.cells;
          output = s.output;
        }))

    -- ---- "5 read into designator a. 6 write a. 7 HALT(a)."

    -- trap "8 input used up (after the target)"
    unfoldable pub received : List ℤ → Row → State X → Next X
    received input row s =
        on_place s (find m g s row.a) λ target.
        choose (ltb s.at.read (length input))
        (after_read (written s target.address (m.put (Vs.Int (input_at input s.at.read)) ∷ [])))
        (trapped Ts.Input (pos 0) s)

    -- trap "9 output full (after the value)"
    unfoldable pub sent : Row → State X → Next X
    sent row s =
        on_value s (eval m g s row.a) λ v.
        as_integer (stuck s) v λ z.
        choose (ltb s.at.written (length s.output))
        (goes (record {
          at = record {
            row = s.at.row + 1;
            base = s.at.base;
            top = s.at.top;
            read = s.at.read;
            written = s.at.written + 1;
          };
          cells = s.cells;
          output = set s.output s.at.written z;
        }))
        (trapped Ts.Output (pos 0) s)

    -- trap "10 HALT"
    unfoldable pub halted : Row → State X → Next X
    halted row s = on_value s (eval m g s row.a) λ v. as_integer (stuck s) v λ z. trapped Ts.Halt z s

    -- ---- by the kind

    unfoldable pub perform : List ℤ → ℕ → Row → State X → Next X
    perform input kind row s =
        choose (eqb kind 0) (assigned m g s row)
        (choose (eqb kind 1) (called row s)
        (choose (eqb kind 2) (jumped row s)
        (choose (eqb kind 3) (goes (go_to s row.b))
        (choose (eqb kind 4) (returned s)
        (choose (eqb kind 5) (received input row s)
        (choose (eqb kind 6) (sent row s)
        (choose (eqb kind 7) (halted row s) (stuck s))))))))

    -- "Each step takes the state that the one before left, and nothing else writes it."
    unfoldable pub step_of : List ℤ → State X → Next X
    step_of input s = perform input (row_at g.statements s.at.row).kind (row_at g.statements s.at.row) s
