-- What a step does to the counts, the output places and top, and the number that a trap has, from any state of any
-- memory.
use mathlib.Core.Path.{◌≡◌, refl, ◌∙◌}
use mathlib.Core.Bool.{Bool, true, false}
use mathlib.Core.List.{List}
use Prim.Native.Nat.{ℕ, zero, suc, ◌+◌, ◌≤◌, ◌<◌, max}
use native.Mathlib.Omega.{arith}
use borrow.Author.Tests.{ltb-true, eqb-true, ne_eqb}
use lib.Dec.{ltb, eqb}
use lib.IntN.{ℤ, pos}
use lib.ListN.{length, get_or, length-set}
use lib.Seq.{get_or-set_other}
use Rattle.prelude.specs.Choice.{choose}
use Rattle.prelude.proofs.Choice.{choose_yes, choose_no, choose_has}
use Rattle.image.specs.declared.Row.{Row}
use Rattle.image.specs.Rows.{row_at}
use Rattle.frames.specs.Procedures.{first_variable}
use Rattle.values.specs.declared.Value.{Value}
use Rattle.values.specs.declared.Trap.{Trap}
use Rattle.values.specs.declared.Trap.TheVariants as Ts
use Rattle.values.specs.Values.{trap_number, Answer}
use Rattle.values.specs.declared.Stop.TheVariants as St
use Rattle.values.proofs.Ranges.{halt_number}
use Rattle.values.proofs.Cases.{boolean_has, integer_has}
use Rattle.semantics.specs.declared.Place.{Place}
use Rattle.semantics.specs.Memory.{LINK, Memory, cell_at, mark_at, Mark}
use Rattle.semantics.specs.Layout.{Program, new_top}
use Rattle.semantics.specs.Stepping.{State, Next, Next.goes, Next.finished, Next.trapped, Next.stuck}
use Rattle.semantics.specs.Stepping.{on_place, on_value, on_mark, go_to, following, with_cells}
use Rattle.semantics.specs.Stepping.{written, on_part, after_read, copied, assigned, argument_cells, passed, entered}
use Rattle.semantics.specs.Stepping.{called, jumped, returned, received, sent, halted, perform, step_of}
use Rattle.semantics.specs.Running.{asked_by, raised}
use Rattle.std.specs.Prelude.{Ok, Err, Some, None}
use Rattle.semantics.specs.Finding.{Found}

-- "output places from written on keep their numbers", and a count within its lent list stays within it: from a state to
-- a later one
pub record Keeps {X : Type 0} (input : List ℤ) (s u : State X) : Type 0 where
  pub count : s.at.written ≤ u.at.written
  pub places : length u.output ≡ length s.output
  pub place : (i : ℕ) → u.at.written ≤ i → get_or u.output i (pos 0) ≡ get_or s.output i (pos 0)
  pub inputs : s.at.read ≤ length input → u.at.read ≤ length input
  pub outputs : s.at.written ≤ length s.output → u.at.written ≤ length s.output

-- "HALT number 0 unless trap 10"
pub record Numbered (t : Trap) (z : ℤ) : Type 0 where
  pub halt : (trap_number t ≡ 10 → ⊥) → z ≡ pos 0

pub no_number : (t : Trap) → Numbered t (pos 0)
no_number t = record { halt = λ h. refl }

module _ {X : Type 0} (input : List ℤ) where
  -- what a step that asks for a top comes to, of the output, HALT's number and top: where it goes on, the new top is the
  -- one asked for, or neither lies above the old one
  pub data Reports (asked : ℕ) (s : State X) : Next X → Type 0 where
    reports_goes : {u : State X} → Keeps input s u
        → max s.at.top u.at.top ≡ max s.at.top asked → Reports asked s (goes u)
    reports_finished : Reports asked s finished
    reports_trapped : {t : Trap} {z : ℤ} {u : State X} → Keeps input s u → Numbered t z
        → Reports asked s (trapped t z u)
    reports_stuck : {u : State X} → Keeps input s u → Reports asked s (stuck u)

  -- no top is asked for, and none above the old one is there
  reports_below : {s u : State X} → Keeps input s u → u.at.top ≤ s.at.top → Reports 0 s (goes u)
  reports_below {s} {u} kept low = reports_goes kept (omega arith)

  -- the same counts and output, whatever else is
  pub keeps_same : {s u : State X} → u.at.read ≡ s.at.read → u.at.written ≡ s.at.written
      → u.output ≡ s.output → Keeps input s u
  keeps_same read count same = record {
    count = omega arith;
    places = rw same;
    place = λ i h. rw same;
    inputs = λ h. omega arith;
    outputs = λ h. omega arith;
  }

  pub keeps_all : (s : State X) → Keeps input s s
  keeps_all s = keeps_same refl refl refl

  pub keeps_on : {s u v : State X} → Keeps input s u → Keeps input u v → Keeps input s v
  keeps_on {s} {u} {v} one two =
      let low = one.count in
      let high = two.count in
      record {
        count = omega arith;
        places = two.places ∙ one.places;
        place = λ i h. two.place i h ∙ one.place i (omega arith);
        inputs = λ h. two.inputs (one.inputs h);
        outputs = λ h. rw one.places at (two.outputs (rw one.places (one.outputs h)));
      }

  -- ---- by the ways that a step goes on, after cells above top were written

  module _ {asked : ℕ} {s s' : State X} (kept : Keeps input s s') where
    place_reports : (found : Found) (k : Place → Next X) → ((place : Place) → Reports asked s (k place))
        → Reports asked s (on_place s' found k)
    unfolding on_place
    place_reports (Ok place) k f = f place
    place_reports (Err (St.Trap t)) k f = reports_trapped kept (no_number t)
    place_reports (Err St.Stuck) k f = reports_stuck kept

    value_reports : (answer : Answer) (k : Value → Next X) → ((v : Value) → Reports asked s (k v))
        → Reports asked s (on_value s' answer k)
    unfolding on_value
    value_reports (Ok v) k f = f v
    value_reports (Err (St.Trap t)) k f = reports_trapped kept (no_number t)
    value_reports (Err St.Stuck) k f = reports_stuck kept

    mark_reports : (mark : Mark) (k : ℕ → Next X) → ((n : ℕ) → Reports asked s (k n)) → Reports asked s (on_mark s' mark k)
    unfolding on_mark
    mark_reports (Some n) k f = f n
    mark_reports None k f = reports_stuck kept

    part_reports : (a n : ℕ) (k : List X → Next X) → ((part : List X) → Reports asked s (k part))
        → Reports asked s (on_part s' a n k)
    unfolding on_part
    part_reports a n k f = choose_has (Reports asked s) _ (λ e. f _) (λ e. reports_stuck kept)

  -- ---- the statements

  module _ (s : State X) where
    went_reports : (row : ℕ) → Reports 0 s (goes (go_to s row))
    unfolding go_to
    went_reports row = reports_below (keeps_same refl refl refl) (omega arith)

    written_reports : (a : ℕ) (new : List X) → Reports 0 s (written s a new)
    unfolding written following go_to with_cells
    written_reports a new =
        choose_has (Reports 0 s) _ (λ e. reports_below (keeps_same refl refl refl) (omega arith)) (λ e. reports_stuck (keeps_all s))

  argument_reports : (m : Memory X) (g : Program) {asked : ℕ} {s s' : State X} → Keeps input s s' → (k : ℕ) (parameter : Row)
      (next : List X → Next X) → ((new : List X) → Reports asked s (next new))
      → Reports asked s (argument_cells m g s' k parameter next)
  unfolding argument_cells
  argument_reports m g {asked} {s} kept k parameter next f =
      choose_has (Reports asked s) _ (λ e. place_reports kept _ _ (λ place. f _))
      (λ e. choose_has (Reports asked s) _ (λ e. value_reports kept _ _ (λ v. f _))
      (λ e. place_reports kept _ _ (λ place. part_reports kept _ _ _ f)))

  passed_reports : (m : Memory X) (g : Program) {asked : ℕ} {s : State X} (k a n : ℕ) (s' : State X) → Keeps input s s'
      → s'.at.top ≡ s.at.top → (next : State X → Next X)
      → ((u : State X) → Keeps input s u → u.at.top ≡ s.at.top → Reports asked s (next u))
      → Reports asked s (passed m g k a n s' next)
  unfolding passed with_cells
  passed_reports m g k a zero s' kept top next f = f s' kept top
  passed_reports m g k a (suc n) s' kept top next f =
      argument_reports m g kept k (row_at g.variables a) _ (λ new.
      passed_reports m g (k + 1) (a + 1) n _ (keeps_on kept (keeps_same refl refl refl)) top next f)

  module _ (m : Memory X) (g : Program) (s : State X) where
    abbrev here : Keeps input s s
    here = keeps_all s

    copied_reports : (target source : Place) → Reports 0 s (copied m g s target source)
    unfolding copied
    copied_reports target source =
        choose_has (Reports 0 s) _ (λ e. reports_trapped here (no_number _))
        (λ e. part_reports here _ _ _ (λ part. written_reports s target.address part))

    assigned_reports : (row : Row) → Reports 0 s (assigned m g s row)
    unfolding assigned
    assigned_reports row =
        place_reports here _ _ (λ target. choose_has (Reports 0 s) _
        (λ e. value_reports here _ _ (λ v. written_reports s target.address _))
        (λ e. place_reports here _ _ (λ source. copied_reports target source)))

    -- the top that a call of procedure q asks for
    entered_reports : (q : ℕ) (procedure : Row) (u : State X) → Keeps input s u → u.at.top ≡ s.at.top
        → Reports (new_top g s.at.top q) s (entered m g q procedure u)
    unfolding entered
    entered_reports q procedure u kept top = reports_goes (keeps_on kept (keeps_same refl refl refl)) (raised_by _ top)
      where
        raised_by : (room : ℕ) {a b : ℕ} → a ≡ b → max b (a + room) ≡ max b (b + room)
        raised_by room e = rw e

    called_reports : (row : Row)
        → Reports (choose (ltb (length s.cells) (new_top g s.at.top row.a)) 0 (new_top g s.at.top row.a)) s
        (called m g row s)
    unfolding called choose
    called_reports row = go (ltb (length s.cells) (new_top g s.at.top row.a))
      where
        go : (b : Bool) → Reports (choose b 0 (new_top g s.at.top row.a)) s (choose b (trapped Ts.Frame (pos 0) s)
            (passed m g row.b (first_variable g.variables g.procedures row.a)
            (row_at g.procedures row.a).b s (entered m g row.a (row_at g.procedures row.a))))
        go true = reports_trapped here (no_number _)
        go false = passed_reports m g _ _ _ s here refl _ (λ u kept top. entered_reports _ _ u kept top)

    jumped_reports : (row : Row) → Reports 0 s (jumped m g row s)
    unfolding jumped following
    jumped_reports row =
        value_reports here _ _ (λ v. boolean_has (Reports 0 s) (reports_stuck here) v _ (λ holds.
        choose_has (λ u. Reports 0 s (goes u)) holds (λ e. went_reports s _) (λ e. went_reports s _)))

    -- a link is found below top alone
    link_reports : (a : ℕ) (k : ℕ → Next X) → ((n : ℕ) → a < s.at.top → Reports 0 s (k n))
        → Reports 0 s (on_mark s (mark_at m s.at.top s.cells LINK a) k)
    unfolding mark_at choose
    link_reports a k f = go (ltb a s.at.top) refl
      where
        go : (b : Bool) → ltb a s.at.top ≡ b
            → Reports 0 s (on_mark s (choose b (m.marked LINK (cell_at m s.cells a)) None) k)
        go true low = mark_reports here _ k (λ n. f n (ltb-true _ _ low))
        go false low = unfold on_mark in reports_stuck here

    returned_reports : Reports 0 s (returned m g s)
    unfolding returned
    returned_reports =
        choose_has (Reports 0 s) _ (λ e. reports_finished)
        (λ e. link_reports _ _ (λ row low. link_reports _ _ (λ base above.
        reports_below (keeps_same refl refl refl) (begins low))))
      where
        begins : s.at.base + 1 < s.at.top → s.at.base ≤ s.at.top
        begins low = omega arith

    -- one more input, where there is one
    read_reports : (a : ℕ) (new : List X) → s.at.read < length input → Reports 0 s (after_read (written s a new))
    unfolding written following go_to with_cells after_read
    read_reports a new more =
        choose_has (λ x. Reports 0 s (after_read x)) _
        (λ e. reports_below (record {
          count = omega arith;
          places = refl;
          place = λ i h. refl;
          inputs = λ h. omega arith;
          outputs = λ h. h;
        }) (omega arith))
        (λ e. reports_stuck here)

    received_reports : (row : Row) → Reports 0 s (received m g input row s)
    unfolding received
    received_reports row =
        place_reports here _ _ (λ target. choose_has (Reports 0 s) _
        (λ e. read_reports target.address _ (ltb-true _ _ e)) (λ e. reports_trapped here (no_number _)))

    sent_reports : (row : Row) → Reports 0 s (sent m g row s)
    unfolding sent
    sent_reports row =
        value_reports here _ _ (λ v. integer_has (Reports 0 s) (reports_stuck here) v _ (λ z. choose_has (Reports 0 s) _
        (λ e. reports_below (record {
          count = omega arith;
          places = length-set s.output s.at.written z;
          place = λ i h. get_or-set_other s.output s.at.written i z (pos 0) (omega arith);
          inputs = λ h. h;
          outputs = λ h. omega (arith, ltb-true s.at.written (length s.output) e);
        }) (omega arith))
        (λ e. reports_trapped here (no_number _))))

    halted_reports : (row : Row) → Reports 0 s (halted m g row s)
    unfolding halted
    halted_reports row =
        value_reports here _ _ (λ v. integer_has (Reports 0 s) (reports_stuck here) v _ (λ z.
        reports_trapped here (record { halt = λ other. absurd (other halt_number) })))

    -- by the kind: a call asks for a top
    perform_reports : (kind : ℕ) (row : Row)
        → Reports (choose (eqb kind 1) (choose (ltb (length s.cells) (new_top g s.at.top row.a)) 0
        (new_top g s.at.top row.a)) 0) s
        (perform m g input kind row s)
    unfolding perform
    perform_reports kind row =
        choose_has (Reports _ s) _ (λ e. rw (choose_no _ _ _ (no_call (eqb-true kind 0 e))) (assigned_reports row))
        (λ e. choose_has (Reports _ s) _ (λ e. rw (choose_yes _ _ _ e) (called_reports row))
        (λ call. rw (choose_no _ _ _ call)
        (choose_has (Reports 0 s) _ (λ e. jumped_reports row)
        (λ e. choose_has (Reports 0 s) _ (λ e. went_reports s row.b)
        (λ e. choose_has (Reports 0 s) _ (λ e. returned_reports)
        (λ e. choose_has (Reports 0 s) _ (λ e. received_reports row)
        (λ e. choose_has (Reports 0 s) _ (λ e. sent_reports row)
        (λ e. choose_has (Reports 0 s) _ (λ e. halted_reports row) (λ e. reports_stuck here)))))))))
      where
        no_call : kind ≡ 0 → eqb kind 1 ≡ false
        no_call e = ne_eqb kind 1 (λ one. omega arith)

    pub step_reports : Reports (asked_by g s.at (length s.cells)) s (step_of m g input s)
    unfolding step_of asked_by
    step_reports = perform_reports _ _

  -- a step that goes on: what it asks for raises the mark as the top that it leaves does
  pub goes_raised : (m : Memory X) (g : Program) (mark : ℕ) (s u : State X) → s.at.top ≤ mark
      → step_of m g input s ≡ goes u → raised g s mark ≡ max mark u.at.top
  unfolding raised
  goes_raised m g mark s u high e = go (rw e at (step_reports m g s))
    where
      go : Reports (asked_by g s.at (length s.cells)) s (goes u)
          → max mark (asked_by g s.at (length s.cells)) ≡ max mark u.at.top
      go (reports_goes kept top) = omega arith
