-- Wherever the tagged machine is not stuck, the bare machine on the same numbers does the same.
use mathlib.Core.Path.{◌≡◌, refl, ap, ◌∙◌}
use mathlib.Core.List.{List, [], ◌∷◌}
use Prim.Native.Nat.{ℕ, zero, suc, ◌+◌}
use lib.IntN.{ℤ}
use lib.ListN.{length-map}
use Rattle.prelude.proofs.Parts.{map_append}
use Rattle.image.specs.declared.Row.{Row}
use Rattle.image.specs.Rows.{row_at}
use Rattle.values.specs.declared.Value.{Value}
use Rattle.values.specs.declared.Trap.{Trap}
use Rattle.values.specs.declared.Stop.TheVariants as St
use Rattle.values.proofs.Cases.{boolean_alike, integer_alike}
use Rattle.semantics.specs.declared.Place.{Place}
use Rattle.semantics.specs.Memory.{LINK, ADDRESS, TYPE, Cell, tagged, bare, part_at, overwrite, Mark}
use Rattle.semantics.specs.Layout.{Program, place_of}
use Rattle.semantics.specs.Finding.{find_of, eval_of, Found}
use Rattle.semantics.specs.Stepping.{State, Next, Next.goes, Next.finished, Next.trapped, Next.stuck}
use Rattle.semantics.specs.Stepping.{on_place, on_value, on_mark, go_to}
use Rattle.semantics.specs.Stepping.{following, with_cells, written, on_part}
use Rattle.semantics.specs.Stepping.{copied, assigned, argument_cells, passed, entered}
use Rattle.semantics.specs.Stepping.{called, jumped, returned}
use Rattle.semantics.specs.Stepping.{after_read, received, sent, halted, perform, step_of}
use Rattle.semantics.specs.Running.{raised, Ended, onward, run_from, fresh_cells, fresh}
use Rattle.semantics.proofs.Agreeing.{Answers, Founds, Marks, lost, same, choose_rel}
use Rattle.semantics.proofs.Agreeing.{numbers, part_numbers, overwrite_numbers}
use Rattle.semantics.proofs.Agreeing.{put_number, mark_number_lem, blank_numbers, loose_numbers}
use Rattle.semantics.proofs.Agreeing.{mark_agrees, find_agrees, eval_agrees}
use Rattle.std.specs.Prelude.{Ok, Err, Some, None}
use Rattle.values.specs.Values.{Answer}

-- ---- states

-- the state of the same numbers
abbrev pub erase : State Cell → State ℤ
erase s = record { at = s.at; cells = numbers s.cells; output = s.output }

-- the tagged machine is stuck, or the bare one comes to the same with the same numbers
pub data Follows : Next Cell → Next ℤ → Type 0 where
  astray : {s : State Cell} {y : Next ℤ} → Follows (stuck s) y
  goes_on : {s : State Cell} {s' : State ℤ} → s' ≡ erase s → Follows (goes s) (goes s')
  ends : Follows finished finished
  traps : {t : Trap} {z : ℤ} {s : State Cell} {s' : State ℤ} → s' ≡ erase s → Follows (trapped t z s) (trapped t z s')

-- ---- one law for each way to go on

module _ (s : State Cell) where
  pub follows_place : {x y : Found} (k : Place → Next Cell) (l : Place → Next ℤ) → Founds x y
      → ((p : Place) → Follows (k p) (l p))
      → Follows (on_place s x k) (on_place (erase s) y l)
  unfolding on_place
  follows_place k l lost f = astray
  follows_place k l (same {x = Ok p}) f = f p
  follows_place k l (same {x = Err (St.Trap t)}) f = traps refl
  follows_place k l (same {x = Err St.Stuck}) f = astray

  pub follows_value : {x y : Answer} (k : Value → Next Cell) (l : Value → Next ℤ) → Answers x y
      → ((v : Value) → Follows (k v) (l v))
      → Follows (on_value s x k) (on_value (erase s) y l)
  unfolding on_value
  follows_value k l lost f = astray
  follows_value k l (same {x = Ok v}) f = f v
  follows_value k l (same {x = Err (St.Trap t)}) f = traps refl
  follows_value k l (same {x = Err St.Stuck}) f = astray

  pub follows_mark : {x y : Mark} (k : ℕ → Next Cell) (l : ℕ → Next ℤ) → Marks x y → ((n : ℕ) → Follows (k n) (l n))
      → Follows (on_mark s x k) (on_mark (erase s) y l)
  unfolding on_mark
  follows_mark k l lost f = astray
  follows_mark k l (same {x = Some n}) f = f n
  follows_mark k l (same {x = None}) f = astray

-- ---- cells written and read

went_erased : (s : State Cell) (row : ℕ) → go_to (erase s) row ≡ erase (go_to s row)
unfolding go_to
went_erased s row = refl

following_erased : (s : State Cell) → following (erase s) ≡ erase (following s)
unfolding following go_to
following_erased s = refl

overwritten_erased : (s : State Cell) (a : ℕ) (new : List Cell)
    → with_cells (erase s) (overwrite (numbers s.cells) a (numbers new))
    ≡ erase (with_cells s (overwrite s.cells a new))
unfolding with_cells
overwritten_erased s a new = rw (overwrite_numbers s.cells a new)

pub written_follows : (s : State Cell) (a : ℕ) (new : List Cell)
    → Follows (written s a new) (written (erase s) a (numbers new))
unfolding written
written_follows s a new =
    rw (length-map new tagged.number)
    (choose_rel Follows _ (goes_on (ap following (overwritten_erased s a new) ∙ following_erased _)) astray)

pub part_follows : (s : State Cell) (a n : ℕ) (k : List Cell → Next Cell) (l : List ℤ → Next ℤ)
    → ((new : List Cell) → Follows (k new) (l (numbers new)))
    → Follows (on_part s a n k) (on_part (erase s) a n l)
unfolding on_part
part_follows s a n k l f = choose_rel Follows _ (rw (part_numbers s.cells a n) (f (part_at s.cells a n))) astray

pub put_follows : (s : State Cell) (a : ℕ) (v : Value)
    → Follows (written s a (tagged.put v ∷ [])) (written (erase s) a (bare.put v ∷ []))
put_follows s a v = rw (put_number v) (written_follows s a (tagged.put v ∷ []))

-- ---- the statements

module _ (g : Program) (s : State Cell) where
  -- a designator found, an expression's value
  find_follows : (r : ℕ) (k : Place → Next Cell) (l : Place → Next ℤ) → ((p : Place) → Follows (k p) (l p))
      → Follows (on_place s (find_of tagged g s.at.base s.at.top s.cells r) k)
      (on_place (erase s) (find_of bare g s.at.base s.at.top (numbers s.cells) r) l)
  find_follows r k l f = follows_place s k l (find_agrees g s.at.base s.at.top s.cells r) f

  eval_follows : (r : ℕ) (k : Value → Next Cell) (l : Value → Next ℤ) → ((v : Value) → Follows (k v) (l v))
      → Follows (on_value s (eval_of tagged g s.at.base s.at.top s.cells r) k)
      (on_value (erase s) (eval_of bare g s.at.base s.at.top (numbers s.cells) r) l)
  eval_follows r k l f = follows_value s k l (eval_agrees g s.at.base s.at.top s.cells r) f

  copied_follows : (target source : Place)
      → Follows (copied tagged g s target source) (copied bare g (erase s) target source)
  unfolding copied
  copied_follows target source =
      choose_rel Follows _ (traps refl)
      (part_follows s _ _ _ _ (λ new. written_follows s target.address new))

  assigned_follows : (row : Row) → Follows (assigned tagged g s row) (assigned bare g (erase s) row)
  unfolding assigned
  assigned_follows row =
      find_follows row.a _ _ (λ target. choose_rel Follows _
      (eval_follows row.b _ _ (λ v. put_follows s target.address v))
      (find_follows row.b _ _ (λ source. copied_follows target source)))

  argument_follows : (k : ℕ) (parameter : Row) (next : List Cell → Next Cell) (next' : List ℤ → Next ℤ)
      → ((new : List Cell) → Follows (next new) (next' (numbers new)))
      → Follows (argument_cells tagged g s k parameter next) (argument_cells bare g (erase s) k parameter next')
  unfolding argument_cells
  argument_follows k parameter next next' f =
      choose_rel Follows _ (find_follows k _ _ (λ place.
      rw (mark_number_lem ADDRESS place.address, mark_number_lem TYPE place.dynamic) (f _)))
      (choose_rel Follows _ (eval_follows k _ _ (λ v. rw (put_number v) (f (tagged.put v ∷ []))))
      (find_follows k _ _ (λ place. part_follows s _ _ _ _ f)))

passed_follows : (g : Program) (k a n : ℕ) (s : State Cell) (next : State Cell → Next Cell) (next' : State ℤ → Next ℤ)
    → ((u : State Cell) → Follows (next u) (next' (erase u)))
    → Follows (passed tagged g k a n s next) (passed bare g k a n (erase s) next')
unfolding passed
passed_follows g k a zero s next next' f = f s
passed_follows g k a (suc n) s next next' f =
    argument_follows g s k (row_at g.variables a) _ _ (λ new.
    rw (overwritten_erased s (s.at.top + place_of g a) new) (passed_follows g (k + 1) (a + 1) n _ next next' f))

-- a state whose cells are the same numbers
goes_with : {s : State Cell} (cells : List ℤ) → cells ≡ numbers s.cells
    → Follows (goes s) (goes (record { at = s.at; cells = cells; output = s.output }))
goes_with cells e = rw e (goes_on refl)

twice_numbers : (cells : List Cell) (a : ℕ) (x : List Cell) (b : ℕ) (y : List Cell)
    → overwrite (overwrite (numbers cells) a (numbers x)) b (numbers y) ≡ numbers (overwrite (overwrite cells a x) b y)
twice_numbers cells a x b y =
    ap (λ l. overwrite l b (numbers y)) (overwrite_numbers cells a x) ∙ overwrite_numbers (overwrite cells a x) b y

module _ (g : Program) where
  entered_follows : (q : ℕ) (procedure : Row) (s : State Cell)
      → Follows (entered tagged g q procedure s) (entered bare g q procedure (erase s))
  unfolding entered
  entered_follows q procedure s = goes_with _ (simp (mark_number_lem, blank_numbers) (twice_numbers _ _ _ _ _))

  called_follows : (row : Row) (s : State Cell) → Follows (called tagged g row s) (called bare g row (erase s))
  unfolding called
  called_follows row s =
      rw (length-map s.cells tagged.number) (choose_rel Follows _ (traps refl)
      (passed_follows g _ _ _ s _ _ (λ u. entered_follows row.a (row_at g.procedures row.a) u)))

  jumped_follows : (row : Row) (s : State Cell) → Follows (jumped tagged g row s) (jumped bare g row (erase s))
  unfolding jumped
  jumped_follows row s = eval_follows g s row.a _ _ (λ v. boolean_alike Follows astray v _ _ (λ holds.
      goes_on (choose_rel (λ u u'. u' ≡ erase u) holds (following_erased s) (went_erased s row.b))))

  returned_follows : (s : State Cell) → Follows (returned tagged g s) (returned bare g (erase s))
  unfolding returned
  returned_follows s =
      choose_rel Follows _ ends
      (follows_mark s _ _ (mark_agrees s.at.top s.cells LINK (s.at.base + 1)) (λ row.
      follows_mark s _ _ (mark_agrees s.at.top s.cells LINK (s.at.base + 2)) (λ base. goes_on refl)))

  read_follows : {x : Next Cell} {y : Next ℤ} → Follows x y → Follows (after_read x) (after_read y)
  unfolding after_read
  read_follows astray = astray
  read_follows (goes_on e) = rw e (goes_on refl)
  read_follows ends = ends
  read_follows (traps e) = traps e

  received_follows : (input : List ℤ) (row : Row) (s : State Cell)
      → Follows (received tagged g input row s) (received bare g input row (erase s))
  unfolding received
  received_follows input row s =
      find_follows g s row.a _ _ (λ target. choose_rel Follows _
      (read_follows (put_follows s target.address _)) (traps refl))

  sent_follows : (row : Row) (s : State Cell) → Follows (sent tagged g row s) (sent bare g row (erase s))
  unfolding sent
  sent_follows row s =
      eval_follows g s row.a _ _ (λ v. integer_alike Follows astray v _ _ (λ z.
      choose_rel Follows _ (goes_on refl) (traps refl)))

  halted_follows : (row : Row) (s : State Cell) → Follows (halted tagged g row s) (halted bare g row (erase s))
  unfolding halted
  halted_follows row s = eval_follows g s row.a _ _ (λ v. integer_alike Follows astray v _ _ (λ z. traps refl))

  pub perform_follows : (input : List ℤ) (kind : ℕ) (row : Row) (s : State Cell)
      → Follows (perform tagged g input kind row s) (perform bare g input kind row (erase s))
  unfolding perform
  perform_follows input kind row s =
      choose_rel Follows _ (assigned_follows g s row)
      (choose_rel Follows _ (called_follows row s)
      (choose_rel Follows _ (jumped_follows row s)
      (choose_rel Follows _ (goes_on (went_erased s row.b))
      (choose_rel Follows _ (returned_follows s)
      (choose_rel Follows _ (received_follows input row s)
      (choose_rel Follows _ (sent_follows row s)
      (choose_rel Follows _ (halted_follows row s) astray)))))))

  pub step_follows : (input : List ℤ) (s : State Cell)
      → Follows (step_of tagged g input s) (step_of bare g input (erase s))
  unfolding step_of
  step_follows input s = perform_follows input _ _ s

-- ---- a run

abbrev pub erase_ended : Ended Cell → Ended ℤ
erase_ended e = record {
  outcome = e.outcome;
  trap = e.trap;
  halt = e.halt;
  steps = e.steps;
  mark = e.mark;
  state = erase e.state;
}

onward_follows : {x : Next Cell} {y : Next ℤ} (s : State Cell) (k mark : ℕ)
    (f : State Cell → Ended Cell) (h : State ℤ → Ended ℤ) → Follows x y
    → ((u : State Cell) → ((f u).outcome ≡ 3 → ⊥) → h (erase u) ≡ erase_ended (f u))
    → ((onward x s k mark f).outcome ≡ 3 → ⊥) → onward y (erase s) k mark h ≡ erase_ended (onward x s k mark f)
unfolding onward
onward_follows s k mark f h astray next e = absurd (e refl)
onward_follows s k mark f h (goes_on {s = u} q) next e = rw q (next u e)
onward_follows s k mark f h ends next e = refl
onward_follows s k mark f h (traps q) next e = rw q

-- a store of the same length: the same mark
raised_erased : (g : Program) (s : State Cell) (mark : ℕ) → raised g (erase s) mark ≡ raised g s mark
unfolding raised
raised_erased g s mark = rw (length-map s.cells tagged.number)

pub run_follows : (g : Program) (input : List ℤ) (n k mark : ℕ) (s : State Cell)
    → ((run_from tagged g input n k mark s).outcome ≡ 3 → ⊥)
    → run_from bare g input n k mark (erase s) ≡ erase_ended (run_from tagged g input n k mark s)
unfolding run_from
run_follows g input zero k mark s e = refl
run_follows g input (suc n) k mark s e =
    rw (raised_erased g s mark)
    (onward_follows s (k + 1) (raised g s mark) _ _ (step_follows g input s)
    (λ u h. run_follows g input n (k + 1) (raised g s mark) u h) e)

-- ---- the fresh state

fresh_numbers : (g : Program) (store : List ℤ) → fresh_cells bare g store ≡ numbers (fresh_cells tagged g store)
unfolding fresh_cells
fresh_numbers g store = simp (map_append, blank_numbers, loose_numbers, mark_number_lem)

pub fresh_erased : (g : Program) (store output : List ℤ)
    → fresh bare g store output ≡ erase (fresh tagged g store output)
unfolding fresh
fresh_erased g store output = rw (fresh_numbers g store)
