-- A step in a store, and the same step in one that is longer: what it comes to is the same, the longer store keeps the
-- cells that it has more, and only a call that asks for them tells the two apart.
use mathlib.Core.Path.{◌≡◌, refl, sym, ◌∙◌, ap}
use mathlib.Core.Bool.{Bool, true, false}
use mathlib.Core.List.{List, [], ◌∷◌, ◌++◌, append_assoc}
use Prim.Native.Nat.{ℕ, ◌+◌, ◌≤◌, ◌<◌}
use native.Mathlib.Omega.{arith}
use borrow.Author.Tests.{ltb-true, leb-true}
use lib.Dec.{ltb}
use lib.IntN.{ℤ, pos}
use lib.ListN.{length, take, drop, length-take, length-drop, get_or-append}
use lib.Seq.{take-append-le, drop-append-le}
use Rattle.prelude.specs.Choice.{choose}
use Rattle.image.specs.declared.Row.{Row}
use Rattle.values.specs.declared.Value.{Value}
use Rattle.values.specs.declared.Trap.{Trap}
use Rattle.values.specs.declared.Stop.TheVariants as St
use Rattle.values.proofs.Cases.{boolean_alike, integer_alike}
use Rattle.semantics.specs.declared.Place.{Place}
use Rattle.semantics.specs.Memory.{LINK, Memory, cell_at, mark_at, part_at, overwrite, Mark}
use Rattle.semantics.specs.Layout.{Program}
use Rattle.semantics.specs.Finding.{find_of, eval_of, Found}
use Rattle.semantics.specs.Stepping.{State, Next, Next.goes, Next.finished, Next.trapped, Next.stuck, on_place, on_value}
use Rattle.semantics.specs.Stepping.{on_mark, go_to, following, with_cells, written, on_part}
use Rattle.semantics.specs.Stepping.{after_read, copied, assigned, jumped, returned, received, sent, halted}
use Rattle.semantics.proofs.Holding.{put_length}
use Rattle.semantics.proofs.Below.{find_below, eval_below, mark_below}
use Rattle.std.specs.Prelude.{Ok, Err, Some, None}
use Rattle.values.specs.Values.{Answer}

-- ---- cells

module _ {X : Type 0} (cells rest : List X) where
  -- cells that are overwritten below the end
  pub overwrite_longer : (a : ℕ) (new : List X) → a + length new ≤ length cells
      → overwrite (cells ++ rest) a new ≡ overwrite cells a new ++ rest
  unfolding overwrite
  overwrite_longer a new low =
      rw (take-append-le a cells rest (omega arith), drop-append-le (a + length new) cells rest low)
      (ap (λ l. take a cells ++ l) (sym (append_assoc new (drop (a + length new) cells) rest))
      ∙ sym (append_assoc (take a cells) (new ++ drop (a + length new) cells) rest))

  -- and that are read there
  part_longer : (a n : ℕ) → a + n ≤ length cells → part_at (cells ++ rest) a n ≡ part_at cells a n
  unfolding part_at
  part_longer a n low =
      rw (drop-append-le a cells rest (omega arith))
      (take-append-le n (drop a cells) rest (omega (arith, length-drop a cells)))

-- ---- states and steps

-- the state in a store with more cells
unfoldable pub longer : {X : Type 0} → List X → State X → State X
longer rest s = record { at = s.at; cells = s.cells ++ rest; output = s.output }

-- what a step comes to in a store of n cells, and what it comes to in the longer one
pub data Longer {X : Type 0} (rest : List X) (n : ℕ) : Next X → Next X → Type 0 where
  longer_goes : {u v : State X} → u.at.top ≤ n → length u.cells ≡ n → v ≡ longer rest u
      → Longer rest n (goes u) (goes v)
  longer_end : Longer rest n finished finished
  longer_trap : {t : Trap} {z : ℤ} {u v : State X} → length u.cells ≡ n → v ≡ longer rest u
      → Longer rest n (trapped t z u) (trapped t z v)
  longer_stuck : {u v : State X} → length u.cells ≡ n → v ≡ longer rest u → Longer rest n (stuck u) (stuck v)

module _ {X : Type 0} (rest : List X) (n : ℕ) where
  pub choose_longer : (b : Bool) {x y x' y' : Next X} → (b ≡ true → Longer rest n x x')
      → (b ≡ false → Longer rest n y y') → Longer rest n (choose b x y) (choose b x' y')
  unfolding choose
  choose_longer true p q = p refl
  choose_longer false p q = q refl

  read_longer : {x y : Next X} → Longer rest n x y → Longer rest n (after_read x) (after_read y)
  unfolding after_read longer
  read_longer (longer_goes top size e) = rw e (longer_goes top size refl)
  read_longer longer_end = longer_end
  read_longer (longer_trap size e) = longer_trap size e
  read_longer (longer_stuck size e) = longer_stuck size e

  module _ (s : State X) (size : length s.cells ≡ n) where
    place_longer : (x : Found) (k k' : Place → Next X) → ((p : Place) → Longer rest n (k p) (k' p))
        → Longer rest n (on_place s x k) (on_place (longer rest s) x k')
    unfolding on_place
    place_longer (Ok p) k k' h = h p
    place_longer (Err (St.Trap t)) k k' h = longer_trap size refl
    place_longer (Err St.Stuck) k k' h = longer_stuck size refl

    value_longer : (x : Answer) (k k' : Value → Next X) → ((v : Value) → Longer rest n (k v) (k' v))
        → Longer rest n (on_value s x k) (on_value (longer rest s) x k')
    unfolding on_value
    value_longer (Ok v) k k' h = h v
    value_longer (Err (St.Trap t)) k k' h = longer_trap size refl
    value_longer (Err St.Stuck) k k' h = longer_stuck size refl

    number_longer : (x : Mark) (k k' : ℕ → Next X) → ((r : ℕ) → Longer rest n (k r) (k' r))
        → Longer rest n (on_mark s x k) (on_mark (longer rest s) x k')
    unfolding on_mark
    number_longer (Some r) k k' h = h r
    number_longer None k k' h = longer_stuck size refl

-- ---- the statements, from a state whose newest frame lies in the shorter store

module _ {X : Type 0} (m : Memory X) (g : Program) (rest : List X) (n : ℕ) (s : State X)
    (size : length s.cells ≡ n) (high : s.at.top ≤ n) where
  -- the cells below top are the same
  same_below : (a : ℕ) → a < s.at.top → cell_at m (s.cells ++ rest) a ≡ cell_at m s.cells a
  unfolding cell_at
  same_below a low = get_or-append s.cells rest (m.loose (pos 0)) a (omega arith)

  -- so an object, a value or a link is found in both
  pub on_find : (r : ℕ) (k k' : Place → Next X) → ((p : Place) → Longer rest n (k p) (k' p))
      → Longer rest n (on_place s (find_of m g s.at.base s.at.top s.cells r) k)
      (on_place (longer rest s) (find_of m g s.at.base s.at.top (s.cells ++ rest) r) k')
  on_find r k k' h =
      rw (find_below m g s.at.base s.at.top s.cells (s.cells ++ rest) same_below r)
      (place_longer rest n s size _ k k' h)

  pub on_eval : (r : ℕ) (k k' : Value → Next X) → ((v : Value) → Longer rest n (k v) (k' v))
      → Longer rest n (on_value s (eval_of m g s.at.base s.at.top s.cells r) k)
      (on_value (longer rest s) (eval_of m g s.at.base s.at.top (s.cells ++ rest) r) k')
  on_eval r k k' h =
      rw (eval_below m g s.at.base s.at.top s.cells (s.cells ++ rest) same_below r)
      (value_longer rest n s size _ k k' h)

  on_link : (a : ℕ) (k k' : ℕ → Next X) → ((r : ℕ) → a < s.at.top → Longer rest n (k r) (k' r))
      → Longer rest n (on_mark s (mark_at m s.at.top s.cells LINK a) k)
      (on_mark (longer rest s) (mark_at m s.at.top (s.cells ++ rest) LINK a) k')
  unfolding mark_at choose
  on_link a k k' h =
      rw (mark_below m g s.at.base s.at.top s.cells (s.cells ++ rest) same_below LINK a)
      (go (ltb a s.at.top) refl)
    where
      go : (b : Bool) → ltb a s.at.top ≡ b
          → Longer rest n (on_mark s (choose b (m.marked LINK (cell_at m s.cells a)) None) k)
          (on_mark (longer rest s) (choose b (m.marked LINK (cell_at m s.cells a)) None) k')
      go true low = number_longer rest n s size _ k k' (λ r. h r (ltb-true _ _ low))
      go false low = unfold on_mark in longer_stuck size refl

  written_longer : (a : ℕ) (new : List X) → Longer rest n (written s a new) (written (longer rest s) a new)
  unfolding written longer following go_to with_cells
  written_longer a new =
      choose_longer rest n _
      (λ e. let low = leb-true (a + length new) s.at.top e in
      longer_goes high (put_length s.cells new a (omega arith) ∙ size)
      (rw (overwrite_longer s.cells rest a new (omega arith))))
      (λ e. longer_stuck size refl)

  pub on_part_lem : (a c : ℕ) (k k' : List X → Next X)
      → ((new : List X) → length new ≤ c → Longer rest n (k new) (k' new))
      → Longer rest n (on_part s a c k) (on_part (longer rest s) a c k')
  unfolding on_part longer part_at
  on_part_lem a c k k' h =
      choose_longer rest n _
      (λ e. let low = leb-true (a + c) s.at.top e in
      rw (part_longer s.cells rest a c (omega arith)) (h (part_at s.cells a c) short))
      (λ e. longer_stuck size refl)
    where
      short : length (part_at s.cells a c) ≤ c
      short = omega (arith, length-take c (drop a s.cells))

  copied_longer : (target source : Place)
      → Longer rest n (copied m g s target source) (copied m g (longer rest s) target source)
  unfolding copied
  copied_longer target source =
      choose_longer rest n _ (λ e. longer_trap size refl)
      (λ e. on_part_lem _ _ _ _ (λ new short. written_longer target.address new))

  pub assigned_longer : (row : Row) → Longer rest n (assigned m g s row) (assigned m g (longer rest s) row)
  unfolding assigned longer
  assigned_longer row =
      on_find row.a _ _ (λ target. choose_longer rest n _
      (λ e. on_eval row.b _ _ (λ v. written_longer target.address (m.put v ∷ [])))
      (λ e. on_find row.b _ _ (λ source. copied_longer target source)))

  pub gone_longer : (row : ℕ) → Longer rest n (goes (go_to s row)) (goes (go_to (longer rest s) row))
  unfolding go_to longer
  gone_longer row = longer_goes high size refl

  pub jumped_longer : (row : Row) → Longer rest n (jumped m g row s) (jumped m g row (longer rest s))
  unfolding jumped longer following choose
  jumped_longer row = on_eval row.a _ _ (λ v.
      boolean_alike (Longer rest n) (longer_stuck size refl) v _ _ go)
    where
      go : (holds : Bool) → Longer rest n (goes (choose holds (go_to s (s.at.row + 1)) (go_to s row.b)))
          (goes (choose holds (go_to (longer rest s) (s.at.row + 1)) (go_to (longer rest s) row.b)))
      go true = gone_longer (s.at.row + 1)
      go false = gone_longer row.b

  -- the links lie below top, and so does the new one
  pub returned_longer : Longer rest n (returned m g s) (returned m g (longer rest s))
  unfolding returned longer
  returned_longer =
      choose_longer rest n _ (λ e. longer_end)
      (λ e. on_link _ _ _ (λ row low. on_link _ _ _ (λ base above. longer_goes (below low) size refl)))
    where
      below : s.at.base + 1 < s.at.top → s.at.base ≤ n
      below low = omega arith

  pub received_longer : (input : List ℤ) (row : Row)
      → Longer rest n (received m g input row s) (received m g input row (longer rest s))
  unfolding received longer
  received_longer input row =
      on_find row.a _ _ (λ target. choose_longer rest n _
      (λ e. read_longer rest n (written_longer target.address _)) (λ e. longer_trap size refl))

  pub sent_longer : (row : Row) → Longer rest n (sent m g row s) (sent m g row (longer rest s))
  unfolding sent longer
  sent_longer row =
      on_eval row.a _ _ (λ v. integer_alike (Longer rest n) (longer_stuck size refl) v _ _ (λ z.
      choose_longer rest n _ (λ e. longer_goes high size refl) (λ e. longer_trap size refl)))

  pub halted_longer : (row : Row) → Longer rest n (halted m g row s) (halted m g row (longer rest s))
  unfolding halted longer
  halted_longer row =
      on_eval row.a _ _ (λ v. integer_alike (Longer rest n) (longer_stuck size refl) v _ _ (λ z.
      longer_trap size refl))
