-- The numbers of a sound state pass the test.
use mathlib.Core.Path.{◌≡◌, refl, sym, ◌∙◌, ap}
use mathlib.Core.Bool.{true}
use mathlib.Core.List.{List, [], ◌∷◌, ◌++◌, map}
use Prim.Native.Nat.{ℕ, zero, suc, ◌+◌, ◌-◌, ◌<◌}
use native.Mathlib.Omega.{arith}
use borrow.Author.Tests.{le-leb, lt-ltb, eq-eqb, ne_eqb}
use lib.IntN.{ℤ, pos}
use lib.ListN.{length, get_or, take, drop, length-map}
use lib.Seq.{get_or-drop}
use Rattle.prelude.specs.Parts.{joined}
use Rattle.prelude.proofs.Choice.{choose_yes, choose_no, also_yes}
use Rattle.image.specs.Rows.{row_at, rows_of}
use Rattle.frames.specs.Procedures.{first_variable, claimed_by}
use Rattle.names.specs.Names.{rows_from}
use Rattle.places.specs.Places.{width_of, frame_size}
use Rattle.statements.specs.Statements.{procedure_at}
use Rattle.statements.proofs.Bodies.{end_within, body_only}
use Rattle.statements.proofs.Accepted.{call_is}
use Rattle.checker.proofs.Accepted.{AcceptedTables}
use Rattle.semantics.specs.Memory.{Cell, tagged}
use Rattle.semantics.specs.Layout.{Program}
use Rattle.semantics.specs.Stepping.{State}
use Rattle.semantics.specs.Sound.{Want, Want.any_value, Fits, Fits.fits_value, Fits.fits_exactly, Matched}
use Rattle.semantics.specs.Sound.{Matched.no_more, Matched.one_more, Frame, Stack, Stack.a_frame, Slot}
use Rattle.semantics.specs.Sound.{Slot.by_value, Slot.by_reference, Called, Called.is_first, Called.is_called, Inside}
use Rattle.semantics.specs.Sound.{values_of, frame_wants, wants, room, Sound}
use Rattle.semantics.proofs.Objects.{slot_width}
use Rattle.semantics.proofs.Agreeing.{numbers}
use Rattle.asking.specs.Asking.{room_of}
use Rattle.asking.specs.State.{is_number, natural_of, is_value, values_kept, chain, frames_of, inside_kept}
use Rattle.asking.specs.State.{reference_kept, slot_kept, slots_kept, call_kept, links_kept, frame_kept, stack_kept}
use Rattle.asking.specs.State.{ends_at, sound_of}
use Rattle.asking.proofs.Objects.{procedures_of, room_is, object_yes}

-- ---- numbers

-- the numbers of cells, as fields of a record
abbrev raw : List Cell → List ℤ
raw cells = map (λ (c : Cell). c.number) cells

pub number_same : (z : ℤ) (n : ℕ) → z ≡ pos n → is_number z n ≡ true
unfolding is_number
number_same z n e = rw e (eq-eqb n n refl)

natural_same : (z : ℤ) (n : ℕ) → z ≡ pos n → natural_of z ≡ n
unfolding natural_of
natural_same z n e = rw e

-- ---- cells that fit two lists of wants, one behind the other

-- the two parts of the cells; `rest` follows them
record Split (cells : List Cell) (rest : List ℤ) (v w : List Want) : Type 0 where
  left : List Cell
  right : List Cell
  whole : raw cells ++ rest ≡ raw left ++ (raw right ++ rest)
  behind : drop (length v) (raw cells ++ rest) ≡ raw right ++ rest
  before : Matched Fits left v
  after : Matched Fits right w

split_at : (v w : List Want) {cells : List Cell} (rest : List ℤ) → Matched Fits cells (v ++ w) → Split cells rest v w
split_at [] w {cells} rest h = record {
  left = [];
  right = cells;
  whole = refl;
  behind = refl;
  before = no_more;
  after = h;
}
split_at (x ∷ v) w rest (one_more {a = c} r h) =
    let s = split_at v w rest h in
    record {
      left = c ∷ s.left;
      right = s.right;
      whole = ap (λ (l : List ℤ). c.number ∷ l) s.whole;
      behind = s.behind;
      before = one_more r s.before;
      after = s.after;
    }

-- ---- values

kept_values : (ks : List ℕ) {cells : List Cell} (rest : List ℤ) → Matched Fits cells (map any_value ks)
    → values_kept ks (raw cells ++ rest) ≡ true
unfolding values_kept is_value
kept_values [] rest no_more = refl
kept_values (k ∷ ks) rest (one_more (fits_value kind e) h) = also_yes (rw e) (kept_values ks rest h)

module _ (g : Program)
    (ok : AcceptedTables g.types g.fields g.variables g.procedures g.nodes g.statements) where
  -- ---- variables

  kept_slot : {fs : List Frame} {k : ℕ} {ws : List Want} {cells : List Cell} (rest : List ℤ) → Stack g fs
      → Slot g fs k ws → Matched Fits cells ws → slot_kept g (procedures_of fs) k (raw cells ++ rest) ≡ true
  unfolding slot_kept reference_kept values_of
  kept_slot {k = k} rest st (by_value kind) h =
      choose_no _ _ _ (ne_eqb (row_at g.variables k).kind 3 (λ e. absurd (omega arith))) ∙ kept_values _ rest h
  kept_slot {fs} {k} rest st (by_reference {at = at} {r = r} kind o e)
      (one_more {a = c} (fits_exactly k₁ x) (one_more {a = d} (fits_exactly k₂ y) no_more)) =
      let a : natural_of c.number ≡ at = natural_same _ at x in
      let b : natural_of d.number ≡ r = natural_same _ r y in
      choose_yes _ _ _ (eq-eqb _ 3 kind)
      ∙ also_yes (number_same _ _ (rw a x))
      (also_yes (number_same _ _ (rw b y)) (also_yes (rw b e) (rw (a, b) (object_yes g ok r fs st o))))

  kept_slots : {fs : List Frame} {slots : List (List Want)} {cells : List Cell} (n k : ℕ) (rest : List ℤ) → Stack g fs
      → Matched (Slot g fs) (rows_from k n) slots → Matched Fits cells (joined slots)
      → slots_kept g (procedures_of fs) k n (raw cells ++ rest) ≡ true
  unfolding slots_kept rows_from joined
  kept_slots zero k rest st no_more h = refl
  kept_slots {fs} {cells = cells} (suc n) k rest st (one_more {b = ws} {r = more} s others) h =
      let p = split_at ws (joined more) rest h in
      let first = kept_slot (raw p.right ++ rest) st s p.before in
      let later = kept_slots {slots = more} {cells = p.right} n (k + 1) rest st others p.after in
      let width : width_of g.types g.fields g.variables k ≡ length ws = sym (slot_width g s) in
      also_yes (ap (λ l. slot_kept g (procedures_of fs) k l) p.whole ∙ first)
      (ap (λ l. slots_kept g (procedures_of fs) (k + 1) n l) (rw width p.behind) ∙ later)

  -- ---- frames

  kept_inside : (q r : ℕ) → Inside g q r → inside_kept g q r ≡ true
  unfolding inside_kept
  kept_inside q r h = also_yes (lt-ltb _ _ h.procedure) (also_yes (le-leb _ _ h.start) (lt-ltb _ _ h.end))

  kept_call : (q c r : ℕ) (y : ℤ) → (row_at g.statements r).kind ≡ 1 → (row_at g.statements r).a ≡ q
      → Inside g c r → Inside g c (r + 1) → natural_of y ≡ r + 1 → call_kept g q c (natural_of y) ≡ true
  unfolding call_kept
  kept_call q c r y kind this one two n =
      let less : natural_of y - 1 ≡ r = omega arith in
      also_yes (le-leb 1 (natural_of y) (omega arith))
      (also_yes (rw less (eq-eqb _ _ kind))
      (also_yes (rw less (eq-eqb _ _ this))
      (also_yes (rw less (kept_inside c r one)) (rw n (kept_inside c (r + 1) two)))))

  kept_links : (f : Frame) (fs : List Frame) → Stack g fs → Called g f fs → (x y z : ℤ) → x ≡ pos f.caller
      → y ≡ pos f.back → z ≡ pos f.callers_base → links_kept g f.procedure (procedures_of fs) x y z ≡ true
  unfolding links_kept
  kept_links f [] st (is_first p c b o) x y z ex ey ez =
      also_yes (eq-eqb _ _ p)
      (also_yes (number_same x 0 (ex ∙ ap pos c))
      (also_yes (number_same y 0 (ey ∙ ap pos b)) (number_same z 0 (ez ∙ ap pos o))))
  kept_links f (c ∷ fs) (a_frame st low called slots) (is_called r kind this one two caller back base) x y z ex ey ez =
      let n : natural_of y ≡ r + 1 = natural_same y _ ey ∙ back in
      also_yes (kept_call f.procedure c.procedure r y kind this one two n)
      (also_yes (number_same x _ (ex ∙ ap pos caller))
      (also_yes (number_same y _ (ey ∙ ap pos (back ∙ sym n)))
      (number_same z _ (ez ∙ ap pos (base ∙ room_is g ok st)))))

  kept_frame : {cells : List Cell} (f : Frame) (fs : List Frame) (rest : List ℤ) → Stack g (f ∷ fs)
      → Matched Fits cells (frame_wants g f) → frame_kept g f.procedure (procedures_of fs) (raw cells ++ rest) ≡ true
  unfolding frame_kept frame_wants
  kept_frame f fs rest (a_frame st low called slots)
      (one_more (fits_exactly a x) (one_more (fits_exactly b y) (one_more (fits_exactly c z) h))) =
      let first = first_variable g.variables g.procedures f.procedure in
      let n = claimed_by (row_at g.procedures f.procedure) in
      also_yes (lt-ltb _ _ low)
      (also_yes (kept_links f fs st called _ _ _ x y z) (kept_slots n first rest st slots h))

  -- the cells of the older frames, and those of the newest
  older : {cells : List Cell} (f : Frame) (fs : List Frame) (rest : List ℤ) → Matched Fits cells (wants g (f ∷ fs))
      → Split cells rest (wants g fs) (frame_wants g f)
  unfolding wants
  older f fs rest h = split_at (wants g fs) (frame_wants g f) rest h

  kept_stack : {cells : List Cell} (fs : List Frame) (rest : List ℤ) → Stack g fs → Matched Fits cells (wants g fs)
      → stack_kept g (procedures_of fs) (raw cells ++ rest) ≡ true
  unfolding stack_kept wants
  kept_stack [] rest st h = kept_values _ rest h
  kept_stack {cells} (f ∷ fs) rest (a_frame st low called slots) h =
      let p = older f fs rest h in
      let below = kept_stack {cells = p.left} fs (raw p.right ++ rest) st p.before in
      let this = kept_frame f fs rest (a_frame st low called slots) p.after in
      let end : room_of g (procedures_of fs) ≡ room g fs = sym (room_is g ok st) in
      also_yes (ap (λ l. stack_kept g (procedures_of fs) l) p.whole ∙ below)
      (ap (λ l. frame_kept g f.procedure (procedures_of fs) l) (rw end p.behind) ∙ this)

  -- ---- the links lead to the frames

  older_room : {f : Frame} {fs : List Frame} → Stack g (f ∷ fs) → room g fs ≡ room_of g (procedures_of fs)
  older_room (a_frame st low called slots) = room_is g ok st

  three : {right : List Cell} (f : Frame) (rest : List ℤ) → Matched Fits right (frame_wants g f)
      → (get_or (raw right ++ rest) 0 (pos 0) ≡ pos f.caller)
      × (get_or (raw right ++ rest) 2 (pos 0) ≡ pos f.callers_base)
  unfolding frame_wants
  three f rest (one_more (fits_exactly a x) (one_more (fits_exactly b y) (one_more (fits_exactly c z) h))) = (x, z)

  -- the first and third link of the newest frame, in the store
  links_at : {cells : List Cell} (f : Frame) (fs : List Frame) (rest : List ℤ)
      → Split cells rest (wants g fs) (frame_wants g f)
      → (get_or (raw cells ++ rest) (room g fs) (pos 0) ≡ pos f.caller)
      × (get_or (raw cells ++ rest) (room g fs + 2) (pos 0) ≡ pos f.callers_base)
  links_at {cells} f fs rest p =
      let store = raw cells ++ rest in
      let (x, z) = three f rest p.after in
      let start : room g fs + 0 ≡ room g fs = omega arith in (
        ap (λ i. get_or store i (pos 0)) (sym start) ∙ sym (get_or-drop (room g fs) store 0 (pos 0))
            ∙ ap (λ l. get_or l 0 (pos 0)) p.behind ∙ x,
        sym (get_or-drop (room g fs) store 2 (pos 0)) ∙ ap (λ l. get_or l 2 (pos 0)) p.behind ∙ z,
      )

  -- procedure 0 is not called
  called_other : (q c r : ℕ) → (row_at g.statements r).kind ≡ 1 → (row_at g.statements r).a ≡ q → Inside g c r
      → q ≡ 0 → ⊥
  called_other q c r kind this here none =
      let within = end_within g.variables g.procedures g.statements ok.procedures c here.procedure in
      let there : r < rows_of g.statements = let e = here.end in omega arith in
      let call = call_is g.nodes g.procedures g.statements ok.questions.statements r there kind in
      let least = call.other in
      absurd (omega arith)

  room_up : (q : ℕ) (qs : List ℕ) → room_of g qs < room_of g (q ∷ qs)
  unfolding room_of frame_size
  room_up q qs = omega arith

  chain_is : {cells : List Cell} (f : Frame) (fs : List Frame) (rest : List ℤ) (n : ℕ) → Stack g (f ∷ fs)
      → Matched Fits cells (wants g (f ∷ fs)) → room_of g (procedures_of fs) < n
      → chain g (raw cells ++ rest) n f.procedure (room_of g (procedures_of fs)) ≡ procedures_of (f ∷ fs)
  unfolding chain
  chain_is f fs rest zero st h low = absurd (omega arith)
  chain_is f [] rest (suc n) (a_frame st low (is_first none c b o) slots) h less =
      ap (λ l. f.procedure ∷ l) (choose_yes _ _ _ (eq-eqb _ 0 none))
  chain_is {cells = cells} f (c ∷ fs) rest (suc n) (a_frame st low (is_called r kind this one two caller back base) slots) h less =
      let p = older f (c ∷ fs) rest h in
      let (first, third) = links_at f (c ∷ fs) rest p in
      let end = room_is g ok st in
      let q = natural_same _ _ (rw end at first) ∙ caller in
      let b = natural_same _ _ (rw end at third) ∙ base ∙ older_room st in
      let up = room_up c.procedure (procedures_of fs) in
      let later = chain_is {cells = p.left} c fs (raw p.right ++ rest) n st p.before (omega arith) in
      ap (λ l. f.procedure ∷ l)
      (choose_no _ _ _ (ne_eqb _ 0 (called_other f.procedure c.procedure r kind this one))
      ∙ rw (q, b) (ap (λ l. chain g l n c.procedure (room_of g (procedures_of fs))) p.whole ∙ later))

  -- ---- the state

  raw_take : (n : ℕ) (cells : List Cell) → raw (take n cells) ++ raw (drop n cells) ≡ raw cells
  raw_take zero cells = refl
  raw_take (suc n) [] = refl
  raw_take (suc n) (c ∷ cells) = ap (λ (l : List ℤ). c.number ∷ l) (raw_take n cells)

  ends_there : (f : Frame) (fs : List Frame) (base top : ℕ) → Stack g (f ∷ fs) → base ≡ room g fs
      → top ≡ room g (f ∷ fs) → ends_at g (procedures_of (f ∷ fs)) base top ≡ true
  unfolding ends_at
  ends_there f fs base top st b t =
      also_yes (eq-eqb _ _ (b ∙ older_room st)) (eq-eqb _ _ (t ∙ room_is g ok st))

  module _ (u : State Cell) (sound : Sound g u) where
    newest_is : sound.newest.procedure ≡ procedure_at g.procedures u.at.row
    newest_is =
        let here = sound.inside in
        body_only g.variables g.procedures g.statements ok.procedures sound.newest.procedure
        u.at.row (record { procedure = here.procedure; start = here.start; end = here.end })

    abbrev above : List ℤ
    above = raw (drop u.at.top u.cells)

    frames_are : frames_of g u.at (raw u.cells) ≡ procedures_of (sound.newest ∷ sound.others)
    unfolding frames_of
    frames_are =
        let base = sound.begins ∙ older_room sound.stack in
        let whole = raw_take u.at.top u.cells in
        rw (← newest_is, base, ← whole)
        (chain_is sound.newest sound.others above (suc (room_of g (procedures_of sound.others))) sound.stack
        sound.holding (omega arith))

    -- the numbers of any sound state pass question 14
    pub sound_told : sound_of g u.at (numbers u.cells) ≡ true
    unfolding sound_of tagged
    sound_told =
        let size = length-map u.cells (λ (c : Cell). c.number) in
        let few = sound.lent in
        let long = sound.stored in
        let frames = frames_are in
        let this = kept_inside sound.newest.procedure u.at.row sound.inside in
        let kept = kept_stack (sound.newest ∷ sound.others) above sound.stack sound.holding in
        also_yes (le-leb (length (raw u.cells)) 65536 (rw size few))
        (also_yes (le-leb u.at.top (length (raw u.cells)) (rw size long))
        (also_yes (rw frames
        (ends_there sound.newest sound.others _ _ sound.stack sound.begins sound.ends))
        (also_yes (rw newest_is at this) (rw frames (rw (raw_take u.at.top u.cells) at kept)))))
