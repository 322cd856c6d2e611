-- Laws of one reference: the two cells of a VAR parameter.
use mathlib.Core.Path.{◌≡◌, refl, sym, ◌∙◌}
use mathlib.Core.Bool.{Bool, true, false}
use mathlib.Core.List.{List, [], ◌∷◌}
use Prim.Native.Nat.{ℕ, ◌+◌, ◌≤◌, ◌<◌}
use native.Mathlib.Omega.{arith}
use native.Mathlib.Decide.{dec_lt}
use borrow.Author.Tests.{lt-ltb, eq-eqb, ne_eqb, eqb-true}
use lib.Dec.{ltb, eqb}
use lib.IntN.{ℤ, pos, negsuc}
use lib.ListN.{length, get_or, drop, length-drop}
use lib.Seq.{get_or-drop}
use Rattle.prelude.specs.Choice.{choose, ◌also◌}
use Rattle.prelude.proofs.Choice.{choose_yes, also_left, also_right, also_pass}
use Rattle.image.specs.Rows.{rows_of}
use Rattle.relations.specs.Extends.{extends}
use Rattle.relations.proofs.Extension.{extends_missing}
use Rattle.semantics.specs.Memory.{ADDRESS, mark_of, bare, cell_at, mark_at, Mark}
use Rattle.semantics.specs.Layout.{Program}
use Rattle.checker.proofs.Accepted.{AcceptedTables}
use Rattle.asking.specs.Asking.{room_of, object_at}
use Rattle.asking.specs.State.{is_number, natural_of, reference_kept}
use Rattle.unwinding.specs.Going.{Oldest}
use Rattle.unwinding.proofs.Over.{oldest_tail}
use Rattle.referents.proofs.Frames.{Existing, object_past, object_oldest}
use Rattle.std.specs.Prelude.{Some, None}

-- ---- numbers as the code reads them

mark_there : (top : ℕ) (store : List ℤ) (a : ℕ) → a < top
    → mark_at bare top store ADDRESS a ≡ mark_of (get_or store a (pos 0))
unfolding mark_at bare cell_at
mark_there top store a h = choose_yes _ _ _ (lt-ltb a top h)

-- a number that is read
mark_number_lem : (z : ℤ) {n : ℕ} → mark_of z ≡ Some n → (is_number z (natural_of z) ≡ true) × (natural_of z ≡ n)
unfolding mark_of is_number natural_of choose
mark_number_lem (pos m) {n} e = go (ltb m 65536) e
  where
    go : (b : Bool) → choose b (Some m) None ≡ Some n → (eqb m m ≡ true) × (m ≡ n)
    go true h = (eq-eqb m m refl, cc)
    go false h = let z : ◌≡◌ {A = ℕ} 0 1 = cc in absurd (omega arith)
mark_number_lem (negsuc m) e = let z : ◌≡◌ {A = ℕ} 0 1 = cc in absurd (omega arith)

-- one that is not has more than 16 bits, or is negative
mark_nothing : (z : ℤ) → mark_of z ≡ None → 65536 ≤ natural_of z
unfolding mark_of natural_of choose
mark_nothing (pos m) e = go (dec_lt m 65536)
  where
    go : Dec (m < 65536) → 65536 ≤ m
    go (yes h) = let z : ◌≡◌ {A = ℕ} 0 1 = (let same = rw (lt-ltb m 65536 h) at e in cc) in absurd (omega arith)
    go (no h) = omega arith
mark_nothing (negsuc m) e = omega arith

-- ---- the two cells

module _ (g : Program) (older : List ℕ) (r : ℕ) where
  -- what is asked of the two numbers
  abbrev both : ℤ → ℤ → Bool
  both x y =
      is_number x (natural_of x)
      also is_number y (natural_of y)
      also extends g.types (natural_of y) r
      also object_at g (natural_of y) older (natural_of x)

  both_is : (l : List ℤ) → 2 ≤ length l → reference_kept g older r l ≡ both (get_or l 0 (pos 0)) (get_or l 1 (pos 0))
  unfolding reference_kept
  both_is [] h = absurd (omega arith)
  both_is (x ∷ []) h = absurd (omega arith)
  both_is (x ∷ y ∷ l) h = refl

  module _ (top : ℕ) (store : List ℤ) (a : ℕ) (room : a + 2 ≤ top) (cells : top ≤ length store) where
    abbrev x : ℤ
    x = get_or store a (pos 0)

    abbrev y : ℤ
    y = get_or store (a + 1) (pos 0)

    cells_are : reference_kept g older r (drop a store) ≡ both x y
    cells_are =
        let long : 2 ≤ length (drop a store) = omega (arith, length-drop a store) in
        let none : a + 0 ≡ a = omega arith in
        both_is (drop a store) long ∙ rw (get_or-drop a store 0 (pos 0), get_or-drop a store 1 (pos 0), none) refl

    -- a mark as the code reads it
    abbrev Read : Mark → ℕ → Type 0
    Read m at = (kind : ℕ) → m ≡ mark_at bare top store kind at

    number_read : {m : Mark} {at n : ℕ} → at < top → Read m at → m ≡ Some n
        → (is_number (get_or store at (pos 0)) (natural_of (get_or store at (pos 0))) ≡ true)
        × (natural_of (get_or store at (pos 0)) ≡ n)
    number_read {at = at} h read e = mark_number_lem _ (sym (mark_there top store at h) ∙ sym (read ADDRESS) ∙ e)

    nothing_read : {m : Mark} {at : ℕ} → at < top → Read m at → m ≡ None → 65536 ≤ natural_of (get_or store at (pos 0))
    nothing_read {at = at} h read e = mark_nothing _ (sym (mark_there top store at h) ∙ sym (read ADDRESS) ∙ e)

    -- the second cell holds no type that extends the parameter's
    other_type : extends g.types (natural_of y) r ≡ false → false ≡ reference_kept g older r (drop a store)
    other_type e =
        sym (cells_are ∙ also_right (is_number x (natural_of x)) (also_right (is_number y (natural_of y)) (also_left _ e)))

    pub no_type : {m : Mark} → Read m (a + 1) → m ≡ None → rows_of g.types ≤ 64 → r < rows_of g.types
        → false ≡ reference_kept g older r (drop a store)
    no_type read e few low =
        let high = nothing_read (omega arith) read e in
        other_type (extends_missing g.types (natural_of y) r (omega arith)
        ∙ ne_eqb (natural_of y) r (λ same. absurd (omega arith)))

    pub not_extended : {m : Mark} {w : ℕ} → Read m (a + 1) → m ≡ Some w → {e : Bool} → e ≡ extends g.types w r
        → e ≡ false → false ≡ reference_kept g older r (drop a store)
    not_extended read is asked fails =
        let (number, value) = number_read (omega arith) read is in
        other_type (rw value (sym asked ∙ fails))

    module _ (ok : AcceptedTables g.types g.fields g.variables g.procedures g.nodes g.statements)
        (existing : Existing g older) {base : ℕ} (start : base ≡ room_of g older) where
      -- the first cell holds an address behind the older frames
      past : base < natural_of x → false ≡ reference_kept g older r (drop a store)
      past h =
          let far = object_past g ok (natural_of y) existing (natural_of x) (omega (arith, start)) in
          sym (cells_are
          ∙ also_right (is_number x (natural_of x))
          (also_right (is_number y (natural_of y)) (also_right (extends g.types (natural_of y) r) far)))

      pub no_address : {m : Mark} → Read m a → m ≡ None → base < 65536
          → false ≡ reference_kept g older r (drop a store)
      no_address read e low = let high = nothing_read (omega arith) read e in past (omega arith)

      pub too_high : {m : Mark} {n : ℕ} → Read m a → m ≡ Some n → base < n
          → false ≡ reference_kept g older r (drop a store)
      too_high read is h = let (number, value) = number_read (omega arith) read is in past (omega (arith, value))

      -- both hold numbers, and an object is looked for among all frames
      pub refers : {m o : Mark} {n w : ℕ} → Read m a → m ≡ Some n → Read o (a + 1) → o ≡ Some w
          → {e : Bool} → e ≡ extends g.types w r → e ≡ true → n ≤ base
          → {p : ℕ} {qs : List ℕ} → Oldest (p ∷ older) qs → {b : Bool} → b ≡ object_at g w qs n
          → b ≡ reference_kept g older r (drop a store)
      refers {n = n} {w = w} read is read₂ is₂ asked holds h oldest found =
          let (number, value) = number_read (omega arith) read is in
          let (number₂, value₂) = number_read (omega arith) read₂ is₂ in
          found ∙ object_oldest g ok w (oldest_tail oldest) n (omega (arith, start))
          ∙ sym (cells_are ∙ also_pass _ number ∙ also_pass _ number₂
          ∙ rw (value, value₂) (also_pass _ (sym asked ∙ holds)))

-- a type that extends one that is there is there
pub extends_there : (t : List ℕ) (w r : ℕ) → {e : Bool} → e ≡ extends t w r → e ≡ true → r < rows_of t → w < rows_of t
extends_there t w r asked holds low = go (dec_lt w (rows_of t))
  where
    go : Dec (w < rows_of t) → w < rows_of t
    go (yes h) = h
    go (no h) =
        let same = eqb-true w r (sym (extends_missing t w r (omega arith)) ∙ sym asked ∙ holds) in
        absurd (omega arith)
