-- The test `object_at` is true just where Sound has an object.
use Rattle.relations.specs.Fields.{field_at, field_of}
use Rattle.std.specs.Prelude.{Some}
use mathlib.Core.Path.{◌≡◌, refl, sym, ◌∙◌, ap}
use mathlib.Core.Bool.{Bool, true}
use mathlib.Core.List.{List, [], ◌∷◌, map}
use mathlib.Core.Logic.{◌⊎◌, inl, inr, ⊎_elim}
use Prim.Native.Nat.{ℕ, zero, suc, ◌+◌, ◌-◌, ◌*◌, ◌≤◌, ◌<◌}
use native.Mathlib.Omega.{arith}
use borrow.Author.Tests.{leb-true, le-leb, lt-ltb, le-ltb}
use lib.Dec.{leb, ltb}
use lib.ListN.{length, get_or, take, length-replicate}
use Rattle.prelude.specs.Choice.{◌also◌}
use Rattle.prelude.specs.Parts.{sum, Nth, Nth.here, Nth.there}
use Rattle.prelude.proofs.Choice.{choose_yes, choose_no, choose_cases, also_true, also_yes, clash}
use Rattle.prelude.proofs.Parts.{nth_nil, nth_replicate}
use Rattle.image.specs.Rows.{row_at, rows_of}
use Rattle.shapes.specs.Sizes.{size_of, fields_of, offset_of}
use Rattle.shapes.proofs.ByKind.{no_fields}
use Rattle.shapes.proofs.Layouts.{offset_is, decide}
use Rattle.frames.specs.Variables.{globals_of}
use Rattle.frames.specs.Procedures.{first_variable, claimed_by}
use Rattle.frames.proofs.Claiming.{globals_within}
use Rattle.places.specs.Places.{width_by, room_by, room_from, place_in}
use Rattle.places.proofs.Counting.{first_next}
use Rattle.checker.proofs.Accepted.{AcceptedTables}
use Rattle.semantics.specs.Layout.{Program}
use Rattle.semantics.specs.Sound.{Frame, Stack, Stack.no_frame, Stack.a_frame, Own, Object, Object.of_global}
use Rattle.semantics.specs.Sound.{Object.of_frame}
use Rattle.semantics.specs.Sound.{Object.of_older, Object.of_field, Object.of_element, room}
use Rattle.semantics.proofs.Objects.{room_first, global_kind, object_typed, object_part, room_next, room_globals}
use Rattle.semantics.proofs.Holding.{part_end}
use Rattle.relations.proofs.Fielding.{field_nth}
use Rattle.objects.specs.Begins.{parts_of, Begins, Begins.itself, Begins.in_part, begins_at}
use Rattle.objects.proofs.Following.{either, many_before, nth_many}
use Rattle.objects.proofs.Beginning.{array_parts, other_parts, begins_yes, yes_begins}
use Rattle.asking.specs.Asking.{among_variables, room_of, object_in, object_at}

-- the procedures of frames
abbrev pub procedures_of : List Frame → List ℕ
procedures_of fs = map (λ (f : Frame). f.procedure) fs

-- ---- variables that follow one another

module _ (deeper : ℕ → ℕ → Bool) (size : ℕ → ℕ) (v : List ℕ) where
  -- one of n variables from row k on, and how far into it
  record Begun (k n o : ℕ) : Type 0 where
    number : ℕ
    into : ℕ
    low : number < n
    plain : (row_at v (k + number)).kind ≤ 2
    place : room_by size v k number + into ≡ o
    holds : deeper (row_at v (k + number)).a into ≡ true

  pub room_none : (k : ℕ) → room_by size v k 0 ≡ 0
  unfolding room_by
  room_none k = refl

  some_later : (k n o : ℕ) → width_by size v k ≤ o → Begun (k + 1) n (o - width_by size v k) → Begun k (suc n) o
  some_later k n o low s =
      let row : k + 1 + s.number ≡ k + suc s.number = omega arith in
      record {
        number = suc s.number;
        into = s.into;
        low = let l = s.low in omega arith;
        plain = rw row at s.plain;
        place = omega (arith, room_first size v k s.number, s.place);
        holds = rw row at s.holds;
      }

  variables_some : (n k o : ℕ) → among_variables deeper size v k n o ≡ true → Begun k n o
  unfolding among_variables
  variables_some zero k o e = clash (sym e)
  variables_some (suc n) k o e =
      ⊎_elim
      (λ a.
      let (plain, holds) = also_true _ _ a.0 in
      let row : k + 0 ≡ k = omega arith in
      record {
        number = 0;
        into = o;
        low = omega arith;
        plain = rw row (leb-true _ _ plain);
        place = omega (arith, room_none k);
        holds = rw row holds;
      })
      (λ a. ⊎_elim
      (λ b. some_later k n o (leb-true _ _ b.0) (variables_some n (k + 1) (o - width_by size v k) b.1))
      (λ b. clash (sym b.1))
      (choose_cases (leb (width_by size v k) o) a.1))
      (choose_cases (leb (row_at v k).kind 2 also deeper (row_at v k).a o) e)

  some_variables : (n k j x : ℕ) → j < n → (row_at v (k + j)).kind ≤ 2 → deeper (row_at v (k + j)).a x ≡ true
      → among_variables deeper size v k n (room_by size v k j + x) ≡ true
  unfolding among_variables
  some_variables zero k j x h plain e = absurd (omega arith)
  some_variables (suc n) k zero x h plain e =
      let row : k + 0 ≡ k = omega arith in
      let all : room_by size v k 0 + x ≡ x = omega (arith, room_none k) in
      rw all (choose_yes _ _ _ (also_yes (le-leb _ 2 (rw row at plain)) (rw row at e)))
  some_variables (suc n) k (suc j) x h plain e =
      let row : k + suc j ≡ k + 1 + j = omega arith in
      let first = room_first size v k j in
      let back : room_by size v k (suc j) + x - width_by size v k ≡ room_by size v (k + 1) j + x = omega (arith, first) in
      either _ (choose_yes _ _ _ (le-leb (width_by size v k) (room_by size v k (suc j) + x) (omega (arith, first)))
      ∙ ap (λ o. among_variables deeper size v (k + 1) n o) back
      ∙ some_variables n (k + 1) j x (omega arith) (rw row at plain) (rw row at e))

-- ---- where frames end

pub room_is : (g : Program)
    (ok : AcceptedTables g.types g.fields g.variables g.procedures g.nodes g.statements)
    {fs : List Frame} → Stack g fs → room g fs ≡ room_of g (procedures_of fs)
unfolding room_of
room_is g ok no_frame = room_globals g ok
room_is g ok (a_frame st low called slots) = room_next g ok (a_frame st low called slots) ∙ rw (room_is g ok st)

-- ---- objects within objects

nth_held : {X : Type 0} (d : X) {l : List X} {n : ℕ} {x : X} → Nth l n x → (get_or l n d ≡ x) × (n < length l)
nth_held d here = (refl, omega arith)
nth_held d (there h) = let (e, l) = nth_held d h in (e, omega arith)

-- at an address where the newest frame does not begin below, only older ones can have it
pub object_older : (g : Program) (w q : ℕ) (qs : List ℕ) (at : ℕ) → at ≤ room_of g qs
    → object_at g w (q ∷ qs) at ≡ object_at g w qs at
unfolding object_at
object_older g w q qs at h = choose_no _ _ _ (le-ltb (room_of g qs) at h)

module _ (g : Program)
    (ok : AcceptedTables g.types g.fields g.variables g.procedures g.nodes g.statements) (w : ℕ) where
  abbrev size : ℕ → ℕ
  size = size_of g.types g.fields

  abbrev parts : ℕ → List ℕ
  parts = parts_of g.types g.fields

  abbrev Within : ℕ → ℕ → ℕ → Type 0
  Within = Begins g.types g.fields

  abbrev deeper : ℕ → ℕ → Bool
  deeper = begins_at g.types g.fields w

  -- where part n of type r begins
  abbrev before : ℕ → ℕ → ℕ
  before r n = sum (map size (take n (parts r)))

  field_there : (r : ℕ) {n u : ℕ} → Nth (fields_of g.types g.fields r) n u
      → field_of g.types g.fields r n ≡ Some (field_at (offset_of g.types g.fields r n) u)
  unfolding field_of
  field_there r h = let (e, l) = nth_held 0 h in choose_yes _ _ _ (lt-ltb _ _ l) ∙ rw e

  -- where an array's elements begin
  array_before : (r n : ℕ) → (row_at g.types r).kind ≡ 3 → n ≤ (row_at g.types r).b
      → before r n ≡ n * size (row_at g.types r).a
  array_before r n kind most =
      ap (λ l. sum (map size (take n l))) (array_parts g.types g.fields r kind)
      ∙ many_before size (row_at g.types r).a n (row_at g.types r).b most

  part_object : {fs : List Frame} {at r n u : ℕ} → Object g fs at r → Nth (parts r) n u
      → Object g fs (at + before r n) u
  part_object {fs} {at} {r} {n} {u} o h = go (decide (row_at g.types r).kind 3)
    where
      go : ((row_at g.types r).kind ≡ 3) ⊎ ((row_at g.types r).kind ≡ 3 → ⊥) → Object g fs (at + before r n) u
      go (inl kind) =
          let row = row_at g.types r in
          let many = rw (array_parts g.types g.fields r kind) at h in
          let type : u ≡ row.a = nth_many row.b row.a many in
          let (e, less) = nth_held 0 many in
          let low : n < row.b = omega (arith, length-replicate {A = ℕ} row.b row.a) in
          rw (array_before r n kind (omega arith), type) (of_element {i = n} o kind low)
      go (inr other) =
          let fields = other_parts g.types g.fields r other in
          let there = field_there r (rw fields at h) in
          rw (fields, ← offset_is g.types g.fields r n) (of_field n o there)

  -- what begins in an object is one
  begins_object : {fs : List Frame} {at r o : ℕ} → Object g fs at r → Within w r o → Object g fs (at + o) w
  begins_object {at = at} x itself = let q : at + 0 ≡ at = omega arith in rw q x
  begins_object {fs} {at = at} x (in_part {r = r} {u = u} {n = n} {o = o} h b) =
      let q : at + (before r n + o) ≡ at + before r n + o = omega arith in
      rw q (begins_object {at = at + before r n} (part_object x h) b)

  -- ---- whole variables, and what begins in them

  data Whole : List Frame → ℕ → ℕ → Type 0 where
    a_global : {fs : List Frame} (k : ℕ) → k < globals_of g.variables
        → Whole fs (room_from g.types g.fields g.variables 0 k) (row_at g.variables k).a
    an_own : {f : Frame} {fs : List Frame} {k : ℕ} → Own g f.procedure k → (row_at g.variables k).kind ≤ 2
        → Whole (f ∷ fs) (room g fs + place_in g.types g.fields g.variables g.procedures f.procedure k)
        (row_at g.variables k).a
    an_older : {f : Frame} {fs : List Frame} {at r : ℕ} → Whole fs at r → Whole (f ∷ fs) at r

  whole_object : {fs : List Frame} {at r : ℕ} → Whole fs at r → Object g fs at r
  whole_object (a_global k h) = of_global k h
  whole_object (an_own own kind) = of_frame own kind
  whole_object (an_older h) = of_older (whole_object h)

  -- an object is a variable, or begins in one
  record Lies (fs : List Frame) (at r : ℕ) : Type 0 where
    start : ℕ
    outer : ℕ
    into : ℕ
    whole : Whole fs start outer
    begun : Within r outer into
    is : start + into ≡ at

  begins_more : {u r v o x : ℕ} → Within u r o → Within v u x → Within v r (o + x)
  begins_more {x = x} itself y = let q : 0 + x ≡ x = omega arith in rw q y
  begins_more {x = x} (in_part {r = r} {n = n} {o = o} h b) y =
      let q : before r n + o + x ≡ before r n + (o + x) = omega arith in
      rw q (in_part h (begins_more b y))

  part_begins : (r n : ℕ) {u at : ℕ} → Nth (parts r) n u → before r n ≡ at → Within u r at
  part_begins r n h place =
      let q : before r n + 0 ≡ before r n = omega arith in
      rw (q, place) at (in_part {o = 0} h itself)

  field_begins : (r j : ℕ) {offset u : ℕ} → field_of g.types g.fields r j ≡ Some (field_at offset u)
      → r < rows_of g.types → Within u r offset
  field_begins r j {offset} {u} e low =
      let (place, nth) = field_nth g.types g.fields r j offset u e in
      go (decide (row_at g.types r).kind 3) place nth
    where
      go : ((row_at g.types r).kind ≡ 3) ⊎ ((row_at g.types r).kind ≡ 3 → ⊥)
          → offset ≡ offset_of g.types g.fields r j → Nth (fields_of g.types g.fields r) j u
          → Within u r offset
      go (inl kind) place nth =
          let none = no_fields g.types g.fields ok.types r low (λ k. absurd (omega arith)) in
          absurd (nth_nil (rw none at nth))
      go (inr other) place nth =
          let fields = other_parts g.types g.fields r other in
          part_begins r j (rw (← fields) at nth)
          (ap (λ l. sum (map size (take j l))) fields ∙ sym (place ∙ offset_is g.types g.fields r j))

  element_begins : (r i : ℕ) → (row_at g.types r).kind ≡ 3 → i < (row_at g.types r).b
      → Within (row_at g.types r).a r (i * size (row_at g.types r).a)
  element_begins r i kind low =
      let row = row_at g.types r in
      let there : Nth (parts r) i row.a =
      rw (array_parts g.types g.fields r kind) (nth_replicate row.b i row.a low) in
      part_begins r i there (array_before r i kind (omega arith))

  lies : {fs : List Frame} {at r : ℕ} → Object g fs at r → Lies fs at r
  lies (of_global k h) = record {
    start = _;
    outer = _;
    into = 0;
    whole = a_global k h;
    begun = itself;
    is = omega arith;
  }
  lies (of_frame own kind) = record {
    start = _;
    outer = _;
    into = 0;
    whole = an_own own kind;
    begun = itself;
    is = omega arith;
  }
  lies (of_older o) =
      let l = lies o in
      record {
        start = l.start;
        outer = l.outer;
        into = l.into;
        whole = an_older l.whole;
        begun = l.begun;
        is = l.is;
      }
  lies (of_field {at = at} {r = r} {offset = offset} j o e) =
      let l = lies o in
      record {
        start = l.start;
        outer = l.outer;
        into = l.into + offset;
        whole = l.whole;
        begun = begins_more l.begun (field_begins r j e (object_typed g ok o));
        is = omega (arith, l.is);
      }
  lies (of_element {r = r} {i = i} o kind low) =
      let l = lies o in
      record {
        start = l.start;
        outer = l.outer;
        into = l.into + i * size (row_at g.types r).a;
        whole = l.whole;
        begun = begins_more l.begun (element_begins r i kind low);
        is = omega (arith, l.is);
      }

  -- ---- where Sound has an object, the test says yes

  object_within : {fs : List Frame} {at r : ℕ} → Stack g fs → Object g fs at r → at ≤ room_of g (procedures_of fs)
  object_within st o = let e = part_end (object_part g ok st o) in omega (arith, room_is g ok st)

  variable_typed : (k : ℕ) → k < rows_of g.variables → (row_at g.variables k).a < rows_of g.types
  variable_typed k h = (ok.variable k h).typed

  own_yes : (q : ℕ) (qs : List ℕ) (j x : ℕ) → j < claimed_by (row_at g.procedures q)
      → (row_at g.variables (first_variable g.variables g.procedures q + j)).kind ≤ 2
      → deeper (row_at g.variables (first_variable g.variables g.procedures q + j)).a x ≡ true
      → object_at g w (q ∷ qs) (room_of g qs + (3 + room_from g.types g.fields g.variables
      (first_variable g.variables g.procedures q) j) + x) ≡ true
  unfolding object_at
  own_yes q qs j x low plain e =
      let first = first_variable g.variables g.procedures q in
      let n = claimed_by (row_at g.procedures q) in
      let place = room_from g.types g.fields g.variables first j in
      let at : ℕ = room_of g qs + (3 + place) + x in
      let back : at - (room_of g qs + 3) ≡ place + x = omega arith in
      choose_yes _ _ _ (lt-ltb (room_of g qs) at (omega arith))
      ∙ choose_yes _ _ _ (le-leb (room_of g qs + 3) at (omega arith))
      ∙ ap (λ o. object_in g w first n o) back
      ∙ some_variables deeper size g.variables n first j x low plain e

  globals_low : (k : ℕ) → k < globals_of g.variables → k < rows_of g.variables
  globals_low k h = omega (arith, globals_within g.variables)

  global_yes : (k o : ℕ) → k < globals_of g.variables → Within w (row_at g.variables k).a o
      → object_at g w [] (room_from g.types g.fields g.variables 0 k + o) ≡ true
  unfolding object_at
  global_yes k o h b =
      let typed = variable_typed k (globals_low k h) in
      let row : 0 + k ≡ k = omega arith in
      let plain = global_kind g.variables k h in
      some_variables deeper size g.variables (globals_of g.variables) 0 k o h (rw row (omega arith))
      (rw row (yes_begins g.types g.fields ok.types w typed b))

  whole_yes : (fs : List Frame) {at r : ℕ} (o : ℕ) → Stack g fs → Whole fs at r → Within w r o
      → object_at g w (procedures_of fs) (at + o) ≡ true
  unfolding place_in
  whole_yes [] o st (a_global k h) b = global_yes k o h b
  whole_yes (f ∷ fs) o (a_frame st low called slots) (a_global k h) b =
      let there = begins_object {fs = fs} (of_global k h) b in
      object_older g w f.procedure (procedures_of fs) _ (object_within st there) ∙ whole_yes fs o st (a_global k h) b
  whole_yes (f ∷ fs) o (a_frame st low called slots) (an_older h) b =
      let there = begins_object (whole_object h) b in
      object_older g w f.procedure (procedures_of fs) _ (object_within st there) ∙ whole_yes fs o st h b
  whole_yes (f ∷ fs) o (a_frame st low called slots) (an_own {k = k} own kind) b =
      let q : ℕ = f.procedure in
      let first : ℕ = first_variable g.variables g.procedures q in
      let one : q + 1 ≡ suc q = omega arith in
      let high = rw one at own.high in
      let start = own.low in
      let row : first + (k - first) ≡ k = omega arith in
      let next = first_next g.variables g.procedures q in
      let claimed : k - first < claimed_by (row_at g.procedures q) = omega (arith, high, next) in
      let typed = object_typed g ok (of_frame {f = f} {fs = fs} own kind) in
      let begun = yes_begins g.types g.fields ok.types w typed b in
      rw (room_is g ok st) (own_yes q (procedures_of fs) (k - first) o claimed (rw row kind) (rw row begun))

  pub object_yes : (fs : List Frame) {at : ℕ} → Stack g fs → Object g fs at w
      → object_at g w (procedures_of fs) at ≡ true
  object_yes fs st o = let l = lies o in rw l.is at (whole_yes fs l.into st l.whole l.begun)

  -- ---- and back

  own_object : {f : Frame} {fs : List Frame} (at : ℕ) → Stack g (f ∷ fs) → room_of g (procedures_of fs) + 3 ≤ at
      → object_in g w (first_variable g.variables g.procedures f.procedure)
      (claimed_by (row_at g.procedures f.procedure)) (at - (room_of g (procedures_of fs) + 3)) ≡ true
      → Object g (f ∷ fs) at w
  unfolding place_in
  own_object {f} {fs} at (a_frame st low called slots) least e =
      let q : ℕ = f.procedure in
      let first : ℕ = first_variable g.variables g.procedures q in
      let s = variables_some deeper size g.variables (claimed_by (row_at g.procedures q)) first _ e in
      let one : q + 1 ≡ suc q = omega arith in
      let own : Own g q (first + s.number) = record {
        low = omega arith;
        high = rw one (let l = s.low in omega (arith, first_next g.variables g.procedures q));
      } in
      let o = of_frame {f = f} {fs = fs} own s.plain in
      let into = begins_yes g.types g.fields ok.types w _ s.into (object_typed g ok o) s.holds in
      let back : first + s.number - first ≡ s.number = omega arith in
      let place : room g fs + (3 + room_from g.types g.fields g.variables first (first + s.number - first))
      + s.into ≡ at = rw back (omega (arith, s.place, room_is g ok st)) in
      rw place at (begins_object o into)

  pub yes_object : (fs : List Frame) (at : ℕ) → Stack g fs → object_at g w (procedures_of fs) at ≡ true
      → Object g fs at w
  unfolding object_at
  yes_object [] at st e =
      let s = variables_some deeper size g.variables (globals_of g.variables) 0 at e in
      let row : 0 + s.number ≡ s.number = omega arith in
      let typed = variable_typed s.number (globals_low s.number s.low) in
      let into = begins_yes g.types g.fields ok.types w _ s.into typed (rw row at s.holds) in
      rw s.place at (begins_object {fs = []} (of_global s.number s.low) into)
  yes_object (f ∷ fs) at (a_frame st low called slots) e =
      ⊎_elim
      (λ a. ⊎_elim
      (λ b. own_object at (a_frame st low called slots) (leb-true _ _ b.0) b.1)
      (λ b. clash (sym b.1))
      (choose_cases (leb (room_of g (procedures_of fs) + 3) at) a.1))
      (λ a. of_older (yes_object fs at st a.1))
      (choose_cases (ltb (room_of g (procedures_of fs)) at) e)
