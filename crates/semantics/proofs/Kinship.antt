-- Laws of extension, of guards, and of the globals that come first.
use Rattle.relations.specs.Fields.{field_at, field_of}
use Rattle.std.specs.Prelude.{Some, Ok, Err}
use mathlib.Core.Path.{◌≡◌, refl}
use mathlib.Core.Bool.{Bool, true, false}
use mathlib.Core.List.{List}
use Prim.Native.Nat.{ℕ, zero, suc, ◌+◌, ◌≤◌, ◌<◌}
use native.Mathlib.Omega.{arith}
use native.Mathlib.Decide.{dec_lt}
use Rattle.prelude.specs.Choice.{choose}
use Rattle.prelude.proofs.Choice.{choose_yes, choose_no}
use Rattle.image.specs.Rows.{row_at, rows_of}
use Rattle.image.specs.Faults.{KeptIn}
use Rattle.image.proofs.Faults.{kept_next}
use Rattle.shapes.specs.Forms.{is_single}
use Rattle.shapes.proofs.Singles.{single_base, single_low}
use Rattle.shapes.proofs.Accepted.{TypesKept}
use Rattle.shapes.proofs.ByKind.{base_record}
use Rattle.relations.specs.Extends.{extends}
use Rattle.relations.proofs.Extension.{Extends, Extends.same, Extends.up, extends_yes, extended_low, extension_begins}
use Rattle.relations.proofs.Fielding.{field_more}
use Rattle.frames.specs.Variables.{is_global, globals_from, globals_of}
use Rattle.frames.proofs.Accepted.{VariableRow}
use Rattle.values.specs.declared.Trap.TheVariants as Ts
use Rattle.values.specs.declared.Stop.TheVariants as St
use Rattle.semantics.specs.declared.Place.{Place}
use Rattle.semantics.specs.Layout.{Program}
use Rattle.semantics.specs.Finding.{guard_place, Found}

-- ---- extension

-- a single cell's type extends itself alone
pub single_extends : (t : List ℕ) (r u : ℕ) → is_single t r ≡ true → extends t r u ≡ true → r ≡ u
single_extends t r u single e = go (extends_yes t r u e)
  where
    go : {u : ℕ} → Extends t r u → r ≡ u
    go same = refl
    go (up base low e) = absurd (omega (arith, single_base t r single))

-- an extension stands in no lower row
pub extends_low : (t : List ℕ) (r u : ℕ) → extends t r u ≡ true → u ≤ r
extends_low t r u e = extended_low (extends_yes t r u e)

module _ (t f : List ℕ) (kept : TypesKept t f) where
  extended_other : {r u : ℕ} → Extends t r u → r < rows_of t → ((row_at t u).kind ≡ 4 → ⊥) → r ≡ u
  extended_other same h other = refl
  extended_other {r} {u} (up {b = b} base low e) h other =
      let there : b ≡ u = extended_other e (omega arith) other in
      absurd (other (rw there at (base_record t f kept r h base).1))

  -- an extension of a type that is no record is the type itself
  pub extends_other : (r u : ℕ) → extends t r u ≡ true → r < rows_of t → ((row_at t u).kind ≡ 4 → ⊥) → r ≡ u
  extends_other r u e h other = extended_other (extends_yes t r u e) h other

  -- nor has a single cell's type any extension but itself
  pub extends_single : (r u : ℕ) → is_single t u ≡ true → extends t r u ≡ true → r < rows_of t → r ≡ u
  extends_single r u single e within =
      extends_other r u e within (λ kind. let low = single_low t u single in absurd (omega arith))

  -- a record's fields are an extension's too, at the same places
  pub extension_field : (r u n : ℕ) {offset x : ℕ} → extends t r u ≡ true → r < rows_of t
      → field_of t f u n ≡ Some (field_at offset x)
      → field_of t f r n ≡ Some (field_at offset x)
  extension_field r u n e h found =
      field_more t f r u n (extension_begins t f kept (extends_yes t r u e) h).fields found

-- ---- guards

-- an object passes a guard to type b just where its dynamic type extends b
module _ (g : Program) (b : ℕ) (place : Place) where
  abbrev guarded : Found
  guarded = Ok (record { address = place.address; declared = b; dynamic = place.dynamic })

  pub guard_passes : extends g.types place.dynamic b ≡ true → guard_place g b place ≡ guarded
  unfolding guard_place
  guard_passes e = choose_yes (extends g.types place.dynamic b) guarded (Err (St.Trap Ts.Guard)) e

  pub guard_traps : extends g.types place.dynamic b ≡ false → guard_place g b place ≡ Err (St.Trap Ts.Guard)
  unfolding guard_place
  guard_traps e = choose_no (extends g.types place.dynamic b) guarded (Err (St.Trap Ts.Guard)) e

-- ---- globals

-- as many as stand first
first_some : (v : List ℕ) (n k : ℕ) → k ≤ globals_from v k n
unfolding globals_from choose
first_some v zero k = omega arith
first_some v (suc n) k = go (is_global v k) (first_some v n (k + 1))
  where
    go : (b : Bool) → k + 1 ≤ globals_from v (k + 1) n → k ≤ choose b (globals_from v (k + 1) n) k
    go true h = omega arith
    go false h = omega arith

first_all : (v : List ℕ) (n k a : ℕ) → k ≤ a → a < k + n → KeptIn (is_global v) k (a + 1) → a < globals_from v k n
unfolding globals_from
first_all v zero k a low high all = absurd (omega arith)
first_all v (suc n) k a low high all =
    rw (choose_yes _ (globals_from v (k + 1) n) k (all.each k (omega arith) (omega arith)))
    (go (dec_lt k a) (λ l. first_all v n (k + 1) a (omega arith) (omega arith)
    (record { each = λ j x y. all.each j (omega arith) y })))
  where
    go : Dec (k < a) → (k < a → a < globals_from v (k + 1) n) → a < globals_from v (k + 1) n
    go (yes l) rest = rest l
    go (no l) rest = let some = first_some v n (k + 1) in omega arith

-- a global of accepted variables stands among the globals
pub global_low : (t v : List ℕ) (a : ℕ) → VariableRow t v a → a < rows_of v → is_global v a ≡ true
    → (row_at v a).kind ≡ 0 → a < globals_of v
unfolding globals_of
global_low t v a row low here kind =
    let zero_add : 0 + a ≡ a = omega arith in
    let before = rw zero_add at (row.global kind) in
    first_all v (rows_of v) 0 a (omega arith) (omega arith) (kept_next (is_global v) 0 a before here)
