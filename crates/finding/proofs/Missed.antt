-- Laws of let .. else: answers with an object, and those without an object or a value.
use mathlib.Core.Path.{◌≡◌, refl, ap}
use borrow.Author.Tests.{ne_eqb, eq-eqb}
use lib.IntN.{ℤ}
use Rattle.prelude.proofs.Choice.{choose_same, choose_yes, choose_no}
use Rattle.image.specs.Rows.{row_at}
use Rattle.values.specs.declared.Value.{Value}
use Rattle.values.specs.declared.Value.TheVariants as Vs
use Rattle.values.specs.Values.{as_integer, Answer}
use Rattle.values.specs.declared.Trap.{Trap}
use Rattle.values.specs.declared.Stop.{Stop}
use Rattle.values.specs.declared.Stop.TheVariants as St
use Rattle.values.proofs.Cases.{is_integer_lem}
use Rattle.semantics.specs.declared.Place.{Place}
use Rattle.semantics.specs.Layout.{Program}
use Rattle.semantics.specs.Finding.{reach, content, index, element_place, array_place, Found}
use Rattle.finding.specs.Missed.{lost}
use Rattle.std.specs.Prelude.{Result, Ok, Err}

-- an answer without a trap, where another type was sought
pub no_trap : {T U : Type 0} (x : Result T Stop) → ((t : Trap) → x ≡ Err (St.Trap t) → ⊥) → lost {U = U} x ≡ Err St.Stuck
unfolding lost
no_trap (Ok v) t = refl
no_trap (Err (St.Trap u)) t = absurd (t u refl)
no_trap (Err St.Stuck) t = refl

-- so where an object was sought
pub no_trap_place : (x : Answer) → ((t : Trap) → x ≡ Err (St.Trap t) → ⊥) → lost {U = Place} x ≡ Err St.Stuck
no_trap_place x = no_trap x

-- and where a value was sought
pub no_trap_value : (x : Found) → ((t : Trap) → x ≡ Err (St.Trap t) → ⊥) → lost {U = Value} x ≡ Err St.Stuck
no_trap_value x = no_trap x

-- what follows from an object: another one
pub reach_object : {x : Found} {place : Place} → x ≡ Ok place → (next : Place → Found) → reach x next ≡ next place
unfolding reach
reach_object e next = ap (λ (y : Found). reach y next) e

-- or a value
pub content_object : {x : Found} {place : Place} → x ≡ Ok place → (next : Place → Answer)
    → content x next ≡ next place
unfolding content
content_object e next = ap (λ (y : Found). content y next) e

-- from what is no object follows no other
pub reach_other : (x : Found) → ((p : Place) → x ≡ Ok p → ⊥) → (next : Place → Found) → reach x next ≡ x
unfolding reach
reach_other (Ok place) t next = absurd (t place refl)
reach_other (Err stop) t next = refl

-- and no value
pub content_other : (x : Found) → ((p : Place) → x ≡ Ok p → ⊥) → (next : Place → Answer)
    → content x next ≡ lost x
unfolding content lost
content_other (Ok place) t next = absurd (t place refl)
content_other (Err stop) t next = refl

-- an answer without a value is no index
pub index_other : (x : Answer) → ((v : Value) → x ≡ Ok v → ⊥) → (next : ℤ → Found)
    → index x next ≡ lost x
unfolding index lost
index_other (Ok v) t next = absurd (t v refl)
index_other (Err stop) t next = refl

-- so that the element's value is that answer
pub index_handed : (x : Answer) → ((v : Value) → x ≡ Ok v → ⊥) → (next : ℤ → Found) (value : Place → Answer)
    → content (index x next) value ≡ x
unfolding index content
index_handed (Ok v) t next value = absurd (t v refl)
index_handed (Err stop) t next value = refl

-- and neither is a value that is no INTEGER
pub index_none : {x : Answer} (v : Value) → x ≡ Ok v → ((z : ℤ) → v ≡ Vs.Int z → ⊥)
    → (next : ℤ → Found) → index x next ≡ Err St.Stuck
unfolding index as_integer
index_none (Vs.Bool b) e t next = rw e
index_none (Vs.Int z) e t next = absurd (t z refl)
index_none (Vs.Set s) e t next = rw e

-- an INTEGER is one
pub index_value : {x : Answer} {v : Value} {z : ℤ} → x ≡ Ok v → v ≡ Vs.Int z → (next : ℤ → Found)
    → index x next ≡ next z
unfolding index
index_value e f next = rw e (is_integer_lem _ next f)

-- an array without an index
pub array_stuck : (g : Program) (whole : Place) → array_place g whole (Err St.Stuck) ≡ Err St.Stuck
unfolding array_place index
array_stuck g whole = choose_same _ _

-- an object that is no array
pub array_none : (g : Program) (whole : Place) (answer : Answer) → ((row_at g.types whole.declared).kind ≡ 3 → ⊥)
    → array_place g whole answer ≡ Err St.Stuck
unfolding array_place
array_none g whole answer n = choose_no _ _ _ (ne_eqb _ 3 n)

-- and one that is
pub array_index : (g : Program) (whole : Place) (answer : Answer) → (row_at g.types whole.declared).kind ≡ 3
    → array_place g whole answer ≡ index answer (element_place g whole (row_at g.types whole.declared))
unfolding array_place
array_index g whole answer e = choose_yes _ _ _ (eq-eqb _ 3 e)
