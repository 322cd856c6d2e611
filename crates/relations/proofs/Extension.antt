-- Laws of extension, and that an extension begins with what its base has.
use mathlib.Core.Path.{◌≡◌, refl, sym, ◌∙◌}
use mathlib.Core.Bool.{Bool, true, false}
use mathlib.Core.List.{List, [], append-nil}
use mathlib.Core.Logic.{⊎_elim}
use Prim.Native.Nat.{ℕ, zero, suc, ◌≤◌, ◌<◌}
use native.Mathlib.Omega.{arith}
use native.Mathlib.Decide.{dec_lt}
use borrow.Author.Tests.{eqb-true, eqb-false}
use lib.Dec.{eqb}
use Rattle.prelude.specs.Choice.{choose}
use Rattle.prelude.specs.Parts.{Part}
use Rattle.prelude.specs.Rec.{below}
use Rattle.prelude.proofs.Choice.{choose_cases, clash}
use Rattle.prelude.proofs.Parts.{part_part}
use Rattle.prelude.proofs.Rec.{below_low, below_high}
use Rattle.image.specs.Rows.{rows_of, no_row}
use Rattle.image.proofs.Bytes.{row_missing}
use Rattle.shapes.specs.Forms.{form, base_of, of_base}
use Rattle.shapes.specs.Sizes.{layout_of, fields_of}
use Rattle.relations.specs.Extends.{extends_to, extends}
use Rattle.shapes.proofs.Rows.{no_record, of_row, by_base}
use Rattle.shapes.proofs.Accepted.{TypesKept, Begins, base_first}
use Rattle.relations.proofs.Climbing.{extends_eq, extends_same, extends_none}

-- "T extends U if T is U or T's base extends U", as a proof goes through it
pub data Extends (t : List ℕ) : ℕ → ℕ → Type 0 where
  same : {r : ℕ} → Extends t r r
  up : {r b u : ℕ} → base_of (form t r) ≡ suc b → b < r → Extends t b u → Extends t r u

-- ---- the test and the relation are one

base_yes : (t : List ℕ) (u r a : ℕ) → base_of (form t r) ≡ a → of_base false (below false r (extends_to t u)) a ≡ true
    → ((b : ℕ) → b < r → extends_to t u b ≡ true → Extends t b u) → Extends t r u
base_yes t u r a base e ih =
    by_base (λ x. x ≡ true → Extends t r u) a (λ e. clash (sym e)) (λ b is. go b is (dec_lt b r)) e
  where
    go : (b : ℕ) → a ≡ suc b → Dec (b < r) → below false r (extends_to t u) b ≡ true → Extends t r u
    go b is (yes low) e = up (base ∙ is) low (ih b low (sym (below_low false r (extends_to t u) b low) ∙ e))
    go b is (no high) e = clash (sym e ∙ below_high false r (extends_to t u) b (omega arith))

yes_by : (t : List ℕ) (u n r : ℕ) → r < n → extends_to t u r ≡ true → Extends t r u
yes_by t u zero r h e = absurd (omega arith)
yes_by t u (suc n) r h e =
    ⊎_elim
    (λ k. let q : r ≡ u = eqb-true r u k.0 in rw q same)
    (λ k. base_yes t u r (base_of (form t r)) refl k.1 (λ b low. yes_by t u n b (omega arith)))
    (choose_cases (eqb r u) (sym (extends_eq t u r) ∙ e))

pub extends_yes : (t : List ℕ) (r u : ℕ) → extends t r u ≡ true → Extends t r u
extends_yes t r u e = yes_by t u (suc r) r (omega arith) e

pub yes_extends : {t : List ℕ} {r u : ℕ} → Extends t r u → extends t r u ≡ true
unfolding choose
yes_extends {t} {r} same = extends_same t r r refl
yes_extends {t} {r} {u} (up {b = b} base low e) =
    extends_eq t u r
    ∙ rw (of_row false (below false r (extends_to t u)) base)
    (either (eqb r u) (below_low false r (extends_to t u) b low ∙ yes_extends e))
  where
    either : (x : Bool) → below false r (extends_to t u) b ≡ true → choose x true (below false r (extends_to t u) b) ≡ true
    either true h = refl
    either false h = h

-- ---- reflexive and transitive

pub extends_refl : (t : List ℕ) (r : ℕ) → extends t r r ≡ true
extends_refl t r = extends_same t r r refl

pub trans : {t : List ℕ} {r u v : ℕ} → Extends t r u → Extends t u v → Extends t r v
trans same k = k
trans (up base low h) k = up base low (trans h k)

pub extends_trans : (t : List ℕ) (r u v : ℕ) → extends t r u ≡ true → extends t u v ≡ true → extends t r v ≡ true
extends_trans t r u v a b = yes_extends (trans (extends_yes t r u a) (extends_yes t u v b))

-- ---- rows that are not extended

-- an extension stands in no lower row
pub extended_low : {t : List ℕ} {r u : ℕ} → Extends t r u → u ≤ r
extended_low same = omega arith
extended_low (up base low e) = let rest = extended_low e in omega arith

pub extends_later : (t : List ℕ) (r u : ℕ) → r < u → extends t r u ≡ false
extends_later t r u h = go (extends t r u) refl
  where
    go : (b : Bool) → extends t r u ≡ b → b ≡ false
    go true e = let low = extended_low (extends_yes t r u e) in absurd (omega arith)
    go false e = refl

-- a row that is not there extends itself alone
pub extends_missing : (t : List ℕ) (r u : ℕ) → rows_of t ≤ r → extends t r u ≡ eqb r u
extends_missing t r u h = go (eqb r u) refl
  where
    go : (b : Bool) → eqb r u ≡ b → extends t r u ≡ b
    go true e = extends_same t u r (eqb-true r u e)
    go false e =
        let none = (no_record no_row (λ k. absurd (omega arith))).0 in
        extends_none t u r (eqb-false r u e) (sym (row_missing t r h)) (sym none) refl

-- ---- an extension begins with what it extends

part_whole : {X : Type 0} (l : List X) → Part l 0 l
part_whole l = record { rest = []; seen = sym (append-nil l); within = omega arith }

module _ (t f : List ℕ) (kept : TypesKept t f) where
  pub extends_within : {r u : ℕ} → Extends t r u → r < rows_of t → u < rows_of t
  extends_within same h = h
  extends_within (up base low e) h = extends_within e (omega arith)

  pub extension_begins : {r u : ℕ} → Extends t r u → r < rows_of t → Begins t f r u
  extension_begins {r} same h =
      record { layout = part_whole (layout_of t f r); fields = part_whole (fields_of t f r) }
  extension_begins {r} (up base low e) h =
      let first = base_first t f r (kept.row r h).shape base in
      let rest = extension_begins e (omega arith) in
      record {
        layout = part_part first.layout rest.layout;
        fields = part_part first.fields rest.fields;
      }
