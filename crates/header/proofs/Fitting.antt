-- What an accepted header guarantees of the six tables.
use Rattle.std.specs.Prelude.{Result, Option, Some, None, Ok, Err}
use mathlib.Core.Path.{◌≡◌, refl, subst}
use mathlib.Core.List.{List, []}
use mathlib.Core.Bool.{Bool, true, false}
use mathlib.Core.Logic.{⊎_elim}
use Prim.Native.Nat.{ℕ, ◌+◌, ◌-◌, ◌*◌, ◌≤◌}
use native.Mathlib.Omega.{arith}
use borrow.Author.Tests.{ltb-false, eqb-true, le-leb}
use lib.Dec.{leb, eqb}
use lib.ListN.{length, take, drop, length-drop}
use lib.Seq.{length-take-le}
use Rattle.prelude.specs.Choice.{choose, ◌also◌}
use Rattle.prelude.proofs.Choice.{choose_cases, choose_yes, also_true, also_yes}
use Rattle.image.specs.Rows.{Bytes, number_at, word_at, rows_of}
use Rattle.image.specs.Versions.{scalar_rows}
use Rattle.image.proofs.Bytes.{slice_bytes}
use Rattle.header.specs.Header.{question1, question2, table_from, then_table, tables_of, third_answer, header_of}
use Rattle.header.specs.Header.{version_of, part_of, question3, are_six, six_of, tables_in}
use Rattle.header.specs.declared.Table.{Table}
use Rattle.header.specs.declared.Tables.{Tables}

-- ---- one table after the other

pub found_then : (x : Option Table) (next : Table → Option Tables) {t : Table} → x ≡ Some t → then_table x next ≡ next t
unfolding then_table
found_then x next e = rw e

pub unfit_then : (x : Option Table) (next : Table → Option Tables) → x ≡ None → then_table x next ≡ None
unfolding then_table
unfit_then x next e = rw e

not_found : {t : Table} {C : Type 0} → None ≡ Some t → C
not_found e = let z : ◌≡◌ {A = ℕ} 0 1 = cc in absurd (omega arith)

not_six : {t : Tables} {C : Type 0} → None ≡ Some t → C
not_six e = let z : ◌≡◌ {A = ℕ} 0 1 = cc in absurd (omega arith)

then_six : (x : Option Table) (next : Table → Option Tables) {ts : Tables} → then_table x next ≡ Some ts → (t : Table) × (x ≡ Some t) × (next t ≡ Some ts)
unfolding then_table
then_six None next e = not_six e
then_six (Some t) next e = (t, refl, e)

unless : (b : Bool) {x : (Option Table)} {t : Table} → choose b None x ≡ Some t → (b ≡ false) × (x ≡ Some t)
unless b e = ⊎_elim (λ h. not_found h.1) (λ h. h) (choose_cases b e)

-- ---- a table in the image

-- the table whose count stands at byte `from` has `low` to `high` rows, which stand in the image as a part of it
pub record Placed (image : List ℕ) (from low high : ℕ) (t : Table) : Type 0 where
  pub start : t.start ≡ from + 2
  pub end : t.end ≡ t.start + rows_of (part_of image t) * 8
  pub within : t.end ≤ length image
  pub part : part_of image t ≡ take (t.end - t.start) (drop t.start image)
  pub count : rows_of (part_of image t) ≡ number_at image from
  pub least : low ≤ rows_of (part_of image t)
  pub most : rows_of (part_of image t) ≤ high
  pub bytes : length (part_of image t) ≡ rows_of (part_of image t) * 8

part_is : (image : List ℕ) (t : Table) → t.start ≤ t.end → t.end ≤ length image → part_of image t ≡ take (t.end - t.start) (drop t.start image)
unfolding part_of
part_is image t a b = choose_yes _ _ _ (also_yes (le-leb _ _ a) (le-leb _ _ b))

part_length : (image : List ℕ) (start n : ℕ) → start + n ≤ length image → length (take n (drop start image)) ≡ n
part_length image start n h = length-take-le n (drop start image) (simp length-drop (omega arith))

rows_are : (l : List ℕ) (n : ℕ) → length l ≡ n * 8 → rows_of l ≡ n
unfolding rows_of
rows_are l n h = omega arith

placed : (image : List ℕ) (from low high : ℕ) {t : Table} → table_from image from low high ≡ Some t → Placed image from low high t
unfolding table_from
placed image from low high {t} e =
    let (a, e₁) = unless _ e in
    let (b, e₂) = unless _ e₁ in
    let (c, e₃) = unless _ e₂ in
    let (d, e₄) = unless _ e₃ in
    let start_is : t.start ≡ from + 2 = cc in
    let end_is : t.end ≡ from + 2 + number_at image from * 8 = cc in
    let within : from + 2 + number_at image from * 8 ≤ length image = ltb-false _ _ d in
    let low_is : low ≤ number_at image from = ltb-false _ _ b in
    let high_is : number_at image from ≤ high = ltb-false _ _ c in
    let whole = part_is image t (omega arith) (omega arith) in
    let size : t.end - t.start ≡ number_at image from * 8 = omega arith in
    let long : length (part_of image t) ≡ number_at image from * 8 =
    rw (whole, size) (part_length image t.start (number_at image from * 8) (omega arith)) in
    let count : rows_of (part_of image t) ≡ number_at image from = rows_are (part_of image t) (number_at image from) long in
    record {
      start = start_is;
      end = omega arith;
      within = omega arith;
      part = whole;
      count = count;
      least = omega arith;
      most = omega arith;
      bytes = omega arith;
    }

pub found_within : (image : List ℕ) (from low high : ℕ) {t : Table} → table_from image from low high ≡ Some t → t.end ≤ length image
found_within image from low high e = (placed image from low high e).within

-- ---- the six tables

-- "Then the six tables follow one another", and fill the image
pub record Fits (image : List ℕ) (ts : Tables) : Type 0 where
  pub version : version_of image ≡ 1
  pub size : word_at image 1 ≡ length image
  pub types : Placed image 5 (scalar_rows (version_of image)) 64 ts.types
  pub fields : Placed image ts.types.end 0 256 ts.fields
  pub variables : Placed image ts.fields.end 0 256 ts.variables
  pub procedures : Placed image ts.variables.end 1 64 ts.procedures
  pub nodes : Placed image ts.procedures.end 0 2048 ts.nodes
  pub statements : Placed image ts.nodes.end 1 1024 ts.statements
  pub filled : ts.statements.end ≡ length image

tables_fit : (image : List ℕ) (ts : Tables) → version_of image ≡ 1 → word_at image 1 ≡ length image
    → tables_of image ≡ Some ts → Fits image ts
unfolding tables_of
tables_fit image ts version size e =
    let (t, a, e₁) = then_six _ _ e in
    let (f, b, e₂) = then_six _ _ e₁ in
    let (v, c, e₃) = then_six _ _ e₂ in
    let (p, d, e₄) = then_six _ _ e₃ in
    let (n, g, e₅) = then_six _ _ e₄ in
    let (s, h, e₆) = then_six _ _ e₅ in
    ⊎_elim
    (λ k. six t f v p n s (placed image 5 _ 64 a) (placed image _ 0 256 b) (placed image _ 0 256 c)
    (placed image _ 1 64 d) (placed image _ 0 2048 g) (placed image _ 1 1024 h) (eqb-true _ _ k.0) k.1)
    (λ k. not_six k.1)
    (choose_cases (eqb s.end (length image)) e₆)
  where
    six : (t f v p n s : Table) → Placed image 5 (scalar_rows (version_of image)) 64 t → Placed image t.end 0 256 f
        → Placed image f.end 0 256 v → Placed image v.end 1 64 p → Placed image p.end 0 2048 n
        → Placed image n.end 1 1024 s → s.end ≡ length image
        → Some (record { types = t; fields = f; variables = v; procedures = p; nodes = n; statements = s }) ≡ Some ts → Fits image ts
    six t f v p n s a b c d g h end e =
        let same : record { types = t; fields = f; variables = v; procedures = p; nodes = n; statements = s } ≡ ts = cc in
        subst (Fits image) same
        (record {
          version = version;
          size = size;
          types = a;
          fields = b;
          variables = c;
          procedures = d;
          nodes = g;
          statements = h;
          filled = end;
        })

no_header : {q : ℕ} {ts : Tables} {C : Type 0} → Err q ≡ Ok ts → C
no_header e = let z : ◌≡◌ {A = ℕ} 0 1 = cc in absurd (omega arith)

third_six : (x : Option Tables) {ts : Tables} → third_answer x ≡ Ok ts → x ≡ Some ts
unfolding third_answer
third_six None e = no_header e
third_six (Some t) e = cc

-- an accepted header gives the six tables their places
pub header_fits : (image : List ℕ) (ts : Tables) → header_of image ≡ Ok ts → Fits image ts
unfolding header_of question1 question2
header_fits image ts e =
    ⊎_elim
    (λ a. ⊎_elim
    (λ b. tables_fit image ts
    (eqb-true (version_of image) 1 (also_true _ _ a.0).1)
    (eqb-true (word_at image 1) (length image) (also_true _ _ b.0).1)
    (third_six (tables_of image) b.1))
    (λ b. no_header b.1)
    (choose_cases (question2 image) a.1))
    (λ a. no_header a.1)
    (choose_cases (question1 image) e)

-- ---- bytes

-- a table of bytes is one of bytes
pub part_bytes : (image : List ℕ) → Bytes image → (t : Table) → Bytes (part_of image t)
unfolding part_of choose
part_bytes image h t = go (leb t.start t.end also leb t.end (length image))
  where
    go : (b : Bool) → Bytes (choose b (take (t.end - t.start) (drop t.start image)) [])
    go true = slice_bytes image h (t.end - t.start) t.start
    go false = record { each = λ i. omega arith }

-- ---- which answer the header gives, and why

pub data HeaderCase (image : List ℕ) : Result Tables ℕ → Type 0 where
  first_no_lem : question1 image ≡ false → HeaderCase image (Err 1)
  second_no : question1 image ≡ true → question2 image ≡ false → HeaderCase image (Err 2)
  third_no : question1 image ≡ true → question2 image ≡ true → question3 image ≡ false → HeaderCase image (Err 3)
  all_yes : {ts : Tables} → question1 image ≡ true → question2 image ≡ true → question3 image ≡ true → tables_in image ≡ ts
      → HeaderCase image (Ok ts)

third_case : (image : List ℕ) → question1 image ≡ true → question2 image ≡ true → (x : Option Tables) → tables_of image ≡ x
    → HeaderCase image (third_answer x)
unfolding third_answer question3 tables_in are_six six_of
third_case image p q None e = third_no p q (rw e)
third_case image p q (Some t) e = all_yes {ts = t} p q (rw e) (rw e)

pub header_case : (image : List ℕ) → HeaderCase image (header_of image)
unfolding header_of choose
header_case image = go (question1 image) (question2 image) refl refl
  where
    go : (a b : Bool) → question1 image ≡ a → question2 image ≡ b
        → HeaderCase image (choose a (choose b (third_answer (tables_of image)) (Err 2)) (Err 1))
    go false b p q = first_no_lem p
    go true false p q = second_no p q
    go true true p q = third_case image p q (tables_of image) refl
