-- Questions 1 to 3 of the check: the version, the length, and the six tables.
use Rattle.std.specs.Prelude.{Result, Option, Some, None, Ok, Err}
use Rattle.std.specs.Prelude.{ℕ, ◌+◌, ◌-◌, ◌*◌, List, [], Bool, true, false, ltb, leb, eqb, length, get_or, take, drop}
use Rattle.prelude.specs.Choice.{choose, ◌also◌}
use Rattle.image.specs.Rows.{number_at, word_at}
use Rattle.image.specs.Versions.{scalar_rows}
use Rattle.header.specs.declared.Table.{Table}
use Rattle.header.specs.declared.Tables.{Tables}

-- "Byte 0 is the version, 1."
unfoldable pub version_of : List ℕ → ℕ
version_of image = get_or image 0 0

-- "1. Is there a first byte, and is it 1?"
unfoldable pub question1 : List ℕ → Bool
question1 image = ltb 0 (length image) also eqb (version_of image) 1

-- "2. Are bytes 1 to 4 present, equal to the image's length?"
unfoldable pub question2 : List ℕ → Bool
question2 image = leb 5 (length image) also eqb (word_at image 1) (length image)

-- "each a 16-bit row count and its rows": the table whose count stands at byte `at`, of `low` to `high` rows, within the image
unfoldable pub table_from : List ℕ → ℕ → ℕ → ℕ → Option Table
table_from image at low high =
    choose (ltb (length image) (at + 2)) None
    (choose (ltb (number_at image at) low) None
    (choose (ltb high (number_at image at)) None
    (choose (ltb (length image) (at + 2 + number_at image at * 8)) None
    (Some (record { start = at + 2; end = at + 2 + number_at image at * 8 })))))

-- the next table begins where this one ends
unfoldable pub then_table : Option Table → (Table → Option Tables) → Option Tables
then_table None next = None
then_table (Some t) next = next t

-- "Then the six tables follow one another, ..: types (3 to 64), fields (0 to 256), variables (0 to 256), procedures (1 to
-- 64), nodes (0 to 2,048), statements (1 to 1,024)."
-- "3. Are the counts in range, and do the tables fill the image exactly?"
unfoldable pub tables_of : List ℕ → Option Tables
tables_of image =
    then_table (table_from image 5 (scalar_rows (version_of image)) 64) λ types.
    then_table (table_from image types.end 0 256) λ fields.
    then_table (table_from image fields.end 0 256) λ variables.
    then_table (table_from image variables.end 1 64) λ procedures.
    then_table (table_from image procedures.end 0 2048) λ nodes.
    then_table (table_from image nodes.end 1 1024) λ statements.
    choose (eqb statements.end (length image))
    (Some (record {
      types = types;
      fields = fields;
      variables = variables;
      procedures = procedures;
      nodes = nodes;
      statements = statements;
    }))
    None

-- a table without rows
abbrev none : Table
none = record { start = 0; end = 0 }

unfoldable pub are_six : Option Tables → Bool
are_six None = false
are_six (Some t) = true

unfoldable pub question3 : List ℕ → Bool
question3 image = are_six (tables_of image)

-- the six tables; where question 3 fails, none has a row
unfoldable pub six_of : Option Tables → Tables
six_of None = record {
  types = none;
  fields = none;
  variables = none;
  procedures = none;
  nodes = none;
  statements = none;
}
six_of (Some t) = t

unfoldable pub tables_in : List ℕ → Tables
tables_in image = six_of (tables_of image)

unfoldable pub third_answer : Option Tables → Result Tables ℕ
third_answer None = Err 3
third_answer (Some t) = Ok t

-- "The first 'no' decides": the number of the question, or the tables
unfoldable pub header_of : List ℕ → Result Tables ℕ
header_of image = choose (question1 image) (choose (question2 image) (third_answer (tables_of image)) (Err 2)) (Err 1)

-- a table's rows, as a part of the image that starts in its middle; no rows where the image has no such part
unfoldable pub part_of : List ℕ → Table → List ℕ
part_of image t =
    choose (leb t.start t.end also leb t.end (length image)) (take (t.end - t.start) (drop t.start image)) []
