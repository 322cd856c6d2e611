-- The check: eleven questions, and the first "no" decides.
use Rattle.std.specs.Prelude.{Result, Ok, Err, ℕ, zero, suc, ◌+◌, ◌*◌, Bool, true, false, List, eqb}
use Rattle.checker.specs.declared.Refusal.{Refusal}
use Rattle.image.specs.Faults.{Verdict}
use Rattle.prelude.specs.Choice.{choose}
use Rattle.header.specs.Header.{version_of, question1, question2, question3, tables_in, part_of}
use Rattle.types.specs.Question.{question4}
use Rattle.frames.specs.Variables.{question5}
use Rattle.frames.specs.Procedures.{question6}
use Rattle.nodes.specs.Nodes.{question7}
use Rattle.statements.specs.Statements.{question8}
use Rattle.names.specs.Names.{question9}
use Rattle.typing.specs.Typing.{question10}
use Rattle.rules.specs.Rules.{question11}
use Rattle.checker.specs.declared.Parts.{Parts}

-- ---- the parts of an image that its tables are; no rows where questions 1 to 3 find none

abbrev pub types_in : List ℕ → List ℕ
types_in image = part_of image (tables_in image).types

abbrev pub fields_in : List ℕ → List ℕ
fields_in image = part_of image (tables_in image).fields

abbrev pub variables_in : List ℕ → List ℕ
variables_in image = part_of image (tables_in image).variables

abbrev pub procedures_in : List ℕ → List ℕ
procedures_in image = part_of image (tables_in image).procedures

abbrev pub nodes_in : List ℕ → List ℕ
nodes_in image = part_of image (tables_in image).nodes

abbrev pub statements_in : List ℕ → List ℕ
statements_in image = part_of image (tables_in image).statements

-- ---- the questions

-- "the row is the lowest at fault, 0 for 1 to 3"
unfoldable pub yes_or_no : Bool → Verdict
yes_or_no true = Ok tt
yes_or_no false = Err 0

-- questions 4 to 11 of the six tables of an image of a version
unfoldable pub table_question : ℕ → List ℕ → List ℕ → List ℕ → List ℕ → List ℕ → List ℕ → ℕ → Verdict
table_question version t f v p n s q =
    choose (eqb q 4) (question4 version t f)
    (choose (eqb q 5) (question5 t v)
    (choose (eqb q 6) (question6 v p s)
    (choose (eqb q 7) (question7 version t v n)
    (choose (eqb q 8) (question8 n p s)
    (choose (eqb q 9) (question9 n p s)
    (choose (eqb q 10) (question10 t f v n) (question11 t f v p n s)))))))

-- .. whose parts these are
abbrev pub question_in : ℕ → Parts → ℕ → Verdict
question_in version x = table_question version x.t.now x.f.now x.v.now x.p.now x.n.now x.s.now

-- "Questions of the check": what question q says of an image
unfoldable pub question_of : List ℕ → ℕ → Verdict
question_of image q =
    choose (eqb q 1) (yes_or_no (question1 image))
    (choose (eqb q 2) (yes_or_no (question2 image))
    (choose (eqb q 3) (yes_or_no (question3 image))
    (table_question (version_of image) (types_in image) (fields_in image) (variables_in image) (procedures_in image)
    (nodes_in image) (statements_in image) q)))

-- ---- the check

-- why an image is refused: the question, and the row
abbrev pub refused_at : ℕ → ℕ → Refusal
refused_at q row = record { question = q; row = row }

-- acceptance, or a refusal
abbrev pub CheckAnswer : Type 0
CheckAnswer = Result (Unit {0}) Refusal

-- this question's "no", or what the later ones say
unfoldable pub asked : ℕ → Verdict → CheckAnswer → CheckAnswer
asked q (Ok _) later = later
asked q (Err row) later = Err (refused_at q row)

-- "The first "no" decides": of n questions from q on
unfoldable pub first_no : (ℕ → Verdict) → ℕ → ℕ → CheckAnswer
first_no question q zero = Ok tt
first_no question q (suc n) = asked q (question q) (first_no question (q + 1) n)

-- questions 1 to 11
unfoldable pub check_of : List ℕ → CheckAnswer
check_of image = first_no (question_of image) 1 11

-- ---- its number

-- "Refusal 0, row 0 is acceptance"
unfoldable pub refusal_of : CheckAnswer → ℕ
refusal_of (Ok _) = 0
refusal_of (Err x) = x.question

unfoldable pub row_of : CheckAnswer → ℕ
row_of (Ok _) = 0
row_of (Err x) = x.row

-- "Firmware, written in C, calls the check with bytes and gets refusal × 65,536 + row."
unfoldable pub number_of : CheckAnswer → ℕ
number_of x = refusal_of x * 65536 + row_of x
