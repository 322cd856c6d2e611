-- The type rules of the operators: which kinds they take, and the kind that they give.
use Rattle.std.specs.Prelude.{Option, Some, None, ℕ, ◌&&◌, leb, eqb}
use Rattle.prelude.specs.Choice.{choose}
use Rattle.values.specs.Values.{BOOLEAN, INTEGER, SET}

-- two INTEGERs: 1 to 5 INTEGER, 7 to 12 BOOLEAN, 16 SET
unfoldable pub integers_kind : ℕ → Option ℕ
integers_kind op =
    choose (leb 1 op && leb op 5) (Some INTEGER)
    (choose (leb 7 op && leb op 12) (Some BOOLEAN)
    (choose (eqb op 16) (Some SET) None))

-- two SETs: 1, 2, 3, 6 SET; 7, 8 BOOLEAN
unfoldable pub sets_kind : ℕ → Option ℕ
sets_kind op =
    choose (leb 1 op && leb op 3) (Some SET)
    (choose (eqb op 6) (Some SET)
    (choose (leb 7 op && leb op 8) (Some BOOLEAN) None))

-- two BOOLEANs: 7, 8, 13, 14 BOOLEAN
unfoldable pub booleans_kind : ℕ → Option ℕ
booleans_kind op =
    choose (leb 7 op && leb op 8) (Some BOOLEAN)
    (choose (leb 13 op && leb op 14) (Some BOOLEAN) None)

-- "Operators 1 to 5 take INTEGER; 1, 2, 3, 6 also SET (..). 7, 8 take two of one scalar type; 9 to 12 INTEGER;
-- 13, 14, ~ BOOLEAN. IN takes INTEGER, SET; range takes INTEGER twice and yields SET."
unfoldable pub dyadic_kind : ℕ → ℕ → ℕ → Option ℕ
dyadic_kind op left right =
    choose (eqb left BOOLEAN) (choose (eqb right BOOLEAN) (booleans_kind op) None)
    (choose (eqb left INTEGER)
    (choose (eqb right INTEGER) (integers_kind op)
    (choose (eqb right SET) (choose (eqb op 15) (Some BOOLEAN) None) None))
    (choose (eqb left SET) (choose (eqb right SET) (sets_kind op) None) None))

-- "13, 14, ~ BOOLEAN." "Monadic - takes INTEGER or SET (complement)."
unfoldable pub monadic_kind : ℕ → ℕ → Option ℕ
monadic_kind op operand =
    choose (eqb op 1) (choose (leb 1 operand && leb operand 2) (Some operand) None)
    (choose (eqb op 2) (choose (eqb operand BOOLEAN) (Some BOOLEAN) None) None)
