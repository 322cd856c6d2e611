-- Bodies part the statements of accepted procedures: each row lies in one body, that of `procedure_at`.
use mathlib.Core.Path.{◌≡◌, refl, sym, ◌∙◌}
use mathlib.Core.Bool.{Bool, true, false}
use mathlib.Core.List.{List}
use Prim.Native.Nat.{ℕ, zero, suc, ◌+◌, ◌≤◌, ◌<◌}
use native.Mathlib.Omega.{arith}
use native.Mathlib.Decide.{dec_lt}
use borrow.Author.Tests.{ltb-true, eqb-true, eqb-false, lt-ltb, le-ltb}
use Rattle.prelude.specs.Choice.{choose}
use Rattle.prelude.proofs.Choice.{choose_yes, choose_no, also_true, also_pass}
use Rattle.image.specs.Rows.{row_at, rows_of}
use Rattle.frames.specs.Procedures.{body_end}
use Rattle.frames.proofs.Accepted.{ProceduresKept}
use Rattle.statements.specs.Statements.{begins_at, next_procedure, procedure_at}

-- statement row r lies in the body of procedure q
pub record InBody (p s : List ℕ) (q r : ℕ) : Type 0 where
  pub procedure : q < rows_of p
  pub start : (row_at p q).a ≤ r
  pub end : r < body_end p (rows_of s) q

module _ (p : List ℕ) (statements q : ℕ) where
  pub end_next : q + 1 < rows_of p → body_end p statements q ≡ (row_at p (q + 1)).a
  unfolding body_end
  end_next h = choose_yes _ _ _ (lt-ltb (q + 1) (rows_of p) h)

  pub end_last : rows_of p ≤ q + 1 → body_end p statements q ≡ statements
  unfolding body_end
  end_last h = choose_no _ _ _ (le-ltb (q + 1) (rows_of p) h)

begins_true : (p : List ℕ) (q r : ℕ) → begins_at p q r ≡ true → (q + 1 < rows_of p) × ((row_at p (q + 1)).a ≡ r)
unfolding begins_at
begins_true p q r e = let (more, at) = also_true _ _ e in (ltb-true _ _ more, eqb-true _ _ at)

begins_false : (p : List ℕ) (q r : ℕ) → q + 1 < rows_of p → begins_at p q r ≡ false → (row_at p (q + 1)).a ≡ r → ⊥
unfolding begins_at
begins_false p q r h e = eqb-false _ _ (sym (also_pass _ (lt-ltb (q + 1) (rows_of p) h)) ∙ e)

module _ (v p s : List ℕ) (kept : ProceduresKept v p s) where
  -- a body ends within the table
  pub end_within : (q : ℕ) → q < rows_of p → body_end p (rows_of s) q ≤ rows_of s
  end_within q h = go (dec_lt (q + 1) (rows_of p))
    where
      go : Dec (q + 1 < rows_of p) → body_end p (rows_of s) q ≤ rows_of s
      go (yes l) = let a = (kept.row (q + 1) l).start in omega (arith, end_next p (rows_of s) q l)
      go (no l) = omega (arith, end_last p (rows_of s) q (omega arith))

  -- a body ends before a later one begins
  pub end_before : (i j : ℕ) → i < j → j < rows_of p → body_end p (rows_of s) i ≤ (row_at p j).a
  end_before i zero h l = absurd (omega arith)
  end_before i (suc j) h l = go (dec_lt i j) (λ k. end_before i j k (omega arith))
    where
      one : suc j ≡ j + 1
      one = omega arith

      here : body_end p (rows_of s) j ≡ (row_at p (suc j)).a
      here = rw one (end_next p (rows_of s) j (omega arith))

      go : Dec (i < j) → (i < j → body_end p (rows_of s) i ≤ (row_at p j).a) → body_end p (rows_of s) i ≤ (row_at p (suc j)).a
      go (yes k) rest = let a = rest k in let b = (kept.row j (omega arith)).body in omega (arith, here)
      go (no k) rest = let q : i ≡ j = omega arith in rw q (omega (arith, here))

  -- a body has its first row
  pub start_in : (q : ℕ) → q < rows_of p → InBody p s q (row_at p q).a
  start_in q h = record { procedure = h; start = omega arith; end = (kept.row q h).body }

  next_in : (q r : ℕ) → InBody p s q r → suc r < rows_of s → InBody p s (next_procedure p q (suc r)) (suc r)
  unfolding next_procedure choose
  next_in q r b h = go (begins_at p q (suc r)) refl
    where
      go : (x : Bool) → begins_at p q (suc r) ≡ x → InBody p s (choose x (q + 1) q) (suc r)
      go true e = let (more, at) = begins_true p q (suc r) e in rw at at (start_in (q + 1) more)
      go false e =
          let low = b.start in
          record { procedure = b.procedure; start = omega arith; end = end (dec_lt (q + 1) (rows_of p)) }
        where
          end : Dec (q + 1 < rows_of p) → suc r < body_end p (rows_of s) q
          end (yes l) =
              let inside = b.end in
              let other = begins_false p q (suc r) l e in
              omega (arith, end_next p (rows_of s) q l)
          end (no l) = omega (arith, end_last p (rows_of s) q (omega arith))

  -- each statement lies in the body of its procedure
  pub in_body : 1 ≤ rows_of p → (r : ℕ) → r < rows_of s → InBody p s (procedure_at p r) r
  unfolding procedure_at
  in_body some zero h = let (first, none) = (kept.row 0 some).main refl in rw first at (start_in 0 some)
  in_body some (suc r) h = next_in (procedure_at p r) r (in_body some r (omega arith)) h

  -- and in no other
  pub body_one : (q i r : ℕ) → InBody p s q r → InBody p s i r → q ≡ i
  body_one q i r b c = go (dec_lt q i) (dec_lt i q)
    where
      go : Dec (q < i) → Dec (i < q) → q ≡ i
      go (yes h) k =
          let e = end_before q i h c.procedure in
          let x = b.end in
          let y = c.start in
          absurd (omega arith)
      go (no h) (yes k) =
          let e = end_before i q k b.procedure in
          let x = c.end in
          let y = b.start in
          absurd (omega arith)
      go (no h) (no k) = omega arith

  pub body_only : (q r : ℕ) → InBody p s q r → q ≡ procedure_at p r
  body_only q r b =
      let i = b.procedure in
      let x = b.end in
      let e = end_within q i in
      body_one q (procedure_at p r) r b (in_body (omega arith) r (omega arith))

  -- the procedure of a body's first row
  pub procedure_start : (q : ℕ) → q < rows_of p → procedure_at p (row_at p q).a ≡ q
  procedure_start q h = sym (body_only q (row_at p q).a (start_in q h))
