-- Bodies of an accepted image, as the code asks for them.
use mathlib.Core.Path.{◌≡◌, sym, ◌∙◌}
use mathlib.Core.Bool.{true, false}
use mathlib.Core.List.{List}
use Prim.Native.Nat.{ℕ, ◌≤◌, ◌<◌}
use native.Mathlib.Omega.{arith}
use borrow.Author.Tests.{ltb-true, leb-true, eqb-true, lt-ltb, le-leb, eq-eqb}
use lib.Dec.{eqb}
use Rattle.prelude.proofs.Choice.{also_true, also_yes, not_yes, same_truth}
use Rattle.image.specs.Rows.{rows_of}
use Rattle.statements.specs.Statements.{procedure_at}
use Rattle.statements.proofs.Bodies.{InBody, end_within, body_only}
use Rattle.checker.proofs.Accepted.{AcceptedTables}
use Rattle.semantics.specs.Layout.{Program}
use Rattle.semantics.specs.Running.{program_of}
use Rattle.semantics.proofs.Demand3.{program_accepted}
use Rattle.asking.specs.State.{inside_kept, call_kept}
use Rattle.access.specs.Ready.{Planned}
use Rattle.access.proofs.Bounds.{procedures_few, statements_few}

module _ {image plan : List ℕ} (p : Planned image plan) where
  abbrev g : Program
  g = program_of image

  ok : AcceptedTables g.types g.fields g.variables g.procedures g.nodes g.statements
  ok = program_accepted image p.checked.accepted

  inside_body : (q r : ℕ) → inside_kept g q r ≡ true → InBody g.procedures g.statements q r
  unfolding inside_kept
  inside_body q r e =
      let (a, e₁) = also_true _ _ e in
      let (b, c) = also_true _ _ e₁ in
      record { procedure = ltb-true _ _ a; start = leb-true _ _ b; end = ltb-true _ _ c }

  pub body_inside : (q r : ℕ) → InBody g.procedures g.statements q r → inside_kept g q r ≡ true
  unfolding inside_kept
  body_inside q r b =
      also_yes (lt-ltb _ _ b.procedure) (also_yes (le-leb _ _ b.start) (lt-ltb _ _ b.end))

  -- a row in a body and its procedure are there
  pub inside_there : (q r : ℕ) → inside_kept g q r ≡ true → (q < rows_of g.procedures) × (r < rows_of g.statements)
  inside_there q r e =
      let b = inside_body q r e in
      let end = end_within g.variables g.procedures g.statements ok.procedures q b.procedure in
      (b.procedure, omega (arith, b.end))

  -- and so they are of few bits
  pub call_low : (q c back : ℕ) → call_kept g q c back ≡ true → (c < 65535) × (back < 65535)
  unfolding call_kept
  call_low q c back e =
      let (some, e₁) = also_true _ _ e in
      let (kind, e₂) = also_true _ _ e₁ in
      let (this, e₃) = also_true _ _ e₂ in
      let (one, two) = also_true _ _ e₃ in
      let (x, y) = inside_there c back two in
      (omega (arith, procedures_few p), omega (arith, statements_few p))

  -- no body has a row that is not there
  pub inside_missing : (q r : ℕ) → rows_of g.statements ≤ r → inside_kept g q r ≡ false
  inside_missing q r high = not_yes _ (λ kept. absurd (omega (arith, (inside_there q r kept).1)))

  -- each other row lies in that of its own procedure alone
  pub inside_owner : (q r x : ℕ) → r < rows_of g.statements → x ≡ procedure_at g.procedures r
      → eqb x q ≡ inside_kept g q r
  inside_owner q r x low e = same_truth _ _
      (λ is. let one : procedure_at g.procedures r ≡ q = sym e ∙ eqb-true x q is in
      body_inside q r (rw one at (ok.body r low)))
      (λ kept. eq-eqb x q (e ∙ sym
      (body_only g.variables g.procedures g.statements ok.procedures q r (inside_body q r kept))))
