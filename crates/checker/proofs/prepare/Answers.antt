use Rattle.std.specs.Prelude.{Ok}
use Rattle.checker.specs.Check.{CheckAnswer, check_of, question_in, first_no}
use mathlib.Core.Path.{◌≡◌, refl, sym, ◌∙◌}
use Rattle.std.proofs.lemmas.Result.{err_from_is_err_and}
use mathlib.Core.List.{List}
use Prim.Native.Nat.{ℕ}
use native.Mathlib.Omega.{arith}
use Rattle.header.specs.declared.Tables.{Tables}
use Rattle.header.specs.Header.{version_of, header_of, part_of}
use Rattle.header.proofs.Fitting.{header_fits}
use Rattle.checker.specs.declared.Parts.{Parts}
use Rattle.checker.specs.Prepared.{PartsOf, CountsIn, Leaves, Prepared.untouched}
use Rattle.checker.proofs.Asking.{header_no, header_yes, counts_fit, prepared_no, prepared_yes}
use Rattle.checker.proofs.Bounds.{bounds_fit}
use Rattle.checker.proofs.prepare.Goals as goal

-- what the tables' check says and leaves
module _ (image : List ℕ) {ts : Tables} (yes : header_of image ≡ Ok ts) (x : Parts) (parts : PartsOf image ts x) where
  fit : CountsIn x
  fit = rw (parts.t, parts.f, parts.v, parts.p, parts.n, parts.s) (counts_fit image yes)

  told : (answer : CheckAnswer) → answer ≡ first_no (question_in (version_of image) x) 4 8 → answer ≡ check_of image
  told answer value = rw (parts.t, parts.f, parts.v, parts.p, parts.n, parts.s) at value ∙ sym (header_yes image yes)

  leaves : (plan left : List ℕ) (answer : CheckAnswer)
      → Leaves (version_of image) x.t.now x.f.now x.v.now x.p.now plan answer left
      → Leaves (version_of image) (part_of image ts.types) (part_of image ts.fields) (part_of image ts.variables)
      (part_of image ts.procedures) plan answer left
  leaves plan left answer rest = rw (parts.t, parts.f, parts.v, parts.p) at rest

pub bounds-image-0 : goal.bounds-image-0
bounds-image-0 c =
    let types = (header_fits _ _ (sym c.header.ensures ∙ c.in-Ok.is)).types in
    omega (arith, types.start, types.end, types.within)

pub check_tables-requires : goal.check_tables-requires
check_tables-requires c = (fit _ (sym c.header.ensures ∙ c.in-Ok.is) _ c.of.ensures, omega (arith, c.requires))

pub returns-in_err-check_tables-in-Ok-clause-value : goal.returns-in_err-check_tables-in-Ok-clause-value
unfolding version_of
returns-in_err-check_tables-in-Ok-clause-value c =
    let p = err_from_is_err_and c.from_residual.result c.from_residual.ensures.1 in
    rw (p.1, p.2)
    (told c.args.image.now (sym c.header.ensures ∙ c.in-Ok.is) _ c.of.ensures _
    c.in_err-check_tables-in-Ok.ensures.value)

pub returns-in_err-check_tables-in-Ok-clause-plan : goal.returns-in_err-check_tables-in-Ok-clause-plan
unfolding version_of
returns-in_err-check_tables-in-Ok-clause-plan c =
    let yes = sym c.header.ensures ∙ c.in-Ok.is in
    let p = err_from_is_err_and c.from_residual.result c.from_residual.ensures.1 in
    let left = leaves c.args.image.now yes _ c.of.ensures _ _ _ c.in_err-check_tables-in-Ok.ensures.plan in
    rw (p.1, p.2) (prepared_no _ yes _ _ _ refl left)

pub fill_bounds-requires : goal.fill_bounds-requires
fill_bounds-requires c = (
  bounds_fit _ _ (header_fits _ _ (sym c.header.ensures ∙ c.in-Ok.is)),
  omega (arith, c.requires, c.check_tables.auto.plan),
)

pub returns-in-Err : goal.returns-in-Err
returns-in-Err c =
    let no = sym c.header.ensures ∙ c.in-Err.is in
    record { value = sym (header_no _ no); plan = untouched no }

pub returns-in_ok-check_tables-in-Ok-clause-value : goal.returns-in_ok-check_tables-in-Ok-clause-value
unfolding version_of
returns-in_ok-check_tables-in-Ok-clause-value c =
    told c.args.image.now (sym c.header.ensures ∙ c.in-Ok.is) _ c.of.ensures _
    c.in_ok-check_tables-in-Ok.ensures.value

pub returns-in_ok-check_tables-in-Ok-clause-plan : goal.returns-in_ok-check_tables-in-Ok-clause-plan
unfolding version_of
returns-in_ok-check_tables-in-Ok-clause-plan c =
    let yes = sym c.header.ensures ∙ c.in-Ok.is in
    let left = leaves c.args.image.now yes _ c.of.ensures _ _ _ c.in_ok-check_tables-in-Ok.ensures.plan in
    prepared_yes _ yes _ _ _ _ refl left c.fill_bounds.ensures
