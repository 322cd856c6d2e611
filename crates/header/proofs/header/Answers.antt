use Rattle.std.specs.Prelude.{Option, Some, None, Err, ok_or}
use Rattle.image.specs.Rows.{word_at}
use lib.ListN.{length}
use lib.Dec.{ltb}
use mathlib.Core.Bool.{true, false}
use mathlib.Core.List.{List}
use mathlib.Core.Path.{◌≡◌, ◌∙◌, refl, sym, ap}
use Prim.Native.Nat.{ℕ}
use native.Mathlib.Omega.{arith}
use borrow.Author.Tests.{lt-ltb, le-leb, lt-leb, eq-eqb, ne_eqb}
use Rattle.prelude.proofs.Choice.{choose_yes, choose_no, also_yes, also_left, also_right}
use Rattle.header.specs.declared.Tables.{Tables}
use Rattle.header.specs.Header.{version_of, question1, question2, tables_of, third_answer, header_of}
use borrow.Author.Rules.{rules}
use Rattle.header.proofs.header.Goals as goal
use Rattle.header.proofs.header.Goals.{Else-length-image, Else-version-ne1}

module _ (image : List ℕ) where
  first_no_lem : question1 image ≡ false → header_of image ≡ Err 1
  unfolding header_of
  first_no_lem h = choose_no _ _ _ h

  second_no : question1 image ≡ true → question2 image ≡ false → header_of image ≡ Err 2
  unfolding header_of
  second_no h k = choose_yes _ _ _ h ∙ choose_no _ _ _ k

  both_yes : question1 image ≡ true → question2 image ≡ true → header_of image ≡ third_answer (tables_of image)
  unfolding header_of
  both_yes h k = choose_yes _ _ _ h ∙ choose_yes _ _ _ k

first_yes : (c : Else-version-ne1) → question1 c.args.image.now ≡ true
unfolding question1 version_of
first_yes c = also_yes (lt-ltb 0 (length c.args.image.now) (omega arith)) (eq-eqb _ _ c.if-version-ne1.false)

second-yes : (c : Else-length-image) → question2 c.args.image.now ≡ true
unfolding question2
second-yes c =
    also_yes (le-leb 5 (length c.args.image.now) (omega arith))
    (eq-eqb _ _ (sym c.word_at-length.ensures ∙ c.if-length-image.false))

pub returns-then-image-eq0 : goal.returns-then-image-eq0
unfolding question1
returns-then-image-eq0 c = sym (first_no_lem _ (also_left _ (ap (λ (n : ℕ). ltb 0 n) c.if-image-eq0.true)))

pub returns-then-version-ne1 : goal.returns-then-version-ne1
unfolding question1 version_of
returns-then-version-ne1 c = sym (first_no_lem _ (also_right _ (ne_eqb _ _ c.if-version-ne1.true)))

pub returns-then-image-lt5 : goal.returns-then-image-lt5
unfolding question2
returns-then-image-lt5 c = sym (second_no _ (first_yes (goal.at.returns-then-image-lt5 c).Else-version-ne1) (also_left _ (lt-leb _ _ c.if-image-lt5.true)))

pub returns-then-length-image : goal.returns-then-length-image
unfolding question2
returns-then-length-image c = let i = c.args.image.now in
    let other = ne_eqb (word_at i 1) (length i) (λ e. c.if-length-image.true (c.word_at-length.ensures ∙ e)) in
    sym (second_no _ (first_yes (goal.at.returns-then-length-image c).Else-version-ne1) (also_right _ other))

pub tables_of-requires : goal.tables_of-requires
unfolding version_of
tables_of-requires c = search rules

third_is : (x : Option Tables) → third_answer x ≡ ok_or x 3
unfolding third_answer
third_is None = refl
third_is (Some t) = refl

pub returns : goal.returns
returns c = let at = goal.at.returns c in
    sym (both_yes _ (first_yes at.Else-version-ne1) (second-yes at.Else-length-image)
    ∙ ap third_answer (sym c.tables_of.ensures) ∙ third_is _ ∙ sym c.ok_or.ensures.value)
