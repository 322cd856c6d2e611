-- What question 9 says of accepted nodes.
use Rattle.std.specs.Prelude.{Ok}
use mathlib.Core.Path.{◌≡◌}
use mathlib.Core.List.{List}
use Prim.Native.Nat.{ℕ, ◌<◌}
use borrow.Author.Tests.{eqb-true}
use Rattle.image.specs.Rows.{rows_of}
use Rattle.image.proofs.Faults.{verdict_kept}
use Rattle.names.specs.Names.{names_in, count_in, named_once, question9}

-- each node is named exactly once
pub record NamesKept (n p s : List ℕ) : Type 0 where
  pub once : (k : ℕ) → k < rows_of n → count_in k (names_in n p s) ≡ 1

pub names_kept : (n p s : List ℕ) → question9 n p s ≡ Ok tt → NamesKept n p s
unfolding question9 named_once
names_kept n p s e = record {
  once = λ k h. eqb-true (count_in k (names_in n p s)) 1 (verdict_kept (named_once (names_in n p s)) (rows_of n) e k h);
}
