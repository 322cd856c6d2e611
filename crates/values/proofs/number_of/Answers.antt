-- `values::number_of` meets its contract: by the kind of the value.
use native.Mathlib.Omega.{arith}
use borrow.Author.Rules.{rules}
use Rattle.values.specs.Values.{number_of}
use Rattle.values.proofs.Numbers.{wide, of_nat64, bit_number}
use Rattle.values.proofs.number_of.Goals as goal

pub returns-in-Bool : goal.returns-in-Bool
unfolding number_of
returns-in-Bool c = rw c.in-Bool.is (bit_number c.in-Bool.b)

pub returns-in-Int : goal.returns-in-Int
unfolding number_of
returns-in-Int c = rw c.in-Int.is (wide c.in-Int.z (search rules))

pub returns-in-Set : goal.returns-in-Set
unfolding number_of
returns-in-Set c = rw c.in-Set.is (of_nat64 c.in-Set.s (omega arith))
