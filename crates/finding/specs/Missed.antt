-- What becomes of an answer where another type was sought: "A trap in an operand ends the step with that trap."
use Rattle.std.specs.Prelude.{Result, Ok, Err}
use Rattle.values.specs.declared.Stop.{Stop}
use Rattle.values.specs.declared.Stop.TheVariants as St

unfoldable pub lost : {T U : Type 0} → Result T Stop → Result U Stop
lost (Ok x) = Err St.Stuck
lost (Err stop) = Err stop
