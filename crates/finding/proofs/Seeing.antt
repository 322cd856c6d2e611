-- What a view finds, and what nodes are worth in it, by what it was made of.
use mathlib.Core.Path.{◌≡◌, ◌∙◌}
use mathlib.Core.List.{List}
use Prim.Native.Nat.{ℕ}
use lib.IntN.{ℤ}
use Rattle.semantics.specs.Memory.{bare}
use Rattle.semantics.specs.Finding.{find_of, eval_of, Found}
use Rattle.semantics.specs.Running.{program_of}
use Rattle.access.specs.declared.Loaded.{Loaded}
use Rattle.finding.specs.declared.View.{View}
use Rattle.values.specs.Values.{Answer}

module _ (v : View) {loaded : Loaded} {cells : List ℤ} {base top : ℕ}
    (made : (v.loaded ≡ loaded) × (v.store.now ≡ cells) × (v.base ≡ base) × (v.top ≡ top)) (r : ℕ) where
  pub seen : {x : Found} → x ≡ find_of bare (program_of v.loaded.image.now) v.base v.top v.store.now r
      → x ≡ find_of bare (program_of loaded.image.now) base top cells r
  seen e = e ∙ rw (made.0, made.1, made.2, made.3)

  pub valued : {x : Answer} → x ≡ eval_of bare (program_of v.loaded.image.now) v.base v.top v.store.now r
      → x ≡ eval_of bare (program_of loaded.image.now) base top cells r
  valued e = e ∙ rw (made.0, made.1, made.2, made.3)
