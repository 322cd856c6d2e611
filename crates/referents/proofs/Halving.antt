-- Laws of the search by halving.
use mathlib.Core.Path.{◌≡◌}
use Prim.Native.Nat.{ℕ, ◌+◌, ◌-◌, ◌≤◌, ◌<◌}
use native.Mathlib.Omega.{arith}
use Rattle.semantics.specs.Layout.{Program, place_of}
use Rattle.referents.specs.Reaching.{Reached}

-- of n variables from row k on, the one that is looked for stands from row `low` on, below row `high`
pub record Halved (g : Program) (k n at low high : ℕ) : Type 0 where
  pub least : k ≤ low
  pub ordered : low ≤ high
  pub most : high ≤ k + n
  pub some : 0 < n → low < high
  pub before : k < low → place_of g low < at
  pub after : high < k + n → at ≤ place_of g high

module _ (g : Program) (k n at : ℕ) where
  pub halved_none : Halved g k n at k (k + n)
  halved_none = record {
    least = omega arith;
    ordered = omega arith;
    most = omega arith;
    some = λ h. omega arith;
    before = λ h. absurd (omega arith);
    after = λ h. absurd (omega arith);
  }

  module _ {low high : ℕ} (h : Halved g k n at low high) where
    module _ {middle place : ℕ} (above : low < middle) (below : middle < high) (is : place ≡ place_of g middle) where
      pub halved_up : place < at → Halved g k n at middle high
      halved_up less = record {
        least = let l = h.least in omega arith;
        ordered = omega arith;
        most = h.most;
        some = λ x. omega arith;
        before = λ x. omega (arith, is);
        after = h.after;
      }

      pub halved_down : at ≤ place → Halved g k n at low middle
      halved_down more = record {
        least = h.least;
        ordered = omega arith;
        most = let m = h.most in omega arith;
        some = λ x. omega arith;
        before = h.before;
        after = λ x. omega (arith, is);
      }

    pub halved_end : high - low ≤ 1 → Reached g k n at low
    halved_end last =
        let most = h.most in
        let ordered = h.ordered in
        record {
          least = h.least;
          most = omega arith;
          some = λ x. let less = h.some x in omega arith;
          before = h.before;
          after = λ x.
              let least = h.least in
              let less = h.some (omega arith) in
              let next : high ≡ low + 1 = omega arith in
              rw next at (h.after (omega arith));
        }
