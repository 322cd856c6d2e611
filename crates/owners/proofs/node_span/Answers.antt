use Rattle.owners.specs.Owners.{gather}
use mathlib.Core.Path.{◌≡◌, sym, ◌∙◌}
use mathlib.Core.Logic.{◌⊎◌, inl, inr}
use Prim.Native.Nat.{ℕ}
use borrow.Author.Tests.{ne_eqb}
use Rattle.prelude.specs.Choice.{choose}
use Rattle.image.specs.declared.Row.{Row}
use Rattle.owners.proofs.node_span.Goals as goal

-- what is gathered, by the kind
module _ {X : Type 0} (none : X) (one : ℕ → X) (both : X → X → X) (child : ℕ → X) (kind : ℕ) (row : Row) where
  gather_one : (kind ≡ 1) ⊎ ((kind ≡ 4) ⊎ (kind ≡ 7)) → gather none one both child kind row ≡ one row.a
  unfolding gather choose
  gather_one (inl e) = rw e
  gather_one (inr (inl e)) = rw e
  gather_one (inr (inr e)) = rw e

  gather_child : (kind ≡ 2) ⊎ ((kind ≡ 6) ⊎ (kind ≡ 8)) → gather none one both child kind row ≡ child row.a
  unfolding gather choose
  gather_child (inl e) = rw e
  gather_child (inr (inl e)) = rw e
  gather_child (inr (inr e)) = rw e

  gather_both : (kind ≡ 3) ⊎ (kind ≡ 5) → gather none one both child kind row ≡ both (child row.a) (child row.b)
  unfolding gather choose
  gather_both (inl e) = rw e
  gather_both (inr e) = rw e

  gather_none : ¬ ((kind ≡ 1) ⊎ ((kind ≡ 4) ⊎ (kind ≡ 7))) → ¬ ((kind ≡ 2) ⊎ ((kind ≡ 6) ⊎ (kind ≡ 8)))
      → ¬ ((kind ≡ 3) ⊎ (kind ≡ 5)) → gather none one both child kind row ≡ none
  unfolding gather choose
  gather_none x y z =
      rw (
        ne_eqb kind 1 (λ e. x (inl e)),
        ne_eqb kind 2 (λ e. y (inl e)),
        ne_eqb kind 3 (λ e. z (inl e)),
        ne_eqb kind 4 (λ e. x (inr (inl e))),
        ne_eqb kind 5 (λ e. z (inr e)),
        ne_eqb kind 6 (λ e. y (inr (inl e))),
        ne_eqb kind 7 (λ e. x (inr (inr e))),
        ne_eqb kind 8 (λ e. y (inr (inr e))),
      )

pub returns-in-1 : goal.returns-in-1
returns-in-1 c = c.variable_span.ensures ∙ sym (gather_one _ _ _ _ _ _ c.in-1.is)

pub returns-in-2 : goal.returns-in-2
returns-in-2 c = c.span_at.ensures ∙ sym (gather_child _ _ _ _ _ _ c.in-2.is)

pub returns-in-3 : goal.returns-in-3
returns-in-3 c = c.both_spans.ensures ∙ sym (gather_both _ _ _ _ _ _ c.in-3.is)

pub returns-in_default : goal.returns-in_default
returns-in_default c =
    let other = c.in_default.in_default-own.rest in
    sym (gather_none _ _ _ _ _ _ other.0.0.1 other.0.1 other.1)
