-- The type rules and the operators agree: a typed operator gives a value of its kind, in its range, or a trap,
-- and an untyped one is stuck.
use Rattle.std.specs.Prelude.{Option, Some, None, Err}
use mathlib.Core.Path.{◌≡◌, refl, ap, ◌∙◌}
use mathlib.Core.Bool.{Bool, true, false, ◌&&◌}
use Prim.Native.Nat.{ℕ, suc, ◌<◌, ◌≤◌}
use native.Mathlib.Omega.{arith}
use borrow.Author.Tests.{ltb-true, ltb-false, leb-true, leb-false, le-leb, lt-leb, eqb-true, eqb-false}
use lib.Bits.{or_lt, xor_lt, and_le_l}
use lib.Dec.{leb, ltb, eqb}
use lib.IntN.{ℤ, neg_ℤ}
use mir.Syntax.{w32}
use mir.Val.{SFits}
use Rattle.prelude.specs.Choice.{choose}
use Rattle.prelude.proofs.Choice.{choose_same}
use Rattle.values.specs.Values.{BOOLEAN, SET, kind_of, InRange, is_set, as_boolean, as_integer, as_set, Gives, Answer}
use Rattle.values.specs.Values.InRange.{integer, set}
use Rattle.sets.specs.Sets.{complement_of}
use Rattle.operators.specs.Operators.{integers_of, sets_of, booleans_of, membership_of, dyadic_of, monadic_of}
use Rattle.kinds.specs.Kinds.{integers_kind, sets_kind, booleans_kind, dyadic_kind, monadic_kind}
use Rattle.values.specs.declared.Value.{Value}
use Rattle.values.specs.declared.Value.TheVariants as Vs
use Rattle.values.specs.declared.Stop.TheVariants as St
use Rattle.values.proofs.Numbers.{inside, under, over, integer_fits}
use Rattle.values.proofs.Giving.{gives_boolean, gives_set}
use Rattle.integers.proofs.Results.{integer_gives, arithmetic_gives}
use Rattle.sets.proofs.Results.{contains_gives, range_gives, complement_gives}

-- ---- a kind and an answer that go together

-- under H the answer is one of the kind, and without a kind it is stuck
pub data Agree (H : Type 0) : Option ℕ → Answer → Type 0 where
  typed : {k : ℕ} {a : Answer} → (H → Gives k a) → Agree H (Some k) a
  untyped : Agree H None (Err St.Stuck)

module _ {H : Type 0} where
  -- by the same test
  agree : (b : Bool) {x y : (Option ℕ)} {a c : Answer} → Agree H x a → Agree H y c
      → Agree H (choose b x y) (choose b a c)
  unfolding choose
  agree true p q = p
  agree false p q = q

-- a test for lo to hi as tests for each number
later : (lo n : ℕ) → (n ≡ lo → ⊥) → leb lo n ≡ leb (suc lo) n
later lo n h = go (leb (suc lo) n) refl
  where
    go : (t : Bool) → leb (suc lo) n ≡ t → leb lo n ≡ t
    go true e = le-leb lo n (omega (arith, leb-true))
    go false e = lt-leb lo n (omega (arith, leb-false))

module _ {X : Type 0} (x y : X) (n : ℕ) where
  first_of_lem : (lo hi : ℕ) → lo ≤ hi
      → choose (leb lo n && leb n hi) x y ≡ choose (eqb n lo) x (choose (leb (suc lo) n && leb n hi) x y)
  unfolding choose
  first_of_lem lo hi h = go (eqb n lo) refl
    where
      go : (t : Bool) → eqb n lo ≡ t
          → choose (leb lo n && leb n hi) x y ≡ choose t x (choose (leb (suc lo) n && leb n hi) x y)
      go true e = let i = eqb-true n lo e in rw (inside lo hi n (omega arith) (omega arith))
      go false e = rw (later lo n (eqb-false n lo e))

  none_of : (lo hi : ℕ) → hi < lo → choose (leb lo n && leb n hi) x y ≡ y
  unfolding choose
  none_of lo hi h = go (ltb n lo) refl
    where
      go : (t : Bool) → ltb n lo ≡ t → choose (leb lo n && leb n hi) x y ≡ y
      go true e = rw (under lo hi n (ltb-true n lo e))
      go false e = rw (over lo hi n (omega (arith, ltb-false)))

-- ---- the rules of the kinds and the operators, test by test

booleans_listed : (op : ℕ) → booleans_kind op
    ≡ choose (leb 7 op && leb op 8) (Some BOOLEAN)
    (choose (eqb op 13) (Some BOOLEAN) (choose (eqb op 14) (Some BOOLEAN) None))
unfolding booleans_kind
booleans_listed op =
    ap (choose (leb 7 op && leb op 8) (Some BOOLEAN))
    (first_of_lem (Some BOOLEAN) None op 13 14 (omega arith)
    ∙ ap (choose (eqb op 13) (Some BOOLEAN))
    (first_of_lem (Some BOOLEAN) None op 14 14 (omega arith)
    ∙ ap (choose (eqb op 14) (Some BOOLEAN)) (none_of (Some BOOLEAN) None op 15 14 (omega arith))))

sets_listed : (op : ℕ)
    → let rest = choose (eqb op 6) (Some SET) (choose (leb 7 op && leb op 8) (Some BOOLEAN) None) in
    sets_kind op ≡ choose (eqb op 1) (Some SET) (choose (eqb op 2) (Some SET) (choose (eqb op 3) (Some SET) rest))
unfolding sets_kind
sets_listed op =
    let rest = choose (eqb op 6) (Some SET) (choose (leb 7 op && leb op 8) (Some BOOLEAN) None) in
    first_of_lem (Some SET) rest op 1 3 (omega arith)
    ∙ ap (choose (eqb op 1) (Some SET))
    (first_of_lem (Some SET) rest op 2 3 (omega arith)
    ∙ ap (choose (eqb op 2) (Some SET))
    (first_of_lem (Some SET) rest op 3 3 (omega arith)
    ∙ ap (choose (eqb op 3) (Some SET)) (none_of (Some SET) rest op 4 3 (omega arith))))

module _ {H : Type 0} (op : ℕ) where
  booleans_agree : (p q : Bool) → Agree H (booleans_kind op) (booleans_of op p q)
  unfolding booleans_of
  booleans_agree p q =
      rw (booleans_listed op)
      (agree (leb 7 op && leb op 8) (typed (λ h. gives_boolean _))
      (agree (eqb op 13) (typed (λ h. gives_boolean _))
      (agree (eqb op 14) (typed (λ h. gives_boolean _)) untyped)))

  integers_agree : (x y : ℤ) → (H → SFits w32 x) → (H → SFits w32 y) → Agree H (integers_kind op) (integers_of op x y)
  unfolding integers_kind integers_of
  integers_agree x y f g =
      agree (leb 1 op && leb op 5) (typed (λ h. arithmetic_gives op x y (f h) (g h)))
      (agree (leb 7 op && leb op 12) (typed (λ h. gives_boolean _))
      (agree (eqb op 16) (typed (λ h. range_gives x y)) untyped))

  sets_agree : (s t : ℕ) → (H → s < 4294967296) → (H → t < 4294967296) → Agree H (sets_kind op) (sets_of op s t)
  unfolding sets_of
  sets_agree s t f g =
      rw (sets_listed op)
      (agree (eqb op 1) (typed (λ h. gives_set _ (or_lt 32 s t (f h) (g h))))
      (agree (eqb op 2) (typed (λ h. gives_set _ (let k = f h in omega (arith, and_le_l s (complement_of t)))))
      (agree (eqb op 3) (typed (λ h. gives_set _ (let k = f h in omega (arith, and_le_l s t))))
      (agree (eqb op 6) (typed (λ h. gives_set _ (xor_lt 32 s t (f h) (g h))))
      (agree (leb 7 op && leb op 8) (typed (λ h. gives_boolean _)) untyped)))))

integer_in : {z : ℤ} → InRange (Vs.Int z) → SFits w32 z
integer_in (integer h) = integer_fits _ h

set_in : {s : ℕ} → InRange (Vs.Set s) → s < 4294967296
unfolding is_set
set_in (set h) = ltb-true _ _ h

pub dyadic_agree : (op : ℕ) (v w : Value)
    → Agree (InRange v × InRange w) (dyadic_kind op (kind_of v) (kind_of w)) (dyadic_of op v w)
unfolding dyadic_kind dyadic_of as_boolean as_integer as_set membership_of kind_of choose
dyadic_agree op (Vs.Bool p) (Vs.Bool q) = booleans_agree op p q
dyadic_agree op (Vs.Bool p) (Vs.Int y) = untyped
dyadic_agree op (Vs.Bool p) (Vs.Set t) = untyped
dyadic_agree op (Vs.Int x) (Vs.Bool q) = untyped
dyadic_agree op (Vs.Int x) (Vs.Int y) = integers_agree op x y (λ h. integer_in h.0) (λ h. integer_in h.1)
dyadic_agree op (Vs.Int x) (Vs.Set t) = agree (eqb op 15) (typed (λ h. contains_gives x t)) untyped
dyadic_agree op (Vs.Set s) (Vs.Bool q) = untyped
dyadic_agree op (Vs.Set s) (Vs.Int y) = untyped
dyadic_agree op (Vs.Set s) (Vs.Set t) = sets_agree op s t (λ h. set_in h.0) (λ h. set_in h.1)

pub monadic_agree : (op : ℕ) (v : Value) → Agree (InRange v) (monadic_kind op (kind_of v)) (monadic_of op v)
unfolding monadic_kind monadic_of kind_of choose
monadic_agree op (Vs.Bool p) = go (eqb op 1) refl
  where
    go : (t : Bool) → eqb op 1 ≡ t
        → Agree (InRange (Vs.Bool p))
        (choose t None (choose (eqb op 2) (Some BOOLEAN) None)) (monadic_of op (Vs.Bool p))
    go true e = rw (eqb-true op 1 e) untyped
    go false e = agree (eqb op 2) (typed (λ h. gives_boolean _)) untyped
monadic_agree op (Vs.Int x) =
    rw (choose_same {X = Option ℕ} (eqb op 2) None) (agree (eqb op 1) (typed (λ h. integer_gives (neg_ℤ x))) untyped)
monadic_agree op (Vs.Set s) =
    rw (choose_same {X = Option ℕ} (eqb op 2) None)
    (agree (eqb op 1) (typed (λ h. complement_gives s)) untyped)

-- ---- the laws

module _ {H : Type 0} where
  agree_typed : {x : (Option ℕ)} {a : Answer} {k : ℕ} → Agree H x a → x ≡ Some k → H → Gives k a
  agree_typed {k = k} (typed {k = j} f) e h = let i : j ≡ k = cc in rw i at (f h)
  agree_typed untyped e h = let z : ◌≡◌ {A = ℕ} 0 1 = cc in absurd (omega arith)

  agree_untyped : {x : (Option ℕ)} {a : Answer} → Agree H x a → x ≡ None → a ≡ Err St.Stuck
  agree_untyped (typed f) e = let z : ◌≡◌ {A = ℕ} 0 1 = cc in absurd (omega arith)
  agree_untyped untyped e = refl

-- a typed operator is never stuck
pub dyadic_typed : (op : ℕ) {v w : Value} {k : ℕ} → dyadic_kind op (kind_of v) (kind_of w) ≡ Some k
    → InRange v → InRange w → Gives k (dyadic_of op v w)
dyadic_typed op {v} {w} e p q = agree_typed (dyadic_agree op v w) e (p, q)

pub monadic_typed : (op : ℕ) {v : Value} {k : ℕ} → monadic_kind op (kind_of v) ≡ Some k
    → InRange v → Gives k (monadic_of op v)
monadic_typed op {v} e p = agree_typed (monadic_agree op v) e p

-- an untyped one always is
pub dyadic_untyped : (op : ℕ) (v w : Value) → dyadic_kind op (kind_of v) (kind_of w) ≡ None
    → dyadic_of op v w ≡ Err St.Stuck
dyadic_untyped op v w e = agree_untyped (dyadic_agree op v w) e

pub monadic_untyped : (op : ℕ) (v : Value) → monadic_kind op (kind_of v) ≡ None → monadic_of op v ≡ Err St.Stuck
monadic_untyped op v e = agree_untyped (monadic_agree op v) e
