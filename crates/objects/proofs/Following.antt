-- Laws of objects that follow one another.
use mathlib.Core.Path.{◌≡◌, refl, sym, ◌∙◌, ap}
use mathlib.Core.Bool.{Bool, true, false}
use mathlib.Core.List.{List, [], ◌∷◌, ◌++◌, map}
use mathlib.Core.Logic.{⊎_elim}
use Prim.Native.Nat.{ℕ, zero, suc, ◌+◌, ◌-◌, ◌*◌, ◌≤◌, ◌<◌}
use native.Mathlib.Nat.{zero-mul, suc-mul}
use native.Mathlib.Omega.{arith}
use native.Mathlib.Decide.{dec_le}
use borrow.Author.Tests.{leb-true, leb-false, le-leb, lt-leb}
use lib.Dec.{leb}
use lib.ListN.{take, replicate}
use Rattle.prelude.specs.Choice.{choose}
use Rattle.prelude.specs.Parts.{sum, Nth, Nth.here, Nth.there}
use Rattle.prelude.proofs.Choice.{choose_yes, choose_no, choose_cases, clash}
use Rattle.prelude.proofs.Parts.{nth_nil}
use Rattle.objects.specs.Begins.{among}

-- ---- a choice of yes

pub either : (b : Bool) {c : Bool} → c ≡ true → choose b true c ≡ true
unfolding choose
either true e = refl
either false e = e

pub first_alone : (b : Bool) {c : Bool} → c ≡ false → choose b true c ≡ b
unfolding choose
first_alone true e = refl
first_alone false e = e

-- ---- cells

pub sum_append : (size : ℕ → ℕ) (l m : List ℕ) → sum (map size (l ++ m)) ≡ sum (map size l) + sum (map size m)
unfolding sum
sum_append size [] m = omega arith
sum_append size (u ∷ l) m = omega (arith, sum_append size l m)

-- ---- n types that are the same

pub many_size : (size : ℕ → ℕ) (e n : ℕ) → sum (map size (replicate n e)) ≡ n * size e
unfolding sum
many_size size e zero = sym (zero-mul (size e))
many_size size e (suc n) = omega (arith, many_size size e n, suc-mul n (size e))

take_replicate : (k n e : ℕ) → k ≤ n → take k (replicate n e) ≡ replicate k e
take_replicate zero n e h = refl
take_replicate (suc k) zero e h = absurd (omega arith)
take_replicate (suc k) (suc n) e h = ap (λ l. e ∷ l) (take_replicate k n e (omega arith))

-- where element k begins
pub many_before : (size : ℕ → ℕ) (e k n : ℕ) → k ≤ n → sum (map size (take k (replicate n e))) ≡ k * size e
many_before size e k n h = ap (λ l. sum (map size l)) (take_replicate k n e h) ∙ many_size size e k

pub nth_many : (n e : ℕ) {i u : ℕ} → Nth (replicate n e) i u → u ≡ e
nth_many zero e h = absurd (nth_nil h)
nth_many (suc n) e here = refl
nth_many (suc n) e (there h) = nth_many n e h

module _ (deeper : ℕ → ℕ → Bool) (size : ℕ → ℕ) where
  -- ---- one object more

  pub among_here : (u : ℕ) (l : List ℕ) (o : ℕ) → deeper u o ≡ true → among deeper size (u ∷ l) o ≡ true
  unfolding among choose
  among_here u l o e = rw e

  -- the object that has the cell is the last that can have it
  pub among_stop : (u : ℕ) (l : List ℕ) (o : ℕ) → o < size u → among deeper size (u ∷ l) o ≡ deeper u o
  unfolding among choose
  among_stop u l o h = rw (lt-leb (size u) o h) (first_alone (deeper u o) refl)

  pub among_next : (u : ℕ) (l : List ℕ) (o : ℕ) → deeper u o ≡ false → size u ≤ o
      → among deeper size (u ∷ l) o ≡ among deeper size l (o - size u)
  unfolding among choose
  among_next u l o e h = rw (e, le-leb (size u) o h)

  -- ---- the test and the place

  -- where none begins in any of them
  pub among_none : (l : List ℕ) (o : ℕ) → ((n u x : ℕ) → Nth l n u → deeper u x ≡ false)
      → among deeper size l o ≡ false
  unfolding among
  among_none [] o h = refl
  among_none (u ∷ l) o h = go (dec_le (size u) o) (among_none l (o - size u) (λ n v x k. h (suc n) v x (there k)))
    where
      go : Dec (size u ≤ o) → among deeper size l (o - size u) ≡ false → among deeper size (u ∷ l) o ≡ false
      go (yes le) rest = among_next u l o (h 0 u o here) le ∙ rest
      go (no gt) rest = among_stop u l o (omega arith) ∙ h 0 u o here

  -- one of the objects, and that `deeper` says yes so many cells into it
  pub record Some (l : List ℕ) (o : ℕ) : Type 0 where
    pub number : ℕ
    pub type : ℕ
    pub into : ℕ
    pub there : Nth l number type
    pub place : sum (map size (take number l)) + into ≡ o
    pub holds : deeper type into ≡ true

  pub among_some : (l : List ℕ) (o : ℕ) → among deeper size l o ≡ true → Some l o
  unfolding among sum
  among_some [] o e = clash (sym e)
  among_some (u ∷ l) o e =
      ⊎_elim
      (λ a. record { number = 0; type = u; into = o; there = here; place = omega arith; holds = a.0 })
      (λ a. ⊎_elim
      (λ b.
      let s = among_some l (o - size u) b.1 in
      let low = leb-true (size u) o b.0 in
      record {
        number = suc s.number;
        type = s.type;
        into = s.into;
        there = there s.there;
        place = omega (arith, s.place);
        holds = s.holds;
      })
      (λ b. clash (sym b.1))
      (choose_cases (leb (size u) o) a.1))
      (choose_cases (deeper u o) e)

  pub some_among : {l : List ℕ} {n u : ℕ} (o : ℕ) → Nth l n u → deeper u o ≡ true
      → among deeper size l (sum (map size (take n l)) + o) ≡ true
  unfolding sum
  some_among o (here {x = u} {l = l}) e = let q : 0 + o ≡ o = omega arith in rw q (among_here u l o e)
  some_among o (there {x = u} {y = y} {l = l} {n = n} h) e =
      go (deeper y (size y + sum (map size (take n l)) + o)) refl (some_among o h e)
    where
      go : (b : Bool) → deeper y (size y + sum (map size (take n l)) + o) ≡ b
          → among deeper size l (sum (map size (take n l)) + o) ≡ true
          → among deeper size (y ∷ l) (size y + sum (map size (take n l)) + o) ≡ true
      go true q ih = among_here y l _ q
      go false q ih =
          let back : size y + sum (map size (take n l)) + o - size y ≡ sum (map size (take n l)) + o = omega arith in
          among_next y l _ q (omega arith) ∙ ap (λ k. among deeper size l k) back ∙ ih

  -- ---- nothing begins behind the end

  pub among_past : (l : List ℕ) (o : ℕ) → ((n u x : ℕ) → Nth l n u → size u < x → deeper u x ≡ false)
      → sum (map size l) < o → among deeper size l o ≡ false
  unfolding sum
  among_past [] o past h = unfold among in refl
  among_past (u ∷ l) o past h =
      among_next u l o (past 0 u o here (omega arith)) (omega arith)
      ∙ among_past l (o - size u) (λ n v x k. past (suc n) v x (there k)) (omega arith)

  -- ---- two lists

  shifted : (a b o : ℕ) → a ≤ o → leb b (o - a) ≡ leb (a + b) o
  shifted a b o h = at (dec_le (a + b) o)
    where
      at : Dec (a + b ≤ o) → leb b (o - a) ≡ leb (a + b) o
      at (yes k) = le-leb b (o - a) (omega arith) ∙ sym (le-leb (a + b) o k)
      at (no k) = lt-leb b (o - a) (omega arith) ∙ sym (lt-leb (a + b) o (omega arith))

  append_more : (u : ℕ) (l m : List ℕ) (o : ℕ) (b : Bool) → deeper u o ≡ b → (c : Bool) → leb (size u) o ≡ c
      → among deeper size (l ++ m) (o - size u)
      ≡ choose (among deeper size l (o - size u)) true
      (choose (leb (sum (map size l)) (o - size u)) (among deeper size m (o - size u - sum (map size l))) false)
      → among deeper size (u ∷ l ++ m) o
      ≡ choose (among deeper size (u ∷ l) o) true
      (choose (leb (sum (map size (u ∷ l))) o) (among deeper size m (o - sum (map size (u ∷ l)))) false)
  unfolding sum
  append_more u l m o true b c e ih = among_here u (l ++ m) o b ∙ sym (choose_yes _ _ _ (among_here u l o b))
  append_more u l m o false b true c ih =
      let low = leb-true (size u) o c in
      let back : o - size u - sum (map size l) ≡ o - (size u + sum (map size l)) = omega arith in
      among_next u (l ++ m) o b low ∙ ih ∙ rw (among_next u l o b low, shifted (size u) (sum (map size l)) o low, back)
  append_more u l m o false b false c ih =
      let high = leb-false (size u) o c in
      among_stop u (l ++ m) o (omega arith) ∙ b
      ∙ sym (choose_no _ _ _ (among_stop u l o (omega arith) ∙ b) ∙ choose_no _ _ _ (lt-leb _ o (omega arith)))

  among_first : (m : List ℕ) (o : ℕ) → among deeper size m o
      ≡ choose (among deeper size [] o) true
      (choose (leb (sum (map size [])) o) (among deeper size m (o - sum (map size []))) false)
  unfolding among sum
  among_first m o =
      let same : o - 0 ≡ o = omega arith in
      sym (choose_no _ _ _ refl ∙ choose_yes _ _ _ (le-leb 0 o (omega arith)) ∙ ap (λ k. among deeper size m k) same)

  pub among_append : (l m : List ℕ) (o : ℕ) → among deeper size (l ++ m) o
      ≡ choose (among deeper size l o) true
      (choose (leb (sum (map size l)) o) (among deeper size m (o - sum (map size l))) false)
  among_append [] m o = among_first m o
  among_append (u ∷ l) m o = append_more u l m o (deeper u o) refl (leb (size u) o) refl (among_append l m (o - size u))

  -- ---- n objects of one type, behind whose end nothing begins

  module _ (e : ℕ) (past : (x : ℕ) → size e < x → deeper e x ≡ false) where
    pub many_inside : (n i x : ℕ) → 0 < x → x < size e → i < n
        → among deeper size (replicate n e) (i * size e + x) ≡ deeper e x
    many_inside zero i x a b h = absurd (omega arith)
    many_inside (suc n) zero x a b h =
        let q : 0 * size e + x ≡ x = omega (arith, zero-mul (size e)) in
        rw q (among_stop e (replicate n e) x b)
    many_inside (suc n) (suc i) x a b h =
        let whole = suc-mul i (size e) in
        let back : suc i * size e + x - size e ≡ i * size e + x = omega (arith, whole) in
        among_next e (replicate n e) _ (past _ (omega (arith, whole))) (omega (arith, whole))
        ∙ ap (λ k. among deeper size (replicate n e) k) back ∙ many_inside n i x a b (omega arith)

    pub many_none : (n i : ℕ) → 0 < size e → (i < n → deeper e 0 ≡ false) → (0 < i → deeper e (size e) ≡ false)
        → among deeper size (replicate n e) (i * size e) ≡ false
    many_none zero i some a b = unfold among in refl
    many_none (suc n) zero some a b =
        let q = zero-mul (size e) in
        rw q (among_stop e (replicate n e) 0 some ∙ a (omega arith))
    many_none (suc n) (suc i) some a b = go i a (many_none n i some (λ h. a (omega arith)) (λ h. b (omega arith)))
      where
        go : (i : ℕ) → (suc i < suc n → deeper e 0 ≡ false) → among deeper size (replicate n e) (i * size e) ≡ false
            → among deeper size (replicate (suc n) e) (suc i * size e) ≡ false
        go zero a ih =
            let q : suc zero * size e ≡ size e = omega (arith, suc-mul 0 (size e), zero-mul (size e)) in
            let none : size e - size e ≡ 0 * size e = omega (arith, zero-mul (size e)) in
            rw q (among_next e (replicate n e) (size e) (b (omega arith)) (omega arith)
            ∙ ap (λ k. among deeper size (replicate n e) k) none ∙ ih)
        go (suc i) a ih =
            let whole = suc-mul (suc i) (size e) in
            let more = suc-mul i (size e) in
            let back : suc (suc i) * size e - size e ≡ suc i * size e = omega (arith, whole) in
            among_next e (replicate n e) _ (past _ (omega (arith, whole, more))) (omega (arith, whole))
            ∙ ap (λ k. among deeper size (replicate n e) k) back ∙ ih

    pub many_empty : (n : ℕ) → size e ≡ 0 → deeper e 0 ≡ false → among deeper size (replicate n e) 0 ≡ false
    many_empty zero none not = unfold among in refl
    many_empty (suc n) none not =
        let back : 0 - size e ≡ 0 = omega arith in
        among_next e (replicate n e) 0 not (omega arith) ∙ ap (λ k. among deeper size (replicate n e) k) back
        ∙ many_empty n none not

-- ---- the same by other tests and sizes that agree

pub among_agree : (g h : ℕ → ℕ → Bool) (size room : ℕ → ℕ) (l : List ℕ) (o : ℕ)
    → ((n u : ℕ) → Nth l n u → ((x : ℕ) → g u x ≡ h u x) × (size u ≡ room u)) → among g size l o ≡ among h room l o
unfolding among
among_agree g h size room [] o same = refl
among_agree g h size room (u ∷ l) o same =
    let (one, two) = same 0 u here in
    rw (one o, two, among_agree g h size room l (o - room u) (λ n v k. same (suc n) v (there k)))
