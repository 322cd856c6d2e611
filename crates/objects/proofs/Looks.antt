-- What looks at parts that follow one another answer.
use mathlib.Core.Path.{◌≡◌, refl, sym, ◌∙◌, ap}
use mathlib.Core.Bool.{Bool, true, false}
use mathlib.Core.List.{List, ◌∷◌}
use Prim.Native.Nat.{ℕ, zero, suc, ◌+◌, ◌-◌, ◌*◌, ◌≤◌, ◌<◌}
use native.Mathlib.Nat.{zero-mul, suc-mul, lt_of_mul-lt-mul_right}
use native.Mathlib.Omega.{arith}
use native.Mathlib.Decide.{dec_lt}
use lib.ListN.{length, get_or, replicate}
use Rattle.prelude.specs.Bits.{bit_of}
use Rattle.prelude.proofs.Parts.{nth_replicate}
use Rattle.image.specs.Rows.{row_at, rows_of}
use Rattle.shapes.specs.Forms.{own_types}
use Rattle.shapes.proofs.Rows.{own_step, sum_step, sum_end}
use Rattle.objects.specs.Begins.{among}
use Rattle.objects.specs.declared.Look.{Look}
use Rattle.objects.specs.declared.Look.TheVariants as Ls
use Rattle.objects.specs.Looking.{held, Edges, LowTypes, Fields, Ahead, told_by, settled}
use Rattle.objects.specs.Looking.{Below, Below.yes_below, Below.no_below, Below.inside_below}
use Rattle.objects.specs.Tables.{ROWS}
use Rattle.objects.proofs.Following.{among_here, among_stop, among_next, among_past, some_among}
use Rattle.objects.proofs.Following.{many_size, many_before, nth_many, many_none, many_empty, many_inside}

-- ---- what looks come to

module _ (deeper : ℕ → ℕ → Bool) where
  pub looks_yes : {b : Bool} → b ≡ true → settled deeper Ls.Yes ≡ b
  unfolding settled
  looks_yes e = sym e

  looks_no : {b : Bool} → b ≡ false → settled deeper Ls.No ≡ b
  unfolding settled
  looks_no e = sym e

  pub looks_inside : (u o : ℕ) {b : Bool} → b ≡ deeper u o → settled deeper (Ls.Inside u o) ≡ b
  unfolding settled
  looks_inside u o e = sym e

  pub looks_told : {x : Look} {b c : Bool} → x ≡ told_by b → b ≡ c → settled deeper x ≡ c
  unfolding told_by
  looks_told {b = b} is e = rw is (go b e)
    where
      go : (b : Bool) {c : Bool} → b ≡ c → settled deeper (told_by b) ≡ c
      go true e = looks_yes (sym e)
      go false e = looks_no (sym e)

  -- one that leads on
  pub looks_on : {x : Look} {b : Bool} {u o : ℕ} → x ≡ Ls.Inside u o → settled deeper x ≡ b → deeper u o ≡ b
  unfolding settled
  looks_on e h = rw e at h

-- one that leads nowhere comes to the same answer whatever lies deeper
settled_by : (d : ℕ → ℕ → Bool) (x : Look) → ((u o : ℕ) → x ≡ Ls.Inside u o → ⊥)
    → settled (λ u o. false) x ≡ settled d x
unfolding settled
settled_by d Ls.Yes h = refl
settled_by d Ls.No h = refl
settled_by d (Ls.Inside u o) h = absurd (h u o refl)

pub looks_end : (deeper : ℕ → ℕ → Bool) (x : Look) {b y : Bool} → y ≡ settled (λ u o. false) x
    → ((u o : ℕ) → x ≡ Ls.Inside u o → ⊥) → settled deeper x ≡ b → y ≡ b
looks_end deeper x is nowhere h = is ∙ settled_by deeper x nowhere ∙ h

pub settled_no : (x : Look) → (x ≡ Ls.Yes → ⊥) → settled (λ u o. false) x ≡ false
unfolding settled
settled_no Ls.Yes h = absurd (h refl)
settled_no Ls.No h = refl
settled_no (Ls.Inside u o) h = refl

-- ---- where they lead

module _ {size : ℕ → ℕ} {m : ℕ} where
  pub below_told : (b : Bool) {x : Look} → x ≡ told_by b → Below size m x
  unfolding told_by
  below_told b is = rw is (go b)
    where
      go : (b : Bool) → Below size m (told_by b)
      go true = yes_below
      go false = no_below

  pub below_on : {x : Look} {u o : ℕ} → x ≡ Ls.Inside u o → Below size m x → (u < m) × (0 < o) × (o < size u)
  below_on {u = u} {o = o} e h = go (rw e at h)
    where
      go : Below size m (Ls.Inside u o) → (u < m) × (0 < o) × (o < size u)
      go (inside_below low some less) = (low, some, less)

-- ---- edges

pub edges_less : {deeper : ℕ → ℕ → Bool} {size : ℕ → ℕ} {w k m : ℕ} {starts ends : List ℕ} → k ≤ m
    → Edges deeper size w m starts ends → Edges deeper size w k starts ends
edges_less low h = record {
  start = λ u l. h.start u (omega arith);
  end = λ u l. h.end u (omega arith);
  past = λ u o l. h.past u o (omega arith);
}

-- ---- fields, a row at a time

lows_later : {f : List ℕ} {k j e m : ℕ} → k ≤ j → LowTypes f k e m → LowTypes f j e m
lows_later low h = record { within = h.within; each = λ i least more. h.each i (omega arith) more }

pub lows_more : {f : List ℕ} {k e m n : ℕ} → m ≤ n → LowTypes f k e m → LowTypes f k e n
lows_more low h = record {
  within = h.within;
  each = λ i least more. let l = h.each i least more in omega arith;
}

pub row_low : {f : List ℕ} {k j e m u : ℕ} → LowTypes f k e m → k ≤ j → j < e → u ≡ (row_at f j).a → u < m
row_low {j = j} lows least more this = rw this (lows.each j least more)

-- those that have more than o cells
module _ {f plan : List ℕ} {j e m o : ℕ} (fields : Fields f plan j e m o) where
  fields_some : j < e
  fields_some = go (dec_lt j e)
    where
      go : Dec (j < e) → j < e
      go (yes h) = h
      go (no h) = absurd (omega (arith, fields.more, sum_end f j e (held plan) (omega arith)))

  module _ {u : ℕ} (this : u ≡ (row_at f j).a) where
    pub field_low : u < m
    field_low = row_low fields.lows (omega arith) fields_some this

    -- behind the first
    pub fields_next : {room rest : ℕ} → room ≡ held plan u → room + rest ≡ o → Fields f plan (j + 1) e m rest
    fields_next is place = record {
      lows = lows_later (omega arith) fields.lows;
      more = omega (arith, fields.more, is, ap (held plan) this, sum_step f j e (held plan) fields_some);
    }

module _ {f plan : List ℕ} {j o : ℕ} (ahead : Ahead f plan j o) where
  pub ahead_row : j < rows_of f
  ahead_row = omega (arith, ahead.fields.lows.within, fields_some ahead.fields)

  pub ahead_small : j < 131070
  ahead_small = omega (arith, ahead.small, fields_some ahead.fields)

  module _ {u : ℕ} (this : u ≡ (row_at f j).a) where
    pub ahead_planned : u < length plan
    ahead_planned = omega (arith, ahead.planned, field_low ahead.fields this)

    pub ahead_few : u < ROWS
    ahead_few = omega (arith, ahead.few, field_low ahead.fields this)

    pub ahead_next : {room rest : ℕ} → room ≡ held plan u → room + rest ≡ o → Ahead f plan (j + 1) rest
    ahead_next is place = record {
      end = ahead.end;
      below = ahead.below;
      fields = fields_next ahead.fields this is place;
      small = ahead.small;
      planned = ahead.planned;
      few = ahead.few;
    }

module _ {deeper : ℕ → ℕ → Bool} {w m : ℕ} {starts ends : List ℕ} {f plan : List ℕ} {j e o : ℕ}
    (edges : Edges deeper (held plan) w m starts ends) (fields : Fields f plan j e m o) {u : ℕ}
    (this : u ≡ (row_at f j).a) where
  abbrev here_on : ℕ → Bool
  here_on o = among deeper (held plan) (own_types f j (e - j)) o

  abbrev later : ℕ → Bool
  later o = among deeper (held plan) (own_types f (j + 1) (e - (j + 1))) o

  at_row : (o : ℕ) → here_on o ≡ among deeper (held plan) (u ∷ own_types f (j + 1) (e - (j + 1))) o
  at_row o =
      ap (λ l. among deeper (held plan) l o)
      (own_step f j e (fields_some fields) ∙ ap (λ v. v ∷ own_types f (j + 1) (e - (j + 1))) (sym this))

  turn_here : {rest : ℕ} → deeper u rest ≡ true → here_on rest ≡ true
  turn_here {rest} h = at_row rest ∙ among_here deeper (held plan) _ _ _ h

  module _ {room rest : ℕ} (is : room ≡ held plan u) where
    pub turn_in : rest < room → here_on rest ≡ deeper u rest
    turn_in h = at_row rest ∙ among_stop deeper (held plan) _ _ _ (rw is at h)

    turn_past : deeper u rest ≡ false → room ≤ rest → here_on rest ≡ later (rest - room)
    turn_past q h = at_row rest ∙ among_next deeper (held plan) _ _ _ q (rw is at h) ∙ rw is

    -- behind the field
    pub turn_next : room < rest → here_on rest ≡ later (rest - room)
    turn_next h = turn_past (edges.past u rest (field_low fields this) (rw is at h)) (omega arith)

    -- at its end
    module _ (last : rest ≡ room) {x : Bool} (mark : x ≡ bit_of (get_or ends u 0) w) where
      end_deeper : deeper u rest ≡ x
      end_deeper = ap (λ o. deeper u o) (last ∙ is) ∙ sym (mark ∙ edges.end u (field_low fields this))

      pub turn_yes : x ≡ true → here_on rest ≡ true
      turn_yes q = turn_here (end_deeper ∙ q)

      pub turn_end : x ≡ false → here_on rest ≡ later 0
      turn_end q =
          let none : rest - room ≡ 0 = omega arith in
          turn_past (end_deeper ∙ q) (omega arith) ∙ ap (λ o. later o) none

  -- at its start
  module _ {x : Bool} (mark : x ≡ bit_of (get_or starts u 0) w) where
    first_deeper : deeper u 0 ≡ x
    first_deeper = sym (mark ∙ edges.start u (field_low fields this))

    pub first_yes : x ≡ true → here_on 0 ≡ true
    first_yes q = turn_here (first_deeper ∙ q)

    module _ {room : ℕ} (is : room ≡ held plan u) (q : x ≡ false) where
      pub first_no_lem : 0 < room → here_on 0 ≡ false
      first_no_lem h = turn_in is h ∙ first_deeper ∙ q

      pub first_next : room ≤ 0 → here_on 0 ≡ later 0
      first_next h =
          let none : 0 - room ≡ 0 = omega arith in
          turn_past is (first_deeper ∙ q) h ∙ ap (λ o. later o) none

-- ---- elements

module _ {deeper : ℕ → ℕ → Bool} {size : ℕ → ℕ} {w m : ℕ} {starts ends : List ℕ}
    (edges : Edges deeper size w m starts ends) {e : ℕ} (low : e < m) (n : ℕ) where
  abbrev many : ℕ → Bool
  many o = among deeper size (replicate n e) o

  past : (x : ℕ) → size e < x → deeper e x ≡ false
  past x h = edges.past e x low h

  pub elements_past : (o : ℕ) → n * size e < o → many o ≡ false
  elements_past o h =
      among_past deeper size (replicate n e) o
      (λ k u x y l. let same = nth_many n e y in rw same (past x (rw same at l)))
      (rw (many_size size e n) h)

  -- without cells
  pub none_first : size e ≡ 0 → {o : ℕ} → o ≡ 0 → 1 ≤ n → {x : Bool} → x ≡ bit_of (get_or starts e 0) w → x ≡ many o
  none_first none {o} first least {x} h = go x refl n least
    where
      go : (b : Bool) → x ≡ b → (n : ℕ) → 1 ≤ n → x ≡ among deeper size (replicate n e) o
      go b q zero least = absurd (omega arith)
      go true q (suc k) least =
          q ∙ sym (among_here deeper size e (replicate k e) o (rw first (sym (edges.start e low) ∙ sym h ∙ q)))
      go false q (suc k) least =
          q ∙ sym (rw first (many_empty deeper size e past (suc k) none (sym (edges.start e low) ∙ sym h ∙ q)))

  -- behind i of them
  module _ (i : ℕ) where
    between_first : i < n → deeper e 0 ≡ true → many (i * size e) ≡ true
    between_first h d =
        let q : i * size e + 0 ≡ i * size e = omega arith in
        rw (many_before size e i n (omega arith), q) at (some_among deeper size 0 (nth_replicate n i e h) d)

    between_last : 0 < i → i ≤ n → deeper e (size e) ≡ true → many (i * size e) ≡ true
    between_last some h d = go i some h
      where
        go : (i : ℕ) → 0 < i → i ≤ n → many (i * size e) ≡ true
        go zero some h = absurd (omega arith)
        go (suc k) some h =
            let q : k * size e + size e ≡ suc k * size e = omega (arith, suc-mul k (size e)) in
            rw (many_before size e k n (omega arith), q) at
            (some_among deeper size (size e) (nth_replicate n k e (omega arith)) d)

    between_none : 0 < size e → (i < n → deeper e 0 ≡ false) → (0 < i → deeper e (size e) ≡ false)
        → many (i * size e) ≡ false
    between_none some a b = many_none deeper size e past n i some a b

    pub between_start : 0 < size e → 1 ≤ n → i ≡ 0 → {x : Bool} → x ≡ bit_of (get_or starts e 0) w
        → x ≡ many (i * size e)
    between_start some least first {x} h = go x refl
      where
        go : (b : Bool) → x ≡ b → x ≡ many (i * size e)
        go true q = q ∙ sym (between_first (omega arith) (sym (edges.start e low) ∙ sym h ∙ q))
        go false q = q ∙ sym (between_none some (λ l. sym (edges.start e low) ∙ sym h ∙ q) (λ l. absurd (omega arith)))

    pub between_end : 0 < size e → 0 < i → i ≡ n → {x : Bool} → x ≡ bit_of (get_or ends e 0) w → x ≡ many (i * size e)
    between_end some more last {x} h = go x refl
      where
        go : (b : Bool) → x ≡ b → x ≡ many (i * size e)
        go true q = q ∙ sym (between_last more (omega arith) (sym (edges.end e low) ∙ sym h ∙ q))
        go false q = q ∙ sym (between_none some (λ l. absurd (omega arith)) (λ l. sym (edges.end e low) ∙ sym h ∙ q))

  -- i whole ones and some cells, before the end of all
  module _ {room o : ℕ} (is : room ≡ size e) (i inside : ℕ) (parted : i * room + inside ≡ o)
      (within : o < n * size e) where
    as_parted : i * size e + inside ≡ o
    as_parted = rw (← is) parted

    whole_low : i < n
    whole_low = lt_of_mul-lt-mul_right (size e) (omega (arith, as_parted))

    pub parted_inside : 0 < inside → inside < room → many o ≡ deeper e inside
    parted_inside more less =
        ap (λ k. many k) (sym as_parted) ∙ many_inside deeper size e past n i inside more (omega arith) whole_low

    -- where one ends the next starts
    module _ (edge : inside ≡ 0) {y : Bool} (start : y ≡ bit_of (get_or starts e 0) w) where
      all_whole : i * size e ≡ o
      all_whole = omega (arith, as_parted)

      first_one : deeper e 0 ≡ y
      first_one = sym (start ∙ edges.start e low)

      pub parted_yes : y ≡ true → many o ≡ true
      parted_yes q = ap (λ k. many k) (sym all_whole) ∙ between_first i whole_low (first_one ∙ q)

      pub parted_both : y ≡ false → 0 < room → 0 < o → {x : Bool} → x ≡ bit_of (get_or ends e 0) w → x ≡ many o
      parted_both q some more {x} h = go x refl ∙ ap (λ k. many k) all_whole
        where
          least : 0 < i
          least = lt_of_mul-lt-mul_right (size e) (omega (arith, zero-mul (size e), all_whole))

          last_one : deeper e (size e) ≡ x
          last_one = sym (h ∙ edges.end e low)

          go : (b : Bool) → x ≡ b → x ≡ many (i * size e)
          go true p = p ∙ sym (between_last i least (omega (arith, whole_low)) (last_one ∙ p))
          go false p = p ∙ sym (between_none i (omega arith) (λ l. first_one ∙ q) (λ l. last_one ∙ p))
