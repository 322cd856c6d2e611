-- Words that say what begins at the edges of objects, put together.
use mathlib.Core.Path.{◌≡◌, refl, sym, ◌∙◌, ap}
use mathlib.Core.Bool.{Bool, true, false, not, ◌||◌, beq}
use mathlib.Core.List.{List, [], ◌∷◌, ◌++◌, map, append-nil, append_assoc}
use mathlib.Core.Logic.{◌⊎◌, inl, inr}
use Prim.Native.Nat.{ℕ, ◌+◌, ◌-◌, ◌*◌, ◌%◌, ◌^◌, ◌≤◌, ◌<◌}
use native.Mathlib.Nat.{add-sub_cancel_left, zero-mul, mul-zero}
use native.Mathlib.Omega.{arith}
use native.Mathlib.Decide.{dec_lt}
use borrow.Author.Tests.{le-leb, lt-leb, eq-eqb, ne_eqb}
use lib.Bits.{bit_or, bit_xor, or_comm}
use lib.Dec.{leb, eqb}
use lib.Pow.{shl_exact}
use lib.ListN.{length, get_or, set, replicate}
use lib.Seq.{get_or-set_same, get_or-set_other}
use Rattle.prelude.specs.Bits.{bit_of}
use Rattle.prelude.specs.Choice.{choose}
use Rattle.prelude.specs.Parts.{sum}
use Rattle.prelude.proofs.Bits.{bit_or_lem, bit_xor_lem, bit_single}
use Rattle.prelude.proofs.Choice.{choose_yes, choose_no, choose_same, or_choose}
use Rattle.image.specs.Rows.{row_at}
use Rattle.shapes.specs.Forms.{own_types}
use Rattle.shapes.proofs.Rows.{own_step, own_end}
use Rattle.shapes.proofs.Layouts.{decide}
use Rattle.objects.specs.Begins.{among}
use Rattle.objects.specs.Looking.{Edges, AtEdges, LowTypes}
use Rattle.objects.specs.Tables.{ROWS}
use Rattle.objects.proofs.Following.{first_alone, sum_append, among_append}
use Rattle.objects.proofs.Looks.{between_start, between_end, none_first, elements_past, row_low}

-- ---- bits

-- bit i alone, as the code makes it
pub one_shifted : (i : ℕ) → i < ROWS → (1 * 2 ^ i) % 2 ^ 64 ≡ 2 ^ i
one_shifted i h = let one : 1 * 2 ^ i ≡ 2 ^ i = omega arith in shl_exact 1 i 64 (omega arith) (omega arith) ∙ one

taken : (b c : Bool) → not (beq (b || c) c) ≡ choose c false b
unfolding choose
taken true true = refl
taken true false = refl
taken false true = refl
taken false false = refl

-- a word without bit i
pub without_bit : (word i w : ℕ) → bit_of (bit_xor (bit_or word (2 ^ i)) (2 ^ i)) w ≡ choose (eqb i w) false (bit_of word w)
without_bit word i w =
    bit_xor_lem w (bit_or word (2 ^ i)) (2 ^ i)
    ∙ rw (bit_or_lem w word (2 ^ i), bit_single i w) (taken (bit_of word w) (eqb i w))

-- a word, and another that is asked first
pub or_bit : (w a b : ℕ) → bit_of (bit_or a b) w ≡ choose (bit_of b w) true (bit_of a w)
or_bit w a b = bit_or_lem w a b ∙ or_choose (bit_of a w) (bit_of b w)

-- ---- one that m cells follow, and one behind them

pub at_same : {p q : ℕ → Bool} {n w a b : ℕ} → ((o : ℕ) → p o ≡ q o) → AtEdges p n w a b → AtEdges q n w a b
at_same {n = n} same h = record {
  start = h.start ∙ same 0;
  end = h.end ∙ same n;
  past = λ o l. sym (same o) ∙ h.past o l;
}

module _ {p q : ℕ → Bool} {m n w a b c d : ℕ} (one : AtEdges p m w a b) (two : AtEdges q n w c d) where
  abbrev both : ℕ → Bool
  both o = choose (p o) true (choose (leb m o) (q (o - m)) false)

  joined_start : (m ≡ 0) ⊎ (m ≡ 0 → ⊥) → bit_of (choose (eqb m 0) (bit_or a c) a) w ≡ both 0
  joined_start (inl e) =
      let none : 0 - m ≡ 0 = omega arith in
      ap (λ word. bit_of word w) (choose_yes _ _ _ (eq-eqb m 0 e) ∙ or_comm a c) ∙ or_bit w c a
      ∙ rw (one.start, two.start)
      (ap (λ x. choose (p 0) true x) (sym (choose_yes _ _ _ (le-leb m 0 (omega arith)) ∙ ap q none)))
  joined_start (inr e) =
      ap (λ word. bit_of word w) (choose_no _ _ _ (ne_eqb m 0 e)) ∙ one.start
      ∙ sym (first_alone (p 0) (choose_no _ _ _ (lt-leb m 0 (omega arith))))

  -- at the end of both
  both_end : both (m + n) ≡ choose (p (m + n)) true (q n)
  both_end =
      ap (λ x. choose (p (m + n)) true x)
      (choose_yes _ _ _ (le-leb m (m + n) (omega arith)) ∙ ap q (add-sub_cancel_left m n))

  joined_end : (n ≡ 0) ⊎ (n ≡ 0 → ⊥) → bit_of (choose (eqb n 0) (bit_or d b) d) w ≡ both (m + n)
  joined_end (inl e) =
      let none : m + n ≡ m = omega arith in
      ap (λ word. bit_of word w) (choose_yes _ _ _ (eq-eqb n 0 e)) ∙ or_bit w d b
      ∙ rw (one.end, two.end) (sym (both_end ∙ ap (λ o. choose (p o) true (q n)) none))
  joined_end (inr e) =
      ap (λ word. bit_of word w) (choose_no _ _ _ (ne_eqb n 0 e)) ∙ two.end
      ∙ sym (both_end ∙ choose_no _ _ _ (one.past (m + n) (omega arith)))

  pub at_both : AtEdges both (m + n) w (choose (eqb m 0) (bit_or a c) a) (choose (eqb n 0) (bit_or d b) d)
  at_both = record {
    start = joined_start (decide m 0);
    end = joined_end (decide n 0);
    past = λ o h. choose_no _ _ _ (one.past o (omega arith))
        ∙ ap (λ x. choose (leb m o) x false) (two.past (o - m) (omega arith)) ∙ choose_same (leb m o) false;
  }

-- ---- a row of the tables

module _ {deeper : ℕ → ℕ → Bool} {size : ℕ → ℕ} {w : ℕ} where
  pub edges_none : (starts ends : List ℕ) → Edges deeper size w 0 starts ends
  edges_none starts ends = record {
    start = λ u l. absurd (omega arith);
    end = λ u l. absurd (omega arith);
    past = λ u o l. absurd (omega arith);
  }

  module _ {m : ℕ} {starts ends : List ℕ} (edges : Edges deeper size w m starts ends) where
    pub edges_row : {u : ℕ} → u < m → AtEdges (deeper u) (size u) w (get_or starts u 0) (get_or ends u 0)
    edges_row {u} low = record {
      start = edges.start u low;
      end = edges.end u low;
      past = λ o l. edges.past u o low l;
    }

    -- a row more is written
    pub edges_more : m < length starts → m < length ends → {x y : ℕ} → AtEdges (deeper m) (size m) w x y
        → Edges deeper size w (m + 1) (set starts m x) (set ends m y)
    edges_more a b {x} {y} row = record {
      start = λ u l. first u l (dec_lt u m);
      end = λ u l. last u l (dec_lt u m);
      past = λ u o l. beyond u o l (dec_lt u m);
    }
      where
        first : (u : ℕ) → u < m + 1 → Dec (u < m) → bit_of (get_or (set starts m x) u 0) w ≡ deeper u 0
        first u l (yes k) = ap (λ word. bit_of word w) (get_or-set_other starts m u x 0 (omega arith)) ∙ edges.start u k
        first u l (no k) =
            let same : u ≡ m = omega arith in
            rw same (ap (λ word. bit_of word w) (get_or-set_same starts m x 0 a) ∙ row.start)

        last : (u : ℕ) → u < m + 1 → Dec (u < m) → bit_of (get_or (set ends m y) u 0) w ≡ deeper u (size u)
        last u l (yes k) = ap (λ word. bit_of word w) (get_or-set_other ends m u y 0 (omega arith)) ∙ edges.end u k
        last u l (no k) =
            let same : u ≡ m = omega arith in
            rw same (ap (λ word. bit_of word w) (get_or-set_same ends m y 0 b) ∙ row.end)

        beyond : (u o : ℕ) → u < m + 1 → Dec (u < m) → size u < o → deeper u o ≡ false
        beyond u o l (yes k) h = edges.past u o k h
        beyond u o l (no k) h =
            let same : u ≡ m = omega arith in
            rw same (row.past o (rw same at h))

    -- ---- elements

    module _ {e : ℕ} (low : e < m) (n : ℕ) (least : 1 ≤ n) where
      at_start : Dec (0 < size e) → bit_of (get_or starts e 0) w ≡ among deeper size (replicate n e) 0
      at_start (yes some) = rw (zero-mul (size e)) at (between_start edges low n 0 some least refl refl)
      at_start (no none) = none_first edges low n (omega arith) refl least refl

      at_end : Dec (0 < size e) → bit_of (get_or ends e 0) w ≡ among deeper size (replicate n e) (n * size e)
      at_end (yes some) = between_end edges low n n some (omega arith) refl refl
      at_end (no none) =
          let empty : size e ≡ 0 = omega arith in
          edges.end e low ∙ ap (λ o. deeper e o) empty ∙ sym (edges.start e low)
          ∙ none_first edges low n empty (ap (λ k. n * k) empty ∙ mul-zero n) least refl

      pub at_many : AtEdges (among deeper size (replicate n e)) (n * size e) w (get_or starts e 0) (get_or ends e 0)
      at_many = record {
        start = at_start (dec_lt 0 (size e));
        end = at_end (dec_lt 0 (size e));
        past = λ o h. elements_past edges low n o h;
      }

-- ---- fields, a row at a time

module _ (deeper : ℕ → ℕ → Bool) (size : ℕ → ℕ) (w : ℕ) where
  -- the words of the first of these types, which have n cells; the rest follows them
  pub record Joined (whole rest : List ℕ) (n first last : ℕ) : Type 0 where
    pub types : List ℕ
    pub all : whole ≡ types ++ rest
    pub cells : sum (map size types) ≡ n
    pub words : AtEdges (among deeper size types) n w first last

  among_one : (u o : ℕ) → among deeper size (u ∷ []) o ≡ deeper u o
  unfolding among
  among_one u o = first_alone (deeper u o) (choose_same (leb (size u) o) false)

  sum_more : (l : List ℕ) (u : ℕ) → sum (map size (l ++ (u ∷ []))) ≡ sum (map size l) + size u
  unfolding sum
  sum_more l u = omega (arith, sum_append size l (u ∷ []))

  append_at : (l : List ℕ) (u o : ℕ) → among deeper size (l ++ (u ∷ [])) o
      ≡ choose (among deeper size l o) true (choose (leb (sum (map size l)) o) (deeper u (o - sum (map size l))) false)
  append_at l u o =
      among_append deeper size l (u ∷ []) o ∙ rw (among_one u (o - sum (map size l)))

  pub joined_none : (l : List ℕ) {rest : List ℕ} {n first last : ℕ} → sum (map size l) ≡ n
      → AtEdges (among deeper size l) n w first last → Joined (l ++ rest) rest n first last
  joined_none l cells words = record { types = l; all = refl; cells = cells; words = words }

  pub joined_next : {m : ℕ} {starts ends : List ℕ} → Edges deeper size w m starts ends → {u : ℕ} → u < m
      → {whole rest : List ℕ} {n first last : ℕ} → Joined whole (u ∷ rest) n first last
      → Joined whole rest (n + size u) (choose (eqb n 0) (bit_or first (get_or starts u 0)) first)
      (choose (eqb (size u) 0) (bit_or (get_or ends u 0) last) (get_or ends u 0))
  joined_next edges {u} low {rest = rest} {n = n} h = record {
    types = h.types ++ (u ∷ []);
    all = h.all ∙ sym (append_assoc h.types (u ∷ []) rest);
    cells = sum_more h.types u ∙ ap (λ k. k + size u) h.cells;
    words = at_same (λ o. rw (← h.cells) (sym (append_at h.types u o))) (at_both h.words (edges_row edges low));
  }

  pub joined_all : {whole : List ℕ} {n first last : ℕ} → Joined whole [] n first last
      → AtEdges (among deeper size whole) (sum (map size whole)) w first last
  joined_all h =
      let same = h.all ∙ append-nil h.types in
      rw (same, h.cells) h.words

  module _ {m : ℕ} {starts ends : List ℕ} (edges : Edges deeper size w m starts ends) {f : List ℕ} {k e : ℕ}
      (lows : LowTypes f k e m) {j : ℕ} {whole : List ℕ} {n first last : ℕ}
      (h : Joined whole (own_types f j (e - j)) n first last) where
    pub field_more : k ≤ j → j < e → {u own x y : ℕ} → u ≡ (row_at f j).a → own ≡ size u
        → x ≡ choose (eqb n 0) (bit_or first (get_or starts u 0)) first
        → y ≡ choose (eqb own 0) (bit_or (get_or ends u 0) last) (get_or ends u 0)
        → Joined whole (own_types f (j + 1) (e - (j + 1))) (n + own) x y
    field_more least more {u} this is p q =
        let row = own_step f j e more in
        rw (p, q, is, this) (joined_next edges (rw this at (row_low lows least more this)) (rw row at h))

    pub field_end : e ≤ j → AtEdges (among deeper size whole) (sum (map size whole)) w first last
    field_end past = joined_all (rw (own_end f j e past) at h)
