-- Laws of names, and of the bytes that say how often each row is named.
use mathlib.Core.Path.{◌≡◌, refl, sym, ◌∙◌, ap}
use mathlib.Core.List.{List, [], ◌∷◌, ◌++◌, append_assoc, append-nil}
use mathlib.Core.Bool.{Bool, true, false}
use Prim.Native.Nat.{ℕ, zero, suc, ◌+◌, ◌-◌, ◌≤◌, ◌<◌, min}
use native.Mathlib.Omega.{arith}
use native.Mathlib.Decide.{dec_lt, ℕ_discrete}
use native.Mathlib.Nat.{add-zero}
use native.Mathlib.Numerals.{add-one}
use borrow.Author.Tests.{eq-eqb, ne_eqb}
use lib.Dec.{eqb}
use lib.ListN.{length, get_or, set, replicate, take, drop, length-set, length-append, length-drop, get_or-append}
use lib.Seq.{get_or-set_same, get_or-set_other, get_or-take, get_or-drop, length-take-le}
use Rattle.std.proofs.lemmas.List.{get_or-append_right}
use Rattle.prelude.specs.Choice.{choose}
use Rattle.image.specs.declared.Row.{Row}
use Rattle.image.specs.Rows.{row_at, rows_of}
use Rattle.image.specs.Faults.{lowest_fault}
use Rattle.image.proofs.Faults.{verdict_same}
use Rattle.names.specs.Names.{names_of_node, names_of_statement, rows_from, names_from, names_in}
use Rattle.names.specs.Names.{count_in, named_once, question9}
use Rattle.names.specs.declared.Often.{Often}
use Rattle.names.specs.declared.Often.TheVariants.{Never, More}
use Rattle.names.specs.Often.{often_of, is_once, Says, more, after, Named}
use Rattle.names.specs.Often.{node_names_a, node_names_b, statement_names_a}

-- ---- names

-- one row more
names_snoc : (f : ℕ → List ℕ) (i n : ℕ) → names_from f i (suc n) ≡ names_from f i n ++ f (i + n)
unfolding names_from
names_snoc f i zero = rw add-zero (append-nil (f i))
names_snoc f i (suc n) =
    let q : i + 1 + n ≡ i + suc n = omega arith in
    ap (λ (l : List ℕ). f i ++ l) (rw q at (names_snoc f (i + 1) n))
    ∙ sym (append_assoc (f i) (names_from f (i + 1) n) (f (i + suc n)))

names_next : (f : ℕ → List ℕ) (n : ℕ) → names_from f 0 (n + 1) ≡ names_from f 0 n ++ f n
names_next f n = let q : 0 + n ≡ n = omega arith in rw (add-one n) (rw q at (names_snoc f 0 n))

count_both : (k : ℕ) (xs ys : List ℕ) → count_in k (xs ++ ys) ≡ count_in k xs + count_in k ys
unfolding count_in
count_both k [] ys = omega arith
count_both k (x ∷ xs) ys = let e = count_both k xs ys in omega arith

-- rows from b on are none below it
count_below : (k b n : ℕ) → k < b → count_in k (rows_from b n) ≡ 0
unfolding count_in rows_from choose
count_below k b zero h = refl
count_below k b (suc n) h =
    let rest = count_below k (b + 1) n (omega arith) in
    rw (ne_eqb b k (omega arith)) (omega arith)

-- above it and below b + n each is once, and none is past them
count_within : (k b n : ℕ) → b ≤ k → k < b + n → count_in k (rows_from b n) ≡ 1
unfolding count_in rows_from choose
count_within k b zero low high = absurd (omega arith)
count_within k b (suc n) low high = go (ℕ_discrete b k) (λ h. count_within k (b + 1) n h (omega arith))
  where
    go : Dec (b ≡ k) → (b + 1 ≤ k → count_in k (rows_from (b + 1) n) ≡ 1)
        → choose (eqb b k) 1 0 + count_in k (rows_from (b + 1) n) ≡ 1
    go (yes q) rest = let none = count_below k (b + 1) n (omega arith) in rw (eq-eqb b k q) (omega arith)
    go (no q) rest = let one = rest (omega arith) in rw (ne_eqb b k q) (omega arith)

count_past : (k b n : ℕ) → b + n ≤ k → count_in k (rows_from b n) ≡ 0
unfolding count_in rows_from choose
count_past k b zero h = refl
count_past k b (suc n) h =
    let rest = count_past k (b + 1) n (omega arith) in
    rw (ne_eqb b k (omega arith)) (omega arith)

-- ---- a byte

after_both : (m n : ℕ) (byte : Often) → after (m + n) byte ≡ after n (after m byte)
unfolding after
after_both zero n byte = let q : 0 + n ≡ n = omega arith in rw q refl
after_both (suc m) n byte = let q : suc m + n ≡ suc (m + n) = omega arith in rw q (after_both m n (more byte))

-- more often stays so
more_stays : (count : ℕ) → after count More ≡ More
unfolding after more choose
more_stays zero = refl
more_stays (suc count) = more_stays count

-- a byte that was never is the one of the three that holds
after_never : (count : ℕ) → after count Never ≡ often_of count
unfolding after more often_of choose
after_never zero = refl
after_never (suc zero) = refl
after_never (suc (suc count)) =
    rw (ne_eqb (suc (suc count)) 0 (omega arith), ne_eqb (suc (suc count)) 1 (omega arith)) (more_stays count)

often_once : (count : ℕ) → is_once (often_of count) ≡ eqb count 1
unfolding is_once often_of choose
often_once zero = refl
often_once (suc zero) = refl
often_once (suc (suc count)) =
    rw (ne_eqb (suc (suc count)) 0 (omega arith), ne_eqb (suc (suc count)) 1 (omega arith)) refl

-- ---- a table of bytes

-- names of rows that it does not have
named_past : (names : List ℕ) (bytes : List Often) → ((k : ℕ) → k < length bytes → count_in k names ≡ 0)
    → Named names bytes bytes
unfolding after
named_past names bytes none = record { rows = refl; each = λ k h. rw (none k h) }

pub named_none : (bytes : List Often) → Named [] bytes bytes
unfolding count_in
named_none bytes = named_past [] bytes (λ k h. refl)

pub named_both : {xs ys : List ℕ} {old bytes bytes' : List Often} → Named xs old bytes → Named ys bytes bytes'
    → Named (xs ++ ys) old bytes'
named_both {xs} {ys} {old} {bytes} {bytes'} first second = record {
  rows = second.rows ∙ first.rows;
  each = λ k h.
      let here : k < length bytes = rw first.rows h in
      rw (count_both k xs ys, after_both (count_in k xs) (count_in k ys) (get_or old k Never), ← first.each k h)
      (second.each k here);
}

-- a name of a row that there is
named_one : (bytes : List Often) (x : ℕ) {byte : Often} → x < length bytes → byte ≡ more (get_or bytes x Never)
    → Named (x ∷ []) bytes (set bytes x byte)
unfolding count_in after choose
named_one bytes x {byte} room e = record { rows = length-set bytes x byte; each = λ k h. go k (ℕ_discrete k x) }
  where
    go : (k : ℕ) → Dec (k ≡ x)
        → get_or (set bytes x byte) k Never ≡ after (choose (eqb x k) 1 0 + 0) (get_or bytes k Never)
    go k (yes q) = rw (q, eq-eqb x x refl) (get_or-set_same bytes x byte Never room ∙ e)
    go k (no q) = rw (ne_eqb x k (λ r. q (sym r))) (get_or-set_other bytes x k byte Never q)

-- a number that is a name, of a row that there is or not, or that is none
module _ (named : Bool) (bytes : List Often) (x : ℕ) where
  pub name_there : named ≡ true → x < length bytes → {byte : Often} → byte ≡ more (get_or bytes x Never)
      → Named (choose named (x ∷ []) []) bytes (set bytes x byte)
  unfolding choose
  name_there q room e = rw q (named_one bytes x room e)

  pub name_beyond : named ≡ true → length bytes ≤ x → Named (choose named (x ∷ []) []) bytes bytes
  unfolding count_in choose
  name_beyond q beyond = rw q (named_past (x ∷ []) bytes (λ k h. rw (ne_eqb x k (omega arith))))

  pub no_name : named ≡ false → Named (choose named (x ∷ []) []) bytes bytes
  unfolding choose
  no_name q = rw q (named_none bytes)

-- ---- what a row names: its numbers a and b, where these are names, and the arguments of a call

operands : Row → Bool → Bool → List ℕ
operands row a b = choose a (row.a ∷ []) [] ++ choose b (row.b ∷ []) []

node_names : (row : Row) → operands row (node_names_a row.kind) (node_names_b row.kind) ≡ names_of_node row
unfolding operands node_names_a node_names_b names_of_node choose
node_names row = let k = row.kind in
    go (ℕ_discrete k 2) (ℕ_discrete k 3) (ℕ_discrete k 5) (ℕ_discrete k 6) (ℕ_discrete k 8)
  where
    go : Dec (row.kind ≡ 2) → Dec (row.kind ≡ 3) → Dec (row.kind ≡ 5) → Dec (row.kind ≡ 6) → Dec (row.kind ≡ 8)
        → operands row (node_names_a row.kind) (node_names_b row.kind) ≡ names_of_node row
    go (yes q) d e f g = rw q refl
    go (no c) (yes q) e f g = rw q refl
    go (no c) (no d) (yes q) f g = rw q refl
    go (no c) (no d) (no e) (yes q) g = rw q refl
    go (no c) (no d) (no e) (no f) (yes q) = rw q refl
    go (no c) (no d) (no e) (no f) (no g) =
        rw (ne_eqb _ 2 c, ne_eqb _ 3 d, ne_eqb _ 5 e, ne_eqb _ 6 f, ne_eqb _ 8 g) refl

pub node_named : (row : Row) {a b : Bool} {old bytes bytes' : List Often}
    → a ≡ node_names_a row.kind → b ≡ node_names_b row.kind
    → Named (choose a (row.a ∷ []) []) old bytes → Named (choose b (row.b ∷ []) []) bytes bytes'
    → Named (names_of_node row) old bytes'
unfolding operands
node_named row {a} {b} p q first second =
    let both : operands row a b ≡ names_of_node row = rw (p, q) (node_names row) in
    rw both at (named_both first second)

module _ (p : List ℕ) (row : Row) where
  -- the arguments, of a call
  passed : List ℕ
  passed = choose (eqb row.kind 1) (rows_from row.b (row_at p row.a).b) []

  statement_names : operands row (statement_names_a row.kind) (eqb row.kind 0) ++ passed ≡ names_of_statement p row
  unfolding operands passed statement_names_a names_of_statement choose
  statement_names = let k = row.kind in
      go (ℕ_discrete k 0) (ℕ_discrete k 1) (ℕ_discrete k 2) (ℕ_discrete k 5) (ℕ_discrete k 6) (ℕ_discrete k 7)
    where
      go : Dec (row.kind ≡ 0) → Dec (row.kind ≡ 1) → Dec (row.kind ≡ 2)
          → Dec (row.kind ≡ 5) → Dec (row.kind ≡ 6) → Dec (row.kind ≡ 7)
          → operands row (statement_names_a row.kind) (eqb row.kind 0) ++ passed ≡ names_of_statement p row
      go (yes q) d e f g h = rw q refl
      go (no c) (yes q) e f g h = rw q refl
      go (no c) (no d) (yes q) f g h = rw q refl
      go (no c) (no d) (no e) (yes q) g h = rw q refl
      go (no c) (no d) (no e) (no f) (yes q) h = rw q refl
      go (no c) (no d) (no e) (no f) (no g) (yes q) = rw q refl
      go (no c) (no d) (no e) (no f) (no g) (no h) =
          rw (ne_eqb _ 0 c, ne_eqb _ 1 d, ne_eqb _ 2 e, ne_eqb _ 5 f, ne_eqb _ 6 g, ne_eqb _ 7 h) refl

  module _ {a b : Bool} {old bytes bytes' : List Often}
      (at_a : a ≡ statement_names_a row.kind) (at_b : b ≡ eqb row.kind 0)
      (first : Named (choose a (row.a ∷ []) []) old bytes)
      (second : Named (choose b (row.b ∷ []) []) bytes bytes') where
    with_passed : {bytes'' : List Often} → Named passed bytes' bytes'' → Named (names_of_statement p row) old bytes''
    unfolding operands
    with_passed rest =
        let all : operands row a b ++ passed ≡ names_of_statement p row = rw (at_a, at_b) statement_names in
        rw all at (named_both (named_both first second) rest)

    -- a call, and any other
    pub call_named : row.kind ≡ 1 → {bytes'' : List Often} → Named (rows_from row.b (row_at p row.a).b) bytes' bytes''
        → Named (names_of_statement p row) old bytes''
    unfolding passed choose
    call_named q rest = with_passed (rw (eq-eqb row.kind 1 q) rest)

    pub statement_named : (row.kind ≡ 1 → ⊥) → Named (names_of_statement p row) old bytes'
    unfolding passed choose
    statement_named q = with_passed (rw (ne_eqb row.kind 1 q) (named_none bytes'))

-- ---- the loops

-- a row of a table more
pub named_next : (f : ℕ → List ℕ) (i : ℕ) {xs : List ℕ} {old bytes bytes' : List Often}
    → Named (names_from f 0 i) old bytes
    → Named xs bytes bytes' → xs ≡ f i → Named (names_from f 0 (i + 1)) old bytes'
named_next f i so_far row e = rw (names_next f i) (named_both so_far (rw e at row))

-- a part of the table, from the first of the rows on that are named: each of its bytes is named once more
module _ (from rows first end : ℕ) (old part : List Often)
    (low : first ≡ min (length old) from) (high : end ≡ min (length old) (from + rows))
    (same : length part ≡ length (take (end - first) (drop first old)))
    (named : (j : ℕ) → j < length part
    → get_or part j Never ≡ more (get_or (take (end - first) (drop first old)) j Never)) where
  abbrev rest : List Often
  rest = drop (end - first) (drop first old)

  front : length (take first old) ≡ first
  front = length-take-le first old (omega arith)

  left : length (drop first old) ≡ length old - first
  left = length-drop first old

  long : length part ≡ end - first
  long = same ∙ length-take-le (end - first) (drop first old) (omega (arith, left))

  cell : (k : ℕ) → first ≤ k → get_or (drop first old) (k - first) Never ≡ get_or old k Never
  cell k h = let here : first + (k - first) ≡ k = omega arith in rw here at (get_or-drop first old (k - first) Never)

  pub rows_named : Named (rows_from from rows) old (take first old ++ (part ++ rest))
  unfolding after
  rows_named = record {
    rows = omega (
      arith,
      length-append (take first old) (part ++ rest),
      length-append part rest,
      front,
      long,
      left,
      length-drop (end - first) (drop first old),
    );
    each = λ k h. go k h (dec_lt k first) (dec_lt k end);
  }
    where
      behind : (k : ℕ) → first ≤ k
          → get_or (take first old ++ (part ++ rest)) k Never ≡ get_or (part ++ rest) (k - first) Never
      behind k h = get_or-append_right (take first old) (part ++ rest) first k Never front h

      go : (k : ℕ) → k < length old → Dec (k < first) → Dec (k < end)
          → get_or (take first old ++ (part ++ rest)) k Never
          ≡ after (count_in k (rows_from from rows)) (get_or old k Never)
      go k h (yes l) e =
          rw (count_below k from rows (omega arith))
          (get_or-append (take first old) (part ++ rest) Never k (rw front l) ∙ get_or-take first old k Never l)
      go k h (no l) (yes e) =
          rw (count_within k from rows (omega arith) (omega arith))
          (behind k (omega arith)
          ∙ get_or-append part rest Never (k - first) (omega (arith, long))
          ∙ named (k - first) (omega (arith, long))
          ∙ ap more (get_or-take (end - first) (drop first old) (k - first) Never (omega arith) ∙ cell k (omega arith)))
      go k h (no l) (no e) =
          let at : end - first + (k - first - (end - first)) ≡ k - first = omega arith in
          rw (count_past k from rows (omega arith))
          (behind k (omega arith)
          ∙ get_or-append_right part rest (end - first) (k - first) Never long (omega arith)
          ∙ rw at at (get_or-drop (end - first) (drop first old) (k - first - (end - first)) Never)
          ∙ cell k (omega arith))

-- ---- the verdict

-- a table without names
pub never_yet : (n k : ℕ) → get_or (replicate n Never) k Never ≡ Never
never_yet zero k = refl
never_yet (suc n) zero = refl
never_yet (suc n) (suc k) = never_yet n k

-- after names, each byte says how often its row is among them
pub named_says : {names : List ℕ} {old bytes : List Often} → ((k : ℕ) → get_or old k Never ≡ Never)
    → Named names old bytes
    → Says names bytes
named_says {names} never named =
    record { each = λ k h. named.each k (rw named.rows at h) ∙ rw (never k) (after_never (count_in k names)) }

-- each byte once is question 9's answer
pub says_verdict : (n p s : List ℕ) (bytes : List Often) → Says (names_in n p s) bytes → rows_of n ≤ length bytes
    → lowest_fault (λ k. is_once (get_or bytes k Never)) (rows_of n) ≡ question9 n p s
unfolding question9 named_once
says_verdict n p s bytes says room =
    verdict_same _ _ (rows_of n) (λ k h. rw (says.each k (omega arith)) (often_once (count_in k (names_in n p s))))
