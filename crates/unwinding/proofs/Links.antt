-- Laws of links as the code reads them.
use mathlib.Core.Path.{◌≡◌, ◌∙◌, ap}
use mathlib.Core.Bool.{Bool, true, false}
use mathlib.Core.List.{List}
use Prim.Native.Nat.{ℕ, ◌+◌, ◌-◌, ◌*◌, ◌/◌, ◌%◌, ◌≤◌, ◌<◌}
use native.Mathlib.Omega.{arith}
use native.Mathlib.Nat.{mul-add-div_right, mul-add-mod_self_right, div-eq_of_lt, mod-eq_of_lt}
use borrow.Author.Tests.{lt-ltb, eqb-true, eq-eqb, ne_eqb}
use lib.Dec.{ltb, eqb}
use lib.IntN.{ℤ, pos, negsuc}
use lib.ListN.{get_or}
use Rattle.prelude.specs.Choice.{choose}
use Rattle.prelude.proofs.Choice.{choose_yes, same_truth}
use Rattle.semantics.specs.Memory.{mark_of, bare, cell_at, mark_at}
use Rattle.unwinding.specs.Links.{mark_number, link_at, spot_of}
use Rattle.std.specs.Prelude.{Some, None}

-- a number of 16 bits is read as it is
pub link_is : (top : ℕ) (store : List ℤ) (a n : ℕ) → a < top → get_or store a (pos 0) ≡ pos n → n < 65536
    → link_at top store a ≡ n
unfolding link_at mark_at bare cell_at mark_of mark_number
link_is top store a n low e small =
    ap mark_number
    (choose_yes (ltb a top) _ _ (lt-ltb a top low) ∙ ap mark_of e ∙ choose_yes _ _ _ (lt-ltb n 65536 small))

number_back : (z : ℤ) (n : ℕ) → mark_number (mark_of z) ≡ n → n < 65535 → z ≡ pos n
unfolding mark_number mark_of choose
number_back (pos m) n e low = go (ltb m 65536) e
  where
    go : (b : Bool) → mark_number (choose b (Some m) None) ≡ n → pos m ≡ pos n
    go true h = ap pos h
    go false h = absurd (omega arith)
number_back (negsuc m) n e low = absurd (omega arith)

-- a link that is read as another number than that of none is in its cell
pub link_back : (top : ℕ) (store : List ℤ) (a n : ℕ) → link_at top store a ≡ n → n < 65535
    → get_or store a (pos 0) ≡ pos n
unfolding link_at mark_at bare cell_at choose mark_number
link_back top store a n e low = go (ltb a top) e
  where
    go : (b : Bool) → mark_number (choose b (mark_of (get_or store a (pos 0))) None) ≡ n
        → get_or store a (pos 0) ≡ pos n
    go true h = number_back (get_or store a (pos 0)) n h low
    go false h = absurd (omega arith)

-- a packed frame
pub spot_is : (q b : ℕ) → b < 65536 → spot_of (q * 65536 + b) ≡ record { procedure = q; base = b }
unfolding spot_of
spot_is q b low =
    let front : (q * 65536 + b) / 65536 ≡ q =
    mul-add-div_right (omega arith) q b ∙ rw (div-eq_of_lt low) (omega arith) in
    let back : (q * 65536 + b) % 65536 ≡ b = mul-add-mod_self_right q 65536 b ∙ mod-eq_of_lt low in
    rw (front, back)

-- ---- where a frame ends

pub end_short : (b e : ℕ) {size frame : ℕ} → size ≡ frame → e < size → eqb e (b + frame) ≡ false
end_short b e {size} {frame} is short = ne_eqb _ _ (λ (same : e ≡ b + frame). absurd (omega arith))

pub end_same : (b e : ℕ) {size frame : ℕ} → size ≡ frame → size ≤ e → eqb b (e - size) ≡ eqb e (b + frame)
end_same b e {size} {frame} is most =
    same_truth _ _
    (λ x. let y = eqb-true b (e - size) x in eq-eqb e (b + frame) (omega arith))
    (λ x. let y = eqb-true e (b + frame) x in eq-eqb b (e - size) (omega arith))
