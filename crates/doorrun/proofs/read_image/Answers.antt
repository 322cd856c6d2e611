-- What a read puts behind the bytes that are there is what the reader loses.
use Rattle.std.proofs.Common.{◌≡◌, ℕ, ◌+◌, ◌≤◌, List, ◌++◌, rules, length, take, drop, sym, ap, ◌∙◌, subst}
use Rattle.std.proofs.Common.{drop_at, length-take-le}
use Rattle.std.specs.Io.KnownBytes.{Consumes}
use Rattle.std.proofs.KnownBytes.{Consumes-trans}
use borrow.Rule.Slice.PartMut.{put_mid, post_of, take_put}
use lib.Seq.{take-add, take-append-le}
use Rattle.doorrun.proofs.read_image.Goals as goal

read_more : (at n k : ℕ) (xs ys : List ℕ) → at ≤ length xs → n ≤ length ys
    → take at xs ++ take n ys ≡ take (at + n) (put_mid at k xs ys)
read_more at n k xs ys p q =
    let after = post_of at k xs in
    sym
    (take-add at n (put_mid at k xs ys)
    ∙ ap (λ l. l ++ take n (drop at (put_mid at k xs ys))) (take_put at k xs ys p)
    ∙ ap (λ l. take at xs ++ take n l) (drop_at (take at xs) (ys ++ after) at (length-take-le at xs p))
    ∙ ap (λ l. take at xs ++ l) (take-append-le n ys after q))

pub loop-done-preserved : goal.loop-done-preserved
loop-done-preserved g c =
    let l = c.loop-done in
    let more = read_more l.done c.in-Ok.n _ l.image c.read.new.buf l.invariant.0 c.in-Ok.ensures.bound.0 in
    (search rules, subst (Consumes _ _) more (Consumes-trans _ _ _ _ _ l.invariant.1 c.in-Ok.ensures.bytes.0))
