-- Laws of elements, parts and joined lists.
use mathlib.Core.Path.{◌≡◌, refl, sym, ◌∙◌, ap}
use mathlib.Core.List.{List, [], ◌∷◌, ◌++◌, map, append_assoc, append-nil}
use mathlib.Core.Option.{some}
use Prim.Native.Nat.{ℕ, zero, suc, ◌+◌, ◌-◌, ◌*◌, ◌≤◌, ◌<◌}
use native.Mathlib.Nat.{zero-mul, suc-mul}
use native.Mathlib.Omega.{arith}
use lib.ListN.{length, take, drop, replicate, get_elem?, length-append, length-drop, length-map}
use lib.Seq.{drop-append-le, drop-drop, drop-append_seam}
use Rattle.prelude.specs.Parts.{joined, sum, Nth, Part}
use Rattle.prelude.specs.Parts.Nth.{here, there}

module _ {X : Type 0} where
  pub nth : (l : List X) (n : ℕ) (x : X) → get_elem? l n ≡ some x → Nth l n x
  nth [] n x e = let z : ◌≡◌ {A = ℕ} 0 1 = cc in absurd (omega arith)
  nth (y ∷ l) zero x e = let q : y ≡ x = cc in rw q here
  nth (y ∷ l) (suc n) x e = there (nth l n x e)

  pub nth_nil : {n : ℕ} {x : X} → Nth [] n x → ⊥
  nth_nil h = elim h [ ]

  pub nth_lt : {l : List X} {n : ℕ} {x : X} → Nth l n x → n ≤ length l
  nth_lt here = omega arith
  nth_lt (there h) = let i = nth_lt h in omega arith

  pub nth_is : {l : List X} {n : ℕ} {x : X} → Nth l n x → get_elem? l n ≡ some x
  nth_is here = refl
  nth_is (there h) = nth_is h

  pub nth_map : {Y : Type 0} (f : X → Y) {l : List X} {n : ℕ} {x : X} → Nth l n x → Nth (map f l) n (f x)
  nth_map f here = here
  nth_map f (there h) = there (nth_map f h)

  pub nth_more : {l : List X} {n : ℕ} {x : X} (m : List X) → Nth l n x → Nth (l ++ m) n x
  nth_more m here = here
  nth_more m (there h) = there (nth_more m h)

  pub nth_replicate : (n i : ℕ) (x : X) → i < n → Nth (replicate n x) i x
  nth_replicate zero i x h = absurd (omega arith)
  nth_replicate (suc n) zero x h = here
  nth_replicate (suc n) (suc i) x h = there (nth_replicate n i x (omega arith))

  part_length : {l xs : List X} {a : ℕ} (p : Part l a xs) → length xs + length p.rest + a ≡ length l
  part_length {l} {xs} {a} p = let w = p.within in omega (arith, length-append xs p.rest, length-drop a l, ap length p.seen)

  pub part_part : {l xs ys : List X} {a b : ℕ} → Part l a xs → Part xs b ys → Part l (a + b) ys
  part_part {l} {xs} {ys} {a} {b} p q = record {
    rest = q.rest ++ p.rest;
    seen = sym (drop-drop b a l) ∙ ap (drop b) p.seen ∙ drop-append-le b xs p.rest q.within ∙ ap (λ (m : List X). m ++ p.rest) q.seen ∙ append_assoc ys q.rest p.rest;
    within = let w = q.within in omega (arith, part_length p);
  }

  pub part_more : {l xs : List X} {a : ℕ} (m : List X) → Part l a xs → Part (l ++ m) a xs
  part_more {l} {xs} {a} m p = record {
    rest = p.rest ++ m;
    seen = drop-append-le a l m p.within ∙ ap (λ (r : List X). r ++ m) p.seen ∙ append_assoc xs p.rest m;
    within = let w = p.within in omega (arith, length-append l m);
  }

  pub part_back : (l m : List X) → Part (l ++ m) (length l) m
  part_back l m = record { rest = []; seen = drop-append_seam l m ∙ sym (append-nil m); within = omega (arith, length-append l m) }

  -- element n of a list of lists stands behind the ones before it
  pub part_joined : {ls : List (List X)} {n : ℕ} {xs : List X} → Nth ls n xs → Part (joined ls) (length (joined (take n ls))) xs
  unfolding joined
  part_joined (here {x = x} {l = l}) = record { rest = joined l; seen = refl; within = omega arith }
  part_joined (there {x = x} {y = y} {l = l} {n = n} h) = rw length-append (part_part (part_back y (joined l)) (part_joined h))

  pub joined_replicate : (i n : ℕ) (x : List X) → i ≤ n → length (joined (take i (replicate n x))) ≡ i * length x
  unfolding joined
  joined_replicate zero n x h = sym (zero-mul (length x))
  joined_replicate (suc i) zero x h = absurd (omega arith)
  joined_replicate (suc i) (suc n) x h = omega (arith, length-append x (joined (take i (replicate n x))), joined_replicate i n x (omega arith), suc-mul i (length x))

pub joined_map_append : {X Y : Type 0} (f : X → List Y) (l m : List X) → joined (map f (l ++ m)) ≡ joined (map f l) ++ joined (map f m)
unfolding joined
joined_map_append f [] m = refl
joined_map_append f (x ∷ l) m = ap (λ r. f x ++ r) (joined_map_append f l m) ∙ sym (append_assoc (f x) (joined (map f l)) (joined (map f m)))

drop_map : {X Y : Type 0} (f : X → Y) (n : ℕ) (l : List X) → drop n (map f l) ≡ map f (drop n l)
drop_map f zero l = refl
drop_map f (suc n) [] = refl
drop_map f (suc n) (x ∷ l) = drop_map f n l

pub take_map : {X Y : Type 0} (f : X → Y) (n : ℕ) (l : List X) → take n (map f l) ≡ map f (take n l)
take_map f zero l = refl
take_map f (suc n) [] = refl
take_map f (suc n) (x ∷ l) = ap (λ r. f x ∷ r) (take_map f n l)

pub map_append : {X Y : Type 0} (f : X → Y) (l m : List X) → map f (l ++ m) ≡ map f l ++ map f m
map_append f [] m = refl
map_append f (x ∷ l) m = ap (λ r. f x ∷ r) (map_append f l m)

pub part_map : {X Y : Type 0} (f : X → Y) {l xs : List X} {at : ℕ} → Part l at xs → Part (map f l) at (map f xs)
part_map f {l} {xs} {at} p = record {
  rest = map f p.rest;
  seen = drop_map f at l ∙ ap (map f) p.seen ∙ map_append f xs p.rest;
  within = let w = p.within in omega (arith, length-map l f);
}

-- the first element of a part stands at its place
pub part_nth : {X : Type 0} {l xs : List X} {at : ℕ} {x : X} → Part l at (x ∷ xs) → Nth l at x
part_nth {l = l} {xs} {at} {x} p = go l at p.seen
  where
    go : (l : List _) (at : ℕ) → drop at l ≡ x ∷ xs ++ p.rest → Nth l at x
    go [] zero e = let z : ◌≡◌ {A = ℕ} 0 1 = cc in absurd (omega arith)
    go [] (suc n) e = let z : ◌≡◌ {A = ℕ} 0 1 = cc in absurd (omega arith)
    go (y ∷ l) zero e = let q : y ≡ x = cc in rw q here
    go (y ∷ l) (suc n) e = there (go l n e)
