-- What reading the next record of a pack answers, and what it leaves in the buffer.
use Rattle.std.specs.Prelude.{ℕ, ◌≤◌, ◌≡◌, Option, Result, Ok, Err, List, ◌++◌, length, take, drop}
use Rattle.std.specs.Io.KnownBytes.{Consumes}
use Rattle.image.specs.Rows.{word_at}
use Rattle.packs.specs.declared.PackEnd.{PackEnd}
use Rattle.packs.specs.declared.PackEnd.TheVariants.{NoRecord, CutShort}

-- a buffer whose first n bytes were read: those behind are as they were. What was read is said by `Taken`, for a reader
-- whose bytes are known; those of a file and of standard input are not
pub record ReadTo (n : ℕ) (old new : List ℕ) : Type 0 where
  pub within : n ≤ length old
  pub same : length new ≡ length old
  pub behind : drop n new ≡ drop n old

-- the buffer before, the answer, the buffer after
pub data NextRecord (old : List ℕ) : Result ℕ PackEnd → List ℕ → Type 0 where
  -- a record of n bytes stands at the start of the buffer
  whole : {n : ℕ} {new : List ℕ} → ReadTo n old new → NextRecord old (Ok n) new
  -- the pack is at its end, or the record is longer than the buffer, which is as it was
  none : NextRecord old (Err NoRecord) old
  -- the pack ends within a record of n bytes
  cut : {n : ℕ} {new : List ℕ} → ReadTo n old new → NextRecord old (Err CutShort) new

-- what a reader loses by a record of n bytes at the start of the buffer, where its bytes are known: the record's length
-- in 4 bytes, and then its bytes
pub record Taken (before after : Option (List ℕ)) (n : ℕ) (new : List ℕ) : Type 0 where
  pub head : List ℕ
  pub size : length head ≡ 4
  pub says : word_at head 0 ≡ n
  pub bytes : Consumes before after (head ++ take n new)
