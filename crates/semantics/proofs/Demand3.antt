-- Demand 3: after every number of steps from the fresh state the tagged machine's state is sound, and until it
-- finishes or traps its next step goes on, finishes, or ends in a named trap. It is never stuck.
--
-- The claim is `sound_after`, which is `demand3_from` at the fresh state. The definitions that it cites:
--   check_of                     checker/specs/Check: questions 1 to 11; Ok tt where all pass
--   Bytes                        image/specs/Rows: the image's numbers are bytes
--   program_of, first_top, fresh specs/Running: the image's tables, G + F0, the fresh state
--   tagged, Cell                 specs/Memory: cells with kinds
--   State, Next, step_of         specs/Stepping: a state, what a step comes to, one step
--   Machine, after               specs/After: the machine after n steps
--   Sound                        specs/Sound: sound states
--   Unchanged, NextOk            specs/Demand3: what a trap leaves; a step that goes on, finishes or traps
--   SoundAfter                   specs/Demand3: where the machine stands after n steps
use Rattle.std.specs.Prelude.{Ok}
use mathlib.Core.Path.{◌≡◌, refl}
use mathlib.Core.List.{List}
use Prim.Native.Nat.{ℕ, zero, suc, ◌≤◌}
use lib.IntN.{ℤ}
use lib.ListN.{length}
use Rattle.image.specs.Rows.{Bytes}
use Rattle.header.specs.Header.{tables_in}
use Rattle.header.proofs.Fitting.{part_bytes}
use Rattle.checker.specs.Check.{check_of}
use Rattle.checker.proofs.Accepted.{AcceptedTables, image_accepted}
use Rattle.semantics.specs.Memory.{Cell, tagged}
use Rattle.semantics.specs.Layout.{Program}
use Rattle.semantics.specs.Stepping.{State, Next, step_of}
use Rattle.semantics.specs.Running.{program_of, first_top, fresh}
use Rattle.semantics.specs.Sound.{Sound}
use Rattle.semantics.specs.After.{Machine, moved, after}
use Rattle.semantics.specs.Demand3.{Unchanged, NextOk, NextOk.ok_goes, NextOk.ok_finished, NextOk.ok_trapped}
use Rattle.semantics.specs.Demand3.{SoundAfter, SoundAfter.sound_running, SoundAfter.sound_over}
use Rattle.semantics.specs.Demand3.{SoundAfter.sound_failed}
use Rattle.semantics.proofs.Beginning.{fresh_sound}
use Rattle.semantics.proofs.AnyStep.{step_ok}

-- ---- an image's program

module _ (image : List ℕ) where
  abbrev program : Program
  program = program_of image

  pub program_accepted : check_of image ≡ Ok tt
      → AcceptedTables program.types program.fields program.variables program.procedures program.nodes
      program.statements
  unfolding program_of
  program_accepted accepted = image_accepted image accepted

  pub program_bytes : Bytes image → Bytes program.nodes
  unfolding program_of
  program_bytes bytes = part_bytes image bytes (tables_in image).nodes

-- ---- a trap leaves a sound state

unchanged_sound : {g : Program} {s s' : State Cell} → Sound g s → Unchanged s s' → Sound g s'
unchanged_sound sound same = record {
  newest = sound.newest;
  others = sound.others;
  stack = sound.stack;
  holding = rw (same.registers, same.below) sound.holding;
  inside = rw same.registers sound.inside;
  begins = rw same.registers sound.begins;
  ends = rw same.registers sound.ends;
  stored = rw (same.registers, same.cells) sound.stored;
  lent = rw same.cells sound.lent;
}

-- ---- the claim

module _ (g : Program)
    (ok : AcceptedTables g.types g.fields g.variables g.procedures g.nodes g.statements)
    (bytes : Bytes g.nodes) (input : List ℤ) where
  step_sound : (s : State Cell) → Sound g s → (x : Next Cell) → step_of tagged g input s ≡ x → NextOk g s x
      → (more : State Cell → Machine Cell) → ((u : State Cell) → Sound g u → SoundAfter g input (more u))
      → SoundAfter g input (moved x s more)
  unfolding moved
  step_sound s sound x e (ok_goes {s' = u} next cells output) more f = f u next
  step_sound s sound x e ok_finished more f = sound_over sound e
  step_sound s sound x e (ok_trapped same) more f = sound_failed sound e same (unchanged_sound sound same)

  machine_sound : (n : ℕ) (s : State Cell) → Sound g s → SoundAfter g input (after tagged g input n s)
  unfolding after
  machine_sound zero s sound = sound_running sound (step_ok g ok bytes s sound input)
  machine_sound (suc n) s sound =
      step_sound s sound (step_of tagged g input s) refl (step_ok g ok bytes s sound input) (after tagged g input n)
      (λ u h. machine_sound n u h)

-- from every sound state
pub demand3_from : (image : List ℕ) → Bytes image → check_of image ≡ Ok tt → (input : List ℤ) (s : State Cell)
    → Sound (program_of image) s → (n : ℕ)
    → SoundAfter (program_of image) input (after tagged (program_of image) input n s)
demand3_from image bytes accepted input s sound n =
    machine_sound (program_of image) (program_accepted image accepted) (program_bytes image bytes) input n s sound

-- "Demand 3 is a single claim, about every number of steps from the fresh state"
pub sound_after : (image : List ℕ) → Bytes image → check_of image ≡ Ok tt
    → (input store output : List ℤ) → length store ≤ 65536 → first_top (program_of image) ≤ length store
    → (n : ℕ) → SoundAfter (program_of image) input
    (after tagged (program_of image) input n (fresh tagged (program_of image) store output))
sound_after image bytes accepted input store output most least n =
    demand3_from image bytes accepted input (fresh tagged (program_of image) store output)
    (fresh_sound (program_of image) (program_accepted image accepted) store output most least) n
