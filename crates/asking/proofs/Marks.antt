-- The claims about the mark, of a run and of a continuation: that it is the largest top asked for (`run_mark`,
-- `continue_mark`), that a store cut to it is enough (`run_cut`, `continue_cut`),
-- and one with more cells too (`run_wider`, `continue_wider`), that no cell from it on is written
-- (`run_rest`, `continue_rest`), and that a shorter store is not enough (`run_least`, `continue_least`). The definitions
-- that they cite stand in specs/Marks.
use Rattle.std.specs.Prelude.{Ok}
use mathlib.Core.Path.{◌≡◌, sym, ◌∙◌, ap}
use mathlib.Core.Bool.{true, false}
use mathlib.Core.List.{List}
use Prim.Native.Nat.{ℕ, ◌≤◌, ◌<◌}
use native.Mathlib.Omega.{arith}
use borrow.Author.Tests.{eq-eqb}
use lib.IntN.{ℤ}
use lib.ListN.{length, take, drop, length-map, take-append-drop}
use lib.Seq.{length-take-le, take-take}
use Rattle.prelude.proofs.Choice.{choose_yes, choose_no, not_yes}
use Rattle.prelude.proofs.Parts.{take_map}
use Rattle.image.specs.Rows.{Bytes}
use Rattle.checker.specs.Check.{check_of}
use Rattle.checker.proofs.Accepted.{AcceptedTables}
use Rattle.semantics.specs.Memory.{Cell, tagged, bare}
use Rattle.semantics.specs.Layout.{Program}
use Rattle.semantics.specs.Stepping.{State}
use Rattle.semantics.specs.Running.{program_of, first_top, fresh, run_from, refusal, ran_of, numbers_of, result_of}
use Rattle.semantics.specs.Sound.{Sound}
use Rattle.semantics.specs.Marks.{Largest}
use Rattle.semantics.proofs.Agreeing.{numbers}
use Rattle.semantics.proofs.Simulation.{fresh_erased}
use Rattle.semantics.proofs.Giving.{result_refusal}
use Rattle.semantics.proofs.Beginning.{fresh_length, sound_least}
use Rattle.semantics.proofs.Demand3.{program_accepted, program_bytes}
use Rattle.semantics.proofs.Outcomes.{refusal_none, none_refusal, refusal_13, run_ok, ran_bare, ran_marked}
use Rattle.asking.specs.State.{sound_of}
use Rattle.asking.specs.Resuming.{resumed}
use Rattle.asking.specs.Continuing.{Continuable, question14, continue_refusal, continued_of, continue_result, Left, after_run}
use Rattle.asking.specs.Continuing.{after_continue, refusal_on}
use Rattle.asking.proofs.Built.{yes_sound}
use Rattle.asking.proofs.Told.{sound_told}
use Rattle.asking.proofs.Resuming.{resumed_erased, resumed_cells}
use Rattle.asking.proofs.Continuing.{question14_exact, continue_none, none_continue, continue_refused, left_by, run_left}
use Rattle.asking.proofs.Continuing.{continue_left}
use Rattle.asking.proofs.Giving.{continued_bare}
use Rattle.asking.specs.Cutting.{cut, BeyondStore}
use Rattle.semantics.proofs.Longer.{longer}
use Rattle.semantics.proofs.Marks.{largest}
use Rattle.asking.proofs.Cutting.{same_short, same_rest, too_short, fresh_longer}

-- ---- a run

module _ (image : List ℕ) (bytes : Bytes image) (input store output : List ℤ) (steps : ℕ)
    (none : refusal image store ≡ 0) where
  abbrev g : Program
  g = program_of image

  abbrev accepted : check_of image ≡ Ok tt
  accepted = (refusal_none image store none).0

  abbrev ok : AcceptedTables g.types g.fields g.variables g.procedures g.nodes g.statements
  ok = program_accepted image accepted

  abbrev left : Left
  left = after_run image input store output steps

  -- what a run leaves that is not refused, on the bare machine
  bare_run : (cells : List ℤ) → refusal image cells ≡ 0
      → after_run image input cells output steps
      ≡ left_by (run_from bare g input steps 0 (first_top g) (fresh bare g cells output))
  bare_run cells taken =
      let (accepted, most, least) = refusal_none image cells taken in
      run_left image input cells output steps taken
      ∙ ap left_by (sym (ran_bare image bytes accepted input cells output most least steps))

  marked : left.result.mark ≡ (ran_of image input store output steps).mark
  unfolding numbers_of
  marked = ap (λ (l : Left). l.result.mark) (run_left image input store output steps none)

  mark_largest : Largest g input steps (fresh tagged g store output) (first_top g) left.result.mark
  unfolding ran_of
  mark_largest = rw marked (largest g input steps 0 (first_top g) (fresh tagged g store output))

  mark_lent : left.result.mark ≤ length store
  mark_lent =
      let (accepted, most, least) = refusal_none image store none in
      rw marked (ran_marked image bytes accepted input store output most least steps)

  -- the store cut to n cells
  module _ (n : ℕ) (within : n ≤ length store) where
    size : length (take n store) ≡ n
    size = length-take-le n store within

    module _ (least : first_top g ≤ n) where
      taken : refusal image (take n store) ≡ 0
      taken =
          let (accepted, most, _) = refusal_none image store none in
          none_refusal image (take n store) accepted (omega (arith, size)) (omega (arith, size))

      abbrev begun : State ℤ
      begun = fresh bare g (take n store) output

      begun_cells : length begun.cells ≡ n
      unfolding fresh
      begun_cells =
          ap (λ (s : State ℤ). length s.cells) (fresh_erased g (take n store) output)
          ∙ length-map (fresh tagged g (take n store) output).cells tagged.number
          ∙ fresh_length g ok (take n store) (omega (arith, size)) ∙ size

      high : begun.at.top ≤ n
      unfolding fresh
      high = least

      short : after_run image input (take n store) output steps ≡ left_by (run_from bare g input steps 0 (first_top g) begun)
      short = bare_run (take n store) taken

      whole : left ≡ left_by (run_from bare g input steps 0 (first_top g) (longer (drop n store) begun))
      whole =
          let parts : fresh bare g store output ≡ longer (drop n store) begun =
          ap (λ (cells : List ℤ). fresh bare g cells output) (sym (take-append-drop n store))
          ∙ fresh_longer g (take n store) (drop n store) output (omega (arith, size)) in
          bare_run store none ∙ ap (λ (s : State ℤ). left_by (run_from bare g input steps 0 (first_top g) s)) parts

      enough : left.result.mark ≤ n → after_run image input (take n store) output steps ≡ cut n left
      enough = same_short g ok input (drop n store) steps 0 (first_top g) begun n begun_cells high short whole

      above : left.result.mark ≤ n → drop n left.store ≡ drop n store
      above = same_rest g ok input (drop n store) steps 0 (first_top g) begun n begun_cells high short whole

      beyond : n < left.result.mark → BeyondStore (after_run image input (take n store) output steps).result
      beyond = too_short g ok input (drop n store) steps 0 (first_top g) begun n begun_cells high short whole least

    -- with less than G + F0 cells
    refused : n < first_top g → (after_run image input (take n store) output steps).result.refusal ≡ 13
    unfolding after_run result_of
    refused few =
        let most = (refusal_none image store none).1 in
        result_refusal _ _ _
        ∙ refusal_13 image (take n store) accepted (omega (arith, size)) (omega (arith, size))

-- ---- a continuation

module _ (image : List ℕ) (bytes : Bytes image) (input : List ℤ) (l : Left) (steps : ℕ)
    (none : refusal_on image input l steps ≡ 0) where
  abbrev p : Program
  p = program_of image

  abbrev asked : (refusal image l.store ≡ 0) × (question14 p input l.store l.output l.result steps ≡ true)
  asked = continue_none image input l.store l.output l.result steps none

  abbrev agreed : check_of image ≡ Ok tt
  agreed = (refusal_none image l.store asked.0).0

  abbrev fine : AcceptedTables p.types p.fields p.variables p.procedures p.nodes p.statements
  fine = program_accepted image agreed

  may : Continuable p input l.store l.output l.result steps
  may = (question14_exact image agreed input l.store l.output l.result steps).0 asked.1

  abbrev from : State Cell
  from = resumed p l.result.at l.store l.output

  abbrev next : Left
  next = after_continue image input l steps

  -- the state that a continuation goes on from, in numbers
  abbrev at : List ℤ → State ℤ
  at cells = record { at = l.result.at; cells = cells; output = l.output }

  -- what a continuation leaves that is not refused, on the bare machine
  bare_continue : (cells : List ℤ) → refusal image cells ≡ 0
      → question14 p input cells l.output l.result steps ≡ true
      → after_continue image input (record { result = l.result; store = cells; output = l.output }) steps
      ≡ left_by (run_from bare p input steps l.result.steps l.result.mark (at cells))
  bare_continue cells taken passes =
      continue_left image input (record { result = l.result; store = cells; output = l.output }) steps
      (none_continue image input cells l.output l.result steps taken passes)
      ∙ ap left_by (sym (continued_bare image input cells l.output l.result steps bytes taken passes))

  next_marked : next.result.mark ≡ (continued_of image input l.store l.output l.result steps).mark
  unfolding numbers_of
  next_marked = ap (λ (x : Left). x.result.mark) (continue_left image input l steps none)

  next_largest : Largest p input steps from l.result.mark next.result.mark
  unfolding continued_of
  next_largest = rw next_marked (largest p input steps l.result.steps l.result.mark from)

  next_lent : next.result.mark ≤ length l.store
  unfolding continued_of
  next_lent =
      let cells = resumed_cells p l.result.at l.store l.output in
      let goes_on = run_ok p fine (program_bytes image bytes) input steps l.result.steps l.result.mark from
      may.sound in
      rw next_marked (rw cells at (goes_on.marked (rw cells may.mark_store)))

  -- top is not below G + F0
  top_least : first_top p ≤ l.result.at.top
  unfolding resumed
  top_least = sound_least p fine may.sound

  -- the store cut to n cells
  module _ (n : ℕ) (within : n ≤ length l.store) where
    cells_size : length (take n l.store) ≡ n
    cells_size = length-take-le n l.store within

    cut_taken : first_top p ≤ n → refusal image (take n l.store) ≡ 0
    cut_taken least =
        let most = (refusal_none image l.store asked.0).1 in
        none_refusal image (take n l.store) agreed (omega (arith, cells_size)) (omega (arith, cells_size))

    module _ (low : l.result.mark ≤ n) where
      abbrev least : first_top p ≤ n
      least = let top = top_least in let mark = may.mark_top in omega arith

      top_high : l.result.at.top ≤ n
      top_high = let mark = may.mark_top in omega arith

      -- the state is sound with fewer cells above top
      cut_sound : Sound p (record { at = from.at; cells = take n from.cells; output = from.output })
      unfolding resumed
      cut_sound =
          let s = may.sound in
          let most = s.lent in
          let cells = resumed_cells p l.result.at l.store l.output in
          let many : length (take n from.cells) ≡ n = length-take-le n from.cells (omega (arith, cells)) in
          let high = top_high in
          record {
            newest = s.newest;
            others = s.others;
            stack = s.stack;
            holding = rw (take-take l.result.at.top n from.cells high) s.holding;
            inside = s.inside;
            begins = s.begins;
            ends = s.ends;
            stored = omega (arith, many);
            lent = omega (arith, many, cells);
          }

      cut_numbers : numbers (take n from.cells) ≡ take n l.store
      cut_numbers =
          sym (take_map tagged.number n from.cells)
          ∙ ap (λ (s : State ℤ). take n s.cells) (resumed_erased p l.result.at l.store l.output)

      cut_told : sound_of p l.result.at (take n l.store) ≡ true
      unfolding resumed
      cut_told = ap (sound_of p l.result.at) (sym cut_numbers) ∙ sound_told p fine _ cut_sound

      cut_passes : question14 p input (take n l.store) l.output l.result steps ≡ true
      cut_passes =
          (question14_exact image agreed input (take n l.store) l.output l.result steps).1 (record {
            refusal = may.refusal;
            fault = may.fault;
            outcome = may.outcome;
            trap = may.trap;
            halt = may.halt;
            sound = yes_sound p fine l.result.at (take n l.store) l.output cut_told;
            read = may.read;
            written = may.written;
            steps = may.steps;
            mark_top = may.mark_top;
            mark_store = rw cells_size low;
          })

      next_short : after_continue image input (cut n l) steps
          ≡ left_by (run_from bare p input steps l.result.steps l.result.mark (at (take n l.store)))
      unfolding cut
      next_short = bare_continue (take n l.store) (cut_taken least) cut_passes

      next_whole : next ≡ left_by (run_from bare p input steps l.result.steps l.result.mark
          (longer (drop n l.store) (at (take n l.store))))
      unfolding longer
      next_whole = rw (take-append-drop n l.store) (bare_continue l.store asked.0 asked.1)

      next_enough : next.result.mark ≤ n → after_continue image input (cut n l) steps ≡ cut n next
      next_enough =
          same_short p fine input (drop n l.store) steps l.result.steps l.result.mark _ n cells_size top_high
          next_short next_whole

      next_above : next.result.mark ≤ n → drop n next.store ≡ drop n l.store
      next_above =
          same_rest p fine input (drop n l.store) steps l.result.steps l.result.mark _ n cells_size top_high
          next_short next_whole

      next_beyond : n < next.result.mark → BeyondStore (after_continue image input (cut n l) steps).result
      next_beyond =
          too_short p fine input (drop n l.store) steps l.result.steps l.result.mark _ n cells_size top_high
          next_short next_whole low

    -- with less than the earlier mark
    next_14 : first_top p ≤ n → n < l.result.mark → (after_continue image input (cut n l) steps).result.refusal ≡ 14
    unfolding after_continue continue_result continue_refusal cut
    next_14 least few =
        let fails : question14 p input (take n l.store) l.output l.result steps ≡ false =
        not_yes _ (λ passes. absurd (omega (
          arith,
          cells_size,
          ((question14_exact image agreed input (take n l.store) l.output l.result steps).0 passes).mark_store,
        ))) in
        result_refusal _ _ _ ∙ choose_yes _ _ _ (eq-eqb _ 0 (cut_taken least)) ∙ choose_no _ _ _ fails

    -- with less than G + F0 cells
    next_13 : n < first_top p → (after_continue image input (cut n l) steps).result.refusal ≡ 13
    unfolding after_continue continue_result cut
    next_13 few =
        let most = (refusal_none image l.store asked.0).1 in
        result_refusal _ _ _
        ∙ continue_refused image input (take n l.store) l.output l.result steps 13
        (refusal_13 image (take n l.store) agreed (omega (arith, cells_size)) (omega (arith, cells_size)))
        (λ zero. absurd (omega arith))

-- ---- the claims

-- "The result gains a mark: the largest of G + F0 and the tops asked for by calls that passed the store check."
pub run_mark : (image : List ℕ) → Bytes image → (input store output : List ℤ) (n : ℕ) → refusal image store ≡ 0
    → Largest (program_of image) input n (fresh tagged (program_of image) store output) (first_top (program_of image))
    (after_run image input store output n).result.mark
run_mark = mark_largest

-- "A continued run takes its mark from the earlier result"
pub continue_mark : (image : List ℕ) → Bytes image → (input : List ℤ) (l : Left) (n : ℕ)
    → refusal_on image input l n ≡ 0
    → Largest (program_of image) input n (resumed (program_of image) l.result.at l.store l.output)
    l.result.mark (after_continue image input l n).result.mark
continue_mark = next_largest

-- "An unrefused run with its store cut to the mark, all else lent being equal, gives the same result and the same cells
-- below the mark, trap 7 included.": and the same output
pub run_cut : (image : List ℕ) → Bytes image → (input store output : List ℤ) (n : ℕ) → refusal image store ≡ 0
    → let mark : ℕ = (after_run image input store output n).result.mark in
    after_run image input (take mark store) output n ≡ cut mark (after_run image input store output n)
run_cut image bytes input store output n none =
    let first = (mark_largest image bytes input store output n none).from_first in
    let lent = mark_lent image bytes input store output n none in
    enough image bytes input store output n none _ lent first (omega arith)

pub continue_cut : (image : List ℕ) → Bytes image → (input : List ℤ) (l : Left) (n : ℕ)
    → refusal_on image input l n ≡ 0
    → let mark : ℕ = (after_continue image input l n).result.mark in
    after_continue image input (cut mark l) n ≡ cut mark (after_continue image input l n)
continue_cut image bytes input l n none =
    let first = (next_largest image bytes input l n none).from_first in
    let lent = next_lent image bytes input l n none in
    next_enough image bytes input l n none _ lent first (omega arith)

-- and so with its store cut to any number of cells from the mark on
pub run_wider : (image : List ℕ) → Bytes image → (input store output : List ℤ) (n : ℕ) → refusal image store ≡ 0
    → (cells : ℕ) → (after_run image input store output n).result.mark ≤ cells → cells ≤ length store
    → after_run image input (take cells store) output n ≡ cut cells (after_run image input store output n)
run_wider image bytes input store output n none cells low within =
    let first = (mark_largest image bytes input store output n none).from_first in
    enough image bytes input store output n none cells within (omega arith) low

pub continue_wider : (image : List ℕ) → Bytes image → (input : List ℤ) (l : Left) (n : ℕ)
    → refusal_on image input l n ≡ 0 → (cells : ℕ) → (after_continue image input l n).result.mark ≤ cells
    → cells ≤ length l.store → after_continue image input (cut cells l) n ≡ cut cells (after_continue image input l n)
continue_wider image bytes input l n none cells low within =
    let first = (next_largest image bytes input l n none).from_first in
    next_enough image bytes input l n none cells within (omega arith) low

-- cells from the mark on are never written
pub run_rest : (image : List ℕ) → Bytes image → (input store output : List ℤ) (n : ℕ) → refusal image store ≡ 0
    → drop (after_run image input store output n).result.mark (after_run image input store output n).store
    ≡ drop (after_run image input store output n).result.mark store
run_rest image bytes input store output n none =
    let first = (mark_largest image bytes input store output n none).from_first in
    above image bytes input store output n none _ (mark_lent image bytes input store output n none) first (omega arith)

pub continue_rest : (image : List ℕ) → Bytes image → (input : List ℤ) (l : Left) (n : ℕ)
    → refusal_on image input l n ≡ 0
    → drop (after_continue image input l n).result.mark (after_continue image input l n).store
    ≡ drop (after_continue image input l n).result.mark l.store
continue_rest image bytes input l n none =
    let first = (next_largest image bytes input l n none).from_first in
    next_above image bytes input l n none _ (next_lent image bytes input l n none) first (omega arith)

-- a store with fewer cells than the mark is not enough: refusal 13 below G + F0, and else trap 7
pub run_least : (image : List ℕ) → Bytes image → (input store output : List ℤ) (n : ℕ) → refusal image store ≡ 0
    → (cells : ℕ) → cells < (after_run image input store output n).result.mark
    → (cells < first_top (program_of image) → (after_run image input (take cells store) output n).result.refusal ≡ 13)
    × (first_top (program_of image) ≤ cells → BeyondStore (after_run image input (take cells store) output n).result)
run_least image bytes input store output n none cells few =
    let lent = mark_lent image bytes input store output n none in
    let within : cells ≤ length store = omega arith in (
      refused image bytes input store output n none cells within,
      λ least. beyond image bytes input store output n none cells within least few,
    )

-- and so for a continuation: refusal 13 below G + F0, refusal 14 below the earlier mark, and else trap 7. Where its mark
-- is the earlier one, no call since asked for more, and of that one 14 is all that is told: anybody may have made it
pub continue_least : (image : List ℕ) → Bytes image → (input : List ℤ) (l : Left) (n : ℕ)
    → refusal_on image input l n ≡ 0 → (cells : ℕ) → cells < (after_continue image input l n).result.mark
    → (cells < first_top (program_of image) → (after_continue image input (cut cells l) n).result.refusal ≡ 13)
    × ((first_top (program_of image) ≤ cells → cells < l.result.mark
    → (after_continue image input (cut cells l) n).result.refusal ≡ 14)
    × (l.result.mark ≤ cells → BeyondStore (after_continue image input (cut cells l) n).result))
continue_least image bytes input l n none cells few =
    let lent = next_lent image bytes input l n none in
    let within : cells ≤ length l.store = omega arith in (
      next_13 image bytes input l n none cells within,
      (next_14 image bytes input l n none cells within, λ low. next_beyond image bytes input l n none cells within low few),
    )
