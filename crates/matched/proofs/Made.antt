-- The recordings of a log are sound: their cycles are tick numbers, which rise from the start's and end before the last cycle.
-- Assumes nothing.
use mathlib.Core.Path.{◌≡◌, refl, sym, ap, ◌∙◌, subst}
use mathlib.Core.Logic.{⊎_elim}
use mathlib.Core.Bool.{Bool, true, false}
use mathlib.Core.List.{List, [], ◌∷◌, ◌++◌}
use Prim.Native.Nat.{ℕ, zero, suc, ◌+◌, ◌-◌, ◌*◌, ◌%◌, ◌≤◌, ◌<◌}
use native.Mathlib.Nat.{not-suc-le-zero}
use native.Mathlib.Omega.{arith}
use borrow.Author.Tests.{eq-eqb, eqb-true, eqb-false, le-leb, leb-true, lt-ltb}
use lib.Dec.{eqb, leb}
use lib.ListN.{length, get_or, drop}
use Rattle.basics.proofs.Truth.{either, and_both}
use Rattle.basics.proofs.Below.{every-all}
use Rattle.requests.specs.Sizes.{last_cycle}
use Rattle.recordings.specs.Recording.{events_in, cycle_at, word_at, in_pairs, rises, due_fits, wires_sound, cores_sound, soundness}
use Rattle.recordings.specs.Logged.{is_tick, word_shown, event_at, tick_in, ticks_in, recording_of, record_status}
use Rattle.matched.specs.Made.{MadeSound}
use Rattle.std.specs.declared.result.Result.TheVariants.{Ok}
use Rattle.recordings.proofs.Recordings.{both-sound}
use Rattle.recordings.proofs.Logged.{no-event, an-event}

-- ---- an event put before others

pub one_more : (c w : ℕ) (r : List ℕ) → events_in (c ∷ w ∷ r) ≡ suc (events_in r)
unfolding events_in
one_more c w r = omega arith

pub later-cycle : (c w : ℕ) (r : List ℕ) (i : ℕ) → cycle_at (c ∷ w ∷ r) (suc i) ≡ cycle_at r i
unfolding cycle_at
later-cycle c w r i = let place : 2 * suc i ≡ suc (suc (2 * i)) = omega arith in ap (λ (k : ℕ). get_or (c ∷ w ∷ r) k 0) place

pub later-word : (c w : ℕ) (r : List ℕ) (i : ℕ) → word_at (c ∷ w ∷ r) (suc i) ≡ word_at r i
unfolding word_at
later-word c w r i = let place : 2 * suc i + 1 ≡ suc (suc (2 * i + 1)) = omega arith in ap (λ (k : ℕ). get_or (c ∷ w ∷ r) k 0) place

pub first-cycle : (c w : ℕ) (r : List ℕ) → cycle_at (c ∷ w ∷ r) 0 ≡ c
unfolding cycle_at
first-cycle c w r = refl

pub first_word : (c w : ℕ) (r : List ℕ) → word_at (c ∷ w ∷ r) 0 ≡ w
unfolding word_at
first_word c w r = refl

-- ---- cycles that rise between two bounds

record Rising (lo hi : ℕ) (r : List ℕ) : Type 0 where
  even : length r % 2 ≡ 0
  from : (i : ℕ) → i < events_in r → lo ≤ cycle_at r i
  to : (i : ℕ) → i < events_in r → cycle_at r i < hi
  up : (i : ℕ) → suc i < events_in r → cycle_at r i < cycle_at r (suc i)

nothing : (lo hi : ℕ) → Rising lo hi []
unfolding events_in
nothing lo hi = record { even = refl; from = λ i h. absurd (not-suc-le-zero h); to = λ i h. absurd (not-suc-le-zero h); up = λ i h. absurd (not-suc-le-zero h) }

lower : (lo lo' hi : ℕ) (r : List ℕ) → lo ≤ lo' → Rising lo' hi r → Rising lo hi r
lower lo lo' hi r h rising = record { even = rising.even; from = λ i l. omega (arith, h, rising.from i l); to = rising.to; up = rising.up }

module _ (t hi w : ℕ) (r : List ℕ) (h : t < hi) (rising : Rising (t + 1) hi r) where
  abbrev more : List ℕ
  more = t ∷ w ∷ r

  fewer : (i : ℕ) → suc i < events_in more → i < events_in r
  fewer i l = omega (arith, l, one_more t w r)

  more-from : (i : ℕ) → i < events_in more → t ≤ cycle_at more i
  more-from zero l = omega (arith, first-cycle t w r)
  more-from (suc i) l = omega (arith, later-cycle t w r i, rising.from i (fewer i l))

  more-to : (i : ℕ) → i < events_in more → cycle_at more i < hi
  more-to zero l = omega (arith, first-cycle t w r, h)
  more-to (suc i) l = omega (arith, later-cycle t w r i, rising.to i (fewer i l))

  more-up : (i : ℕ) → suc i < events_in more → cycle_at more i < cycle_at more (suc i)
  more-up zero l = omega (arith, first-cycle t w r, later-cycle t w r 0, rising.from 0 (fewer 0 l))
  more-up (suc i) l = omega (arith, later-cycle t w r i, later-cycle t w r (suc i), rising.up i (omega (arith, l, one_more t w r)))

  one-before : Rising t hi more
  one-before = record { even = omega (arith, rising.even); from = more-from; to = more-to; up = more-up }

-- ---- of a log

module _ (activates : Bool) where
  -- a line that is no tick shows nothing and moves nothing
  still : (w : ℕ) (log : List ℕ) → is_tick w (get_or log 0 0) ≡ false → (word_shown activates w log 0 ≡ 0) × (tick_in w log 0 ≡ 0)
  unfolding word_shown tick_in
  still w log e = (rw e, rw e)

  moves : (w : ℕ) (log : List ℕ) → is_tick w (get_or log 0 0) ≡ true → tick_in w log 0 ≡ 1
  unfolding tick_in
  moves w log e = rw e

  rising-of : (ws log : List ℕ) (t : ℕ) → Rising t (t + ticks_in ws log) (recording_of activates t ws log)
  unfolding recording_of ticks_in
  rising-of [] log t = nothing t (t + 0)
  rising-of (w ∷ ws) log t =
      let rest = rising-of ws (drop 4 log) (t + tick_in w log 0) in
      let word = word_shown activates w log 0 in
      let hi = t + (tick_in w log 0 + ticks_in ws (drop 4 log)) in
      let others = recording_of activates (t + tick_in w log 0) ws (drop 4 log) in
      let same : t + tick_in w log 0 + ticks_in ws (drop 4 log) ≡ hi = omega arith in
      let under : Rising (t + tick_in w log 0) hi others = subst (λ (n : ℕ). Rising (t + tick_in w log 0) n others) same rest in
      let quiet : word ≡ 0 → Rising t hi (event_at t word ++ others) = λ none. subst (λ (l : List ℕ). Rising t hi (l ++ others)) (sym (no-event t word none)) (lower t (t + tick_in w log 0) hi others (omega arith) under) in
      ⊎_elim
      (λ (tick : is_tick w (get_or log 0 0) ≡ true).
      let one = moves w log tick in
      ⊎_elim (λ (e : eqb word 0 ≡ true). quiet (eqb-true word 0 e))
      (λ (e : eqb word 0 ≡ false).
      subst (λ (l : List ℕ). Rising t hi (l ++ others)) (sym (an-event t word (eqb-false word 0 e)))
      (one-before t hi word others (omega (arith, one)) (subst (λ (n : ℕ). Rising (t + n) hi others) one under)))
      (either (eqb word 0)))
      (λ (none : is_tick w (get_or log 0 0) ≡ false). quiet (still w log none).0)
      (either (is_tick w (get_or log 0 0)))

-- ---- what soundness asks

module _ (lo hi : ℕ) (r : List ℕ) (rising : Rising lo hi r) where
  in-pairs : in_pairs r ≡ true
  unfolding in_pairs
  in-pairs = eq-eqb (length r % 2) 0 rising.even

  they-rise : rises r ≡ true
  unfolding rises
  they-rise = every-all _ (events_in r - 1) (λ i l. lt-ltb (cycle_at r i) (cycle_at r (suc i)) (rising.up i (omega (arith, l))))

  due-in-time : (delay : ℕ) → hi + delay ≤ 4294967296 → due_fits delay r ≡ true
  unfolding due_fits
  due-in-time delay h = every-all _ (events_in r) (λ i l. le-leb (cycle_at r i + delay) 4294967295 (omega (arith, rising.to i l, h)))

-- 0 says that the last tick is made before the last cycle
pub ends-before : (activates : Bool) (trace log : List ℕ) (start : ℕ) (out : List ℕ) → record_status activates trace log start out ≡ 0 → start + ticks_in trace log ≤ last_cycle
unfolding record_status
ends-before activates trace log start out e =
    ⊎_elim
    (λ (four : eqb (length log) (4 * length trace) ≡ true).
    ⊎_elim
    (λ (t : leb (start + ticks_in trace log) last_cycle ≡ true). leb-true (start + ticks_in trace log) last_cycle t)
    (λ (t : leb (start + ticks_in trace log) last_cycle ≡ false). absurd (eqb-false 12 0 refl (sym (rw (four, t) refl) ∙ e)))
    (either (leb (start + ticks_in trace log) last_cycle)))
    (λ (other : eqb (length log) (4 * length trace) ≡ false). absurd (eqb-false 17 0 refl (sym (rw other refl) ∙ e)))
    (either (eqb (length log) (4 * length trace)))

module _ (trace log : List ℕ) (start delay : ℕ) (byte : delay ≤ 255) (before : start + ticks_in trace log ≤ last_cycle) where
  wires-are : wires_sound delay (recording_of true start trace log) ≡ true
  unfolding wires_sound
  wires-are =
      let r = recording_of true start trace log in
      let hi = start + ticks_in trace log in
      let rising = rising-of true trace log start in
      and_both (and_both (in-pairs start hi r rising) (they-rise start hi r rising)) (due-in-time start hi r rising delay (omega (arith, byte, before)))

  cores-are : cores_sound (recording_of false start trace log) ≡ true
  unfolding cores_sound
  cores-are =
      let r = recording_of false start trace log in
      let hi = start + ticks_in trace log in
      let rising = rising-of false trace log start in
      and_both (in-pairs start hi r rising) (they-rise start hi r rising)

  pub recordings-sound : soundness delay (recording_of true start trace log) (recording_of false start trace log) ≡ Ok tt
  recordings-sound = both-sound delay (recording_of true start trace log) (recording_of false start trace log) wires-are cores-are

pub made-sound : MadeSound
made-sound trace log start delay wires cores byte one two = recordings-sound trace log start delay byte (ends-before true trace log start wires one)
