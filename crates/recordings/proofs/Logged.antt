-- Laws of the recordings of a log: a log cut in two, what one more trace number adds, and that the cycle at the start does not matter to how long a recording is. The forms at `i + 1` are those that a counting loop asks.
-- Assumes nothing.
use mathlib.Core.Path.{◌≡◌, refl, sym, ap, ap₂, ◌∙◌}
use mathlib.Core.Logic.{⊎_elim}
use mathlib.Core.Bool.{Bool, true, false, cond, not}
use mathlib.Core.List.{List, [], ◌∷◌, ◌++◌, append-nil, append_assoc}
use Prim.Native.Nat.{ℕ, suc, ◌+◌, ◌*◌, ◌≤◌, ◌<◌}
use native.Mathlib.Numerals.{add-one}
use native.Mathlib.Omega.{arith}
use borrow.Author.Tests.{eq-eqb, ne_eqb, le-leb, lt-leb}
use lib.Dec.{eqb}
use lib.ListN.{length, get_or, take, drop, length-append, take-append-drop}
use lib.Seq.{take_all, length-take-le, take-suc, get_or-drop, drop-drop, sets}
use Rattle.basics.specs.Below.{count}
use Rattle.basics.proofs.Truth.{either}
use Rattle.basics.proofs.Stores.{written-more}
use Rattle.requests.specs.Sizes.{last_cycle}
use Rattle.requests.proofs.Trace.{four-times}
use Rattle.recordings.proofs.Counts.{counted_up}
use Rattle.std.specs.Result.{result_unwrap_or}
use Rattle.std.specs.declared.result.Result.{Result}
use Rattle.std.specs.declared.result.Result.TheVariants.{Ok, Err}
use Rattle.refusals.specs.declared.Refusal.{Refusal}
use Rattle.refusals.specs.Refusal.{status_of}
use Rattle.recordings.specs.Logged.{is_tick, word_shown, event_at, tick_in, ticks_in, recording_of, record_status, counted}

-- ---- one event

-- no word, no event
pub no-event : (t w : ℕ) → w ≡ 0 → event_at t w ≡ []
unfolding event_at
no-event t w e = rw (eq-eqb w 0 e)

-- a word, one event
pub an-event : (t w : ℕ) → ((w ≡ 0) → ⊥) → event_at t w ≡ t ∷ w ∷ []
unfolding event_at
an-event t w some = rw (ne_eqb w 0 some)

-- an event has two numbers
two-or-none : (t w : ℕ) → length (event_at t w) ≡ cond (not (eqb w 0)) 2 0
unfolding event_at
two-or-none t w = ⊎_elim (λ (e : eqb w 0 ≡ true). rw e refl) (λ (e : eqb w 0 ≡ false). rw e refl) (either (eqb w 0))

-- a line of what stands from n on
tick-past : (w : ℕ) (log : List ℕ) (n : ℕ) → tick_in w (drop n log) 0 ≡ tick_in w log n
unfolding tick_in
tick-past w log n = ap (λ (x : ℕ). cond (is_tick w x) 1 0) (get_or-drop n log 0 0 ∙ ap (λ (i : ℕ). get_or log i 0) (omega arith))

-- a tick or none
tick-most : (w : ℕ) (log : List ℕ) (from : ℕ) → tick_in w log from ≤ 1
unfolding tick_in
tick-most w log from =
    ⊎_elim (λ (e : is_tick w (get_or log from 0) ≡ true). rw e (omega arith)) (λ (e : is_tick w (get_or log from 0) ≡ false). rw e (omega arith)) (either (is_tick w (get_or log from 0)))

-- ---- ticks

ticks-append : (xs ys log : List ℕ) → ticks_in (xs ++ ys) log ≡ ticks_in xs log + ticks_in ys (drop (4 * length xs) log)
unfolding ticks_in
ticks-append [] ys log = omega arith
ticks-append (x ∷ xs) ys log =
    let place : 4 + 4 * length xs ≡ 4 * suc (length xs) = omega arith in
    let rest : drop (4 * length xs) (drop 4 log) ≡ drop (4 * suc (length xs)) log = drop-drop (4 * length xs) 4 log ∙ ap (λ (n : ℕ). drop n log) place in
    omega (arith, ticks-append xs ys (drop 4 log), ap (ticks_in ys) rest)

pub ticks-more : (trace log : List ℕ) (i : ℕ) → i < length trace → ticks_in (take (i + 1) trace) log ≡ ticks_in (take i trace) log + tick_in (get_or trace i 0) log (4 * i)
unfolding ticks_in
ticks-more trace log i h =
    let w = get_or trace i 0 in
    let size : length (take i trace) ≡ i = length-take-le i trace (omega arith) in
    let cut = ticks-append (take i trace) (w ∷ []) log in
    let line : tick_in w (drop (4 * length (take i trace)) log) 0 ≡ tick_in w log (4 * i) = ap (λ (n : ℕ). tick_in w (drop (4 * n) log) 0) size ∙ tick-past w log (4 * i) in
    rw (add-one i) (ap (λ (l : List ℕ). ticks_in l log) (take-suc trace i 0 h) ∙ omega (arith, cut, line))

-- whether trace number i is a tick that was made
abbrev pub tick_at : List ℕ → List ℕ → ℕ → Bool
tick_at trace log i = is_tick (get_or trace i 0) (get_or log (4 * i) 0)

-- so they are those of the trace numbers that are
pub ticks-counted : (trace log : List ℕ) → count (length trace) (tick_at trace log) ≡ ticks_in trace log
unfolding ticks_in tick_in
ticks-counted trace log =
    let all = counted_up (tick_at trace log) (λ i. ticks_in (take i trace) log) 1 (length trace) refl (ticks-more trace log) in
    omega (arith, all, ap (λ (l : List ℕ). ticks_in l log) (take_all (length trace) trace (omega arith)))

pub ticks-part : (trace log : List ℕ) (n : ℕ) → ticks_in (take n trace) log ≤ ticks_in trace log
ticks-part trace log n =
    let cut = ap (λ (l : List ℕ). ticks_in l log) (sym (take-append-drop n trace)) ∙ ticks-append (take n trace) (drop n trace) log in
    omega (arith, cut)

pub ticks_few : (trace log : List ℕ) → ticks_in trace log ≤ length trace
unfolding ticks_in
ticks_few [] log = omega arith
ticks_few (w ∷ ws) log = omega (arith, tick-most w log 0, ticks_few ws (drop 4 log))

-- ---- recordings

module _ (activates : Bool) where
  shown-past : (w : ℕ) (log : List ℕ) (n : ℕ) → word_shown activates w (drop n log) 0 ≡ word_shown activates w log n
  unfolding word_shown
  shown-past w log n =
      let at : (k : ℕ) → get_or (drop n log) k 0 ≡ get_or log (n + k) 0 = λ k. get_or-drop n log k 0 in
      let here : get_or (drop n log) 0 0 ≡ get_or log n 0 = at 0 ∙ ap (λ (i : ℕ). get_or log i 0) (omega arith) in
      rw (here, at 1, at 2)

  -- a trace cut in two
  pub recording-append : (xs ys log : List ℕ) (t : ℕ)
      → recording_of activates t (xs ++ ys) log ≡ recording_of activates t xs log ++ recording_of activates (t + ticks_in xs log) ys (drop (4 * length xs) log)
  unfolding recording_of ticks_in
  recording-append [] ys log t = ap (λ (n : ℕ). recording_of activates n ys log) (omega arith)
  recording-append (x ∷ xs) ys log t =
      let event = event_at t (word_shown activates x log 0) in
      let then = t + tick_in x log 0 in
      let place : 4 + 4 * length xs ≡ 4 * suc (length xs) = omega arith in
      let rest : drop (4 * length xs) (drop 4 log) ≡ drop (4 * suc (length xs)) log = drop-drop (4 * length xs) 4 log ∙ ap (λ (n : ℕ). drop n log) place in
      ap (λ (l : List ℕ). event ++ l)
      (recording-append xs ys (drop 4 log) then
      ∙ ap₂ (λ (n : ℕ) (l : List ℕ). recording_of activates then xs (drop 4 log) ++ recording_of activates n ys l) (omega arith) rest)
      ∙ sym (append_assoc event (recording_of activates then xs (drop 4 log)) _)

  -- the event of one trace number, where it comes after the first i
  abbrev pub event_of : List ℕ → List ℕ → ℕ → ℕ → List ℕ
  event_of trace log t i = event_at (t + ticks_in (take i trace) log) (word_shown activates (get_or trace i 0) log (4 * i))

  recording-more : (trace log : List ℕ) (t i : ℕ) → i < length trace → recording_of activates t (take (i + 1) trace) log ≡ recording_of activates t (take i trace) log ++ event_of trace log t i
  unfolding recording_of
  recording-more trace log t i h =
      let w = get_or trace i 0 in
      let size : length (take i trace) ≡ i = length-take-le i trace (omega arith) in
      let then = t + ticks_in (take i trace) log in
      rw (add-one i)
      (ap (λ (l : List ℕ). recording_of activates t l log) (take-suc trace i 0 h)
      ∙ recording-append (take i trace) (w ∷ []) log t
      ∙ ap (λ (l : List ℕ). recording_of activates t (take i trace) log ++ l)
      (append-nil (event_at then (word_shown activates w (drop (4 * length (take i trace)) log) 0))
      ∙ ap (event_at then) (ap (λ (n : ℕ). word_shown activates w (drop (4 * n) log) 0) size ∙ shown-past w log (4 * i))))

  recording-part : (trace log : List ℕ) (t n : ℕ) → length (recording_of activates t (take n trace) log) ≤ length (recording_of activates t trace log)
  recording-part trace log t n =
      let whole =
      ap (λ (l : List ℕ). length (recording_of activates t l log)) (sym (take-append-drop n trace))
      ∙ ap length (recording-append (take n trace) (drop n trace) log t)
      ∙ length-append (recording_of activates t (take n trace) log) _
      in
      omega (arith, whole)

  size-more : (trace log : List ℕ) (t i : ℕ) → i < length trace → length (recording_of activates t (take (i + 1) trace) log) ≡ length (recording_of activates t (take i trace) log) + length (event_of trace log t i)
  size-more trace log t i h = ap length (recording-more trace log t i h) ∙ length-append (recording_of activates t (take i trace) log) (event_of trace log t i)

  -- a number that shows a word adds two, and another none
  pub size-two : (trace log : List ℕ) (t i : ℕ)
      → i < length trace
      → ((word_shown activates (get_or trace i 0) log (4 * i) ≡ 0) → ⊥)
      → length (recording_of activates t (take (i + 1) trace) log) ≡ length (recording_of activates t (take i trace) log) + 2
  size-two trace log t i h some =
      size-more trace log t i h
      ∙ ap (λ (l : List ℕ). length (recording_of activates t (take i trace) log) + length l) (an-event (t + ticks_in (take i trace) log) (word_shown activates (get_or trace i 0) log (4 * i)) some)

  pub size_same : (trace log : List ℕ) (t i : ℕ)
      → i < length trace
      → word_shown activates (get_or trace i 0) log (4 * i) ≡ 0
      → length (recording_of activates t (take (i + 1) trace) log) ≡ length (recording_of activates t (take i trace) log)
  size_same trace log t i h none =
      size-more trace log t i h
      ∙ ap (λ (l : List ℕ). length (recording_of activates t (take i trace) log) + length l) (no-event (t + ticks_in (take i trace) log) (word_shown activates (get_or trace i 0) log (4 * i)) none)
      ∙ omega arith

  -- so the trace numbers that show a word count it
  pub size-counted : (trace log : List ℕ) (t : ℕ) → 2 * count (length trace) (λ i. not (eqb (word_shown activates (get_or trace i 0) log (4 * i)) 0)) ≡ length (recording_of activates t trace log)
  unfolding recording_of
  size-counted trace log t =
      counted_up (λ i. not (eqb (word_shown activates (get_or trace i 0) log (4 * i)) 0)) (λ i. length (recording_of activates t (take i trace) log)) 2 (length trace) refl
      (λ i h. size-more trace log t i h ∙ ap (λ (n : ℕ). length (recording_of activates t (take i trace) log) + n) (two-or-none (t + ticks_in (take i trace) log) (word_shown activates (get_or trace i 0) log (4 * i))))
      ∙ ap (λ (l : List ℕ). length (recording_of activates t l log)) (take_all (length trace) trace (omega arith))

  -- and the cycle at the start does not matter to how long it is
  pub same_size : (trace log : List ℕ) (t u : ℕ) → length (recording_of activates t trace log) ≡ length (recording_of activates u trace log)
  same_size trace log t u = sym (size-counted trace log t) ∙ size-counted trace log u

  -- so an event has room where the whole has
  pub event-fits : (trace log : List ℕ) (t i room : ℕ)
      → i < length trace
      → length (recording_of activates t trace log) ≤ room
      → length (recording_of activates t (take i trace) log) + length (event_of trace log t i) ≤ room
  event-fits trace log t i room h fits = omega (arith, size-more trace log t i h, recording-part trace log t (i + 1), fits)

  -- event i, put behind those before it
  pub event-more : (trace log l : List ℕ) (t i : ℕ) {before after : List ℕ} {at next : ℕ}
      → i < length trace
      → length (recording_of activates t trace log) ≤ length l
      → at ≡ length (recording_of activates t (take i trace) log)
      → before ≡ recording_of activates t (take i trace) log ++ drop at l
      → next ≡ at + length (event_of trace log t i)
      → after ≡ sets before at (event_of trace log t i)
      → (next ≡ length (recording_of activates t (take (i + 1) trace) log)) × (after ≡ recording_of activates t (take (i + 1) trace) log ++ drop next l)
  event-more trace log l t i {before} {after} {at} {next} h fits place b n a =
      let done = recording_of activates t (take i trace) log in
      let event = event_of trace log t i in
      let room : at + length event ≤ length l = omega (arith, event-fits trace log t i (length l) h fits, place) in (
        n ∙ ap (λ (k : ℕ). k + length event) place ∙ sym (size-more trace log t i h),
        a
            ∙ ap (λ (q : List ℕ). sets q at event) b
            ∙ written-more done event l at (sym place) room
            ∙ ap (λ (q : List ℕ). q ++ drop (at + length event) l) (sym (recording-more trace log t i h))
            ∙ ap (λ (k : ℕ). recording_of activates t (take (i + 1) trace) log ++ drop k l) (sym n),
      )

-- ---- the answers of a call

-- the two numbers of an answer, as the code takes them
pub counted-status : (r : Result ℕ Refusal) → status_of r ≡ (counted r).status
unfolding counted status_of
counted-status (Ok n) = refl
counted-status (Err f) = refl

pub counted-count : (r : Result ℕ Refusal) → result_unwrap_or r 0 ≡ (counted r).count
unfolding counted
counted-count (Ok n) = refl
counted-count (Err f) = refl

module _ (activates : Bool) (trace log : List ℕ) (start : ℕ) (out : List ℕ) (lengths : length log ≡ 4 * length trace) where
  -- where the lengths fit, 12 refuses one that ends too late
  pub refused-12 : last_cycle < start + ticks_in trace log → record_status activates trace log start out ≡ 12
  unfolding record_status
  refused-12 late = rw (eq-eqb (length log) (4 * length trace) lengths, lt-leb (start + ticks_in trace log) last_cycle late)

  -- and nothing one that ends in time and has room
  pub not_refused : start + ticks_in trace log ≤ last_cycle → length (recording_of activates start trace log) ≤ length out → record_status activates trace log start out ≡ 0
  unfolding record_status
  not_refused ends room =
      rw (eq-eqb (length log) (4 * length trace) lengths, le-leb (start + ticks_in trace log) last_cycle ends, le-leb (length (recording_of activates start trace log)) (length out) room)

-- what `make` goes by
pub ruleset making = (ticks_few, same_size, four-times)

-- what `Lines::size` goes by
pub ruleset sizing = (size-two, size_same, take_all)

-- what `Lines::write` goes by
pub ruleset writing = (ticks-more, ticks-part, event-fits, event-more)
