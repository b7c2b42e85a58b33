-- A stretch of a run's log matches. Its log is that of its calls from the state before them; where nothing is pending at either end its responses are its activates, moved by the delay (`Pending.in_order`), so that the i-th of the
-- one is the partner of the i-th of the other.
-- Assumes nothing.
use mathlib.Core.Path.{◌≡◌, refl, sym, ap, ap₂, ◌∙◌, subst}
use mathlib.Core.Logic.{⊎_elim}
use mathlib.Core.Bool.{Bool, true, false}
use mathlib.Core.List.{List, [], ◌∷◌, ◌++◌, append-nil, append_assoc}
use Prim.Native.Nat.{ℕ, zero, suc, ◌+◌, ◌*◌, ◌/◌, ◌≤◌, ◌<◌}
use native.Mathlib.Nat.{lt_irrefl, zero-add, add-zero}
use native.Mathlib.Omega.{arith}
use borrow.Author.Tests.{eq-eqb, eqb-true}
use lib.Dec.{eqb}
use lib.ListN.{length, take, drop, length-append}
use lib.Seq.{take-append_seam, drop-append_seam, drop-length}
use Rattle.basics.specs.Below.{every}
use Rattle.basics.proofs.Truth.{same_truth}
use Rattle.basics.proofs.Below.{every-at, every-all, lt-or-ge}
use Rattle.policy.specs.Policy.{in_range as policy_in_range}
use Rattle.policy.specs.declared.Policy.{Policy}
use Rattle.policy.proofs.Laws.{policy-laws}
use Rattle.requests.specs.Sizes.{last_cycle}
use Rattle.flight.specs.Flight.{due_at}
use Rattle.state.specs.Fresh.{fresh_state, state_at_start, nothing_in_flight, zeros}
use Rattle.state.specs.Range.{in_range}
use Rattle.state.specs.declared.State.{State}
use Rattle.rules.specs.Calls.{state_after, log_of}
use Rattle.rules.proofs.Range.{ranged}
use Rattle.rules.proofs.CallsKept.{fresh-fits}
use Rattle.rules.proofs.Calls.{cut_state, cut-log, four_each, after-in-range}
use Rattle.recordings.specs.Recording.{events_in, cycle_at, word_at, soundness}
use Rattle.recordings.specs.Match.{partners, alone, rest_of, unmatched}
use Rattle.recordings.specs.Logged.{ticks_in, recording_of, record_status}
use Rattle.std.specs.declared.result.Result.TheVariants.{Ok}
use Rattle.std.specs.declared.option.Option.TheVariants.{None}
use Rattle.recordings.proofs.Recordings.{wires-three, cores-two, sound-both}
use Rattle.recordings.proofs.Matching.{are-partners, finds-none, alone-sound}
use Rattle.recordings.proofs.Logged.{not_refused}
use Rattle.matched.proofs.Made.{one_more, later-cycle, later-word, first-cycle, first_word, recordings-sound}
use Rattle.matched.specs.Runs.{nothing_pending, quiet_after, cut_log, start_of, stretch, RunMatches, RunsMatch}
use Rattle.matched.proofs.Pending.{shifted, due-none, none-due, none-late, pending_of, in_order, cycle-after}

-- fewer than two numbers are no event
no-events : (r : List ℕ) → length r < 2 → (i : ℕ) → (i < events_in r) → ⊥
unfolding events_in
no-events r few i h = lt_irrefl 0 (omega (arith, few, h))

same_count : (one two : List ℕ) → length one ≡ length two → events_in one ≡ events_in two
unfolding events_in
same_count one two e = ap (λ (n : ℕ). n / 2) e

-- ---- a recording and the same with its cycles moved are partners

module _ (d : ℕ) where
  shift-long : (r : List ℕ) → length (shifted d r) ≡ length r
  unfolding shifted
  shift-long [] = refl
  shift-long (c ∷ []) = refl
  shift-long (c ∷ w ∷ r) = omega (arith, shift-long r)

  shift-cycle : (r : List ℕ) (i : ℕ) → i < events_in r → cycle_at (shifted d r) i ≡ cycle_at r i + d
  unfolding shifted
  shift-cycle [] i h = absurd (no-events [] (omega arith) i h)
  shift-cycle (c ∷ []) i h = absurd (no-events (c ∷ []) (omega arith) i h)
  shift-cycle (c ∷ w ∷ r) zero h = first-cycle (c + d) w (shifted d r) ∙ ap (λ (n : ℕ). n + d) (sym (first-cycle c w r))
  shift-cycle (c ∷ w ∷ r) (suc i) h =
      later-cycle (c + d) w (shifted d r) i ∙ shift-cycle r i (omega (arith, h, one_more c w r)) ∙ ap (λ (n : ℕ). n + d) (sym (later-cycle c w r i))

  shift_word : (r : List ℕ) (i : ℕ) → i < events_in r → word_at (shifted d r) i ≡ word_at r i
  unfolding shifted
  shift_word [] i h = absurd (no-events [] (omega arith) i h)
  shift_word (c ∷ []) i h = absurd (no-events (c ∷ []) (omega arith) i h)
  shift_word (c ∷ w ∷ r) zero h = first_word (c + d) w (shifted d r) ∙ sym (first_word c w r)
  shift_word (c ∷ w ∷ r) (suc i) h = later-word (c + d) w (shifted d r) i ∙ shift_word r i (omega (arith, h, one_more c w r)) ∙ sym (later-word c w r i)

  -- so all have partners
  no-event-alone : (wires cores : List ℕ) → soundness d wires cores ≡ Ok tt → shifted d wires ≡ cores → alone d wires cores ≡ None
  no-event-alone wires cores sound same =
      let both = sound-both d wires cores sound in
      let count : events_in cores ≡ events_in wires = same_count cores wires (ap length (sym same) ∙ shift-long wires) in
      let step : (i : ℕ) → i < events_in wires → partners d wires cores i i ≡ true =
      λ i h.
      are-partners d wires cores i i
      (sym (ap (λ (l : List ℕ). word_at l i) (sym same) ∙ shift_word wires i h))
      (sym (ap (λ (l : List ℕ). cycle_at l i) (sym same) ∙ shift-cycle wires i h))
      in
      sym (alone-sound d wires cores sound)
      ∙ finds-none d wires cores (wires-three d wires both.0).1 (cores-two cores both.1).1 (events_in wires) step (refl, count)

  nothing_left : (wires cores : List ℕ) → alone d wires cores ≡ None → unmatched d wires cores ≡ []
  unfolding unmatched rest_of
  nothing_left wires cores none = ap (rest_of wires cores) none ∙ drop-length wires

-- ---- where nothing is pending

module _ (p : Policy) (s : State) (fits : in_range p s ≡ true) where
  delay-small : p.timing.response < 32
  delay-small =
      let timed = (policy-laws p (ranged p s fits).fit).timed in
      omega (arith, timed.response_bounds.1, timed.dead_bounds.1)

  -- nothing pending is no events, and back
  quiet_none : nothing_pending s ≡ true → pending_of p s ≡ []
  unfolding nothing_pending
  quiet_none e =
      due-none s.flight.responses s.cycle p.timing.response
      (λ k l. eqb-true (due_at s.flight.responses (s.cycle + k)) 0 (every-at (λ d. eqb (due_at s.flight.responses (s.cycle + d)) 0) 32 e k (omega (arith, l, delay-small))))

  none-quiet : length (pending_of p s) ≡ 0 → nothing_pending s ≡ true
  unfolding nothing_pending
  none-quiet e =
      every-all (λ d. eqb (due_at s.flight.responses (s.cycle + d)) 0) 32
      (λ k l.
      eq-eqb (due_at s.flight.responses (s.cycle + k)) 0
      (⊎_elim (λ (h : k < p.timing.response). none-due s.flight.responses s.cycle p.timing.response e k h) (λ (h : p.timing.response ≤ k). none-late p s fits k h l) (lt-or-ge k p.timing.response)))

-- ---- a stretch of a log

module _ (p : Policy) (given : policy_in_range p ≡ true) where
  abbrev fresh : State
  fresh = fresh_state p

  abbrev after_list : List ℕ → State
  after_list ws = state_after p fresh ws

  fits_after : (ws : List ℕ) → in_range p (after_list ws) ≡ true
  fits_after ws = after-in-range p fresh ws (fresh-fits p given)

  -- the log of the calls from the state before them
  cut-is : (before ws after : List ℕ) → cut_log p before ws after ≡ log_of p (after_list before) ws
  unfolding cut_log
  cut-is before ws after =
      let s = after_list before in
      let first = log_of p fresh before in
      let mine = log_of p s ws in
      let rest = log_of p (state_after p s ws) after in
      let whole : log_of p fresh (before ++ ws ++ after) ≡ first ++ (mine ++ rest) =
      ap (log_of p fresh) (append_assoc before ws after) ∙ cut-log p fresh before (ws ++ after) ∙ ap (λ (l : List ℕ). first ++ l) (cut-log p s ws after)
      in
      let behind : drop (4 * length before) (first ++ (mine ++ rest)) ≡ mine ++ rest =
      ap (λ (n : ℕ). drop n (first ++ (mine ++ rest))) (sym (four_each p fresh before)) ∙ drop-append_seam first (mine ++ rest)
      in
      ap (λ (l : List ℕ). take (4 * length ws) (drop (4 * length before) l)) whole
      ∙ ap (take (4 * length ws)) behind
      ∙ ap (λ (n : ℕ). take n (mine ++ rest)) (sym (four_each p s ws))
      ∙ take-append_seam mine rest

  fresh-cycle : fresh.cycle ≡ 0
  unfolding fresh_state state_at_start
  fresh-cycle = refl

  start_is : (before : List ℕ) → start_of p before ≡ (after_list before).cycle
  unfolding start_of
  start_is before = sym (cycle-after p before fresh (fresh-fits p given) ∙ ap (λ (n : ℕ). n + ticks_in before (log_of p fresh before)) fresh-cycle ∙ zero-add (ticks_in before (log_of p fresh before)))

  stretch-is : (activates : Bool) (before ws after : List ℕ) → stretch p activates before ws after ≡ recording_of activates (after_list before).cycle ws (log_of p (after_list before) ws)
  unfolding stretch
  stretch-is activates before ws after = ap₂ (λ (n : ℕ) (l : List ℕ). recording_of activates n ws l) (start_is before) (cut-is before ws after)

  -- it ends at a cycle of a state
  ends-in-time : (before ws : List ℕ) → (after_list before).cycle + ticks_in ws (log_of p (after_list before) ws) ≤ last_cycle
  ends-in-time before ws =
      let s = after_list before in
      let kept = (ranged p (state_after p s ws) (after-in-range p s ws (fits_after before))).cycle_bound in
      omega (arith, kept, cycle-after p ws s (fits_after before))

  delay-byte : p.timing.response ≤ 255
  delay-byte = omega (arith, delay-small p fresh (fresh-fits p given))

  sound : (before ws after : List ℕ) → soundness p.timing.response (stretch p true before ws after) (stretch p false before ws after) ≡ Ok tt
  sound before ws after =
      let s = after_list before in
      ap₂ (soundness p.timing.response) (stretch-is true before ws after) (stretch-is false before ws after)
      ∙ recordings-sound ws (log_of p s ws) s.cycle p.timing.response delay-byte (ends-in-time before ws)

  -- the activates, moved by the delay, are the responses
  moved : (before ws after : List ℕ) → quiet_after p before ≡ true → quiet_after p (before ++ ws) ≡ true → shifted p.timing.response (stretch p true before ws after) ≡ stretch p false before ws after
  unfolding quiet_after
  moved before ws after first last =
      let s = after_list before in
      let d = p.timing.response in
      let wires = recording_of true s.cycle ws (log_of p s ws) in
      let cores = recording_of false s.cycle ws (log_of p s ws) in
      let at_first : pending_of p s ≡ [] = quiet_none p s (fits_after before) first in
      let at_last : pending_of p (state_after p s ws) ≡ [] = quiet_none p (state_after p s ws) (after-in-range p s ws (fits_after before)) (ap nothing_pending (sym (cut_state p fresh before ws)) ∙ last) in
      ap (shifted d) (stretch-is true before ws after)
      ∙ ap (λ (l : List ℕ). l ++ shifted d wires) (sym at_first)
      ∙ in_order p ws s (fits_after before)
      ∙ ap (λ (l : List ℕ). cores ++ l) at_last
      ∙ append-nil cores
      ∙ sym (stretch-is false before ws after)

  none_alone : (before ws after : List ℕ) → quiet_after p before ≡ true → quiet_after p (before ++ ws) ≡ true
      → alone p.timing.response (stretch p true before ws after) (stretch p false before ws after) ≡ None
  none_alone before ws after first last =
      no-event-alone p.timing.response (stretch p true before ws after) (stretch p false before ws after) (sound before ws after) (moved before ws after first last)

  all_matched : (before ws after : List ℕ) → quiet_after p before ≡ true → quiet_after p (before ++ ws) ≡ true
      → unmatched p.timing.response (stretch p true before ws after) (stretch p false before ws after) ≡ []
  all_matched before ws after first last = nothing_left p.timing.response (stretch p true before ws after) (stretch p false before ws after) (none_alone before ws after first last)

  handed_back : (activates : Bool) (before ws after out : List ℕ) → length (stretch p activates before ws after) ≤ length out → record_status activates ws (cut_log p before ws after) (start_of p before) out ≡ 0
  unfolding stretch
  handed_back activates before ws after out room =
      let s = after_list before in
      let ticks : start_of p before + ticks_in ws (cut_log p before ws after) ≤ last_cycle =
      subst (λ (n : ℕ). n ≤ last_cycle) (sym (ap₂ (λ (n : ℕ) (l : List ℕ). n + ticks_in ws l) (start_is before) (cut-is before ws after))) (ends-in-time before ws)
      in
      not_refused activates ws (cut_log p before ws after) (start_of p before) out (ap length (cut-is before ws after) ∙ four_each p s ws) ticks room

  -- ---- read off the log

  quiet_at_first : quiet_after p [] ≡ true
  unfolding quiet_after state_after nothing_pending fresh_state state_at_start nothing_in_flight zeros due_at every
  quiet_at_first = refl

  in-order-from-fresh : (ws : List ℕ) → shifted p.timing.response (stretch p true [] ws []) ≡ stretch p false [] ws [] ++ pending_of p (after_list ws)
  unfolding quiet_after state_after
  in-order-from-fresh ws =
      let d = p.timing.response in
      let none : pending_of p fresh ≡ [] = quiet_none p fresh (fresh-fits p given) quiet_at_first in
      ap (shifted d) (stretch-is true [] ws [])
      ∙ ap (λ (l : List ℕ). l ++ shifted d (recording_of true fresh.cycle ws (log_of p fresh ws))) (sym none)
      ∙ in_order p ws fresh (fresh-fits p given)
      ∙ ap (λ (l : List ℕ). l ++ pending_of p (after_list ws)) (sym (stretch-is false [] ws []))

  quiet_shown : (ws : List ℕ) → quiet_after p ws ≡ eqb (length (stretch p true [] ws [])) (length (stretch p false [] ws []))
  unfolding quiet_after
  quiet_shown ws =
      let d = p.timing.response in
      let wires = stretch p true [] ws [] in
      let cores = stretch p false [] ws [] in
      let s = after_list ws in
      let order = in-order-from-fresh ws in
      let sizes : length wires ≡ length cores + length (pending_of p s) = sym (shift-long d wires) ∙ ap length order ∙ length-append cores (pending_of p s) in
      same_truth (nothing_pending s) (eqb (length wires) (length cores))
      (λ e. eq-eqb (length wires) (length cores) (sizes ∙ ap (λ (l : List ℕ). length cores + length l) (quiet_none p s (fits_after ws) e) ∙ add-zero (length cores)))
      (λ e. let same = eqb-true (length wires) (length cores) e in none-quiet p s (fits_after ws) (omega (arith, sizes, same)))

  run-matches : RunMatches p
  run-matches =
      record {
        sound = sound;
        all_matched = all_matched;
        none_alone = none_alone;
        handed_back = handed_back;
        quiet_shown = quiet_shown;
        quiet_at_first = quiet_at_first;
        start_is = start_is;
      }

pub runs-match : RunsMatch
runs-match p given = run-matches p given
