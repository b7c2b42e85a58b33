-- Calls on a state in range, without the test, and the answers to trace words.
-- Assumes nothing.
use mathlib.Core.Path.{◌≡◌, ap, ◌∙◌}
use mathlib.Core.Bool.{true, false}
use lib.Dec.{ltb}
use Rattle.basics.proofs.Truth.{on-true, on-false}
use Rattle.policy.specs.declared.Policy.{Policy}
use Prim.Native.Nat.{ℕ}
use Rattle.requests.specs.Sizes.{last_cycle}
use Rattle.state.specs.Range.{in_range}
use Rattle.rules.specs.Call.{offer_on, offer, silent, after_tick, tick_on, tick}
use Rattle.requests.specs.Trace.{call_of}
use Rattle.rules.specs.Calls.{ticked, offered, answer, answer_to}
use Rattle.requests.specs.declared.Request.{Request}
use Rattle.state.specs.declared.State.{State}
use Rattle.requests.specs.declared.Call.TheVariants.{Tick, Offer, Malformed}

module _ (p : Policy) (s : State) (given : in_range p s ≡ true) where
  pub offer-is : (r : Request) → offer p s r ≡ offer_on p.timing.ranks s r
  unfolding offer
  offer-is r = on-true (in_range p s) (offer_on p.timing.ranks s r) (record { status = 13; state = s }) given

  pub tick_is : ltb s.cycle last_cycle ≡ true → tick p s ≡ after_tick p s
  unfolding tick tick_on
  tick_is e =
      on-true (in_range p s) (tick_on p s) (record { status = 13; state = s; shown = silent }) given
      ∙ on-true (ltb s.cycle last_cycle) (after_tick p s) (record { status = 12; state = s; shown = silent }) e

  -- no tick is left
  pub tick-late : ltb s.cycle last_cycle ≡ false → tick p s ≡ record { status = 12; state = s; shown = silent }
  unfolding tick tick_on
  tick-late e =
      on-true (in_range p s) (tick_on p s) (record { status = 13; state = s; shown = silent }) given
      ∙ on-false (ltb s.cycle last_cycle) (after_tick p s) (record { status = 12; state = s; shown = silent }) e

module _ (p : Policy) (s : State) (w : ℕ) where
  pub called-tick : call_of w ≡ Tick → answer_to p s w ≡ ticked (tick p s)
  unfolding answer_to answer
  called-tick e = ap (answer p s) e

  pub called-offer : (r : Request) → call_of w ≡ Offer r → answer_to p s w ≡ offered (offer p s r)
  unfolding answer_to answer
  called-offer r e = ap (answer p s) e

  pub called-malformed : call_of w ≡ Malformed → answer_to p s w ≡ record { state = s; status = 14; command = 0; response = 0; turn = 0 }
  unfolding answer_to answer
  called-malformed e = ap (answer p s) e
