-- W-211: demand 3 for a set of classes, of which that for a class (`Claim`) is a case. "For each set, two lists as in demand 3, equal once malformed words and offers that may flow
-- to no member are struck, give equal set extracts and equal stored parts of the classes kept." A set is a number, bit c for class c.
use Rattle.std.specs.Prelude.{◌≡◌, Bool, true, false, not, List, [], ◌∷◌, ℕ, ◌≤◌, length, take}
use Rattle.policy.specs.declared.Policy.{Policy}
use Rattle.requests.specs.Trace.{call_of}
use Rattle.requests.specs.declared.Call.{Call}
use Rattle.requests.specs.declared.Call.TheVariants.{Tick, Offer, Malformed}
use Rattle.rules.specs.PublicCalls.{PublicCall, trace_made}
use Rattle.extract.specs.Seen.{seen_by_any}
use Rattle.extract.specs.Extract.{are_classes, kept_for_set, extract_set, out_after_set}
use Rattle.noninterference.specs.Claim.{Accepted, SameFor, Outcome, outcome, made}

-- "malformed words and offers that may flow to no member are struck". A class that does not exist flows nowhere; ticks, refused ones too, all stay.
unfoldable pub struck_for_set : Policy → ℕ → Call → Bool
struck_for_set p set Tick = false
struck_for_set p set (Offer r) = not (seen_by_any p set r.class)
struck_for_set p set Malformed = true

-- what is left of a list once the calls are struck that a test names
unfoldable pub purge_by : (Call → Bool) → List ℕ → List ℕ
purge_by out [] = []
purge_by out (w ∷ ws) = elim (out (call_of w)) [ true ↦ purge_by out ws | false ↦ w ∷ purge_by out ws ]

-- the two lists are "equal once" these are struck
abbrev pub AgreeForSet : Policy → ℕ → List ℕ → List ℕ → Type 0
AgreeForSet p set xs ys = purge_by (struck_for_set p set) xs ≡ purge_by (struck_for_set p set) ys

-- what two lists of calls have in common for a set
pub record SameForSet (p : Policy) (set : ℕ) (a b : Outcome) : Type 0 where
  -- "equal set extracts": the numbers that are kept of each log
  pub numbers : kept_for_set p set a.trace a.log ≡ kept_for_set p set b.trace b.log
  -- with room enough an extract is not refused
  pub enough : (out : List ℕ) → length (kept_for_set p set a.trace a.log) ≤ length out → (extract_set p set a.trace a.log out).status ≡ 0
  -- the same status and the same count, whatever the room and what lies in it
  pub answers : (one two : List ℕ) → length one ≡ length two → extract_set p set a.trace a.log one ≡ extract_set p set b.trace b.log two
  -- and so the written part of the two is the same
  pub written : (one two : List ℕ) → length one ≡ length two
      → take (extract_set p set a.trace a.log one).count (out_after_set p set a.trace a.log one)
      ≡ take (extract_set p set b.trace b.log two).count (out_after_set p set b.trace b.log two)
  -- "and equal stored parts of the classes kept": waiting requests, W-203's counts, turns left and marks
  pub states : (c : ℕ) → seen_by_any p set c ≡ true → SameFor c a.state b.state

-- the claim, of every accepted policy and every set of its classes, the empty one too: of two lists of trace numbers, of any length and with any numbers in them
abbrev pub SetNoninterference : Type 0
SetNoninterference =
    (p : Policy) → Accepted p → (set : ℕ) → are_classes p set ≡ true → (xs ys : List ℕ) → AgreeForSet p set xs ys → SameForSet p set (outcome p xs) (outcome p ys)

-- and of two lists of calls, however a program makes them
abbrev pub CallsSetNoninterference : Type 0
CallsSetNoninterference =
    (p : Policy) → Accepted p → (set : ℕ) → are_classes p set ≡ true → (cs ds : List PublicCall) → AgreeForSet p set (trace_made cs) (trace_made ds)
    → SameForSet p set (made p cs) (made p ds)
