-- What may be seen is a set of classes: those that may flow to L, or (W-211) to a member of a set of classes. A number that is no class is not in it.
use Rattle.std.specs.Prelude.{Bool, true, false, ◌&&◌, List, [], ◌∷◌, ℕ}
use Rattle.basics.specs.Below.{some}
use Rattle.masks.specs.Mask.{member}
use Rattle.policy.specs.Policy.{flows}
use Rattle.policy.specs.declared.Policy.{Policy}
use Rattle.requests.specs.Trace.{call_of}
use Rattle.requests.specs.declared.Call.{Call}
use Rattle.requests.specs.declared.Call.TheVariants.{Tick, Offer, Malformed}

-- the classes that "may flow to L"
unfoldable pub seen_by : Policy → ℕ → ℕ → Bool
seen_by p l c = flows p c l

-- W-211: "kept is whatever may flow to at least one of them": to a member of a set, which is a number, bit l for class l. A class is a number below 16.
unfoldable pub seen_by_any : Policy → ℕ → ℕ → Bool
seen_by_any p set c = some 16 (λ l. member set l && flows p c l)

-- "drops the four numbers of malformed words and of offers whose class may not flow to L or does not exist"
unfoldable pub call_stays : (ℕ → Bool) → Call → Bool
call_stays seen Tick = true
call_stays seen (Offer r) = seen r.class
call_stays seen Malformed = false

-- the same of a trace number
unfoldable pub stays : (ℕ → Bool) → ℕ → Bool
stays seen w = call_stays seen (call_of w)

-- the trace numbers that stay
unfoldable pub staying : (ℕ → Bool) → List ℕ → List ℕ
staying seen [] = []
staying seen (w ∷ ws) = elim (stays seen w) [ true ↦ w ∷ staying seen ws | false ↦ staying seen ws ]
