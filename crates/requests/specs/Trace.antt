-- "0 is a tick. An offer has bit 31 set, .. other bits 0."
use Rattle.std.specs.Prelude.{true, false, ℕ, eqb}
use Rattle.requests.specs.Word.{is_offer, request_of}
use Rattle.requests.specs.declared.Call.{Call}
use Rattle.requests.specs.declared.Call.TheVariants.{Tick, Offer, Malformed}

-- 14: "a trace number of neither form" is malformed
unfoldable pub call_of : ℕ → Call
call_of w = elim (eqb w 0) [ true ↦ Tick | false ↦ elim (is_offer w) [ true ↦ Offer (request_of w) | false ↦ Malformed ] ]
