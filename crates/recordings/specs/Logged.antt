-- The two recordings of a log, given the cycle at its start: "activates on the command wires and answers at the cores, each as pairs of cycle and word". Which lines are ticks stands in the trace: a log shows a tick in
-- which nothing happens and an offer that is taken by the same four numbers.
use Rattle.std.specs.Prelude.{Bool, cond, ◌&&◌, List, [], ◌∷◌, ◌++◌, ℕ, ◌+◌, ◌*◌, ◌/◌, ◌%◌, eqb, leb, length, get_or, drop}
use Rattle.requests.specs.Sizes.{last_cycle}
use Rattle.std.specs.declared.result.Result.{Result}
use Rattle.std.specs.declared.result.Result.TheVariants.{Ok, Err}
use Rattle.refusals.specs.declared.Refusal.{Refusal}
use Rattle.refusals.specs.Refusal.{number}

-- ---- one line

-- "0 is a tick"; one that is refused is not made
unfoldable pub is_tick : ℕ → ℕ → Bool
is_tick w status = eqb w 0 && eqb status 0

-- "A command or answer is the offer's word, with bit 30 set for a column command; 0 is none": the word of an activate on the wires, or of an answer at the cores (where `activates` is false); 0 for none
unfoldable pub shown_at : Bool → ℕ → ℕ → ℕ
shown_at activates command response = cond activates (cond (eqb (command / 1073741824 % 2) 0) command 0) response

-- the word that is shown of a trace number whose four log numbers stand from `from` on
unfoldable pub word_shown : Bool → ℕ → List ℕ → ℕ → ℕ
word_shown activates w log from = cond (is_tick w (get_or log from 0)) (shown_at activates (get_or log (from + 1) 0) (get_or log (from + 2) 0)) 0

-- the event of a cycle at which a word is shown
unfoldable pub event_at : ℕ → ℕ → List ℕ
event_at t w = cond (eqb w 0) [] (t ∷ w ∷ [])

-- how far a line moves the cycle
unfoldable pub tick_in : ℕ → List ℕ → ℕ → ℕ
tick_in w log from = cond (is_tick w (get_or log from 0)) 1 0

-- ---- a log

-- the ticks of a trace that its log shows as made
unfoldable pub ticks_in : List ℕ → List ℕ → ℕ
ticks_in [] log = 0
ticks_in (w ∷ ws) log = tick_in w log 0 + ticks_in ws (drop 4 log)

-- the recording at the wires, or at the cores, of a log that begins at cycle t: "Cycles count from 0", tick by tick
unfoldable pub recording_of : Bool → ℕ → List ℕ → List ℕ → List ℕ
recording_of activates t [] log = []
recording_of activates t (w ∷ ws) log = event_at t (word_shown activates w log 0) ++ recording_of activates (t + tick_in w log 0) ws (drop 4 log)

-- ---- the call

-- the two numbers of an answer: the status, and how many numbers were written
pub record Recorded : Type 0 where
  pub status : ℕ
  pub count : ℕ

-- 0 and the count, or the number of what refuses the call and a count of 0
unfoldable pub counted : Result ℕ Refusal → Recorded
counted (Ok n) = record { status = 0; count = n }
counted (Err r) = record { status = number r; count = 0 }

-- 17: "log .. not 4 times the trace"; 12: "a tick after 16,777,215 ticks"; 16: too little room. 0 where none refuses it.
unfoldable pub record_status : Bool → List ℕ → List ℕ → ℕ → List ℕ → ℕ
record_status activates trace log start out =
    cond (eqb (length log) (4 * length trace)) (cond (leb (start + ticks_in trace log) last_cycle) (cond (leb (length (recording_of activates start trace log)) (length out)) 0 16) 12) 17

-- how many numbers were written, none where it is refused
unfoldable pub recorded : Bool → List ℕ → List ℕ → ℕ → List ℕ → Recorded
recorded activates trace log start out =
    record {
      status = record_status activates trace log start out;
      count = cond (eqb (record_status activates trace log start out) 0) (length (recording_of activates start trace log)) 0;
    }

-- a list written to the start of another: "Numbers past the written part stay"
unfoldable pub written : List ℕ → List ℕ → List ℕ
written numbers out = numbers ++ drop (length numbers) out

-- the numbers of `out` after the call: a refused one writes nothing
unfoldable pub out_after : Bool → List ℕ → List ℕ → ℕ → List ℕ → List ℕ
out_after activates trace log start out = cond (eqb (record_status activates trace log start out) 0) (written (recording_of activates start trace log) out) out
