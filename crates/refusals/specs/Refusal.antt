-- The numbers of what is turned down.
use Rattle.std.specs.Prelude.{ℕ}
use Rattle.std.specs.declared.result.Result.{Result}
use Rattle.std.specs.declared.result.Result.TheVariants.{Ok, Err}
use Rattle.refusals.specs.declared.Refusal.{Refusal}
use Rattle.refusals.specs.declared.Refusal.TheVariants.{Contents, Lengths, Rows, Antisymmetry, Transitivity, LeastClass, Turns, Timing, Class, LastCycle, OutOfRange, Room, LogLength, SmallOrder}

-- document 01, the table "What is turned down": its column "No."; and 20 of W-208
unfoldable pub number : Refusal → ℕ
number Contents = 1
number Lengths = 2
number Rows = 3
number Antisymmetry = 4
number Transitivity = 5
number LeastClass = 6
number Turns = 7
number Timing = 8
number Class = 9
number LastCycle = 12
number OutOfRange = 13
number Room = 16
number LogLength = 17
number SmallOrder = 20

-- "status (0 or the number below)"
unfoldable pub status_of : {T : Type 0} → Result T Refusal → ℕ
status_of (Ok _) = 0
status_of (Err r) = number r
