-- That an answer is taken is that its status is 0: no refusal has the number 0.
-- Assumes nothing.
use mathlib.Core.Path.{◌≡◌, refl, sym}
use mathlib.Core.Bool.{false}
use lib.Dec.{eqb}
use Rattle.std.specs.declared.result.Result.{Result}
use Rattle.std.specs.declared.result.Result.TheVariants.{Ok, Err}
use Rattle.std.specs.Result.{is_ok}
use Rattle.refusals.specs.Refusal.{number, status_of}
use Rattle.refusals.specs.declared.Refusal.{Refusal}
use Rattle.refusals.specs.declared.Refusal.TheVariants.{Contents, Lengths, Rows, Antisymmetry, Transitivity, LeastClass, Turns, Timing, Class, LastCycle, OutOfRange, Room, LogLength, SmallOrder}

pub never-0 : (r : Refusal) → eqb (number r) 0 ≡ false
unfolding number
never-0 Contents = refl
never-0 Lengths = refl
never-0 Rows = refl
never-0 Antisymmetry = refl
never-0 Transitivity = refl
never-0 LeastClass = refl
never-0 Turns = refl
never-0 Timing = refl
never-0 Class = refl
never-0 LastCycle = refl
never-0 OutOfRange = refl
never-0 Room = refl
never-0 LogLength = refl
never-0 SmallOrder = refl

pub taken-is-0 : {T : Type 0} (r : Result T Refusal) → is_ok r ≡ eqb (status_of r) 0
unfolding status_of
taken-is-0 (Ok x) = refl
taken-is-0 (Err r) = sym (never-0 r)
