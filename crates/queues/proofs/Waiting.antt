-- The rings that waiting requests are stored in: a class is itself modulo 16.
-- Assumes nothing.
use mathlib.Core.Path.{◌≡◌, ap}
use Prim.Native.Nat.{ℕ, ◌%◌, ◌<◌}
use native.Mathlib.Omega.{arith}
use Rattle.queues.specs.Waiting.{place}

pub of-class : (class head k : ℕ) → class < 16 → place (class % 16) head k ≡ place class head k
of-class class head k small = let same : class % 16 ≡ class = omega (arith, small) in ap (λ (c : ℕ). place c head k) same
