-- What the functions in place rest on.
-- Assumes nothing.
use mathlib.Core.Path.{◌≡◌, subst}
use Prim.Native.Nat.{ℕ, ◌+◌, ◌<◌}
use native.Mathlib.Nat.{not-suc-le-zero}
use Rattle.rules.specs.Step.{Bus}
use Rattle.wires.specs.InPlace.{NoneUntil}

-- where nothing is known of when a request may go, nothing is said
pub nothing_known : (b : Bus) (until : ℕ) → until ≡ 0 → NoneUntil b until
nothing_known b until e t early = absurd (not-suc-le-zero (subst (λ (n : ℕ). t + 1 < n) e early))
