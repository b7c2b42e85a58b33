-- What has passed where fetching an order is not refused; and the minimums, which are all 0.
-- Assumes nothing.
use mathlib.Core.Path.{◌≡◌, refl, sym, ◌∙◌}
use mathlib.Core.Bool.{Bool, true, false, cond}
use mathlib.Core.List.{List}
use Prim.Native.Nat.{ℕ}
use native.Mathlib.Omega.{arith}
use lib.Dec.{ltb}
use lib.ListN.{length, replicate}
use Rattle.basics.specs.Below.{list_of}
use Rattle.timing.specs.Timing.{within, timing_sound}
use Rattle.orders.specs.Listed.{few, body_timing, fetch_status}
use Rattle.basics.proofs.Truth.{on-either}
use Rattle.basics.proofs.Below.{list_of-same}

-- each question of three that are asked one after the other has passed where none refuses
all_pass : (a b d : Bool) → cond {A = ℕ} a (cond b (cond d 0 8) 2) 20 ≡ 0 → (a ≡ true) × (b ≡ true) × (d ≡ true)
all_pass true true true e = (refl, refl, refl)
all_pass true true false e = absurd (omega (arith, e))
all_pass true false d e = absurd (omega (arith, e))
all_pass false b d e = absurd (omega (arith, e))

module _ (n : ℕ) (body : List ℕ) (taken : fetch_status n body ≡ 0) where
  pub passed : (few n ≡ true) × (within 10 (length body) 11 ≡ true) × (timing_sound (body_timing body) ≡ true)
  unfolding fetch_status
  passed = all_pass (few n) (within 10 (length body) 11) (timing_sound (body_timing body)) taken

-- "minimums 0"
zeros : replicate 16 0 ≡ list_of 16 (λ i. 0)
unfolding list_of
zeros = refl

pub no-minimums : (n : ℕ) → replicate 16 0 ≡ list_of 16 (λ i. cond (ltb i n) 0 0)
no-minimums n = zeros ∙ list_of-same (λ i. 0) (λ i. cond (ltb i n) 0 0) 16 (λ i l. sym (on-either (ltb i n) 0))
