-- Laws of recordings: what it says that one is sound, and that an event of one is found where the code looks for it.
-- Assumes nothing.
use mathlib.Core.Path.{◌≡◌, refl, sym, ap, subst}
use mathlib.Core.Logic.{⊎_elim}
use mathlib.Core.Bool.{true, false, ◌&&◌}
use mathlib.Core.List.{List}
use Prim.Native.Nat.{ℕ, suc, ◌+◌, ◌-◌, ◌*◌, ◌≤◌, ◌<◌}
use native.Mathlib.Nat.{zero-add}
use native.Mathlib.Omega.{arith}
use borrow.Author.Tests.{leb-true, ltb-true}
use lib.Dec.{leb, ltb}
use lib.ListN.{length, get_or}
use Rattle.basics.proofs.Truth.{either, and_left, and_right, and-three}
use Rattle.basics.proofs.Below.{every-at}
use Rattle.recordings.specs.Recording.{events_in, cycle_at, in_pairs, rises, due_fits, wires_sound, cores_sound, soundness}
use Rattle.std.specs.Result.{result_ok}
use Rattle.std.specs.declared.option.Option.TheVariants.{None, Some}
use Rattle.std.specs.declared.result.Result.{Result}
use Rattle.std.specs.declared.result.Result.TheVariants.{Ok, Err}
use Rattle.recordings.specs.declared.Fault.{Fault}
use Rattle.recordings.specs.declared.Fault.TheVariants.{Wires, Cores}

module _ (r : List ℕ) where
  -- the next event's cycle
  pub cycle-next : (i : ℕ) → cycle_at r (suc i) ≡ get_or r (2 * i + 2) 0
  unfolding cycle_at
  cycle-next i = ap (λ (k : ℕ). get_or r k 0) (omega arith)

  -- an event's numbers stand within the recording
  pub within : (i : ℕ) → i < events_in r → 2 * i + 2 ≤ length r
  unfolding events_in
  within i h = omega arith

  -- cycles rise, from any event to any later one
  module _ (up : rises r ≡ true) where
    next-above : (i : ℕ) → suc i < events_in r → cycle_at r i < cycle_at r (suc i)
    unfolding rises
    next-above i h = ltb-true _ _ (every-at (λ k. ltb (cycle_at r k) (cycle_at r (suc k))) (events_in r - 1) up i (omega (arith, h)))

    -- n events on
    far-above : (n i : ℕ) → suc (n + i) < events_in r → cycle_at r i < cycle_at r (suc (n + i))
    far-above ℕ.zero i h = subst (λ (k : ℕ). cycle_at r i < cycle_at r (suc k)) (sym (zero-add i)) (next-above i (subst (λ (k : ℕ). suc k < events_in r) (zero-add i) h))
    far-above (suc n) i h =
        let same : suc (n + i) ≡ suc n + i = omega arith in
        subst (λ (k : ℕ). cycle_at r i < cycle_at r (suc k)) same (omega (arith, far-above n i (omega (arith, h)), next-above (suc (n + i)) (omega (arith, h))))

    pub above : (i j : ℕ) → i < j → j < events_in r → cycle_at r i < cycle_at r j
    above i j before h =
        let steps : suc (j - suc i + i) ≡ j = omega (arith, before) in
        subst (λ (k : ℕ). cycle_at r i < cycle_at r k) steps (far-above (j - suc i) i (omega (arith, before, h)))

-- every due cycle has 32 bits
pub due-small : (delay : ℕ) (r : List ℕ) → due_fits delay r ≡ true → (i : ℕ) → i < events_in r → cycle_at r i + delay ≤ 4294967295
unfolding due_fits
due-small delay r fits i h = leb-true _ _ (every-at (λ k. leb (cycle_at r k + delay) 4294967295) (events_in r) fits i h)

-- and so where the code looks for it
pub due_reads : (delay : ℕ) (r : List ℕ) → due_fits delay r ≡ true → (i : ℕ) → 2 * i + 2 ≤ length r → get_or r (2 * i) 0 + delay < 4294967296
unfolding cycle_at events_in
due_reads delay r fits i h = omega (arith, due-small delay r fits i (omega (arith, h)))

-- the parts of soundness
pub wires-three : (delay : ℕ) (r : List ℕ) → wires_sound delay r ≡ true → (in_pairs r ≡ true) × (rises r ≡ true) × (due_fits delay r ≡ true)
unfolding wires_sound
wires-three delay r e = and-three (in_pairs r) (rises r) (due_fits delay r) e

pub cores-two : (r : List ℕ) → cores_sound r ≡ true → (in_pairs r ≡ true) × (rises r ≡ true)
unfolding cores_sound
cores-two r e = (and_left (in_pairs r) (rises r) e, and_right (in_pairs r) (rises r) e)

-- ---- the question

-- what `ok` tells of an answer
pub ok-some : {T E : Type 0} (r : Result T E) (x : T) → result_ok r ≡ Some x → r ≡ Ok x
ok-some (Ok y) x e = cc
ok-some (Err f) x e = cc

pub ok-none : {T E : Type 0} (r : Result T E) → result_ok r ≡ None → (f : E) × (r ≡ Err f)
ok-none (Ok y) e = absurd (let h : ⊥ = cc in h)
ok-none (Err f) e = (f, refl)

module _ (delay : ℕ) (wires cores : List ℕ) where
  pub wires-unsound : wires_sound delay wires ≡ false → soundness delay wires cores ≡ Err Wires
  unfolding soundness
  wires-unsound e = rw e refl

  pub cores-unsound : wires_sound delay wires ≡ true → cores_sound cores ≡ false → soundness delay wires cores ≡ Err Cores
  unfolding soundness
  cores-unsound e f = rw (e, f) refl

  pub both-sound : wires_sound delay wires ≡ true → cores_sound cores ≡ true → soundness delay wires cores ≡ Ok tt
  unfolding soundness
  both-sound e f = rw (e, f) refl

  -- and back: `Ok` says that both are sound, and an `Err` that one is not
  pub sound-both : soundness delay wires cores ≡ Ok tt → (wires_sound delay wires ≡ true) × (cores_sound cores ≡ true)
  sound-both e =
      ⊎_elim
      (λ (w : wires_sound delay wires ≡ true).
      ⊎_elim (λ (c : cores_sound cores ≡ true). (w, c)) (λ (c : cores_sound cores ≡ false). let x = cores-unsound w c in cc) (either (cores_sound cores)))
      (λ (w : wires_sound delay wires ≡ false). let x = wires-unsound w in cc)
      (either (wires_sound delay wires))

  pub unsound-one : (f : Fault) → soundness delay wires cores ≡ Err f → (wires_sound delay wires && cores_sound cores) ≡ false
  unsound-one f e =
      ⊎_elim
      (λ (w : wires_sound delay wires ≡ true).
      ⊎_elim (λ (c : cores_sound cores ≡ true). let x = both-sound w c in cc) (λ (c : cores_sound cores ≡ false). rw (w, c) refl) (either (cores_sound cores)))
      (λ (w : wires_sound delay wires ≡ false). rw w refl)
      (either (wires_sound delay wires))
