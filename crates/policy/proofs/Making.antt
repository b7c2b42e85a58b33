-- A policy that is made of numbers is in range where no test refuses it, and what is no class has no row and no minimum: its covers and caps are those that are asked for.
-- Assumes nothing.
use mathlib.Core.Path.{◌≡◌}
use mathlib.Core.Logic.{⊎_elim}
use mathlib.Core.Bool.{true, false}
use mathlib.Core.List.{List}
use Prim.Native.Nat.{ℕ, ◌≤◌, ◌<◌}
use borrow.Author.Tests.{eq-eqb, lt-ltb, le-leb}
use lib.Dec.{ltb}
use lib.ListN.{length, get_or}
use Rattle.order.specs.Order.{is_class_in, cover_set}
use Rattle.turns.specs.Turns.{cap_in}
use Rattle.timing.specs.Timing.{within}
use Rattle.policy.specs.Policy.{made, covers_of, cap, minimum, is_class, refusal, shaped, stored_fits, all_stored_fits, in_range}
use Rattle.timing.specs.declared.Timing.{Timing}
use Rattle.policy.specs.declared.Policy.{Policy}
use Rattle.basics.proofs.Truth.{either, and_both, or_left, or_right}
use Rattle.basics.proofs.Below.{every-all, get_or-list_of, length-list_of}

-- what the types of the fields say, one by one, is that the policy is shaped
pub is-shaped : (p : Policy) → length p.rows ≡ 16 → length p.minimums ≡ 16 → length p.covers ≡ 16 → length p.caps ≡ 16 → ((i : ℕ) → i < 16 → get_or p.rows i 0 < 65536) → shaped p ≡ true
unfolding shaped
is-shaped p rows minimums covers caps bits =
    and_both (and_both (and_both (and_both (eq-eqb _ 16 rows) (eq-eqb _ 16 minimums)) (eq-eqb _ 16 covers)) (eq-eqb _ 16 caps))
    (every-all (λ i. ltb (get_or p.rows i 0) 65536) 16 (λ i l. lt-ltb (get_or p.rows i 0) 65536 (bits i l)))

-- what the types of the fields say, and that what is no class has no minimum
pub record Fit (n : ℕ) (rows minimums : List ℕ) : Type 0 where
  pub sixteen_rows : length rows ≡ 16
  pub sixteen_minimums : length minimums ≡ 16
  pub row_bits : (i : ℕ) → i < 16 → get_or rows i 0 < 65536
  pub few : (1 ≤ n) × (n ≤ 16)
  pub no_minimum : (i : ℕ) → is_class_in n i ≡ false → get_or minimums i 0 ≡ 0

module _ (n : ℕ) (rows : List ℕ) (epoch : ℕ) (minimums : List ℕ) (timing : Timing) (fit : Fit n rows minimums) where
  made_shaped : shaped (made n rows epoch minimums timing) ≡ true
  unfolding made
  made_shaped =
      is-shaped (made n rows epoch minimums timing) fit.sixteen_rows fit.sixteen_minimums (length-list_of (cover_set rows) 16) (length-list_of (cap_in n rows epoch minimums) 16) fit.row_bits

  made-stored : all_stored_fits (made n rows epoch minimums timing) ≡ true
  unfolding all_stored_fits stored_fits covers_of cap is_class minimum made
  made-stored =
      every-all (stored_fits (made n rows epoch minimums timing)) 16
      (λ i l.
      and_both
      (and_both (eq-eqb _ _ (get_or-list_of (cover_set rows) 16 i l)) (eq-eqb _ _ (get_or-list_of (cap_in n rows epoch minimums) 16 i l)))
      (⊎_elim (λ b. or_left (is_class_in n i) _ b) (λ b. or_right (is_class_in n i) _ (eq-eqb _ 0 (fit.no_minimum i b))) (either (is_class_in n i))))

  pub made-in-range : refusal (made n rows epoch minimums timing) ≡ 0 → in_range (made n rows epoch minimums timing) ≡ true
  unfolding in_range within made
  made-in-range e =
      and_both
      (and_both (and_both made_shaped (and_both (le-leb 1 n fit.few.0) (le-leb n 16 fit.few.1))) (eq-eqb (refusal (made n rows epoch minimums timing)) 0 e))
      made-stored
