-- The laws of the home turns, of every policy that has those of the order, of the least class and of the caps, whose minimums' sum is within the epoch, and in which a number that
-- is no class has no minimum.
-- Assumes nothing.
use mathlib.Core.Path.{◌≡◌, refl, sym, ap, ◌∙◌}
use mathlib.Core.Logic.{◌↔◌, ⊎_elim}
use mathlib.Core.Bool.{Bool, true, false, cond, ◌&&◌}
use Prim.Native.Nat.{ℕ, ◌+◌, ◌-◌, ◌*◌, ◌/◌, ◌%◌, ◌≤◌, ◌<◌}
use native.Mathlib.Nat.{not-suc-le-zero, mod-lt, mod-add-div', add-mul-mod_self_right}
use native.Mathlib.Omega.{arith}
use borrow.Author.Tests.{eqb-true, eq-eqb, ne_eqb, leb-true, le-leb}
use lib.Dec.{leb, eqb}
use lib.ListN.{get_or}
use Rattle.basics.specs.Below.{some, sum, count}
use Rattle.order.specs.Order.{strictly_in}
use Rattle.turns.specs.Turns.{minimums_sum, minimums_above, free_turns, home_turn_in, home_place, minimums_below, home_at}
use Rattle.policy.specs.Policy.{is_class, flows, least, cap, minimum, home_turn, home_class}
use Rattle.policy.specs.Laws.{OrderLaws, LeastLaws, CapLaws, HomeLaws}
use Rattle.policy.specs.declared.Policy.{Policy}
use Rattle.basics.proofs.Truth.{false-unless, true-unless, either, and_left, and_right, on-either}
use Rattle.basics.proofs.Below.{lt-or-ge, some-found, none-at, count-all-fail, sum-except, sum-single}
use Rattle.order.proofs.Orders as orders
use Rattle.turns.proofs.Homes as homes

module _ (p : Policy) (order : OrderLaws p) (lowest : LeastLaws p) (capped : CapLaws p) (fits : minimums_sum p.minimums ≤ p.epoch) (no_minimum : (i : ℕ) → i < 16 → is_class p i ≡ false → minimum p i ≡ 0) where
  the_others : free_turns p.epoch p.minimums + minimums_sum p.minimums ≡ p.epoch
  the_others = homes.free-and-home p.minimums p.epoch fits

  the_last : (k : ℕ) → (home_turn p k ≡ true) ↔ (p.epoch ≤ k % p.epoch + minimums_sum p.minimums)
  unfolding home_turn home_turn_in
  the_last k =
      let free = free_turns p.epoch p.minimums in
      (λ t. omega (arith, leb-true free (k % p.epoch) t, the_others), λ l. le-leb free (k % p.epoch) (omega (arith, l, the_others)))

  -- ---- a home turn's class

  homed : (k : ℕ) → home_turn p k ≡ true → homes.Homed p.minimums (home_place p.epoch p.minimums k) (home_class p k)
  unfolding home_turn home_class
  homed k t = homes.home_found p.minimums _ (homes.home-place p.minimums p.epoch fits k capped.epoch_bounds.0 t)

  -- it has a minimum, and a number that is no class has none
  of-class : (k : ℕ) → home_turn p k ≡ true → is_class p (home_class p k) ≡ true
  unfolding minimum
  of-class k t =
      let h = homed k t in
      true-unless (is_class p (home_class p k)) (λ e. not-suc-le-zero {n = 0} (omega (arith, no_minimum (home_class p k) h.below e, h.not_before, h.not_after)))

  only : (k c : ℕ) → home_turn p k ≡ true → c < 16 → minimums_below p.minimums c ≤ home_place p.epoch p.minimums k → home_place p.epoch p.minimums k < minimums_below p.minimums c + minimum p c → home_class p k ≡ c
  unfolding home_class minimum
  only k c t small low high = homes.home-is p.minimums (home_place p.epoch p.minimums k) c (record { below = small; not_before = low; not_after = high })

  -- ---- how many each class has

  as_often : (f : ℕ → Bool) → count p.epoch (λ j. home_turn p j && f (home_class p j)) ≡ sum 16 (λ c. cond (f c) (minimum p c) 0)
  unfolding home_turn home_class minimum
  as_often = homes.home-turns p.minimums p.epoch fits

  as_its_minimum : (c : ℕ) → is_class p c ≡ true → count p.epoch (λ j. home_turn p j && eqb (home_class p j) c) ≡ minimum p c
  as_its_minimum c l =
      as_often (λ h. eqb h c)
      ∙ sum-single (λ h. cond (eqb h c) (minimum p h) 0) 16 c (order.class_small c l) (λ h b apart. rw (ne_eqb h c apart))
      ∙ rw (eq-eqb c c refl)

  -- ---- in every epoch

  every_epoch : (k j : ℕ) → k % p.epoch ≡ j % p.epoch → (home_turn p k ≡ home_turn p j) × (home_class p k ≡ home_class p j)
  unfolding home_turn home_turn_in home_class home_place
  every_epoch k j e =
      let free = free_turns p.epoch p.minimums in
      (ap (leb free) e, ap (λ (x : ℕ). home_at p.minimums (x - free)) e)

  -- the class has one in an epoch, and it comes in this epoch still or in the next
  comes_round : (k c : ℕ) → is_class p c ≡ true → 1 ≤ minimum p c → (d : ℕ) × (d < p.epoch) × (home_turn p (k + d) ≡ true) × (home_class p (k + d) ≡ c)
  comes_round k c class some-minimum =
      let f : ℕ → Bool = λ j. home_turn p j && eqb (home_class p j) c in
      ⊎_elim
      (λ t.
      let w = some-found f p.epoch t in
      let j = w.0 in
      let r = k % p.epoch in
      let q = k / p.epoch in
      let parts = mod-add-div' k p.epoch in
      let under = mod-lt k {m = p.epoch} capped.epoch_bounds.0 in
      let there : (d : ℕ) → (k + d) % p.epoch ≡ j % p.epoch → (home_turn p (k + d) ≡ true) × (home_class p (k + d) ≡ c) =
      λ d e.
      let same = every_epoch (k + d) j e in
      (same.0 ∙ and_left (home_turn p j) (eqb (home_class p j) c) w.2, same.1 ∙ eqb-true (home_class p j) c (and_right (home_turn p j) (eqb (home_class p j) c) w.2))
      in
      ⊎_elim
      (λ (past : j < r).
      let d = p.epoch + j - r in
      let reach : k + d ≡ j + (q + 1) * p.epoch = omega (arith, parts, under, past) in
      let found = there d (ap (λ (x : ℕ). x % p.epoch) reach ∙ add-mul-mod_self_right j (q + 1) p.epoch) in
      (d, omega (arith, past, under), found.0, found.1))
      (λ (still : r ≤ j).
      let d = j - r in
      let reach : k + d ≡ j + q * p.epoch = omega (arith, parts, still) in
      let found = there d (ap (λ (x : ℕ). x % p.epoch) reach ∙ add-mul-mod_self_right j q p.epoch) in
      (d, omega (arith, w.1), found.0, found.1))
      (lt-or-ge j r))
      (λ t. absurd (not-suc-le-zero {n = 0} (omega (arith, some-minimum, as_its_minimum c class, count-all-fail f p.epoch (none-at f p.epoch t)))))
      (either (some p.epoch f))

  -- ---- the least class's cap

  -- every other class is strictly above the least
  higher : (j : ℕ) → is_class p j ≡ true → ((j ≡ least p) → ⊥) → strictly_in p.rows (least p) j ≡ true
  unfolding flows
  higher j c apart = orders.apart-strictly p.rows (least p) j (lowest.is_least j c) (λ e. apart (sym e))

  -- so the minimums above it are all but its own
  all-but-own : minimums_above p.rows p.minimums (least p) + minimum p (least p) ≡ minimums_sum p.minimums
  unfolding minimums_above minimums_sum minimums_below minimum
  all-but-own =
      sum-except (λ j. cond (strictly_in p.rows (least p) j) (get_or p.minimums j 0) 0) (λ j. get_or p.minimums j 0) 16 (least p) (order.class_small (least p) lowest.is-class)
      (rw (false-unless (strictly_in p.rows (least p) (least p)) (λ t. orders.strictly-apart p.rows (least p) (least p) t refl)))
      (λ j l apart. ⊎_elim (λ c. rw (higher j c apart)) (λ c. rw (no_minimum j l c) (on-either (strictly_in p.rows (least p) j) 0)) (either (is_class p j)))

  least_cap : cap p (least p) ≡ free_turns p.epoch p.minimums + minimum p (least p)
  least_cap = omega (arith, capped.is_rest (least p) lowest.is-class, all-but-own, the_others)

  pub home_laws : HomeLaws p
  unfolding minimum
  home_laws =
      record {
        the_last = the_last;
        the_others = the_others;
        of-class = of-class;
        not_before = λ k t. (homed k t).not_before;
        not_after = λ k t. (homed k t).not_after;
        only = only;
        as_often = as_often;
        as_its_minimum = as_its_minimum;
        every_epoch = every_epoch;
        comes_round = comes_round;
        least_cap = least_cap;
      }
