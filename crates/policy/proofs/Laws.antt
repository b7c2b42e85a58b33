-- Every policy in range has the laws of `specs/Laws.antt`: that it is in range is taken apart into its tests, and each test is said of every class.
-- Assumes nothing.
use mathlib.Core.Path.{◌≡◌, refl, sym, ap, ◌∙◌, subst}
use mathlib.Core.Logic.{◌⊎◌, inl, inr, ⊎_elim}
use mathlib.Core.Bool.{Bool, true, false, cond, ◌&&◌, ◌||◌}
use mathlib.Core.List.{List, ◌∷◌}
use Prim.Native.Nat.{ℕ, zero, suc, ◌+◌, ◌-◌, ◌^◌, ◌≤◌, ◌<◌, zero-le}
use native.Mathlib.Nat.{le_refl, le_trans, not-suc-le-zero}
use native.Mathlib.Omega.{arith}
use borrow.Author.Tests.{ltb-true, leb-true, eqb-true}
use lib.Dec.{ltb, leb, eqb, lit<}
use lib.ListN.{length, get_or, get_or-eq_default}
use lib.Seq.{ext_get_or}
use Rattle.basics.specs.Below.{every, list_of}
use Rattle.masks.specs.Mask.{member, size}
use Rattle.order.specs.Order.{strictly_in, row_fits, rows_fit, antisymmetric, transitive, has_least, least_at, least_in, between_in, covers_in, cover_set, above_in}
use Rattle.turns.specs.Turns.{turns_sound, minimums_sum, minimums_above, cap_in, minimums_below}
use Rattle.timing.specs.Timing.{within, gaps_within, bank_within, rank_within, timing_sound}
use Rattle.policy.specs.Policy.{made, flows, strictly, least, above, covers_of, cover_count, cover, cap, minimum, is_class, shaped, stored_fits, all_stored_fits, policy_tests, first_failing, refusal, in_range}
use Rattle.policy.specs.Laws.{OrderLaws, LeastLaws, Covering, CoverLaws, AboveLaws, CapLaws, TimingLaws, NumberLaws, PolicyLaws}
use Rattle.order.specs.Laws.{Reflexive, Least}
use Rattle.timing.specs.declared.Timing.{Timing}
use Rattle.policy.specs.declared.Policy.{Policy}
use Rattle.basics.proofs.Truth.{either, false-unless, not-both, and_left, and_right, and_both, and-three, and-four, or_cases, not-true, not-false}
use Rattle.basics.proofs.Below.{lt-or-ge, every-at, some_at, some-found, first_found, count-few, count-all-fail, count_less, sum-without, length-list_of, get_or-list_of}
use Rattle.masks.proofs.Masks.{member-zero, member-over, member-set_of, set_of-below}
use Rattle.order.proofs.Orders as orders
use Rattle.masks.proofs.Numbered as numbered
use Rattle.policy.proofs.Chains.{chain_laws}
use Rattle.policy.proofs.Homes.{home_laws}

-- a list of sixteen entries is that of what stands at each
sixteen-entries : (l : List ℕ) (g : ℕ → ℕ) → length l ≡ 16 → ((i : ℕ) → i < 16 → get_or l i 0 ≡ g i) → l ≡ list_of 16 g
sixteen-entries l g long same =
    ext_get_or 0 l (list_of 16 g) (long ∙ sym (length-list_of g 16))
    (λ i b.
    let below : i < 16 = omega (arith, long) in
    same i below ∙ sym (get_or-list_of g 16 i below))

-- ---- what the tests are

-- where no test fails, each passes
pub first_passes : (k : ℕ) (b : Bool) (tests : List Bool) → first_failing (suc k) (b ∷ tests) ≡ 0 → (b ≡ true) × (first_failing (suc (suc k)) tests ≡ 0)
unfolding first_failing
first_passes k true tests e = (refl, e)
first_passes k false tests e = absurd (not-suc-le-zero {n = k} (omega (arith, e)))

-- low ≤ x ≤ high
bounds : (low x high : ℕ) → within low x high ≡ true → (low ≤ x) × (x ≤ high)
unfolding within
bounds low x high e = (leb-true low x (and_left (leb low x) (leb x high) e), leb-true x high (and_right (leb low x) (leb x high) e))

-- 3 to 8 passed
record TestsPassed (p : Policy) : Type 0 where
  rows : rows_fit p.classes p.rows ≡ true
  antisymmetry : antisymmetric p.rows ≡ true
  transitivity : transitive p.rows ≡ true
  lowest : has_least p.classes p.rows ≡ true
  turns : turns_sound p.epoch p.minimums ≡ true
  timing : timing_sound p.timing ≡ true

tests-passed : (p : Policy) → refusal p ≡ 0 → TestsPassed p
unfolding refusal policy_tests
tests-passed p e =
    let a = first_passes 2 _ _ e in
    let b = first_passes 3 _ _ a.1 in
    let c = first_passes 4 _ _ b.1 in
    let d = first_passes 5 _ _ c.1 in
    let f = first_passes 6 _ _ d.1 in
    let g = first_passes 7 _ _ f.1 in
    record { rows = a.0; antisymmetry = b.0; transitivity = c.0; lowest = d.0; turns = f.0; timing = g.0 }

module _ (p : Policy) (given : in_range p ≡ true) where
  parts : (shaped p ≡ true) × (within 1 p.classes 16 ≡ true) × (eqb (refusal p) 0 ≡ true) × (all_stored_fits p ≡ true)
  unfolding in_range
  parts = and-four (shaped p) (within 1 p.classes 16) (eqb (refusal p) 0) (all_stored_fits p) given

  few : (1 ≤ p.classes) × (p.classes ≤ 16)
  few = bounds 1 p.classes 16 parts.1

  tests : TestsPassed p
  tests = tests-passed p (eqb-true (refusal p) 0 parts.2)

  -- ---- the shape

  record Shape : Type 0 where
    rows : length p.rows ≡ 16
    minimums : length p.minimums ≡ 16
    covers : length p.covers ≡ 16
    caps : length p.caps ≡ 16
    small : (i : ℕ) → i < 16 → get_or p.rows i 0 < 2 ^ 16

  shape : Shape
  unfolding shaped
  shape =
      let four = eqb (length p.rows) 16 && eqb (length p.minimums) 16 && eqb (length p.covers) 16 && eqb (length p.caps) 16 in
      let bits = every 16 (λ i. ltb (get_or p.rows i 0) 65536) in
      let long = and-four (eqb (length p.rows) 16) (eqb (length p.minimums) 16) (eqb (length p.covers) 16) (eqb (length p.caps) 16) (and_left four bits parts.0) in
      record {
        rows = eqb-true _ 16 long.0;
        minimums = eqb-true _ 16 long.1;
        covers = eqb-true _ 16 long.2;
        caps = eqb-true _ 16 long.3;
        small = λ i l. ltb-true (get_or p.rows i 0) 65536 (every-at (λ k. ltb (get_or p.rows k 0) 65536) 16 (and_right four bits parts.0) i l);
      }

  past : (l : List ℕ) → length l ≡ 16 → (i : ℕ) → 16 ≤ i → get_or l i 0 ≡ 0
  past l long i h = get_or-eq_default l 0 (omega (arith, long))

  -- the order is stored as it should be
  stored : orders.Stored p.classes p.rows
  unfolding rows_fit row_fits
  stored =
      record {
        class_small = orders.classes-small p.classes few.1;
        small = λ i. ⊎_elim (shape.small i) (λ h. rw (past p.rows shape.rows i h) (lit< tt)) (lt-or-ge i 16);
        void =
            λ i h.
            ⊎_elim
            (λ l.
            let at = every-at (λ k. row_fits p.classes k (get_or p.rows k 0)) 16 tests.rows i l in
            eqb-true (get_or p.rows i 0) 0 (rw h at at))
            (past p.rows shape.rows i)
            (lt-or-ge i 16);
      }

  fit : orders.RowsFit p.classes p.rows stored
  fit = orders.rows-said p.classes p.rows stored tests.rows

  -- ---- the order

  class_small : (i : ℕ) → is_class p i ≡ true → i < 16
  unfolding is_class
  class_small = stored.class_small

  zero_class : is_class p 0 ≡ true
  unfolding is_class
  zero_class = orders.below-class p.classes 0 few.0

  from_class : (i j : ℕ) → flows p i j ≡ true → is_class p i ≡ true
  unfolding flows is_class
  from_class i j e = orders.from_class p.classes p.rows stored i j e

  to_class : (i j : ℕ) → flows p i j ≡ true → is_class p j ≡ true
  unfolding flows is_class
  to_class i j e = fit.to_class i j (from_class i j e) e

  to-small : (i j : ℕ) → flows p i j ≡ true → j < 16
  to-small i j e = class_small j (to_class i j e)

  antisym : (i j : ℕ) → flows p i j ≡ true → flows p j i ≡ true → i ≡ j
  unfolding flows is_class
  antisym i j there back =
      orders.antisymmetric-said p.classes p.rows stored tests.antisymmetry i j (from_class i j there) (from_class j i back) there back

  trans : (i j k : ℕ) → flows p i j ≡ true → flows p j k ≡ true → flows p i k ≡ true
  unfolding flows
  trans i j k first second = orders.transitive-said p.classes p.rows stored tests.transitivity i j k first second

  own : Reflexive (is_class p) (flows p)
  unfolding flows is_class
  own = fit.own

  order-laws : OrderLaws p
  order-laws =
      record { classes_few = few; class_small = class_small; zero_class = zero_class; from_class = from_class; to_class = to_class; reflexive = own; antisymmetric = antisym; transitive = trans }

  -- ---- strictly above

  strict-flows : (i j : ℕ) → strictly p i j ≡ true → flows p i j ≡ true
  unfolding strictly flows
  strict-flows = orders.strictly-flows p.rows

  strict_apart : (i j : ℕ) → strictly p i j ≡ true → i ≡ j → ⊥
  unfolding strictly
  strict_apart = orders.strictly-apart p.rows

  apart-strict : (i j : ℕ) → flows p i j ≡ true → ((i ≡ j) → ⊥) → strictly p i j ≡ true
  unfolding strictly flows
  apart-strict = orders.apart-strictly p.rows

  -- what is strictly above something strictly above a class is strictly above the class
  strict-trans : (i j k : ℕ) → strictly p i j ≡ true → strictly p j k ≡ true → strictly p i k ≡ true
  strict-trans i j k a b =
      let there = strict-flows i j a in
      let on = strict-flows j k b in
      apart-strict i k (trans i j k there on) (λ e. strict_apart i j a (antisym i j there (subst (λ (h : ℕ). flows p j h ≡ true) (sym e) on)))

  -- ---- the least class

  least-found : (is_class p (least p) ≡ true) × Least (is_class p) (flows p) (least p)
  unfolding least least_in has_least flows is_class
  least-found = orders.least-said p.classes p.rows stored (least p) (first_found (least_at p.classes p.rows) 16 tests.lowest).passes

  least_laws : LeastLaws p
  least_laws =
      record {
        is-class = least-found.0;
        is_least = least-found.1;
        alone = λ i l law. antisym i (least p) (law (least p) least-found.0) (least-found.1 i l);
      }

  -- ---- how many are strictly above

  above-falls : (i j : ℕ) → strictly p i j ≡ true → above p j < above p i
  unfolding above above_in strictly
  above-falls i j s =
      count_less (strictly p j) (strictly p i) 16 (λ k l t. strict-trans i j k s t) j (to-small i j (strict-flows i j s))
      (false-unless (strictly p j j) (λ t. strict_apart j j t refl)) s

  above-few : (i : ℕ) → above p i < 16
  unfolding above above_in strictly
  above-few i =
      ⊎_elim
      (λ l. count-few (strictly p i) 16 i l (false-unless (strictly p i i) (λ t. strict_apart i i t refl)))
      (λ l. count-few (strictly p i) 16 0 (lit< tt) (false-unless (strictly p i 0) (λ t. none l (from_class i 0 (strict-flows i 0 t)))))
      (lt-or-ge i 16)
    where
      none : 16 ≤ i → is_class p i ≡ true → ⊥
      none l b = not-suc-le-zero {n = 0} (omega (arith, class_small i b))

  -- ---- covers

  stored_at : (i : ℕ) → i < 16 → stored_fits p i ≡ true
  unfolding all_stored_fits
  stored_at i l = every-at (stored_fits p) 16 parts.3 i l

  covers-stored : (i : ℕ) → i < 16 → covers_of p i ≡ cover_set p.rows i
  unfolding stored_fits
  covers-stored i l =
      eqb-true (covers_of p i) (cover_set p.rows i)
      (and-three (eqb (covers_of p i) (cover_set p.rows i)) (eqb (cap p i) (cap_in p.classes p.rows p.epoch p.minimums i)) (is_class p i || eqb (minimum p i) 0) (stored_at i l)).0

  caps-stored : (i : ℕ) → i < 16 → cap p i ≡ cap_in p.classes p.rows p.epoch p.minimums i
  unfolding stored_fits
  caps-stored i l =
      eqb-true (cap p i) (cap_in p.classes p.rows p.epoch p.minimums i)
      (and-three (eqb (covers_of p i) (cover_set p.rows i)) (eqb (cap p i) (cap_in p.classes p.rows p.epoch p.minimums i)) (is_class p i || eqb (minimum p i) 0) (stored_at i l)).1

  -- the stored covers have the members that the order's have
  member-covers : (i j : ℕ) → i < 16 → j < 16 → member (covers_of p i) j ≡ covers_in p.rows i j
  unfolding cover_set
  member-covers i j l m = ap (λ (s : ℕ). member s j) (covers-stored i l) ∙ member-set_of (covers_in p.rows i) 16 j m

  -- only a class has a cover, and every cover is a class
  cover-small : (i j : ℕ) → member (covers_of p i) j ≡ true → (i < 16) × (j < 16)
  unfolding covers_of cover_set
  cover-small i j e =
      ⊎_elim
      (λ l. (
        l,
        ⊎_elim (λ m. m)
            (λ m. absurd (not-both e (ap (λ (s : ℕ). member s j) (covers-stored i l) ∙ member-over (cover_set p.rows i) 16 j (set_of-below (covers_in p.rows i) 16) m)))
            (lt-or-ge j 16),
      ))
      (λ l. absurd (not-both e (ap (λ (s : ℕ). member s j) (past p.covers shape.covers i l) ∙ member-zero j)))
      (lt-or-ge i 16)

  -- something between two classes
  between : (i j : ℕ) → between_in p.rows i j ≡ true → (k : ℕ) × (strictly p i k ≡ true) × (strictly p k j ≡ true)
  unfolding between_in strictly
  between i j t =
      let w = some-found (λ h. strictly_in p.rows i h && strictly_in p.rows h j) 16 t in
      (w.0, and_left _ (strictly_in p.rows w.0 j) w.2, and_right (strictly_in p.rows i w.0) _ w.2)

  unbetween : (i j : ℕ) → between_in p.rows i j ≡ false → (k : ℕ) → strictly p i k ≡ true → strictly p k j ≡ true → ⊥
  unfolding between_in strictly
  unbetween i j t k a b =
      not-both (some_at (λ h. strictly_in p.rows i h && strictly_in p.rows h j) 16 k (to-small i k (strict-flows i k a)) (and_both a b)) t

  covering : (i j : ℕ) → member (covers_of p i) j ≡ true → Covering p i j
  unfolding covers_in strictly
  covering i j e =
      let s = cover-small i j e in
      let at = sym (member-covers i j s.0 s.1) ∙ e in
      record {
        strict = and_left (strictly_in p.rows i j) _ at;
        direct = unbetween i j (not-true (between_in p.rows i j) (and_right (strictly_in p.rows i j) _ at));
      }

  covered : (i j : ℕ) → Covering p i j → member (covers_of p i) j ≡ true
  unfolding covers_in strictly
  covered i j law =
      let there = strict-flows i j law.strict in
      member-covers i j (class_small i (from_class i j there)) (to-small i j there)
      ∙ and_both law.strict
      (not-false (between_in p.rows i j)
      (false-unless (between_in p.rows i j) (λ t. let w = between i j t in law.direct w.0 w.1 w.2)))

  -- down from a class above i to a cover of i: what lies between has more above it, so this ends
  descend : (fuel i j : ℕ) → strictly p i j ≡ true → 16 ≤ above p j + fuel → (k : ℕ) × (member (covers_of p i) k ≡ true) × (flows p k j ≡ true)
  descend zero i j s h = absurd (not-suc-le-zero {n = 0} (omega (arith, above-few j)))
  descend (suc fuel) i j s h =
      ⊎_elim
      (λ t.
      let w = between i j t in
      let down = descend fuel i w.0 w.1 (omega (arith, above-falls w.0 j w.2)) in
      (down.0, down.1, trans down.0 w.0 j down.2 (strict-flows w.0 j w.2)))
      (λ t. (j, covered i j (record { strict = s; direct = unbetween i j t }), own j (to_class i j (strict-flows i j s))))
      (either (between_in p.rows i j))

  covers-small : (i : ℕ) → covers_of p i < 2 ^ 16
  unfolding covers_of cover_set
  covers-small i =
      ⊎_elim (λ l. rw (covers-stored i l) (set_of-below (covers_in p.rows i) 16)) (λ l. rw (past p.covers shape.covers i l) (lit< tt)) (lt-or-ge i 16)

  some_cover : (i j : ℕ) → strictly p i j ≡ true → (k : ℕ) × (member (covers_of p i) k ≡ true) × (flows p k j ≡ true)
  some_cover i j s = descend 16 i j s (omega arith)

  cover-laws : CoverLaws p
  unfolding cover cover_count
  cover-laws =
      record {
        sets = covers-small;
        exactly = λ i j. (covering i j, covered i j);
        some_cover = some_cover;
        named = λ i k one h. (numbered.named (covers_of p i) k one h).in_set;
        rising =
            λ i k l one less h.
            numbered.rising (covers_of p i) k l (cover p i k) (cover p i l) less
            (numbered.named (covers_of p i) k one (omega arith)) (numbered.named (covers_of p i) l (omega arith) h);
        numbered = λ i j e. numbered.has-number (covers_of p i) j (cover-small i j e).1 e;
      }

  -- nothing above, no covers
  no_cover : (i : ℕ) → above p i ≡ 0 → cover_count p i ≡ 0
  unfolding cover_count size
  no_cover i e =
      count-all-fail (member (covers_of p i)) 16
      (λ j l.
      false-unless (member (covers_of p i) j)
      (λ t. not-suc-le-zero {n = above p j} (subst (λ (k : ℕ). above p j < k) e (above-falls i j (covering i j t).strict))))

  no-higher : (i : ℕ) → cover_count p i ≡ 0 → above p i ≡ 0
  unfolding above above_in strictly
  no-higher i e =
      count-all-fail (strictly p i) 16
      (λ j l.
      false-unless (strictly p i j)
      (λ t.
      let w = some_cover i j t in
      let number = cover-laws.numbered i w.0 w.1 in
      not-suc-le-zero {n = 0} (omega (arith, number.1, number.2))))

  above-laws : AboveLaws p
  above-laws =
      record {
        falls = above-falls;
        falls_to_cover = λ i j e. above-falls i j (covering i j e).strict;
        few = above-few;
        topmost = λ i. (no_cover i, no-higher i);
      }

  -- ---- caps

  turns : (leb 1 p.epoch ≡ true) × (leb p.epoch 64 ≡ true) × (leb (minimums_sum p.minimums) p.epoch ≡ true)
  unfolding turns_sound
  turns = and-three (leb 1 p.epoch) (leb p.epoch 64) (leb (minimums_sum p.minimums) p.epoch) tests.turns

  within-epoch : minimums_sum p.minimums ≤ p.epoch
  within-epoch = leb-true (minimums_sum p.minimums) p.epoch turns.2

  -- the minimum of j where j is strictly above i
  part : ℕ → ℕ → ℕ
  part i j = cond (strictly_in p.rows i j) (get_or p.minimums j 0) 0

  part-under : (i j : ℕ) → part i j ≤ get_or p.minimums j 0
  unfolding part
  part-under i j = ⊎_elim (λ t. rw t (le_refl (get_or p.minimums j 0))) (λ t. rw t zero-le) (either (strictly_in p.rows i j))

  -- a class's own minimum is not among those above it, so the two together are still within the epoch
  room : (i : ℕ) → i < 16 → minimums_above p.rows p.minimums i + get_or p.minimums i 0 ≤ p.epoch
  unfolding minimums_above minimums_sum minimums_below part
  room i l =
      let own-part : part i i ≡ 0 = rw (false-unless (strictly_in p.rows i i) (λ t. orders.strictly-apart p.rows i i t refl)) in
      le_trans (sum-without (part i) (λ j. get_or p.minimums j 0) 16 (λ j m. part-under i j) i l own-part) within-epoch

  cap-is : (i : ℕ) → is_class p i ≡ true → cap p i ≡ p.epoch - minimums_above p.rows p.minimums i
  unfolding cap_in is_class
  cap-is i l = caps-stored i (class_small i l) ∙ rw l

  cap-none : (i : ℕ) → is_class p i ≡ false → cap p i ≡ 0
  unfolding cap_in cap is_class
  cap-none i l = ⊎_elim (λ m. caps-stored i m ∙ rw l) (past p.caps shape.caps i) (lt-or-ge i 16)

  cap-laws : CapLaws p
  cap-laws =
      record {
        epoch_bounds = (leb-true 1 p.epoch turns.0, leb-true p.epoch 64 turns.1);
        is_rest = λ i l. omega (arith, cap-is i l, room i (class_small i l));
        at_least_own = λ i l. omega (arith, cap-is i l, room i (class_small i l));
        at_most_epoch = λ i. ⊎_elim (λ l. omega (arith, cap-is i l)) (λ l. omega (arith, cap-none i l)) (either (is_class p i));
        sixteen = shape.caps;
      }

  -- ---- home turns

  no_minimum : (i : ℕ) → i < 16 → is_class p i ≡ false → minimum p i ≡ 0
  unfolding stored_fits
  no_minimum i l e =
      let kept = and_right (eqb (covers_of p i) (cover_set p.rows i) && eqb (cap p i) (cap_in p.classes p.rows p.epoch p.minimums i)) (is_class p i || eqb (minimum p i) 0) (stored_at i l) in
      eqb-true (minimum p i) 0 (rw e at kept)

-- ---- the timing

-- two gaps, and four
two_gaps : (l : List ℕ) (dead : ℕ) → bank_within l dead ≡ true → (k : ℕ) → k < 2 → (1 ≤ get_or l k 0) × (get_or l k 0 ≤ dead)
unfolding bank_within
two_gaps l dead e zero h = bounds 1 (get_or l 0 0) dead (and_left (within 1 (get_or l 0 0) dead) (within 1 (get_or l 1 0) dead) e)
two_gaps l dead e (suc zero) h = bounds 1 (get_or l 1 0) dead (and_right (within 1 (get_or l 0 0) dead) (within 1 (get_or l 1 0) dead) e)
two_gaps l dead e (suc (suc k)) h = absurd (not-suc-le-zero {n = k} (omega arith))

four_gaps : (l : List ℕ) (dead : ℕ) → gaps_within l dead ≡ true → (k : ℕ) → k < 4 → (1 ≤ get_or l k 0) × (get_or l k 0 ≤ dead)
unfolding gaps_within
four_gaps l dead e k h = at k h
  where
    each : (within 1 (get_or l 0 0) dead ≡ true) × (within 1 (get_or l 1 0) dead ≡ true) × (within 1 (get_or l 2 0) dead ≡ true) × (within 1 (get_or l 3 0) dead ≡ true)
    each = and-four (within 1 (get_or l 0 0) dead) (within 1 (get_or l 1 0) dead) (within 1 (get_or l 2 0) dead) (within 1 (get_or l 3 0) dead) e

    at : (k : ℕ) → k < 4 → (1 ≤ get_or l k 0) × (get_or l k 0 ≤ dead)
    at zero h = bounds 1 (get_or l 0 0) dead each.0
    at (suc zero) h = bounds 1 (get_or l 1 0) dead each.1
    at (suc (suc zero)) h = bounds 1 (get_or l 2 0) dead each.2
    at (suc (suc (suc zero))) h = bounds 1 (get_or l 3 0) dead each.3
    at (suc (suc (suc (suc k)))) h = absurd (not-suc-le-zero {n = k} (omega arith))

-- one rank without a gap, or four with one
rank-said : (ranks rank dead : ℕ) → rank_within ranks rank dead ≡ true → (rank ≤ dead) × (((ranks ≡ 1) × (rank ≡ 0)) ⊎ ((ranks ≡ 4) × (1 ≤ rank)))
unfolding rank_within
rank-said ranks rank dead e =
    ⊎_elim
    (λ one.
    let none = eqb-true rank 0 (and_right (eqb ranks 1) (eqb rank 0) one) in
    (omega (arith, none), inl (eqb-true ranks 1 (and_left (eqb ranks 1) (eqb rank 0) one), none)))
    (λ four.
    let gap = bounds 1 rank dead (and_right (eqb ranks 4) (within 1 rank dead) four) in
    (gap.1, inr (eqb-true ranks 4 (and_left (eqb ranks 4) (within 1 rank dead) four), gap.0)))
    (or_cases (eqb ranks 1 && eqb rank 0) (eqb ranks 4 && within 1 rank dead) e)

pub timing-laws : (t : Timing) → timing_sound t ≡ true → TimingLaws t
unfolding timing_sound
timing-laws t e =
    let gaps = gaps_within t.gaps t.dead in
    let bank = bank_within t.bank t.dead in
    let response = within 2 t.response t.dead in
    let column = within 1 t.column (t.response - 1) in
    let ranks = rank_within t.ranks t.rank t.dead in
    let all = within 2 t.turn 255 && within 2 t.dead 31 && ltb t.dead t.turn && gaps in
    let last = and-four all bank response column (and_left (all && bank && response && column) ranks e) in
    let ranked = rank-said t.ranks t.rank t.dead (and_right (all && bank && response && column) ranks e) in
    let front = and-four (within 2 t.turn 255) (within 2 t.dead 31) (ltb t.dead t.turn) gaps last.0 in
    let answered = bounds 2 t.response t.dead last.2 in
    let sent = bounds 1 t.column (t.response - 1) last.3 in
    record {
      turn_bounds = bounds 2 t.turn 255 front.0;
      dead_bounds = bounds 2 t.dead 31 front.1;
      dead_below_turn = ltb-true t.dead t.turn front.2;
      gaps_bounds = four_gaps t.gaps t.dead front.3;
      bank_bounds = two_gaps t.bank t.dead last.1;
      response_bounds = answered;
      column_bounds = (sent.0, omega arith);
      rank_bound = ranked.0;
      ranks_are = ranked.1;
    }

-- ---- what a policy in range is made of

module _ (p : Policy) (given : in_range p ≡ true) where
  covers_are : p.covers ≡ list_of 16 (cover_set p.rows)
  unfolding covers_of
  covers_are = sixteen-entries p.covers (cover_set p.rows) (shape p given).covers (covers-stored p given)

  caps_are : p.caps ≡ list_of 16 (cap_in p.classes p.rows p.epoch p.minimums)
  unfolding cap
  caps_are = sixteen-entries p.caps (cap_in p.classes p.rows p.epoch p.minimums) (shape p given).caps (caps-stored p given)

  made_of : p ≡ made p.classes p.rows p.epoch p.minimums p.timing
  unfolding made
  made_of =
      λ i.
      record {
        classes = p.classes;
        rows = p.rows;
        epoch = p.epoch;
        minimums = p.minimums;
        timing = p.timing;
        covers = covers_are i;
        caps = caps_are i;
      }

  number-laws : NumberLaws p
  unfolding minimum is_class
  number-laws =
      record {
        is_made = made_of;
        not_refused = eqb-true (refusal p) 0 (parts p given).2;
        no_row = (stored p given).void;
        no_minimum = λ i e. ⊎_elim (λ l. no_minimum p given i l e) (past p given p.minimums (shape p given).minimums i) (lt-or-ge i 16);
        row_bits = (stored p given).small;
        sixteen_rows = (shape p given).rows;
        sixteen_minimums = (shape p given).minimums;
      }

-- ---- all of them

pub policy-laws : (p : Policy) → in_range p ≡ true → PolicyLaws p
policy-laws p given =
    record {
      order = order-laws p given;
      lowest = least_laws p given;
      covering = cover-laws p given;
      higher = above-laws p given;
      chains = chain_laws p given (order-laws p given) (least_laws p given) (cover-laws p given) (above-laws p given);
      capped = cap-laws p given;
      homes = home_laws p (order-laws p given) (least_laws p given) (cap-laws p given) (within-epoch p given) (no_minimum p given);
      timed = timing-laws p.timing (tests p given).timing;
      numbers = number-laws p given;
    }
