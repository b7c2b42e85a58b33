-- A file is taken if and only if it encodes sound numbers, and else refused with the number of the first condition that fails (`specs/Taken.antt`). Each test of
-- reading passes exactly if its condition holds, given that those before it do; so the first test that fails and the first condition that fails are the same.
-- Assumes nothing.
use mathlib.Core.Path.{◌≡◌, refl, sym, ap, ◌∙◌, subst}
use mathlib.Core.Logic.{⊎_elim}
use mathlib.Core.Bool.{Bool, true, false, cond}
use mathlib.Core.List.{List, [], ◌∷◌}
use Prim.Native.Nat.{ℕ, suc, ◌+◌, ◌*◌, ◌^◌, ◌≤◌, ◌<◌}
use native.Mathlib.Nat.{lt_of_lt_of_le}
use native.Mathlib.Omega.{arith}
use borrow.Author.Tests.{lt-ltb, le-ltb, le-leb, leb-true, eq-eqb, eqb-true}
use lib.Dec.{leb, ltb, eqb, lit<}
use lib.ListN.{length, get_or, get_or-eq_default}
use Rattle.basics.specs.Below.{sum, list_of}
use Rattle.masks.specs.Mask.{member}
use Rattle.order.specs.Order.{is_class_in, flows_in, rows_fit, antisymmetric, transitive, has_least}
use Rattle.turns.specs.Turns.{minimums_sum, turns_sound, minimums_below}
use Rattle.timing.specs.Timing.{within, timing_sound}
use Rattle.policy.specs.Policy.{made, first_failing, policy_tests, refusal, in_range}
use Rattle.file.specs.File.{byte, word, kind, start, body_size, kinds_fit, bodies_abut, contents_fit, class_count, lengths_fit, row_at, epoch_of, minimum_at, ranks_of, rank_gap_of, timing_of, held, file_tests, status, refused_with, read_file}
use Rattle.order.specs.Laws.{Reflexive, Antisymmetric, Transitive, Least, SmallClasses}
use Rattle.file.specs.Taken.{Bytes, SoundTurns, SoundTiming, bits, timing_from, policy_of, Encoded, TakenIff, Form, Lengths, file_order, Rows, conditions, FirstFails, RefusalNumbers}
use Rattle.file.specs.Taken.FirstFails.{none, here, later}
use Rattle.basics.proofs.Truth.{either, not-both, and_both, and-three, and-four}
use Rattle.basics.proofs.Below.{lt-or-ge, get_or-list_of, length-list_of, list_of-same, sum_same, sum-cut}
use Rattle.policy.proofs.Laws.{first_passes}
use Rattle.policy.proofs.Making.{Fit, made-in-range}
use Rattle.order.proofs.Orders as orders
use Rattle.file.proofs.Timings.{between-said, between-tested, sound-said, sound-tested}

-- ---- tests and conditions, side by side

-- each test passes exactly if its condition holds, given the conditions before it
data Reflected : List Bool → List (Type 0) → Type 1 where
  end : Reflected [] []
  next : {b : Bool} {C : Type 0} {ts : List Bool} {Cs : List (Type 0)} → ((b ≡ true) → C) → (C → b ≡ true) → (C → Reflected ts Cs) → Reflected (b ∷ ts) (C ∷ Cs)

first-fails : {ts : List Bool} {Cs : List (Type 0)} → Reflected ts Cs → (k : ℕ) → FirstFails Cs k (first_failing k ts)
unfolding first_failing
first-fails end k = none
first-fails (next {b = true} said tested rest) k = later (said refl) (first-fails (rest (said refl)) (suc k))
first-fails (next {b = false} said tested rest) k = here (λ c. not-both (tested c) refl)

-- there is one number only
one_number : {Cs : List (Type 0)} {k m l : ℕ} → FirstFails Cs k m → FirstFails Cs k l → m ≡ l
one_number none none = refl
one_number (here no-c) (here no-d) = refl
one_number (here no-c) (later c rest) = absurd (no-c c)
one_number (later c rest) (here no-c) = absurd (no-c c)
one_number (later c rest) (later d more) = one_number rest more

-- ---- orders that agree on the classes

module _ (among : ℕ → Bool) (R Q : ℕ → ℕ → Bool) (same : (i j : ℕ) → among i ≡ true → R i j ≡ Q i j) where
  reflexive-same : Reflexive among R → Reflexive among Q
  reflexive-same law i l = sym (same i i l) ∙ law i l

  antisymmetric-same : Antisymmetric among R → Antisymmetric among Q
  antisymmetric-same law i j li lj p q = law i j li lj (same i j li ∙ p) (same j i lj ∙ q)

  transitive-same : Transitive among R → Transitive among Q
  transitive-same law i j k li lj lk p q = sym (same i k li) ∙ law i j k li lj lk (same i j li ∙ p) (same j k lj ∙ q)

  least-same : (i : ℕ) → among i ≡ true → Least among R i → Least among Q i
  least-same i l law j m = sym (same i j l) ∙ law j m

-- ---- 1 and 2

module _ (s : List ℕ) where
  form-said : contents_fit s ≡ true → Form s
  unfolding contents_fit kinds_fit bodies_abut kind start body_size
  form-said e =
      let all = and-three (within 17 (length s) 65535) (kinds_fit s) (bodies_abut s) e in
      let kinds = and-four (eqb (byte s 0) 3) (eqb (byte s 1) 1) (eqb (byte s 6) 2) (eqb (byte s 11) 3) all.1 in
      let abut = and-four (eqb (word s 2) 16) (eqb (word s 7) (16 + word s 4)) (eqb (word s 12) (word s 7 + word s 9)) (eqb (length s) (word s 12 + word s 14)) all.2 in
      record {
        length_bounds = between-said 17 (length s) 65535 all.0;
        entries = eqb-true (byte s 0) 3 kinds.0;
        kinds = (eqb-true (byte s 1) 1 kinds.1, eqb-true (byte s 6) 2 kinds.2, eqb-true (byte s 11) 3 kinds.3);
        first_start = eqb-true (word s 2) 16 abut.0;
        second_start = eqb-true (word s 7) (16 + word s 4) abut.1;
        third_start = eqb-true (word s 12) (word s 7 + word s 9) abut.2;
        end = eqb-true (length s) (word s 12 + word s 14) abut.3;
      }

  form-tested : Form s → contents_fit s ≡ true
  unfolding contents_fit kinds_fit bodies_abut kind start body_size
  form-tested f =
      and_both
      (and_both (between-tested 17 (length s) 65535 f.length_bounds)
      (and_both (and_both (and_both (eq-eqb (byte s 0) 3 f.entries) (eq-eqb (byte s 1) 1 f.kinds.0)) (eq-eqb (byte s 6) 2 f.kinds.1))
      (eq-eqb (byte s 11) 3 f.kinds.2)))
      (and_both
      (and_both (and_both (eq-eqb (word s 2) 16 f.first_start) (eq-eqb (word s 7) (16 + word s 4) f.second_start))
      (eq-eqb (word s 12) (word s 7 + word s 9) f.third_start))
      (eq-eqb (length s) (word s 12 + word s 14) f.end))

  lengths-said : lengths_fit s ≡ true → Lengths s
  unfolding lengths_fit class_count body_size
  lengths-said e =
      let all = and-four (within 1 (byte s 16) 16) (eqb (word s 4) (1 + 2 * byte s 16)) (eqb (word s 9) (1 + byte s 16)) (within 10 (word s 14) 11) e in
      record {
        count_bounds = between-said 1 (byte s 16) 16 all.0;
        order-size = eqb-true (word s 4) (1 + 2 * byte s 16) all.1;
        turns_size = eqb-true (word s 9) (1 + byte s 16) all.2;
        timing-size = between-said 10 (word s 14) 11 all.3;
      }

  lengths-tested : Lengths s → lengths_fit s ≡ true
  unfolding lengths_fit class_count body_size
  lengths-tested l =
      and_both
      (and_both (and_both (between-tested 1 (byte s 16) 16 l.count_bounds) (eq-eqb (word s 4) (1 + 2 * byte s 16) l.order-size))
      (eq-eqb (word s 9) (1 + byte s 16) l.turns_size))
      (between-tested 10 (word s 14) 11 l.timing-size)

-- ---- 3 to 8, of a file of bytes that 1 and 2 take

module _ (s : List ℕ) (given : Bytes s) (f : Form s) (l : Lengths s) where
  -- where the bodies start
  turns-at : word s 7 ≡ 17 + 2 * byte s 16
  turns-at = omega (arith, f.second_start, l.order-size)

  timing-at : word s 12 ≡ 18 + 3 * byte s 16
  timing-at = omega (arith, turns-at, f.third_start, l.turns_size)

  word_small : (at : ℕ) → word s at < 2 ^ 16
  unfolding word
  word_small at = omega (arith, given at, given (at + 1))

  -- the classes are the numbers that the file has a row and a minimum for
  class_small : SmallClasses (byte s 16)
  class_small = orders.classes-small (byte s 16) l.count_bounds.at_most

  row_is : (i : ℕ) → is_class_in (byte s 16) i ≡ true → get_or (list_of 16 (row_at s)) i 0 ≡ word s (17 + 2 * i)
  unfolding row_at class_count
  row_is i b = get_or-list_of (row_at s) 16 i (class_small i b) ∙ rw (lt-ltb i (byte s 16) (orders.class-below (byte s 16) i b))

  row-void : (i : ℕ) → is_class_in (byte s 16) i ≡ false → get_or (list_of 16 (row_at s)) i 0 ≡ 0
  unfolding row_at class_count
  row-void i b =
      ⊎_elim (λ m. get_or-list_of (row_at s) 16 i m ∙ rw (le-ltb i (byte s 16) (orders.past-classes (byte s 16) i b))) (λ m. get_or-eq_default (list_of 16 (row_at s)) 0 (omega (arith, length-list_of (row_at s) 16)))
      (lt-or-ge i 16)

  stored : orders.Stored (byte s 16) (list_of 16 (row_at s))
  stored =
      record {
        class_small = class_small;
        small = λ i. ⊎_elim (λ b. rw (row_is i b) (word_small (17 + 2 * i))) (λ b. rw (row-void i b) (lit< tt)) (either (is_class_in (byte s 16) i));
        void = row-void;
      }

  -- the stored rows give the file's order
  same-order : (i j : ℕ) → is_class_in (byte s 16) i ≡ true → flows_in (list_of 16 (row_at s)) i j ≡ file_order s i j
  unfolding flows_in
  same-order i j b = ap (λ (m : ℕ). member m j) (row_is i b)

  same_back : (i j : ℕ) → is_class_in (byte s 16) i ≡ true → file_order s i j ≡ flows_in (list_of 16 (row_at s)) i j
  same_back i j b = sym (same-order i j b)

  rows-said : rows_fit (byte s 16) (list_of 16 (row_at s)) ≡ true → Rows s
  rows-said e =
      let law = orders.rows-said (byte s 16) (list_of 16 (row_at s)) stored e in
      record {
        no_other_bit = λ i j b t. law.to_class i j b (same-order i j b ∙ t);
        own = reflexive-same (is_class_in (byte s 16)) (flows_in (list_of 16 (row_at s))) (file_order s) same-order law.own;
      }

  fit : Rows s → orders.RowsFit (byte s 16) (list_of 16 (row_at s)) stored
  fit r =
      record {
        to_class = λ i j b t. r.no_other_bit i j b (same_back i j b ∙ t);
        own = reflexive-same (is_class_in (byte s 16)) (file_order s) (flows_in (list_of 16 (row_at s))) same_back r.own;
      }

  rows-tested : Rows s → rows_fit (byte s 16) (list_of 16 (row_at s)) ≡ true
  rows-tested r = orders.rows-tested (byte s 16) (list_of 16 (row_at s)) stored (fit r)

  -- 4, 5 and 6
  antisymmetric-said : antisymmetric (list_of 16 (row_at s)) ≡ true → Antisymmetric (is_class_in (byte s 16)) (file_order s)
  antisymmetric-said e =
      antisymmetric-same (is_class_in (byte s 16)) (flows_in (list_of 16 (row_at s))) (file_order s) same-order (orders.antisymmetric-said (byte s 16) (list_of 16 (row_at s)) stored e)

  antisymmetric-tested : Antisymmetric (is_class_in (byte s 16)) (file_order s) → antisymmetric (list_of 16 (row_at s)) ≡ true
  antisymmetric-tested law =
      orders.antisymmetric-tested (byte s 16) (list_of 16 (row_at s)) stored (antisymmetric-same (is_class_in (byte s 16)) (file_order s) (flows_in (list_of 16 (row_at s))) same_back law)

  transitive-said : transitive (list_of 16 (row_at s)) ≡ true → Transitive (is_class_in (byte s 16)) (file_order s)
  transitive-said e =
      transitive-same (is_class_in (byte s 16)) (flows_in (list_of 16 (row_at s))) (file_order s) same-order
      (λ i j k li lj lk p q. orders.transitive-said (byte s 16) (list_of 16 (row_at s)) stored e i j k p q)

  transitive-tested : Rows s → Transitive (is_class_in (byte s 16)) (file_order s) → transitive (list_of 16 (row_at s)) ≡ true
  transitive-tested r law =
      orders.transitive-tested (byte s 16) (list_of 16 (row_at s)) stored (fit r) (transitive-same (is_class_in (byte s 16)) (file_order s) (flows_in (list_of 16 (row_at s))) same_back law)

  least-said : has_least (byte s 16) (list_of 16 (row_at s)) ≡ true → (i : ℕ) × (is_class_in (byte s 16) i ≡ true) × Least (is_class_in (byte s 16)) (file_order s) i
  least-said e =
      let w = orders.has-least-said (byte s 16) (list_of 16 (row_at s)) stored e in
      (w.0, w.1, least-same (is_class_in (byte s 16)) (flows_in (list_of 16 (row_at s))) (file_order s) same-order w.0 w.1 w.2)

  least-tested : ((i : ℕ) × (is_class_in (byte s 16) i ≡ true) × Least (is_class_in (byte s 16)) (file_order s) i) → has_least (byte s 16) (list_of 16 (row_at s)) ≡ true
  least-tested w =
      orders.has-least-tested (byte s 16) (list_of 16 (row_at s)) stored w.0 w.1
      (least-same (is_class_in (byte s 16)) (file_order s) (flows_in (list_of 16 (row_at s))) same_back w.0 w.1 w.2)

  -- 7
  epoch-is : epoch_of s ≡ byte s (17 + 2 * byte s 16)
  unfolding epoch_of start
  epoch-is = ap (byte s) turns-at

  minimum-is : (i : ℕ) → i < byte s 16 → minimum_at s i ≡ byte s (18 + 2 * byte s 16 + i)
  unfolding minimum_at class_count start
  minimum-is i b =
      let at : word s 7 + 1 + i ≡ 18 + 2 * byte s 16 + i = omega (arith, turns-at) in
      rw (lt-ltb i (byte s 16) b) (ap (byte s) at)

  minimum-void : (i : ℕ) → byte s 16 ≤ i → get_or (list_of 16 (minimum_at s)) i 0 ≡ 0
  unfolding minimum_at class_count
  minimum-void i b =
      ⊎_elim (λ m. get_or-list_of (minimum_at s) 16 i m ∙ rw (le-ltb i (byte s 16) b))
      (λ m. get_or-eq_default (list_of 16 (minimum_at s)) 0 (omega (arith, length-list_of (minimum_at s) 16)))
      (lt-or-ge i 16)

  sum_is : minimums_sum (list_of 16 (minimum_at s)) ≡ sum (byte s 16) (λ i. byte s (18 + 2 * byte s 16 + i))
  unfolding minimums_sum minimums_below
  sum_is =
      sum-cut (λ i. get_or (list_of 16 (minimum_at s)) i 0) (byte s 16) 16 l.count_bounds.at_most minimum-void
      ∙ sum_same (λ i. get_or (list_of 16 (minimum_at s)) i 0) (λ i. byte s (18 + 2 * byte s 16 + i)) (byte s 16)
      (λ i b. get_or-list_of (minimum_at s) 16 i (lt_of_lt_of_le b l.count_bounds.at_most) ∙ minimum-is i b)

  turns-said : turns_sound (epoch_of s) (list_of 16 (minimum_at s)) ≡ true → SoundTurns (byte s 16) (byte s (17 + 2 * byte s 16)) (λ i. byte s (18 + 2 * byte s 16 + i))
  unfolding turns_sound
  turns-said e =
      let all = and-three (leb 1 (epoch_of s)) (leb (epoch_of s) 64) (leb (minimums_sum (list_of 16 (minimum_at s))) (epoch_of s)) e in
      record {
        epoch_bounds =
            record {
              at_least = omega (arith, leb-true 1 (epoch_of s) all.0, epoch-is);
              at_most = omega (arith, leb-true (epoch_of s) 64 all.1, epoch-is);
            };
        sum_bound = omega (arith, leb-true (minimums_sum (list_of 16 (minimum_at s))) (epoch_of s) all.2, epoch-is, sum_is);
      }

  turns-tested : SoundTurns (byte s 16) (byte s (17 + 2 * byte s 16)) (λ i. byte s (18 + 2 * byte s 16 + i)) → turns_sound (epoch_of s) (list_of 16 (minimum_at s)) ≡ true
  unfolding turns_sound
  turns-tested t =
      and_both
      (and_both (le-leb 1 (epoch_of s) (omega (arith, t.epoch_bounds.at_least, epoch-is))) (le-leb (epoch_of s) 64 (omega (arith, t.epoch_bounds.at_most, epoch-is))))
      (le-leb (minimums_sum (list_of 16 (minimum_at s))) (epoch_of s) (omega (arith, t.sum_bound, epoch-is, sum_is)))

  -- 8
  timing-byte : (k : ℕ) → byte s (word s 12 + k) ≡ byte s (18 + 3 * byte s 16 + k)
  timing-byte k = ap (λ (at : ℕ). byte s (at + k)) timing-at

  first_byte : byte s (word s 12) ≡ byte s (18 + 3 * byte s 16 + 0)
  first_byte = let at : word s 12 ≡ 18 + 3 * byte s 16 + 0 = omega (arith, timing-at) in ap (byte s) at

  timing-from : timing_of s ≡ timing_from (word s 14) (λ k. byte s (18 + 3 * byte s 16 + k))
  unfolding timing_of timing_from ranks_of rank_gap_of body_size start
  timing-from =
      λ i.
      record {
        turn = first_byte i;
        dead = timing-byte 1 i;
        gaps = timing-byte 2 i ∷ timing-byte 3 i ∷ timing-byte 4 i ∷ timing-byte 5 i ∷ [];
        bank = timing-byte 6 i ∷ timing-byte 7 i ∷ [];
        column = timing-byte 8 i;
        response = timing-byte 9 i;
        ranks = cond (eqb (word s 14) 11) 4 1;
        rank = cond (eqb (word s 14) 11) (timing-byte 10 i) 0;
      }

  timing-said : timing_sound (timing_of s) ≡ true → SoundTiming (word s 14) (λ k. byte s (18 + 3 * byte s 16 + k))
  timing-said e = sound-said (word s 14) (λ k. byte s (18 + 3 * byte s 16 + k)) (sym (ap timing_sound timing-from) ∙ e)

  timing-tested : SoundTiming (word s 14) (λ k. byte s (18 + 3 * byte s 16 + k)) → timing_sound (timing_of s) ≡ true
  timing-tested t = ap timing_sound timing-from ∙ sound-tested (word s 14) (λ k. byte s (18 + 3 * byte s 16 + k)) t

-- ---- the numbers

module _ (s : List ℕ) (given : Bytes s) where
  reflected : Reflected (file_tests s) (conditions s)
  unfolding file_tests policy_tests held made class_count
  reflected =
      next (form-said s) (form-tested s)
      (λ f.
      next (lengths-said s) (lengths-tested s)
      (λ l.
      next (rows-said s given f l) (rows-tested s given f l)
      (λ r.
      next (antisymmetric-said s given f l) (antisymmetric-tested s given f l)
      (λ a.
      next (transitive-said s given f l) (transitive-tested s given f l r)
      (λ t.
      next (least-said s given f l) (least-tested s given f l)
      (λ m. next (turns-said s given f l) (turns-tested s given f l) (λ u. next (timing-said s given f l) (timing-tested s given f l) (λ v. end))))))))

  number : FirstFails (conditions s) 1 (status s)
  unfolding status
  number = first-fails reflected 1

  status-read : (read_file s).status ≡ status s
  unfolding read_file refused_with
  status-read =
      ⊎_elim (λ z. rw z (sym (eqb-true (status s) 0 z))) (λ z. rw z refl) (either (eqb (status s) 0))

  pub refusal-numbers : RefusalNumbers s
  refusal-numbers =
      record {
        number_is =
            λ m. (λ e. subst (λ (k : ℕ). FirstFails (conditions s) 1 k) (sym status-read ∙ e) number, λ fails. status-read ∙ one_number number fails);
      }

-- ---- taken

-- where no condition fails, each holds
holds : {C : Type 0} {Cs : List (Type 0)} {k : ℕ} → FirstFails (C ∷ Cs) (suc k) 0 → C × FirstFails Cs (suc (suc k)) 0
holds (later c rest) = (c, rest)

held-numbers : (s : List ℕ) → FirstFails (conditions s) 1 0 → Encoded s
held-numbers s fails =
    let a = holds fails in
    let b = holds a.1 in
    let c = holds b.1 in
    let d = holds c.1 in
    let e = holds d.1 in
    let f = holds e.1 in
    let g = holds f.1 in
    let h = holds g.1 in
    let form = a.0 in
    let sizes = b.0 in
    record {
      n = byte s 16;
      row = λ i. word s (17 + 2 * i);
      epoch = byte s (17 + 2 * byte s 16);
      minimum = λ i. byte s (18 + 2 * byte s 16 + i);
      size = word s 14;
      timing = λ k. byte s (18 + 3 * byte s 16 + k);
      encoded =
          record {
            entries = form.entries;
            order_entry = record { kind_is = form.kinds.0; start_is = form.first_start; size_is = sizes.order-size };
            turns_entry =
                record {
                  kind_is = form.kinds.1;
                  start_is = omega (arith, form.second_start, sizes.order-size);
                  size_is = sizes.turns_size;
                };
            timing_entry =
                record {
                  kind_is = form.kinds.2;
                  start_is = omega (arith, form.third_start, form.second_start, sizes.order-size, sizes.turns_size);
                  size_is = refl;
                };
            timing-size = sizes.timing-size;
            whole = omega (arith, form.end, form.third_start, form.second_start, sizes.order-size, sizes.turns_size);
            class-count = refl;
            rows = λ i l. refl;
            epoch_byte = refl;
            minimums = λ i l. refl;
            timing-bytes = λ k l. refl;
          };
      sound =
          record {
            count_bounds = sizes.count_bounds;
            no_other_bit = c.0.no_other_bit;
            reflexive = c.0.own;
            antisymmetric = d.0;
            transitive = e.0;
            lowest = f.0;
            turns = g.0;
            timing-sound = h.0;
          };
    }

module _ (s : List ℕ) (h : Encoded s) where
  count-is : byte s 16 ≡ h.n
  count-is = h.encoded.class-count

  -- the file's order is that of the numbers it encodes
  same_bits : (i j : ℕ) → is_class_in h.n i ≡ true → bits h.row i j ≡ file_order s i j
  same_bits i j l = ap (λ (m : ℕ). member m j) (sym (h.encoded.rows i (orders.class-below h.n i l)))

  same_class : (i : ℕ) → is_class_in (byte s 16) i ≡ is_class_in h.n i
  same_class i = ap (λ (n : ℕ). is_class_in n i) count-is

  form-holds : Form s
  form-holds =
      let e = h.encoded in
      let few = h.sound.count_bounds in
      record {
        length_bounds = record { at_least = omega (arith, e.whole, few.at_least); at_most = omega (arith, e.whole, few.at_most, e.timing-size.at_most) };
        entries = e.entries;
        kinds = (e.order_entry.kind_is, e.turns_entry.kind_is, e.timing_entry.kind_is);
        first_start = e.order_entry.start_is;
        second_start = omega (arith, e.turns_entry.start_is, e.order_entry.size_is);
        third_start = omega (arith, e.timing_entry.start_is, e.turns_entry.start_is, e.turns_entry.size_is);
        end = omega (arith, e.whole, e.timing_entry.start_is, e.timing_entry.size_is);
      }

  lengths-hold : Lengths s
  lengths-hold =
      let e = h.encoded in
      let few = h.sound.count_bounds in
      record {
        count_bounds = record { at_least = omega (arith, few.at_least, e.class-count); at_most = omega (arith, few.at_most, e.class-count) };
        order-size = omega (arith, e.order_entry.size_is, e.class-count);
        turns_size = omega (arith, e.turns_entry.size_is, e.class-count);
        timing-size = rw e.timing_entry.size_is e.timing-size;
      }

  rows-hold : Rows s
  rows-hold =
      record {
        no_other_bit =
            λ i j l t.
            let class = sym (same_class i) ∙ l in
            same_class j ∙ h.sound.no_other_bit i j class (same_bits i j class ∙ t);
        own =
            λ i l.
            let class = sym (same_class i) ∙ l in
            sym (same_bits i i class) ∙ h.sound.reflexive i class;
      }

  turns-hold : SoundTurns (byte s 16) (byte s (17 + 2 * byte s 16)) (λ i. byte s (18 + 2 * byte s 16 + i))
  turns-hold =
      let t = h.sound.turns in
      subst (λ (m : ℕ). SoundTurns m (byte s (17 + 2 * m)) (λ i. byte s (18 + 2 * m + i))) (sym count-is)
      (record {
        epoch_bounds = rw h.encoded.epoch_byte t.epoch_bounds;
        sum_bound = rw (h.encoded.epoch_byte, sum_same (λ i. byte s (18 + 2 * h.n + i)) h.minimum h.n h.encoded.minimums) t.sum_bound;
      })

  timing-holds : SoundTiming (word s 14) (λ k. byte s (18 + 3 * byte s 16 + k))
  timing-holds =
      let t = h.sound.timing-sound in
      let sized : word s 14 ≡ h.size = h.encoded.timing_entry.size_is in
      let at : (k : ℕ) → k < 10 → byte s (18 + 3 * h.n + k) ≡ h.timing k = λ k below. h.encoded.timing-bytes k (lt_of_lt_of_le below h.encoded.timing-size.at_least) in
      subst (λ (m : ℕ). SoundTiming (word s 14) (λ k. byte s (18 + 3 * m + k))) (sym count-is)
      (record {
        turn_length = rw (at 0 (lit< tt)) t.turn_length;
        dead_time = rw (at 1 (lit< tt)) t.dead_time;
        dead_below_turn = omega (arith, at 0 (lit< tt), at 1 (lit< tt), t.dead_below_turn);
        gaps =
            λ k a b.
            let here : k < 10 = omega arith in
            let g = t.gaps k a b in
            record { at_least = omega (arith, at k here, g.at_least); at_most = omega (arith, at k here, at 1 (lit< tt), g.at_most) };
        answer_delay =
            record {
              at_least = omega (arith, at 9 (lit< tt), t.answer_delay.at_least);
              at_most = omega (arith, at 9 (lit< tt), at 1 (lit< tt), t.answer_delay.at_most);
            };
        column_delay = (omega (arith, at 8 (lit< tt), t.column_delay.0), omega (arith, at 8 (lit< tt), at 9 (lit< tt), t.column_delay.1));
        rank_gap =
            λ e.
            let size : h.size ≡ 11 = sym sized ∙ e in
            let g = t.rank_gap size in
            let last = h.encoded.timing-bytes 10 (omega (arith, size)) in
            record { at_least = omega (arith, last, g.at_least); at_most = omega (arith, last, at 1 (lit< tt), g.at_most) };
      })

  least-holds : (i : ℕ) × (is_class_in (byte s 16) i ≡ true) × Least (is_class_in (byte s 16)) (file_order s) i
  least-holds =
      let w = h.sound.lowest in (
        w.0,
        same_class w.0 ∙ w.1,
        λ j l. sym (same_bits w.0 j w.1) ∙ w.2 j (sym (same_class j) ∙ l),
      )

  all_hold : FirstFails (conditions s) 1 0
  all_hold =
      later form-holds
      (later lengths-hold
      (later rows-hold
      (later
      (subst (λ (m : ℕ). Antisymmetric (is_class_in m) (file_order s)) (sym count-is) (antisymmetric-same (is_class_in h.n) (bits h.row) (file_order s) same_bits h.sound.antisymmetric))
      (later
      (subst (λ (m : ℕ). Transitive (is_class_in m) (file_order s)) (sym count-is) (transitive-same (is_class_in h.n) (bits h.row) (file_order s) same_bits h.sound.transitive))
      (later least-holds (later turns-hold (later timing-holds none)))))))

  -- the policy held is that of the numbers
  rows_are : list_of 16 (row_at s) ≡ list_of 16 (λ i. cond (ltb i h.n) (h.row i) 0)
  unfolding row_at class_count
  rows_are =
      list_of-same (row_at s) (λ i. cond (ltb i h.n) (h.row i) 0) 16
      (λ i l.
      ap (λ (m : ℕ). cond (ltb i m) (word s (17 + 2 * i)) 0) count-is
      ∙ ⊎_elim (λ b. rw (lt-ltb i h.n b) (h.encoded.rows i b)) (λ b. rw (le-ltb i h.n b)) (lt-or-ge i h.n))

  turns-start : start s 1 ≡ 17 + 2 * h.n
  unfolding start
  turns-start = h.encoded.turns_entry.start_is

  minimums-are : list_of 16 (minimum_at s) ≡ list_of 16 (λ i. cond (ltb i h.n) (h.minimum i) 0)
  unfolding minimum_at class_count
  minimums-are =
      list_of-same (minimum_at s) (λ i. cond (ltb i h.n) (h.minimum i) 0) 16
      (λ i l.
      ap (λ (m : ℕ). cond (ltb i m) (byte s (start s 1 + 1 + i)) 0) count-is
      ∙ ⊎_elim
      (λ b.
      let at : start s 1 + 1 + i ≡ 18 + 2 * h.n + i = omega (arith, turns-start) in
      rw (lt-ltb i h.n b) (ap (byte s) at ∙ h.encoded.minimums i b))
      (λ b. rw (le-ltb i h.n b))
      (lt-or-ge i h.n))

  timing-number : (k : ℕ) → k < h.size → byte s (start s 2 + k) ≡ h.timing k
  unfolding start
  timing-number k l = ap (λ (at : ℕ). byte s (at + k)) h.encoded.timing_entry.start_is ∙ h.encoded.timing-bytes k l

  -- the first ten numbers, whatever the size
  timing-first-ten : (k : ℕ) → k < 10 → byte s (start s 2 + k) ≡ h.timing k
  timing-first-ten k l = timing-number k (lt_of_lt_of_le l h.encoded.timing-size.at_least)

  timing-first : byte s (start s 2) ≡ h.timing 0
  timing-first = let at : start s 2 ≡ start s 2 + 0 = omega arith in ap (byte s) at ∙ timing-first-ten 0 (lit< tt)

  -- and those of the ranks
  size_is : body_size s 2 ≡ h.size
  unfolding body_size
  size_is = h.encoded.timing_entry.size_is

  ranks_are : ranks_of s ≡ cond (eqb h.size 11) 4 1
  unfolding ranks_of
  ranks_are = ap (λ (k : ℕ). cond (eqb k 11) 4 1) size_is

  rank_is : rank_gap_of s ≡ cond (eqb h.size 11) (h.timing 10) 0
  unfolding rank_gap_of
  rank_is =
      ap (λ (k : ℕ). cond (eqb k 11) (byte s (start s 2 + 10)) 0) size_is
      ∙ ⊎_elim
      (λ eleven. rw eleven (timing-number 10 (omega (arith, eqb-true h.size 11 eleven))))
      (λ ten. rw ten)
      (either (eqb h.size 11))

  held-is : held s ≡ policy_of h.n h.row h.epoch h.minimum h.size h.timing
  unfolding held made policy_of class_count epoch_of timing_of
  held-is =
      let e : byte s (start s 1) ≡ h.epoch = ap (byte s) turns-start ∙ h.encoded.epoch_byte in
      λ i.
      made (count-is i) (rows_are i) (e i) (minimums-are i)
      (record {
        turn = timing-first i;
        dead = timing-first-ten 1 (lit< tt) i;
        gaps = timing-first-ten 2 (lit< tt) i ∷ timing-first-ten 3 (lit< tt) i ∷ timing-first-ten 4 (lit< tt) i ∷ timing-first-ten 5 (lit< tt) i ∷ [];
        bank = timing-first-ten 6 (lit< tt) i ∷ timing-first-ten 7 (lit< tt) i ∷ [];
        column = timing-first-ten 8 (lit< tt) i;
        response = timing-first-ten 9 (lit< tt) i;
        ranks = ranks_are i;
        rank = rank_is i;
      })

-- ---- in range

module _ (s : List ℕ) (given : Bytes s) (taken : status s ≡ 0) where
  tests : (contents_fit s ≡ true) × (lengths_fit s ≡ true) × (refusal (held s) ≡ 0)
  unfolding status file_tests refusal
  tests =
      let a = first_passes 0 (contents_fit s) (lengths_fit s ∷ policy_tests (held s)) taken in
      let b = first_passes 1 (lengths_fit s) (policy_tests (held s)) a.1 in
      (a.0, b.0, b.1)

  sizes : Lengths s
  sizes = lengths-said s tests.1

  -- what is no class has no minimum in it
  held-fit : Fit (class_count s) (list_of 16 (row_at s)) (list_of 16 (minimum_at s))
  unfolding class_count
  held-fit =
      let form = form-said s tests.0 in
      record {
        sixteen_rows = length-list_of (row_at s) 16;
        sixteen_minimums = length-list_of (minimum_at s) 16;
        row_bits = λ i l. (stored s given form sizes).small i;
        few = (sizes.count_bounds.at_least, sizes.count_bounds.at_most);
        no_minimum = λ i b. minimum-void s given form sizes i (orders.past-classes (byte s 16) i b);
      }

  held-in-range : in_range (held s) ≡ true
  unfolding held made
  held-in-range = made-in-range (class_count s) (list_of 16 (row_at s)) (epoch_of s) (list_of 16 (minimum_at s)) (timing_of s) held-fit tests.2

-- the policy handed back where the status is 0
policy-held : (s : List ℕ) → status s ≡ 0 → (read_file s).policy ≡ held s
unfolding read_file
policy-held s e = rw e

pub taken-iff : (s : List ℕ) → Bytes s → TakenIff s
taken-iff s given =
    record {
      taken = (
        λ e. held-numbers s (subst (λ (k : ℕ). FirstFails (conditions s) 1 k) (sym (status-read s given) ∙ e) (number s given)),
        λ h. status-read s given ∙ one_number (number s given) (all_hold s h),
      );
      policy_is = λ h. policy-held s (one_number (number s given) (all_hold s h)) ∙ held-is s h;
      in-range =
          λ e.
          let taken : status s ≡ 0 = sym (status-read s given) ∙ e in
          ap in_range (policy-held s taken) ∙ held-in-range s given taken;
    }
