-- The answers of fetching an order: each number is that of the first question that fails, and the policy of an order that is listed is in range, since its order passes the tests of
-- a file, its turns are 4 and no minimums, and its timing is sound.
-- Assumes nothing.
use mathlib.Core.Path.{◌≡◌, refl, sym, ap, ◌∙◌, subst}
use mathlib.Core.Logic.{⊎_elim, ◌↔◌}
use mathlib.Core.Bool.{Bool, true, false, cond, ◌&&◌}
use mathlib.Core.List.{List}
use Prim.Native.Nat.{ℕ, ◌≤◌, ◌<◌}
use native.Mathlib.Nat.{lt_trans}
use native.Mathlib.Omega.{arith}
use borrow.Author.Tests.{lt-ltb, le-ltb, ne_eqb}
use lib.Dec.{ltb, eqb}
use lib.ListN.{length, get_or, replicate}
use lib.Seq.{ext_get_or}
use Rattle.basics.specs.Below.{sum, list_of}
use Rattle.turns.specs.Turns.{turns_sound, minimums_sum, minimums_below}
use Rattle.timing.specs.Timing.{within, timing_sound}
use Rattle.policy.specs.Policy.{made, no_policy, first_failing, policy_tests, refusal, in_range}
use Rattle.file.specs.File.{byte, read_file}
use Rattle.file.specs.Taken.{Between, SoundTiming, Encodes, timing_from, policy_of}
use Rattle.writer.specs.Written.{file_of}
use Rattle.writer.specs.ReadBack.{TimingShape}
use Rattle.policy.specs.declared.Policy.{Policy}
use Rattle.orders.specs.Listed.{few, count_of, row_at, rows_at, body_timing, policy_at, fetch_status, fetched}
use Rattle.orders.specs.EveryOrder.{LegalOrder, value, EveryOrder}
use Rattle.orders.specs.Policies.{Asked, small_policy, Fetches, HandedBack, rows_of, AtOnePlace, EveryPolicy}
use Rattle.basics.proofs.Truth.{not-both, on-either}
use Rattle.basics.proofs.Below.{lt-or-ge, length-list_of, get_or-list_of, list_of-same}
use Rattle.basics.proofs.Stores.{past_end}
use Rattle.policy.proofs.Making.{Fit, made-in-range}
use Rattle.file.proofs.Timings.{between-said, between-tested, sound-said, sound-tested}
use Rattle.writer.proofs.Returned.{read_back, numbers-encoded}
use Rattle.orders.proofs.Listed.{passed, no-minimums}
use Rattle.orders.proofs.EveryOrder as listed

-- ---- the numbers

-- of three questions that are asked one after the other, the number is that of the first that fails
number : Bool → Bool → Bool → ℕ
number a b d = cond a (cond b (cond d 0 8) 2) 20

is-twenty : (a b d : Bool) → (number a b d ≡ 20) ↔ ((a ≡ true) → ⊥)
unfolding number
is-twenty false b d = (λ e t. not-both t refl, λ no. refl)
is-twenty true false d = (λ e t. absurd (omega (arith, e)), λ no. absurd (no refl))
is-twenty true true false = (λ e t. absurd (omega (arith, e)), λ no. absurd (no refl))
is-twenty true true true = (λ e t. absurd (omega (arith, e)), λ no. absurd (no refl))

is-two : (b d : Bool) → (number true b d ≡ 2) ↔ ((b ≡ true) → ⊥)
unfolding number
is-two false d = (λ e t. not-both t refl, λ no. refl)
is-two true false = (λ e t. absurd (omega (arith, e)), λ no. absurd (no refl))
is-two true true = (λ e t. absurd (omega (arith, e)), λ no. absurd (no refl))

is-eight : (d : Bool) → (number true true d ≡ 8) ↔ ((d ≡ true) → ⊥)
unfolding number
is-eight false = (λ e t. not-both t refl, λ no. refl)
is-eight true = (λ e t. absurd (omega (arith, e)), λ no. absurd (no refl))

module _ (n : ℕ) (body : List ℕ) where
  status_is : fetch_status n body ≡ number (few n) (within 10 (length body) 11) (timing_sound (body_timing body))
  unfolding fetch_status number
  status_is = refl

  few-said : few n ≡ true → Between 1 n 4
  unfolding few
  few-said e = between-said 1 n 4 e

  few-tested : Between 1 n 4 → few n ≡ true
  unfolding few
  few-tested b = between-tested 1 n 4 b

  timing-said : timing_sound (body_timing body) ≡ true → SoundTiming (length body) (byte body)
  unfolding body_timing
  timing-said e = sound-said (length body) (byte body) e

  timing-tested : SoundTiming (length body) (byte body) → timing_sound (body_timing body) ≡ true
  unfolding body_timing
  timing-tested t = sound-tested (length body) (byte body) t

  asked : fetch_status n body ≡ 0 → Asked n body
  asked e =
      let tests = passed n body e in
      record { few = few-said tests.0; size = between-said 10 (length body) 11 tests.1; sound = timing-said tests.2 }

  not_refused : Asked n body → fetch_status n body ≡ 0
  unfolding fetch_status
  not_refused a = rw (few-tested a.few, between-tested 10 (length body) 11 a.size, timing-tested a.sound)

  twenty : (fetch_status n body ≡ 20) ↔ (Between 1 n 4 → ⊥)
  twenty =
      let law = is-twenty (few n) (within 10 (length body) 11) (timing_sound (body_timing body)) in
      (λ e b. law.0 (sym status_is ∙ e) (few-tested b), λ no. status_is ∙ law.1 (λ t. no (few-said t)))

  two : Between 1 n 4 → (fetch_status n body ≡ 2) ↔ (Between 10 (length body) 11 → ⊥)
  two b =
      let law = is-two (within 10 (length body) 11) (timing_sound (body_timing body)) in
      let here = status_is ∙ ap (λ (t : Bool). number t (within 10 (length body) 11) (timing_sound (body_timing body))) (few-tested b) in
      (λ e size. law.0 (sym here ∙ e) (between-tested 10 (length body) 11 size), λ no. here ∙ law.1 (λ t. no (between-said 10 (length body) 11 t)))

  eight : Between 1 n 4 → Between 10 (length body) 11 → (fetch_status n body ≡ 8) ↔ (SoundTiming (length body) (byte body) → ⊥)
  eight b size =
      let law = is-eight (timing_sound (body_timing body)) in
      let here =
      status_is
      ∙ ap (λ (t : Bool). number t (within 10 (length body) 11) (timing_sound (body_timing body))) (few-tested b)
      ∙ ap (λ (t : Bool). number true t (timing_sound (body_timing body))) (between-tested 10 (length body) 11 size) in
      (λ e sound. law.0 (sym here ∙ e) (timing-tested sound), λ no. here ∙ law.1 (λ t. no (timing-said t)))

-- ---- the policies

-- the rows of an order are those at its place
same-policy : (n place : ℕ) (body : List ℕ) → policy_at n place body ≡ small_policy n (rows_at n place) body
unfolding policy_at small_policy policy_of made timing_from rows_at
same-policy n place body =
    ap (λ (rows : List ℕ). made n rows 4 (list_of 16 (λ i. cond (ltb i n) 0 0)) (timing_from (length body) (byte body)))
    (list_of-same (λ i. cond (ltb i n) (row_at n place i) 0) (λ i. cond (ltb i n) (get_or (list_of n (row_at n place)) i 0) 0) 16
    (λ i b.
    ⊎_elim (λ l. rw (lt-ltb i n l) (sym (get_or-list_of (row_at n place) n i l))) (λ h. rw (le-ltb i n h)) (lt-or-ge i n)))

module _ (n place : ℕ) (body : List ℕ) where
  pub fetches : Fetches n place body
  unfolding fetched
  fetches =
      record {
        twenty = twenty n body;
        two = two n body;
        eight = eight n body;
        zero = (asked n body, not_refused n body);
        refused =
            λ no.
            let other : eqb (fetch_status n body) 0 ≡ false = ne_eqb (fetch_status n body) 0 (λ e. no (asked n body e)) in
            rw other;
        past_last = λ h. rw (le-ltb place (count_of n) h) (past (eqb (fetch_status n body) 0));
        order_at = λ a l. rw (not_refused n body a, lt-ltb place (count_of n) l) (same-policy n place body);
      }
    where
      past : (b : Bool) → cond (b && false) (policy_at n place body) no_policy ≡ no_policy
      past true = refl
      past false = refl

zeros-sound : turns_sound 4 (replicate 16 0) ≡ true
unfolding turns_sound minimums_sum minimums_below sum
zeros-sound = refl

module _ (n place : ℕ) (body : List ℕ) (a : Asked n body) (below : place < count_of n) where
  small : n ≤ 4
  small = a.few.at_most

  no-turns : turns_sound 4 (list_of 16 (λ i. cond (ltb i n) 0 0)) ≡ true
  no-turns = subst (λ (l : List ℕ). turns_sound 4 l ≡ true) (no-minimums n) zeros-sound

  fit : Fit n (listed.sixteen n place) (list_of 16 (λ i. cond (ltb i n) 0 0))
  unfolding listed.sixteen
  fit =
      record {
        sixteen_rows = length-list_of (λ i. cond (ltb i n) (row_at n place i) 0) 16;
        sixteen_minimums = length-list_of (λ i. cond (ltb i n) 0 0) 16;
        row_bits = λ i l. listed.row_bits n small place i;
        few = (a.few.at_least, omega (arith, small));
        no_minimum = λ i e. no_minimum i;
      }
    where
      no_minimum : (i : ℕ) → get_or (list_of 16 (λ i. cond (ltb i n) 0 0)) i 0 ≡ 0
      no_minimum i =
          ⊎_elim (λ l. get_or-list_of (λ i. cond (ltb i n) 0 0) 16 i l ∙ on-either (ltb i n) 0)
          (λ h. sym (past_end (list_of 16 (λ i. cond (ltb i n) 0 0)) i (length-list_of (λ i. cond (ltb i n) 0 0) 16) h))
          (lt-or-ge i 16)

  none-refuses : refusal (policy_at n place body) ≡ 0
  unfolding refusal policy_tests first_failing policy_at policy_of timing_from listed.sixteen
  none-refuses =
      let tests = listed.passed n small place below in
      rw (tests.0, tests.1, tests.2, tests.3, no-turns, sound-tested (length body) (byte body) a.sound)

  at-place-in-range : in_range (policy_at n place body) ≡ true
  unfolding policy_at policy_of made timing_from listed.sixteen
  at-place-in-range =
      made-in-range n (listed.sixteen n place) 4 (list_of 16 (λ i. cond (ltb i n) 0 0)) (timing_from (length body) (byte body)) fit none-refuses

  policy_is : (fetched n place body).policy ≡ policy_at n place body
  policy_is = (fetches n place body).order_at a below ∙ sym (same-policy n place body)

  -- its file has what is asked for
  holds : Encodes (file_of (policy_at n place body)) n (row_at n place) 4 (λ i. 0) (length body) (byte body)
  unfolding policy_at
  holds = numbers-encoded n (row_at n place) 4 (λ i. 0) (length body) (byte body) (omega (arith, small)) a.size at-place-in-range

  same_rows : Encodes (file_of (policy_at n place body)) n (λ i. get_or (rows_at n place) i 0) 4 (λ i. 0) (length body) (byte body)
  unfolding rows_at
  same_rows =
      record {
        entries = holds.entries;
        order_entry = holds.order_entry;
        turns_entry = holds.turns_entry;
        timing_entry = holds.timing_entry;
        timing-size = holds.timing-size;
        whole = holds.whole;
        class-count = holds.class-count;
        rows = λ i l. holds.rows i l ∙ sym (get_or-list_of (row_at n place) n i l);
        epoch_byte = holds.epoch_byte;
        minimums = holds.minimums;
        timing-bytes = holds.timing-bytes;
      }

  shape : TimingShape (policy_at n place body).timing
  unfolding policy_at policy_of
  shape = record { four_gaps = refl; two_gaps = refl }

  pub handed_back : HandedBack n place body a below
  handed_back =
      record {
        in-range = ap in_range policy_is ∙ at-place-in-range;
        reads = subst (λ (p : Policy). read_file (file_of p) ≡ record { status = 0; policy = p }) (sym policy_is) ((read_back (policy_at n place body) at-place-in-range).reads shape);
        file = subst (λ (p : Policy). Encodes (file_of p) n (λ i. get_or (rows_at n place) i 0) 4 (λ i. 0) (length body) (byte body)) (sym policy_is) same_rows;
      }

-- ---- every legal order, as a policy

-- two policies of orders of n classes have the same rows only where the orders have
rows-of-small : (n : ℕ) (rows body : List ℕ) → n ≤ 4 → length rows ≡ n → rows_of (small_policy n rows body) ≡ rows
unfolding rows_of small_policy policy_of
rows-of-small n rows body small long =
    ext_get_or 0 (list_of n (λ i. get_or (list_of 16 (λ j. cond (ltb j n) (get_or rows j 0) 0)) i 0)) rows
    (length-list_of (λ i. get_or (list_of 16 (λ j. cond (ltb j n) (get_or rows j 0) 0)) i 0) n ∙ sym long)
    (λ i b.
    let l : i < n = omega (arith, length-list_of (λ i. get_or (list_of 16 (λ j. cond (ltb j n) (get_or rows j 0) 0)) i 0) n) in
    let inside : i < 16 = omega arith in
    get_or-list_of (λ i. get_or (list_of 16 (λ j. cond (ltb j n) (get_or rows j 0) 0)) i 0) n i l
    ∙ get_or-list_of (λ j. cond (ltb j n) (get_or rows j 0) 0) 16 i inside
    ∙ rw (lt-ltb i n l))

module _ (n : ℕ) (body : List ℕ) (a : Asked n body) where
  listing : EveryOrder n
  listing = listed.every-order n a.few.at_least a.few.at_most

  rows-handed : (place : ℕ) → place < count_of n → rows_of (fetched n place body).policy ≡ rows_at n place
  rows-handed place below =
      ap rows_of ((fetches n place body).order_at a below) ∙ rows-of-small n (rows_at n place) body a.few.at_most (listing.legal place below).so_many

  at-one-place : (rows : List ℕ) → LegalOrder n rows → AtOnePlace n rows body
  at-one-place rows order =
      let at = listing.there rows order in
      record {
        place = at.0;
        below = at.1;
        fetches = (fetches n at.0 body).order_at a at.1 ∙ ap (λ (l : List ℕ). small_policy n l body) at.2;
        only =
            λ other below same.
            listing.once other at.0 below at.1
            (sym (rows-handed other below) ∙ ap rows_of same ∙ rows-of-small n rows body a.few.at_most order.so_many ∙ sym at.2);
      }

  pub every-policy : EveryPolicy n body a
  every-policy =
      record {
        there = at-one-place;
        legal = λ place below. subst (LegalOrder n) (sym (rows-handed place below)) (listing.legal place below);
        rising =
            λ place later less below.
            subst (λ (l : List ℕ). value l < value (rows_of (fetched n later body).policy)) (sym (rows-handed place (lt_trans less below)))
            (subst (λ (l : List ℕ). value (rows_at n place) < value l) (sym (rows-handed later below)) (listing.rising place later less below));
      }
