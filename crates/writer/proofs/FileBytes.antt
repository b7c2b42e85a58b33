-- How many bytes the file of a policy has, and that each number of it is one: no number of a policy in range but a row is above 255, and neither half of a row is. And one byte more behind those that are written.
-- Assumes nothing.
use mathlib.Core.Path.{◌≡◌, refl, sym, ap, ◌∙◌}
use mathlib.Core.Logic.{⊎_elim}
use mathlib.Core.Bool.{true}
use mathlib.Core.List.{List, [], ◌∷◌, ◌++◌}
use Prim.Native.Nat.{ℕ, zero, suc, ◌+◌, ◌-◌, ◌*◌, ◌/◌, ◌%◌, ◌≤◌, ◌<◌}
use native.Mathlib.Numerals.{add-one}
use native.Mathlib.Omega.{arith}
use borrow.Author.Tests.{lt-ltb, le-ltb, eqb-false}
use lib.Dec.{eqb, lit<, lit≤}
use lib.ListN.{length, get_or, set, drop}
use Rattle.basics.specs.Below.{list_of}
use Rattle.order.specs.Order.{is_class_in}
use Rattle.policy.specs.Policy.{is_class, minimum, in_range}
use Rattle.policy.specs.Laws.{PolicyLaws}
use Rattle.writer.specs.Written.{timing_size, contents, half_of, order_byte, turns_byte, timing_bytes, file_byte}
use Rattle.timing.specs.declared.Timing.{Timing}
use Rattle.policy.specs.declared.Policy.{Policy}
use Rattle.basics.proofs.Truth.{either, on_both}
use Rattle.basics.proofs.Below.{lt-or-ge, length-list_of}
use Rattle.basics.proofs.Stores.{written-more}
use Rattle.policy.proofs.Laws.{policy-laws}

-- the timing body has ten bytes or eleven
pub timing-size : (t : Timing) → (10 ≤ timing_size t) × (timing_size t ≤ 11)
unfolding timing_size
timing-size t = on_both (λ k. (10 ≤ k) × (k ≤ 11)) (eqb t.ranks 4) 11 10 (lit≤ tt, lit≤ tt) (lit≤ tt, lit≤ tt)

-- ---- which body a byte is of

module _ (p : Policy) (k : ℕ) where
  pub in-contents : k < 16 → file_byte p k ≡ get_or (contents p.classes (timing_size p.timing)) k 0
  unfolding file_byte
  in-contents l = rw (lt-ltb k 16 l)

  pub in_order : 16 ≤ k → k < 17 + 2 * p.classes → file_byte p k ≡ order_byte p (k - 16)
  unfolding file_byte
  in_order h l = rw (le-ltb k 16 h, lt-ltb k (17 + 2 * p.classes) l)

  pub in_turns : 17 + 2 * p.classes ≤ k → k < 18 + 3 * p.classes → file_byte p k ≡ turns_byte p (k - (17 + 2 * p.classes))
  unfolding file_byte
  in_turns h l =
      let past : 16 ≤ k = omega arith in
      rw (le-ltb k 16 past, le-ltb k (17 + 2 * p.classes) h, lt-ltb k (18 + 3 * p.classes) l)

  pub in-timing : 18 + 3 * p.classes ≤ k → file_byte p k ≡ get_or (timing_bytes p.timing) (k - (18 + 3 * p.classes)) 0
  unfolding file_byte
  in-timing h =
      let past : 16 ≤ k = omega arith in
      let over : 17 + 2 * p.classes ≤ k = omega arith in
      rw (le-ltb k 16 past, le-ltb k (17 + 2 * p.classes) over, le-ltb k (18 + 3 * p.classes) h)

-- ---- each number is a byte

-- a list of bytes, number by number; past its end stands 0
data Small : List ℕ → Type 0 where
  none : Small []
  more : (x : ℕ) {l : List ℕ} → x < 256 → Small l → Small (x ∷ l)

small_at : {l : List ℕ} → Small l → (k : ℕ) → get_or l k 0 < 256
small_at none k = lit< tt
small_at (more x h rest) zero = h
small_at (more x h rest) (suc k) = small_at rest k

module _ (p : Policy) (given : in_range p ≡ true) where
  laws : PolicyLaws p
  laws = policy-laws p given

  classes_few : p.classes ≤ 16
  classes_few = laws.order.classes_few.1

  contents-small : Small (contents p.classes (timing_size p.timing))
  unfolding contents
  contents-small =
      more 3 (lit< tt)
      (more 1 (lit< tt)
      (more 16 (lit< tt)
      (more 0 (lit< tt)
      (more (1 + 2 * p.classes) (omega (arith, classes_few))
      (more 0 (lit< tt)
      (more 2 (lit< tt)
      (more (17 + 2 * p.classes) (omega (arith, classes_few))
      (more 0 (lit< tt)
      (more (1 + p.classes) (omega (arith, classes_few))
      (more 0 (lit< tt)
      (more 3 (lit< tt)
      (more (18 + 3 * p.classes) (omega (arith, classes_few))
      (more 0 (lit< tt)
      (more (timing_size p.timing) (omega (arith, (timing-size p.timing).1))
      (more 0 (lit< tt) none)))))))))))))))

  half-small : (row half : ℕ) → row < 65536 → half_of row half < 256
  unfolding half_of
  half-small row half l = on_both (λ m. m < 256) (eqb half 0) (row % 256) (row / 256) (omega arith) (omega arith)

  order_small : (k : ℕ) → order_byte p k < 256
  unfolding order_byte
  order_small k =
      on_both (λ m. m < 256) (eqb k 0) p.classes (half_of (get_or p.rows ((k - 1) / 2) 0) ((k - 1) % 2)) (omega (arith, classes_few))
      (half-small (get_or p.rows ((k - 1) / 2) 0) ((k - 1) % 2) (laws.numbers.row_bits ((k - 1) / 2)))

  turns-small : (k : ℕ) → k ≤ p.classes → turns_byte p k < 256
  unfolding turns_byte minimum is_class is_class_in
  turns-small k l =
      ⊎_elim (λ first. rw first (omega (arith, laws.capped.epoch_bounds.1)))
      (λ later.
      let class : is_class p (k - 1) ≡ true = lt-ltb (k - 1) p.classes (omega (arith, eqb-false k 0 later)) in
      rw later (omega (arith, laws.capped.at_least_own (k - 1) class, laws.capped.at_most_epoch (k - 1), laws.capped.epoch_bounds.1)))
      (either (eqb k 0))

  timing-small : Small (timing_bytes p.timing)
  unfolding timing_bytes
  timing-small =
      let dead = laws.timed.dead_bounds.1 in
      more p.timing.turn (omega (arith, laws.timed.turn_bounds.1))
      (more p.timing.dead (omega (arith, dead))
      (more (get_or p.timing.gaps 0 0) (omega (arith, (laws.timed.gaps_bounds 0 (lit< tt)).1, dead))
      (more (get_or p.timing.gaps 1 0) (omega (arith, (laws.timed.gaps_bounds 1 (lit< tt)).1, dead))
      (more (get_or p.timing.gaps 2 0) (omega (arith, (laws.timed.gaps_bounds 2 (lit< tt)).1, dead))
      (more (get_or p.timing.gaps 3 0) (omega (arith, (laws.timed.gaps_bounds 3 (lit< tt)).1, dead))
      (more (get_or p.timing.bank 0 0) (omega (arith, (laws.timed.bank_bounds 0 (lit< tt)).1, dead))
      (more (get_or p.timing.bank 1 0) (omega (arith, (laws.timed.bank_bounds 1 (lit< tt)).1, dead))
      (more p.timing.column (omega (arith, laws.timed.column_bounds.1, laws.timed.response_bounds.1, dead))
      (more p.timing.response (omega (arith, laws.timed.response_bounds.1, dead))
      (more p.timing.rank (omega (arith, laws.timed.rank_bound, dead)) none))))))))))

  pub byte_small : (k : ℕ) → file_byte p k < 256
  byte_small k =
      ⊎_elim (λ a. rw (in-contents p k a) (small_at contents-small k))
      (λ a.
      ⊎_elim (λ b. rw (in_order p k a b) (order_small (k - 16)))
      (λ b.
      ⊎_elim (λ d. rw (in_turns p k b d) (turns-small (k - (17 + 2 * p.classes)) (omega arith)))
      (λ d. rw (in-timing p k d) (small_at timing-small (k - (18 + 3 * p.classes))))
      (lt-or-ge k (18 + 3 * p.classes)))
      (lt-or-ge k (17 + 2 * p.classes)))
      (lt-or-ge k 16)

-- ---- one byte more

list_of-more : (g : ℕ → ℕ) (n : ℕ) → list_of (suc n) g ≡ list_of n g ++ g n ∷ []
unfolding list_of
list_of-more g zero = refl
list_of-more g (suc n) = ap (λ (l : List ℕ). g zero ∷ l) (list_of-more (λ i. g (suc i)) n)

pub byte_more : (g : ℕ → ℕ) (out : List ℕ) (k v : ℕ) → v ≡ g k → k < length out → set (list_of k g ++ drop k out) k v ≡ list_of (k + 1) g ++ drop (k + 1) out
byte_more g out k v e l =
    written-more (list_of k g) (v ∷ []) out k (length-list_of g k) (omega arith)
    ∙ ap (λ (m : ℕ). list_of k g ++ m ∷ [] ++ drop (k + 1) out) e
    ∙ ap (λ (l : List ℕ). l ++ drop (k + 1) out) (sym next)
  where
    next : list_of (k + 1) g ≡ list_of k g ++ g k ∷ []
    next = rw (add-one k) (list_of-more g k)
