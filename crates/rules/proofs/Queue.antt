-- What an enqueue and a dequeue do to the waiting requests of each class.
-- Assumes nothing.
use mathlib.Core.Path.{◌≡◌, refl, sym, ap, ap₂, ◌∙◌, subst}
use mathlib.Core.Logic.{◌≢◌, ⊎_elim}
use Prim.Native.Nat.{ℕ, zero, suc, ◌+◌, ◌-◌, ◌%◌, ◌≤◌, ◌<◌, zero-le, suc-le-suc}
use native.Mathlib.Nat.{lt_irrefl, lt_trans, le_refl, not-suc-le-zero, le_of_suc-le-suc}
use native.Mathlib.Omega.{arith}
use mathlib.Core.List.{List, [], ◌∷◌, ◌++◌}
use lib.ListN.{length, get_or, set, take, drop, length-set}
use lib.Seq.{get_or-set_same, get_or-set_other}
use Rattle.basics.specs.Below.{list_of}
use Rattle.basics.proofs.Below.{at-or-below, list_of-same}
use Rattle.queues.specs.Waiting.{head_of, length_of, passed_of, place, waiting_at, waiting}
use Rattle.rules.specs.Queue.{enqueue, closed_up, passed_after, dequeue}
use Rattle.queues.specs.declared.Queues.{Queues}

-- ---- places

place-class : (c h k d i l : ℕ) → place c h k ≡ place d i l → c ≡ d
unfolding place
place-class c h k d i l e = omega (arith, e)

place-number : (c h k l : ℕ) → k < 8 → l < 8 → place c h k ≡ place c h l → k ≡ l
unfolding place
place-number c h k l a b e = omega (arith, a, b, e)

place-small : (c h k : ℕ) → c < 16 → place c h k < 128
unfolding place
place-small c h k l = omega (arith, l)

place-next : (c h k : ℕ) → place c ((h + 1) % 8) k ≡ place c h (k + 1)
unfolding place
place-next c h k = omega arith

-- ---- an enqueue

module _ (q : Queues) (c w : ℕ) where
  pub enqueue-head : (d : ℕ) → head_of (enqueue q c w) d ≡ head_of q d
  unfolding head_of enqueue
  enqueue-head d = refl

  pub enqueue-passed : (d : ℕ) → passed_of (enqueue q c w) d ≡ passed_of q d
  unfolding passed_of enqueue
  enqueue-passed d = refl

  pub enqueue-longer : c < length q.lengths → length_of (enqueue q c w) c ≡ length_of q c + 1
  unfolding length_of enqueue
  enqueue-longer h = get_or-set_same q.lengths c (length_of q c + 1) 0 h

  pub enqueue-else : (d : ℕ) → d ≢ c → length_of (enqueue q c w) d ≡ length_of q d
  unfolding length_of enqueue
  enqueue-else d h = get_or-set_other q.lengths c d (length_of q c + 1) 0 h

  -- the new one is the last
  pub enqueue-last : c < 16 → length q.slots ≡ 128 → waiting_at (enqueue q c w) c (length_of q c) ≡ w
  unfolding waiting_at enqueue head_of
  enqueue-last l h = get_or-set_same q.slots (place c (head_of q c) (length_of q c)) w 0 (subst (λ (n : ℕ). place c (head_of q c) (length_of q c) < n) (sym h) (place-small c (head_of q c) (length_of q c) l))

  -- those before it stay
  pub enqueue-before : (k : ℕ) → k < length_of q c → length_of q c < 8 → waiting_at (enqueue q c w) c k ≡ waiting_at q c k
  unfolding waiting_at enqueue head_of
  enqueue-before k l s = get_or-set_other q.slots (place c (head_of q c) (length_of q c)) (place c (head_of q c) k) w 0 (λ e. lt_irrefl k (subst (λ (n : ℕ). k < n) (sym (place-number c (head_of q c) k (length_of q c) (lt_trans l s) s e)) l))

  -- and so do those of other classes
  pub enqueue-apart : (d k : ℕ) → d ≢ c → waiting_at (enqueue q c w) d k ≡ waiting_at q d k
  unfolding waiting_at enqueue head_of
  enqueue-apart d k h = get_or-set_other q.slots (place c (head_of q c) (length_of q c)) (place d (head_of q d) k) w 0 (λ e. h (place-class d (head_of q d) k c (head_of q c) (length_of q c) e))

-- ---- the places of a ring, closed up

-- those of other classes stay
closed-apart : (c head k : ℕ) (slots : List ℕ) (d i j : ℕ) → d ≢ c → get_or (closed_up slots c head k) (place d i j) 0 ≡ get_or slots (place d i j) 0
unfolding closed_up
closed-apart c head zero slots d i j apart = refl
closed-apart c head (suc k) slots d i j apart =
    closed-apart c head k _ d i j apart
    ∙ get_or-set_other slots (place c head (suc k)) (place d i j) _ 0 (λ e. apart (place-class d i j c head (suc k) e))

pub closed-long : (c head k : ℕ) (slots : List ℕ) → length (closed_up slots c head k) ≡ length slots
unfolding closed_up
closed-long c head zero slots = refl
closed-long c head (suc k) slots =
    closed-long c head k _ ∙ length-set slots (place c head (suc k)) _

-- what stands past the place that is left stays
closed-past : (c head k : ℕ) (slots : List ℕ) (j : ℕ) → k < j → j < 8 → get_or (closed_up slots c head k) (place c head j) 0 ≡ get_or slots (place c head j) 0
unfolding closed_up
closed-past c head zero slots j past small = refl
closed-past c head (suc k) slots j past small =
    closed-past c head k _ j (omega (arith, past)) small
    ∙ get_or-set_other slots (place c head (suc k)) (place c head j) _ 0
    (λ e. lt_irrefl j (subst (λ (n : ℕ). n < j) (sym (place-number c head j (suc k) small (lt_trans past small) e)) past))

-- what stands before it moves by one place
closed-before : (c head k : ℕ) (slots : List ℕ) (j : ℕ) → c < 16 → length slots ≡ 128 → j < k → k < 8 → get_or (closed_up slots c head k) (place c head (suc j)) 0 ≡ get_or slots (place c head j) 0
unfolding closed_up
closed-before c head zero slots j few long before small = absurd (not-suc-le-zero before)
closed-before c head (suc k) slots j few long before small =
    let moved = get_or slots (place c head k) 0 in
    let after = set slots (place c head (suc k)) moved in
    let less : k < 8 = omega (arith, small) in
    ⊎_elim
    (λ last.
    subst (λ (i : ℕ). get_or (closed_up after c head k) (place c head (suc i)) 0 ≡ get_or slots (place c head i) 0) (sym last)
    (closed-past c head k after (suc k) (le_refl (suc k)) small
    ∙ get_or-set_same slots (place c head (suc k)) moved 0 (subst (λ (n : ℕ). place c head (suc k) < n) (sym long) (place-small c head (suc k) few))))
    (λ earlier.
    closed-before c head k after j few (length-set slots (place c head (suc k)) moved ∙ long) earlier less
    ∙ get_or-set_other slots (place c head (suc k)) (place c head j) moved 0
    (λ e. lt_irrefl j (subst (λ (n : ℕ). j < n) (sym (place-number c head j (suc k) (lt_trans earlier less) small e)) before)))
    (at-or-below before)

-- one step of it, from the youngest on
pub closed-step : (c head k : ℕ) (slots : List ℕ) → 0 < k → closed_up slots c head k ≡ closed_up (set slots (place c head k) (get_or slots (place c head (k - 1)) 0)) c head (k - 1)
unfolding closed_up
closed-step c head zero slots some = absurd (not-suc-le-zero some)
closed-step c head (suc k) slots some =
    let less : k ≡ suc k - 1 = omega arith in
    ap (λ (i : ℕ). closed_up (set slots (place c head (suc k)) (get_or slots (place c head i) 0)) c head i) less

-- ---- a dequeue

module _ (q : Queues) (c m : ℕ) where
  pub dequeue-head : c < length q.heads → head_of (dequeue q c m) c ≡ (head_of q c + 1) % 8
  unfolding head_of dequeue
  dequeue-head h = get_or-set_same q.heads c ((head_of q c + 1) % 8) 0 h

  pub dequeue-shorter : c < length q.lengths → length_of (dequeue q c m) c ≡ length_of q c - 1
  unfolding length_of dequeue
  dequeue-shorter h = get_or-set_same q.lengths c (length_of q c - 1) 0 h

  pub dequeue-else-head : (d : ℕ) → d ≢ c → head_of (dequeue q c m) d ≡ head_of q d
  unfolding head_of dequeue
  dequeue-else-head d h = get_or-set_other q.heads c d ((head_of q c + 1) % 8) 0 h

  pub dequeue-else : (d : ℕ) → d ≢ c → length_of (dequeue q c m) d ≡ length_of q d
  unfolding length_of dequeue
  dequeue-else d h = get_or-set_other q.lengths c d (length_of q c - 1) 0 h

  -- how many have passed the oldest: one more, or none yet
  pub dequeue-passed : c < length q.passed → passed_of (dequeue q c m) c ≡ passed_after m (passed_of q c)
  unfolding passed_of dequeue
  dequeue-passed h = get_or-set_same q.passed c (passed_after m (passed_of q c)) 0 h

  pub dequeue-else-passed : (d : ℕ) → d ≢ c → passed_of (dequeue q c m) d ≡ passed_of q d
  unfolding passed_of dequeue
  dequeue-else-passed d h = get_or-set_other q.passed c d (passed_after m (passed_of q c)) 0 h

  -- where a request is stored from then on
  moved : c < length q.heads → (k : ℕ) → waiting_at (dequeue q c m) c k ≡ get_or (closed_up q.slots c (head_of q c) m) (place c (head_of q c) (suc k)) 0
  unfolding waiting_at dequeue
  moved h k =
      let next : k + 1 ≡ suc k = omega arith in
      ap (λ (x : ℕ). get_or (closed_up q.slots c (head_of q c) m) (place c x k) 0) (dequeue-head h)
      ∙ ap (λ (x : ℕ). get_or (closed_up q.slots c (head_of q c) m) x 0) (place-next c (head_of q c) k ∙ ap (place c (head_of q c)) next)

  -- those before it stay in their places, counted from the oldest
  pub dequeue-before : c < 16 → length q.slots ≡ 128 → c < length q.heads → (k : ℕ) → k < m → m < 8 → waiting_at (dequeue q c m) c k ≡ waiting_at q c k
  unfolding waiting_at
  dequeue-before few long h k before small = moved h k ∙ closed-before c (head_of q c) m q.slots k few long before small

  -- those after it move up by one
  pub dequeue-after : c < length q.heads → (k : ℕ) → m ≤ k → suc k < 8 → waiting_at (dequeue q c m) c k ≡ waiting_at q c (suc k)
  unfolding waiting_at
  dequeue-after h k after small = moved h k ∙ closed-past c (head_of q c) m q.slots (suc k) (suc-le-suc after) small

  -- those of other classes stay
  pub dequeue-apart : (d k : ℕ) → d ≢ c → waiting_at (dequeue q c m) d k ≡ waiting_at q d k
  unfolding waiting_at dequeue
  dequeue-apart d k h =
      ap (λ (x : ℕ). get_or (closed_up q.slots c (head_of q c) m) (place d x k) 0) (dequeue-else-head d h)
      ∙ closed-apart c (head_of q c) m q.slots d (head_of q d) k h

-- ---- the whole queue, oldest first

list_of-more : (g : ℕ → ℕ) (n : ℕ) → list_of (suc n) g ≡ list_of n g ++ (g n ∷ [])
unfolding list_of
list_of-more g zero = refl
list_of-more g (suc n) = ap (λ (l : List ℕ). g zero ∷ l) (list_of-more (λ i. g (suc i)) n)

-- a list without its k-th
list_of-without : (g h : ℕ → ℕ) (k n : ℕ) → k ≤ n → ((i : ℕ) → i < k → h i ≡ g i) → ((i : ℕ) → k ≤ i → i < n → h i ≡ g (suc i)) → list_of n h ≡ take k (list_of (suc n) g) ++ drop (suc k) (list_of (suc n) g)
unfolding list_of
list_of-without g h zero n within before after = list_of-same h (λ i. g (suc i)) n (λ i l. after i zero-le l)
list_of-without g h (suc k) zero within before after = absurd (not-suc-le-zero within)
list_of-without g h (suc k) (suc n) within before after =
    ap₂ ◌∷◌ (before zero (suc-le-suc zero-le))
    (list_of-without (λ i. g (suc i)) (λ i. h (suc i)) k n (le_of_suc-le-suc within) (λ i l. before (suc i) (suc-le-suc l)) (λ i l m. after (suc i) (suc-le-suc l) (suc-le-suc m)))

module _ (q : Queues) (c : ℕ) (small : c < 16) (slots_long : length q.slots ≡ 128) (heads_long : length q.heads ≡ 16) (lengths_long : length q.lengths ≡ 16) where
  in-lengths : c < length q.lengths
  in-lengths = subst (λ (k : ℕ). c < k) (sym lengths_long) small

  in-heads : c < length q.heads
  in-heads = subst (λ (k : ℕ). c < k) (sym heads_long) small

  pub enqueue-end : (w : ℕ) → length_of q c < 8 → waiting (enqueue q c w) c ≡ waiting q c ++ (w ∷ [])
  unfolding waiting
  enqueue-end w room =
      let more : length_of (enqueue q c w) c ≡ suc (length_of q c) = enqueue-longer q c w in-lengths ∙ omega arith in
      ap (λ (n : ℕ). list_of n (waiting_at (enqueue q c w) c)) more
      ∙ list_of-more (waiting_at (enqueue q c w) c) (length_of q c)
      ∙ ap₂ (λ (l : List ℕ) (x : ℕ). l ++ (x ∷ []))
      (list_of-same (waiting_at (enqueue q c w) c) (waiting_at q c) (length_of q c) (λ i l. enqueue-before q c w i l room))
      (enqueue-last q c w small slots_long)

  -- W-203: "The rest of the queue closes up in its order."
  pub dequeue-closes : (k : ℕ) → k < length_of q c → length_of q c ≤ 8 → waiting (dequeue q c k) c ≡ take k (waiting q c) ++ drop (k + 1) (waiting q c)
  unfolding waiting
  dequeue-closes k waits short =
      let less = dequeue-shorter q c k in-lengths in
      let n = length_of (dequeue q c k) c in
      let whole : suc n ≡ length_of q c = omega (arith, less, waits) in
      let next : suc k ≡ k + 1 = omega arith in
      list_of-without (waiting_at q c) (waiting_at (dequeue q c k) c) k n (omega (arith, less, waits))
      (λ i l. dequeue-before q c k small slots_long in-heads i l (omega (arith, waits, short)))
      (λ i l m. dequeue-after q c k in-heads i l (omega (arith, m, whole, short)))
      ∙ ap₂ (λ (i j : ℕ). take k (list_of i (waiting_at q c)) ++ drop j (list_of i (waiting_at q c))) whole next

-- other classes' queues stay as they are
module _ (q : Queues) (c d : ℕ) (apart : d ≢ c) where
  pub enqueue_beside : (w : ℕ) → waiting (enqueue q c w) d ≡ waiting q d
  unfolding waiting
  enqueue_beside w =
      ap (λ (n : ℕ). list_of n (waiting_at (enqueue q c w) d)) (enqueue-else q c w d apart)
      ∙ list_of-same (waiting_at (enqueue q c w) d) (waiting_at q d) (length_of q d) (λ i l. enqueue-apart q c w d i apart)

  pub dequeue_beside : (k : ℕ) → waiting (dequeue q c k) d ≡ waiting q d
  unfolding waiting
  dequeue_beside k =
      ap (λ (n : ℕ). list_of n (waiting_at (dequeue q c k) d)) (dequeue-else q c k d apart)
      ∙ list_of-same (waiting_at (dequeue q c k) d) (waiting_at q d) (length_of q d) (λ i l. dequeue-apart q c k d i apart)
