-- The second step of a tick at a high owner: the low classes see nothing but that a column command of theirs goes out when it is due.
-- Assumes nothing.
use mathlib.Core.Path.{◌≡◌, refl, sym, ap, ◌∙◌}
use mathlib.Core.Logic.{◌≢◌, ⊎_elim}
use mathlib.Core.Bool.{Bool, true, false, cond}
use mathlib.Core.List.{List}
use Prim.Native.Nat.{ℕ, ◌+◌, ◌%◌, ◌<◌}
use native.Mathlib.Nat.{lt_irrefl}
use native.Mathlib.Omega.{arith}
use lib.Dec.{eqb}
use lib.ListN.{length, set}
use Rattle.basics.proofs.Truth.{either, not-both, on-either}
use Rattle.requests.specs.Word.{class_of, column_number, command_number}
use Rattle.flight.specs.Flight.{due_at, sent_at}
use Rattle.rules.specs.Wire.{activated}
use Rattle.rules.specs.Step.{Bus, due_column, goes_at, going, can_activate, drive}
use Rattle.rules.specs.History.{Each}
use Rattle.requests.proofs.Word.{column-class}
use Rattle.rules.proofs.Range.{right-class, Fits, BusRange, goes-waits, going-right, request-shown, column-shown}
use Rattle.rules.proofs.PendingWords.{inside}
use Rattle.rules.proofs.Step.{outcome}
use Rattle.rules.proofs.Queue.{dequeue-else-passed, dequeue_beside}
use Rattle.extract.specs.Extract.{hide_word}
use Rattle.noninterference.proofs.Low.{QueuesAgree, queue-self, PendingAgree}
use Rattle.noninterference.proofs.Flights.{stored-unseen}

-- ---- hidden words

pub hidden-none : (low : ℕ → Bool) → hide_word low 0 ≡ 0
unfolding hide_word
hidden-none low = on-either (low (class_of 0)) 0

pub hidden-high : (low : ℕ → Bool) (w : ℕ) → low (class_of w) ≡ false → hide_word low w ≡ 0
unfolding hide_word
hidden-high low w e = ap (λ (b : Bool). cond b w 0) e

pub hidden-low : (low : ℕ → Bool) (w : ℕ) → low (class_of w) ≡ true → hide_word low w ≡ w
unfolding hide_word
hidden-low low w e = ap (λ (b : Bool). cond b w 0) e

-- ---- commands

-- a column command's number, of what is seen of its word
abbrev pub column_shown : ℕ → ℕ
column_shown w = cond (eqb w 0) 0 (column_number w)

-- bit 30 does not change a word's class, so a column command is hidden with its word
column-hidden : (low : ℕ → Bool) (w : ℕ) → eqb w 0 ≡ false → hide_word low (column_number w) ≡ column_shown (hide_word low w)
unfolding hide_word
column-hidden low w some =
    let k = column_number w in
    ap (λ (c : ℕ). cond (low c) k 0) (column-class w)
    ∙ ⊎_elim
    (λ i. ap (λ (b : Bool). cond b k 0) i ∙ sym (ap (λ (b : Bool). column_shown (cond b w 0)) i ∙ ap (λ (b : Bool). cond b 0 k) some))
    (λ high. ap (λ (b : Bool). cond b k 0) high ∙ sym (ap (λ (b : Bool). column_shown (cond b w 0)) high))
    (either (low (class_of w)))

-- nothing is due any more where its delay has passed
pub slot-free : (n ranks t delay : ℕ) (pending : List ℕ) → delay < 32 → Each (Fits n ranks delay) t pending → due_at pending (t + delay) ≡ 0
slot-free n ranks t delay pending small h = ⊎_elim (λ z. z) (λ f. absurd (lt_irrefl delay f.0)) (h delay small)

module _ (low : ℕ → Bool) (n : ℕ) (b : Bus) (range : BusRange n b) (high : low b.owner ≡ false) where
  abbrev t : ℕ
  t = b.cycle

  going-hidden : can_activate b ≡ true → hide_word low (going b) ≡ 0
  going-hidden e = hidden-high low (going b) (ap low (right-class n b.timing.ranks b.owner (going b) (going-right n b range (goes-waits n b range e))) ∙ high)

  pub quiet-queues : QueuesAgree low (drive b).queues b.queues
  quiet-queues =
      outcome b (λ d. QueuesAgree low d.queues b.queues) (λ due c i. queue-self b.queues c)
      (λ due e c i.
      let apart : c ≢ b.owner = λ s. not-both i (ap low s ∙ high) in
      record { requests = dequeue_beside b.queues b.owner c apart (goes_at b); passed = dequeue-else-passed b.queues b.owner (goes_at b) c apart })
      (λ due stays c i. queue-self b.queues c)

  -- a high word that is stored is not seen
  unseen : (pending : List ℕ) (delay : ℕ) → length pending ≡ 32 → delay < 32 → Each (Fits n b.timing.ranks delay) t pending → can_activate b ≡ true → PendingAgree low (set pending ((t + delay) % 32) (going b)) pending
  unfolding due_at
  unseen pending delay long under h e =
      stored-unseen low pending ((t + delay) % 32) (going b) (inside pending long (t + delay)) (going-hidden e ∙ sym (ap (hide_word low) (slot-free n b.timing.ranks t delay pending under h) ∙ hidden-none low))

  -- where nothing is due, sending what is due changes nothing
  none-sent : (pending : List ℕ) → length pending ≡ 32 → due_at pending t ≡ 0 → PendingAgree low (sent_at pending t) pending
  unfolding due_at sent_at
  none-sent pending long none = stored-unseen low pending (t % 32) 0 (inside pending long t) (ap (hide_word low) (sym none))

  pub quiet-columns : PendingAgree low (drive b).flight.columns (sent_at b.flight.columns t)
  unfolding activated
  quiet-columns =
      let columns = b.flight.columns in
      let laws = range.timed in
      let long = range.flight.columns_long in
      outcome b (λ d. PendingAgree low d.flight.columns (sent_at columns t)) (λ due i. refl)
      (λ due e i. unseen columns b.timing.column long (omega (arith, laws.column_bounds.1, laws.response_bounds.1, laws.dead_bounds.1)) range.flight.columns_due e i ∙ sym (none-sent columns long due i))
      (λ due stays i. sym (none-sent columns long due i))

  pub quiet-responses : PendingAgree low (drive b).flight.responses b.flight.responses
  unfolding activated
  quiet-responses =
      let responses = b.flight.responses in
      let laws = range.timed in
      outcome b (λ d. PendingAgree low d.flight.responses responses) (λ due i. refl)
      (λ due e i. unseen responses b.timing.response range.flight.responses_long (omega (arith, laws.response_bounds.1, laws.dead_bounds.1)) range.flight.responses_due e i)
      (λ due stays i. refl)

  -- what is seen of the wires is the due column command
  pub quiet-command : hide_word low (command_number (drive b).wires) ≡ column_shown (hide_word low (due_column b))
  unfolding command_number
  quiet-command =
      let due = due_column b in
      let nothing : (due ≡ 0) → 0 ≡ column_shown (hide_word low due) = λ none. sym (ap column_shown (ap (hide_word low) none ∙ hidden-none low)) in
      outcome b (λ d. hide_word low (command_number d.wires) ≡ column_shown (hide_word low due))
      (λ some. ap (hide_word low) (column-shown n b range some) ∙ column-hidden low due some)
      (λ none goes. ap (hide_word low) (request-shown n b range goes) ∙ going-hidden goes ∙ nothing none)
      (λ none stays. hidden-none low ∙ nothing none)
