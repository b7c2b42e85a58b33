-- An offer of a low class does the same in two runs that agree on the low classes, and one of a high class changes nothing that they see.
-- Assumes nothing.
use mathlib.Core.Path.{◌≡◌, sym, ap, ◌∙◌, subst}
use mathlib.Core.Logic.{⊎_elim}
use mathlib.Core.Bool.{Bool, true, false, cond}
use mathlib.Core.List.{List, [], ◌∷◌, ◌++◌}
use Prim.Native.Nat.{ℕ}
use lib.Dec.{ltb, eqb}
use lib.ListN.{length, get_or}
use Rattle.order.specs.Laws.{SmallClasses}
use Rattle.basics.proofs.Truth.{either, not-both, on-true, on-false}
use Rattle.basics.proofs.Below.{length-list_of}
use Rattle.basics.proofs.Stores.{same-or-other}
use Rattle.requests.specs.Word.{word_of, class_fits, bank_kind_rank_fit}
use Rattle.queues.specs.Waiting.{length_of, waiting_at, waiting}
use Rattle.rules.specs.Queue.{enqueue, offer_status, queues_after}
use Rattle.requests.specs.declared.Request.{Request}
use Rattle.queues.specs.declared.Queues.{Queues}
use Rattle.rules.proofs.Queue.{enqueue-passed, enqueue-end, enqueue_beside}
use Rattle.rules.proofs.Range.{QueuesRange}
use Rattle.rules.proofs.CallsKept.{taken, below-sixteen, room}
use Rattle.noninterference.proofs.Low.{QueuesAgree, queue-self}

-- how many wait, from who waits
pub same_length : (q r : Queues) (c : ℕ) → waiting q c ≡ waiting r c → length_of q c ≡ length_of r c
unfolding waiting
same_length q r c e = sym (length-list_of (waiting_at q c) (length_of q c)) ∙ ap length e ∙ length-list_of (waiting_at r c) (length_of r c)

module _ (n ranks : ℕ) (few : SmallClasses n) (low : ℕ → Bool) where
  -- the same status
  pub same-status : (q r : Queues) (o : Request) → QueuesAgree low q r → low o.class ≡ true → offer_status n ranks q.lengths o ≡ offer_status n ranks r.lengths o
  unfolding offer_status length_of
  same-status q r o h i = ap (λ (k : ℕ). cond (class_fits n o) (cond (bank_kind_rank_fit ranks o) (cond (ltb k 8) 0 11) 10) 9) (same_length q r o.class (h o.class i).requests)

  -- a low offer keeps two runs' queues in agreement
  pub offer-agrees : (q r : Queues) (o : Request) → QueuesRange n ranks q → QueuesRange n ranks r → QueuesAgree low q r → low o.class ≡ true → QueuesAgree low (queues_after n ranks q o) (queues_after n ranks r o)
  unfolding queues_after offer_status
  offer-agrees q r o range-q range-r h i =
      let same = same-status q r o h i in
      let goes-q = eqb (offer_status n ranks q.lengths o) 0 in
      let goes-r = eqb (offer_status n ranks r.lengths o) 0 in
      let c = o.class in
      let w = word_of o in
      ⊎_elim
      (λ e.
      let e-r = ap (λ (k : ℕ). eqb k 0) (sym same) ∙ e in
      let fits-q = taken (class_fits n o) (bank_kind_rank_fit ranks o) (ltb (get_or q.lengths c 0) 8) e in
      let fits-r = taken (class_fits n o) (bank_kind_rank_fit ranks o) (ltb (get_or r.lengths c 0) 8) e-r in
      let small = below-sixteen n o few fits-q.0 in
      subst (λ (x : Queues). QueuesAgree low x (queues_after n ranks r o)) (sym (on-true goes-q (enqueue q c w) q e))
      (subst (QueuesAgree low (enqueue q c w)) (sym (on-true goes-r (enqueue r c w) r e-r))
      (λ d j.
      record {
        requests =
            same-or-other (λ k. waiting (enqueue q c w) k ≡ waiting (enqueue r c w) k) c d
            (enqueue-end q c small range-q.slots_long range-q.heads_long range-q.lengths_long w (room q c fits-q.2)
            ∙ ap (λ (l : List ℕ). l ++ (w ∷ [])) (h c i).requests
            ∙ sym (enqueue-end r c small range-r.slots_long range-r.heads_long range-r.lengths_long w (room r c fits-r.2)))
            (λ apart. enqueue_beside q c d apart w ∙ (h d j).requests ∙ sym (enqueue_beside r c d apart w));
        passed = enqueue-passed q c w d ∙ (h d j).passed ∙ sym (enqueue-passed r c w d);
      })))
      (λ e.
      let e-r = ap (λ (k : ℕ). eqb k 0) (sym same) ∙ e in
      subst (λ (x : Queues). QueuesAgree low x (queues_after n ranks r o)) (sym (on-false goes-q (enqueue q c w) q e))
      (subst (QueuesAgree low q) (sym (on-false goes-r (enqueue r c w) r e-r)) h))
      (either goes-q)

  -- a high offer is not seen
  pub offer-unseen : (q : Queues) (o : Request) → low o.class ≡ false → QueuesAgree low (queues_after n ranks q o) q
  unfolding queues_after
  offer-unseen q o high =
      let goes = eqb (offer_status n ranks q.lengths o) 0 in
      ⊎_elim
      (λ e.
      subst (λ (x : Queues). QueuesAgree low x q) (sym (on-true goes (enqueue q o.class (word_of o)) q e))
      (λ d j.
      record { requests = enqueue_beside q o.class d (λ t. not-both j (ap low t ∙ high)) (word_of o); passed = enqueue-passed q o.class (word_of o) d }))
      (λ e. subst (λ (x : Queues). QueuesAgree low x q) (sym (on-false goes (enqueue q o.class (word_of o)) q e)) (λ d j. queue-self q d))
      (either goes)
