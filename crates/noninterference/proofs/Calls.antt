-- Single calls in two runs: the same call keeps two states alike and shows the same of its log line, and an offer of a high class in one of them keeps them alike too.
-- Assumes nothing.
use mathlib.Core.Path.{◌≡◌, sym, ap, ap₂, ◌∙◌, subst}
use mathlib.Core.Logic.{⊎_elim}
use mathlib.Core.Bool.{Bool, true, false}
use mathlib.Core.List.{List, [], ◌∷◌}
use Prim.Native.Nat.{ℕ}
use lib.Dec.{ltb}
use Rattle.order.specs.Laws.{SmallClasses}
use Rattle.policy.specs.Policy.{is_class}
use Rattle.policy.specs.Policy.{in_range as policy_in_range}
use Rattle.policy.specs.declared.Policy.{Policy}
use Rattle.basics.proofs.Truth.{either}
use Rattle.policy.proofs.Laws.{policy-laws}
use Rattle.requests.specs.Word.{command_number}
use Rattle.rules.specs.Queue.{offer_status, queues_after}
use Rattle.requests.specs.Sizes.{last_cycle}
use Rattle.rules.specs.Call.{offer_on, offer, silent, after_tick, tick}
use Rattle.rules.specs.History.{Held}
use Rattle.requests.specs.declared.Request.{Request}
use Rattle.state.specs.declared.State.{State}
use Rattle.state.specs.declared.Offered.{Offered}
use Rattle.state.specs.declared.Ticked.{Ticked}
use Rattle.requests.specs.declared.Call.TheVariants.{Tick}
use Rattle.rules.proofs.Call.{offer-is, tick_is, tick-late}
use Rattle.rules.proofs.Range.{ranged}
use Rattle.extract.specs.Extract.{hide_word, hide_turn, line_seen}
use Rattle.noninterference.proofs.Low.{Downward, QueuesAgree, queue-through}
use Rattle.noninterference.proofs.Alike.{Alike}
use Rattle.noninterference.proofs.Offers.{same-status, offer-agrees, offer-unseen}
use Rattle.noninterference.proofs.Ticks.{tick-alike, tick-command, tick-response, tick-turn}

module _ (p : Policy) (given : policy_in_range p ≡ true) (low : ℕ → Bool) (closed : Downward p low) where
  few : SmallClasses p.classes
  unfolding is_class
  few = (policy-laws p given).order.class_small

  module _ (s r : State) (h : Held p s) (g : Held p r) (alike : Alike p low s r) where
    count-s : p.classes ≡ s.classes
    count-s = sym (ranged p s h.ranges).same_count

    count-r : p.classes ≡ r.classes
    count-r = sym (ranged p r g.ranges).same_count

    -- ---- an offer of a low class in both

    pub both-offer : (o : Request) → low o.class ≡ true → Alike p low (offer p s o).state (offer p r o).state
    unfolding offer_on
    both-offer o i =
        subst (λ (x : Offered). Alike p low x.state (offer p r o).state) (sym (offer-is p s h.ranges o))
        (subst (λ (x : Offered). Alike p low (offer_on p.timing.ranks s o).state x.state) (sym (offer-is p r g.ranges o))
        (record {
          cycles = alike.cycles;
          queues =
              subst (λ (n : ℕ). QueuesAgree low (queues_after n p.timing.ranks s.queues o) (queues_after r.classes p.timing.ranks r.queues o)) count-s
              (subst (λ (n : ℕ). QueuesAgree low (queues_after p.classes p.timing.ranks s.queues o) (queues_after n p.timing.ranks r.queues o)) count-r
              (offer-agrees p.classes p.timing.ranks few low s.queues r.queues o (ranged p s h.ranges).queues (ranged p r g.ranges).queues alike.queues i));
          turns = alike.turns;
          columns = alike.columns;
          responses = alike.responses;
          lasts = alike.lasts;
        }))

    -- ---- an offer of a high class in the first

    pub one-offer : (o : Request) → low o.class ≡ false → Alike p low (offer p s o).state r
    unfolding offer_on
    one-offer o high =
        subst (λ (x : Offered). Alike p low x.state r) (sym (offer-is p s h.ranges o))
        (record {
          cycles = alike.cycles;
          queues = λ c i. queue-through (offer-unseen s.classes p.timing.ranks (subst SmallClasses count-s few) low s.queues o high c i) (alike.queues c i);
          turns = alike.turns;
          columns = alike.columns;
          responses = alike.responses;
          lasts = alike.lasts;
        })

    -- ---- a tick in both, refused or not

    pub both-tick : Alike p low (tick p s).state (tick p r).state
    both-tick =
        let same-limit : ltb s.cycle last_cycle ≡ ltb r.cycle last_cycle = ap (λ (k : ℕ). ltb k last_cycle) alike.cycles in
        ⊎_elim
        (λ e.
        subst (λ (x : Ticked). Alike p low x.state (tick p r).state) (sym (tick_is p s h.ranges e))
        (subst (λ (x : Ticked). Alike p low (after_tick p s).state x.state) (sym (tick_is p r g.ranges (sym same-limit ∙ e))) (tick-alike p given low closed s r h g alike)))
        (λ e.
        subst (λ (x : Ticked). Alike p low x.state (tick p r).state) (sym (tick-late p s h.ranges e))
        (subst (λ (x : Ticked). Alike p low s x.state) (sym (tick-late p r g.ranges (sym same-limit ∙ e))) alike))
        (either (ltb s.cycle last_cycle))

    -- ---- what is seen of their log lines

    pub offer-line : (o : Request) → low o.class ≡ true → (offer p s o).status ≡ (offer p r o).status
    unfolding offer_on
    offer-line o i =
        ap (λ (x : Offered). x.status) (offer-is p s h.ranges o)
        ∙ ap (λ (n : ℕ). offer_status n p.timing.ranks s.queues.lengths o) (sym count-s)
        ∙ same-status p.classes p.timing.ranks few low s.queues r.queues o alike.queues i
        ∙ ap (λ (n : ℕ). offer_status n p.timing.ranks r.queues.lengths o) count-r
        ∙ sym (ap (λ (x : Offered). x.status) (offer-is p r g.ranges o))

    -- a tick's line as it is seen
    abbrev line : Ticked → List ℕ
    line x = line_seen low Tick x.status (command_number x.shown.wires) x.shown.response x.shown.turn

    pub tick-line : line (tick p s) ≡ line (tick p r)
    unfolding line_seen after_tick silent
    tick-line =
        let same-limit : ltb s.cycle last_cycle ≡ ltb r.cycle last_cycle = ap (λ (k : ℕ). ltb k last_cycle) alike.cycles in
        ⊎_elim
        (λ e.
        let command = tick-command p given low closed s r h g alike in
        let response = tick-response p given low closed s r h g alike in
        let turn = tick-turn p given low closed s r h g alike in
        ap line (tick_is p s h.ranges e)
        ∙ ap₂ (λ (c a : ℕ). 0 ∷ c ∷ a ∷ hide_turn low (after_tick p s).shown.turn ∷ []) command response
        ∙ ap (λ (k : ℕ). 0 ∷ hide_word low (command_number (after_tick p r).shown.wires) ∷ hide_word low (after_tick p r).shown.response ∷ k ∷ []) turn
        ∙ sym (ap line (tick_is p r g.ranges (sym same-limit ∙ e))))
        (λ e. ap line (tick-late p s h.ranges e) ∙ sym (ap line (tick-late p r g.ranges (sym same-limit ∙ e))))
        (either (ltb s.cycle last_cycle))
