-- The worked turns: the table is computed from the definitions, and (a) and (e) are shown for every policy. The logs, and the states at a list's ticks, are computed without the test of the range at each call,
-- which every state reached from fresh passes.
-- Assumes nothing.
use mathlib.Core.Path.{◌≡◌, refl, sym, ap, ap₂, ◌∙◌, subst}
use mathlib.Core.Logic.{◌↔◌, ⊎_elim}
use mathlib.Core.Bool.{Bool, true, false, not, ◌&&◌}
use mathlib.Core.List.{List, [], ◌∷◌, ◌++◌, map}
use Prim.Native.Nat.{ℕ, ◌+◌, ◌*◌, ◌%◌, ◌≤◌}
use native.Mathlib.Nat.{not-suc-le-zero, le_of_lt}
use native.Mathlib.Omega.{arith}
use borrow.Author.Tests.{eqb-false, eq-eqb, ne_eqb, ltb-true, lt-ltb}
use lib.Dec.{ltb, eqb}
use lib.ListN.{length, get_or, drop}
use Rattle.basics.specs.Below.{every, some, first, count, sum, set_of, list_of}
use Rattle.masks.specs.Mask.{member, includes, size, nth, class_mask, below_mask}
use Rattle.order.specs.Order.{is_class_in, flows_in, strictly_in, row_fits, rows_fit, antisymmetric_at, antisymmetric, transitive_at, transitive, has_least, least_at, least_in, above_some, between_in, covers_in, cover_set, risen_to, longest_in}
use Rattle.turns.specs.Turns.{minimums_sum, turns_sound, minimums_above, cap_in, free_turns, home_turn_in, home_place, minimums_below, home_at}
use Rattle.timing.specs.Timing.{within, gaps_within, bank_within, rank_within, timing_sound}
use Rattle.policy.specs.Policy.{made, is_class, flows, least, above, covers_of, cap, walk_bound, home_turn, home_class, first_failing, policy_tests, refusal, stored_fits, all_stored_fits, shaped, in_range, minimum}
use Rattle.file.specs.File.{byte, word, kind, start, body_size, kinds_fit, bodies_abut, contents_fit, class_count, lengths_fit, row_at, epoch_of, minimum_at, ranks_of, rank_gap_of, timing_of, held, no_policy, file_tests, status, refused_with, read_file}
use Rattle.file.specs.Taken.{policy_of}
use Rattle.policy.specs.declared.Policy.{Policy}
use Rattle.file.specs.declared.Reading.{Reading}
use Rattle.basics.proofs.Truth.{either, not-true, not-false, and_left, and_right, and_both, on-true, on-false}
use Rattle.basics.proofs.Below.{count_same}
use Rattle.policy.proofs.Laws.{policy-laws}
use Rattle.requests.specs.Word.{class_of, rank_of, kind_of, bank_of, tag_of, bank_place, is_offer, request_of, bank_in_word, word_of, class_fits, bank_kind_rank_fit, column_number, command_number}
use Rattle.queues.specs.Waiting.{head_of, length_of, passed_of, place, waiting_at}
use Rattle.flight.specs.Flight.{due_at, activate_at, activate_next, activate_rank, activate_kind, sent_at}
use Rattle.rules.specs.Queue.{enqueue, closed_up, passed_after, dequeue, offer_status, queues_after}
use Rattle.rules.specs.Traversal.{first_class, candidates, moved, moved_pointer, passed_at, named, takes_by, takes, ends_at, try_class, charge, takes_home, left_tried, charged}
use Rattle.rules.specs.Lookahead.{goes_on, reaches, ahead_of, next_left, elides}
use Rattle.rules.specs.Wire.{opens_at, gap_met, rank_opens, rank_gap_met, gaps_met_by, gaps_met, offset_allows, activated}
use Rattle.rules.specs.Step.{turn_starts, turn_number, left_at_start, owned_by, start_turn, turns_at, turn_word, may_go, goes_at, going, can_activate, drive, answered}
use Rattle.state.specs.Fresh.{zeros, empty_queues, nothing_in_flight, state_at_start, fresh_state}
use Rattle.state.specs.Range.{in_range as state_range}
use Rattle.rules.specs.Call.{offer_on, silent, after_tick, tick_on, tick}
use Rattle.requests.specs.Trace.{call_of}
use Rattle.rules.specs.Calls.{Answer, ticked, offered, answer, answer_to, state_after, log_of}
use Rattle.rules.specs.Overtaking.{commands_in}
use Rattle.rules.specs.Guarantees.{ticks_in, state_at_tick, at_tick, first_tick, Started, Waits, owns, owned_in}
use Rattle.worked.specs.Worked.{timed, example, alone, pair, fork, spare, chain, long_chain, full, alone_at_home, chain_at_home, fork_filled, filled_above, least_is_one, busy_bank, slow_writes, four_ranks, ticks, reads, every_second, each_turn, refilled, behind_reads, log_from, turns_in, turns_from, commands_from, passed_from, waits_at, epoch_of_least, two_epochs, start_of, bounds_of, printed, printed_ranked, Case, table, WorkedTurns}
use Rattle.state.specs.declared.State.{State}
use Rattle.requests.specs.declared.Call.{Call}
use Rattle.requests.specs.declared.Call.TheVariants.{Tick, Offer, Malformed}
use Rattle.rules.proofs.Traversal.{idle-top, traverse, falls, climbs, first-class, ascends}
use Rattle.rules.proofs.Lookahead.{elides-home, elides-other, reach_here}
use Rattle.rules.proofs.Call.{offer-is}
use Rattle.rules.proofs.CallsKept.{fresh-fits}
use Rattle.rules.proofs.Calls.{answered-in-range}

-- ---- the definitions that are computed with: to unfold one of these is to unfold all that its line names

policy-computed : Policy → Policy
unfolding timed example policy_of list_of every some set_of sum member includes below_mask is_class_in flows_in strictly_in between_in covers_in cover_set cap_in minimums_above
policy-computed p = p

refusal-computed : Policy → ℕ
unfolding policy-computed row_fits rows_fit antisymmetric_at antisymmetric transitive_at transitive has_least least_at minimums_sum minimums_below turns_sound within gaps_within bank_within rank_within timing_sound first_failing policy_tests refusal
refusal-computed p = refusal p

range-computed : Policy → Bool
unfolding refusal-computed covers_of cap is_class stored_fits minimum all_stored_fits shaped in_range
range-computed p = in_range p

file-computed : List ℕ → Reading
unfolding refusal-computed printed printed_ranked byte word kind start body_size kinds_fit bodies_abut contents_fit class_count lengths_fit row_at epoch_of minimum_at ranks_of rank_gap_of timing_of held made no_policy file_tests status refused_with read_file
file-computed file = read_file file

-- ---- logs, each call without the test of its range

plain : Policy → State → Call → Answer
plain p s Tick = ticked (tick_on p s)
plain p s (Offer r) = offered (offer_on p.timing.ranks s r)
plain p s Malformed = record { state = s; status = 14; command = 0; response = 0; turn = 0 }

plain-log : Policy → State → List ℕ → List ℕ
plain-log p s [] = []
plain-log p s (w ∷ ws) = (plain p s (call_of w)).status ∷ (plain p s (call_of w)).command ∷ (plain p s (call_of w)).response ∷ (plain p s (call_of w)).turn ∷ plain-log p (plain p s (call_of w)).state ws

plainly : (p : Policy) (s : State) (c : Call) → state_range p s ≡ true → answer p s c ≡ plain p s c
unfolding answer plain tick
plainly p s Tick e = ap ticked (on-true (state_range p s) (tick_on p s) (record { status = 13; state = s; shown = silent }) e)
plainly p s (Offer r) e = ap offered (offer-is p s e r)
plainly p s Malformed e = refl

plain-right : (p : Policy) (s : State) (ws : List ℕ) → state_range p s ≡ true → log_of p s ws ≡ plain-log p s ws
unfolding log_of answer_to plain-log
plain-right p s [] e = refl
plain-right p s (w ∷ ws) e =
    let a = answer p s (call_of w) in
    let rest = plain-right p a.state ws (answered-in-range p s w e) in
    ap (λ (l : List ℕ). a.status ∷ a.command ∷ a.response ∷ a.turn ∷ l) rest
    ∙ ap (λ (x : Answer). x.status ∷ x.command ∷ x.response ∷ x.turn ∷ plain-log p x.state ws) (plainly p s (call_of w) e)

-- the ticks of a list in the same way

plain-after : Policy → State → List ℕ → State
plain-after p s [] = s
plain-after p s (w ∷ ws) = plain-after p (plain p s (call_of w)).state ws

plain_at : Policy → State → List ℕ → ℕ → State
plain_at p s [] t = s
plain_at p s (w ∷ ws) t = elim (eqb w 0 && eqb s.cycle t) [ true ↦ s | false ↦ plain_at p (plain p s (call_of w)).state ws t ]

after-right : (p : Policy) (s : State) (ws : List ℕ) → state_range p s ≡ true → state_after p s ws ≡ plain-after p s ws
unfolding state_after answer_to plain-after
after-right p s [] e = refl
after-right p s (w ∷ ws) e =
    after-right p (answer p s (call_of w)).state ws (answered-in-range p s w e) ∙ ap (λ (x : Answer). plain-after p x.state ws) (plainly p s (call_of w) e)

-- the state at a tick is in range, too
at_right : (p : Policy) (s : State) (ws : List ℕ) (t : ℕ) → state_range p s ≡ true → (state_at_tick p s ws t ≡ plain_at p s ws t) × (state_range p (state_at_tick p s ws t) ≡ true)
unfolding state_at_tick answer_to plain_at
at_right p s [] t e = (refl, e)
at_right p s (w ∷ ws) t e =
    let now = eqb w 0 && eqb s.cycle t in
    ⊎_elim
    (λ here. (on-true now _ _ here ∙ sym (on-true now _ _ here), subst (λ (u : State). state_range p u ≡ true) (sym (on-true now _ _ here)) e))
    (λ later.
    let rest = at_right p (answer p s (call_of w)).state ws t (answered-in-range p s w e) in
    (on-false now _ _ later ∙ rest.0 ∙ ap (λ (x : Answer). plain_at p x.state ws t) (plainly p s (call_of w) e) ∙ sym (on-false now _ _ later), subst (λ (u : State). state_range p u ≡ true) (sym (on-false now _ _ later)) rest.1))
    (either now)

log-computed : Policy → List ℕ → List ℕ
unfolding policy-computed plain plain-log ticks reads call_of is_offer request_of word_of bank_in_word class_of rank_of kind_of bank_of tag_of bank_place column_number command_number class_fits bank_kind_rank_fit offer_on offer_status queues_after enqueue dequeue head_of length_of place waiting_at passed_of closed_up passed_after fresh_state state_at_start empty_queues nothing_in_flight zeros silent after_tick tick_on turns_at turn_starts turn_number turn_word may_go goes_at going can_activate drive answered due_at sent_at activate_at activate_next activate_rank activate_kind opens_at gap_met rank_opens rank_gap_met gaps_met_by gaps_met offset_allows activated first count size nth moved moved_pointer named takes_by takes passed_at ends_at try_class charge goes_on reaches next_left first_class elides left_at_start owned_by start_turn least least_in flows_in least_at every member free_turns home_turn_in home_place minimums_below home_at minimums_sum home_turn home_class flows takes_home left_tried charged
log-computed p ws = plain-log p (fresh_state p) ws

-- every state reached from the fresh one of a policy in range is in range
from_fresh : (p : Policy) → in_range p ≡ true → (ws : List ℕ) → log_from p ws ≡ log-computed p ws
unfolding log_from log-computed
from_fresh p given ws = plain-right p (fresh_state p) ws (fresh-fits p given)

-- W-209's numbers in the same way
plain-there : Policy → List ℕ → ℕ → State
plain-there p ws k = plain_at p (fresh_state p) ws (first_tick p k)

owned-computed : Policy → List ℕ → ℕ → List ℕ
unfolding log-computed plain-after plain_at plain-there cap
owned-computed p ws e =
    let made = (plain-after p (fresh_state p) ws).cycle in
    count p.epoch (λ j. ltb (first_tick p (e * p.epoch + j)) made && not (eqb (length_of (plain-there p ws (e * p.epoch + j)).queues (least p)) 0))
    ∷ count p.epoch (λ j. ltb (first_tick p (e * p.epoch + j)) made && eqb ((plain p (plain-there p ws (e * p.epoch + j)) Tick).turn % 256) (least p + 1))
    ∷ cap p (least p)
    ∷ []

epoch-of-least : (p : Policy) → in_range p ≡ true → (ws : List ℕ) (e : ℕ) → epoch_of_least p ws e ≡ owned-computed p ws e
unfolding epoch_of_least waits_at owned_in owns owned-computed plain-there answer_to call_of
epoch-of-least p given ws e =
    let fits = fresh-fits p given in
    let there : (k : ℕ) → (at_tick p ws (first_tick p k) ≡ plain-there p ws k) × (state_range p (at_tick p ws (first_tick p k)) ≡ true) = λ k. at_right p (fresh_state p) ws (first_tick p k) fits in
    let made : ticks_in p ws ≡ (plain-after p (fresh_state p) ws).cycle = ap (λ (s : State). s.cycle) (after-right p (fresh_state p) ws fits) in
    ap₂ (λ (waits owned : ℕ). waits ∷ owned ∷ cap p (least p) ∷ [])
    (count_same _ _ p.epoch
    (λ j l. ap₂ (λ (n : ℕ) (s : State). ltb (first_tick p (e * p.epoch + j)) n && not (eqb (length_of s.queues (least p)) 0)) made (there (e * p.epoch + j)).0))
    (count_same _ _ p.epoch
    (λ j l.
    let k = e * p.epoch + j in
    let shown : (answer_to p (at_tick p ws (first_tick p k)) 0).turn ≡ (plain p (plain-there p ws k) Tick).turn =
    ap (λ (a : Answer). a.turn) (plainly p (at_tick p ws (first_tick p k)) Tick (there k).1) ∙ ap (λ (s : State). (plain p s Tick).turn) (there k).0
    in
    ap₂ (λ (n shown : ℕ). ltb (first_tick p k) n && eqb (shown % 256) (least p + 1)) made shown))

turns-computed : Policy → List ℕ → List ℕ
unfolding log-computed turns_in
turns-computed p ws = turns_in (length ws) (log-computed p ws)

turns-from : (p : Policy) → in_range p ≡ true → (ws : List ℕ) → turns_from p ws ≡ turns-computed p ws
unfolding turns_from turns-computed
turns-from p given ws = ap (turns_in (length ws)) (from_fresh p given ws)

-- W-203's numbers in the same way
commands-computed : Policy → List ℕ → List ℕ
unfolding log-computed commands_in
commands-computed p ws = commands_in (length ws) (log-computed p ws)

commands-from : (p : Policy) → in_range p ≡ true → (ws : List ℕ) → commands_from p ws ≡ commands-computed p ws
unfolding commands_from commands-computed
commands-from p given ws = ap (commands_in (length ws)) (from_fresh p given ws)

passed-computed : Policy → List ℕ → ℕ
unfolding log-computed plain-after
passed-computed p ws = passed_of (plain-after p (fresh_state p) ws).queues 0

passed-from : (p : Policy) → in_range p ≡ true → (ws : List ℕ) → passed_from p ws ≡ passed-computed p ws
unfolding passed_from passed-computed
passed-from p given ws = ap (λ (s : State). passed_of s.queues 0) (after-right p (fresh_state p) ws (fresh-fits p given))

-- W-212's bounds
bounds-computed : Policy → List ℕ
unfolding policy-computed bounds_of walk_bound longest_in risen_to above_some class_mask first
bounds-computed p = bounds_of p

two-epochs : (p : Policy) → in_range p ≡ true → (ws : List ℕ) → two_epochs p ws ≡ turns-computed p ws ++ owned-computed p ws 0 ++ owned-computed p ws 1
unfolding two_epochs
two-epochs p given ws = ap₂ ◌++◌ (ap₂ ◌++◌ (turns-from p given ws) (epoch-of-least p given ws 0)) (epoch-of-least p given ws 1)

-- ---- the table

also : {xs ys : List ℕ} → {xss yss : List (List ℕ)} → xs ≡ ys → xss ≡ yss → xs ∷ xss ≡ ys ∷ yss
also e es = ap₂ (λ (l : List ℕ) (ls : List (List ℕ)). l ∷ ls) e es

-- each of its policies is in range; that is computed too, so its proof is `refl`
cases : map (λ (c : Case). c.yielded) table ≡ map (λ (c : Case). c.stated) table
unfolding table alone pair fork chain full alone_at_home chain_at_home fork_filled filled_above least_is_one long_chain busy_bank slow_writes four_ranks start_of bounds-computed turns-computed owned-computed commands-computed passed-computed file-computed range-computed each_turn refilled behind_reads
cases =
    also (turns-from alone refl (ticks 13))
    (also (turns-from pair refl (reads 3 0 ++ ticks 9))
    (also (turns-from fork refl (reads 3 0 ++ ticks 9))
    (also (turns-from chain refl (reads 3 0 ++ reads 3 1 ++ ticks 9))
    (also (turns-from fork refl (ticks 13))
    (also (from_fresh alone refl (reads 9 0 ++ ticks 1 ++ reads 1 0))
    (also refl
    (also (from_fresh (read_file (printed 0 2)).policy refl (0x80010007 ∷ 0 ∷ 0 ∷ 0 ∷ []))
    (also (turns-from full refl (reads 1 1 ++ ticks 17))
    (also refl
    (also refl
    (also refl
    (also refl
    (also (two-epochs alone_at_home refl (each_turn (reads 1 0) 6))
    (also (two-epochs chain_at_home refl (each_turn (reads 1 0 ++ reads 1 1 ++ reads 1 2) 10))
    (also (two-epochs chain_at_home refl (each_turn (reads 1 0) 10))
    (also (two-epochs fork_filled refl (each_turn (reads 1 0) 8))
    (also (two-epochs filled_above refl (each_turn (reads 1 0) 4))
    (also (two-epochs least_is_one refl (each_turn (reads 1 1) 8))
    (also (epoch-of-least chain_at_home refl (ticks 8 ++ reads 1 0 ++ ticks 12) 0)
    (also (commands-from busy_bank refl (0x80000001 ∷ 0x80000002 ∷ 0x80010003 ∷ 0x80120004 ∷ ticks 8))
    (also (ap (drop 53) (commands-from slow_writes refl (behind_reads 16 ++ ticks 8)))
    (also
    (ap₂ (λ (i j : ℕ). i ∷ j ∷ passed_from slow_writes (behind_reads 16 ++ ticks 6) ∷ passed_from slow_writes (behind_reads 16 ++ ticks 7) ∷ []) (passed-from slow_writes refl (behind_reads 15)) (passed-from slow_writes refl (behind_reads 16))
    ∙ ap₂ (λ (i j : ℕ). passed-computed slow_writes (behind_reads 15) ∷ passed-computed slow_writes (behind_reads 16) ∷ i ∷ j ∷ []) (passed-from slow_writes refl (behind_reads 16 ++ ticks 6)) (passed-from slow_writes refl (behind_reads 16 ++ ticks 7)))
    (also refl
    (also (from_fresh (read_file (printed_ranked 2)).policy refl (0x80010007 ∷ 0 ∷ 0 ∷ 0 ∷ []))
    (also (ap₂ ◌++◌ (from_fresh busy_bank refl (0x80400000 ∷ [])) (from_fresh four_ranks refl (0x80400000 ∷ 0x80C00000 ∷ [])))
    (also (commands-from four_ranks refl (0x80000001 ∷ 0x80400002 ∷ 0x80400003 ∷ ticks 11))
    (also (turns-from long_chain refl (reads 1 1 ++ ticks 5))
    (also refl
    (also refl
    refl)))))))))))))))))))))))))))))

-- what W-209's rows count is its premise
waiting : (p : Policy) (ws : List ℕ) (c k : ℕ) → (waits_at p ws c k ≡ true) ↔ (Started p ws k × Waits p ws k c)
unfolding waits_at
waiting p ws c k =
    let length = length_of (at_tick p ws (first_tick p k)).queues c in
    let begins = ltb (first_tick p k) (ticks_in p ws) in (
      λ t. (ltb-true (first_tick p k) (ticks_in p ws) (and_left begins (not (eqb length 0)) t), eqb-false length 0 (not-true (eqb length 0) (and_right begins (not (eqb length 0)) t))),
      λ both. and_both (lt-ltb (first_tick p k) (ticks_in p ws) both.0) (not-false (eqb length 0) (ne_eqb length 0 both.1)),
    )

-- ---- (a)

a : (p : Policy) → in_range p ≡ true → p.classes ≡ 1 → (k : ℕ) (lengths left pointers : List ℕ) → ((start_turn p k lengths left pointers).turns.owner ≡ 0) × ((start_turn p k lengths left pointers).turns.elided ≡ true)
unfolding start_turn owned_by is_class is_class_in
a p given one k lengths left pointers =
    let laws = policy-laws p given in
    let now = left_at_start p k left in
    let tried = left_tried p k now in
    let only : (c : ℕ) → is_class p c ≡ true → c ≡ 0 = λ c l. omega (arith, ltb-true c p.classes l, one) in
    let reached = try_class 16 (candidates p.covers lengths tried) pointers (first_class p k) in
    let owner_class = laws.order.to_class (first_class p k) reached.owner (ascends p given 16 lengths tried pointers (first_class p k) (first-class p given k)) in
    let owner = only reached.owner owner_class in
    let after = charged p k lengths now reached.owner in
    let drops : elides p k after reached.pointers reached.owner ≡ true =
    ⊎_elim
    (λ home.
    let same = owner ∙ sym (only (home_class p (k + 1)) (laws.homes.of-class (k + 1) home)) in
    elides-home p k after reached.pointers reached.owner home ∙ subst (λ (c : ℕ). flows p reached.owner c ≡ true) same (laws.order.reflexive reached.owner owner_class))
    (λ other.
    elides-other p k after reached.pointers reached.owner other
    ∙ reach_here (ahead_of p k after reached.pointers) reached.owner 16 (least p) (eq-eqb (least p) reached.owner (only (least p) laws.lowest.is-class ∙ sym owner)))
    (either (home_turn p (k + 1)))
    in
    (owner, drops)

-- ---- (e)

module _ (p : Policy) (given : in_range p ≡ true) (lengths left : List ℕ) (nobody : (c : ℕ) → get_or lengths c 0 ≡ 0) where
  idle-ends : (bound : ℕ) (pointers : List ℕ) (c : ℕ) → above p c ≤ bound → covers_of p (try_class bound (candidates p.covers lengths left) pointers c).owner ≡ 0
  unfolding ends_at above covers_of
  idle-ends =
      let all = candidates p.covers lengths left in
      let fewer = falls all p.rows (climbs p given) in
      traverse all (λ bound pointers c r. above p c ≤ bound → covers_of p r.owner ≡ 0)
      (λ pointers c h. ⊎_elim (idle-top all c (nobody c)) (λ t. absurd (not-suc-le-zero {n = 0} (omega (arith, fewer pointers c t, h)))) (either (takes all c)))
      (λ bound pointers c t h. idle-top all c (nobody c) t)
      (λ bound pointers c t next h. next (omega (arith, fewer pointers c t, h)))

e : (p : Policy) → in_range p ≡ true → (k : ℕ) (lengths left pointers : List ℕ) → ((c : ℕ) → get_or lengths c 0 ≡ 0) → covers_of p (start_turn p k lengths left pointers).turns.owner ≡ 0
unfolding start_turn owned_by
e p given k lengths left pointers nobody =
    idle-ends p given lengths (left_tried p k (left_at_start p k left)) nobody 16 pointers (first_class p k) (le_of_lt ((policy-laws p given).higher.few (first_class p k)))

pub worked-turns : WorkedTurns
unfolding spare turns-computed range-computed every_second
worked-turns = record { cases = cases; waiting = waiting; customer = turns-from spare refl (every_second 4); a = a; e = e }
