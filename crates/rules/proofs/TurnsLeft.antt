-- From fresh, turns left turn no class away. As a turn starts a class has at least as many turns left as turns of the epoch are still to come in which a traversal can come to it: at the epoch's start by the cap, and each of these turns takes
-- one at most. So the trial walk, which is made before turns that are no home turns alone, gets no further than the least class.
-- Assumes nothing.
use mathlib.Core.Path.{◌≡◌, sym, ap, ◌∙◌, subst, ap₂}
use mathlib.Core.Logic.{⊎_elim}
use mathlib.Core.Bool.{Bool, true, false, cond}
use mathlib.Core.List.{List}
use Prim.Native.Nat.{ℕ, zero, suc, ◌+◌, ◌*◌, ◌-◌, ◌/◌, ◌%◌, ◌≤◌, ◌<◌}
use native.Mathlib.Nat.{le_refl, not-suc-le-zero, mul-mod_left, mul-add-mod_self_right, mod-eq_of_lt, mod-lt, div-add-mod'}
use native.Mathlib.Omega.{arith}
use borrow.Author.Tests.{eqb-true, eqb-false, eq-eqb, ne_eqb, ltb-true}
use lib.Dec.{ltb, eqb}
use lib.ListN.{length, get_or, set}
use Rattle.basics.specs.Below.{count}
use Rattle.order.specs.Order.{flows_in}
use Rattle.turns.specs.Turns.{minimums_sum}
use Rattle.policy.specs.Policy.{is_class, flows, least, cap, home_turn, in_range as policy_in_range}
use Rattle.policy.specs.declared.Policy.{Policy}
use Rattle.basics.proofs.Truth.{either, and_left, not-both, on_both, and-fails-right}
use Rattle.basics.proofs.Stores.{stored_at}
use Rattle.basics.proofs.Below.{lt-or-ge, count_same, count-split, count-one}
use Rattle.policy.proofs.Laws.{policy-laws}
use Rattle.state.specs.declared.Turns.{Turns}
use Rattle.rules.specs.Traversal.{first_class, charge, charged, takes_home}
use Rattle.rules.specs.Lookahead.{next_left, goes_on, ahead_of}
use Rattle.rules.specs.Step.{left_at_start, turn_word, TurnStart, owned_by, start_turn}
use Rattle.rules.specs.Calls.{answer_to}
use Rattle.rules.specs.RoundRobin.{tick_tries}
use Rattle.rules.specs.Guarantees.{ticks_in, at_tick, first_tick, Started, owns, CapsSuffice}
use Rattle.rules.proofs.PendingWords.{inside}
use Rattle.rules.proofs.Lookahead.{elides-other, reach_here, reach-fails}
use Rattle.rules.proofs.Calendar.{next-wraps}
use Rattle.rules.proofs.TurnsKept.{start-within}
use Rattle.rules.proofs.Range.{ranged}
use Rattle.rules.proofs.ListTurns as list

module _ (p : Policy) (given : policy_in_range p ≡ true) where
  abbrev turn : ℕ
  turn = p.timing.turn

  some-epoch : 0 < p.epoch
  some-epoch = (policy-laws p given).capped.epoch_bounds.0

  abbrev comes : ℕ → ℕ → Bool
  comes = list.comes p given

  module _ (ws : List ℕ) where
    -- ---- the turns of the list

    abbrev started : ℕ → TurnStart
    started k = list.started p given ws k

    abbrev owner : ℕ → ℕ
    owner k = (started k).turns.owner

    -- ---- turns left

    -- what a class has left as a turn starts, and once its owner is charged
    abbrev left_at : ℕ → ℕ → ℕ
    left_at k c = get_or (left_at_start p k (at_tick p ws (first_tick p k)).turns.left) c 0

    abbrev left_after : ℕ → ℕ → ℕ
    left_after k c = get_or (started k).turns.left c 0

    -- the owner alone has one less, at most
    charged-one : (k c : ℕ) → Started p ws k → (left_at k c ≤ left_after k c + 1) × (((owner k ≡ c) → ⊥) → left_at k c ≤ left_after k c)
    unfolding start_turn owned_by charged charge
    charged-one k c l =
        let s = at_tick p ws (first_tick p k) in
        let left = left_at_start p k s.turns.left in
        let o = owner k in
        let long = (start-within p given k s.turns.left (ranged p s (list.at p given ws (first_tick p k) l).fits).turns.left_within).sixteen in
        let inside : o < length left = subst (λ (n : ℕ). o < n) (sym long) (list.owner_here p given ws k) in
        on_both (λ (after : List ℕ). (get_or left c 0 ≤ get_or after c 0 + 1) × (((o ≡ c) → ⊥) → get_or left c 0 ≤ get_or after c 0))
        (takes_home p k s.queues.lengths) left (set left o (get_or left o 0 - 1))
        (omega arith, λ apart. le_refl (get_or left c 0))
        (stored_at (λ x. (get_or left c 0 ≤ x + 1) × (((o ≡ c) → ⊥) → get_or left c 0 ≤ x)) left o (get_or left o 0 - 1) c inside
        (λ same. let here : get_or left c 0 ≡ get_or left o 0 = ap (λ (i : ℕ). get_or left i 0) same in (omega (arith, here), λ apart. absurd (apart (sym same))))
        (λ other. (omega arith, λ apart. le_refl (get_or left c 0))))

    -- from one turn to the next of its epoch
    left-next : (k c : ℕ) → Started p ws (k + 1) → eqb ((k + 1) % p.epoch) 0 ≡ false → left_at (k + 1) c ≡ left_after k c
    unfolding left_at_start
    left-next k c l inside =
        let next : first_tick p k + (turn - 1) + 1 ≡ first_tick p (k + 1) = omega (arith, list.some_turn p given) in
        let under : first_tick p k + (turn - 1) < ticks_in p ws = omega (arith, next, l) in
        let found = subst (λ (t : ℕ). (at_tick p ws t).turns ≡ list.turns-after p given ws (first_tick p k + (turn - 1))) next (list.at p given ws (first_tick p k + (turn - 1)) under).next.turns in
        let turns = found ∙ list.throughout p given ws k (turn - 1) (omega (arith, list.some_turn p given)) under in
        ap (λ (b : Bool). get_or (cond b p.caps (at_tick p ws (first_tick p (k + 1))).turns.left) c 0) inside ∙ ap (λ (t : Turns). get_or t.left c 0) turns

    module _ (c : ℕ) where
      -- the turns from one on in which a traversal can come to the class
      abbrev ahead : ℕ → ℕ → ℕ
      ahead k many = count many (λ i. comes c (k + i))

      abbrev one-if : Bool → ℕ
      one-if b = cond b 1 0

      ahead_more : (k many : ℕ) → ahead k (1 + many) ≡ one-if (comes c k) + ahead (k + 1) many
      ahead_more k many =
          let here : k + 0 ≡ k = omega arith in
          count-split (λ i. comes c (k + i)) 1 many
          ∙ ap₂ ◌+◌ (count-one (λ i. comes c (k + i)) ∙ ap (λ (x : ℕ). one-if (comes c x)) here)
          (count_same (λ i. comes c (k + (1 + i))) (λ i. comes c (k + 1 + i)) many (λ i l. let step : k + (1 + i) ≡ k + 1 + i = omega arith in ap (comes c) step))

      -- so the class has as many left, before and after the owner is charged
      enough-after : (k many : ℕ) → Started p ws k → ahead k (1 + many) ≤ left_at k c → ahead (k + 1) many ≤ left_after k c
      enough-after k many l enough =
          let one = charged-one k c l in
          let split = ahead_more k many in
          ⊎_elim
          (λ t. let yes : one-if (comes c k) ≡ 1 = ap one-if t in omega (arith, enough, split, yes, one.0))
          (λ t.
          let apart : (owner k ≡ c) → ⊥ = λ same. not-both (subst (λ (x : ℕ). flows p (first_class p k) x ≡ true) same (list.from_first p given ws k)) t in
          let no : one-if (comes c k) ≡ 0 = ap one-if t in
          omega (arith, enough, split, no, one.1 apart))
          (either (comes c k))

      enough-at : is_class p c ≡ true → (e j many : ℕ) → j + (1 + many) ≡ p.epoch → Started p ws (e * p.epoch + j) → ahead (e * p.epoch + j) (1 + many) ≤ left_at (e * p.epoch + j) c
      unfolding left_at_start cap
      enough-at class e zero many whole l =
          let here : e * p.epoch + 0 ≡ e * p.epoch = omega arith in
          let all : 1 + many ≡ p.epoch = omega (arith, whole) in
          let begins : eqb ((e * p.epoch + 0) % p.epoch) 0 ≡ true = eq-eqb ((e * p.epoch + 0) % p.epoch) 0 (ap (λ (x : ℕ). x % p.epoch) here ∙ mul-mod_left e p.epoch) in
          rw (begins, here, all) (list.few-come p given e c class)
      enough-at class e (suc j) many whole l =
          let k = e * p.epoch + j in
          let next : k + 1 ≡ e * p.epoch + suc j = omega arith in
          let place : (k + 1) % p.epoch ≡ suc j = ap (λ (x : ℕ). x % p.epoch) next ∙ mul-add-mod_self_right e p.epoch (suc j) ∙ mod-eq_of_lt (omega (arith, whole)) in
          let inside : eqb ((k + 1) % p.epoch) 0 ≡ false = ne_eqb ((k + 1) % p.epoch) 0 (λ z. not-suc-le-zero {n = j} (omega (arith, sym place ∙ z))) in
          let begins : Started p ws (k + 1) = subst (Started p ws) (sym next) l in
          let before : Started p ws k = list.earlier p given ws k (k + 1) (omega arith) begins in
          let after = enough-after k (1 + many) before (enough-at class e j (1 + many) (omega (arith, whole)) before) in
          subst (λ (x : ℕ). ahead x (1 + many) ≤ left_at x c) next (subst (λ (x : ℕ). ahead (k + 1) (1 + many) ≤ x) (sym (left-next k c begins inside)) after)

      -- where it can be tried, that is one or more
      some-ahead : (k many : ℕ) → comes c k ≡ true → 1 ≤ ahead k (1 + many)
      some-ahead k many t = let yes : one-if (comes c k) ≡ 1 = ap one-if t in omega (arith, ahead_more k many, yes)

    -- a turn's place in its epoch, and how many come after it
    module _ (k : ℕ) where
      abbrev epoch-of : ℕ
      epoch-of = k / p.epoch

      abbrev in-epoch : ℕ
      in-epoch = k % p.epoch

      abbrev later : ℕ
      later = p.epoch - 1 - in-epoch

      number_is : epoch-of * p.epoch + in-epoch ≡ k
      number_is = div-add-mod' k p.epoch

      whole : in-epoch + (1 + later) ≡ p.epoch
      whole = omega (arith, mod-lt k some-epoch)

      enough-here : (c : ℕ) (class : is_class p c ≡ true) → Started p ws k → ahead c k (1 + later) ≤ left_at k c
      enough-here c class l =
          subst (λ (x : ℕ). Started p ws x → ahead c x (1 + later) ≤ left_at x c) number_is (enough-at c class epoch-of in-epoch later whole) l

      some_left : (c : ℕ) → Started p ws k → flows p (first_class p k) c ≡ true → 1 ≤ left_at k c
      some_left c l comes-here =
          let class = (policy-laws p given).order.to_class (first_class p k) c comes-here in
          omega (arith, some-ahead c k later comes-here, enough-here c class l)

      -- as the next turn starts the least class will have one, if that is no home turn
      least-left : Started p ws k → home_turn p (k + 1) ≡ false → 1 ≤ get_or (next_left p k (started k).turns.left) (least p) 0
      unfolding next_left cap
      least-left l other =
          let laws = policy-laws p given in
          let c = least p in
          let class = laws.lowest.is-class in
          let free : (k + 1) % p.epoch + minimums_sum p.minimums < p.epoch =
          ⊎_elim (λ few. few) (λ many. absurd (not-both ((laws.homes.the_last (k + 1)).1 many) other)) (lt-or-ge ((k + 1) % p.epoch + minimums_sum p.minimums) p.epoch)
          in
          let caps : 1 ≤ get_or p.caps c 0 = omega (arith, free, laws.homes.the_others, laws.homes.least_cap) in
          let now : eqb ((k + 1) % p.epoch) 0 ≡ false → 1 ≤ get_or (started k).turns.left c 0 =
          λ same.
          let more : in-epoch + 1 < p.epoch =
          ⊎_elim (λ few. few) (λ many. absurd (eqb-false ((k + 1) % p.epoch) 0 same (next-wraps k p.epoch (omega (arith, many, mod-lt k some-epoch))))) (lt-or-ge (in-epoch + 1) p.epoch)
          in
          let split : 1 + (later - 1) ≡ later = omega (arith, more) in
          let after = enough-after c k later l (enough-here c class l) in
          let some = subst (λ (x : ℕ). 1 ≤ ahead c (k + 1) x) split (some-ahead c (k + 1) (later - 1) (list.comes-to-least p given (k + 1) other)) in
          omega (arith, some, after)
          in
          ⊎_elim
          (λ new. subst (λ (b : Bool). 1 ≤ get_or (cond b p.caps (started k).turns.left) c 0) (sym new) caps)
          (λ same. subst (λ (b : Bool). 1 ≤ get_or (cond b p.caps (started k).turns.left) c 0) (sym same) (now same))
          (either (eqb ((k + 1) % p.epoch) 0))

      -- so the trial walk reaches the owner if that is the least class, and else fails there
      trial-ends : Started p ws k → home_turn p (k + 1) ≡ false → (started k).turns.elided ≡ eqb (owner k) (least p)
      unfolding start_turn owned_by goes_on
      trial-ends l other =
          let c = least p in
          let o = owner k in
          let after = (started k).turns.left in
          let pointers = (started k).turns.pointers in
          let look = ahead_of p k after pointers in
          elides-other p k after pointers o other
          ∙ ⊎_elim
          (λ same. reach_here look o 16 c (eq-eqb c o (sym (eqb-true o c same))) ∙ sym same)
          (λ apart.
          let left : eqb (get_or (next_left p k after) c 0) 0 ≡ false = ne_eqb (get_or (next_left p k after) c 0) 0 (λ none. not-suc-le-zero {n = 0} (omega (arith, least-left l other, none))) in
          reach-fails look o 16 c (ne_eqb c o (λ e. eqb-false o c apart (sym e))) (and-fails-right (flows_in p.rows c o) (eqb (get_or (next_left p k after) c 0) 0) left) ∙ sym apart)
          (either (eqb o c))

      least_drops : (c : ℕ) → owns p ws c k ≡ true → home_turn p (k + 1) ≡ false → (answer_to p (at_tick p ws (first_tick p k)) 0).turn ≡ turn_word c (eqb c (least p)) (tick_tries p (at_tick p ws (first_tick p k)))
      unfolding owns start_turn owned_by
      least_drops c own other =
          let l = ltb-true (first_tick p k) (ticks_in p ws) (and_left (ltb (first_tick p k) (ticks_in p ws)) _ own) in
          list.shows p given ws k l
          ∙ ap₂ (turn_word (owner k)) (trial-ends l other) (sym (list.tries p given ws k l))
          ∙ ap (λ (o : ℕ). turn_word o (eqb o (least p)) (tick_tries p (at_tick p ws (first_tick p k)))) (list.owned p given ws k c own)

  pub caps-suffice : CapsSuffice p
  caps-suffice = record { some_left = some_left; least_drops = least_drops }
