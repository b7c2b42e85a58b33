-- Two lists of calls that agree once what is high is struck out lead to states that are alike, and show the same: each is compared with the list that is left.
-- Assumes nothing.
use mathlib.Core.Path.{◌≡◌, refl, sym, ap, ap₂, ◌∙◌, subst}
use mathlib.Core.Logic.{inl, inr, ⊎_elim}
use mathlib.Core.Bool.{Bool, true, false}
use mathlib.Core.List.{List, [], ◌∷◌, ◌++◌}
use Prim.Native.Nat.{ℕ}
use Rattle.policy.specs.Policy.{in_range as policy_in_range}
use Rattle.policy.specs.declared.Policy.{Policy}
use Rattle.basics.proofs.Truth.{either, not-both, on-true, on-false}
use Rattle.state.specs.Fresh.{fresh_state}
use Rattle.rules.specs.History.{FromFresh, at_first}
use Rattle.state.specs.declared.State.{State}
use Rattle.rules.proofs.History.{held}
use Rattle.requests.specs.Trace.{call_of}
use Rattle.rules.specs.Calls.{Answer, answer, answer_to, state_after, log_of}
use Rattle.requests.specs.declared.Call.{Call}
use Rattle.requests.specs.declared.Call.TheVariants.{Tick, Offer, Malformed}
use Rattle.rules.proofs.RunLaws.{one_call as reached}
use Rattle.noninterference.proofs.Low.{Downward, OwnersAgree, queue-self}
use Rattle.noninterference.proofs.Alike.{Alike}
use Rattle.extract.specs.Seen.{call_stays, stays, staying}
use Rattle.extract.specs.Extract.{line_seen, line_seen_at, extract_of}
use Rattle.noninterference.proofs.Calls.{both-offer, one-offer, both-tick, offer-line, tick-line}

-- a state is like itself
alike_self : (p : Policy) (low : ℕ → Bool) (s : State) → Alike p low s s
alike_self p low s =
    let o = s.turns.owner in
    let owners : OwnersAgree low o o = ⊎_elim (λ i. inl (refl, i)) (λ high. inr (high, high)) (either (low o)) in
    record {
      cycles = refl;
      queues = λ c i. queue-self s.queues c;
      turns = record { owners = owners; elisions = λ i. refl; left = λ c i. refl; pointers = λ c i. refl };
      columns = λ i. refl;
      responses = λ i. refl;
      lasts = λ i. record { of_all = inl refl; of-bank = λ b l. inl refl };
    }

-- nothing is seen of a call that is struck out
struck : (low : ℕ → Bool) (c : Call) (status command response turn : ℕ) → call_stays low c ≡ false → line_seen low c status command response turn ≡ []
unfolding line_seen call_stays
struck low Tick status command response turn i = absurd (not-both refl i)
struck low (Offer o) status command response turn i = on-false (low o.class) (status ∷ command ∷ response ∷ turn ∷ []) [] i
struck low Malformed status command response turn i = refl

module _ (p : Policy) (given : policy_in_range p ≡ true) (low : ℕ → Bool) (closed : Downward p low) where
  -- a call's line as it is seen
  abbrev line : Call → Answer → List ℕ
  line c a = line_seen low c a.status a.command a.response a.turn

  -- a call that stays, made in both
  both-call : (s r : State) (c : Call) → FromFresh p s → FromFresh p r → call_stays low c ≡ true → Alike p low s r → Alike p low (answer p s c).state (answer p r c).state
  unfolding answer call_stays
  both-call s r Tick from to i alike = both-tick p given low closed s r (held p given s from) (held p given r to) alike
  both-call s r (Offer o) from to i alike = both-offer p given low closed s r (held p given s from) (held p given r to) alike o i
  both-call s r Malformed from to i alike = absurd (not-both i refl)

  -- and its line is seen alike
  both-line : (s r : State) (c : Call) → FromFresh p s → FromFresh p r → call_stays low c ≡ true → Alike p low s r → line c (answer p s c) ≡ line c (answer p r c)
  unfolding answer call_stays
  both-line s r Tick from to i alike = tick-line p given low closed s r (held p given s from) (held p given r to) alike
  both-line s r (Offer o) from to i alike = ap (λ (k : ℕ). line_seen low (Offer o) k 0 0 0) (offer-line p given low closed s r (held p given s from) (held p given r to) alike o i)
  both-line s r Malformed from to i alike = absurd (not-both i refl)

  -- a call that is struck out, made in the first alone
  one_call : (s r : State) (c : Call) → FromFresh p s → FromFresh p r → call_stays low c ≡ false → Alike p low s r → Alike p low (answer p s c).state r
  unfolding answer call_stays
  one_call s r Tick from to i alike = absurd (not-both refl i)
  one_call s r (Offer o) from to i alike = one-offer p given low closed s r (held p given s from) (held p given r to) alike o i
  one_call s r Malformed from to i alike = alike

  -- a list, beside what is left of it: the states after them are alike, and what is seen of their logs is the same
  purged : (xs : List ℕ) (s r : State) → FromFresh p s → FromFresh p r → Alike p low s r → Alike p low (state_after p s xs) (state_after p r (staying low xs))
  unfolding stays staying state_after answer_to
  purged [] s r from to alike = alike
  purged (x ∷ xs) s r from to alike =
      let c = call_of x in
      ⊎_elim
      (λ i.
      subst (λ (l : List ℕ). Alike p low (state_after p (answer_to p s x).state xs) (state_after p r l)) (sym (on-true (call_stays low c) (x ∷ staying low xs) (staying low xs) i))
      (purged xs (answer p s c).state (answer p r c).state (reached p s c from) (reached p r c to) (both-call s r c from to i alike)))
      (λ i.
      subst (λ (l : List ℕ). Alike p low (state_after p (answer_to p s x).state xs) (state_after p r l)) (sym (on-false (call_stays low c) (x ∷ staying low xs) (staying low xs) i))
      (purged xs (answer p s c).state r (reached p s c from) to (one_call s r c from to i alike)))
      (either (call_stays low c))

  seen : (xs : List ℕ) (s r : State) → FromFresh p s → FromFresh p r → Alike p low s r → extract_of low xs (log_of p s xs) ≡ extract_of low (staying low xs) (log_of p r (staying low xs))
  unfolding stays staying log_of answer_to extract_of line_seen_at
  seen [] s r from to alike = refl
  seen (x ∷ xs) s r from to alike =
      let c = call_of x in
      let a = answer p s c in
      let rest = extract_of low xs (log_of p a.state xs) in
      ⊎_elim
      (λ i.
      ap₂ (λ (one two : List ℕ). one ++ two) (both-line s r c from to i alike)
      (seen xs a.state (answer p r c).state (reached p s c from) (reached p r c to) (both-call s r c from to i alike))
      ∙ ap (λ (l : List ℕ). extract_of low l (log_of p r l)) (sym (on-true (call_stays low c) (x ∷ staying low xs) (staying low xs) i)))
      (λ i.
      ap (λ (one : List ℕ). one ++ rest) (struck low c a.status a.command a.response a.turn i)
      ∙ seen xs a.state r (reached p s c from) to (one_call s r c from to i alike)
      ∙ ap (λ (l : List ℕ). extract_of low l (log_of p r l)) (sym (on-false (call_stays low c) (x ∷ staying low xs) (staying low xs) i)))
      (either (call_stays low c))

  -- two lists that agree
  module _ (xs ys : List ℕ) (agree : staying low xs ≡ staying low ys) where
    abbrev start : State
    start = fresh_state p

    pub same-states : Alike p low (state_after p start xs) (state_after p start (staying low ys)) × Alike p low (state_after p start ys) (state_after p start (staying low ys))
    same-states =
        (subst (λ (zs : List ℕ). Alike p low (state_after p start xs) (state_after p start zs)) agree (purged xs start start at_first at_first (alike_self p low start)), purged ys start start at_first at_first (alike_self p low start))

    pub same_seen : extract_of low xs (log_of p start xs) ≡ extract_of low ys (log_of p start ys)
    same_seen =
        seen xs start start at_first at_first (alike_self p low start)
        ∙ ap (λ (zs : List ℕ). extract_of low zs (log_of p start zs)) agree
        ∙ sym (seen ys start start at_first at_first (alike_self p low start))
