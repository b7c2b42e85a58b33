-- Demand 3: noninterference, for a set of classes as `specs/SetClaim.antt` states it (W-211), and for a class as `specs/Claim.antt` does, which is the case of the set of it alone; and what
-- stands beside it.
-- Assumes nothing.
use mathlib.Core.Path.{◌≡◌, refl, sym, ap, ap₂, ◌∙◌, subst}
use mathlib.Core.Logic.{⊎_elim}
use mathlib.Core.Bool.{Bool, true, false, cond, not}
use mathlib.Core.List.{List, [], ◌∷◌, ◌++◌}
use Prim.Native.Nat.{ℕ, ◌*◌, ◌^◌, ◌≤◌, ◌<◌}
use native.Mathlib.Omega.{arith}
use borrow.Author.Tests.{le-leb}
use lib.Dec.{leb, eqb}
use lib.ListN.{length, take, drop}
use lib.Seq.{take-append_seam}
use Rattle.policy.specs.Policy.{is_class}
use Rattle.policy.specs.Policy.{in_range as policy_in_range}
use Rattle.file.specs.File.{read_file}
use Rattle.policy.specs.declared.Policy.{Policy}
use Rattle.basics.proofs.Truth.{either, not-both, on-true, on-false}
use Rattle.policy.proofs.Laws.{policy-laws}
use Rattle.file.proofs.Taken.{taken-iff}
use Rattle.state.specs.Fresh.{fresh_state, zero_state, fresh}
use Rattle.requests.specs.Trace.{call_of}
use Rattle.rules.specs.Calls.{state_after, log_of}
use Rattle.state.specs.declared.Made.{Made}
use Rattle.state.specs.declared.State.{State}
use Rattle.requests.specs.declared.Call.{Call}
use Rattle.requests.specs.declared.Call.TheVariants.{Tick, Offer, Malformed}
use Rattle.rules.proofs.Laws.{scheduler-laws}
use Rattle.rules.proofs.Calls.{four_each}
use Rattle.rules.specs.PublicCalls.{PublicCall, trace_made}
use Rattle.rules.proofs.RunLaws.{run-laws}
use Rattle.masks.proofs.Masks.{member-power}
use Rattle.extract.specs.Seen.{seen_by, seen_by_any, call_stays, stays, staying}
use Rattle.extract.specs.Extract.{Extracted, extract_of, kept_for, extract, out_after, are_classes, kept_for_set, extract_set, out_after_set}
use Rattle.extract.proofs.Answers.{seen-alone, status-by, answer-is, out-is}
use Rattle.shown.proofs.Sets.{alone-fits as set-fits, one_class, set-laws}
use Rattle.noninterference.proofs.Low.{Downward}
use Rattle.noninterference.specs.Claim.{Accepted, state_for, log_for, struck, purge, Agree, SameFor, Outcome, SameFrom, outcome, Noninterference, made, CallsNoninterference, FilesAccepted}
use Rattle.noninterference.specs.SetClaim.{struck_for_set, purge_by, AgreeForSet, SameForSet, SetNoninterference, CallsSetNoninterference}
use Rattle.noninterference.proofs.Lists.{same-states, same_seen}

-- the classes that may flow to a member of a set are closed downward
closed : (p : Policy) → policy_in_range p ≡ true → (set : ℕ) → Downward p (seen_by_any p set)
closed p given set c d f i =
    let laws = (set-laws p given).kept set in
    let w = (laws d).0 i in
    (laws c).1 (w.0, w.1, w.2, (policy-laws p given).order.transitive c d w.0 f w.3)

-- ---- what is struck out of a list is what its extract drops

struck-out : (p : Policy) (set : ℕ) (c : Call) → struck_for_set p set c ≡ not (call_stays (seen_by_any p set) c)
unfolding struck_for_set call_stays
struck-out p set Tick = refl
struck-out p set (Offer r) = refl
struck-out p set Malformed = refl

left : (p : Policy) (set : ℕ) (xs : List ℕ) → purge_by (struck_for_set p set) xs ≡ staying (seen_by_any p set) xs
unfolding purge_by staying stays
left p set [] = refl
left p set (x ∷ xs) =
    let c = call_of x in
    let out = struck_for_set p set in
    let seen = seen_by_any p set in
    let rest = left p set xs in
    ⊎_elim
    (λ i.
    on-false (out c) (purge_by out xs) (x ∷ purge_by out xs) (struck-out p set c ∙ ap not i)
    ∙ ap (λ (l : List ℕ). x ∷ l) rest
    ∙ sym (on-true (call_stays seen c) (x ∷ staying seen xs) (staying seen xs) i))
    (λ i.
    on-true (out c) (purge_by out xs) (x ∷ purge_by out xs) (struck-out p set c ∙ ap not i)
    ∙ rest
    ∙ sym (on-false (call_stays seen c) (x ∷ staying seen xs) (staying seen xs) i))
    (either (call_stays seen c))

-- ---- accepted policies

made-right : (p : Policy) → policy_in_range p ≡ true → fresh p ≡ record { status = 0; state = fresh_state p }
unfolding fresh
made-right p e = on-true (policy_in_range p) (record { status = 0; state = fresh_state p }) (record { status = 13; state = zero_state }) e

made-wrong : (p : Policy) → policy_in_range p ≡ false → fresh p ≡ record { status = 13; state = zero_state }
unfolding fresh
made-wrong p e = on-false (policy_in_range p) (record { status = 0; state = fresh_state p }) (record { status = 13; state = zero_state }) e

accepted-fits : (p : Policy) → Accepted p → policy_in_range p ≡ true
accepted-fits p ok = ⊎_elim (λ e. e) (λ e. absurd (ok (ap (λ (m : Made). m.status) (made-wrong p e)))) (either (policy_in_range p))

state-right : (p : Policy) → policy_in_range p ≡ true → (fresh p).state ≡ fresh_state p
state-right p e = ap (λ (m : Made). m.state) (made-right p e)

-- ---- an extract of which only its room is left to be tested: its answer and the part that it writes, by what is kept and the room

abbrev answered : List ℕ → ℕ → Extracted
answered kept n = record { status = cond (leb (length kept) n) 0 16; count = cond (eqb (cond (leb (length kept) n) 0 16) 0) (length kept) 0 }

abbrev part : List ℕ → ℕ → List ℕ
part kept n = cond (leb (length kept) n) kept []

taken-part : (kept out : List ℕ) (b : Bool) → leb (length kept) (length out) ≡ b
    → take (answered kept (length out)).count (cond (eqb (answered kept (length out)).status 0) (kept ++ drop (length kept) out) out) ≡ part kept (length out)
taken-part kept out true e =
    ap (λ (b : Bool). take (cond (eqb (cond b 0 16) 0) (length kept) 0) (cond (eqb (cond b 0 16) 0) (kept ++ drop (length kept) out) out)) e
    ∙ take-append_seam kept (drop (length kept) out)
    ∙ sym (ap (λ (b : Bool). cond b kept []) e)
taken-part kept out false e =
    ap (λ (b : Bool). take (cond (eqb (cond b 0 16) 0) (length kept) 0) (cond (eqb (cond b 0 16) 0) (kept ++ drop (length kept) out) out)) e
    ∙ sym (ap (λ (b : Bool). cond b kept []) e)

module _ (p : Policy) (given : policy_in_range p ≡ true) (set : ℕ) (fits : are_classes p set ≡ true) where
  -- 13, 9 and 17 do not meet the extract of a list's log: only its room is left to be tested
  module _ (xs log : List ℕ) (lengths : length log ≡ 4 * length xs) (out : List ℕ) where
    abbrev kept : List ℕ
    kept = kept_for_set p set xs log

    only-room : status-by p (are_classes p set) out kept ≡ (answered kept (length out)).status
    only-room = rw (given, fits)

    answers-are : extract_set p set xs log out ≡ answered kept (length out)
    unfolding extract_set kept_for_set
    answers-are =
        answer-is p (are_classes p set) out (seen_by_any p set) xs log lengths
        ∙ ap (λ (k : ℕ). record { status = k; count = cond (eqb k 0) (length kept) 0 }) only-room

    written_is : take (extract_set p set xs log out).count (out_after_set p set xs log out) ≡ part kept (length out)
    unfolding out_after_set kept_for_set
    written_is =
        ap₂ (λ (e : Extracted) (l : List ℕ). take e.count l) answers-are
        (out-is p (are_classes p set) out (seen_by_any p set) xs log lengths ∙ ap (λ (k : ℕ). cond (eqb k 0) (kept ++ drop (length kept) out) out) only-room)
        ∙ taken-part kept out (leb (length kept) (length out)) refl

  -- ---- the claim

  module _ (xs ys : List ℕ) (agree : AgreeForSet p set xs ys) where
    agreed : staying (seen_by_any p set) xs ≡ staying (seen_by_any p set) ys
    agreed = sym (left p set xs) ∙ agree ∙ left p set ys

    fresh-is : (fresh p).state ≡ fresh_state p
    fresh-is = state-right p given

    numbers : kept_for_set p set xs (log_for p xs) ≡ kept_for_set p set ys (log_for p ys)
    unfolding kept_for_set
    numbers = subst (λ (s : State). kept_for_set p set xs (log_of p s xs) ≡ kept_for_set p set ys (log_of p s ys)) (sym fresh-is) (same_seen p given (seen_by_any p set) (closed p given set) xs ys agreed)

    long : (zs : List ℕ) → length (log_for p zs) ≡ 4 * length zs
    long zs = four_each p (fresh p).state zs

    states : (c : ℕ) → seen_by_any p set c ≡ true → SameFor c (state_for p xs) (state_for p ys)
    states c f =
        subst (λ (s : State). SameFor c (state_after p s xs) (state_after p s ys)) (sym fresh-is)
        (let both = same-states p given (seen_by_any p set) (closed p given set) xs ys agreed in
        record {
          requests = (both.0.queues c f).requests ∙ sym (both.1.queues c f).requests;
          passed = (both.0.queues c f).passed ∙ sym (both.1.queues c f).passed;
          left = both.0.turns.left c f ∙ sym (both.1.turns.left c f);
          pointer = both.0.turns.pointers c f ∙ sym (both.1.turns.pointers c f);
        })

    same : SameForSet p set (outcome p xs) (outcome p ys)
    same =
        record {
          numbers = numbers;
          enough = λ out room. ap (λ (e : Extracted). e.status) (answers-are xs (log_for p xs) (long xs) out) ∙ ap (λ (b : Bool). cond b 0 16) (le-leb (length (kept_for_set p set xs (log_for p xs))) (length out) room);
          answers = λ one two e. answers-are xs (log_for p xs) (long xs) one ∙ ap₂ answered numbers e ∙ sym (answers-are ys (log_for p ys) (long ys) two);
          written = λ one two e. written_is xs (log_for p xs) (long xs) one ∙ ap₂ part numbers e ∙ sym (written_is ys (log_for p ys) (long ys) two);
          states = states;
        }

-- ---- however the calls are made

-- they come to what their trace numbers come to
as-numbers : (p : Policy) → policy_in_range p ≡ true → (cs : List PublicCall) → made p cs ≡ outcome p (trace_made cs)
as-numbers p given cs =
    let fit = (scheduler-laws p given).keeping.fresh_in_range in
    ap₂ (λ (log : List ℕ) (state : State). record { trace = trace_made cs; log = log; state = state })
    ((run-laws p).log-made (fresh p).state cs fit) ((run-laws p).state-made (fresh p).state cs fit)

-- what holds of two lists of trace numbers holds of the calls that make them
module _ (p : Policy) (given : policy_in_range p ≡ true) (P : Outcome → Outcome → Type 0) where
  of_calls : (cs ds : List PublicCall) → P (outcome p (trace_made cs)) (outcome p (trace_made ds)) → P (made p cs) (made p ds)
  of_calls cs ds h = subst (λ (a : Outcome). P a (made p ds)) (sym (as-numbers p given cs)) (subst (P (outcome p (trace_made cs))) (sym (as-numbers p given ds)) h)

-- W-211: the claim over sets
pub set-noninterference : SetNoninterference
set-noninterference p ok set fits xs ys agree = same p (accepted-fits p ok) set fits xs ys agree

pub calls-set-noninterference : CallsSetNoninterference
calls-set-noninterference p ok set fits cs ds agree =
    of_calls p (accepted-fits p ok) (SameForSet p set) cs ds (set-noninterference p ok set fits (trace_made cs) (trace_made ds) agree)

-- ---- demand 3 for a class: the case of the set of one class

module _ (p : Policy) (given : policy_in_range p ≡ true) (l : ℕ) (class : is_class p l ≡ true) where
  small : l < 16
  small = (policy-laws p given).order.class_small l class

  -- a set has 32 bits
  in_set : l < 32
  in_set = omega (arith, small)

  abbrev alone : ℕ
  alone = 2 ^ l

  alone-fits : are_classes p alone ≡ true
  alone-fits = set-fits p l in_set ∙ class

  -- the same may be seen, is struck, kept and answered
  same-seen-classes : seen_by_any p alone ≡ seen_by p l
  same-seen-classes = seen-alone p l alone small (λ j below. member-power l j)

  same-struck : (c : Call) → struck p l c ≡ struck_for_set p alone c
  unfolding struck struck_for_set seen_by
  same-struck Tick = refl
  same-struck (Offer r) = ap (λ (f : ℕ → Bool). not (f r.class)) (sym same-seen-classes)
  same-struck Malformed = refl

  same-purge : (xs : List ℕ) → purge p l xs ≡ purge_by (struck_for_set p alone) xs
  unfolding purge purge_by
  same-purge [] = refl
  same-purge (x ∷ xs) = ap₂ (λ (b : Bool) (l : List ℕ). elim b as (λ z. List ℕ) [ true ↦ l | false ↦ x ∷ l ]) (same-struck (call_of x)) (same-purge xs)

  same_kept : (xs log : List ℕ) → kept_for p l xs log ≡ kept_for_set p alone xs log
  unfolding kept_for kept_for_set
  same_kept xs log = ap (λ (f : ℕ → Bool). extract_of f xs log) (sym same-seen-classes)

  same_answer : (xs log out : List ℕ) → extract p l xs log out ≡ extract_set p alone xs log out
  same_answer xs log out = sym (one_class p l in_set xs log out).0

  same_out : (xs log out : List ℕ) → out_after p l xs log out ≡ out_after_set p alone xs log out
  same_out xs log out = sym (one_class p l in_set xs log out).1

  same-part : (xs log out : List ℕ) → take (extract p l xs log out).count (out_after p l xs log out) ≡ take (extract_set p alone xs log out).count (out_after_set p alone xs log out)
  same-part xs log out = ap₂ (λ (e : Extracted) (k : List ℕ). take e.count k) (same_answer xs log out) (same_out xs log out)

  same-agree : (xs ys : List ℕ) → Agree p l xs ys → AgreeForSet p alone xs ys
  same-agree xs ys agree = sym (same-purge xs) ∙ agree ∙ same-purge ys

  for-class : (a b : Outcome) → SameForSet p alone a b → SameFrom p l a b
  unfolding seen_by
  for-class a b h =
      record {
        numbers = same_kept a.trace a.log ∙ h.numbers ∙ sym (same_kept b.trace b.log);
        enough =
            λ out room.
            ap (λ (e : Extracted). e.status) (same_answer a.trace a.log out) ∙ h.enough out (subst (λ (k : List ℕ). length k ≤ length out) (same_kept a.trace a.log) room);
        answers = λ one two e. same_answer a.trace a.log one ∙ h.answers one two e ∙ sym (same_answer b.trace b.log two);
        written = λ one two e. same-part a.trace a.log one ∙ h.written one two e ∙ sym (same-part b.trace b.log two);
        states = λ c f. h.states c (ap (λ (g : ℕ → Bool). g c) same-seen-classes ∙ f);
      }

pub noninterference : Noninterference
noninterference p ok l class xs ys agree =
    let given = accepted-fits p ok in
    for-class p given l class (outcome p xs) (outcome p ys) (set-noninterference p ok (2 ^ l) (alone-fits p given l class) xs ys (same-agree p given l class xs ys agree))

pub calls-noninterference : CallsNoninterference
calls-noninterference p ok l class cs ds agree =
    of_calls p (accepted-fits p ok) (SameFrom p l) cs ds (noninterference p ok l class (trace_made cs) (trace_made ds) agree)

pub files-accepted : FilesAccepted
files-accepted file bytes none refused =
    let status : (fresh (read_file file).policy).status ≡ 0 = ap (λ (m : Made). m.status) (made-right (read_file file).policy ((taken-iff file bytes).in-range none)) in
    not-both (ap (λ (k : ℕ). eqb k 0) status) (ap (λ (k : ℕ). eqb k 0) refused)
