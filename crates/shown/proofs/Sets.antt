-- The laws of the extract for a set, as `specs/Sets.antt` states them. To a set of one class flows what flows to it; to the empty set nothing; and whatever may flow to a set
-- within another may flow to that one, by transitivity. The members' extracts together: whatever the set shows of a line, some member shows.
-- Assumes nothing.
use mathlib.Core.Path.{◌≡◌, refl, sym, ap, ◌∙◌, fun_ext}
use mathlib.Core.Logic.{◌↔◌, ◌⊎◌, inl, inr, ⊎_elim}
use mathlib.Core.Bool.{Bool, true, false, cond, not, ◌&&◌, ◌||◌}
use mathlib.Core.List.{List, [], ◌∷◌, ◌++◌}
use Prim.Native.Nat.{ℕ, ◌+◌, ◌*◌, ◌%◌, ◌-◌, ◌^◌, ◌<◌}
use native.Mathlib.Omega.{arith}
use borrow.Author.Tests.{eq-eqb, ne_eqb, eqb-true}
use lib.Dec.{eqb, leb}
use lib.ListN.{length, get_or, drop}
use Rattle.basics.specs.Below.{some}
use Rattle.masks.specs.Mask.{member}
use Rattle.policy.specs.Policy.{flows, in_range, is_class}
use Rattle.policy.specs.declared.Policy.{Policy}
use Rattle.basics.proofs.Truth.{either, false-unless, true-unless, not-true, not-false, not-both, same_truth, implies, implication, and_left, and_right, and_both, and-fails-right, on-true, on-false}
use Rattle.basics.proofs.Below.{lt-or-ge, every-at, every-all, some-found, none-at}
use Rattle.masks.proofs.Masks.{member-over, member-zero, member-power}
use Rattle.policy.proofs.Laws.{policy-laws}
use Rattle.requests.specs.Word.{class_of, request_of}
use Rattle.requests.specs.Trace.{call_of}
use Rattle.extract.specs.Seen.{seen_by, seen_by_any, call_stays, stays, staying}
use Rattle.extract.specs.Extract.{hide_word, owner_seen, hide_turn, line_seen_at, extract_of, seen_status, seen_answer, seen_out, kept_for, extract, out_after, are_classes, kept_for_set, extract_set, out_after_set}
use Rattle.shown.specs.Sets.{OneClass, ticks_alone, Within, Unseen, WordsAlike, OwnerUnseen, TurnsAlike, LineAlike, LogsAlike, SetLaws}
use Rattle.extract.proofs.Grown.{no-tick, none_left}
use Rattle.extract.proofs.Laws.{four_each}
use Rattle.extract.proofs.Answers.{refused-9, seen-some, seen-by-one, seen-alone, same-answers, answer-by, out-by, answer-is, out-is}
use Rattle.shown.proofs.Shown.{zero_or_not, word-seen, word-unseen, as-tick, logs-shown, extract-twice}

-- ---- which sets are refused

-- a member that is a class, or none
module _ (p : Policy) where
  fits : ℕ → ℕ → Bool
  fits set c = not (member set c) || is_class p c

  -- of a set that is not refused every member is a class: it has 32 bits
  every-class : (set : ℕ) → set < 2 ^ 32 → are_classes p set ≡ true → (l : ℕ) → member set l ≡ true → is_class p l ≡ true
  unfolding are_classes fits
  every-class set small e l m =
      ⊎_elim
      (λ below. implies (member set l) (is_class p l) (every-at (fits set) 32 e l below) m)
      (λ over. absurd (not-both m (member-over set 32 l small over)))
      (lt-or-ge l 32)

  -- a set that is refused has a member that is no class
  no-class : (set : ℕ) → are_classes p set ≡ false → (l : ℕ) × (member set l ≡ true) × (is_class p l ≡ false)
  unfolding are_classes fits
  no-class set e =
      let stray : ℕ → Bool = λ c. member set c && not (is_class p c) in
      ⊎_elim
      (λ t.
      let w = some-found stray 32 t in
      (w.0, and_left (member set w.0) (not (is_class p w.0)) w.2, not-true (is_class p w.0) (and_right (member set w.0) (not (is_class p w.0)) w.2)))
      (λ none.
      absurd
      (not-both
      (every-all (fits set) 32
      (λ l below. implication (member set l) (is_class p l) (λ m. true-unless (is_class p l) (λ f. not-both (and_both m (not-false (is_class p l) f)) (none-at stray 32 none l below)))))
      e))
      (either (some 32 stray))

  -- of a set of one number, that number is asked
  pub alone-fits : (l : ℕ) → l < 32 → are_classes p (2 ^ l) ≡ is_class p l
  unfolding are_classes fits
  alone-fits l small =
      same_truth (are_classes p (2 ^ l)) (is_class p l)
      (λ e. implies (member (2 ^ l) l) (is_class p l) (every-at (fits (2 ^ l)) 32 e l small) (member-power l l ∙ eq-eqb l l refl))
      (λ e.
      every-all (fits (2 ^ l)) 32
      (λ k below. implication (member (2 ^ l) k) (is_class p k) (λ m. ap (is_class p) (sym (eqb-true l k (sym (member-power l k) ∙ m))) ∙ e)))

-- "A set of one class gives the extract as it was"
pub one_class : OneClass
unfolding extract_set out_after_set extract out_after
one_class p l small trace log out =
    let named = alone-fits p l small in
    let same : in_range p ≡ true → is_class p l ≡ true → seen_by_any p (2 ^ l) ≡ seen_by p l =
    λ given class. seen-alone p l (2 ^ l) ((policy-laws p given).order.class_small l class) (λ j below. member-power l j)
    in
    let answers = same-answers p (is_class p l) trace log out (seen_by_any p (2 ^ l)) (seen_by p l) same in (
      ap (λ (b : Bool). seen_answer p b (seen_by_any p (2 ^ l)) trace log out) named ∙ answers.0,
      ap (λ (b : Bool). seen_out p b (seen_by_any p (2 ^ l)) trace log out) named ∙ answers.1,
    )

-- ---- the empty set

-- nothing flows to a member of it
none_seen : (p : Policy) → seen_by_any p 0 ≡ (λ c. false)
none_seen p = fun_ext (λ c. false-unless (seen_by_any p 0 c) (λ e. let w = seen-by-one p 0 c e in not-both w.2 (member-zero w.0)))

-- what is left of a line of which nothing may be seen: of a tick its status, and whether a turn starts
abbrev nobody : ℕ → Bool
nobody c = false

nobody-owns : (t : ℕ) → hide_turn nobody t ≡ cond (eqb t 0) 0 512
unfolding hide_turn owner_seen
nobody-owns t = rw (and-fails-right (not (eqb (t % 256) 0)) false refl)

nobody-offers : (w : ℕ) → ((w ≡ 0) → ⊥) → stays nobody w ≡ false
unfolding stays call_stays
nobody-offers w n = ⊎_elim (λ e. ap (call_stays nobody) e) (λ e. ap (call_stays nobody) e) (no-tick w n)

blind-line : (w : ℕ) (log rest : List ℕ)
    → line_seen_at nobody w log 0 ++ rest ≡ (elim (eqb w 0) as (λ z. List ℕ) [ true ↦ get_or log 0 0 ∷ 0 ∷ 0 ∷ cond (eqb (get_or log 3 0) 0) 0 512 ∷ rest | false ↦ rest ])
blind-line w log rest =
    let shown = get_or log 0 0 ∷ 0 ∷ 0 ∷ cond (eqb (get_or log 3 0) 0) 0 512 ∷ rest in
    ⊎_elim
    (λ z.
    ap (λ (l : List ℕ). l ++ rest) (as-tick nobody w log 0 z)
    ∙ rw (word-unseen nobody (get_or log 1 0) (inr refl), word-unseen nobody (get_or log 2 0) (inr refl), nobody-owns (get_or log 3 0)) (sym (on-true (eqb w 0) shown rest (eq-eqb w 0 z))))
    (λ n. ap (λ (l : List ℕ). l ++ rest) (none_left nobody w log 0 (nobody-offers w n)) ∙ sym (on-false (eqb w 0) shown rest (ne_eqb w 0 n)))
    (zero_or_not w)

blind : (trace log : List ℕ) → extract_of nobody trace log ≡ ticks_alone trace log
unfolding extract_of ticks_alone
blind [] log = refl
blind (w ∷ ws) log = ap (λ (l : List ℕ). line_seen_at nobody w log 0 ++ l) (blind ws (drop 4 log)) ∙ blind-line w log (ticks_alone ws (drop 4 log))

-- ---- of every policy in range

module _ (p : Policy) (given : in_range p ≡ true) where
  kept : (set c : ℕ) → (seen_by_any p set c ≡ true) ↔ ((l : ℕ) × (is_class p l ≡ true) × (member set l ≡ true) × (flows p c l ≡ true))
  kept set c = (
    λ e. let w = seen-by-one p set c e in (w.0, (policy-laws p given).order.to_class c w.0 w.3, w.2, w.3),
    λ w. seen-some p set w.0 c ((policy-laws p given).order.class_small w.0 w.1) w.2 w.3,
  )

  -- 9 alone goes by the set's members: where they are classes, the status is one of the others
  abbrev others : Bool → Bool → ℕ
  others fit room = cond fit (cond room 0 16) 17

  not-nine : (fit room : Bool) → (others fit room ≡ 9) → ⊥
  not-nine true true e = not-both (ap (λ (k : ℕ). eqb k 0) (sym e)) refl
  not-nine true false e = not-both (ap (λ (k : ℕ). eqb k 16) (sym e)) refl
  not-nine false room e = not-both (ap (λ (k : ℕ). eqb k 17) (sym e)) refl

  refused : (set : ℕ) → set < 2 ^ 32 → (trace log out : List ℕ)
      → ((extract_set p set trace log out).status ≡ 9) ↔ ((l : ℕ) × (member set l ≡ true) × (is_class p l ≡ false))
  unfolding extract_set seen_answer seen_status
  refused set small trace log out = (
    λ e.
        ⊎_elim
        (λ fit. absurd (not-nine (eqb (length log) (4 * length trace)) (leb (length (extract_of (seen_by_any p set) trace log)) (length out)) (sym (by-classes set fit trace log out) ∙ e)))
        (no-class p set)
        (either (are_classes p set)),
    λ w.
        refused-9 p (are_classes p set) (seen_by_any p set) trace log out given
        (false-unless (are_classes p set) (λ fit. not-both (every-class p set small fit w.0 w.1) w.2)),
  )
    where
      by-classes : (set : ℕ) → are_classes p set ≡ true → (trace log out : List ℕ)
          → seen_status p (are_classes p set) (seen_by_any p set) trace log out ≡ cond (eqb (length log) (4 * length trace)) (cond (leb (length (extract_of (seen_by_any p set) trace log)) (length out)) 0 16) 17
      by-classes set fit trace log out = rw (given, fit)

  -- ---- a set within another

  module _ (a b : ℕ) (within : Within p a b) where
    -- whatever may flow to a member of a may flow to a member of b
    seen-within : (c : ℕ) → seen_by_any p a c ≡ true → seen_by_any p b c ≡ true
    seen-within c e =
        let l = (kept a c).0 e in
        let m = (kept b l.0).0 (within l.0 l.1 l.2) in
        (kept b c).1 (m.0, m.1, m.2, (policy-laws p given).order.transitive c l.0 m.0 l.3 m.3)

    of_extract : (trace log : List ℕ) → kept_for_set p a (staying (seen_by_any p b) trace) (kept_for_set p b trace log) ≡ kept_for_set p a trace log
    unfolding kept_for_set
    of_extract trace log = extract-twice (seen_by_any p a) (seen_by_any p b) seen-within trace log

    of_call : (trace log out : List ℕ) → length log ≡ 4 * length trace
        → (extract_set p a (staying (seen_by_any p b) trace) (kept_for_set p b trace log) out ≡ extract_set p a trace log out)
        × (out_after_set p a (staying (seen_by_any p b) trace) (kept_for_set p b trace log) out ≡ out_after_set p a trace log out)
    unfolding extract_set out_after_set kept_for_set
    of_call trace log out lengths =
        let left = staying (seen_by_any p b) trace in
        let shown = kept_for_set p b trace log in
        let long : length shown ≡ 4 * length left = four_each (seen_by_any p b) trace log in
        let named = are_classes p a in (
          answer-is p named out (seen_by_any p a) left shown long ∙ ap (answer-by p named out) (of_extract trace log) ∙ sym (answer-is p named out (seen_by_any p a) trace log lengths),
          out-is p named out (seen_by_any p a) left shown long ∙ ap (out-by p named out) (of_extract trace log) ∙ sym (out-is p named out (seen_by_any p a) trace log lengths),
        )

  -- ---- nowhere else

  -- an activate of class l
  abbrev activate : ℕ → ℕ
  activate l = 2147483648 + l * 16777216

  activate-class : (l : ℕ) → l < 16 → class_of (activate l) ≡ l
  unfolding class_of
  activate-class l small = omega arith

  -- a tick on which nothing but a command may be seen
  one-tick : (set w : ℕ) → kept_for_set p set (0 ∷ []) (0 ∷ w ∷ 0 ∷ 0 ∷ []) ≡ 0 ∷ hide_word (seen_by_any p set) w ∷ hide_word (seen_by_any p set) 0 ∷ 0 ∷ []
  unfolding kept_for_set extract_of hide_turn
  one-tick set w = ap (λ (k : List ℕ). k ++ []) (as-tick (seen_by_any p set) 0 (0 ∷ w ∷ 0 ∷ 0 ∷ []) 0 refl)

  only_within : (a b : ℕ)
      → ((trace log other : List ℕ) → length log ≡ 4 * length trace → length other ≡ 4 * length trace
      → kept_for_set p b trace log ≡ kept_for_set p b trace other → kept_for_set p a trace log ≡ kept_for_set p a trace other)
      → Within p a b
  only_within a b determines l class in-a =
      let small = (policy-laws p given).order.class_small l class in
      let w = activate l in
      true-unless (seen_by_any p b l)
      (λ hidden.
      let hides : hide_word (seen_by_any p b) w ≡ hide_word (seen_by_any p b) 0 =
      word-unseen (seen_by_any p b) w (inr (ap (seen_by_any p b) (activate-class l small) ∙ hidden)) ∙ sym (word-unseen (seen_by_any p b) 0 (inl refl))
      in
      let same = determines (0 ∷ []) (0 ∷ w ∷ 0 ∷ 0 ∷ []) (0 ∷ 0 ∷ 0 ∷ 0 ∷ []) refl refl (one-tick b w ∙ ap (λ (k : ℕ). 0 ∷ k ∷ hide_word (seen_by_any p b) 0 ∷ 0 ∷ []) hides ∙ sym (one-tick b 0)) in
      let seen : seen_by_any p a l ≡ true = (kept a l).1 (l, class, in-a, (policy-laws p given).order.reflexive l class) in
      let shown : hide_word (seen_by_any p a) w ≡ w = word-seen (seen_by_any p a) w (ap (seen_by_any p a) (activate-class l small) ∙ seen) in
      let zero : w ≡ 0 = sym shown ∙ ap (λ (k : List ℕ). get_or k 1 0) (sym (one-tick a w) ∙ same ∙ one-tick a 0) ∙ word-unseen (seen_by_any p a) 0 (inl refl) in
      omega (arith, zero))

  -- ---- the members' extracts side by side

  module _ (set m : ℕ) (class : is_class p m ≡ true) (has : member set m ≡ true) where
    -- what holds of every member
    abbrev Members : (ℕ → Type 0) → Type 0
    Members P = (l : ℕ) → is_class p l ≡ true → member set l ≡ true → P l

    abbrev any : ℕ → Bool
    any = seen_by_any p set

    -- a word is the other, or shows the set nothing
    word-or : (w v : ℕ) → Members (λ l. WordsAlike (seen_by p l) w v) → (w ≡ v) ⊎ Unseen any w
    unfolding seen_by
    word-or w v h =
        ⊎_elim
        (λ e.
        let l = (kept set (class_of w)).0 e in
        ⊎_elim inl (λ u. ⊎_elim (λ z. inr (inl z)) (λ f. absurd (not-both l.3 f)) u.0) (h l.0 l.1 l.2))
        (λ e. inr (inr e))
        (either (any (class_of w)))

    turned : (l w v : ℕ) → WordsAlike (seen_by p l) w v → WordsAlike (seen_by p l) v w
    turned l w v h = ⊎_elim (λ e. inl (sym e)) (λ u. inr (u.1, u.0)) h

    words-together : (w v : ℕ) → Members (λ l. WordsAlike (seen_by p l) w v) → WordsAlike any w v
    words-together w v h =
        ⊎_elim inl (λ u. ⊎_elim (λ e. inl (sym e)) (λ x. inr (u, x)) (word-or v w (λ l c i. turned l w v (h l c i)))) (word-or w v h)

    -- of a turn that starts, the owner is the same or the set may see neither
    owner-or : (t u : ℕ) → ((t ≡ 0) → ⊥) → Members (λ l. TurnsAlike (seen_by p l) t u) → (t ≡ u) ⊎ OwnerUnseen any t
    unfolding seen_by owner_seen
    owner-or t u starts h =
        ⊎_elim
        (λ e.
        let named : not (eqb (t % 256) 0) ≡ true = and_left (not (eqb (t % 256) 0)) (any (t % 256 - 1)) e in
        let l = (kept set (t % 256 - 1)).0 (and_right (not (eqb (t % 256) 0)) (any (t % 256 - 1)) e) in
        ⊎_elim inl (λ k. absurd (not-both (and_both named l.3) k.0.1)) (h l.0 l.1 l.2))
        (λ e. inr (starts, e))
        (either (owner_seen any t))

    turned_turn : (l t u : ℕ) → TurnsAlike (seen_by p l) t u → TurnsAlike (seen_by p l) u t
    turned_turn l t u h = ⊎_elim (λ e. inl (sym e)) (λ k. inr (k.1, k.0)) h

    turns-together : (t u : ℕ) → Members (λ l. TurnsAlike (seen_by p l) t u) → TurnsAlike any t u
    turns-together t u h =
        ⊎_elim inl
        (λ k.
        ⊎_elim inl
        (λ x. ⊎_elim (λ e. inl (sym e)) (λ y. inr (x, y)) (owner-or u t k.1.0 (λ l c i. turned_turn l t u (h l c i))))
        (owner-or t u k.0.0 h))
        (h m class has)

    -- an offer that stays for the set stays for a member, and a tick for each
    for-member : (w : ℕ) → ((w ≡ 0) → ⊥) → stays any w ≡ true → (l : ℕ) × (is_class p l ≡ true) × (member set l ≡ true) × (stays (seen_by p l) w ≡ true)
    unfolding stays call_stays seen_by request_of
    for-member w n e =
        ⊎_elim
        (λ o. let l = (kept set (class_of w)).0 (sym (ap (call_stays any) o) ∙ e) in (l.0, l.1, l.2, ap (call_stays (seen_by p l.0)) o ∙ l.3))
        (λ o. absurd (not-both e (ap (call_stays any) o)))
        (no-tick w n)

    tick-stays : (l w : ℕ) → w ≡ 0 → stays (seen_by p l) w ≡ true
    unfolding stays call_stays call_of
    tick-stays l w z = rw z refl

    -- two logs of one trace
    of-one-trace : (trace log other : List ℕ)
        → Members (λ l. kept_for p l trace log ≡ kept_for p l trace other) → kept_for_set p set trace log ≡ kept_for_set p set trace other
    unfolding kept_for kept_for_set
    of-one-trace trace log other h =
        let alike : Members (λ l. LogsAlike (seen_by p l) trace log other) = λ l c i. (logs-shown (seen_by p l) trace log other).0 (h l c i) in
        (logs-shown any trace log other).1
        (λ i below stay.
        let w = get_or trace i 0 in
        let at : (l : ℕ) → is_class p l ≡ true → member set l ≡ true → w ≡ 0 → LineAlike (seen_by p l) w log other (4 * i) = λ l c j z. alike l c j i below (tick-stays l w z) in
        let offered : ((w ≡ 0) → ⊥) → (l : ℕ) × LineAlike (seen_by p l) w log other (4 * i) = λ n. let l = for-member w n stay in (l.0, alike l.0 l.1 l.2 i below l.3) in
        record {
          status = ⊎_elim (λ z. (at m class has z).status) (λ n. (offered n).1.status) (zero_or_not w);
          of_tick =
              λ z. (
                words-together (get_or log (4 * i + 1) 0) (get_or other (4 * i + 1) 0) (λ l c j. ((at l c j z).of_tick z).0),
                words-together (get_or log (4 * i + 2) 0) (get_or other (4 * i + 2) 0) (λ l c j. ((at l c j z).of_tick z).1),
                turns-together (get_or log (4 * i + 3) 0) (get_or other (4 * i + 3) 0) (λ l c j. ((at l c j z).of_tick z).2),
              );
          of_offer = λ n. (offered n).1.of_offer n;
        })

    -- the set's extract as a log of the calls that it keeps: the set sees all of it, and a member what it sees of the log
    set-again : (trace log : List ℕ) → kept_for_set p set (staying any trace) (kept_for_set p set trace log) ≡ kept_for_set p set trace log
    unfolding kept_for_set
    set-again trace log = extract-twice any any (λ c e. e) trace log

    member-again : (l : ℕ) → is_class p l ≡ true → member set l ≡ true → (trace log : List ℕ) → kept_for p l (staying any trace) (kept_for_set p set trace log) ≡ kept_for p l trace log
    unfolding kept_for kept_for_set seen_by
    member-again l c i trace log = extract-twice (seen_by p l) any (λ k e. (kept set k).1 (l, c, i, e)) trace log

    -- of two traces of which the set keeps the same calls, as of those calls
    side_by_side : (xs ys log other : List ℕ) → staying any xs ≡ staying any ys
        → Members (λ l. kept_for p l xs log ≡ kept_for p l ys other) → kept_for_set p set xs log ≡ kept_for_set p set ys other
    side_by_side xs ys log other same h =
        let one = kept_for_set p set xs log in
        let two = kept_for_set p set ys other in
        let members : Members (λ l. kept_for p l (staying any xs) one ≡ kept_for p l (staying any xs) two) =
        λ l c i. member-again l c i xs log ∙ h l c i ∙ sym (member-again l c i ys other) ∙ ap (λ (t : List ℕ). kept_for p l t two) (sym same)
        in
        sym (set-again xs log) ∙ of-one-trace (staying any xs) one two members ∙ ap (λ (t : List ℕ). kept_for_set p set t two) same ∙ set-again ys other

  empty : (trace log : List ℕ) → kept_for_set p 0 trace log ≡ ticks_alone trace log
  unfolding kept_for_set
  empty trace log = ap (λ (f : ℕ → Bool). extract_of f trace log) (none_seen p) ∙ blind trace log

  kept_part : (set : ℕ) (trace log other : List ℕ) → (kept_for_set p set trace log ≡ kept_for_set p set trace other) ↔ LogsAlike (seen_by_any p set) trace log other
  unfolding kept_for_set
  kept_part set trace log other = logs-shown (seen_by_any p set) trace log other

  pub set-laws : SetLaws p
  set-laws =
      record {
        kept = kept;
        refused = refused;
        empty = empty;
        kept_part = kept_part;
        of_extract = of_extract;
        of_call = of_call;
        only_within = only_within;
        side_by_side = side_by_side;
      }
