-- The check is what document 02 says of events. Two sound recordings come in step up to a place where an activate, a response or nothing is first (`ends`, by the laws of `Matching`); the event there has no partner, and each
-- that is taken before it has one. There is no other such event, since of two events one is taken before the other, or they are partners.
-- Assumes nothing.
use mathlib.Core.Path.{◌≡◌, refl, sym, ap, ◌∙◌, subst}
use mathlib.Core.Logic.{◌⊎◌, inl, inr, ⊎_elim}
use mathlib.Core.Bool.{Bool, true, false, true≢false, false≢true}
use mathlib.Core.List.{List, []}
use Prim.Native.Nat.{ℕ, ◌+◌, ◌*◌, ◌≤◌, ◌<◌}
use native.Mathlib.Nat.{lt_irrefl, eq-or-lt_of_le}
use native.Mathlib.Omega.{arith}
use borrow.Author.Tests.{eqb-true, eqb-false}
use lib.Dec.{eqb}
use lib.ListN.{length, length-drop}
use lib.Seq.{drop-length}
use Rattle.basics.proofs.Truth.{either, false-unless, true-unless}
use Rattle.basics.proofs.Below.{lt-or-ge}
use Rattle.recordings.specs.Recording.{events_in, cycle_at, word_at, rises, soundness}
use Rattle.recordings.specs.Match.{partners, first_alone, alone, rest_of, unmatched}
use Rattle.matched.specs.Taken.{Event, activate, response, is_activate, stands_at, IsEvent, due, word, Partners, HasPartner, Before, FirstWithout, AllHave, rest_from, Matching, Matches}
use Rattle.std.specs.declared.result.Result.TheVariants.{Ok}
use Rattle.std.specs.declared.option.Option.TheVariants.{None}
use Rattle.recordings.proofs.Recordings.{within, above, sound-both, wires-three, cores-two}
use Rattle.recordings.proofs.Matching.{not_before, partners-word, partners-due, are-partners, InStep, ActivateAt, ResponseAt, EndAt, lone-activate, lone-response, finds-activate, finds-response, finds-none, alone-sound, ends}

-- ---- places told apart

same_place : (e f : Event) → stands_at e ≡ stands_at f → e ≡ f
unfolding stands_at
same_place (activate i) (activate k) e = let twice : 2 * i ≡ 2 * k = cc in let same : i ≡ k = omega (arith, twice) in ap activate same
same_place (activate i) (response j) e = cc
same_place (response j) (activate i) e = cc
same_place (response j) (response k) e = let twice : 2 * j ≡ 2 * k = cc in let same : j ≡ k = omega (arith, twice) in ap response same

no_place : (e : Event) → (stands_at e ≡ None) → ⊥
unfolding stands_at
no_place (activate i) e = cc
no_place (response j) e = cc

-- of three truth values, two that are not the first are the same
third : (a b c : Bool) → ((a ≡ b) → ⊥) → ((a ≡ c) → ⊥) → b ≡ c
third true b c h k = false-unless b (λ e. h (sym e)) ∙ sym (false-unless c (λ e. k (sym e)))
third false b c h k = true-unless b (λ e. h (sym e)) ∙ sym (true-unless c (λ e. k (sym e)))

-- where the cycles of a recording rise, an event is known by its cycle
same-cycle : (r : List ℕ) → rises r ≡ true → (i j : ℕ) → i < events_in r → j < events_in r → cycle_at r i ≡ cycle_at r j → i ≡ j
same-cycle r up i j small other e =
    ⊎_elim
    (λ (l : i < j). absurd (lt_irrefl (cycle_at r j) (omega (arith, above r up i j l other, e))))
    (λ (h : j ≤ i). ⊎_elim (λ (q : j ≡ i). sym q) (λ (l : j < i). absurd (lt_irrefl (cycle_at r i) (omega (arith, above r up j i l small, e)))) (eq-or-lt_of_le h))
    (lt-or-ge i j)

module _ (delay : ℕ) (wires cores : List ℕ) where
  -- ---- partners, by their numbers

  with-response : (i j : ℕ) → j < events_in cores → partners delay wires cores i j ≡ true → HasPartner delay wires cores (activate i)
  unfolding IsEvent word due is_activate
  with-response i j small e =
      record {
        other = response j;
        recorded = small;
        partners = record { other_kind = λ q. true≢false q; same_word = partners-word delay wires cores i j e; same_due = partners-due delay wires cores i j e };
      }

  with-activate : (i j : ℕ) → i < events_in wires → partners delay wires cores i j ≡ true → HasPartner delay wires cores (response j)
  unfolding IsEvent word due is_activate
  with-activate i j small e =
      record {
        other = activate i;
        recorded = small;
        partners = record { other_kind = λ q. false≢true q; same_word = sym (partners-word delay wires cores i j e); same_due = sym (partners-due delay wires cores i j e) };
      }

  -- and back
  the-response : (i : ℕ) (f : Event) → IsEvent delay wires cores f → Partners delay wires cores (activate i) f → (j : ℕ) × (j < events_in cores) × (partners delay wires cores i j ≡ true)
  unfolding IsEvent word due is_activate
  the-response i (activate k) small both = absurd (both.other_kind refl)
  the-response i (response j) small both = (j, small, are-partners delay wires cores i j both.same_word both.same_due)

  the-activate : (j : ℕ) (f : Event) → IsEvent delay wires cores f → Partners delay wires cores (response j) f → (i : ℕ) × (i < events_in wires) × (partners delay wires cores i j ≡ true)
  unfolding IsEvent word due is_activate
  the-activate j (activate i) small both = (i, small, are-partners delay wires cores i j (sym both.same_word) (sym both.same_due))
  the-activate j (response k) small both = absurd (both.other_kind refl)

  module _ (wires-rise : rises wires ≡ true) (cores-rise : rises cores ≡ true) where
    -- ---- the three ends

    -- an event in step has a partner
    in-step-activate : (k : ℕ) → InStep delay wires cores k → k ≤ events_in cores → (i : ℕ) → i < k → HasPartner delay wires cores (activate i)
    in-step-activate k steps inside i h = with-response i i (omega (arith, h, inside)) (steps i h)

    in-step-response : (k : ℕ) → InStep delay wires cores k → k ≤ events_in wires → (j : ℕ) → j < k → HasPartner delay wires cores (response j)
    in-step-response k steps inside j h = with-activate j j (omega (arith, h, inside)) (steps j h)

    -- an event that is due before one of its recording comes before it
    earlier : (r : List ℕ) → rises r ≡ true → (i k : ℕ) → i < events_in r → cycle_at r i < cycle_at r k → i < k
    earlier r up i k small l = ⊎_elim (λ (h : i < k). h) (λ (h : k ≤ i). absurd (lt_irrefl (cycle_at r i) (omega (arith, l, not_before r up k i h small)))) (lt-or-ge i k)

    -- what is taken before the activate at which they end
    before-activate : (k : ℕ) → InStep delay wires cores k → ActivateAt delay wires cores k → (f : Event) → IsEvent delay wires cores f → Before delay wires cores f (activate k) → HasPartner delay wires cores f
    unfolding IsEvent due is_activate
    before-activate k steps at (activate i) small before =
        ⊎_elim
        (λ l. in-step-activate k steps at.1 i (earlier wires wires-rise i k small (omega (arith, l))))
        (λ tie. absurd (true≢false tie.response_then))
        before
    before-activate k steps at (response j) small before =
        ⊎_elim
        (λ l.
        ⊎_elim
        (λ (h : j < k). in-step-response k steps (omega (arith, at.0)) j h)
        (λ (h : k ≤ j).
        let here = at.2 (omega (arith, h, small)) in
        absurd (lt_irrefl (cycle_at cores j) (omega (arith, l, here.1, not_before cores cores-rise k j h small))))
        (lt-or-ge j k))
        (λ tie. absurd (false≢true tie.activate_first))
        before

    first-activate : (k : ℕ) → InStep delay wires cores k → ActivateAt delay wires cores k → FirstWithout delay wires cores (activate k)
    unfolding IsEvent
    first-activate k steps at =
        record {
          is_recorded = at.0;
          no_partner = λ h. let w = the-response k h.other h.recorded h.partners in lone-activate delay wires cores wires-rise cores-rise k steps at w.0 w.1 w.2;
          before_have = before-activate k steps at;
        }

    -- what is taken before the response at which they end
    before-response : (k : ℕ) → InStep delay wires cores k → ResponseAt delay wires cores k → (f : Event) → IsEvent delay wires cores f → Before delay wires cores f (response k) → HasPartner delay wires cores f
    unfolding IsEvent due is_activate
    before-response k steps at (activate i) small before =
        let no-later : cycle_at wires i + delay ≤ cycle_at cores k = ⊎_elim (λ l. omega (arith, l)) (λ tie. omega (arith, tie.same_due)) before in
        ⊎_elim
        (λ (h : i < k). in-step-activate k steps (omega (arith, at.0)) i h)
        (λ (h : k ≤ i).
        let here = at.2 (omega (arith, h, small)) in
        absurd (lt_irrefl (cycle_at cores k) (omega (arith, no-later, here, not_before wires wires-rise k i h small))))
        (lt-or-ge i k)
    before-response k steps at (response j) small before =
        ⊎_elim (λ l. in-step-response k steps at.1 j (earlier cores cores-rise j k small l)) (λ tie. absurd (false≢true tie.activate_first)) before

    first-response : (k : ℕ) → InStep delay wires cores k → ResponseAt delay wires cores k → FirstWithout delay wires cores (response k)
    unfolding IsEvent
    first-response k steps at =
        record {
          is_recorded = at.0;
          no_partner = λ h. let w = the-activate k h.other h.recorded h.partners in lone-response delay wires cores wires-rise cores-rise k steps at w.0 w.1 w.2;
          before_have = before-response k steps at;
        }

    all_have : (k : ℕ) → InStep delay wires cores k → EndAt delay wires cores k → AllHave delay wires cores
    unfolding IsEvent
    all_have k steps at (activate i) small = in-step-activate k steps (omega (arith, at.1)) i (omega (arith, small, at.0))
    all_have k steps at (response j) small = in-step-response k steps (omega (arith, at.0)) j (omega (arith, small, at.1))

    -- the check names the first without a partner, or all have one
    abbrev Named : Type 0
    Named = ((e : Event) × FirstWithout delay wires cores e × (first_alone delay wires cores ≡ stands_at e)) ⊎ (AllHave delay wires cores × (first_alone delay wires cores ≡ None))

    names : Named
    unfolding stands_at
    names =
        let w = ends delay wires cores in
        let k = w.0 in
        let steps = w.1 in
        ⊎_elim
        (λ at. inl (activate k, first-activate k steps at, finds-activate delay wires cores wires-rise cores-rise k steps at))
        (λ other.
        ⊎_elim
        (λ at. inl (response k, first-response k steps at, finds-response delay wires cores wires-rise cores-rise k steps at))
        (λ at. inr (all_have k steps at, finds-none delay wires cores wires-rise cores-rise k steps at))
        other)
        w.2

    -- ---- there is one first, and one partner

    -- of two events that are due at once, one of each recording, with no partners, the activate is taken first
    tied : (i j : ℕ) → FirstWithout delay wires cores (activate i) → FirstWithout delay wires cores (response j) → (cycle_at wires i + delay ≡ cycle_at cores j) → ⊥
    unfolding IsEvent due word is_activate
    tied i j one two same =
        ⊎_elim
        (λ e. one.no_partner (with-response i j two.is_recorded (are-partners delay wires cores i j (eqb-true _ _ e) same)))
        (λ e. one.no_partner (two.before_have (activate i) one.is_recorded (inr (record { same_due = same; other_word = eqb-false _ _ e; activate_first = refl; response_then = refl }))))
        (either (eqb (word_at wires i) (word_at cores j)))

    due-at-once : (e f : Event) → FirstWithout delay wires cores e → FirstWithout delay wires cores f → due delay wires cores e ≡ due delay wires cores f → e ≡ f
    unfolding IsEvent due
    due-at-once (activate i) (activate k) one two same = let cycles : cycle_at wires i ≡ cycle_at wires k = omega (arith, same) in ap activate (same-cycle wires wires-rise i k one.is_recorded two.is_recorded cycles)
    due-at-once (activate i) (response j) one two same = absurd (tied i j one two same)
    due-at-once (response j) (activate i) one two same = absurd (tied i j two one (sym same))
    due-at-once (response j) (response k) one two same = ap response (same-cycle cores cores-rise j k one.is_recorded two.is_recorded same)

    one-first : (e f : Event) → FirstWithout delay wires cores e → FirstWithout delay wires cores f → e ≡ f
    one-first e f one two =
        ⊎_elim
        (λ (l : due delay wires cores e < due delay wires cores f). absurd (one.no_partner (two.before_have e one.is_recorded (inl l))))
        (λ (h : due delay wires cores f ≤ due delay wires cores e).
        ⊎_elim
        (λ (q : due delay wires cores f ≡ due delay wires cores e). due-at-once e f one two (sym q))
        (λ (l : due delay wires cores f < due delay wires cores e). absurd (two.no_partner (one.before_have f two.is_recorded (inl l))))
        (eq-or-lt_of_le h))
        (lt-or-ge (due delay wires cores e) (due delay wires cores f))

    one-kind : (f g : Event) → IsEvent delay wires cores f → IsEvent delay wires cores g → is_activate f ≡ is_activate g → due delay wires cores f ≡ due delay wires cores g → f ≡ g
    unfolding IsEvent due is_activate
    one-kind (activate i) (activate k) small other kind same = let cycles : cycle_at wires i ≡ cycle_at wires k = omega (arith, same) in ap activate (same-cycle wires wires-rise i k small other cycles)
    one-kind (activate i) (response j) small other kind same = absurd (true≢false kind)
    one-kind (response j) (activate i) small other kind same = absurd (false≢true kind)
    one-kind (response j) (response k) small other kind same = ap response (same-cycle cores cores-rise j k small other same)

    one_partner : (e f g : Event) → IsEvent delay wires cores f → IsEvent delay wires cores g → Partners delay wires cores e f → Partners delay wires cores e g → f ≡ g
    one_partner e f g small other one two =
        one-kind f g small other (third (is_activate e) (is_activate f) (is_activate g) one.other_kind two.other_kind) (sym one.same_due ∙ two.same_due)

  -- ---- all of it

  module _ (sound : soundness delay wires cores ≡ Ok tt) where
    wires-up : rises wires ≡ true
    wires-up = (wires-three delay wires (sound-both delay wires cores sound).0).1

    cores-up : rises cores ≡ true
    cores-up = (cores-two cores (sound-both delay wires cores sound).1).1

    is-alone : first_alone delay wires cores ≡ alone delay wires cores
    is-alone = alone-sound delay wires cores sound

    named : (e : Event) → alone delay wires cores ≡ stands_at e → FirstWithout delay wires cores e
    named e q =
        ⊎_elim
        (λ w. subst (FirstWithout delay wires cores) (same_place w.0 e (sym w.2 ∙ is-alone ∙ q)) w.1)
        (λ w. absurd (no_place e (sym q ∙ sym is-alone ∙ w.1)))
        (names wires-up cores-up)

    named_only : (e : Event) → FirstWithout delay wires cores e → alone delay wires cores ≡ stands_at e
    named_only e h =
        ⊎_elim
        (λ w. sym is-alone ∙ w.2 ∙ ap stands_at (one-first wires-up cores-up w.0 e w.1 h))
        (λ w. absurd (h.no_partner (w.0 e h.is_recorded)))
        (names wires-up cores-up)

    none : alone delay wires cores ≡ None → AllHave delay wires cores
    none q = ⊎_elim (λ w. absurd (no_place w.0 (sym w.2 ∙ is-alone ∙ q))) (λ w. w.0) (names wires-up cores-up)

    none_only : AllHave delay wires cores → alone delay wires cores ≡ None
    none_only all = ⊎_elim (λ w. absurd (w.1.no_partner (all w.0 w.1.is_recorded))) (λ w. sym is-alone ∙ w.1) (names wires-up cores-up)

    -- a rest that begins at an event is not empty
    some_left : (e : Event) → IsEvent delay wires cores e → (rest_of wires cores (stands_at e) ≡ []) → ⊥
    unfolding IsEvent rest_of stands_at
    some_left (activate i) small q = let long = within wires i small in lt_irrefl 0 (omega (arith, ap length q, length-drop (2 * i) wires, long))
    some_left (response j) small q = let long = within cores j small in lt_irrefl 0 (omega (arith, ap length q, length-drop (2 * j) cores, long))

    -- a rest that begins at an event's place begins at the event
    rest-is-from : (e : Event) → rest_of wires cores (stands_at e) ≡ rest_from delay wires cores e
    unfolding rest_of stands_at rest_from
    rest-is-from (activate i) = refl
    rest-is-from (response j) = refl

    begins : (e : Event) → FirstWithout delay wires cores e → unmatched delay wires cores ≡ rest_from delay wires cores e
    unfolding unmatched
    begins e h = ap (rest_of wires cores) (named_only e h) ∙ rest-is-from e

    first_or_none : ((e : Event) × FirstWithout delay wires cores e) ⊎ AllHave delay wires cores
    first_or_none = ⊎_elim (λ w. inl (w.0, w.1)) (λ w. inr w.0) (names wires-up cores-up)

    empty : unmatched delay wires cores ≡ [] → AllHave delay wires cores
    unfolding unmatched
    empty q =
        ⊎_elim (λ w. absurd (some_left w.0 w.1.is_recorded (ap (rest_of wires cores) (sym w.2 ∙ is-alone) ∙ q))) (λ w. w.0) (names wires-up cores-up)

    empty_only : AllHave delay wires cores → unmatched delay wires cores ≡ []
    unfolding unmatched rest_of
    empty_only all = ap (rest_of wires cores) (none_only all) ∙ drop-length wires

    matching : Matching delay wires cores
    matching =
        record {
          one_partner = one_partner wires-up cores-up;
          first_or_none = first_or_none;
          named = named;
          named_only = named_only;
          begins = begins;
          none = none;
          none_only = none_only;
          empty = empty;
          empty_only = empty_only;
        }

pub matches : Matches
matches delay wires cores sound = matching delay wires cores sound
