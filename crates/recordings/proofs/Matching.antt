-- The first event without a partner. Where cycles rise in both recordings, the first activates and responses come in step: the k-th of one is the k-th of the other's partner. At the first place where they do not, the one of the
-- two that is due first has none, since all others of the other recording are due before it or after it. So the code, which goes along both in step, finds what the definition says.
-- Assumes nothing.
use mathlib.Core.Path.{◌≡◌, refl, sym, ap, ap₂, ◌∙◌, subst}
use mathlib.Core.Logic.{◌⊎◌, inl, inr, ⊎_elim}
use mathlib.Core.Bool.{Bool, true, false, cond, not, ◌&&◌, ◌||◌}
use mathlib.Core.List.{List}
use Prim.Native.Nat.{ℕ, ◌+◌, ◌-◌, ◌*◌, ◌≤◌, ◌<◌, min}
use native.Mathlib.Nat.{lt_irrefl, eq-or-lt_of_le}
use native.Mathlib.Omega.{arith}
use borrow.Author.Tests.{eq-eqb, eqb-true, ltb-true, leb-true, leb-false, le-leb, lt-leb, lt-ltb, le-ltb}
use lib.Dec.{eqb, leb, ltb}
use Rattle.basics.specs.Below.{some, first}
use Rattle.basics.proofs.Truth.{either, false-unless, not-both, not-not, not-true, and_left, and_right, and_both, or_left, or_right}
use Rattle.basics.proofs.Below.{lt-or-ge, some_at, some-found, none-at, first-is, first-none, first_found, first_some}
use lib.ListN.{length, take, drop, length-drop}
use lib.Seq.{take_all}
use Rattle.recordings.specs.Recording.{events_in, cycle_at, word_at, rises, wires_sound, cores_sound, soundness}
use Rattle.recordings.specs.Match.{partners, activate_alone, response_alone, first_activate, first_response, taken_first, first_alone, alone}
use Rattle.std.specs.declared.result.Result.TheVariants.{Ok, Err}
use Rattle.recordings.specs.declared.Fault.{Fault}
use Rattle.recordings.specs.declared.Alone.{Alone}
use Rattle.std.specs.declared.option.Option.{Option}
use Rattle.std.specs.declared.option.Option.TheVariants.{None, Some}
use Rattle.recordings.specs.declared.Alone.TheVariants.{Activate, Response}
use Rattle.recordings.proofs.Recordings.{within, above, sound-both, unsound-one, wires-three, cores-two}

-- a test that fails at every number below a bound passes at none
some-fails : (f : ℕ → Bool) (n : ℕ) → ((i : ℕ) → i < n → f i ≡ false) → some n f ≡ false
some-fails f n h = false-unless (some n f) (λ t. let w = some-found f n t in not-both w.2 (h w.0 w.1))

-- the first that passes is no earlier than one up to which all fail
first-late : (f : ℕ → Bool) (n k : ℕ) → k ≤ n → ((i : ℕ) → i < k → f i ≡ false) → k ≤ first n f
first-late f n k within h =
    ⊎_elim
    (λ t.
    let w = first_found f n t in
    ⊎_elim (λ early. absurd (not-both w.passes (h (first n f) early))) (λ late. late) (lt-or-ge (first n f) k))
    (λ t. omega (arith, first-none f n t, within))
    (either (some n f))

-- no event has a later cycle than one behind it
pub not_before : (r : List ℕ) → rises r ≡ true → (i j : ℕ) → i ≤ j → j < events_in r → cycle_at r i ≤ cycle_at r j
not_before r up i j h small = ⊎_elim (λ (e : i ≡ j). subst (λ (k : ℕ). cycle_at r i ≤ cycle_at r k) e (omega arith)) (λ (l : i < j). omega (arith, above r up i j l small)) (eq-or-lt_of_le h)

-- a part from a place to the end is what is left behind that place
pub rest-is : (l : List ℕ) (at : ℕ) → take (length l - at) (drop at l) ≡ drop at l
rest-is l at = take_all (length l - at) (drop at l) (omega (arith, length-drop at l))

module _ (delay : ℕ) (wires cores : List ℕ) where
  -- what two partners have in common
  pub partners-word : (i j : ℕ) → partners delay wires cores i j ≡ true → word_at wires i ≡ word_at cores j
  unfolding partners
  partners-word i j e = eqb-true _ _ (and_left (eqb (word_at wires i) (word_at cores j)) (eqb (cycle_at wires i + delay) (cycle_at cores j)) e)

  pub partners-due : (i j : ℕ) → partners delay wires cores i j ≡ true → cycle_at wires i + delay ≡ cycle_at cores j
  unfolding partners
  partners-due i j e = eqb-true _ _ (and_right (eqb (word_at wires i) (word_at cores j)) (eqb (cycle_at wires i + delay) (cycle_at cores j)) e)

  pub are-partners : (i j : ℕ) → word_at wires i ≡ word_at cores j → cycle_at wires i + delay ≡ cycle_at cores j → partners delay wires cores i j ≡ true
  unfolding partners
  are-partners i j w d = and_both (eq-eqb _ _ w) (eq-eqb _ _ d)

  -- ---- what is handed back

  -- an unsound recording gets the empty rest
  pub alone-unsound : (f : Fault) → soundness delay wires cores ≡ Err f → None ≡ alone delay wires cores
  unfolding alone
  alone-unsound f e = rw (unsound-one delay wires cores f e) refl

  pub alone-sound : soundness delay wires cores ≡ Ok tt → first_alone delay wires cores ≡ alone delay wires cores
  unfolding alone
  alone-sound e = let both = sound-both delay wires cores e in rw (both.0, both.1) refl

  -- a place stands within its recording
  unfoldable pub Within : Option Alone → Type 0
  Within None = Unit {0}
  Within (Some (Activate at)) = at + 2 ≤ length wires
  Within (Some (Response at)) = at + 2 ≤ length cores

  first-within : Within (first_alone delay wires cores)
  unfolding first_alone Within taken_first
  first-within =
      let i = first_activate delay wires cores in
      let j = first_response delay wires cores in
      ⊎_elim
      (λ (t : taken_first delay wires cores i j ≡ true).
      let small = ltb-true i (events_in wires) (and_left (ltb i (events_in wires)) (leb (events_in cores) j || leb (cycle_at wires i + delay) (cycle_at cores j)) t) in
      subst Within (sym (ap (λ (b : Bool). cond b (Some (Activate (2 * i))) (cond (ltb j (events_in cores)) (Some (Response (2 * j))) None)) t)) (within wires i small))
      (λ (t : taken_first delay wires cores i j ≡ false).
      subst Within (sym (ap (λ (b : Bool). cond b (Some (Activate (2 * i))) (cond (ltb j (events_in cores)) (Some (Response (2 * j))) None)) t))
      (⊎_elim
      (λ (u : ltb j (events_in cores) ≡ true). subst Within (sym (ap (λ (b : Bool). cond b (Some (Response (2 * j))) None) u)) (within cores j (ltb-true j (events_in cores) u)))
      (λ (u : ltb j (events_in cores) ≡ false). subst Within (sym (ap (λ (b : Bool). cond b (Some (Response (2 * j))) None) u)) tt)
      (either (ltb j (events_in cores)))))
      (either (taken_first delay wires cores i j))

  pub alone-within : Within (alone delay wires cores)
  unfolding alone Within
  alone-within =
      ⊎_elim
      (λ (t : (wires_sound delay wires && cores_sound cores) ≡ true). subst Within (sym (ap (λ (b : Bool). cond b (first_alone delay wires cores) None) t)) first-within)
      (λ (t : (wires_sound delay wires && cores_sound cores) ≡ false). subst Within (sym (ap (λ (b : Bool). cond b (first_alone delay wires cores) None) t)) tt)
      (either (wires_sound delay wires && cores_sound cores))

  pub activate-within : (at : ℕ) → alone delay wires cores ≡ Some (Activate at) → at + 2 ≤ length wires
  unfolding Within
  activate-within at e = subst Within e alone-within

  pub response-within : (at : ℕ) → alone delay wires cores ≡ Some (Response at) → at + 2 ≤ length cores
  unfolding Within
  response-within at e = subst Within e alone-within

  -- the first k come in step
  abbrev pub InStep : ℕ → Type 0
  InStep k = (i : ℕ) → i < k → partners delay wires cores i i ≡ true

  -- and there the activate is due no later than the response, if there is one, which is no partner of it
  abbrev pub ActivateAt : ℕ → Type 0
  ActivateAt k = (k < events_in wires) × (k ≤ events_in cores) × (k < events_in cores → (partners delay wires cores k k ≡ false) × (cycle_at wires k + delay ≤ cycle_at cores k))

  -- or the response is due before the activate, if there is one
  abbrev pub ResponseAt : ℕ → Type 0
  ResponseAt k = (k < events_in cores) × (k ≤ events_in wires) × (k < events_in wires → cycle_at cores k < cycle_at wires k + delay)

  -- or there are no more
  abbrev pub EndAt : ℕ → Type 0
  EndAt k = (events_in wires ≡ k) × (events_in cores ≡ k)

  -- events in step have partners
  step-activate : (k : ℕ) → InStep k → k ≤ events_in cores → (i : ℕ) → i < k → activate_alone delay wires cores i ≡ false
  unfolding activate_alone
  step-activate k steps within i h = ap not (some_at (partners delay wires cores i) (events_in cores) i (omega (arith, h, within)) (steps i h))

  step-response : (k : ℕ) → InStep k → k ≤ events_in wires → (j : ℕ) → j < k → response_alone delay wires cores j ≡ false
  unfolding response_alone
  step-response k steps within j h = ap not (some_at (λ i. partners delay wires cores i j) (events_in wires) j (omega (arith, h, within)) (steps j h))

  module _ (wires-rise : rises wires ≡ true) (cores-rise : rises cores ≡ true) where
    -- ---- the one that is due first has no partner

    pub lone-activate : (k : ℕ) → InStep k → ActivateAt k → (j : ℕ) → j < events_in cores → partners delay wires cores k j ≡ true → ⊥
    lone-activate k steps at j small e =
        let same = partners-due k j e in
        ⊎_elim
        (λ (early : j < k). let step = partners-due j j (steps j early) in let up = above wires wires-rise j k early at.0 in lt_irrefl (cycle_at cores j) (omega (arith, same, step, up)))
        (λ (late : k ≤ j).
        let here = at.2 (omega (arith, late, small)) in
        ⊎_elim
        (λ (eq : k ≡ j). not-both e (subst (λ (m : ℕ). partners delay wires cores k m ≡ false) eq here.0))
        (λ (l : k < j). let up = above cores cores-rise k j l small in lt_irrefl (cycle_at cores j) (omega (arith, same, here.1, up)))
        (eq-or-lt_of_le late))
        (lt-or-ge j k)

    pub lone-response : (k : ℕ) → InStep k → ResponseAt k → (i : ℕ) → i < events_in wires → partners delay wires cores i k ≡ true → ⊥
    lone-response k steps at i small e =
        let same = partners-due i k e in
        ⊎_elim
        (λ (early : i < k). let step = partners-due i i (steps i early) in let up = above cores cores-rise i k early at.0 in lt_irrefl (cycle_at cores k) (omega (arith, same, step, up)))
        (λ (late : k ≤ i).
        let here = at.2 (omega (arith, late, small)) in
        let up = not_before wires wires-rise k i late small in
        lt_irrefl (cycle_at cores k) (omega (arith, same, here, up)))
        (lt-or-ge i k)

    -- ---- so it is what the definition finds

    pub finds-activate : (k : ℕ) → InStep k → ActivateAt k → first_alone delay wires cores ≡ Some (Activate (2 * k))
    unfolding first_alone taken_first first_activate first_response activate_alone
    finds-activate k steps at =
        let alone : activate_alone delay wires cores k ≡ true = ap not (some-fails (partners delay wires cores k) (events_in cores) (λ j small. false-unless (partners delay wires cores k j) (lone-activate k steps at j small))) in
        let i : first_activate delay wires cores ≡ k = first-is (activate_alone delay wires cores) (events_in wires) k at.0 (some-fails (activate_alone delay wires cores) k (step-activate k steps at.1)) alone in
        let j = first_response delay wires cores in
        let late : k ≤ j = first-late (response_alone delay wires cores) (events_in cores) k at.1 (step-response k steps (omega (arith, at.0))) in
        let wins : taken_first delay wires cores k j ≡ true =
        and_both (lt-ltb k (events_in wires) at.0)
        (⊎_elim
        (λ (small : j < events_in cores).
        let here = at.2 (omega (arith, late, small)) in
        or_right (leb (events_in cores) j) (leb (cycle_at wires k + delay) (cycle_at cores j)) (le-leb (cycle_at wires k + delay) (cycle_at cores j) (omega (arith, here.1, not_before cores cores-rise k j late small))))
        (λ (past : events_in cores ≤ j). or_left (leb (events_in cores) j) (leb (cycle_at wires k + delay) (cycle_at cores j)) (le-leb (events_in cores) j past))
        (lt-or-ge j (events_in cores)))
        in
        ap (λ (n : ℕ). cond (taken_first delay wires cores n j) (Some (Activate (2 * n))) (cond (ltb j (events_in cores)) (Some (Response (2 * j))) None)) i
        ∙ ap (λ (b : Bool). cond b (Some (Activate (2 * k))) (cond (ltb j (events_in cores)) (Some (Response (2 * j))) None)) wins

    pub finds-response : (k : ℕ) → InStep k → ResponseAt k → first_alone delay wires cores ≡ Some (Response (2 * k))
    unfolding first_alone taken_first first_activate first_response response_alone
    finds-response k steps at =
        let alone : response_alone delay wires cores k ≡ true = ap not (some-fails (λ i. partners delay wires cores i k) (events_in wires) (λ i small. false-unless (partners delay wires cores i k) (lone-response k steps at i small))) in
        let j : first_response delay wires cores ≡ k = first-is (response_alone delay wires cores) (events_in cores) k at.0 (some-fails (response_alone delay wires cores) k (step-response k steps at.1)) alone in
        let i = first_activate delay wires cores in
        let late : k ≤ i = first-late (activate_alone delay wires cores) (events_in wires) k at.1 (step-activate k steps (omega (arith, at.0))) in
        let loses : taken_first delay wires cores i k ≡ false =
        false-unless (taken_first delay wires cores i k)
        (λ e.
        let small : i < events_in wires = ltb-true i (events_in wires) (and_left (ltb i (events_in wires)) (leb (events_in cores) k || leb (cycle_at wires i + delay) (cycle_at cores k)) e) in
        let here = at.2 (omega (arith, late, small)) in
        let up = not_before wires wires-rise k i late small in
        not-both (and_right (ltb i (events_in wires)) (leb (events_in cores) k || leb (cycle_at wires i + delay) (cycle_at cores k)) e) (ap₂ ◌||◌ (lt-leb (events_in cores) k at.0) (lt-leb (cycle_at wires i + delay) (cycle_at cores k) (omega (arith, here, up)))))
        in
        ap (λ (n : ℕ). cond (taken_first delay wires cores i n) (Some (Activate (2 * i))) (cond (ltb n (events_in cores)) (Some (Response (2 * n))) None)) j
        ∙ ap (λ (b : Bool). cond b (Some (Activate (2 * i))) (cond (ltb k (events_in cores)) (Some (Response (2 * k))) None)) loses
        ∙ ap (λ (b : Bool). cond b (Some (Response (2 * k))) None) (lt-ltb k (events_in cores) at.0)

    pub finds-none : (k : ℕ) → InStep k → EndAt k → first_alone delay wires cores ≡ None
    unfolding first_alone taken_first first_activate first_response
    finds-none k steps at =
        let none-a : some (events_in wires) (activate_alone delay wires cores) ≡ false = some-fails (activate_alone delay wires cores) (events_in wires) (λ i h. step-activate k steps (omega (arith, at.1)) i (omega (arith, h, at.0))) in
        let none-r : some (events_in cores) (response_alone delay wires cores) ≡ false = some-fails (response_alone delay wires cores) (events_in cores) (λ j h. step-response k steps (omega (arith, at.0)) j (omega (arith, h, at.1))) in
        let i : first_activate delay wires cores ≡ events_in wires = first-none (activate_alone delay wires cores) (events_in wires) none-a in
        let j : first_response delay wires cores ≡ events_in cores = first-none (response_alone delay wires cores) (events_in cores) none-r in
        rw (i, j, le-ltb (events_in wires) (events_in wires) (omega arith), le-ltb (events_in cores) (events_in cores) (omega arith))

  -- ---- what the code finds, going along both in step up to the end of the shorter

  abbrev apart : ℕ → Bool
  apart j = not (partners delay wires cores j j)

  steps : (n : ℕ) → InStep (first n apart)
  steps n i h =
      not-not (partners delay wires cores i i)
      (⊎_elim (λ t. (first_found apart n t).fails_before i h) (λ t. none-at apart n t i (omega (arith, h, first-none apart n t))) (either (some n apart)))

  -- none is apart
  all-steps : (n k : ℕ) → k ≡ first n apart → n ≤ k → InStep n
  all-steps n k e h i small = steps n i (omega (arith, e, h, small))

  -- the first that is apart
  module _ (n k : ℕ) (in-wires : n ≤ events_in wires) (in-cores : n ≤ events_in cores) (e : k ≡ first n apart) (h : k < n) where
    so_far : InStep k
    so_far = subst InStep (sym e) (steps n)

    here : partners delay wires cores k k ≡ false
    here =
        let found : some n apart ≡ true = sym (first_some apart n) ∙ lt-ltb (first n apart) n (omega (arith, e, h)) in
        not-true (partners delay wires cores k k) (ap apart e ∙ (first_found apart n found).passes)

    apart-activate : leb (cycle_at wires k + delay) (cycle_at cores k) ≡ true → ActivateAt k
    apart-activate t = (omega (arith, h, in-wires), omega (arith, h, in-cores), λ small. (here, leb-true _ _ t))

    apart-response : leb (cycle_at wires k + delay) (cycle_at cores k) ≡ false → ResponseAt k
    apart-response t = (omega (arith, h, in-cores), omega (arith, h, in-wires), λ small. leb-false _ _ t)

  -- or one recording is longer
  module _ (n : ℕ) (shorter : n ≡ min (events_in wires) (events_in cores)) where
    longer-activate : n < events_in wires → ActivateAt n
    longer-activate l = (l, omega (arith, shorter), λ small. absurd (lt_irrefl n (omega (arith, shorter, small, l))))

    longer-response : events_in wires ≤ n → n < events_in cores → ResponseAt n
    longer-response s l = (l, omega (arith, shorter), λ small. absurd (lt_irrefl n (omega (arith, small, s))))

    both_end : events_in wires ≤ n → events_in cores ≤ n → EndAt n
    both_end s t = (omega (arith, shorter, s), omega (arith, shorter, t))

  -- so there is a place up to which they come in step, and where one event is first, or none
  pub ends : (k : ℕ) × InStep k × (ActivateAt k ⊎ (ResponseAt k ⊎ EndAt k))
  ends =
      let n = min (events_in wires) (events_in cores) in
      let k = first n apart in
      let in-wires : n ≤ events_in wires = omega arith in
      let in-cores : n ≤ events_in cores = omega arith in
      ⊎_elim
      (λ (h : k < n). (
        k,
        steps n,
        ⊎_elim (λ t. inl (apart-activate n k in-wires in-cores refl h t)) (λ t. inr (inl (apart-response n k in-wires in-cores refl h t))) (either (leb (cycle_at wires k + delay) (cycle_at cores k))),
      ))
      (λ (h : n ≤ k). (
        n,
        all-steps n k refl h,
        ⊎_elim (λ (l : n < events_in wires). inl (longer-activate n refl l))
            (λ (s : events_in wires ≤ n). inr (⊎_elim (λ (l : n < events_in cores). inl (longer-response n refl s l)) (λ (t : events_in cores ≤ n). inr (both_end n refl s t)) (lt-or-ge n (events_in cores))))
            (lt-or-ge n (events_in wires)),
      ))
      (lt-or-ge k n)

  -- where both are sound: the one that is apart, or the first of the longer one's rest, or none
  module _ (sound : soundness delay wires cores ≡ Ok tt) (n k : ℕ) (shorter : n ≡ min (events_in wires) (events_in cores)) (e : k ≡ first n apart) where
    wires-up : rises wires ≡ true
    wires-up = (wires-three delay wires (sound-both delay wires cores sound).0).1

    cores-up : rises cores ≡ true
    cores-up = (cores-two cores (sound-both delay wires cores sound).1).1

    is-alone : first_alone delay wires cores ≡ alone delay wires cores
    is-alone = alone-sound sound

    pub odds : k < n → Some (cond (leb (cycle_at wires k + delay) (cycle_at cores k)) (Activate (2 * k)) (Response (2 * k))) ≡ alone delay wires cores
    odds h =
        let in-wires : n ≤ events_in wires = omega (arith, shorter) in
        let in-cores : n ≤ events_in cores = omega (arith, shorter) in
        let steps-to = so_far n k in-wires in-cores e h in
        ⊎_elim
        (λ (t : leb (cycle_at wires k + delay) (cycle_at cores k) ≡ true). rw t (sym (finds-activate wires-up cores-up k steps-to (apart-activate n k in-wires in-cores e h t)) ∙ is-alone))
        (λ (t : leb (cycle_at wires k + delay) (cycle_at cores k) ≡ false). rw t (sym (finds-response wires-up cores-up k steps-to (apart-response n k in-wires in-cores e h t)) ∙ is-alone))
        (either (leb (cycle_at wires k + delay) (cycle_at cores k)))

    module _ (h : n ≤ k) where
      pub wires_longer : n < events_in wires → Some (Activate (2 * n)) ≡ alone delay wires cores
      wires_longer l = sym (finds-activate wires-up cores-up n (all-steps n k e h) (longer-activate n shorter l)) ∙ is-alone

      pub cores_longer : events_in wires ≤ n → n < events_in cores → Some (Response (2 * n)) ≡ alone delay wires cores
      cores_longer s l = sym (finds-response wires-up cores-up n (all-steps n k e h) (longer-response n shorter s l)) ∙ is-alone

      pub none_longer : events_in wires ≤ n → events_in cores ≤ n → None ≡ alone delay wires cores
      none_longer s t = sym (finds-none wires-up cores-up n (all-steps n k e h) (both_end n shorter s t)) ∙ is-alone

-- what `unmatched` goes by
pub ruleset rest = (rest-is, activate-within, response-within)
