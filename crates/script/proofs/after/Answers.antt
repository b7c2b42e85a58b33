-- The place that the library's `find` gives is the first that passes, from the start on, and lies within the text.
use Rattle.std.proofs.Common.{◌≡◌, refl, sym, ap, ◌∙◌, subst, Bool, true, false, List, ℕ, ◌+◌, ◌-◌, ◌≤◌, ◌<◌, arith, rules, tests, length}
use Rattle.std.specs.Iterator.{FindsItem}
use Rattle.std.specs.Option.{MatchOption}
use Rattle.std.specs.declared.ops.Range.{Range}
use Rattle.std.specs.declared.option.Option.{Option}
use Rattle.std.specs.declared.option.Option.TheVariants.{None, Some}
use Rattle.std.proofs.lemmas.Iterator.{first_from_Range}
use borrow.Author.Tests.{lt-ltb, le-ltb}
use denote.Ref.{Bor}
use denote.Param.Members.{Mut}
use Rattle.basics.specs.Below.{some}
use Rattle.basics.proofs.Below.{some-found, first-is, first-none}
use Rattle.basics.proofs.Ranges.{steps, TestsAt}
use Rattle.basics.proofs.Truth.{false-unless, not-both}
use Rattle.script.specs.Script.{stands_at, found_from, after}
use Rattle.script.proofs.after.Goals as goal

-- no place passes from one on, below another
abbrev Fails : (ℕ → Bool) → ℕ → ℕ → Type 0
Fails f from end = (k : ℕ) → from ≤ k → k < end → false ≡ f k

-- a place is the first that passes, from one on, below another
abbrev IsFirst : (ℕ → Bool) → ℕ → ℕ → ℕ → Type 0
IsFirst f from end i = (from ≤ i) × (i < end) × (true ≡ f i) × Fails f from i

found : {F : Type 0} {g : Mut F (Bor ℕ × Unit {0}) Bool} (f : ℕ → Bool) (from end : ℕ) {r : Option ℕ} (s : Option ℕ) (h : F) (u : Range ℕ) → r ≡ s → FindsItem steps g (record { start = from; end = end }) h r u → TestsAt g h f → MatchOption s (Fails f from end) (IsFirst f from end)
found f from end {r} s h u is ran tests =
    subst (λ o. MatchOption o (Fails f from end) (IsFirst f from end)) is
    (first_from_Range (record { start = from; end = end }) u h r (λ x. true ≡ f x) (λ x. false ≡ f x) ran (λ x q c. (tests x true q c).1) (λ x q. tests x false q))

-- no distance passes where no place does
none-within : (f : ℕ → Bool) (from n : ℕ) → Fails f from (from + n) → some n (λ d. f (from + d)) ≡ false
none-within f from n h =
    false-unless (some n (λ d. f (from + d))) (λ t. let w = some-found (λ d. f (from + d)) n t in not-both w.2 (sym (h (from + w.0) (omega arith) (omega (arith, w.1)))))

at-first : (text : List ℕ) (from wanted unwanted i : ℕ) → IsFirst (stands_at text wanted unwanted) from (length text) i → i + 1 ≡ after text from wanted unwanted
unfolding after found_from
at-first text from wanted unwanted i h =
    let f = stands_at text wanted unwanted in
    let d = i - from in
    let there : from + d ≡ i = omega (arith, h.0) in
    let before = none-within f from d (λ k l m. h.3 k l (omega (arith, there, m))) in
    let is = first-is (λ d. f (from + d)) (length text - from) d (omega (arith, h.0, h.1)) before (ap f there ∙ sym h.2) in
    rw (is, there, lt-ltb i (length text) h.1) refl

past-all : (text : List ℕ) (from wanted unwanted : ℕ) → Fails (stands_at text wanted unwanted) from (length text) → length text ≡ after text from wanted unwanted
unfolding after found_from
past-all text from wanted unwanted h =
    let f = stands_at text wanted unwanted in
    let n = length text - from in
    let is = first-none (λ d. f (from + d)) n (none-within f from n (λ k l m. h k l (omega (arith, l, m)))) in
    let past : length text ≤ from + n = omega arith in
    rw (is, le-ltb (from + n) (length text) past) refl

pub overflow_add-result : goal.overflow_add-result
overflow_add-result c =
    let a = c.args in
    let h = found (stands_at a.text.now a.wanted a.unwanted) _ _ (Some c.in-Some.at) _ _ c.in-Some.is c.find.ensures.ran (λ x b q k. search (rules, tests)) in
    omega (arith, h.1)

pub returns-in-Some-clause-place : goal.returns-in-Some-clause-place
returns-in-Some-clause-place c =
    let a = c.args in
    at-first a.text.now a.from a.wanted a.unwanted c.in-Some.at (found (stands_at a.text.now a.wanted a.unwanted) _ _ (Some c.in-Some.at) _ _ c.in-Some.is c.find.ensures.ran (λ x b q k. search (rules, tests)))

pub returns-in-None-clause-place : goal.returns-in-None-clause-place
returns-in-None-clause-place c =
    let a = c.args in
    past-all a.text.now a.from a.wanted a.unwanted (found (stands_at a.text.now a.wanted a.unwanted) _ _ None _ _ c.in-None.is c.find.ensures.ran (λ x b q k. search (rules, tests)))
