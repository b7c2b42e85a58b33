-- `wires::driving::goes_at` meets its contract. The invariant: no request before the k-th may go, none of them before the tick `until`, which has not come, and the look goes past the oldest only where fewer than
-- may have passed it.
use Rattle.std.proofs.Common.{◌≡◌, ℕ, ◌+◌, ◌<◌, ◌≤◌, min, Bool, true, false, ◌||◌, eqb, ltb, sym, ap, ◌∙◌, subst, ap₂, ⊎_elim, lt_of_lt_of_le, not-suc-le-zero, lt_irrefl, add-one, arith, lt-ltb, eq-eqb, le-leb}
use Rattle.basics.proofs.Truth.{and_both, or_left, or_right}
use Rattle.basics.proofs.Below.{lt-or-ge, at-or-below}
use Rattle.basics.proofs.Loops.{missed-none, missed_more, found_at}
use Rattle.queues.specs.Waiting.{length_of, passed_of, waiting_at}
use Rattle.rules.specs.Step.{goes_at}
use Rattle.wires.specs.InPlace.{opens_by, Scannable}
use Rattle.wires.proofs.driving.goes_at.Invariants.{opens, may, may-is, shut, both-shut, held}
use Rattle.wires.proofs.driving.goes_at.Goals as goal
use Rattle.wires.proofs.driving.goes_at.Goals.{After-opens_of-opens}

-- nothing waits
pub returns-then-length-eq0-clause-looks : goal.returns-then-length-eq0-clause-looks
unfolding length_of
returns-then-length-eq0-clause-looks c g =
    (omega (arith, c.ranges.cycle.fits), λ t early k waits. absurd (not-suc-le-zero (subst (λ (n : ℕ). k < n) c.if-length-eq0.true waits)))

-- the last activate of all holds both kinds back
pub returns-then-now-first-clause-looks : goal.returns-then-now-first-clause-looks
returns-then-now-first-clause-looks c g =
    let a = c.args in
    let first-is = c.min-first.ensures ∙ ap₂ min c.kind_opens-read.ensures c.kind_opens-write.ensures in
    (c.if-now-first.true, λ t early k waits. both-shut a.timing a.class a.queues.now a.flight.now g t k waits (subst (λ (n : ℕ). t + 1 < n) first-is early))

-- ---- what the loop finds

-- the tick, counted from 1, at which the request that is looked at may go
abbrev opens-at : After-opens_of-opens → ℕ
opens-at c = opens c.args.timing c.args.class c.args.queues.now c.args.flight.now c.loop-k.k

abbrev may-go : After-opens_of-opens → ℕ → ℕ → Bool
may-go c = may c.args.timing c.args.class c.args.queues.now c.args.flight.now

-- it waits
waits : (c : After-opens_of-opens) → c.loop-k.k < length_of c.args.queues.now c.args.class
unfolding length_of
waits c = omega (arith, c.loop-k-test.true, c.min-k-end.ensures)

-- its tick, of the ticks worked out, is that of the definition
opens-is : (c : After-opens_of-opens) → opens_by c.args.timing c.args.flight.now.last c.kind_opens-read.result c.kind_opens-write.result c.args.flight.now.banks c.waiting_at-word.result ≡ opens-at c
opens-is c =
    let f = c.args.flight.now in
    ap (opens_by c.args.timing f.last c.kind_opens-read.result c.kind_opens-write.result f.banks) c.waiting_at-word.ensures
    ∙ ap₂ (λ (x y : ℕ). opens_by c.args.timing f.last x y f.banks (waiting_at c.args.queues.now c.args.class c.loop-k.k)) c.kind_opens-read.ensures c.kind_opens-write.ensures

-- what is handed back is no later than its tick, and where it has come so has that
no-later : (c : After-opens_of-opens) → c.opens_of-opens.result ≤ opens-at c
no-later c = subst (λ (n : ℕ). c.opens_of-opens.result ≤ n) (opens-is c) c.opens_of-opens.ensures.early

come : (c : After-opens_of-opens) → c.opens_of-opens.result ≤ c.args.cycle + 1 → opens-at c ≤ c.args.cycle + 1
come c now = subst (λ (n : ℕ). n ≤ c.args.cycle + 1) (opens-is c) (c.opens_of-opens.ensures.come now)

-- where that has not come, it may not go
not-it : (c : After-opens_of-opens) → Scannable c.args.queues.now c.args.class → (t : ℕ) → t + 1 < c.opens_of-opens.result → may-go c t c.loop-k.k ≡ false
not-it c g t early = shut c.args.timing c.args.class c.args.queues.now c.args.flight.now g t c.loop-k.k (waits c) (lt_of_lt_of_le early (no-later c))

pub loop-k-init : goal.loop-k-init
loop-k-init c = (λ given. (missed-none _ _, λ i l. absurd (not-suc-le-zero l)), (λ past. absurd (not-suc-le-zero past)), omega (arith, c.ranges.cycle.fits))

pub returns-then-opens-now-clause-waits : goal.returns-then-opens-now-clause-waits
returns-then-opens-now-clause-waits c = search (waits (goal.at.returns-then-opens-now-clause-waits c).After-opens_of-opens)

pub returns-then-opens-now-clause-looks : goal.returns-then-opens-now-clause-looks
unfolding goes_at
returns-then-opens-now-clause-looks c g =
    let a = c.args in
    let k = c.loop-k.k in
    let at = (goal.at.returns-then-opens-now-clause-looks c).After-opens_of-opens in
    let inv = c.loop-k.invariant in
    let passed = passed_of a.queues.now a.class in
    let passes : (eqb k 0 || ltb passed 15) ≡ true =
    ⊎_elim (λ past. or_right (eqb k 0) (ltb passed 15) (lt-ltb passed 15 (inv.1 past))) (λ oldest. or_left (eqb k 0) (ltb passed 15) (eq-eqb k 0 (omega (arith, oldest)))) (lt-or-ge 0 k)
    in
    found_at _ _ k (inv.0 g).0 (waits at)
    (may-is a.timing a.class a.queues.now a.flight.now g a.cycle k (waits at) ∙ and_both passes (le-leb (opens-at at) (a.cycle + 1) (come at c.if-opens-now.true)))

-- so many have passed the oldest that none but it may go
pub returns-then-queues-class-ge-MOST_PASSED-clause-looks : goal.returns-then-queues-class-ge-MOST_PASSED-clause-looks
unfolding passed_of
returns-then-queues-class-ge-MOST_PASSED-clause-looks c g =
    let a = c.args in
    let k = c.loop-k.k in
    let at = (goal.at.returns-then-queues-class-ge-MOST_PASSED-clause-looks c).After-opens_of-opens in
    let many = c.if-queues-class-ge-MOST_PASSED.true in
    let inv = c.loop-k.invariant in
    let oldest : k ≡ 0 = ⊎_elim (λ past. absurd (lt_irrefl 15 (omega (arith, inv.1 past, many)))) (λ first. omega (arith, first)) (lt-or-ge 0 k) in (
      omega (arith, c.min-until.ensures, c.if-opens-now.false, inv.2),
      λ t early i l.
          ⊎_elim
          (λ past. held a.timing a.class a.queues.now a.flight.now t i many past)
          (λ first. let same : k ≡ i = omega (arith, oldest, first) in subst (λ (n : ℕ). may-go at t n ≡ false) same (not-it at g t (omega (arith, early, c.min-until.ensures))))
          (lt-or-ge 0 i),
    )

pub loop-k-preserved : goal.loop-k-preserved
unfolding passed_of
loop-k-preserved c =
    let k = c.loop-k.k in
    let at = (goal.at.loop-k-preserved c).After-opens_of-opens in
    let inv = c.loop-k.invariant in
    let least = c.min-until.ensures in (
      λ g. (
        missed_more _ _ k (inv.0 g).0 (waits at) (not-it at g c.args.cycle (omega (arith, c.if-opens-now.false))),
        λ i l.
            ⊎_elim
            (λ here. subst (λ (n : ℕ). c.min-until.result ≤ opens c.args.timing c.args.class c.args.queues.now c.args.flight.now n) (sym here) (omega (arith, least, no-later at)))
            (λ before. omega (arith, least, (inv.0 g).1 i before))
            (at-or-below (subst (λ (n : ℕ). i < n) (add-one k) l)),
      ),
      (λ some. omega (arith, c.if-queues-class-ge-MOST_PASSED.false)),
      omega (arith, least, c.if-opens-now.false, inv.2),
    )

-- all have been looked at, since the queue is no longer than its ring
pub returns-clause-looks : goal.returns-clause-looks
unfolding length_of
returns-clause-looks c g =
    let a = c.args in
    let inv = c.loop-k.invariant in
    (inv.2, λ t early i l. shut a.timing a.class a.queues.now a.flight.now g t i l (omega (arith, early, (inv.0 g).1 i (omega (arith, l, g.short, c.loop-k-test.false, c.min-k-end.ensures)))))
