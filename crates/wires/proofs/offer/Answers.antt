-- `wires::offer` meets its contract: each return has the number of the first test that fails, and only an offer that none refuses is stored.
use Rattle.std.proofs.Common.{◌≡◌, ◌<◌, true, sym, refl, ◌∙◌, arith, le-ltb, lt-ltb}
use Rattle.order.specs.Laws.{SmallClasses}
use Rattle.requests.specs.Word.{class_fits, bank_kind_rank_fit}
use Rattle.rules.specs.Queue.{offer_status}
use Rattle.wires.proofs.offer.Goals as goal
use Rattle.wires.proofs.offer.Goals.{Else-not-bank_kind_rank_fit, Else-not-class_fits}

-- 9 does not refuse it
fits : (c : Else-not-class_fits) → class_fits c.args.classes c.args.r ≡ true
fits c = sym c.class_fits.ensures ∙ c.if-not-class_fits.false

small : (c : Else-not-class_fits) → SmallClasses c.args.classes → c.args.r.class < 16
unfolding class_fits
small c classes = classes c.args.r.class (fits c)

-- 10 does not refuse it
right : (c : Else-not-bank_kind_rank_fit) → bank_kind_rank_fit c.args.ranks c.args.r ≡ true
right c = sym c.bank_kind_rank_fit.ensures ∙ c.if-not-bank_kind_rank_fit.false

pub returns-then-not-class_fits : goal.returns-then-not-class_fits
unfolding offer_status
returns-then-not-class_fits c = record { status = λ classes. rw (sym c.class_fits.ensures ∙ c.if-not-class_fits.true); queued = refl }

-- no such class comes so far, where classes are small
pub returns-then-class-ge16 : goal.returns-then-class-ge16
returns-then-class-ge16 c = record { status = λ classes. absurd (omega (arith, small (goal.at.returns-then-class-ge16 c).Else-not-class_fits classes, c.if-class-ge16.true)); queued = refl }

pub returns-then-not-bank_kind_rank_fit : goal.returns-then-not-bank_kind_rank_fit
unfolding offer_status
returns-then-not-bank_kind_rank_fit c = record { status = λ classes. rw (fits (goal.at.returns-then-not-bank_kind_rank_fit c).Else-not-class_fits, sym c.bank_kind_rank_fit.ensures ∙ c.if-not-bank_kind_rank_fit.true); queued = refl }

pub returns-then-queues-class-ge-RING_PLACES : goal.returns-then-queues-class-ge-RING_PLACES
unfolding offer_status
returns-then-queues-class-ge-RING_PLACES c = record { status = λ classes. rw (fits (goal.at.returns-then-queues-class-ge-RING_PLACES c).Else-not-class_fits, right (goal.at.returns-then-queues-class-ge-RING_PLACES c).Else-not-bank_kind_rank_fit, le-ltb _ 8 c.if-queues-class-ge-RING_PLACES.true); queued = refl }

pub returns : goal.returns
unfolding offer_status
returns c = record { status = λ classes. rw (fits (goal.at.returns c).Else-not-class_fits, right (goal.at.returns c).Else-not-bank_kind_rank_fit, lt-ltb _ 8 c.if-queues-class-ge-RING_PLACES.false); queued = c.enqueue.ensures }
