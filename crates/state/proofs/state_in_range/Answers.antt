-- `state::state_in_range` meets its contract: the definition, with what the callees promise; that the state is shaped is what its types say.
use mathlib.Core.Path.{◌≡◌, sym, ◌∙◌}
use mathlib.Core.Bool.{true}
use borrow.Author.Rules.{rules}
use borrow.Author.Tests.{eq-eqb}
use lib.ListN.{length}
use Rattle.basics.proofs.Truth.{and_both}
use Rattle.state.specs.Range.{shaped, state_in_range}
use Rattle.state.proofs.state_in_range.Goals as goal
use Rattle.state.proofs.state_in_range.Goals.{Start}

-- (The state has too many fields for a search to enter them all: it is handed what is known of the turns, and of what is in flight.)
well-shaped : (c : Start) → shaped c.args.s ≡ true
unfolding shaped
well-shaped c =
    let s = c.args.s in
    let slots : length s.queues.slots ≡ 128 = search rules in
    let heads : length s.queues.heads ≡ 16 = search rules in
    let lengths : length s.queues.lengths ≡ 16 = search rules in
    let passed : length s.queues.passed ≡ 16 = search rules in
    let left : length s.turns.left ≡ 16 = search rules in
    let pointers : length s.turns.pointers ≡ 16 = search (rules, c.well_formed.0.1.1.1.1.1.0) in
    let columns : length s.flight.columns ≡ 32 = search (rules, c.well_formed.0.1.1.1.1.1.1) in
    let responses : length s.flight.responses ≡ 32 = search (rules, c.well_formed.0.1.1.1.1.1.1) in
    let banks : length s.flight.banks ≡ 32 = search (rules, c.well_formed.0.1.1.1.1.1.1) in
    and_both
    (and_both
    (and_both
    (and_both (and_both (and_both (and_both (and_both (eq-eqb _ 128 slots) (eq-eqb _ 16 heads)) (eq-eqb _ 16 lengths)) (eq-eqb _ 16 passed)) (eq-eqb _ 16 left)) (eq-eqb _ 16 pointers))
    (eq-eqb _ 32 columns))
    (eq-eqb _ 32 responses))
    (eq-eqb _ 32 banks)

pub returns-then-counts_in_range : goal.returns-then-counts_in_range
unfolding state_in_range
returns-then-counts_in_range c =
    rw (well-shaped (goal.at.returns-then-counts_in_range c).Start, sym c.counts_in_range.ensures ∙ c.if-counts_in_range.true, c.flight_in_range.ensures, c.turns_in_range.ensures, c.queues_in_range.ensures)

pub returns-else-counts_in_range : goal.returns-else-counts_in_range
unfolding state_in_range
returns-else-counts_in_range c =
    rw (well-shaped (goal.at.returns-else-counts_in_range c).Start, sym c.counts_in_range.ensures ∙ c.if-counts_in_range.false) c.if-counts_in_range.false
