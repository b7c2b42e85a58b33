-- `scheduler::traversal::try_class` and `ascend` meet their contracts. What falls is the number of classes strictly above: a class that passes the turn on hands it to a
-- cover, and a cover has fewer above it. That the bound of the definition is never met is `enough`.
use mathlib.Core.Path.{◌≡◌, sym, ap, ◌∙◌, subst}
use mathlib.Core.Bool.{true, false}
use Prim.Native.Nat.{ℕ, ◌+◌, ◌≤◌, ◌<◌}
use native.Mathlib.Omega.{arith}
use lib.ListN.{get_or, set, length-set}
use Rattle.masks.specs.Mask.{nth}
use Rattle.order.specs.Order.{strictly_in, above_in}
use Rattle.basics.proofs.Below.{count-le}
use Rattle.masks.proofs.Masks.{member-small}
use Rattle.rules.specs.Traversal.{candidates, moved_pointer, passed_at, named, takes, Reached, ends_at, also_tried, try_class}
use Rattle.rules.proofs.Traversal.{named-covers, passes-on, try-takes, try-passes, falls as fewer-above, enough}
use Rattle.scheduler.proofs.traversal.+ascend_try_class.Goals as goal

-- one more before is one more in all
tried-again : (before : ℕ) (r : Reached) → also_tried (before + 1) r ≡ also_tried before (also_tried 1 r)
tried-again before r = let same : before + 1 + r.tried ≡ before + (1 + r.tried) = omega arith in ap (λ (n : ℕ). record { owner = r.owner; pointers = r.pointers; tried = n }) same

pub ascend-try_class-requires : goal.ascend-try_class-requires
unfolding named moved_pointer
ascend-try_class-requires t c =
    let rows = c.args.p.now.rows in
    let covers = c.args.p.now.covers in
    let pointers = c.args.pointers.now in
    let class = c.args.class in
    let order = c.requires.0 in
    let covered = named-covers covers pointers class (order.sets class) c.requires.4 in
    let next : c.nth-next.result ≡ named covers pointers class = c.nth-next.ensures ∙ ap (nth (get_or covers class 0)) c.moved-pointer.ensures in
    let less = subst (λ (j : ℕ). above_in rows j < above_in rows class) (sym next) (order.falls class (named covers pointers class) covered) in
    let small = subst (λ (j : ℕ). j < 16) (sym next) (member-small (get_or covers class 0) (named covers pointers class) (order.sets class) covered) in
    (omega (arith, c.decreases, less), (order, small, length-set pointers class c.moved-pointer.result ∙ c.requires.2, omega (arith, c.requires.3, less)))

pub ascend-returns : goal.ascend-returns
unfolding passed_at named moved_pointer
ascend-returns t c =
    let covers = c.args.p.now.covers in
    let pointers = c.args.pointers.now in
    let class = c.args.class in
    let all = candidates covers c.args.lengths.now c.args.left.now in
    let next : c.nth-next.result ≡ named covers pointers class = c.nth-next.ensures ∙ ap (nth (get_or covers class 0)) c.moved-pointer.ensures in
    let also : Reached → Reached = also_tried c.args.tried.now in
    c.try_class.ensures
    ∙ ap (λ (v : ℕ). also (try_class 16 all (set pointers class v) c.nth-next.result)) c.moved-pointer.ensures
    ∙ ap (λ (d : ℕ). also (try_class 16 all (passed_at covers pointers class) d)) next

pub try_class-returns-then-takes : goal.try_class-returns-then-takes
unfolding takes ends_at
try_class-returns-then-takes t c =
    let all = candidates c.args.p.now.covers c.args.lengths.now c.args.left.now in
    let here : takes all c.args.class ≡ true = sym c.takes.ensures ∙ c.if-takes.true in
    sym (ap (also_tried c.args.tried.now) (try-takes all 16 c.args.pointers.now c.args.class here))

pub try_class-ascend-requires : goal.try_class-ascend-requires
unfolding takes
try_class-ascend-requires t c =
    let all = candidates c.args.p.now.covers c.args.lengths.now c.args.left.now in
    let on : takes all c.args.class ≡ false = sym c.takes.ensures ∙ c.if-takes.false in
    (omega (arith, c.decreases), (c.requires.0, c.requires.1, c.requires.2, omega (arith, c.requires.3), passes-on all c.args.class on))

pub try_class-returns : goal.try_class-returns
unfolding takes above_in
try_class-returns t c =
    let covers = c.args.p.now.covers in
    let pointers = c.args.pointers.now in
    let class = c.args.class in
    let all = candidates covers c.args.lengths.now c.args.left.now in
    let on : takes all class ≡ false = sym c.takes.ensures ∙ c.if-takes.false in
    let below : above_in c.args.p.now.rows (named covers pointers class) ≤ 15 =
    omega (arith, fewer-above all c.args.p.now.rows c.requires.0 pointers class on, count-le (strictly_in c.args.p.now.rows class) 16)
    in
    let onward = try_class 15 all (passed_at covers pointers class) (named covers pointers class) in
    let also : Reached → Reached = also_tried c.args.tried.now in
    c.ascend.ensures
    ∙ ap (also_tried (c.args.tried.now + 1)) (sym (enough all c.args.p.now.rows c.requires.0 15 (passed_at covers pointers class) (named covers pointers class) below))
    ∙ tried-again c.args.tried.now onward
    ∙ sym (ap also (try-passes all 15 pointers class on))
