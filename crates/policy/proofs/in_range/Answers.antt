-- `policy::in_range` meets its contract: the definition, with what the callees promise; that the policy is shaped is what its types say.
use mathlib.Core.Path.{◌≡◌, ap, ap₂, ◌∙◌}
use mathlib.Core.Bool.{true, ◌&&◌}
use Prim.Native.Nat.{ℕ}
use Rattle.std.proofs.Common.{rules, tests}
use mir.Syntax.{w16}
use mir.Val.{Fits}
use lib.Dec.{eqb}
use lib.ListN.{get_or}
use Rattle.timing.specs.Timing.{within}
use Rattle.policy.specs.Policy.{shaped, refusal, in_range}
use Rattle.policy.proofs.Making.{is-shaped}
use Rattle.policy.proofs.Refusals.{taken-is-0}
use Rattle.policy.proofs.in_range.Goals as goal

pub returns : goal.returns
unfolding in_range within
returns c =
    let p = c.args.p in
    let few : c.contains.result ≡ within 1 p.classes 16 = search (rules, tests) in
    let taken : c.is_ok.result ≡ eqb (refusal p) 0 = c.is_ok.ensures.value ∙ taken-is-0 c.refusal.result ∙ ap (λ (k : ℕ). eqb k 0) c.refusal.ensures in
    let well-shaped : shaped p ≡ true = is-shaped p (search rules) (search rules) (search rules) (search rules) (λ i l. let fits : Fits w16 (get_or p.rows i 0) = search rules in fits.fits) in
    rw well-shaped (ap₂ ◌&&◌ (ap₂ ◌&&◌ few taken) c.all_stored_fits.ensures)
