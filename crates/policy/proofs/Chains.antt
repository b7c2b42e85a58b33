-- The laws of the longest rising chains, of every policy that has those of the order, of the least class, of the covers and of how many are above. The first is that of any order
-- in which that number falls; the others follow from it, since a class in front of a chain from a class strictly above it makes a chain of one more.
-- Assumes nothing.
use mathlib.Core.Path.{◌≡◌, sym, ap, ◌∙◌}
use mathlib.Core.Logic.{◌⊎◌, inl, inr, ⊎_elim}
use mathlib.Core.Bool.{true, false}
use mathlib.Core.List.{List, [], ◌∷◌}
use Prim.Native.Nat.{ℕ, ◌+◌, ◌≤◌, ◌<◌}
use native.Mathlib.Nat.{le_refl, not-suc-le-zero}
use native.Mathlib.Omega.{arith}
use borrow.Author.Tests.{eqb-true, eq-eqb}
use lib.Dec.{eqb}
use lib.ListN.{length}
use Rattle.basics.specs.Below.{some}
use Rattle.masks.specs.Mask.{member}
use Rattle.order.specs.Order.{strictly_in}
use Rattle.order.specs.Chains.{rising, Longest}
use Rattle.policy.specs.Policy.{Bound, is_class, flows, strictly, least, above, covers_of, in_range, walk_bound, bound_status, bound_for, longest_walk}
use Rattle.policy.specs.Laws.{OrderLaws, LeastLaws, CoverLaws, AboveLaws, ChainLaws}
use Rattle.policy.specs.declared.Policy.{Policy}
use Rattle.basics.proofs.Truth.{either, false-unless, not-both, and_left, and_right, and_both}
use Rattle.basics.proofs.Below.{some-found}
use Rattle.masks.proofs.Masks.{no-members}
use Rattle.order.proofs.Orders as orders
use Rattle.order.proofs.Chains as chains

-- ---- the answers

module _ (p : Policy) where
  pub refused-13 : (c : ℕ) → in_range p ≡ false → bound_for p c ≡ record { status = 13; classes = 0 }
  unfolding bound_for bound_status
  refused-13 c e = rw e

  pub refused-9 : (c : ℕ) → in_range p ≡ true → is_class p c ≡ false → bound_for p c ≡ record { status = 9; classes = 0 }
  unfolding bound_for bound_status
  refused-9 c given e = rw (given, e)

  pub answered : (c : ℕ) → in_range p ≡ true → is_class p c ≡ true → bound_for p c ≡ record { status = 0; classes = walk_bound p c }
  unfolding bound_for bound_status
  answered c given l = rw (given, l)

  -- where the least class is a class, its answer is that of the longest walk
  pub of-least : ((in_range p ≡ true) → is_class p (least p) ≡ true) → bound_for p (least p) ≡ longest_walk p
  unfolding longest_walk
  of-least class =
      ⊎_elim (λ t. rw t (answered (least p) t (class t))) (λ t. rw t (refused-13 (least p) t)) (either (in_range p))

-- ---- the laws

module _ (p : Policy) (given : in_range p ≡ true) (order : OrderLaws p) (lowest : LeastLaws p) (covering : CoverLaws p) (higher : AboveLaws p) where
  strict-flows : (i j : ℕ) → strictly p i j ≡ true → flows p i j ≡ true
  unfolding strictly flows
  strict-flows = orders.strictly-flows p.rows

  to-small : (i j : ℕ) → strictly p i j ≡ true → j < 16
  to-small i j s = order.class_small j (order.to_class i j (strict-flows i j s))

  longest : (c : ℕ) → is_class p c ≡ true → Longest p.rows c (walk_bound p c)
  unfolding walk_bound strictly above
  longest c l = chains.longest p.rows higher.falls higher.few to-small c (order.class_small c l)

  few-steps : (js : List ℕ) (c : ℕ) → rising p.rows c js ≡ true → length js < 16
  unfolding strictly above
  few-steps js c rises = omega (arith, chains.few-steps p.rows higher.falls higher.few to-small js c rises, higher.few c)

  bounds : (c : ℕ) → is_class p c ≡ true → (1 ≤ walk_bound p c) × (walk_bound p c ≤ 16)
  bounds c l =
      let w = longest c l in
      (omega (arith, w.so_many), omega (arith, w.so_many, few-steps w.chain c w.rises))

  -- the class in front of a longest chain from one strictly above it
  falls : (c j : ℕ) → strictly p c j ≡ true → walk_bound p j < walk_bound p c
  unfolding strictly rising
  falls c j s =
      let there = strict-flows c j s in
      let rest = longest j (order.to_class c j there) in
      let whole = (longest c (order.from_class c j there)).none_longer (j ∷ rest.chain) (and_both s rest.rises) in
      omega (arith, rest.so_many, whole)

  -- no chain is longer from a class that class j may flow to
  at_most : (j c : ℕ) → flows p j c ≡ true → walk_bound p c ≤ walk_bound p j
  unfolding strictly flows
  at_most j c there =
      ⊎_elim
      (λ e. rw (eqb-true j c e) (le_refl (walk_bound p c)))
      (λ e. let s = orders.apart-strictly p.rows j c there (λ q. not-both (eq-eqb j c q) e) in omega (arith, falls j c s))
      (either (eqb j c))

  from_least : (c : ℕ) → is_class p c ≡ true → walk_bound p c ≤ walk_bound p (least p)
  from_least c l = at_most (least p) c (lowest.is_least c l)

  -- a class above which no chain goes on has no cover: one would be a chain
  no_cover : (c : ℕ) → walk_bound p c ≡ 1 → covers_of p c ≡ 0
  no_cover c one =
      no-members (covers_of p c) (covering.sets c)
      (false-unless (some 16 (member (covers_of p c)))
      (λ t.
      let w = some-found (member (covers_of p c)) 16 t in
      let s = ((covering.exactly c w.0).0 w.2).strict in
      let less = falls c w.0 s in
      let class = order.to_class c w.0 (strict-flows c w.0 s) in
      not-suc-le-zero {n = 0} (omega (arith, one, less, (bounds w.0 class).0))))

  -- a cover lies on the way to the chain's next class, and no chain from there is longer than what is left of a longest one
  onward : (c : ℕ) → is_class p c ≡ true → (js : List ℕ) → rising p.rows c js ≡ true → length js + 1 ≡ walk_bound p c → ((covers_of p c ≡ 0) × (walk_bound p c ≡ 1)) ⊎ ((j : ℕ) × (member (covers_of p c) j ≡ true) × (walk_bound p j + 1 ≡ walk_bound p c))
  unfolding rising strictly
  onward c l [] rises e = inl (no_cover c (sym e), sym e)
  onward c l (j ∷ js) rises e =
      let step = and_left (strictly_in p.rows c j) (rising p.rows j js) rises in
      let rest = and_right (strictly_in p.rows c j) (rising p.rows j js) rises in
      let w = covering.some_cover c j step in
      let k = w.0 in
      let left = (longest j (order.to_class c j (strict-flows c j step))).none_longer js rest in
      let less = falls c k ((covering.exactly c k).0 w.1).strict in
      inr (k, w.1, omega (arith, e, left, less, at_most k j w.2))

  to_cover : (c : ℕ) → is_class p c ≡ true → ((covers_of p c ≡ 0) × (walk_bound p c ≡ 1)) ⊎ ((j : ℕ) × (member (covers_of p c) j ≡ true) × (walk_bound p j + 1 ≡ walk_bound p c))
  to_cover c l = let w = longest c l in onward c l w.chain w.rises w.so_many

  greatest : (c : ℕ) → (bound_for p c).classes ≤ (longest_walk p).classes
  greatest c =
      let classes : Bound → ℕ = λ b. b.classes in
      let most : (longest_walk p).classes ≡ walk_bound p (least p) =
      sym (ap classes (of-least p (λ t. lowest.is-class))) ∙ ap classes (answered p (least p) given lowest.is-class)
      in
      ⊎_elim
      (λ l. omega (arith, most, ap classes (answered p c given l), from_least c l))
      (λ l. omega (arith, ap classes (refused-9 p c given l)))
      (either (is_class p c))

  pub chain_laws : ChainLaws p
  chain_laws = record { longest = longest; bounds = bounds; falls = falls; to_cover = to_cover; from_least = from_least; greatest = greatest }
