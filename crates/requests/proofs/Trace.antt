-- A trace word told apart: the three sides of its definition, by the tests that pick them, and that an offer's word is the one that it came as. And the test for 17.
-- Assumes nothing.
use mathlib.Core.Path.{◌≡◌, sym, ap, ◌∙◌}
use mathlib.Core.Logic.{⊎_elim}
use mathlib.Core.Bool.{true, false, not, ◌||◌}
use Prim.Native.Nat.{ℕ, ◌*◌, ◌/◌, ◌%◌}
use native.Mathlib.Omega.{arith}
use borrow.Author.Tests.{eq-eqb, ne_eqb, eqb-true, eqb-false}
use lib.Dec.{eqb}
use Rattle.basics.proofs.Truth.{either, or_left, or_right, on-true, on-false}
use Rattle.requests.specs.Word.{is_offer, request_of, word_of}
use Rattle.requests.specs.Trace.{call_of}
use Rattle.requests.specs.declared.Request.{Request}
use Rattle.requests.specs.declared.Call.{Call}
use Rattle.requests.specs.declared.Call.TheVariants.{Tick, Offer, Malformed}
use Rattle.requests.proofs.Word.{word_back}

pub told-tick : (w : ℕ) → eqb w 0 ≡ true → call_of w ≡ Tick
unfolding call_of
told-tick w e = on-true (eqb w 0) Tick _ e

pub told-offer : (w : ℕ) → eqb w 0 ≡ false → is_offer w ≡ true → call_of w ≡ Offer (request_of w)
unfolding call_of
told-offer w e t = on-false (eqb w 0) Tick _ e ∙ on-true (is_offer w) (Offer (request_of w)) Malformed t

pub told-malformed : (w : ℕ) → eqb w 0 ≡ false → is_offer w ≡ false → call_of w ≡ Malformed
unfolding call_of
told-malformed w e f = on-false (eqb w 0) Tick _ e ∙ on-false (is_offer w) (Offer (request_of w)) Malformed f

-- ---- a word that is an offer's

-- the word of an offer, and of any other call the one that is given
word_in : Call → ℕ → ℕ
word_in Tick w = w
word_in (Offer r) w = word_of r
word_in Malformed w = w

word_kept : (w : ℕ) → word_in (call_of w) w ≡ w
unfolding word_in
word_kept w =
    let told : Call → ℕ = λ c. word_in c w in
    ⊎_elim
    (λ tick. ap told (told-tick w tick))
    (λ other. ⊎_elim (λ i. ap told (told-offer w other i) ∙ word_back w i) (λ i. ap told (told-malformed w other i)) (either (is_offer w)))
    (either (eqb w 0))

pub offer-word : (w : ℕ) (r : Request) → call_of w ≡ Offer r → w ≡ word_of r
unfolding word_in
offer-word w r e = sym (word_kept w) ∙ ap (λ (c : Call). word_in c w) e

-- ---- four log numbers for each trace number

-- the code's test for 17, which no product can make wrap
pub four-times : (a b : ℕ) → (not (eqb (a % 4) 0) || not (eqb (a / 4) b)) ≡ not (eqb a (4 * b))
four-times a b =
    ⊎_elim
    (λ e.
    let same : a ≡ 4 * b = eqb-true a (4 * b) e in
    rw (eq-eqb (a % 4) 0 (omega arith), eq-eqb (a / 4) b (omega arith)) (sym (ap not e)))
    (λ e.
    ⊎_elim
    (λ r.
    let rest : a % 4 ≡ 0 = eqb-true (a % 4) 0 r in
    or_right (not (eqb (a % 4) 0)) (not (eqb (a / 4) b)) (ap not (ne_eqb (a / 4) b (λ q. eqb-false a (4 * b) e (omega (arith, q))))) ∙ sym (ap not e))
    (λ r. or_left (not (eqb (a % 4) 0)) (not (eqb (a / 4) b)) (ap not r) ∙ sym (ap not e))
    (either (eqb (a % 4) 0)))
    (either (eqb a (4 * b)))
