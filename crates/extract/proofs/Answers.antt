-- The answers of a call: which number refuses it, and what a refused and a taken call hand back; and that the set which the code holds is that of the classes which
-- may flow to a member of the set asked for, since in a policy in range only classes flow. A class is asked for as the set of it alone.
-- Assumes nothing.
use mathlib.Core.Path.{◌≡◌, refl, sym, ap, ◌∙◌, fun_ext}
use mathlib.Core.Logic.{⊎_elim}
use mathlib.Core.Bool.{Bool, true, false, cond, ◌&&◌}
use mathlib.Core.List.{List, ◌++◌}
use Prim.Native.Nat.{ℕ, ◌*◌, ◌<◌}
use native.Mathlib.Omega.{arith}
use borrow.Author.Tests.{eq-eqb, eqb-true}
use lib.Dec.{eqb, leb}
use lib.ListN.{length, drop}
use Rattle.basics.specs.Below.{set_of}
use Rattle.masks.specs.Mask.{member, class_mask}
use Rattle.policy.specs.Policy.{flows, in_range, is_class}
use Rattle.policy.specs.declared.Policy.{Policy}
use Rattle.basics.proofs.Truth.{either, false-unless, same_truth, and_left, and_right, and_both}
use Rattle.basics.proofs.Below.{lt-or-ge, some_at, some-found}
use Rattle.masks.proofs.Masks.{member-over, member-class_mask, set_of-below, member-set_of}
use Rattle.policy.proofs.Laws.{policy-laws}
use Rattle.extract.specs.Seen.{seen_by, seen_by_any}
use Rattle.extract.specs.Extract.{Extracted, extract_of, seen_status, seen_answer, seen_out}

-- ---- the classes that are seen

module _ (p : Policy) where
  -- "kept is whatever may flow to at least one of them"
  pub seen-some : (set l c : ℕ) → l < 16 → member set l ≡ true → flows p c l ≡ true → seen_by_any p set c ≡ true
  unfolding seen_by_any
  seen-some set l c small in_set flow = some_at (λ k. member set k && flows p c k) 16 l small (and_both in_set flow)

  pub seen-by-one : (set c : ℕ) → seen_by_any p set c ≡ true → (l : ℕ) × (l < 16) × (member set l ≡ true) × (flows p c l ≡ true)
  unfolding seen_by_any
  seen-by-one set c e =
      let w = some-found (λ k. member set k && flows p c k) 16 e in
      (w.0, w.1, and_left (member set w.0) (flows p c w.0) w.2, and_right (member set w.0) (flows p c w.0) w.2)

  -- to the set of one class flows what flows to that class
  pub seen-alone : (l set : ℕ) → l < 16 → ((j : ℕ) → j < 16 → member set j ≡ eqb l j) → seen_by_any p set ≡ seen_by p l
  unfolding seen_by
  seen-alone l set small alone =
      fun_ext
      (λ c.
      same_truth (seen_by_any p set c) (flows p c l)
      (λ e.
      let w = seen-by-one set c e in
      let same : l ≡ w.0 = eqb-true l w.0 (sym (alone w.0 w.1) ∙ w.2) in
      ap (flows p c) same ∙ w.3)
      (λ e. seen-some set l c small (alone l small ∙ eq-eqb l l refl) e))

  -- in a policy in range only classes flow, so that the set which the code holds has no other numbers
  pub seen-is : in_range p ≡ true → (set : ℕ) → member (set_of 16 (seen_by_any p set)) ≡ seen_by_any p set
  seen-is given set =
      let f = seen_by_any p set in
      let order = (policy-laws p given).order in
      fun_ext
      (λ c.
      ⊎_elim
      (λ small. member-set_of f 16 c small)
      (λ large.
      member-over (set_of 16 f) 16 c (set_of-below f 16) large
      ∙ sym (false-unless (f c) (λ e. let w = seen-by-one set c e in omega (arith, order.class_small c (order.from_class c w.0 w.3)))))
      (lt-or-ge c 16))

  -- and of a class the code asks by the mask of it alone
  pub seen-masked : in_range p ≡ true → (l : ℕ) → is_class p l ≡ true → member (set_of 16 (seen_by_any p (class_mask l))) ≡ seen_by p l
  seen-masked given l class =
      seen-is given (class_mask l) ∙ seen-alone l (class_mask l) ((policy-laws p given).order.class_small l class) (λ j small. member-class_mask l j small)

-- ---- the answers

module _ (p : Policy) (named : Bool) (seen : ℕ → Bool) (trace log out : List ℕ) where
  pub refused-13 : in_range p ≡ false → seen_status p named seen trace log out ≡ 13
  unfolding seen_status
  refused-13 e = rw e

  -- where 13 does not refuse it
  module _ (given : in_range p ≡ true) where
    pub refused-9 : named ≡ false → seen_status p named seen trace log out ≡ 9
    unfolding seen_status
    refused-9 e = rw (given, e)

  -- "A refused call .. writes nothing, and a refused extract hands back a count of 0"
  pub refused : (n : ℕ) → eqb n 0 ≡ false → seen_status p named seen trace log out ≡ n → (record { status = n; count = 0 } ≡ seen_answer p named seen trace log out) × (out ≡ seen_out p named seen trace log out)
  unfolding seen_answer seen_out
  refused n some e = (rw (e, some), rw (e, some))

-- ---- which classes may be seen matters only where neither 13 nor 9 refuses the call

module _ (p : Policy) (named : Bool) (trace log out : List ℕ) where
  -- the answers to two sets of seen classes, and the numbers of `out` after the two calls, are the same
  abbrev pub SameAnswers : (ℕ → Bool) → (ℕ → Bool) → Type 0
  SameAnswers seen other = (seen_answer p named seen trace log out ≡ seen_answer p named other trace log out) × (seen_out p named seen trace log out ≡ seen_out p named other trace log out)

  refused-both : (seen other : ℕ → Bool) (n : ℕ) → eqb n 0 ≡ false → seen_status p named seen trace log out ≡ n → seen_status p named other trace log out ≡ n → SameAnswers seen other
  refused-both seen other n some e f =
      let one = refused p named seen trace log out n some e in
      let two = refused p named other trace log out n some f in
      (sym one.0 ∙ two.0, sym one.1 ∙ two.1)

  pub same-answers : (seen other : ℕ → Bool) → (in_range p ≡ true → named ≡ true → seen ≡ other) → SameAnswers seen other
  same-answers seen other same =
      ⊎_elim
      (λ given.
      ⊎_elim
      (λ class. let e = same given class in (ap (λ (f : ℕ → Bool). seen_answer p named f trace log out) e, ap (λ (f : ℕ → Bool). seen_out p named f trace log out) e))
      (λ none. refused-both seen other 9 refl (refused-9 p named seen trace log out given none) (refused-9 p named other trace log out given none))
      (either named))
      (λ unfit. refused-both seen other 13 refl (refused-13 p named seen trace log out unfit) (refused-13 p named other trace log out unfit))
      (either (in_range p))

-- ---- a call whose log fits goes by what is kept and the room

module _ (p : Policy) (named : Bool) (out : List ℕ) where
  abbrev pub status-by : List ℕ → ℕ
  status-by kept = cond (in_range p) (cond named (cond (leb (length kept) (length out)) 0 16) 9) 13

  abbrev pub answer-by : List ℕ → Extracted
  answer-by kept = record { status = status-by kept; count = cond (eqb (status-by kept) 0) (length kept) 0 }

  abbrev pub out-by : List ℕ → List ℕ
  out-by kept = cond (eqb (status-by kept) 0) (kept ++ drop (length kept) out) out

  module _ (seen : ℕ → Bool) (trace log : List ℕ) (lengths : length log ≡ 4 * length trace) where
    status_is : seen_status p named seen trace log out ≡ status-by (extract_of seen trace log)
    unfolding seen_status
    status_is = rw (eq-eqb (length log) (4 * length trace) lengths)

    pub answer-is : seen_answer p named seen trace log out ≡ answer-by (extract_of seen trace log)
    unfolding seen_answer
    answer-is = ap (λ (k : ℕ). record { status = k; count = cond (eqb k 0) (length (extract_of seen trace log)) 0 }) status_is

    pub out-is : seen_out p named seen trace log out ≡ out-by (extract_of seen trace log)
    unfolding seen_out
    out-is = ap (λ (k : ℕ). cond (eqb k 0) (extract_of seen trace log ++ drop (length (extract_of seen trace log)) out) out) status_is
