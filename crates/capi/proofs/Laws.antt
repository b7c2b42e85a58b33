-- A run from a file that is taken is refused with 15 or made: the file's policy is in range, and so is its fresh state. A bound by such a file is refused with 9 or answered.
-- The file of a small order is written where there is room for it, since its policy is in range.
-- Assumes nothing.
use mathlib.Core.Path.{◌≡◌, refl, sym, ap, ◌∙◌}
use mathlib.Core.Logic.{⊎_elim}
use mathlib.Core.Bool.{Bool, true, false, cond}
use mathlib.Core.List.{List, ◌++◌}
use Prim.Native.Nat.{ℕ, ◌+◌, ◌*◌, ◌≤◌, ◌<◌}
use native.Mathlib.Omega.{arith}
use borrow.Author.Tests.{eq-eqb, lt-ltb, le-leb, lt-leb}
use lib.Dec.{ltb, leb, eqb}
use lib.ListN.{length, drop}
use Rattle.file.specs.File.{read_file}
use Rattle.file.specs.Taken.{Bytes, policy_of}
use Rattle.basics.proofs.Truth.{either, and_both, and-fails-right}
use Rattle.basics.proofs.Below.{length-list_of}
use Rattle.file.proofs.Taken.{taken-iff}
use Rattle.state.specs.Range.{in_range}
use Rattle.state.specs.Fresh.{fresh}
use Rattle.rules.specs.Run.{has_room}
use Rattle.state.specs.declared.Ran.{Ran}
use Rattle.rules.proofs.Laws.{scheduler-laws}
use Rattle.rules.proofs.Run.{by-room, by-calls}
use Rattle.policy.specs.Policy as policies
use Rattle.policy.specs.Policy.{Bound, no_policy, is_class, walk_bound}
use Rattle.policy.specs.declared.Policy.{Policy}
use Rattle.policy.proofs.Chains.{refused-9, answered}
use Rattle.writer.specs.Written.{Written, file_size, file_byte, file_of, write_status, writing, out_after}
use Rattle.orders.specs.Listed.{count_of, fetched}
use Rattle.orders.specs.Policies.{Asked, small_policy, Fetches, HandedBack}
use Rattle.orders.proofs.Policies.{fetches, handed_back}
use Rattle.capi.specs.SmallOrders.{there}
use Rattle.capi.specs.Laws.{TakenRuns, TakenBounds, Answers, OrderFiles}
use Rattle.capi.proofs.Sides.{held, taken, taken-bound, not_there, is-there}

pub taken_runs : (file : List ℕ) → Bytes file → TakenRuns file
taken_runs file bytes none trace log =
    let p = held file trace log in
    let fit : in_range p (fresh p).state ≡ true = (scheduler-laws p ((taken-iff file bytes).in-range none)).keeping.fresh_in_range in
    let is = (taken file trace log none).0 in
    ⊎_elim
    (λ room. is ∙ ap (λ (r : Ran). r.status) (by-calls p (fresh p).state trace log fit room).0 ∙ sym (ap (λ (b : Bool). cond b 0 15) room))
    (λ short. is ∙ ap (λ (r : Ran). r.status) (by-room p (fresh p).state trace log fit short).0 ∙ sym (ap (λ (b : Bool). cond b 0 15) short))
    (either (has_room trace log))

pub taken-bounds : (file : List ℕ) → Bytes file → TakenBounds file
taken-bounds file bytes none c =
    let p = (read_file file).policy in
    let given = (taken-iff file bytes).in-range none in
    let side = taken-bound file c none in
    ⊎_elim
    (λ class.
    let is = answered p c given class in (
      side.0 ∙ ap (λ (b : Bound). b.status) is ∙ sym (ap (λ (t : Bool). cond t 0 9) class),
      side.1 ∙ ap (λ (b : Bound). b.classes) is ∙ sym (ap (λ (t : Bool). cond t (walk_bound p c) 0) class),
    ))
    (λ class.
    let is = refused-9 p c given class in (
      side.0 ∙ ap (λ (b : Bound). b.status) is ∙ sym (ap (λ (t : Bool). cond t 0 9) class),
      side.1 ∙ ap (λ (b : Bound). b.classes) is ∙ sym (ap (λ (t : Bool). cond t (walk_bound p c) 0) class),
    ))
    (either (is_class p c))

-- ---- W-208

module _ (n place : ℕ) (timing file : List ℕ) where
  answers : Fetches n place timing
  answers = fetches n place timing

  -- the policy of no classes is none to write
  none-there : (fetched n place timing).policy ≡ no_policy → there (fetched n place timing) ≡ false
  unfolding there no_policy
  none-there e = and-fails-right (eqb (fetched n place timing).status 0) _ (ap (λ (p : Policy). ltb 0 p.classes) e)

  nothing : (status : ℕ) → (fetched n place timing).policy ≡ no_policy → (fetched n place timing).status ≡ status → Answers n place timing file status 0 file
  nothing status e is =
      let side = not_there n place timing file (none-there e) in
      record { status_is = side.0 ∙ is; size_is = side.1; file_is = side.2 }

  module _ (a : Asked n timing) (below : place < count_of n) where
    p : Policy
    p = (fetched n place timing).policy

    back : HandedBack n place timing a below
    back = handed_back n place timing a below

    fit : policies.in_range p ≡ true
    unfolding p
    fit = back.in-range

    size_is : file_size p ≡ 18 + 3 * n + length timing
    unfolding p file_of
    size_is = sym (length-list_of (file_byte (fetched n place timing).policy) (file_size (fetched n place timing).policy)) ∙ back.file.whole

    one-there : there (fetched n place timing) ≡ true
    unfolding there small_policy policy_of
    one-there =
        and_both (eq-eqb (fetched n place timing).status 0 (answers.zero.1 a)) (ap (λ (q : Policy). ltb 0 q.classes) (answers.order_at a below) ∙ lt-ltb 0 n a.few.at_least)

    order-written : (status size : ℕ) (after : List ℕ) → writing p file ≡ record { status = status; size = size } → out_after p file ≡ after → Answers n place timing file status size after
    unfolding p
    order-written status size after wrote out =
        let side = is-there n place timing file one-there in
        record {
          status_is = side.0 ∙ ap (λ (w : Written). w.status) wrote;
          size_is = side.1 ∙ ap (λ (w : Written). w.size) wrote;
          file_is = side.2 ∙ out;
        }

    short : length file < 18 + 3 * n + length timing → Answers n place timing file 16 0 file
    unfolding writing write_status out_after
    short l =
        let no : leb (file_size p) (length file) ≡ false = lt-leb (file_size p) (length file) (omega (arith, size_is)) in
        order-written 16 0 file (rw (fit, no)) (rw (fit, no))

    room : 18 + 3 * n + length timing ≤ length file → Answers n place timing file 0 (18 + 3 * n + length timing) (file_of p ++ drop (18 + 3 * n + length timing) file)
    unfolding writing write_status out_after
    room h =
        let yes : leb (file_size p) (length file) ≡ true = le-leb (file_size p) (length file) (omega (arith, size_is)) in
        let out : out_after p file ≡ file_of p ++ drop (file_size p) file = rw (fit, yes) in
        order-written 0 (18 + 3 * n + length timing) (file_of p ++ drop (18 + 3 * n + length timing) file) (rw (fit, yes, size_is))
        (out ∙ ap (λ (k : ℕ). file_of p ++ drop k file) size_is)

  pub order-files : OrderFiles n place timing file
  unfolding p
  order-files =
      record {
        refused = λ no. nothing (fetched n place timing).status (answers.refused no) refl;
        past_last = λ a h. nothing 0 (answers.past_last h) (answers.zero.1 a);
        no_room = short;
        written = room;
      }
