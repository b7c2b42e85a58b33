-- A run, an extract and a bound by a file: the file is refused, or taken. Each side of the definitions, by the reading's number. And a small order: there is one to write, or none.
-- Assumes nothing.
use mathlib.Core.Path.{◌≡◌, ap}
use mathlib.Core.Bool.{Bool, true, false, cond}
use mathlib.Core.List.{List}
use Prim.Native.Nat.{ℕ}
use borrow.Author.Tests.{eq-eqb, ne_eqb}
use Rattle.file.specs.File.{read_file}
use Rattle.policy.specs.Policy.{bound_for}
use Rattle.policy.specs.declared.Policy.{Policy}
use Rattle.state.specs.Fresh.{fresh}
use Rattle.rules.specs.Run.{run, log_after}
use Rattle.extract.specs.Extract.{Extracted}
use Rattle.capi.specs.Runs.{run_status, run_log}
use Rattle.capi.specs.Extracts.{status_by, count_by, out_by}
use Rattle.capi.specs.Bounds.{file_bound_status, file_bound}
use Rattle.writer.specs.Written.{write_status, writing, out_after}
use Rattle.orders.specs.Listed.{fetched}
use Rattle.orders.specs.declared.Fetched.{Fetched}
use Rattle.capi.specs.SmallOrders.{there, order_status, order_size, order_file}

module _ (file trace log : List ℕ) where
  abbrev pub held : Policy
  held = (read_file file).policy

  -- the status and the log, by whether the file is taken
  abbrev status : Bool → ℕ
  status b = cond b (run held (fresh held).state trace log).status (read_file file).status

  abbrev logged : Bool → List ℕ
  logged b = cond b (log_after held (fresh held).state trace log) log

  pub refused : ((read_file file).status ≡ 0 → ⊥) → (run_status file trace log ≡ (read_file file).status) × (run_log file trace log ≡ log)
  unfolding run_status run_log
  refused some = (ap status (ne_eqb _ 0 some), ap logged (ne_eqb _ 0 some))

  pub taken : (read_file file).status ≡ 0 → (run_status file trace log ≡ (run held (fresh held).state trace log).status) × (run_log file trace log ≡ log_after held (fresh held).state trace log)
  unfolding run_status run_log
  taken none = (ap status (eq-eqb _ 0 none), ap logged (eq-eqb _ 0 none))

module _ (file : List ℕ) (call : Policy → Extracted) (after : Policy → List ℕ) (out : List ℕ) where
  -- the status, the count and the numbers of an extract, by whether the file is taken
  abbrev status-seen : Bool → ℕ
  status-seen b = cond b (call (read_file file).policy).status (read_file file).status

  abbrev count-seen : Bool → ℕ
  count-seen b = cond b (call (read_file file).policy).count 0

  abbrev out-seen : Bool → List ℕ
  out-seen b = cond b (after (read_file file).policy) out

  pub refused-extract : ((read_file file).status ≡ 0 → ⊥) → (status_by file call ≡ (read_file file).status) × (count_by file call ≡ 0) × (out_by file after out ≡ out)
  unfolding status_by count_by out_by
  refused-extract some = let e = ne_eqb _ 0 some in (ap status-seen e, ap count-seen e, ap out-seen e)

  pub taken-extract : (read_file file).status ≡ 0 → (status_by file call ≡ (call (read_file file).policy).status) × (count_by file call ≡ (call (read_file file).policy).count) × (out_by file after out ≡ after (read_file file).policy)
  unfolding status_by count_by out_by
  taken-extract none = let e = eq-eqb _ 0 none in (ap status-seen e, ap count-seen e, ap out-seen e)

module _ (file : List ℕ) (c : ℕ) where
  -- the status and the number of a bound, by whether the file is taken
  abbrev status-bound : Bool → ℕ
  status-bound b = cond b (bound_for (read_file file).policy c).status (read_file file).status

  abbrev classes-bound : Bool → ℕ
  classes-bound b = cond b (bound_for (read_file file).policy c).classes 0

  pub refused-bound : ((read_file file).status ≡ 0 → ⊥) → (file_bound_status file c ≡ (read_file file).status) × (file_bound file c ≡ 0)
  unfolding file_bound_status file_bound
  refused-bound some = let e = ne_eqb _ 0 some in (ap status-bound e, ap classes-bound e)

  pub taken-bound : (read_file file).status ≡ 0 → (file_bound_status file c ≡ (bound_for (read_file file).policy c).status) × (file_bound file c ≡ (bound_for (read_file file).policy c).classes)
  unfolding file_bound_status file_bound
  taken-bound none = let e = eq-eqb _ 0 none in (ap status-bound e, ap classes-bound e)

-- W-208: an order that is not there, or is
module _ (n place : ℕ) (timing file : List ℕ) where
  abbrev pub order : Fetched
  order = fetched n place timing

  abbrev order-status : Bool → ℕ
  order-status b = cond b (write_status order.policy file) order.status

  abbrev order-size : Bool → ℕ
  order-size b = cond b (writing order.policy file).size 0

  abbrev order-file : Bool → List ℕ
  order-file b = cond b (out_after order.policy file) file

  pub not_there : there order ≡ false → (order_status n place timing file ≡ order.status) × (order_size n place timing file ≡ 0) × (order_file n place timing file ≡ file)
  unfolding order_status order_size order_file
  not_there e = (ap order-status e, ap order-size e, ap order-file e)

  pub is-there : there order ≡ true
      → (order_status n place timing file ≡ (writing order.policy file).status)
      × (order_size n place timing file ≡ (writing order.policy file).size)
      × (order_file n place timing file ≡ out_after order.policy file)
  unfolding order_status order_size order_file writing
  is-there e = (ap order-status e, ap order-size e, ap order-file e)
