-- Which numbers a run from a file, a bound by one and the file of a small order answer. `proofs/Laws.antt` proves it of every list of bytes.
use Rattle.std.specs.Prelude.{◌≡◌, cond, List, ◌++◌, ℕ, ◌+◌, ◌*◌, ◌≤◌, ◌<◌, length, drop}
use Rattle.file.specs.File.{read_file}
use Rattle.policy.specs.Policy.{is_class, walk_bound}
use Rattle.rules.specs.Run.{has_room}
use Rattle.capi.specs.Runs.{run_status}
use Rattle.writer.specs.Written.{file_of}
use Rattle.orders.specs.Listed.{count_of, fetched}
use Rattle.orders.specs.Policies.{Asked}
use Rattle.capi.specs.Bounds.{file_bound_status, file_bound}
use Rattle.capi.specs.SmallOrders.{order_status, order_size, order_file}

-- a file that is taken leaves 0 and 15: its policy and its fresh state are in range, so that 13 never meets it
abbrev pub TakenRuns : List ℕ → Type 0
TakenRuns file = (read_file file).status ≡ 0 → (trace log : List ℕ) → run_status file trace log ≡ cond (has_room trace log) 0 15

-- a file that is taken leaves 0 and 9, and of each of its policy's classes the bound is the number of classes on the longest rising chain from it
abbrev pub TakenBounds : List ℕ → Type 0
TakenBounds file =
    (read_file file).status ≡ 0
    → (c : ℕ)
    → (file_bound_status file c ≡ cond (is_class (read_file file).policy c) 0 9)
    × (file_bound file c ≡ cond (is_class (read_file file).policy c) (walk_bound (read_file file).policy c) 0)

-- the answers of `vigambul_order`: its status, the number of bytes, and what `file` holds after it
pub record Answers (n place : ℕ) (timing file : List ℕ) (status size : ℕ) (after : List ℕ) : Type 0 where
  pub status_is : order_status n place timing file ≡ status
  pub size_is : order_size n place timing file ≡ size
  pub file_is : order_file n place timing file ≡ after

-- W-208: the file of a small order, said of every n, place and two lists of bytes. The answer is 0, 20, 2, 8 or 16, and never 13.
pub record OrderFiles (n place : ℕ) (timing file : List ℕ) : Type 0 where
  -- nothing is written where n or the timing body is refused, with that number, and for a place past the last, with 0
  pub refused : (Asked n timing → ⊥) → Answers n place timing file (fetched n place timing).status 0 file
  pub past_last : Asked n timing → count_of n ≤ place → Answers n place timing file 0 0 file
  -- nor where there is too little room; else the file of the order's policy is written, and bytes past it stay
  pub no_room : Asked n timing → place < count_of n → length file < 18 + 3 * n + length timing → Answers n place timing file 16 0 file
  pub written : Asked n timing → place < count_of n → 18 + 3 * n + length timing ≤ length file
      → Answers n place timing file 0 (18 + 3 * n + length timing) (file_of (fetched n place timing).policy ++ drop (18 + 3 * n + length timing) file)
