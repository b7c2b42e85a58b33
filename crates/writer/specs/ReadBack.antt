-- What is promised of a policy written as a file. It is no sentence of document 02: W-208's orders are handed to C as files, and other requests will want it (DECISIONS B-77).
-- `proofs/Returned.antt` proves the first statement of every policy in range, and the second of every list of bytes.
use Rattle.std.specs.Prelude.{◌≡◌, List, ℕ, length, get_or}
use Rattle.policy.specs.Policy.{minimum}
use Rattle.file.specs.File.{read_file}
use Rattle.file.specs.Taken.{Bytes, Encodes}
use Rattle.writer.specs.Written.{timing_size, timing_bytes, file_of}
use Rattle.timing.specs.declared.Timing.{Timing}
use Rattle.policy.specs.declared.Policy.{Policy}

-- what the type of a timing says: four gaps by the two kinds, and two of one bank. No timing that a program can hold breaks it.
pub record TimingShape (t : Timing) : Type 0 where
  pub four_gaps : length t.gaps ≡ 4
  pub two_gaps : length t.bank ≡ 2

-- reading the file of a policy gives that policy back
pub record ReadBack (p : Policy) : Type 0 where
  -- it is a file: a list of bytes, which holds the policy's numbers where document 01 has them
  pub bytes : Bytes (file_of p)
  pub encodes : Encodes (file_of p) p.classes (λ i. get_or p.rows i 0) p.epoch (minimum p) (timing_size p.timing) (λ k. get_or (timing_bytes p.timing) k 0)
  -- which is taken, and gives p, if p's timing has as many gaps as its type says
  pub taken : (read_file (file_of p)).status ≡ 0
  pub reads : TimingShape p.timing → read_file (file_of p) ≡ record { status = 0; policy = p }

-- a file that is taken is the one written of the policy that it gives, so no other file gives that policy
pub record WrittenBack (s : List ℕ) : Type 0 where
  -- the policy that reading gives has a timing as its type says
  pub shape : TimingShape (read_file s).policy.timing
  pub same : (read_file s).status ≡ 0 → file_of (read_file s).policy ≡ s
