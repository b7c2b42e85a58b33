-- An extract of a log, for a class or (W-211) for a set of classes, by a policy file.
use Rattle.std.specs.Prelude.{cond, List, ℕ, eqb}
use Rattle.file.specs.File.{read_file}
use Rattle.policy.specs.declared.Policy.{Policy}
use Rattle.extract.specs.Extract.{Extracted, extract, out_after, extract_set, out_after_set}

-- ---- a call of an extract on the policy of a file

-- the number that refuses the file, and else that of the extract
unfoldable pub status_by : List ℕ → (Policy → Extracted) → ℕ
status_by file call = cond (eqb (read_file file).status 0) (call (read_file file).policy).status (read_file file).status

-- how many numbers it wrote: none, where the file is refused
unfoldable pub count_by : List ℕ → (Policy → Extracted) → ℕ
count_by file call = cond (eqb (read_file file).status 0) (call (read_file file).policy).count 0

-- the numbers of `out` after it: as they were, where the file is refused
unfoldable pub out_by : List ℕ → (Policy → List ℕ) → List ℕ → List ℕ
out_by file after out = cond (eqb (read_file file).status 0) (after (read_file file).policy) out

-- ---- for a class

unfoldable pub file_extract_status : List ℕ → ℕ → List ℕ → List ℕ → List ℕ → ℕ
file_extract_status file l trace log out = status_by file (λ p. extract p l trace log out)

unfoldable pub file_extract_count : List ℕ → ℕ → List ℕ → List ℕ → List ℕ → ℕ
file_extract_count file l trace log out = count_by file (λ p. extract p l trace log out)

unfoldable pub file_extract_out : List ℕ → ℕ → List ℕ → List ℕ → List ℕ → List ℕ
file_extract_out file l trace log out = out_by file (λ p. out_after p l trace log out) out

-- ---- W-211: "An extract can now be had for a set of classes"

unfoldable pub file_set_status : List ℕ → ℕ → List ℕ → List ℕ → List ℕ → ℕ
file_set_status file set trace log out = status_by file (λ p. extract_set p set trace log out)

unfoldable pub file_set_count : List ℕ → ℕ → List ℕ → List ℕ → List ℕ → ℕ
file_set_count file set trace log out = count_by file (λ p. extract_set p set trace log out)

unfoldable pub file_set_out : List ℕ → ℕ → List ℕ → List ℕ → List ℕ → List ℕ
file_set_out file set trace log out = out_by file (λ p. out_after_set p set trace log out) out
