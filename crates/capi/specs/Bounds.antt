-- W-212: how many classes a walk tries at most, by a policy file.
use Rattle.std.specs.Prelude.{cond, List, ℕ, eqb}
use Rattle.file.specs.File.{read_file}
use Rattle.policy.specs.Policy.{bound_for}

-- the number that refuses the file, and else that of the class
unfoldable pub file_bound_status : List ℕ → ℕ → ℕ
file_bound_status file c = cond (eqb (read_file file).status 0) (bound_for (read_file file).policy c).status (read_file file).status

-- how many classes a walk from c tries at most: 0, where the file is refused
unfoldable pub file_bound : List ℕ → ℕ → ℕ
file_bound file c = cond (eqb (read_file file).status 0) (bound_for (read_file file).policy c).classes 0
