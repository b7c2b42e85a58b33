-- A run from a policy file's fresh state.
use Rattle.std.specs.Prelude.{cond, List, ℕ, eqb}
use Rattle.file.specs.File.{read_file}
use Rattle.state.specs.Fresh.{fresh}
use Rattle.rules.specs.Run.{run, log_after}

-- the number that refuses the file, and else that of the run
unfoldable pub run_status : List ℕ → List ℕ → List ℕ → ℕ
run_status file trace log =
    let p = (read_file file).policy in
    cond (eqb (read_file file).status 0) (run p (fresh p).state trace log).status (read_file file).status

-- the log after it: as it was, where the file is refused
unfoldable pub run_log : List ℕ → List ℕ → List ℕ → List ℕ
run_log file trace log =
    let p = (read_file file).policy in
    cond (eqb (read_file file).status 0) (log_after p (fresh p).state trace log) log
