-- What is promised of the recordings of a log, whatever the log holds.
use Rattle.std.specs.Prelude.{◌≡◌, true, false, List, ℕ, ◌≤◌}
use Rattle.recordings.specs.Recording.{soundness}
use Rattle.recordings.specs.Logged.{recording_of, record_status}
use Rattle.std.specs.declared.result.Result.TheVariants.{Ok}

-- recordings that are handed back with 0 are sound, under every delay that is a byte
abbrev pub MadeSound : Type 0
MadeSound =
    (trace log : List ℕ) (start delay : ℕ) (wires cores : List ℕ)
    → delay ≤ 255
    → record_status true trace log start wires ≡ 0
    → record_status false trace log start cores ≡ 0
    → soundness delay (recording_of true start trace log) (recording_of false start trace log) ≡ Ok tt
