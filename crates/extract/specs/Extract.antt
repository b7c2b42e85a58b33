-- "The extract for class L", and W-211's for a set of classes: what is left of a log once what may not be seen is dropped or hidden, and the answer of the call.
use Rattle.std.specs.Prelude.{Result, Ok, Err, Bool, true, false, cond, not, ◌&&◌, ◌||◌, List, [], ◌∷◌, ◌++◌, ℕ, ◌+◌, ◌-◌, ◌*◌, ◌%◌, eqb, leb, length, get_or, drop}
use Rattle.basics.specs.Below.{every}
use Rattle.masks.specs.Mask.{member}
use Rattle.policy.specs.Policy.{in_range, is_class}
use Rattle.policy.specs.declared.Policy.{Policy}
use Rattle.refusals.specs.Refusal.{number}
use Rattle.refusals.specs.declared.Refusal.{Refusal}
use Rattle.requests.specs.Word.{class_of}
use Rattle.requests.specs.Trace.{call_of}
use Rattle.requests.specs.declared.Call.{Call}
use Rattle.requests.specs.declared.Call.TheVariants.{Tick, Offer, Malformed}
use Rattle.extract.specs.Seen.{seen_by, seen_by_any, call_stays}

-- ---- one call's four numbers

-- "a command or answer of another such class becomes 0": its class stands in bits 24 to 28
unfoldable pub hide_word : (ℕ → Bool) → ℕ → ℕ
hide_word seen w = cond (seen (class_of w)) w 0

-- "The owner is the turn number's low 8 bits less 1": where those are 0 they name no class
unfoldable pub owner_seen : (ℕ → Bool) → ℕ → Bool
owner_seen seen t = not (eqb (t % 256) 0) && seen (t % 256 - 1)

-- "such an owner's turn number becomes 512; a turn number of 0 stays 0 .. a nonzero turn number that so names no class below n becomes 512 too"
unfoldable pub hide_turn : (ℕ → Bool) → ℕ → ℕ
hide_turn seen t = cond (eqb t 0) 0 (cond (owner_seen seen t) t 512)

-- what is left of a call's status, command, answer and turn: nothing of a call that does not stay; the numbers of an offer as they are; "On ticks" some are hidden
unfoldable pub line_seen : (ℕ → Bool) → Call → ℕ → ℕ → ℕ → ℕ → List ℕ
line_seen seen Tick s c a t = s ∷ hide_word seen c ∷ hide_word seen a ∷ hide_turn seen t ∷ []
line_seen seen (Offer r) s c a t = elim (call_stays seen (Offer r)) [ true ↦ s ∷ c ∷ a ∷ t ∷ [] | false ↦ [] ]
line_seen seen Malformed s c a t = []

-- ---- a log

-- what is left of a trace number whose four log numbers stand from `from` on
unfoldable pub line_seen_at : (ℕ → Bool) → ℕ → List ℕ → ℕ → List ℕ
line_seen_at seen w log from = line_seen seen (call_of w) (get_or log from 0) (get_or log (from + 1) 0) (get_or log (from + 2) 0) (get_or log (from + 3) 0)

-- "Each trace number gives four log numbers": trace number by trace number
unfoldable pub extract_of : (ℕ → Bool) → List ℕ → List ℕ → List ℕ
extract_of seen [] log = []
extract_of seen (w ∷ ws) log = line_seen_at seen w log 0 ++ extract_of seen ws (drop 4 log)

-- ---- the call, by the classes that may be seen and whether it was asked for classes of the policy (`named`)

-- "extracts 13, 9, 17, 16": a policy out of range; "class not below n"; "log to extract not 4 times the trace"; "extract shorter than what is kept". 0 where none refuses it.
unfoldable pub seen_status : Policy → Bool → (ℕ → Bool) → List ℕ → List ℕ → List ℕ → ℕ
seen_status p named seen trace log out =
    cond (in_range p) (cond named (cond (eqb (length log) (4 * length trace)) (cond (leb (length (extract_of seen trace log)) (length out)) 0 16) 17) 9) 13

-- what the call answers: 0, or the number that refuses it, and how many numbers it wrote
pub record Extracted : Type 0 where
  pub status : ℕ
  pub count : ℕ

-- so much is said by how many numbers were written, or by what turned it down
unfoldable pub extracted_of : Result ℕ Refusal → Extracted
extracted_of (Ok n) = record { status = 0; count = n }
extracted_of (Err r) = record { status = number r; count = 0 }

-- "The call hands back how many numbers it wrote"; "a refused extract hands back a count of 0"
unfoldable pub seen_answer : Policy → Bool → (ℕ → Bool) → List ℕ → List ℕ → List ℕ → Extracted
seen_answer p named seen trace log out =
    record {
      status = seen_status p named seen trace log out;
      count = cond (eqb (seen_status p named seen trace log out) 0) (length (extract_of seen trace log)) 0;
    }

-- the numbers of `out` after the call: a refused one "writes nothing"; "Numbers past the written part stay"
unfoldable pub seen_out : Policy → Bool → (ℕ → Bool) → List ℕ → List ℕ → List ℕ → List ℕ
seen_out p named seen trace log out = cond (eqb (seen_status p named seen trace log out) 0) (extract_of seen trace log ++ drop (length (extract_of seen trace log)) out) out

-- ---- for a class

-- what the extract for class l holds
unfoldable pub kept_for : Policy → ℕ → List ℕ → List ℕ → List ℕ
kept_for p l trace log = extract_of (seen_by p l) trace log

unfoldable pub extract : Policy → ℕ → List ℕ → List ℕ → List ℕ → Extracted
extract p l trace log out = seen_answer p (is_class p l) (seen_by p l) trace log out

unfoldable pub out_after : Policy → ℕ → List ℕ → List ℕ → List ℕ → List ℕ
out_after p l trace log out = seen_out p (is_class p l) (seen_by p l) trace log out

-- ---- W-211: "An extract can now be had for a set of classes". The set is a number of 32 bits, bit c for class c.

-- "A set with a class not below n is refused with 9": whatever bit is set stands for a class of the policy
unfoldable pub are_classes : Policy → ℕ → Bool
are_classes p set = every 32 (λ c. not (member set c) || is_class p c)

-- what the extract for a set holds
unfoldable pub kept_for_set : Policy → ℕ → List ℕ → List ℕ → List ℕ
kept_for_set p set trace log = extract_of (seen_by_any p set) trace log

unfoldable pub extract_set : Policy → ℕ → List ℕ → List ℕ → List ℕ → Extracted
extract_set p set trace log out = seen_answer p (are_classes p set) (seen_by_any p set) trace log out

unfoldable pub out_after_set : Policy → ℕ → List ℕ → List ℕ → List ℕ → List ℕ
out_after_set p set trace log out = seen_out p (are_classes p set) (seen_by_any p set) trace log out
