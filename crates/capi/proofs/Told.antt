-- What a call is told of an answer that is a Result: its status, and its number, 0 where it is refused.
-- Assumes nothing.
use mathlib.Core.Path.{◌≡◌, refl}
use Prim.Native.Nat.{ℕ}
use Rattle.std.specs.Result.{result_unwrap_or}
use Rattle.std.specs.declared.result.Result.{Result}
use Rattle.std.specs.declared.result.Result.TheVariants.{Ok, Err}
use Rattle.refusals.specs.declared.Refusal.{Refusal}
use Rattle.refusals.specs.Refusal.{status_of}
use Rattle.policy.specs.Policy.{bound_of}
use Rattle.extract.specs.Extract.{extracted_of}
use Rattle.writer.specs.Written.{written_of}

pub bound-status : (r : Result ℕ Refusal) → status_of r ≡ (bound_of r).status
unfolding status_of bound_of
bound-status (Ok n) = refl
bound-status (Err r) = refl

pub bound-classes : (r : Result ℕ Refusal) → result_unwrap_or r 0 ≡ (bound_of r).classes
unfolding bound_of
bound-classes (Ok n) = refl
bound-classes (Err r) = refl

pub extracted-status : (r : Result ℕ Refusal) → status_of r ≡ (extracted_of r).status
unfolding status_of extracted_of
extracted-status (Ok n) = refl
extracted-status (Err r) = refl

pub extracted-count : (r : Result ℕ Refusal) → result_unwrap_or r 0 ≡ (extracted_of r).count
unfolding extracted_of
extracted-count (Ok n) = refl
extracted-count (Err r) = refl

pub written-status : (r : Result ℕ Refusal) → status_of r ≡ (written_of r).status
unfolding status_of written_of
written-status (Ok n) = refl
written-status (Err r) = refl

pub written-size : (r : Result ℕ Refusal) → result_unwrap_or r 0 ≡ (written_of r).size
unfolding written_of
written-size (Ok n) = refl
written-size (Err r) = refl
