-- What `table.get(k).copied().unwrap_or(0)` gives: the table's entry, and 0 past its end.
-- Assumes nothing.
use Rattle.std.proofs.Common.{◌≡◌, ◌∙◌, ℕ, List, get_or, ap, le_refl, Bor}
use Rattle.std.specs.Prelude.{Option, unwrap_or}
use Rattle.std.specs.Option.{option_copied}
use Rattle.std.specs.Slice.{IsItemAt}

pub looked-up : (l : List ℕ) (k : ℕ) (o : Option (Bor ℕ)) {p : Option ℕ} {r : ℕ} → IsItemAt l k o → p ≡ option_copied o → r ≡ unwrap_or p 0 → r ≡ get_or l k 0
looked-up l k o found copied given = given ∙ ap (λ (q : Option ℕ). unwrap_or q 0) copied ∙ found.4 (le_refl k) 0
