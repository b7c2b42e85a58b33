-- W-211: what holds of the extract for a set of classes. A set is a number, bit c for class c. `proofs/Sets.antt` proves `OneClass`, and `SetLaws` of every policy in range.
use Rattle.std.specs.Prelude.{◌≡◌, ◌↔◌, ◌⊎◌, Bool, true, false, cond, List, [], ◌∷◌, ℕ, ◌+◌, ◌*◌, ◌^◌, ◌<◌, eqb, length, get_or, drop}
use Rattle.masks.specs.Mask.{member}
use Rattle.policy.specs.Policy.{is_class, flows}
use Rattle.policy.specs.declared.Policy.{Policy}
use Rattle.requests.specs.Word.{class_of}
use Rattle.extract.specs.Seen.{seen_by_any, stays, staying}
use Rattle.extract.specs.Extract.{owner_seen, kept_for, extract, out_after, kept_for_set, extract_set, out_after_set}

-- "A set of one class gives the extract as it was": the two calls agree, in status, count and every number, for every policy, trace, log and room. A set has 32 bits, so a class
-- number above 31 is in none.
abbrev pub OneClass : Type 0
OneClass =
    (p : Policy) (l : ℕ) → l < 32 → (trace log out : List ℕ)
    → (extract_set p (2 ^ l) trace log out ≡ extract p l trace log out) × (out_after_set p (2 ^ l) trace log out ≡ out_after p l trace log out)

-- "The empty set keeps the ticks, with no commands or answers and 512 at each turn start."
unfoldable pub ticks_alone : List ℕ → List ℕ → List ℕ
ticks_alone [] log = []
ticks_alone (w ∷ ws) log =
    elim (eqb w 0) [ true ↦ get_or log 0 0 ∷ 0 ∷ 0 ∷ cond (eqb (get_or log 3 0) 0) 0 512 ∷ ticks_alone ws (drop 4 log) | false ↦ ticks_alone ws (drop 4 log) ]

-- every class of the set a may flow to a member of the set b
abbrev pub Within : Policy → ℕ → ℕ → Type 0
Within p a b = (l : ℕ) → is_class p l ≡ true → member a l ≡ true → seen_by_any p b l ≡ true

-- ---- what of a log may flow to a member: its kept part

-- a command or answer that shows nothing: none, or one of a class that may not be seen
abbrev pub Unseen : (ℕ → Bool) → ℕ → Type 0
Unseen seen w = (w ≡ 0) ⊎ (seen (class_of w) ≡ false)

-- two commands or answers with the same kept part
abbrev pub WordsAlike : (ℕ → Bool) → ℕ → ℕ → Type 0
WordsAlike seen w v = (w ≡ v) ⊎ (Unseen seen w × Unseen seen v)

-- the turn number of a turn that starts, of an owner who may not be seen
abbrev pub OwnerUnseen : (ℕ → Bool) → ℕ → Type 0
OwnerUnseen seen t = ((t ≡ 0) → ⊥) × (owner_seen seen t ≡ false)

-- two turn numbers with the same kept part
abbrev pub TurnsAlike : (ℕ → Bool) → ℕ → ℕ → Type 0
TurnsAlike seen t u = (t ≡ u) ⊎ (OwnerUnseen seen t × OwnerUnseen seen u)

-- the four numbers of a call in two logs have the same kept part: "0 is a tick", and any other call that stays is an offer, of which all is kept
pub record LineAlike (seen : ℕ → Bool) (w : ℕ) (log other : List ℕ) (from : ℕ) : Type 0 where
  pub status : get_or log from 0 ≡ get_or other from 0
  pub of_tick : w ≡ 0
      → WordsAlike seen (get_or log (from + 1) 0) (get_or other (from + 1) 0)
      × WordsAlike seen (get_or log (from + 2) 0) (get_or other (from + 2) 0)
      × TurnsAlike seen (get_or log (from + 3) 0) (get_or other (from + 3) 0)
  pub of_offer : ((w ≡ 0) → ⊥)
      → (get_or log (from + 1) 0 ≡ get_or other (from + 1) 0)
      × (get_or log (from + 2) 0 ≡ get_or other (from + 2) 0)
      × (get_or log (from + 3) 0 ≡ get_or other (from + 3) 0)

-- two logs of a trace have the same kept part: call by call, of the calls that stay
abbrev pub LogsAlike : (ℕ → Bool) → List ℕ → List ℕ → List ℕ → Type 0
LogsAlike seen trace log other = (i : ℕ) → i < length trace → stays seen (get_or trace i 0) ≡ true → LineAlike seen (get_or trace i 0) log other (4 * i)

-- ---- the laws

pub record SetLaws (p : Policy) : Type 0 where
  -- "kept is whatever may flow to at least one of them"
  pub kept : (set c : ℕ) → (seen_by_any p set c ≡ true) ↔ ((l : ℕ) × (is_class p l ≡ true) × (member set l ≡ true) × (flows p c l ≡ true))
  -- "A set with a class not below n is refused with 9", and no other: so the empty set is not. A set has 32 bits.
  pub refused : (set : ℕ) → set < 2 ^ 32 → (trace log out : List ℕ)
      → ((extract_set p set trace log out).status ≡ 9) ↔ ((l : ℕ) × (member set l ≡ true) × (is_class p l ≡ false))
  -- "The empty set keeps the ticks .."
  pub empty : (trace log : List ℕ) → kept_for_set p 0 trace log ≡ ticks_alone trace log
  -- a set's extract shows the log's kept part, and no more: it is the same of two logs exactly if their kept parts are
  pub kept_part : (set : ℕ) (trace log other : List ℕ) → (kept_for_set p set trace log ≡ kept_for_set p set trace other) ↔ LogsAlike (seen_by_any p set) trace log other
  -- the extract of the extract: where every class of a may flow to a member of b, the extract for a is that of b's extract, in which the calls that b keeps are the trace
  pub of_extract : (a b : ℕ) → Within p a b → (trace log : List ℕ) → kept_for_set p a (staying (seen_by_any p b) trace) (kept_for_set p b trace log) ≡ kept_for_set p a trace log
  -- and so of the calls, in status, count and every number
  pub of_call : (a b : ℕ) → Within p a b → (trace log out : List ℕ) → length log ≡ 4 * length trace
      → (extract_set p a (staying (seen_by_any p b) trace) (kept_for_set p b trace log) out ≡ extract_set p a trace log out)
      × (out_after_set p a (staying (seen_by_any p b) trace) (kept_for_set p b trace log) out ≡ out_after_set p a trace log out)
  -- nowhere else: if b's extract determines a's, every class of a may flow to a member of b
  pub only_within : (a b : ℕ)
      → ((trace log other : List ℕ) → length log ≡ 4 * length trace → length other ≡ 4 * length trace
      → kept_for_set p b trace log ≡ kept_for_set p b trace other → kept_for_set p a trace log ≡ kept_for_set p a trace other)
      → Within p a b
  -- "Two tenants may put their extracts side by side": of a set with a member, the members' extracts together and the calls that the set keeps determine the set's extract. (The
  -- calls tell in which order the members' offers came. The empty set has no members, and shows the ticks.)
  pub side_by_side : (set m : ℕ) → is_class p m ≡ true → member set m ≡ true → (xs ys log other : List ℕ)
      → staying (seen_by_any p set) xs ≡ staying (seen_by_any p set) ys
      → ((l : ℕ) → is_class p l ≡ true → member set l ≡ true → kept_for p l xs log ≡ kept_for p l ys other)
      → kept_for_set p set xs log ≡ kept_for_set p set ys other
