-- What the check comes to, said of the events themselves: "Events are taken in the order of the cycle their answer is due, an activate before an answer where a due cycle is shared but the words differ. The check hands
-- back the rest of whichever recording holds the first event without a partner, beginning at it; if all have partners, an empty rest of the wires'."
use Rattle.std.specs.Prelude.{◌≡◌, ◌⊎◌, Bool, true, false, List, [], ℕ, ◌+◌, ◌*◌, ◌<◌, drop}
use Rattle.recordings.specs.Recording.{events_in, cycle_at, word_at, soundness}
use Rattle.recordings.specs.Match.{alone, unmatched}
use Rattle.std.specs.declared.result.Result.TheVariants.{Ok}
use Rattle.std.specs.declared.option.Option.{Option}
use Rattle.std.specs.declared.option.Option.TheVariants.{None, Some}
use Rattle.recordings.specs.declared.Alone.{Alone}
use Rattle.recordings.specs.declared.Alone.TheVariants.{Activate, Response}

-- an event: the i-th activate on the wires, or the j-th answer at the cores
pub data Event : Type 0 where
  activate : ℕ → Event
  response : ℕ → Event

-- it is an activate
unfoldable pub is_activate : Event → Bool
is_activate (activate i) = true
is_activate (response j) = false

-- where it stands: the answer of `first_alone` that names it
unfoldable pub stands_at : Event → Option Alone
stands_at (activate i) = Some (Activate (2 * i))
stands_at (response j) = Some (Response (2 * j))

module _ (delay : ℕ) (wires cores : List ℕ) where
  -- the two recordings have it
  unfoldable pub IsEvent : Event → Type 0
  IsEvent (activate i) = i < events_in wires
  IsEvent (response j) = j < events_in cores

  -- "the cycle their answer is due"
  unfoldable pub due : Event → ℕ
  due (activate i) = cycle_at wires i + delay
  due (response j) = cycle_at cores j

  unfoldable pub word : Event → ℕ
  word (activate i) = word_at wires i
  word (response j) = word_at cores j

  -- "An activate and an answer are partners if the words are equal and the answer comes the answer delay .. later", each of them the other's
  pub record Partners (e f : Event) : Type 0 where
    pub other_kind : (is_activate e ≡ is_activate f) → ⊥
    pub same_word : word e ≡ word f
    pub same_due : due e ≡ due f

  pub record HasPartner (e : Event) : Type 0 where
    pub other : Event
    pub recorded : IsEvent other
    pub partners : Partners e other

  -- "an activate before an answer where a due cycle is shared but the words differ"
  pub record TieBroken (e f : Event) : Type 0 where
    pub same_due : due e ≡ due f
    pub other_word : (word e ≡ word f) → ⊥
    pub activate_first : is_activate e ≡ true
    pub response_then : is_activate f ≡ false

  -- e is taken before f
  abbrev pub Before : Event → Event → Type 0
  Before e f = (due e < due f) ⊎ TieBroken e f

  -- "the first event without a partner"
  pub record FirstWithout (e : Event) : Type 0 where
    pub is_recorded : IsEvent e
    pub no_partner : HasPartner e → ⊥
    pub before_have : (f : Event) → IsEvent f → Before f e → HasPartner f

  abbrev pub AllHave : Type 0
  AllHave = (e : Event) → IsEvent e → HasPartner e

  -- the rest of its recording, beginning at it: an event has two numbers
  unfoldable pub rest_from : Event → List ℕ
  rest_from (activate i) = drop (2 * i) wires
  rest_from (response j) = drop (2 * j) cores

  -- what holds of two sound recordings and any delay
  pub record Matching : Type 0 where
    -- no event has two partners
    pub one_partner : (e f g : Event) → IsEvent f → IsEvent g → Partners e f → Partners e g → f ≡ g
    -- one event is the first without a partner, or all have one
    pub first_or_none : ((e : Event) × FirstWithout e) ⊎ AllHave
    -- an event is named exactly if it is the first without a partner, and the rest begins at it
    pub named : (e : Event) → alone delay wires cores ≡ stands_at e → FirstWithout e
    pub named_only : (e : Event) → FirstWithout e → alone delay wires cores ≡ stands_at e
    pub begins : (e : Event) → FirstWithout e → unmatched delay wires cores ≡ rest_from e
    -- none is named, and the rest is empty, exactly if all have partners
    pub none : alone delay wires cores ≡ None → AllHave
    pub none_only : AllHave → alone delay wires cores ≡ None
    pub empty : unmatched delay wires cores ≡ [] → AllHave
    pub empty_only : AllHave → unmatched delay wires cores ≡ []

-- for every two recordings and every delay
abbrev pub Matches : Type 0
Matches = (delay : ℕ) (wires cores : List ℕ) → soundness delay wires cores ≡ Ok tt → Matching delay wires cores
