-- When the owner's dead time is elided (document 01: dropped): before a home turn (W-202) by that turn's class, before another by the lookahead (document 01: the trial walk).
use Rattle.std.specs.Prelude.{Bool, true, false, cond, ◌&&◌, List, ℕ, zero, suc, ◌+◌, ◌%◌, eqb, get_or}
use Rattle.order.specs.Order.{flows_in}
use Rattle.policy.specs.Policy.{flows, least, home_turn, home_class}
use Rattle.policy.specs.declared.Policy.{Policy}
use Rattle.rules.specs.Traversal.{named}

-- what the lookahead goes by, with an entry for each class: its row, its covers, the turns it will have left, its pointer
pub record Ahead : Type 0 where
  pub rows : List ℕ
  pub covers : List ℕ
  pub left : List ℕ
  pub pointers : List ℕ

abbrev pub looking_ahead : List ℕ → List ℕ → List ℕ → List ℕ → Ahead
looking_ahead rows covers left pointers = record { rows = rows; covers = covers; left = left; pointers = pointers }

-- "at each class before the owner it fails if that class may not flow to the owner or has turns left": otherwise it goes on
unfoldable pub goes_on : Ahead → ℕ → ℕ → Bool
goes_on ahead owner c = flows_in ahead.rows c owner && eqb (get_or ahead.left c 0) 0

-- from a class on, it "reaches the owner". It goes by "the marks as they would move" (W-201: "The trial walk follows.": it passes on from each class before the owner, so each mark moves once more and then
-- names the child), and changes nothing. The first argument bounds how often it ascends, as in the
-- traversal.
unfoldable pub reaches : ℕ → Ahead → ℕ → ℕ → Bool
reaches zero ahead owner c = eqb c owner
reaches (suc rest) ahead owner c =
    elim (eqb c owner) [
      | true ↦ true
      | false ↦
          elim (goes_on ahead owner c) [
            | true ↦ reaches rest ahead owner (named ahead.covers ahead.pointers c)
            | false ↦ false
          ]
    ]

-- "and the turns left (the caps, in an epoch's last turn)": turn number k is an epoch's last where the next one starts an epoch
unfoldable pub next_left : Policy → ℕ → List ℕ → List ℕ
next_left p k left = cond (eqb ((k + 1) % p.epoch) 0) p.caps left

-- what the lookahead of turn number k goes by
abbrev pub ahead_of : Policy → ℕ → List ℕ → List ℕ → Ahead
ahead_of p k left pointers = looking_ahead p.rows p.covers (next_left p k left) pointers

-- W-202: "before a home turn the dead time is dropped if and only if the owner may flow to the home class". "The trial walk serves only before" other turns: "It is dropped when a trial walk .. reaches the
-- owner: it starts at the least class", where such a turn's traversal starts.
unfoldable pub elides : Policy → ℕ → List ℕ → List ℕ → ℕ → Bool
elides p k left pointers owner = cond (home_turn p (k + 1)) (flows p owner (home_class p (k + 1))) (reaches 16 (ahead_of p k left pointers) owner (least p))
