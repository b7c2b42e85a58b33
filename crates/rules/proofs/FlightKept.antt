-- What a tick does to what is in flight: what holds of each pending word holds of each a cycle later, if it lasts and holds of the one that is activated.
-- Assumes nothing.
use mathlib.Core.Path.{◌≡◌, sym, ◌∙◌, subst}
use mathlib.Core.Bool.{true}
use mathlib.Core.List.{List}
use Prim.Native.Nat.{ℕ, ◌+◌, ◌%◌, ◌<◌}
use native.Mathlib.Omega.{arith}
use lib.ListN.{length, get_or, set, length-set}
use Rattle.policy.specs.Laws.{TimingLaws}
use Rattle.basics.proofs.Stores.{stored_at}
use Rattle.requests.specs.Word.{rank_of, kind_of, bank_place}
use Rattle.requests.proofs.Word.{place-small}
use Rattle.rules.specs.Wire.{activated}
use Rattle.flight.specs.Flight.{sent_at, activate_at}
use Rattle.rules.specs.History.{Each, Activates}
use Rattle.rules.specs.Step.{Bus, going, can_activate, drive, answered}
use Rattle.flight.specs.declared.Flight.{Flight}
use Rattle.rules.proofs.Step.{outcome}
use Rattle.rules.proofs.PendingWords.{Later, each_map, each_next, sent-none, each-sent, each-added, added_none}

module _ (b : Bus) (laws : TimingLaws b.timing) (P Q : ℕ → ℕ → Type 0) (lasts : (d w : ℕ) → P (d + 1) w → Q d w) where
  abbrev t : ℕ
  t = b.cycle

  abbrev f : Flight
  f = b.flight

  column-small : b.timing.column < 32
  column-small = omega (arith, laws.column_bounds.1, laws.response_bounds.1, laws.dead_bounds.1)

  response-small : b.timing.response < 32
  response-small = omega (arith, laws.response_bounds.1, laws.dead_bounds.1)

  later : (pending : List ℕ) → Each P t pending → Each (Later Q) t pending
  later pending h = each_map P (Later Q) t pending (λ d w x e same. lasts e w (subst (λ (k : ℕ). P k w) same x)) h

  -- what is due has gone out
  sent-next : (pending : List ℕ) → length pending ≡ 32 → Each (Later Q) t pending → Each Q (t + 1) (sent_at pending t)
  sent-next pending long h = each_next Q t (sent_at pending t) (sent-none (Later Q) t pending long) (each-sent (Later Q) t pending long h)

  pub columns-next : length f.columns ≡ 32 → (can_activate b ≡ true → Later Q b.timing.column (going b)) → Each P t f.columns → Each Q (t + 1) (drive b).flight.columns
  unfolding activated
  columns-next long new h =
      outcome b (λ d. Each Q (t + 1) d.flight.columns)
      (λ due. sent-next f.columns long (later f.columns h))
      (λ due goes.
      each_next Q t (set f.columns ((t + b.timing.column) % 32) (going b))
      (added_none (Later Q) t f.columns long (going b) b.timing.column laws.column_bounds.0 column-small due)
      (each-added (Later Q) t f.columns long (going b) b.timing.column column-small (new goes) (later f.columns h)))
      (λ due stays. each_next Q t f.columns due (later f.columns h))

  pub responses-next : length f.responses ≡ 32 → (can_activate b ≡ true → Later Q b.timing.response (going b)) → Each P t f.responses → Each Q (t + 1) (answered t (drive b).flight).responses
  unfolding activated answered
  responses-next long new h =
      outcome b (λ d. Each Q (t + 1) (sent_at d.flight.responses t))
      (λ due. sent-next f.responses long (later f.responses h))
      (λ due goes.
      sent-next (set f.responses ((t + b.timing.response) % 32) (going b))
      (length-set f.responses ((t + b.timing.response) % 32) (going b) ∙ long)
      (each-added (Later Q) t f.responses long (going b) b.timing.response response-small (new goes) (later f.responses h)))
      (λ due stays. sent-next f.responses long (later f.responses h))

-- ---- the last activates, of all and of each bank

pub activates-next : (b : Bus) (P Q : ℕ → Type 0) → ((x : ℕ) → P x → Q x) → length b.flight.banks ≡ 32 → (can_activate b ≡ true → Q (activate_at b.cycle (rank_of (going b)) (kind_of (going b)))) → Activates P b.flight → Activates Q (answered b.cycle (drive b).flight)
unfolding activated answered
activates-next b P Q lasts long new h =
    let w = going b in
    let f = b.flight in
    let at = activate_at b.cycle (rank_of w) (kind_of w) in
    let bank : (i : ℕ) → i < 32 → Q (get_or f.banks i 0) = λ i l. lasts (get_or f.banks i 0) (h.of-bank i l) in
    outcome b (λ d. Activates Q (answered b.cycle d.flight))
    (λ due. record { of_all = lasts f.last h.of_all; of-bank = bank })
    (λ due goes.
    record {
      of_all = new goes;
      of-bank =
          λ i l. stored_at Q f.banks (bank_place w) at i (subst (λ (k : ℕ). bank_place w < k) (sym long) (place-small w)) (λ e. new goes) (λ e. bank i l);
    })
    (λ due stays. record { of_all = lasts f.last h.of_all; of-bank = bank })
