-- What an extract shows, of any set of seen classes: it is the same of two logs exactly if what may be seen of them is; and an extract for fewer classes can be had from one for
-- more. Both line by line: what is hidden shows 0 or 512, which is hidden from fewer classes too.
-- Assumes nothing.
use mathlib.Core.Path.{◌≡◌, refl, sym, ap, ap₂, ◌∙◌}
use mathlib.Core.Logic.{◌↔◌, ◌⊎◌, inl, inr, ⊎_elim}
use mathlib.Core.Bool.{Bool, true, false, not}
use mathlib.Core.List.{List, [], ◌∷◌, ◌++◌}
use Prim.Native.Nat.{ℕ, zero, suc, ◌+◌, ◌*◌, ◌%◌, ◌-◌, ◌<◌, zero-le, suc-le-suc}
use native.Mathlib.Nat.{not-suc-le-zero, le_of_suc-le-suc}
use native.Mathlib.Omega.{arith}
use borrow.Author.Tests.{ne_eqb, eqb-true, eqb-false}
use lib.Dec.{eqb}
use lib.ListN.{length, get_or, take, drop}
use lib.Seq.{take-append_seam, drop-append_seam, drop_at}
use Rattle.basics.proofs.Truth.{either, false-unless, not-both, and_left, and_right, and_both, on-either}
use Rattle.requests.specs.Word.{class_of}
use Rattle.requests.specs.Trace.{call_of}
use Rattle.requests.specs.declared.Call.{Call}
use Rattle.requests.specs.declared.Call.TheVariants.{Tick, Offer, Malformed}
use Rattle.extract.specs.Seen.{call_stays, stays, staying}
use Rattle.extract.specs.Extract.{hide_word, owner_seen, hide_turn, line_seen_at, extract_of}
use Rattle.shown.specs.Sets.{Unseen, WordsAlike, OwnerUnseen, TurnsAlike, LineAlike, LogsAlike}
use Rattle.extract.proofs.Grown.{tick-line, offer-line, four-left, none_left, purge-yes, purge-no, line-past}
use Rattle.extract.proofs.Laws.{own_line}

-- two lists of two parts each, the first as long as each other
split : (a b c d : List ℕ) → length a ≡ length b → a ++ c ≡ b ++ d → (a ≡ b) × (c ≡ d)
split a b c d long e =
    (sym (take-append_seam a c) ∙ ap₂ take long e ∙ take-append_seam b d, sym (drop-append_seam a c) ∙ ap₂ drop long e ∙ drop-append_seam b d)

-- a tick, or not
pub zero_or_not : (w : ℕ) → (w ≡ 0) ⊎ ((w ≡ 0) → ⊥)
zero_or_not w = ⊎_elim (λ z. inl (eqb-true w 0 z)) (λ n. inr (eqb-false w 0 n)) (either (eqb w 0))

module _ (seen : ℕ → Bool) where
  -- ---- a command or answer

  pub word-seen : (w : ℕ) → seen (class_of w) ≡ true → hide_word seen w ≡ w
  unfolding hide_word
  word-seen w e = rw e

  pub word-unseen : (w : ℕ) → Unseen seen w → hide_word seen w ≡ 0
  unfolding hide_word
  word-unseen w h = ⊎_elim (λ z. rw z (on-either (seen (class_of 0)) 0)) (λ e. rw e) h

  -- it is seen, or shows nothing
  word-told : (w : ℕ) → (hide_word seen w ≡ w) ⊎ Unseen seen w
  word-told w = ⊎_elim (λ e. inl (word-seen w e)) (λ e. inr (inr e)) (either (seen (class_of w)))

  words-shown : (w v : ℕ) → (hide_word seen w ≡ hide_word seen v) ↔ WordsAlike seen w v
  words-shown w v = (
    λ e.
        ⊎_elim
        (λ p. ⊎_elim (λ q. inl (sym p ∙ e ∙ q)) (λ u. inr (inl (sym p ∙ e ∙ word-unseen v u), u)) (word-told v))
        (λ u. ⊎_elim (λ q. inr (u, inl (sym q ∙ sym e ∙ word-unseen w u))) (λ x. inr (u, x)) (word-told v))
        (word-told w),
    λ h. ⊎_elim (ap (hide_word seen)) (λ u. word-unseen w u.0 ∙ sym (word-unseen v u.1)) h,
  )

  -- ---- a turn number

  turn-none : hide_turn seen 0 ≡ 0
  unfolding hide_turn
  turn-none = refl

  turn-seen : (t : ℕ) → owner_seen seen t ≡ true → hide_turn seen t ≡ t
  unfolding hide_turn
  turn-seen t e =
      ⊎_elim (λ z. rw (eqb-true t 0 z) refl) (λ (n : eqb t 0 ≡ false). rw (n, e)) (either (eqb t 0))

  turn-hidden : (t : ℕ) → OwnerUnseen seen t → hide_turn seen t ≡ 512
  unfolding hide_turn
  turn-hidden t h = rw (ne_eqb t 0 h.0, h.1)

  -- 512 names no owner
  hidden-names-none : owner_seen seen 512 ≡ false
  unfolding owner_seen
  hidden-names-none = refl

  -- it is shown as it is and not 512, or it is hidden
  turn-told : (t : ℕ) → ((hide_turn seen t ≡ t) × ((t ≡ 512) → ⊥)) ⊎ OwnerUnseen seen t
  turn-told t =
      ⊎_elim
      (λ z. let none : t ≡ 0 = eqb-true t 0 z in inl (ap (hide_turn seen) none ∙ turn-none ∙ sym none, λ e. absurd (not-both (ap (λ (k : ℕ). eqb k 512) e) (ap (λ (k : ℕ). eqb k 512) none))))
      (λ n.
      ⊎_elim
      (λ e. inl (turn-seen t e, λ f. not-both e (ap (owner_seen seen) f ∙ hidden-names-none)))
      (λ e. inr (eqb-false t 0 n, e))
      (either (owner_seen seen t)))
      (either (eqb t 0))

  turns-shown : (t u : ℕ) → (hide_turn seen t ≡ hide_turn seen u) ↔ TurnsAlike seen t u
  turns-shown t u = (
    λ e.
        ⊎_elim
        (λ p. ⊎_elim (λ q. inl (sym p.0 ∙ e ∙ q.0)) (λ h. absurd (p.1 (sym p.0 ∙ e ∙ turn-hidden u h))) (turn-told u))
        (λ h. ⊎_elim (λ q. absurd (q.1 (sym q.0 ∙ sym e ∙ turn-hidden t h))) (λ k. inr (h, k)) (turn-told u))
        (turn-told t),
    λ h. ⊎_elim (ap (hide_turn seen)) (λ k. turn-hidden t k.0 ∙ sym (turn-hidden u k.1)) h,
  )

  -- ---- a line

  -- of a tick some is hidden, and of an offer that stays nothing
  pub as-tick : (w : ℕ) (log : List ℕ) (from : ℕ) → w ≡ 0
      → line_seen_at seen w log from ≡ get_or log from 0 ∷ hide_word seen (get_or log (from + 1) 0) ∷ hide_word seen (get_or log (from + 2) 0) ∷ hide_turn seen (get_or log (from + 3) 0) ∷ []
  unfolding line_seen_at
  as-tick w log from z = sym (tick-line seen w (get_or log from 0) (get_or log (from + 1) 0) (get_or log (from + 2) 0) (get_or log (from + 3) 0) z refl refl refl)

  as-offer : (w : ℕ) (log : List ℕ) (from : ℕ) → ((w ≡ 0) → ⊥) → stays seen w ≡ true
      → line_seen_at seen w log from ≡ get_or log from 0 ∷ get_or log (from + 1) 0 ∷ get_or log (from + 2) 0 ∷ get_or log (from + 3) 0 ∷ []
  unfolding line_seen_at
  as-offer w log from some e = sym (offer-line seen w (get_or log from 0) (get_or log (from + 1) 0) (get_or log (from + 2) 0) (get_or log (from + 3) 0) some e)

  module _ (w : ℕ) (log other : List ℕ) (from : ℕ) (kept : stays seen w ≡ true) where
    -- the number at place k of two lines that are the same
    at : (k : ℕ) {xs ys : List ℕ} → xs ≡ ys → get_or xs k 0 ≡ get_or ys k 0
    at k e = ap (λ (l : List ℕ). get_or l k 0) e

    line-alike : line_seen_at seen w log from ≡ line_seen_at seen w other from → LineAlike seen w log other from
    line-alike e =
        let ticks : (z : w ≡ 0) → _ = λ z. sym (as-tick w log from z) ∙ e ∙ as-tick w other from z in
        let offers : (n : (w ≡ 0) → ⊥) → _ = λ n. sym (as-offer w log from n kept) ∙ e ∙ as-offer w other from n kept in
        record {
          status = ⊎_elim (λ z. at 0 (ticks z)) (λ n. at 0 (offers n)) (zero_or_not w);
          of_tick =
              λ z. (
                (words-shown (get_or log (from + 1) 0) (get_or other (from + 1) 0)).0 (at 1 (ticks z)),
                (words-shown (get_or log (from + 2) 0) (get_or other (from + 2) 0)).0 (at 2 (ticks z)),
                (turns-shown (get_or log (from + 3) 0) (get_or other (from + 3) 0)).0 (at 3 (ticks z)),
              );
          of_offer = λ n. (at 1 (offers n), at 2 (offers n), at 3 (offers n));
        }

    line_same : LineAlike seen w log other from → line_seen_at seen w log from ≡ line_seen_at seen w other from
    line_same h =
        ⊎_elim
        (λ z.
        let t = h.of_tick z in
        let command = (words-shown (get_or log (from + 1) 0) (get_or other (from + 1) 0)).1 t.0 in
        let response = (words-shown (get_or log (from + 2) 0) (get_or other (from + 2) 0)).1 t.1 in
        let turn = (turns-shown (get_or log (from + 3) 0) (get_or other (from + 3) 0)).1 t.2 in
        as-tick w log from z ∙ rw (h.status, command, response, turn) (sym (as-tick w other from z)))
        (λ n.
        let o = h.of_offer n in
        as-offer w log from n kept ∙ rw (h.status, o.0, o.1, o.2) (sym (as-offer w other from n kept)))
        (zero_or_not w)

  -- ---- a log

  -- the lines of a call in two logs are equally long
  as_long : (w : ℕ) (log other : List ℕ) → length (line_seen_at seen w log 0) ≡ length (line_seen_at seen w other 0)
  as_long w log other =
      ⊎_elim
      (λ e. four-left seen w log 0 e ∙ sym (four-left seen w other 0 e))
      (λ e. ap length (none_left seen w log 0 e ∙ sym (none_left seen w other 0 e)))
      (either (stays seen w))

  -- line by line
  abbrev Lines : List ℕ → List ℕ → List ℕ → Type 0
  Lines trace log other = (i : ℕ) → i < length trace → line_seen_at seen (get_or trace i 0) log (4 * i) ≡ line_seen_at seen (get_or trace i 0) other (4 * i)

  -- the lines of the calls behind the first
  behind : (w : ℕ) (log : List ℕ) (i : ℕ) → line_seen_at seen w (drop 4 log) (4 * i) ≡ line_seen_at seen w log (4 * suc i)
  behind w log i = line-past seen w log 4 (4 * i) ∙ ap (line_seen_at seen w log) (omega arith)

  to-lines : (trace log other : List ℕ) → extract_of seen trace log ≡ extract_of seen trace other → Lines trace log other
  unfolding extract_of
  to-lines [] log other e i h = absurd (not-suc-le-zero h)
  to-lines (w ∷ ws) log other e zero h = (split (line_seen_at seen w log 0) (line_seen_at seen w other 0) (extract_of seen ws (drop 4 log)) (extract_of seen ws (drop 4 other)) (as_long w log other) e).0
  to-lines (w ∷ ws) log other e (suc i) h =
      let rest = (split (line_seen_at seen w log 0) (line_seen_at seen w other 0) (extract_of seen ws (drop 4 log)) (extract_of seen ws (drop 4 other)) (as_long w log other) e).1 in
      let v = get_or ws i 0 in
      sym (behind v log i) ∙ to-lines ws (drop 4 log) (drop 4 other) rest i (le_of_suc-le-suc h) ∙ behind v other i

  from-lines : (trace log other : List ℕ) → Lines trace log other → extract_of seen trace log ≡ extract_of seen trace other
  unfolding extract_of
  from-lines [] log other h = refl
  from-lines (w ∷ ws) log other h =
      ap₂ ◌++◌ (h 0 (suc-le-suc zero-le))
      (from-lines ws (drop 4 log) (drop 4 other) (λ i l. let v = get_or ws i 0 in behind v log i ∙ h (suc i) (suc-le-suc l) ∙ sym (behind v other i)))

  -- "shows no more": the extracts of two logs of a trace are the same exactly if the logs' kept parts are
  pub logs-shown : (trace log other : List ℕ) → (extract_of seen trace log ≡ extract_of seen trace other) ↔ LogsAlike seen trace log other
  logs-shown trace log other = (
    λ e i l kept. line-alike (get_or trace i 0) log other (4 * i) kept (to-lines trace log other e i l),
    λ h.
        from-lines trace log other
        (λ i l.
        let w = get_or trace i 0 in
        ⊎_elim
        (λ kept. line_same w log other (4 * i) kept (h i l kept))
        (λ e. none_left seen w log (4 * i) e ∙ sym (none_left seen w other (4 * i) e))
        (either (stays seen w))),
  )

-- ---- an extract for fewer classes

module _ (fewer more : ℕ → Bool) (within : (c : ℕ) → fewer c ≡ true → more c ≡ true) where
  -- what is hidden from more is hidden from fewer
  word-hidden : (w : ℕ) → hide_word fewer (hide_word more w) ≡ hide_word fewer w
  word-hidden w =
      ⊎_elim
      (λ e. ap (hide_word fewer) (word-seen more w e))
      (λ e.
      let hidden : fewer (class_of w) ≡ false = false-unless (fewer (class_of w)) (λ t. not-both (within (class_of w) t) e) in
      ap (hide_word fewer) (word-unseen more w (inr e)) ∙ word-unseen fewer 0 (inl refl) ∙ sym (word-unseen fewer w (inr hidden)))
      (either (more (class_of w)))

  owner-within : (t : ℕ) → owner_seen fewer t ≡ true → owner_seen more t ≡ true
  unfolding owner_seen
  owner-within t e =
      and_both (and_left (not (eqb (t % 256) 0)) (fewer (t % 256 - 1)) e) (within (t % 256 - 1) (and_right (not (eqb (t % 256) 0)) (fewer (t % 256 - 1)) e))

  turn_twice : (t : ℕ) → hide_turn fewer (hide_turn more t) ≡ hide_turn fewer t
  turn_twice t =
      ⊎_elim
      (λ p. ap (hide_turn fewer) p.0)
      (λ h.
      let hidden : owner_seen fewer t ≡ false = false-unless (owner_seen fewer t) (λ e. not-both (owner-within t e) h.1) in
      ap (hide_turn fewer) (turn-hidden more t h) ∙ turn-hidden fewer 512 (λ e. not-both (ap (λ (k : ℕ). eqb k 512) (sym e)) refl, hidden-names-none fewer) ∙ sym (turn-hidden fewer t (h.0, hidden)))
      (turn-told more t)

  -- what stays for fewer stays for more
  call-within : (c : Call) → call_stays fewer c ≡ true → call_stays more c ≡ true
  unfolding call_stays
  call-within Tick e = refl
  call-within (Offer r) e = within r.class e
  call-within Malformed e = e

  stays_within : (w : ℕ) → stays fewer w ≡ true → stays more w ≡ true
  unfolding stays
  stays_within w e = call-within (call_of w) e

  -- a line goes by its four numbers
  four-alone : (w : ℕ) (log : List ℕ) → line_seen_at fewer w (get_or log 0 0 ∷ get_or log 1 0 ∷ get_or log 2 0 ∷ get_or log 3 0 ∷ []) 0 ≡ line_seen_at fewer w log 0
  unfolding line_seen_at
  four-alone w log = refl

  line-twice : (w : ℕ) (log : List ℕ) → stays more w ≡ true → line_seen_at fewer w (line_seen_at more w log 0) 0 ≡ line_seen_at fewer w log 0
  line-twice w log kept =
      ⊎_elim
      (λ z.
      ap (λ (l : List ℕ). line_seen_at fewer w l 0) (as-tick more w log 0 z)
      ∙ as-tick fewer w (get_or log 0 0 ∷ hide_word more (get_or log 1 0) ∷ hide_word more (get_or log 2 0) ∷ hide_turn more (get_or log 3 0) ∷ []) 0 z
      ∙ rw (word-hidden (get_or log 1 0), word-hidden (get_or log 2 0), turn_twice (get_or log 3 0)) (sym (as-tick fewer w log 0 z)))
      (λ n. ap (λ (l : List ℕ). line_seen_at fewer w l 0) (as-offer more w log 0 n kept) ∙ four-alone w log)
      (zero_or_not w)

  -- "the extract of the extract"
  pub extract-twice : (trace log : List ℕ) → extract_of fewer (staying more trace) (extract_of more trace log) ≡ extract_of fewer trace log
  unfolding extract_of staying
  extract-twice [] log = refl
  extract-twice (w ∷ ws) log =
      let line = line_seen_at more w log 0 in
      let rest = extract_of more ws (drop 4 log) in
      ⊎_elim
      (λ kept.
      let four = four-left more w log 0 kept in
      ap (λ (l : List ℕ). extract_of fewer l (line ++ rest)) (purge-yes more w ws kept)
      ∙ ap₂ ◌++◌ (own_line fewer w line rest (omega (arith, four)) ∙ line-twice w log kept)
      (ap (extract_of fewer (staying more ws)) (drop_at line rest 4 four) ∙ extract-twice ws (drop 4 log)))
      (λ gone.
      let hidden : stays fewer w ≡ false = false-unless (stays fewer w) (λ e. not-both (stays_within w e) gone) in
      ap₂ (λ (l m : List ℕ). extract_of fewer l (m ++ rest)) (purge-no more w ws gone) (none_left more w log 0 gone)
      ∙ extract-twice ws (drop 4 log)
      ∙ ap (λ (l : List ℕ). l ++ extract_of fewer ws (drop 4 log)) (sym (none_left fewer w log 0 hidden)))
      (either (stays more w))
