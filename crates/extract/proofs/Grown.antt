-- Laws of the calls that stay and of extracts: the length of a line, a list cut in two, and what one more call adds. The forms at `i + 1` are those that a
-- counting loop asks.
-- Assumes nothing.
use mathlib.Core.Path.{◌≡◌, refl, sym, ap, ◌∙◌}
use mathlib.Core.Logic.{◌⊎◌, inl, inr, ⊎_elim}
use mathlib.Core.Bool.{Bool, true, false, cond}
use mathlib.Core.List.{List, [], ◌∷◌, ◌++◌, append-nil, append_assoc}
use Prim.Native.Nat.{ℕ, suc, ◌+◌, ◌*◌, ◌≤◌, ◌<◌}
use native.Mathlib.Numerals.{add-one}
use native.Mathlib.Omega.{arith}
use borrow.Author.Tests.{ne_eqb}
use lib.ListN.{length, get_or, take, drop, length-append, take-append-drop}
use Rattle.std.proofs.Common.{count_by}
use Rattle.std.proofs.lemmas.List.Recursion.{is_count_by}
use lib.Seq.{length-take-le, take-suc, get_or-drop, drop-drop, sets}
use Rattle.basics.proofs.Truth.{either, not-both, on-true, on-false}
use Rattle.requests.specs.Word.{is_offer, request_of}
use Rattle.requests.specs.declared.Request.{Request}
use Rattle.requests.specs.Trace.{call_of}
use Rattle.requests.specs.declared.Call.{Call}
use Rattle.requests.specs.declared.Call.TheVariants.{Tick, Offer, Malformed}
use Rattle.requests.proofs.Trace.{told-offer, told-malformed}
use Rattle.extract.specs.Seen.{call_stays, stays, staying}
use Rattle.extract.specs.Extract.{hide_word, hide_turn, line_seen, line_seen_at, extract_of}
use Rattle.basics.proofs.Stores.{written-more}

-- a number other than 0 is an offer or malformed
pub no-tick : (w : ℕ) → ((w ≡ 0) → ⊥) → (call_of w ≡ Offer (request_of w)) ⊎ (call_of w ≡ Malformed)
no-tick w some =
    let other = ne_eqb w 0 some in
    ⊎_elim (λ t. inl (told-offer w other t)) (λ t. inr (told-malformed w other t)) (either (is_offer w))

-- four numbers, one by one
pub four_of : (l : List ℕ) → length l ≡ 4 → l ≡ get_or l 0 0 ∷ get_or l 1 0 ∷ get_or l 2 0 ∷ get_or l 3 0 ∷ []
four_of [] e = absurd (omega (arith, e))
four_of (a ∷ []) e = absurd (omega (arith, e))
four_of (a ∷ b ∷ []) e = absurd (omega (arith, e))
four_of (a ∷ b ∷ c ∷ []) e = absurd (omega (arith, e))
four_of (a ∷ b ∷ c ∷ d ∷ []) e = refl
four_of (a ∷ b ∷ c ∷ d ∷ x ∷ l) e = absurd (omega (arith, e))

module _ (seen : ℕ → Bool) where
  malformed-dropped : call_stays seen Malformed ≡ false
  unfolding call_stays
  malformed-dropped = refl

  -- ---- one call

  -- a call that stays leaves its four numbers, and another none
  line_kept : (t : Call) (s c a n : ℕ) → call_stays seen t ≡ true → length (line_seen seen t s c a n) ≡ 4
  unfolding call_stays line_seen
  line_kept Tick s c a n e = refl
  line_kept (Offer r) s c a n e = ap length (on-true (seen r.class) (s ∷ c ∷ a ∷ n ∷ []) [] e)
  line_kept Malformed s c a n e = absurd (not-both e refl)

  line-dropped : (t : Call) (s c a n : ℕ) → call_stays seen t ≡ false → line_seen seen t s c a n ≡ []
  unfolding call_stays line_seen
  line-dropped Tick s c a n e = absurd (not-both refl e)
  line-dropped (Offer r) s c a n e = on-false (seen r.class) (s ∷ c ∷ a ∷ n ∷ []) [] e
  line-dropped Malformed s c a n e = refl

  -- a tick leaves its four numbers with some hidden, and an offer that stays leaves them as they are
  pub tick-line : (w s c a n : ℕ) {x y z : ℕ} → w ≡ 0 → x ≡ hide_word seen c → y ≡ hide_word seen a → z ≡ hide_turn seen n → s ∷ x ∷ y ∷ z ∷ [] ≡ line_seen seen (call_of w) s c a n
  unfolding call_of line_seen
  tick-line w s c a n e ex ey ez = rw (e, ex, ey, ez)

  as-they-are : (r : Request) (s c a n : ℕ) → call_stays seen (Offer r) ≡ true → s ∷ c ∷ a ∷ n ∷ [] ≡ line_seen seen (Offer r) s c a n
  unfolding line_seen
  as-they-are r s c a n e = sym (on-true (call_stays seen (Offer r)) (s ∷ c ∷ a ∷ n ∷ []) [] e)

  pub offer-line : (w s c a n : ℕ) → ((w ≡ 0) → ⊥) → stays seen w ≡ true → s ∷ c ∷ a ∷ n ∷ [] ≡ line_seen seen (call_of w) s c a n
  unfolding stays
  offer-line w s c a n some e =
      ⊎_elim
      (λ t. rw t (as-they-are (request_of w) s c a n (sym (ap (call_stays seen) t) ∙ e)))
      (λ t. absurd (not-both e (ap (call_stays seen) t ∙ malformed-dropped)))
      (no-tick w some)

  pub four-left : (w : ℕ) (log : List ℕ) (from : ℕ) → stays seen w ≡ true → length (line_seen_at seen w log from) ≡ 4
  unfolding stays line_seen_at
  four-left w log from e = line_kept (call_of w) (get_or log from 0) (get_or log (from + 1) 0) (get_or log (from + 2) 0) (get_or log (from + 3) 0) e

  pub none_left : (w : ℕ) (log : List ℕ) (from : ℕ) → stays seen w ≡ false → line_seen_at seen w log from ≡ []
  unfolding stays line_seen_at
  none_left w log from e = line-dropped (call_of w) (get_or log from 0) (get_or log (from + 1) 0) (get_or log (from + 2) 0) (get_or log (from + 3) 0) e

  -- ---- the calls that stay

  pub purge-yes : (w : ℕ) (ws : List ℕ) → stays seen w ≡ true → staying seen (w ∷ ws) ≡ w ∷ staying seen ws
  unfolding staying
  purge-yes w ws e = on-true (stays seen w) (w ∷ staying seen ws) (staying seen ws) e

  pub purge-no : (w : ℕ) (ws : List ℕ) → stays seen w ≡ false → staying seen (w ∷ ws) ≡ staying seen ws
  unfolding staying
  purge-no w ws e = on-false (stays seen w) (w ∷ staying seen ws) (staying seen ws) e

  -- to count them is to count the list of them
  one_counted : (w : ℕ) (ws : List ℕ) → length (staying seen (w ∷ ws)) ≡ cond (stays seen w) (1 + length (staying seen ws)) (length (staying seen ws))
  one_counted w ws =
      ⊎_elim
      (λ e. rw e (omega (arith, ap length (purge-yes w ws e))))
      (λ e. rw e (ap length (purge-no w ws e)))
      (either (stays seen w))

  pub counted : (trace : List ℕ) → count_by (stays seen) trace ≡ length (staying seen trace)
  unfolding staying
  counted trace = sym (is_count_by (λ (ws : List ℕ). length (staying seen ws)) (stays seen) refl one_counted trace)

  purge-append : (xs ys : List ℕ) → staying seen (xs ++ ys) ≡ staying seen xs ++ staying seen ys
  unfolding staying
  purge-append [] ys = refl
  purge-append (x ∷ xs) ys =
      ⊎_elim
      (λ e. purge-yes x (xs ++ ys) e ∙ ap (λ (l : List ℕ). x ∷ l) (purge-append xs ys) ∙ sym (ap (λ (l : List ℕ). l ++ staying seen ys) (purge-yes x xs e)))
      (λ e. purge-no x (xs ++ ys) e ∙ purge-append xs ys ∙ sym (ap (λ (l : List ℕ). l ++ staying seen ys) (purge-no x xs e)))
      (either (stays seen x))

  -- ---- extracts

  -- a trace cut in two: the second part's log numbers are those behind the first's
  pub extract-append : (xs ys log : List ℕ) → extract_of seen (xs ++ ys) log ≡ extract_of seen xs log ++ extract_of seen ys (drop (4 * length xs) log)
  unfolding extract_of
  extract-append [] ys log = refl
  extract-append (x ∷ xs) ys log =
      let place : 4 + 4 * length xs ≡ 4 * suc (length xs) = omega arith in
      let line = line_seen_at seen x log 0 in
      ap (λ (l : List ℕ). line ++ l)
      (extract-append xs ys (drop 4 log)
      ∙ ap (λ (l : List ℕ). extract_of seen xs (drop 4 log) ++ extract_of seen ys l) (drop-drop (4 * length xs) 4 log ∙ ap (λ (n : ℕ). drop n log) place))
      ∙ sym (append_assoc line (extract_of seen xs (drop 4 log)) (extract_of seen ys (drop (4 * suc (length xs)) log)))

  -- a line of what stands from n on
  pub line-past : (w : ℕ) (log : List ℕ) (n from : ℕ) → line_seen_at seen w (drop n log) from ≡ line_seen_at seen w log (n + from)
  unfolding line_seen_at
  line-past w log n from =
      let at : (k : ℕ) → get_or (drop n log) (from + k) 0 ≡ get_or log (n + from + k) 0 = λ k. get_or-drop n log (from + k) 0 ∙ ap (λ (i : ℕ). get_or log i 0) (omega arith) in
      rw (get_or-drop n log from 0, at 1, at 2, at 3)

  -- one more call
  extract-more : (trace log : List ℕ) (i : ℕ) → i < length trace → extract_of seen (take (i + 1) trace) log ≡ extract_of seen (take i trace) log ++ line_seen_at seen (get_or trace i 0) log (4 * i)
  unfolding extract_of
  extract-more trace log i h =
      let w = get_or trace i 0 in
      let size : length (take i trace) ≡ i = length-take-le i trace (omega arith) in
      rw (add-one i)
      (ap (λ (l : List ℕ). extract_of seen l log) (take-suc trace i 0 h)
      ∙ extract-append (take i trace) (w ∷ []) log
      ∙ ap (λ (l : List ℕ). extract_of seen (take i trace) log ++ l)
      (append-nil (line_seen_at seen w (drop (4 * length (take i trace)) log) 0)
      ∙ ap (λ (n : ℕ). line_seen_at seen w (drop (4 * n) log) 0) size
      ∙ line-past w log (4 * i) 0
      ∙ ap (line_seen_at seen w log) (omega arith)))

  -- the extract of the first calls is no longer than the whole
  extract-part : (trace log : List ℕ) (n : ℕ) → length (extract_of seen (take n trace) log) ≤ length (extract_of seen trace log)
  extract-part trace log n =
      let whole : length (extract_of seen trace log) ≡ length (extract_of seen (take n trace) log) + length (extract_of seen (drop n trace) (drop (4 * length (take n trace)) log)) =
      ap (λ (l : List ℕ). length (extract_of seen l log)) (sym (take-append-drop n trace))
      ∙ ap length (extract-append (take n trace) (drop n trace) log)
      ∙ length-append (extract_of seen (take n trace) log) (extract_of seen (drop n trace) (drop (4 * length (take n trace)) log))
      in
      omega (arith, whole)

  -- so a line has room where the whole has
  pub line-fits : (trace log : List ℕ) (i room : ℕ)
      → i < length trace
      → length (extract_of seen trace log) ≤ room
      → length (extract_of seen (take i trace) log) + length (line_seen_at seen (get_or trace i 0) log (4 * i)) ≤ room
  line-fits trace log i room h fits =
      let more = ap length (extract-more trace log i h) ∙ length-append (extract_of seen (take i trace) log) (line_seen_at seen (get_or trace i 0) log (4 * i)) in
      omega (arith, more, extract-part trace log (i + 1))

  -- line i, put behind those before it
  pub line-more : (trace log l : List ℕ) (i : ℕ) {before after : List ℕ} {at next : ℕ}
      → i < length trace
      → length (extract_of seen trace log) ≤ length l
      → at ≡ length (extract_of seen (take i trace) log)
      → before ≡ extract_of seen (take i trace) log ++ drop at l
      → next ≡ at + length (line_seen_at seen (get_or trace i 0) log (4 * i))
      → after ≡ sets before at (line_seen_at seen (get_or trace i 0) log (4 * i))
      → (next ≡ length (extract_of seen (take (i + 1) trace) log)) × (after ≡ extract_of seen (take (i + 1) trace) log ++ drop next l)
  line-more trace log l i {before} {after} {at} {next} h fits place b n a =
      let done = extract_of seen (take i trace) log in
      let line = line_seen_at seen (get_or trace i 0) log (4 * i) in
      let room : at + length line ≤ length l = omega (arith, line-fits trace log i (length l) h fits) in (
        n ∙ ap (λ (k : ℕ). k + length line) place ∙ sym (length-append done line) ∙ sym (ap length (extract-more trace log i h)),
        a
            ∙ ap (λ (q : List ℕ). sets q at line) b
            ∙ written-more done line l at (sym place) room
            ∙ ap (λ (q : List ℕ). q ++ drop (at + length line) l) (sym (extract-more trace log i h))
            ∙ ap (λ (k : ℕ). extract_of seen (take (i + 1) trace) log ++ drop k l) (sym n),
      )
