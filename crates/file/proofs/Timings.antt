-- The numbers of a timing body, by their place in it, pass the test of a timing exactly if each is within its bounds.
-- Assumes nothing.
use mathlib.Core.Path.{◌≡◌}
use mathlib.Core.Logic.{⊎_elim}
use mathlib.Core.Bool.{true, cond}
use Prim.Native.Nat.{ℕ, zero, suc, ◌-◌, ◌≤◌}
use native.Mathlib.Nat.{not-suc-le-zero}
use native.Mathlib.Omega.{arith}
use borrow.Author.Tests.{lt-ltb, le-leb, leb-true, eq-eqb, eqb-true}
use lib.Dec.{leb, eqb, lit<, lit≤}
use Rattle.timing.specs.Timing.{within, gaps_within, bank_within, rank_within, timing_sound}
use Rattle.policy.specs.Laws.{TimingLaws}
use Rattle.file.specs.Taken.{Between, SoundTiming, timing_from}
use Rattle.basics.proofs.Truth.{either, and_left, and_right, and_both}
use Rattle.policy.proofs.Laws.{timing-laws}

pub between-said : (low x high : ℕ) → within low x high ≡ true → Between low x high
unfolding within
between-said low x high e = record { at_least = leb-true low x (and_left (leb low x) (leb x high) e); at_most = leb-true x high (and_right (leb low x) (leb x high) e) }

pub between-tested : (low x high : ℕ) → Between low x high → within low x high ≡ true
unfolding within
between-tested low x high b = and_both (le-leb low x b.at_least) (le-leb x high b.at_most)

module _ (size : ℕ) (t : ℕ → ℕ) where
  gap-said : TimingLaws (timing_from size t) → (k : ℕ) → 2 ≤ k → k ≤ 7 → Between 1 (t k) (t 1)
  unfolding timing_from
  gap-said law zero a b = absurd (not-suc-le-zero {n = 0} (omega arith))
  gap-said law (suc zero) a b = absurd (not-suc-le-zero {n = 0} (omega arith))
  gap-said law (suc (suc zero)) a b = let g = law.gaps_bounds 0 (lit< tt) in record { at_least = g.0; at_most = g.1 }
  gap-said law (suc (suc (suc zero))) a b = let g = law.gaps_bounds 1 (lit< tt) in record { at_least = g.0; at_most = g.1 }
  gap-said law (suc (suc (suc (suc zero)))) a b = let g = law.gaps_bounds 2 (lit< tt) in record { at_least = g.0; at_most = g.1 }
  gap-said law (suc (suc (suc (suc (suc zero))))) a b = let g = law.gaps_bounds 3 (lit< tt) in record { at_least = g.0; at_most = g.1 }
  gap-said law (suc (suc (suc (suc (suc (suc zero)))))) a b = let g = law.bank_bounds 0 (lit< tt) in record { at_least = g.0; at_most = g.1 }
  gap-said law (suc (suc (suc (suc (suc (suc (suc zero))))))) a b = let g = law.bank_bounds 1 (lit< tt) in record { at_least = g.0; at_most = g.1 }
  gap-said law (suc (suc (suc (suc (suc (suc (suc (suc k)))))))) a b = absurd (not-suc-le-zero {n = k} (omega arith))

  -- an eleventh byte is the rank gap, of four ranks; without it there is one rank, and none
  rank-said : TimingLaws (timing_from size t) → size ≡ 11 → Between 1 (t 10) (t 1)
  unfolding timing_from
  rank-said law e =
      let eleven = eq-eqb size 11 e in
      let ranks : (timing_from size t).ranks ≡ 4 = rw eleven in
      let gap : (timing_from size t).rank ≡ t 10 = rw eleven in
      let least : 1 ≤ (timing_from size t).rank = ⊎_elim (λ one. absurd (not-suc-le-zero {n = 0} (omega (arith, one.0, ranks)))) (λ more. more.1) law.ranks_are in
      record { at_least = omega (arith, least, gap); at_most = omega (arith, law.rank_bound, gap) }

  pub sound-said : timing_sound (timing_from size t) ≡ true → SoundTiming size t
  unfolding timing_from
  sound-said e =
      let law = timing-laws (timing_from size t) e in
      record {
        turn_length = record { at_least = law.turn_bounds.0; at_most = law.turn_bounds.1 };
        dead_time = record { at_least = law.dead_bounds.0; at_most = law.dead_bounds.1 };
        dead_below_turn = law.dead_below_turn;
        gaps = gap-said law;
        answer_delay = record { at_least = law.response_bounds.0; at_most = law.response_bounds.1 };
        column_delay = law.column_bounds;
        rank_gap = rank-said law;
      }

  rank-tested : SoundTiming size t → rank_within (cond (eqb size 11) 4 1) (cond (eqb size 11) (t 10) 0) (t 1) ≡ true
  unfolding rank_within
  rank-tested sound =
      ⊎_elim
      (λ eleven. rw eleven (between-tested 1 (t 10) (t 1) (sound.rank_gap (eqb-true size 11 eleven))))
      (λ other. rw other)
      (either (eqb size 11))

  pub sound-tested : SoundTiming size t → timing_sound (timing_from size t) ≡ true
  unfolding timing_sound timing_from gaps_within bank_within
  sound-tested sound =
      and_both
      (and_both
      (and_both
      (and_both
      (and_both
      (and_both (and_both (between-tested 2 (t 0) 255 sound.turn_length) (between-tested 2 (t 1) 31 sound.dead_time)) (lt-ltb (t 1) (t 0) sound.dead_below_turn))
      (and_both (and_both (and_both (gap 2 (lit≤ tt) (lit≤ tt)) (gap 3 (lit≤ tt) (lit≤ tt))) (gap 4 (lit≤ tt) (lit≤ tt))) (gap 5 (lit≤ tt) (lit≤ tt))))
      (and_both (gap 6 (lit≤ tt) (lit≤ tt)) (gap 7 (lit≤ tt) (lit≤ tt))))
      (between-tested 2 (t 9) (t 1) sound.answer_delay))
      (between-tested 1 (t 8) (t 9 - 1) (record { at_least = sound.column_delay.0; at_most = omega (arith, sound.column_delay.1) })))
      (rank-tested sound)
    where
      gap : (k : ℕ) → 2 ≤ k → k ≤ 7 → within 1 (t k) (t 1) ≡ true
      gap k a b = between-tested 1 (t k) (t 1) (sound.gaps k a b)
