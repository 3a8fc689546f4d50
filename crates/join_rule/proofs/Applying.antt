-- Joining, step by step.
--   removed ..      == the links after step 1
use mathlib.Core.Path.{◌≡◌, sym, ◌∙◌, ap}
use mathlib.Core.Bool.{Bool, true, cond}
use mathlib.Core.List.{List}
use Prim.Native.Nat.{ℕ, ◌*◌, ◌<◌}
use lib.ListN.{length, replicate}
use Rattle.laws.specs.Table.{table}
use Rattle.laws.specs.Least.{lower}
use Rattle.point_darts.specs.Dart.{mark, points, slots, reversal}
use Rattle.paper.specs.Level.{tops, marked}
use Rattle.paper.specs.Joining.{Links, at, on, shared, removed, rest1, rest3, smoothed, closes, closed, shared_lines, added, joined}
use Rattle.paper.specs.Refusal.{cleared}
use Rattle.join_darts.specs.Links.{links}
use Rattle.join_rule.specs.Apply.{pair, found}
use Rattle.join_rule.proofs.Fewer.{removed_fewer, on_lowered}

-- Steps 3 and 4.
module _ (w h : ℕ) (o : ℕ → Bool) (t : List ℕ) (e : t ≡ tops w h o) where
  pub settle_links : (l k j : Links) → k ≡ smoothed w h l → j ≡ closes o t (points w h) 0 k
      → j ≡ closed w h o (smoothed w h l)
  unfolding closed
  settle_links l k j f g = g ∙ rw (e, f)

-- All steps but the parents, from the tables n, s, m, o, c, e to the tables n₁, s₁, m₁, o₁, c₁, e₁; k has the links of level 3 after
-- step 1, which took g darts at level 1.
module _ (w h a b : ℕ) (n s m o c e : List ℕ) (u : a < mark) (v : b < mark) (long : length s ≡ slots w h)
    (sided : (d : ℕ) → on n d ≡ true → on s d ≡ true) (n₁ s₁ m₁ o₁ c₁ e₁ : List ℕ) (k : Links)
    (plain : n₁ ≡ (removed w h (links n (table (slots w h) (reversal w))) (shared s (at (table (slots w h) (reversal w))) a b)).next)
    (curves : k ≡ removed w h (links m o) (shared s (at o) a b))
    (settled : links m₁ o₁ ≡ closed w h (on n₁) (smoothed w h k))
    (lowered : s₁ ≡ table (length s) (λ d. cond (on n₁ d) (lower a b (at s d)) mark))
    (g : ℕ) (gone : g ≡ 2 * shared_lines w h s a b) (totals : (c₁ ≡ added a b 0 c) × (e₁ ≡ added a b g e)) where
  sides : s₁ ≡ marked w h (on n₁) (λ d. lower a b (at s d))
  unfolding marked
  sides = lowered ∙ ap (λ z. table z (λ d. cond (on n₁ d) (lower a b (at s d)) mark)) long

  -- the sides are on the lines that remain
  same_lines : on s₁ ≡ on n₁
  same_lines =
      rw sides
      (on_lowered w h a b s n₁ u v long
      (λ d q.
      sided d
      (removed_fewer w h (links n (table (slots w h) (reversal w))) (shared s (at (table (slots w h) (reversal w))) a b) d
      (rw plain at q))))

  all_steps : found w h n₁ s₁ m₁ o₁ c₁ e₁ ≡ joined w h (found w h n s m o c e) a b
  unfolding joined rest1 rest3
  all_steps = rw (← plain, ← sides, ← curves, ← settled, ← totals.0, ← gone, ← totals.1)

  pub all_joined : (found w h n₁ s₁ m₁ o₁ c₁ e₁ ≡ joined w h (found w h n s m o c e) a b) × (tops w h (on n₁) ≡ tops w h (on s₁))
  all_joined = (all_steps, ap (tops w h) (sym same_lines))

-- Two work tables cleared; clearing them tells only their lengths.
module _ (x y u v : List ℕ) where
  pub pair_cleared : u ≡ replicate (length x) 0 → v ≡ replicate (length y) 0 → pair u v ≡ cleared (pair x y)
  unfolding cleared
  pair_cleared e f = rw (e, f)

  pub cleared_long : length u ≡ length x → length v ≡ length y → cleared (pair u v) ≡ cleared (pair x y)
  unfolding cleared
  cleared_long e f = rw (e, f)
