-- The two darts of a point that has two lines.
--   low m, high m   == the first and the last direction of a mask
--   Pair m          == the mask has two directions, low m and high m
use mathlib.Core.Path.{◌≡◌, refl, sym, ◌∙◌, ap}
use mathlib.Core.Bool.{Bool, true, not, ◌&&◌, ◌||◌}
use mathlib.Core.Logic.{◌≢◌, ◌⊎◌, ⊎_map}
use Prim.Native.Nat.{ℕ, ◌<◌}
use lib.Dec.{eqb, ltb, lit<}
use borrow.Author.Tests.{eqb-true, eqb-false, ltb-true, eq-eqb, not-true}
use Rattle.laws.proofs.Test.{and_left, and_right, or_either, or_rest}
use Rattle.laws.proofs.Chart.{Map}
use Rattle.laws.proofs.Meet.{Two}
use Rattle.point_darts.specs.Dart.{dart, point, direction}
use Rattle.point_darts.specs.Point.{half, has, degree}
use Rattle.point_darts.proofs.Darts.{point_dart, direction_dart, dart_own, direction_below}
use Rattle.point_rules.proofs.Turns.{each, each_at}
use Rattle.paper.specs.Level.{mask}
use Rattle.paper.specs.Joining.{low, high}
use Rattle.paper_laws.proofs.Next.{mask_below, has_mask}

pub record Pair (m : ℕ) : Type 0 where
  pub low_below : low m < 4
  pub high_below : high m < 4
  pub has_low : has m (low m) ≡ true
  pub has_high : has m (high m) ≡ true
  pub apart : low m ≢ high m
  pub only : (k : ℕ) → k < 4 → has m k ≡ true → (k ≡ low m) ⊎ (k ≡ high m)

abbrev both : ℕ → Bool
both m = ltb (low m) 4 && ltb (high m) 4 && has m (low m) && has m (high m) && not (eqb (low m) (high m))

abbrev paired : ℕ → ℕ → ℕ → Bool
paired m j k = not (eqb (degree m) 2) || both m && (not (has m k) || (eqb k (low m) || eqb k (high m)))

all_paired : each 1 4 paired ≡ true
unfolding low high has half degree
all_paired = refl

module _ (m : ℕ) (l : m < 16) (d : degree m ≡ 2) where
  at_line : (k : ℕ) → k < 4 → (both m && (not (has m k) || (eqb k (low m) || eqb k (high m)))) ≡ true
  at_line k b =
      or_rest (eqb (degree m) 2) (both m && (not (has m k) || (eqb k (low m) || eqb k (high m))))
      (each_at 1 4 paired all_paired m l 0 k (lit< tt) b) (eq-eqb (degree m) 2 d)

  pub pair_of : Pair m
  pair_of =
      let e = and_left (both m) (not (has m 0) || (eqb 0 (low m) || eqb 0 (high m))) (at_line 0 (lit< tt)) in
      let a = and_left (ltb (low m) 4 && ltb (high m) 4 && has m (low m) && has m (high m)) (not (eqb (low m) (high m))) e in
      let b = and_left (ltb (low m) 4 && ltb (high m) 4 && has m (low m)) (has m (high m)) a in
      let c = and_left (ltb (low m) 4 && ltb (high m) 4) (has m (low m)) b in
      record {
        low_below = ltb-true (low m) 4 (and_left (ltb (low m) 4) (ltb (high m) 4) c);
        high_below = ltb-true (high m) 4 (and_right (ltb (low m) 4) (ltb (high m) 4) c);
        has_low = and_right (ltb (low m) 4 && ltb (high m) 4) (has m (low m)) b;
        has_high = and_right (ltb (low m) 4 && ltb (high m) 4 && has m (low m)) (has m (high m)) a;
        apart = eqb-false (low m) (high m)
            (not-true (eqb (low m) (high m))
            (and_right (ltb (low m) 4 && ltb (high m) 4 && has m (low m) && has m (high m)) (not (eqb (low m) (high m))) e));
        only = λ k b h.
            ⊎_map (eqb-true k (low m)) (eqb-true k (high m))
            (or_either (eqb k (low m)) (eqb k (high m))
            (or_rest (has m k) (eqb k (low m) || eqb k (high m))
            (and_right (both m) (not (has m k) || (eqb k (low m) || eqb k (high m))) (at_line k b)) h));
      }

-- the darts at point p in a map whose darts leave their own points
module _ (x : Map) (leaves : (d : ℕ) → x.pt d ≡ point d) (p : ℕ) (two : degree (mask x.on p) ≡ 2) where
  pair : Pair (mask x.on p)
  pair = pair_of (mask x.on p) (mask_below x.on p) two

  dart_on : (k : ℕ) → k < 4 → has (mask x.on p) k ≡ true → x.on (dart p k) ≡ true
  dart_on k b h = sym (has_mask x.on p k b) ∙ h

  pub two_darts : Two x p (dart p (low (mask x.on p))) (dart p (high (mask x.on p)))
  two_darts =
      let m = mask x.on p in
      record {
        one = dart_on (low m) pair.low_below pair.has_low;
        two = dart_on (high m) pair.high_below pair.has_high;
        apart = λ e.
            pair.apart
            (sym (direction_dart p (low m) pair.low_below) ∙ ap direction e ∙ direction_dart p (high m) pair.high_below);
        one_at = leaves (dart p (low m)) ∙ point_dart p (low m) pair.low_below;
        two_at = leaves (dart p (high m)) ∙ point_dart p (high m) pair.high_below;
        only = λ d h q.
            let own : d ≡ dart p (direction d) = sym (dart_own d) ∙ ap (λ r. dart r (direction d)) (sym (leaves d) ∙ q) in
            let k = direction_below d in
            ⊎_map (λ e. own ∙ ap (dart p) e) (λ e. own ∙ ap (dart p) e)
            (pair.only (direction d) k (has_mask x.on p (direction d) k ∙ ap x.on (sym own) ∙ h));
      }
