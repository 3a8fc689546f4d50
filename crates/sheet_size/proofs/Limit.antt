-- A size that is one.
use mathlib.Core.Path.{◌≡◌}
use mathlib.Core.Bool.{true, ◌&&◌}
use Prim.Native.Nat.{ℕ, ◌≤◌}
use lib.Dec.{leb}
use borrow.Author.Tests.{leb-true}
use Rattle.sheet_size.specs.Size.{widest, tallest, within}
use Rattle.laws.proofs.Test.{and_left, and_right}

pub record Within (w h : ℕ) : Type 0 where
  pub width_some : 1 ≤ w
  pub width_most : w ≤ widest
  pub height_some : 1 ≤ h
  pub height_most : h ≤ tallest

pub within_limits : (w h : ℕ) → within w h ≡ true → Within w h
unfolding within
within_limits w h e =
    let three = and_left (leb 1 w && leb w widest && leb 1 h) (leb h tallest) e in
    let two = and_left (leb 1 w && leb w widest) (leb 1 h) three in
    record {
      width_some = leb-true 1 w (and_left (leb 1 w) (leb w widest) two);
      width_most = leb-true w widest (and_right (leb 1 w) (leb w widest) two);
      height_some = leb-true 1 h (and_right (leb 1 w && leb w widest) (leb 1 h) three);
      height_most = leb-true h tallest (and_right (leb 1 w && leb w widest && leb 1 h) (leb h tallest) e);
    }
