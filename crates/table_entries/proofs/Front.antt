-- A table of m entries that is lent at its front, the first n entries, and comes back with e there.
use mathlib.Core.Path.{◌≡◌, sym, ◌∙◌}
use mathlib.Core.List.{List, ◌++◌}
use Prim.Native.Nat.{ℕ, ◌≤◌}
use lib.ListN.{length, take, drop, replicate, length-replicate}
use lib.Seq.{length-take-le, length_front, take_at}

module _ (m n : ℕ) (l : List ℕ) (z : length l ≡ m) (b : n ≤ m) where
  pub front_in : n ≤ length l
  front_in = rw z b

  pub front_long : length (take n l) ≡ n
  front_long = length-take-le n l front_in

  module _ (e : List ℕ) (k : length e ≡ length (take n l)) where
    pub front_kept : length (e ++ drop n l) ≡ m
    front_kept = length_front l e n k ∙ z

    pub front_back : take n (e ++ drop n l) ≡ e
    front_back = take_at e (drop n l) n (k ∙ front_long)

    pub back_in : n ≤ length (e ++ drop n l)
    back_in = rw front_kept b

    pub back_long : length (take n (e ++ drop n l)) ≡ n
    back_long = rw front_back (k ∙ front_long)

-- the front of a table that was just made, each entry a
module _ (a n m : ℕ) (b : n ≤ m) where
  pub blank_in : n ≤ length (replicate m a)
  blank_in = front_in m n (replicate m a) (length-replicate m a) b

  pub blank_front : n ≡ length (take n (replicate m a))
  blank_front = sym (front_long m n (replicate m a) (length-replicate m a) b)
