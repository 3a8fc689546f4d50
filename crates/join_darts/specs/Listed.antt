-- The darts of two regions, in a list.
--   bounds s a b d  == dart d has side a or side b, by the table s
--   part            == how many slots are asked at a time whether one is listed
--   Gap q i j       == no slot from i up to j passes the test q
--   Met q i j       == a slot from i up to j that passes it
--   First q n d e   == e is the first slot from d on that passes the test q, or n where none of the n slots does
--   Listed q n f t  == f is the first slot of all that passes, and the table t leads from each to the first after it
--   Chained n f t   == it leads so from each slot that passes some test
--   Listing q n i f t == the list of the slots from i on, in the table t of n entries; it starts at f
--   Walked n f t    == the list from f on is so the list of the slots from some slot on, by some test
--   Bounded s n a b m f t == the list has every dart that has side a or b, by the table s, and a next, by the table n
use Rattle.std.specs.Prelude.{◌≡◌, Bool, true, false, ◌||◌, List, ℕ, ◌+◌, ◌≤◌, ◌<◌, eqb, length, get_or}
use Rattle.paper.specs.Joining.{at, on}

unfoldable pub bounds : List ℕ → ℕ → ℕ → ℕ → Bool
bounds s a b d = eqb (at s d) a || eqb (at s d) b

unfoldable pub part : ℕ
part = 32

abbrev pub Gap : (ℕ → Bool) → ℕ → ℕ → Type 0
Gap q i j = (d : ℕ) → i ≤ d → d < j → q d ≡ false

pub record Met (q : ℕ → Bool) (i j : ℕ) : Type 0 where
  pub slot : ℕ
  pub after : i ≤ slot
  pub before : slot < j
  pub passes : q slot ≡ true

pub record First (q : ℕ → Bool) (n d e : ℕ) : Type 0 where
  pub after : d ≤ e
  pub inside : e ≤ n
  pub here : e < n → q e ≡ true
  pub gap : Gap q d e

pub record Listed (q : ℕ → Bool) (n f : ℕ) (t : List ℕ) : Type 0 where
  pub start : First q n 0 f
  pub steps : (d : ℕ) → d < n → q d ≡ true → First q n (d + 1) (get_or t d 0)

pub record Chained (n f : ℕ) (t : List ℕ) : Type 0 where
  pub test : ℕ → Bool
  pub list : Listed test n f t

pub record Listing (q : ℕ → Bool) (n i f : ℕ) (t : List ℕ) : Type 0 where
  pub first : First q n i f
  pub steps : (d : ℕ) → i ≤ d → d < n → q d ≡ true → First q n (d + 1) (get_or t d 0)
  pub long : length t ≡ n
  pub room : i ≤ n

pub record Walked (n f : ℕ) (t : List ℕ) : Type 0 where
  pub test : ℕ → Bool
  pub start : ℕ
  pub list : Listing test n start f t

pub record Bounded (s n : List ℕ) (a b m f : ℕ) (t : List ℕ) : Type 0 where
  pub test : ℕ → Bool
  pub list : Listed test m f t
  pub all : (d : ℕ) → bounds s a b d ≡ true → on n d ≡ true → test d ≡ true
