-- What a count answers (the paper, "Refusal numbers and their order"): the number that is counted, or what is refused.
--   values r        == the values that the count r tells
--   counted r ts ws == the outcome that it tells
--   after v k x     == what a count answers after a check that answered v, of a name that k says is known, with the value x
--   Countable v p   == where the answer v is done, names may be climbed in the parents p
--   Lent w h s p t  == the sides s and the parents p are those of a drawing, and t is a cleared work table
use Rattle.std.specs.Prelude.{◌≡◌, Bool, true, cond, List, [], ◌∷◌, ℕ, ◌≤◌, ◌<◌, length, replicate, Result, Ok, Err}
use Rattle.sheet_size.specs.Size.{within}
use Rattle.point_darts.specs.Dart.{mark, slots}
use Rattle.paper.specs.Level.{tops}
use Rattle.paper.specs.Enclosure.{holes}
use Rattle.paper.specs.Joining.{on}
use Rattle.paper.specs.Refusal.{Outcome, ended}
use Rattle.region_depths.specs.Tree.{Falls}
use Rattle.count_holes.specs.Round.{pieces}
use Rattle.answer.specs.declared.Refusal.{Refusal}
use Rattle.answer.specs.Answer.{number_of}

unfoldable pub values : Result ℕ Refusal → List ℕ
values (Ok v) = v ∷ []
values (Err r) = []

unfoldable pub counted : Result ℕ Refusal → List (List ℕ) → List (List ℕ) → Outcome
counted r ts ws = ended (number_of r) (values r) ts ws

unfoldable pub after : Result (Unit {0}) Refusal → Bool → ℕ → Result ℕ Refusal
after (Ok done) k x = cond k (Ok x) (Err Refusal.Name)
after (Err r) k x = Err r

pub record Countable (v : Result (Unit {0}) Refusal) (p : List ℕ) : Type 0 where
  pub falls : number_of v ≡ 0 → Falls p
  pub some : number_of v ≡ 0 → 0 < length p

pub record Lent (w h : ℕ) (s p t : List ℕ) : Type 0 where
  pub size : within w h ≡ true
  pub sides : length s ≡ slots w h
  pub some : 0 < length p
  pub fits : length p ≤ mark
  pub rounds : (r : ℕ) → r < mark → pieces s (tops w h (on s)) r ≡ holes w h (on s) p r
  pub work : length t ≡ slots w h
  pub clear : replicate (length t) 0 ≡ t
