-- Maps and charts: darts below a number, with their reversal, next, point and side.
--   Map             == which darts are on, and rev, nx, pt, side of each
--   Turns n on f    == f is one-to-one on the darts that are on, and stays among them; all are below n
--   Chart m         == the laws by which m is the map of a plane drawing
--   level m k       == the map with only the points that pass the test k kept
--   less m f        == the map with the sides renamed by f, and without the lines whose two sides became one
--   Covers m k      == from every dart some kept point is ahead
--   Passes m k      == at a point that is not kept, next of the way back is the way back of next
--   Few m big       == a point that is not big has at most two darts: one, and the next of its reversal
use mathlib.Core.Path.{◌≡◌}
use mathlib.Core.Bool.{Bool, true, false, not, ◌&&◌}
use mathlib.Core.Logic.{◌⊎◌}
use Prim.Native.Nat.{ℕ, zero, suc, ◌<◌}
use lib.Dec.{eqb}
use Rattle.laws.specs.Run.{run}

pub record Map : Type 0 where
  pub n : ℕ
  pub on : ℕ → Bool
  pub rev : ℕ → ℕ
  pub nx : ℕ → ℕ
  pub pt : ℕ → ℕ
  pub side : ℕ → ℕ

pub record Turns (n : ℕ) (on : ℕ → Bool) (f : ℕ → ℕ) : Type 0 where
  pub below : (d : ℕ) → on d ≡ true → d < n
  pub stays : (d : ℕ) → on d ≡ true → on (f d) ≡ true
  pub once : (d e : ℕ) → on d ≡ true → on e ≡ true → f d ≡ f e → d ≡ e

pub record Chart (m : Map) : Type 0 where
  pub turns : Turns m.n m.on m.nx
  pub rev_on : (d : ℕ) → m.on d ≡ true → m.on (m.rev d) ≡ true
  pub rev_rev : (d : ℕ) → m.on d ≡ true → m.rev (m.rev d) ≡ d
  pub leaves : (d : ℕ) → m.on d ≡ true → m.pt (m.nx d) ≡ m.pt (m.rev d)
  pub keeps : (d : ℕ) → m.on d ≡ true → m.side (m.nx d) ≡ m.side d
  pub parts : (d : ℕ) → m.on d ≡ true → m.side (m.rev d) ≡ m.side d → ⊥

-- f applied n times
unfoldable pub times : (ℕ → ℕ) → ℕ → ℕ → ℕ
times f zero d = d
times f (suc n) d = times f n (f d)

-- the last dart of the run from d to the next point that passes k
unfoldable pub last : Map → (ℕ → Bool) → ℕ → ℕ
last m k d = run m.nx (λ e. k (m.pt (m.rev e))) m.n d

unfoldable pub level : Map → (ℕ → Bool) → Map
level m k =
    record {
      n = m.n;
      on = λ d. m.on d && k (m.pt d);
      rev = λ d. m.rev (last m k d);
      nx = λ d. m.nx (last m k d);
      pt = m.pt;
      side = m.side;
    }

-- both sides of the dart become one
unfoldable pub taken : Map → (ℕ → ℕ) → ℕ → Bool
taken m f d = eqb (f (m.side d)) (f (m.side (m.rev d)))

-- the first dart that is left of e, the next of the reversal of e, and on, looked for c steps far
unfoldable pub chase : Map → (ℕ → ℕ) → ℕ → ℕ → ℕ
chase m f c e = run (λ d. m.nx (m.rev d)) (λ d. not (taken m f d)) c e

unfoldable pub less : Map → (ℕ → ℕ) → Map
less m f =
    record {
      n = m.n;
      on = λ d. m.on d && not (taken m f d);
      rev = m.rev;
      nx = λ d. chase m f m.n (m.nx d);
      pt = m.pt;
      side = λ d. f (m.side d);
    }

pub record Covers (m : Map) (k : ℕ → Bool) : Type 0 where
  pub ahead : (d : ℕ) → m.on d ≡ true → (i : ℕ) × (k (m.pt (m.rev (times m.nx i d))) ≡ true)

pub record Passes (m : Map) (k : ℕ → Bool) : Type 0 where
  pub back : (d : ℕ) → m.on d ≡ true → k (m.pt (m.nx d)) ≡ false → m.nx (m.rev (m.nx d)) ≡ m.rev d

pub record Few (m : Map) (big : ℕ → Bool) : Type 0 where
  pub two : (d e : ℕ) → m.on d ≡ true → m.on e ≡ true → m.pt d ≡ m.pt e → big (m.pt d) ≡ false → (e ≡ d) ⊎ (e ≡ m.nx (m.rev d))

-- the darts of a point have four colours
pub record Colours (m : Map) (colour : ℕ → ℕ) : Type 0 where
  pub four : (d : ℕ) → colour d < 4
  pub apart : (d e : ℕ) → m.on d ≡ true → m.on e ≡ true → m.pt d ≡ m.pt e → colour d ≡ colour e → d ≡ e
