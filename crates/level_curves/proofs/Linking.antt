-- Filling the tables of next and other, dart by dart.
--   Linking w n x k d y o == every dart before d has its links in the tables y and o, each from d on has them or the mark
--   next_along, other_along == the links of a dart, from level 1 next x and the kept points k
use mathlib.Core.Path.{◌≡◌, refl, sym, ap, ◌∙◌}
use mathlib.Core.Bool.{Bool, true, false, and-false}
use mathlib.Core.List.{List}
use mathlib.Core.Logic.{◌⊎◌, inl, inr, ◌≢◌}
use Prim.Native.Nat.{ℕ, zero, suc, ◌+◌, ◌*◌, ◌≤◌, ◌<◌, zero-le}
use native.Mathlib.Decide.{ℕ_discrete}
use native.Mathlib.Omega.{arith}
use lib.Dec.{lit<}
use lib.ListN.{length, get_or, set, replicate, length-set, length-replicate}
use borrow.Author.Tests.{eq-eqb, ne_eqb}
use Rattle.laws.proofs.Test.{and_left}
use Rattle.laws.proofs.Walk.{run_stop}
use Rattle.sheet_size.specs.Size.{within}
use Rattle.point_darts.specs.Dart.{mark, points, slots, dart, point, direction, turned, reversal}
use Rattle.point_darts.proofs.Darts.{point_dart}
use Rattle.point_darts.proofs.Fit.{points_fit, width_fit}
use Rattle.paper.specs.Joining.{at, on}
use Rattle.paper_laws.proofs.Marks.{length_marked, at_below, same_at}
use Rattle.table_entries.proofs.Entries.{at_in, at_same, at_other, on_entry, on_below}
use Rattle.level_curves.specs.Link.{ahead, kept_at, starts, last_of, back, along_next, along_other}
use Rattle.level_curves.specs.Link.{next_along, other_along, TwoWay, Linking}

-- The next of a dart of level 1 has a place in its table.
module _ (x : List ℕ) (t : (d : ℕ) → on x d ≡ true → on x (at x d) ≡ true)
    (d a : ℕ) (e : on x d ≡ true) (q : a ≡ at x d) where
  pub after_on : on x a ≡ true
  after_on = ap (on x) q ∙ t d e

  pub after_below : a < length x
  after_below = on_below x a after_on

  pub after_point : (k : List ℕ) → 4 * length k ≡ length x → point a < length k
  unfolding point
  after_point k f = omega (arith, after_below)

-- Whether a dart starts a run.
module _ (x k : List ℕ) (d : ℕ) where
  pub off_start : at x d ≡ mark → starts x k d ≡ false
  unfolding starts on
  off_start e = rw (eq-eqb _ mark e)

  out_start : kept_at k (point d) ≡ false → starts x k d ≡ false
  unfolding starts
  out_start e = rw e (and-false (on x d))

  in_start : at x d ≢ mark → kept_at k (point d) ≡ true → starts x k d ≡ true
  unfolding starts on
  in_start e f = rw (ne_eqb _ mark e, f)

-- The links of a dart.
module _ (n : ℕ) (x k : List ℕ) (d : ℕ) where
  links_off : starts x k d ≡ false → (next_along n x k d ≡ mark) × (other_along n x k d ≡ mark)
  unfolding next_along other_along
  links_off e = rw e (refl, refl)

  module _ (s : starts x k d ≡ true) where
    -- from the last dart l of its run, and the dart a after it
    pub links_found : (l a e : ℕ) → l ≡ last_of n x k d → a ≡ at x l → e ≡ dart (point a) (turned (direction l) 2)
        → (a ≡ next_along n x k d) × (e ≡ other_along n x k d)
    unfolding next_along other_along back ahead
    links_found l a e p q r = rw (s, ← p, ← q) (refl, r)

    -- where the dart after it leaves a kept point
    links_near : (a e : ℕ) → a ≡ at x d → kept_at k (point a) ≡ true → e ≡ dart (point a) (turned (direction d) 2)
        → (a ≡ next_along n x k d) × (e ≡ other_along n x k d)
    unfolding last_of ahead
    links_near a e q f r =
        links_found d a e (sym (run_stop (at x) (λ e. kept_at k (ahead x e)) n d (ap (λ b. kept_at k (point b)) (sym q) ∙ f))) q r

-- Filling.
module _ {w n : ℕ} {x k : List ℕ} where
  -- the dart at hand has its links
  linking_past : {d : ℕ} {y o : List ℕ} → Linking w n x k d y o
      → (d < n → (at y d ≡ next_along n x k d) × (at o d ≡ other_along n x k d)) → Linking w n x k (d + 1) y o
  linking_past {d} {y} {o} l f =
      record {
        runs = l.runs;
        fits = l.fits;
        lines = l.lines;
        points = l.points;
        nexts = l.nexts;
        others = l.others;
        entry = λ s b. go s b (l.entry s b) (ℕ_discrete s d);
      }
    where
      go : (s : ℕ) → s < n
          → ((at y s ≡ next_along n x k s) × (at o s ≡ other_along n x k s)) ⊎ ((d ≤ s) × (at y s ≡ mark) × (at o s ≡ mark))
          → Dec (s ≡ d)
          → ((at y s ≡ next_along n x k s) × (at o s ≡ other_along n x k s))
          ⊎ ((d + 1 ≤ s) × (at y s ≡ mark) × (at o s ≡ mark))
      go s b (inl p) r = inl p
      go s b (inr p) (yes r) = inl (rw r (f (rw r at b)))
      go s b (inr p) (no r) = inr (omega (arith, p.0), p.1, p.2)

  -- a dart that starts no run
  pub linking_skip : {d : ℕ} {y o : List ℕ} → Linking w n x k d y o → starts x k d ≡ false → Linking w n x k (d + 1) y o
  linking_skip {d} {y} {o} l e = linking_past l (λ b. go (l.entry d b))
    where
      go : ((at y d ≡ next_along n x k d) × (at o d ≡ other_along n x k d)) ⊎ ((d ≤ d) × (at y d ≡ mark) × (at o d ≡ mark))
          → (at y d ≡ next_along n x k d) × (at o d ≡ other_along n x k d)
      go (inl p) = p
      go (inr p) = let f = links_off n x k d e in (p.1 ∙ sym f.0, p.2 ∙ sym f.1)

  -- a dart that has its links already
  pub linking_done : {d : ℕ} {y o : List ℕ} → Linking w n x k d y o → at o d ≢ mark → Linking w n x k (d + 1) y o
  linking_done {d} {y} {o} l e = linking_past l (λ b. go (l.entry d b))
    where
      go : ((at y d ≡ next_along n x k d) × (at o d ≡ other_along n x k d)) ⊎ ((d ≤ d) × (at y d ≡ mark) × (at o d ≡ mark))
          → (at y d ≡ next_along n x k d) × (at o d ≡ other_along n x k d)
      go (inl p) = p
      go (inr p) = absurd (e p.2)

  -- some dart is given its links
  linking_set : {d : ℕ} {y o : List ℕ} → Linking w n x k d y o → (e u v : ℕ) → e < n → u ≡ next_along n x k e
      → v ≡ other_along n x k e → Linking w n x k d (set y e u) (set o e v)
  linking_set {d} {y} {o} l e u v b p q =
      record {
        runs = l.runs;
        fits = l.fits;
        lines = l.lines;
        points = l.points;
        nexts = length-set y e u ∙ l.nexts;
        others = length-set o e v ∙ l.others;
        entry = λ s c. go s c (ℕ_discrete s e);
      }
    where
      go : (s : ℕ) → s < n → Dec (s ≡ e)
          → ((at (set y e u) s ≡ next_along n x k s) × (at (set o e v) s ≡ other_along n x k s))
          ⊎ ((d ≤ s) × (at (set y e u) s ≡ mark) × (at (set o e v) s ≡ mark))
      go s c (yes r) =
          inl
          (rw r
          (at_same y e u (omega (arith, l.nexts)) ∙ p, at_same o e v (omega (arith, l.others)) ∙ q))
      go s c (no r) = rw (at_other y e u s r, at_other o e v s r) (l.entry s c)

  -- the dart at hand is given its links
  linking_own : {d : ℕ} {y o : List ℕ} → Linking w n x k d y o → (u v : ℕ) → d < n → u ≡ next_along n x k d
      → v ≡ other_along n x k d → Linking w n x k (d + 1) (set y d u) (set o d v)
  linking_own {d} {y} {o} l u v b p q =
      linking_past (linking_set l d u v b p q)
      (λ _. (at_same y d u (omega (arith, l.nexts)) ∙ p, at_same o d v (omega (arith, l.others)) ∙ q))

  -- the other end of a run is a dart
  pub end_below : {d : ℕ} {y o : List ℕ} → Linking w n x k d y o → d < n → starts x k d ≡ true → other_along n x k d < n
  unfolding starts
  end_below {d} l b e = go (starts x k (other_along n x k d)) refl
    where
      go : (r : Bool) → starts x k (other_along n x k d) ≡ r → other_along n x k d < n
      go true f = omega (arith, on_below x (other_along n x k d) (and_left (on x _) _ f), l.lines)
      go false f =
          let z : d ≡ mark = sym (l.runs.other_back d e) ∙ (links_off n x k (other_along n x k d) f).1 in
          absurd (omega (arith, l.fits))

  -- the dart at hand and the other end of its run are given their links
  pub linking_both : {d : ℕ} {y o : List ℕ} → Linking w n x k d y o → (u e v : ℕ) → d < n → starts x k d ≡ true
      → u ≡ next_along n x k d → e ≡ other_along n x k d → v ≡ at x (reversal w d)
      → Linking w n x k (d + 1) (set (set y d u) e v) (set (set o d e) e d)
  linking_both {d} l u e v b s p q r =
      linking_set (linking_own l u e b p q) e v d (rw q (end_below l b s))
      (r ∙ sym (l.runs.next_back d s) ∙ ap (next_along n x k) (sym q))
      (sym (l.runs.other_back d s) ∙ ap (other_along n x k) (sym q))

-- The dart at hand, as level 1 has it.
module _ {w n : ℕ} {x k : List ℕ} {d : ℕ} {y o : List ℕ} (l : Linking w n x k d y o) (b : d < n) where
  pub next_read : get_or x d 0 ≡ at x d
  next_read = at_in x d (omega (arith, l.lines))

  module _ (e : get_or x d 0 ≢ mark) where
    pub next_point : point (get_or x d 0) < length k
    next_point =
        after_point x l.runs.stays d (get_or x d 0) (on_entry x d (λ f. e (next_read ∙ f))) next_read k (l.points ∙ sym l.lines)

    pub next_starts : kept_at k (point d) ≡ true → starts x k d ≡ true
    next_starts = in_start x k d (λ f. e (next_read ∙ f))

    -- it leads to a kept point m
    pub linking_near : (m v : ℕ) → kept_at k (point d) ≡ true → m ≡ point (get_or x d 0) → get_or k m 0 ≡ 1
        → v ≡ dart (point (get_or x d 0)) (turned (direction d) 2)
        → Linking w n x k (d + 1) (set y d (get_or x d 0)) (set o d v)
    unfolding kept_at
    linking_near m v f t g r =
        let h : at k (point (get_or x d 0)) ≡ 1 = sym (at_in k _ next_point) ∙ rw t at g in
        let q = links_near n x k d (next_starts f) (get_or x d 0) v next_read (eq-eqb _ 1 h) r in
        linking_own l (get_or x d 0) v b q.0 q.1

-- The darts of a point.
module _ (p : ℕ) where
  pub dart_after : (i a : ℕ) → a ≡ dart p i → a + 1 ≡ dart p (suc i)
  unfolding dart
  dart_after i a e = omega arith

  point_after : (a : ℕ) → a ≡ dart p 3 → a + 1 ≡ dart (p + 1) 0
  unfolding dart
  point_after a e = omega arith

  -- the four darts of a point
  pub linking_round : {w n : ℕ} {x k y o : List ℕ} (a : ℕ) → a ≡ dart p 3 → Linking w n x k (a + 1) y o
      → Linking w n x k (dart (p + 1) 0) y o
  linking_round a e l = rw (point_after a e) at l

  -- no dart of a point that is not kept starts a run
  pub linking_point : {w n : ℕ} {x k y o : List ℕ} → Linking w n x k (dart p 0) y o → p < length k → get_or k p 0 ≢ 1
      → Linking w n x k (dart (p + 1) 0) y o
  unfolding kept_at
  linking_point {w} {n} {x} {k} {y} {o} l b e =
      let south = dart_after 0 (dart p 0) refl in
      let west = dart_after 1 _ south in
      let north = dart_after 2 _ west in
      linking_round _ north
      (linking_skip
      (linking_skip
      (linking_skip (linking_skip l (none 0 _ (lit< tt) refl)) (none 1 _ (lit< tt) south))
      (none 2 _ (lit< tt) west))
      (none 3 _ (lit< tt) north))
    where
      none : (i d : ℕ) → i < 4 → d ≡ dart p i → starts x k d ≡ false
      none i d h q =
          out_start x k d
          (ne_eqb _ 1 (λ r. e (at_in k p b ∙ ap (at k) (sym (point_dart p i h) ∙ ap point (sym q)) ∙ r)))

  dart_fits : {n m : ℕ} (i : ℕ) → i < 4 → 4 * m ≡ n → p < m → dart p i < n
  unfolding dart
  dart_fits i h q b = omega arith

  module _ {w n : ℕ} {x k y o : List ℕ} (b : p < length k) (f : get_or k p 0 ≡ 1) where
    -- what linking a dart of a kept point needs
    pub linking_next : (i d e : ℕ) → i < 4 → Linking w n x k d y o → d ≡ dart p i → e ≡ dart p i
        → Linking w n x k e y o × (e < n) × (kept_at k (point e) ≡ true)
    unfolding kept_at
    linking_next i d e h l q r =
        rw (r, point_dart p i h)
        (rw q at l, dart_fits i h l.points b, eq-eqb _ 1 (sym (at_in k p b) ∙ f))

-- The whole tables.
blank_at : (n s : ℕ) → at (replicate n mark) s ≡ mark
unfolding at
blank_at zero s = refl
blank_at (suc n) zero = refl
blank_at (suc n) (suc s) = blank_at n s

module _ (w h n : ℕ) (x k : List ℕ) (e : n ≡ slots w h) where
  -- at first every entry is the mark
  pub linking_none : {y o : List ℕ} (s t : List ℕ) → within w h ≡ true → length x ≡ slots w h → length k ≡ points w h
      → TwoWay w (slots w h) x k → length s ≡ slots w h → length t ≡ slots w h
      → y ≡ replicate (length s) mark → o ≡ replicate (length t) mark → Linking w n x k (dart 0 0) y o
  unfolding dart mark slots
  linking_none {y} {o} s t m a b r p q f g =
      record {
        runs = rw e r;
        fits = omega (arith, points_fit w h m, width_fit w h m);
        lines = a ∙ sym e;
        points = ap (λ l. 4 * l) b ∙ sym e;
        nexts = ap length f ∙ length-replicate (length s) mark ∙ p ∙ sym e;
        others = ap length g ∙ length-replicate (length t) mark ∙ q ∙ sym e;
        entry = λ i c. inr (zero-le, ap (λ l. at l i) f ∙ blank_at (length s) i, ap (λ l. at l i) g ∙ blank_at (length t) i);
      }

  -- at last every dart has its links
  pub linking_all : {d : ℕ} {y o : List ℕ} → Linking w n x k d y o → n ≤ d
      → (y ≡ along_next w h x k) × (o ≡ along_other w h x k)
  unfolding along_next along_other next_along other_along
  linking_all {d} {y} {o} l f = (
    same_at n y (along_next w h x k) l.nexts (length_marked w h (starts x k) _ ∙ sym e)
        (λ s b. (all s b (l.entry s b)).0 ∙ rw e (sym (at_below w h (starts x k) _ s (rw e at b)))),
    same_at n o (along_other w h x k) l.others (length_marked w h (starts x k) _ ∙ sym e)
        (λ s b. (all s b (l.entry s b)).1 ∙ rw e (sym (at_below w h (starts x k) _ s (rw e at b)))),
  )
    where
      all : (s : ℕ) → s < n
          → ((at y s ≡ next_along n x k s) × (at o s ≡ other_along n x k s)) ⊎ ((d ≤ s) × (at y s ≡ mark) × (at o s ≡ mark))
          → (at y s ≡ next_along n x k s) × (at o s ≡ other_along n x k s)
      all s b (inl p) = p
      all s b (inr p) = absurd (omega (arith, p.0))
