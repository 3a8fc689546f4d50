-- Each closed curve keeps one point: the point that stands for its points.
--   Tops m top      == top is the same at both ends of a line, and joined with each point that has a dart
--   Anchored .. k   == k keeps the big points, and each point that stands for itself and for no big point
--   Settled .. k i  == a point below i that is kept and not big stands for itself
--   Loops m big k   == big points are kept, the other kept points are loops' points, and some is ahead of every dart
--   close-..        == one step: the kept point of a closed curve is exchanged for the point that stands for it
--   settled_over    == when every point is settled, the tables are those of the anchored level
use mathlib.Core.Path.{◌≡◌, refl, sym, ◌∙◌, ap}
use mathlib.Core.Bool.{Bool, true, false}
use mathlib.Core.Logic.{◌⊎◌, inl, inr, ◌≢◌}
use Prim.Native.Nat.{ℕ, suc, ◌<◌}
use native.Mathlib.Decide.{ℕ_discrete}
use native.Mathlib.Omega.{arith}
use Rattle.laws.proofs.Chart.{Map, Chart, times, Covers, Few}
use Rattle.laws.proofs.Orbit.{orbit_on}
use Rattle.laws.proofs.Test.{clash}
use Rattle.laws.proofs.Over.{put, Over}
use Rattle.laws.proofs.Meet.{Meets, Two, covers_meets, meets_covers}
use Rattle.laws.proofs.Link.{Agree, agree_over}
use Rattle.laws.proofs.Loop.{Above, Loops, Alone, alone_loopy}
use Rattle.laws.proofs.Curve.{Clear, Tops, clear_or, tops_top, tops_meets, meets_top, meets_same}
use Rattle.laws.proofs.Exchange.{instead, instead_was, instead_apart, loop_clear, two_clear}
use Rattle.laws.proofs.Exchange.{exchange_loops, exchange_over}

pub record Anchored (m : Map) (big : ℕ → Bool) (top : ℕ → ℕ) (k : ℕ → Bool) : Type 0 where
  pub high : Above big k
  pub own : (d : ℕ) → m.on d ≡ true → k (m.pt d) ≡ true → big (m.pt d) ≡ false → top (m.pt d) ≡ m.pt d
  pub free : (d e : ℕ) → m.on d ≡ true → m.on e ≡ true → k (m.pt d) ≡ true → big (m.pt d) ≡ false
      → top (m.pt e) ≡ m.pt d → big (m.pt e) ≡ false
  pub kept : (d : ℕ) → m.on d ≡ true → top (m.pt d) ≡ m.pt d
      → ((e : ℕ) → m.on e ≡ true → top (m.pt e) ≡ m.pt d → big (m.pt e) ≡ false) → k (m.pt d) ≡ true

pub record Settled (m : Map) (big : ℕ → Bool) (top : ℕ → ℕ) (k : ℕ → Bool) (i : ℕ) : Type 0 where
  pub settled : (d : ℕ) → m.on d ≡ true → k (m.pt d) ≡ true → big (m.pt d) ≡ false → m.pt d < i
      → top (m.pt d) ≡ m.pt d

-- Points treated one after another.
module _ {m : Map} {big : ℕ → Bool} {top : ℕ → ℕ} {k : ℕ → Bool} where
  open m use {on, pt}

  pub settled_start : Settled m big top k 0
  settled_start = record { settled = λ d h e b q. absurd (omega arith) }

  -- where the point stands for itself, or is not kept, or big, or has no darts
  pub settled_more : {p : ℕ} → Settled m big top k p
      → ((d : ℕ) → on d ≡ true → pt d ≡ p → k p ≡ true → big p ≡ false → top p ≡ p) → Settled m big top k (suc p)
  settled_more {p} s t = record { settled = λ d h e b q. go d h e b q (ℕ_discrete (pt d) p) }
    where
      go : (d : ℕ) → on d ≡ true → k (pt d) ≡ true → big (pt d) ≡ false → pt d < suc p → Dec (pt d ≡ p)
          → top (pt d) ≡ pt d
      go d h e b q (yes a) = ap top a ∙ t d h a (ap k (sym a) ∙ e) (ap big (sym a) ∙ b) ∙ sym a
      go d h e b q (no a) = s.settled d h e b (omega arith)

module _ {m : Map} {big : ℕ → Bool} {top : ℕ → ℕ} (c : Chart m) (f : Few m big) (y : Tops m top) where
  open m use {on, nx, pt}

  -- The anchored level.
  module _ {k : ℕ → Bool} (a : Anchored m big top k) where
    -- a point that stands for the points of a clear orbit is kept
    clear_kept : {d e : ℕ} → on d ≡ true → Clear m big d → on e ≡ true → pt e ≡ top (pt d) → k (pt e) ≡ true
    clear_kept {d} {e} h r n q =
        a.kept e n (ap top q ∙ tops_top c y d h ∙ sym q)
        λ x o z. r.clear (meets_same c y f h r x o (z ∙ q))

    anchored_covers : Covers m k
    anchored_covers = meets_covers c λ d h. go d h (clear_or big c d h)
      where
        go : (d : ℕ) → on d ≡ true → ((q : ℕ) × Meets m d q × (big q ≡ true)) ⊎ Clear m big d
            → (q : ℕ) × Meets m d q × (k q ≡ true)
        go d h (inl (q, r, b)) = (q, r, a.high.above q b)
        go d h (inr r) =
            let (i, e) = meets_top c y f h r in
            (pt (times nx i d), (i, refl), clear_kept h r (orbit_on c.turns i d h) e)

    anchored_alone : Alone m big k
    anchored_alone = record { alone = alone }
      where
        alone : {d q : ℕ} → on d ≡ true → k (pt d) ≡ true → big (pt d) ≡ false → Meets m d q → k q ≡ true → q ≡ pt d
        alone {d} h e b (i, r) z =
            let o : on (times nx i d) ≡ true = orbit_on c.turns i d h in
            let stands : top (pt (times nx i d)) ≡ pt d = tops_meets c y h (i, refl) ∙ a.own d h e b in
            let n : big (pt (times nx i d)) ≡ false = a.free d (times nx i d) h o e b stands in
            sym r ∙ sym (a.own (times nx i d) o (rw r z) n) ∙ stands

    pub anchored_loops : Loops m big k
    anchored_loops =
        record {
          high = a.high;
          covers = anchored_covers;
          loopy = alone_loopy c f anchored_covers anchored_alone;
        }

  -- One point treated: the kept point of a closed curve.
  module _ {k : ℕ → Bool} (g : Loops m big k) {p u v : ℕ} (kp : k p ≡ true) (bp : big p ≡ false)
      (t : Two m p u v) where
    met_top : Meets m u (top p)
    met_top = rw (ap top t.one_at) at (meets_top c y f t.one (two_clear c g kp bp t))

    -- the point that stands for it has darts, and is not big
    pub close_top : (d : ℕ) × (on d ≡ true) × (pt d ≡ top p) × (big (top p) ≡ false)
    close_top =
        let (i, e) = met_top in
        (times nx i u, orbit_on c.turns i u t.one, e, (two_clear c g kp bp t).clear met_top)

    module _ {e b : ℕ} (s : Two m (top p) e b) where
      pub close_loops : Loops m big (instead k p (top p))
      close_loops = exchange_loops c f g kp bp t s met_top

      pub close_over : {none : ℕ} {nt ot : ℕ → ℕ} → Over none m k nt ot
          → Over none m (instead k p (top p))
          (put (put (put (put nt u none) v none) e e) b b)
          (put (put (put (put ot u none) v none) e b) b e)
      close_over o = exchange_over c f g kp bp t s met_top o

    pub close_settled : Settled m big top k p → Settled m big top (instead k p (top p)) (suc p)
    close_settled s = record { settled = λ d h e b q. go d h e b q (ℕ_discrete (pt d) (top p)) }
      where
        go : (d : ℕ) → on d ≡ true → instead k p (top p) (pt d) ≡ true → big (pt d) ≡ false → pt d < suc p
            → Dec (pt d ≡ top p) → top (pt d) ≡ pt d
        go d h e b q (yes a) =
            let self : top (top p) ≡ top p = rw t.one_at at (tops_top c y u t.one) in
            ap top a ∙ self ∙ sym a
        go d h e b q (no a) =
            let apart : pt d ≢ p = instead_apart k p (top p) (pt d) a e in
            s.settled d h (instead_was k p (top p) (pt d) a e) b (omega arith)

  -- When all are settled, the kept points are the anchors.
  module _ {k l : ℕ → Bool} (g : Loops m big k) (a : Anchored m big top l) {i : ℕ} (s : Settled m big top k i)
      (all : (d : ℕ) → on d ≡ true → pt d < i) where
    settled_anchor : (d : ℕ) → on d ≡ true → k (pt d) ≡ true → big (pt d) ≡ false → l (pt d) ≡ true
    settled_anchor d h e b =
        clear_kept a h (loop_clear c g h e b) h (sym (s.settled d h e b (all d h)))

    anchor_settled : (d : ℕ) → on d ≡ true → l (pt d) ≡ true → big (pt d) ≡ false → k (pt d) ≡ true
    anchor_settled d h e b =
        let (q, (j, r), z) = covers_meets c g.covers d h in
        let x : ℕ = times nx j d in
        let o : on x ≡ true = orbit_on c.turns j d h in
        let stands : top (pt x) ≡ pt d = tops_meets c y h (j, refl) ∙ a.own d h e b in
        let n : big (pt x) ≡ false = a.free d x h o e b stands in
        let self : top (pt x) ≡ pt x = s.settled x o (ap k r ∙ z) n (all x o) in
        ap k (sym stands ∙ self ∙ r) ∙ z

    pub settled_agree : Agree m k l
    settled_agree = record { agree = λ d h. go d h (big (pt d)) (k (pt d)) (l (pt d)) refl refl refl }
      where
        go : (d : ℕ) → on d ≡ true → (w x z : Bool) → big (pt d) ≡ w → k (pt d) ≡ x → l (pt d) ≡ z
            → l (pt d) ≡ k (pt d)
        go d h true x z b e n = a.high.above (pt d) b ∙ sym (g.high.above (pt d) b)
        go d h false true z b e n = settled_anchor d h e b ∙ sym e
        go d h false false true b e n = clash (anchor_settled d h n b) e
        go d h false false false b e n = n ∙ sym e

    pub settled_over : {none : ℕ} {nt ot : ℕ → ℕ} → Over none m k nt ot → Over none m l nt ot
    settled_over o = agree_over c g.covers settled_agree o
