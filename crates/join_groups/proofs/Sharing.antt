-- The lines that two groups share, told by the sides that the drawing had before any join.
--   Of s g x d      == dart d has a side by the table s, and it is of the group x
--   faced w s l d   == the group on the left hand of dart d, by the sides s
--   Grouped w h s l u == the drawing u is that of the groups l, made of the regions of a drawing with the sides s
use mathlib.Core.Path.{◌≡◌, refl, sym, ap, ◌∙◌}
use mathlib.Core.Bool.{Bool, true, false, ◌&&◌, ◌||◌}
use mathlib.Core.List.{List}
use mathlib.Core.Logic.{◌≢◌, ⊎_elim}
use Prim.Native.Nat.{ℕ, suc, ◌*◌, ◌≤◌, ◌<◌}
use native.Mathlib.Omega.{arith}
use lib.Dec.{eqb}
use lib.ListN.{length, get_or, length-map}
use borrow.Author.Tests.{eq-eqb}
use Rattle.laws.proofs.Table.{get_or_map, some_found, found_some, some_agree}
use Rattle.laws.proofs.Count.{count_le}
use Rattle.point_darts.specs.Dart.{mark, slots, reversal}
use Rattle.point_darts.proofs.Darts.{reversal_twice}
use Rattle.paper.specs.Name.{names}
use Rattle.paper.specs.Level.{side, border, level, plain}
use Rattle.paper.specs.Enclosure.{top_side}
use Rattle.paper.specs.Drawing.{Tables, drawn, drawing}
use Rattle.paper.specs.Joining.{at, on, between, shared}
use Rattle.paper.specs.Refusal.{adjoin}
use Rattle.paper_laws.proofs.Name.{length_names}
use Rattle.paper_laws.proofs.Sheet.{side_reversal, border_line, border_below, border_back, differs_border}
use Rattle.paper_laws.proofs.Fewer.{fewer_side, fewer_lines}
use Rattle.paper_laws.proofs.First.{top_side_on, top_side_own}
use Rattle.paper_laws.proofs.Enclosure.{side_below}
use Rattle.paper_laws.proofs.Drawn.{sides_on, drawn_side1}
use Rattle.paper_laws.proofs.Neighbour.{between_either, side_line}
use Rattle.table_entries.proofs.Entries.{on_below}
use Rattle.region_darts.specs.Lists.{along, Of, size, Lists}
use Rattle.region_darts.proofs.Along.{along_of}
use Rattle.join_groups.specs.Group.{group_of, faced, Met, Unmet, Walkable, Grouped}

pub adjoin_swap : (w h : ℕ) (s : List ℕ) (a b : ℕ) → adjoin w h s a b ≡ adjoin w h s b a
unfolding adjoin shared between
adjoin_swap w h s a b =
    some_agree (shared s (reversal w) a b) (shared s (reversal w) b a) (slots w h)
    (λ d _. or_swap (eqb (at s d) a && eqb (at s (reversal w d)) b) (eqb (at s d) b && eqb (at s (reversal w d)) a))
  where
    or_swap : (p q : Bool) → (p || q) ≡ (q || p)
    or_swap true true = refl
    or_swap true false = refl
    or_swap false true = refl
    or_swap false false = refl

module _ (w h : ℕ) (room : slots w h ≤ mark) (s l : List ℕ) (u : Tables) (g : Grouped w h s l u) where
  abbrev n : List ℕ
  n = names w h g.before

  abbrev m : List ℕ
  m = names w h g.after

  abbrev group : ℕ → ℕ
  group = group_of l

  outside : group 0 ≡ 0
  unfolding group_of
  outside = refl

  -- the sides before
  sided : (d : ℕ) → on s d ≡ border w h n d
  unfolding drawing drawn level plain
  sided d = rw (← g.sides) (ap (λ f. f d) (sides_on w h g.before room))

  side_at : (d : ℕ) → border w h n d ≡ true → at s d ≡ side w h n d
  unfolding drawing
  side_at d e = rw (← g.sides) (drawn_side1 w h n d e)

  -- and those of the groups
  group_side : (d : ℕ) → side w h m d ≡ group (side w h n d)
  group_side d = rw g.led (fewer_side w h n group outside d)

  group_line : (d : ℕ) → border w h m d ≡ true → border w h n d ≡ true
  group_line d e = fewer_lines w h n group outside d (rw g.led at e)

  group_at : (d : ℕ) → border w h m d ≡ true → at u.side1 d ≡ side w h m d
  unfolding drawing
  group_at d e = rw (← g.same) (drawn_side1 w h m d e)

  group_on : (d v : ℕ) → v ≢ mark → at u.side1 d ≡ v → border w h m d ≡ true
  unfolding drawing
  group_on d v z e = side_line w h g.after room d v z (rw (← g.same) at e)

  -- a line of the groups has these on its two hands
  line_of : (d : ℕ) → border w h m d ≡ true → Of s group (side w h m d) d
  line_of d e =
      let b = group_line d e in
      record { sided = sided d ∙ b; group = ap group (side_at d b) ∙ sym (group_side d) }

  line_faced : (d : ℕ) → border w h m d ≡ true → faced w s l d ≡ side w h m (reversal w d)
  unfolding faced
  line_faced d e = (line_of (reversal w d) (border_back w h m d e)).group

  -- two groups with a dart between them share its line
  module _ (a b d : ℕ) (o : Of s group a d) (f : faced w s l d ≡ b) where
    lined : border w h n d ≡ true
    lined = sym (sided d) ∙ o.sided

    back_lined : border w h n (reversal w d) ≡ true
    back_lined = border_back w h n d lined

    right : side w h m d ≡ a
    right = group_side d ∙ ap group (sym (side_at d lined)) ∙ o.group

    left : side w h m (reversal w d) ≡ b
    unfolding faced
    left = group_side (reversal w d) ∙ ap group (sym (side_at (reversal w d) back_lined)) ∙ f

    pub facing_back : Of s group b (reversal w d) × (faced w s l (reversal w d) ≡ a)
    unfolding faced
    facing_back = (
      record { sided = sided (reversal w d) ∙ back_lined; group = f },
      rw (reversal_twice w h d (border_line w h n d lined)) o.group,
    )

    pub facing_shared : a ≢ b → adjoin w h u.side1 a b ≡ true
    unfolding adjoin shared between
    facing_shared z =
        let e : border w h m d ≡ true =
        differs_border w h m d (λ q. z (sym right ∙ q ∙ sym (side_reversal w h m d (border_line w h n d lined)) ∙ left)) in
        let x = group_at d e ∙ right in
        let y = group_at (reversal w d) (border_back w h m d e) ∙ left in
        found_some (shared u.side1 (reversal w) a b) (slots w h) d (border_below w h n d lined)
        (rw (x, y, eq-eqb a a refl, eq-eqb b b refl))

  -- and the other way round
  module _ (a b : ℕ) (x : a ≢ mark) (y : b ≢ mark) where
    of_sides : (a b d : ℕ) → a ≢ mark → at u.side1 d ≡ a → at u.side1 (reversal w d) ≡ b
        → Of s group a d × (faced w s l d ≡ b)
    of_sides a b d x p q =
        let e = group_on d a x p in
        let r = sym (group_at d e) ∙ p in (
          rw r at (line_of d e),
          line_faced d e ∙ sym (group_at (reversal w d) (border_back w h m d e)) ∙ q,
        )

    pub shared_facing : adjoin w h u.side1 a b ≡ true → (d : ℕ) × Of s group a d × (faced w s l d ≡ b)
    unfolding adjoin shared
    shared_facing e =
        let (d, _, q) = some_found (shared u.side1 (reversal w) a b) (slots w h) e in
        ⊎_elim (λ p. let (o, f) = of_sides a b d x p.0 p.1 in (d, o, f))
        (λ p. let (o, f) = of_sides b a d y p.0 p.1 in let (i, j) = facing_back b a d o f in (reversal w d, i, j))
        (between_either a b (at u.side1 d) (at u.side1 (reversal w d)) q)

  pub sized : length l ≡ w * h
  sized = sym (length-map l suc) ∙ ap length (sym g.named) ∙ length_names w h g.after

  -- a group has a dart: the top side of its first cell
  pub group_dart : (i : ℕ) → i < w * h → get_or l i 0 ≡ i → Of s group (suc i) (top_side w i)
  group_dart i b e =
      let z : get_or m i 0 ≡ suc i = rw g.named (get_or_map suc l i 0 0 (omega (arith, sized)) ∙ ap suc e) in
      rw (top_side_own w h g.after i b z) at (line_of (top_side w i) (top_side_on w h g.after i b z))

  -- Through the list of a group.
  module _ (t f k : List ℕ) (p : Lists s group t f k) (long : length t ≡ length s) (small : length s ≤ mark) (x : ℕ)
      (e : ℕ) (o : Of s group x e) where
    first_of : Of s group x (at f x)
    first_of = p.first x e o

    reached_of : (i : ℕ) → along t i (at f x) ≢ mark → Of s group x (along t i (at f x))
    reached_of = along_of s t f k group p (rw long small) x (at f x) first_of

    pub list_walkable : Walkable w s t (at f x) (w * h)
    list_walkable i z =
        let d = along t i (at f x) in
        let q = (reached_of i z).sided in
        let b = border_back w h n d (sym (sided d) ∙ q) in
        (q, rw (side_at (reversal w d) b) (side_below w h g.before (reversal w d)))

    pub met_shared : (y : ℕ) → x ≢ y → Met w s l t (at f x) y → adjoin w h u.side1 x y ≡ true
    met_shared y z q = facing_shared x y (along t q.steps (at f x)) (reached_of q.steps q.held) q.facing z

    pub unmet_apart : (y : ℕ) → x ≢ mark → y ≢ mark → Unmet w s l t (at f x) y (length t) → adjoin w h u.side1 x y ≡ true → ⊥
    unfolding size
    unmet_apart y c z q a =
        let (d, i, j) = shared_facing x y c z a in
        let r = p.all x d i in
        let b = on_below s d i.sided in
        q r.steps (omega (arith, r.few, count_le (λ d. on s d && eqb (group (at s d)) x) (length s)))
        (λ v. omega (arith, r.there, v)) (rw r.there j)
