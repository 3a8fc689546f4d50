-- Two editors at one sheet (request T-06): what one of them is replied and has left is what it would be without the other.
--   reply w h o t c == the number that the call c is answered with in the tables t, by the owners o
--   after w h o t c == the tables after it
--   Twin e t u      == of the regions of the editor e the drawings t and u tell the same
use mathlib.Core.Path.{◌≡◌, refl, sym, ap, ap₂, ◌∙◌}
use mathlib.Core.Bool.{Bool, true, false, cond, not, ◌&&◌, ◌||◌}
use mathlib.Core.List.{List, [], ◌∷◌, ◌++◌, map}
use mathlib.Core.Logic.{◌≢◌}
use Prim.Native.Nat.{ℕ, zero, suc, ◌+◌, ◌*◌, ◌<◌, ◌≤◌, min, max}
use native.Mathlib.Decide.{ℕ_discrete, dec_le}
use native.Mathlib.Omega.{arith}
use lib.Dec.{eqb, lit<}
use lib.ListN.{length}
use borrow.Author.Tests.{eqb-true, eqb-false, eq-eqb, ne_eqb, not-true}
use Rattle.laws.specs.Least.{lower}
use Rattle.laws.specs.First.{first_failed, numbered}
use Rattle.laws.proofs.First.{Passed, all_passed}
use Rattle.laws.proofs.Least.{get_or_lower, lower_other}
use Rattle.laws.proofs.Table.{length_table}
use Rattle.laws.proofs.Test.{and_left, and_right, and_under, or_neither}
use Rattle.sheet_size.specs.Size.{within}
use Rattle.point_darts.specs.Dart.{mark, slots}
use Rattle.paper.specs.Name.{label, names}
use Rattle.paper.specs.Level.{plain, along, level}
use Rattle.paper.specs.Enclosure.{parents}
use Rattle.paper.specs.Drawing.{Tables, Drawn, drawn, drawing, fresh, recovered, is_drawing}
use Rattle.paper.specs.Joining.{at, joined}
use Rattle.paper.specs.Refusal.{sized, stated, used, adjoin, size_tests}
use Rattle.paper.specs.Sitting.{Joinable, Sitting, done, then}
use Rattle.paper.specs.Editor.{both_tests, Call, is_editor, owned, lent, theirs, own_tests, call_tests, reply, after}
use Rattle.paper.specs.Mixture.{after_all, replies_to, own, region, SameRegion}
use Rattle.paper_laws.proofs.Marks.{length_marked, cells_slots}
use Rattle.paper_laws.proofs.Added.{length_totals, lowered_other}
use Rattle.paper_laws.proofs.IsDrawing.{recovered_names, recovered_drawn, drawn_is_drawing}
use Rattle.paper_laws.proofs.Enclosure.{parents_past}
use Rattle.paper_laws.proofs.Neighbour.{used_below, joined_names}
use Rattle.paper_laws.proofs.Theorem.{removal_is_fresh, joined_again}
use Rattle.paper_laws.proofs.Alone.{SameCells, region_alone, adjoin_alone}

-- The tests of a call, and what one that passes them all is.
module _ (w h : ℕ) (o : List ℕ) where
  pub own_numbered : (s p : List ℕ) (e a b : ℕ) → numbered 6 11 (own_tests w h o s p e a b) ≡ true
  unfolding numbered own_tests
  own_numbered s p e a b = refl

  module _ (t : Tables) (e a b : ℕ) (z : first_failed (own_tests w h o t.side1 t.parent e a b) ≡ 0) where
    passed : Passed (own_tests w h o t.side1 t.parent e a b)
    passed =
        all_passed 6 11 (lit< tt) (own_tests w h o t.side1 t.parent e a b) (own_numbered t.side1 t.parent e a b) z

    both_theirs : (theirs o t.parent e a ≡ true) × (theirs o t.parent e b ≡ true)
    unfolding own_tests
    both_theirs =
        let x = theirs o t.parent e a in
        let y = theirs o t.parent e b in
        let p = passed.1.1.0 in
        (and_left x y p, and_right x y p)

    -- it joins two regions
    pub own_joinable : Joinable w h t a b
    unfolding own_tests theirs
    own_joinable =
        let (x, y) = or_neither (eqb a 0) (eqb b 0) (not-true (eqb a 0 || eqb b 0) passed.0) in
        let (p, q) = both_theirs in
        record {
          inner = (eqb-false a 0 x, eqb-false b 0 y);
          apart = eqb-false a b (not-true (eqb a b) passed.1.0);
          regions = (and_right (eqb (at o a) e) (used t.parent a) p, and_right (eqb (at o b) e) (used t.parent b) q);
          neighbours = passed.1.1.1.0;
        }

    -- that are the caller's
    pub own_owned : (at o a ≡ e) × (at o b ≡ e)
    unfolding theirs
    own_owned =
        let (p, q) = both_theirs in (
          eqb-true (at o a) e (and_left (eqb (at o a) e) (used t.parent a) p),
          eqb-true (at o b) e (and_left (eqb (at o b) e) (used t.parent b) q),
        )

  call_numbered : (t : Tables) (c : Call) → numbered 1 12 (call_tests w h o t c) ≡ true
  unfolding numbered call_tests size_tests own_tests
  call_numbered t c = refl

  -- a call that is done has passed the tests of its names
  call_own : (t : Tables) (c : Call) → reply w h o t c ≡ 0 → first_failed (own_tests w h o t.side1 t.parent c.editor c.a c.b) ≡ 0
  unfolding reply call_tests size_tests first_failed
  call_own t c z =
      let p = all_passed 1 12 (lit< tt) (call_tests w h o t c) (call_numbered t c) z in
      rw (p.0, p.1.0, p.1.1.0, p.1.1.1.0) at z

  pub call_joinable : (t : Tables) (c : Call) → reply w h o t c ≡ 0 → Joinable w h t c.a c.b
  call_joinable t c z = own_joinable t c.editor c.a c.b (call_own t c z)

  pub call_owned : (t : Tables) (c : Call) → reply w h o t c ≡ 0 → (at o c.a ≡ c.editor) × (at o c.b ≡ c.editor)
  call_owned t c z = own_owned t c.editor c.a c.b (call_own t c z)

  -- what a call leaves: the joined tables, or the tables that were there
  after_cases : (P : Tables → Type 0) (t : Tables) (c : Call) → (reply w h o t c ≡ 0 → P (joined w h t c.a c.b)) → P t
      → P (after w h o t c)
  unfolding after
  after_cases P t c f g = go (eqb (reply w h o t c) 0) refl
    where
      go : (b : Bool) → eqb (reply w h o t c) 0 ≡ b → P (cond b (joined w h t c.a c.b) t)
      go true e = f (eqb-true (reply w h o t c) 0 e)
      go false e = g

  -- so calls in any mixture are a sitting
  pub calls_sitting : (l : List Call) (t : Tables) → Sitting w h t (after_all w h o t l)
  unfolding after_all
  calls_sitting [] t = done
  calls_sitting (c ∷ l) t =
      after_cases (λ u. Sitting w h t (after_all w h o u l)) t c
      (λ z. then c.a c.b (call_joinable t c z) (calls_sitting l (joined w h t c.a c.b))) (calls_sitting l t)

-- Two numbers that agree with a, with b and with r agree with r when they are lowered.
lower_agree : (a b r x y : ℕ) → eqb x a ≡ eqb y a → eqb x b ≡ eqb y b → eqb x r ≡ eqb y r → eqb (lower a b x) r ≡ eqb (lower a b y) r
unfolding lower
lower_agree a b r x y p q e = go (eqb y (max a b)) refl
  where
    larger : Dec (a ≤ b) → eqb x (max a b) ≡ eqb y (max a b)
    larger (yes l) = let z : max a b ≡ b = omega arith in rw z q
    larger (no l) = let z : max a b ≡ a = omega arith in rw z p

    go : (c : Bool) → eqb y (max a b) ≡ c → eqb (lower a b x) r ≡ eqb (lower a b y) r
    go true f = rw (larger (dec_le a b), f)
    go false f = rw (larger (dec_le a b), f) e

-- A number is lowered to one of the same owner.
lower_owner : (o : List ℕ) (a b v : ℕ) → at o a ≡ at o b → at o (lower a b v) ≡ at o v
unfolding lower
lower_owner o a b v p = go (eqb v (max a b)) refl
  where
    ends : Dec (a ≤ b) → at o (min a b) ≡ at o (max a b)
    ends (yes l) =
        let x : min a b ≡ a = omega arith in
        let y : max a b ≡ b = omega arith in
        rw (x, y) p
    ends (no l) =
        let x : min a b ≡ b = omega arith in
        let y : max a b ≡ a = omega arith in
        rw (x, y) (sym p)

    go : (c : Bool) → eqb v (max a b) ≡ c → at o (lower a b v) ≡ at o v
    go true f = rw f (ends (dec_le a b) ∙ ap (at o) (sym (eqb-true v (max a b) f)))
    go false f = rw f

-- The names of the cells after a join.
module _ (w h : ℕ) (room : slots w h ≤ mark) where
  region_joined : (t : Tables) (d : Drawn w h t) (a b : ℕ) → Joinable w h t a b → (i : ℕ)
      → region w h (joined w h t a b) i ≡ lower a b (region w h t i)
  unfolding region label fresh
  region_joined t d a b j i =
      let s = d.labels in
      let k : Joinable w h (drawing w h s) a b = rw d.same j in
      let p : recovered w h (joined w h t a b).side1 ≡ map (lower a b) (names w h s) =
      ap (λ (v : Tables). recovered w h (joined w h v a b).side1) (sym d.same)
      ∙ ap (λ (v : Tables). recovered w h v.side1) (removal_is_fresh w h room s a b k)
      ∙ recovered_names w h (map (lower a b) (names w h s)) room
      ∙ joined_names w h s room a b k in
      rw (p, recovered_drawn w h room t d) (get_or_lower a b (names w h s) i)

  -- the drawings of one size have the stated lengths
  drawing_stated : (s : List ℕ) (ws : List (List ℕ)) → stated w h (drawing w h s) ws ≡ sized (slots w h) ws
  unfolding stated sized drawing drawn level plain along parents
  drawing_stated s ws =
      rw (
        length_marked,
        length_marked,
        length_marked,
        length_marked,
        length_totals,
        length_totals,
        length_table,
        eq-eqb (w * h + 1) (w * h + 1) refl,
        eq-eqb (slots w h) (slots w h) refl,
      )

  drawn_stated : (t : Tables) (d : Drawn w h t) (ws : List (List ℕ)) → stated w h t ws ≡ sized (slots w h) ws
  drawn_stated t d ws = rw (← d.same) (drawing_stated d.labels ws)

  -- Of the owners o, and an editor e.
  module _ (o : List ℕ) (e : ℕ) where
    pub record Twin (t u : Tables) : Type 0 where
      pub one : Drawn w h t
      pub two : Drawn w h u
      pub cells : (r : ℕ) → r ≢ 0 → at o r ≡ e → SameCells w h r t u

    module _ {t u : Tables} (x : Twin t u) where
      twin_region : (r : ℕ) → r ≢ 0 → at o r ≡ e → SameRegion w h r t u
      twin_region r z p = region_alone w h room t u x.one x.two r (x.cells r z p) z

      -- a name is a region of the editor's in both or in neither
      twin_theirs : (r : ℕ) → r ≢ 0 → theirs o t.parent e r ≡ theirs o u.parent e r
      unfolding theirs
      twin_theirs r z =
          and_under (eqb (at o r) e) (used t.parent r) (used u.parent r)
          (λ p. (twin_region r z (eqb-true (at o r) e p)).present)

      -- and two such regions share a line in both or in neither
      twin_adjoin : (a b : ℕ) → a ≢ 0 → b ≢ 0 → theirs o t.parent e a ≡ true → theirs o t.parent e b ≡ true
          → adjoin w h t.side1 a b ≡ adjoin w h u.side1 a b
      unfolding theirs
      twin_adjoin a b y z p q =
          adjoin_alone w h room t u x.one x.two a b
          (small a (and_right (eqb (at o a) e) (used t.parent a) p))
          (small b (and_right (eqb (at o b) e) (used t.parent b) q))
          (x.cells a y (eqb-true (at o a) e (and_left (eqb (at o a) e) (used t.parent a) p)))
          (x.cells b z (eqb-true (at o b) e (and_left (eqb (at o b) e) (used t.parent b) q)))
        where
          small : (v : ℕ) → used t.parent v ≡ true → v ≢ mark
          small v k = used_below w h x.one.labels room v (rw x.one.same k)

      twin_names : (a b : ℕ)
          → first_failed (own_tests w h o t.side1 t.parent e a b) ≡ first_failed (own_tests w h o u.side1 u.parent e a b)
      unfolding own_tests first_failed
      twin_names a b = by (eqb a 0) refl (eqb b 0) refl
        where
          by : (p : Bool) → eqb a 0 ≡ p → (q : Bool) → eqb b 0 ≡ q
              → first_failed (own_tests w h o t.side1 t.parent e a b) ≡ first_failed (own_tests w h o u.side1 u.parent e a b)
          by true f q g = rw f
          by false f true g = rw (f, g)
          by false f false g =
              let y = eqb-false a 0 f in
              let z = eqb-false b 0 g in
              rw (← twin_theirs a y, ← twin_theirs b z)
              (under (theirs o t.parent e a) refl (theirs o t.parent e b) refl y z)
            where
              under : (p : Bool) → theirs o t.parent e a ≡ p → (q : Bool) → theirs o t.parent e b ≡ q → a ≢ 0 → b ≢ 0
                  → first_failed (both_tests (λ r. theirs o t.parent e r) 10 a b ++ (adjoin w h t.side1 a b, 9) ∷ [])
                  ≡ first_failed (both_tests (λ r. theirs o t.parent e r) 10 a b ++ (adjoin w h u.side1 a b, 9) ∷ [])
              under true i true j y z = rw (twin_adjoin a b y z i j)
              under true i false j y z = rw (i, j)
              under false i q j y z = rw i

      twin_reply : (c : Call) → c.editor ≡ e → reply w h o t c ≡ reply w h o u c
      unfolding reply call_tests size_tests lent first_failed
      twin_reply c p =
          rw (
            p,
            drawn_stated t x.one c.work,
            drawn_stated u x.two c.work,
            drawn_is_drawing w h t room x.one,
            drawn_is_drawing w h u room x.two,
            twin_names c.a c.b,
          )

      -- a call of the other editor changes nothing of it
      twin_other : (c : Call) → c.editor ≢ e → Twin (after w h o t c) u
      twin_other c n = after_cases w h o (λ v. Twin v u) t c joins x
        where
          joins : reply w h o t c ≡ 0 → Twin (joined w h t c.a c.b) u
          joins z =
              let j = call_joinable w h o t c z in
              let (p, q) = call_owned w h o t c z in
              record {
                one = joined_again w h room x.one j;
                two = x.two;
                cells = λ r y k i l.
                    rw (region_joined t x.one c.a c.b j i)
                    (lowered_other c.a c.b j.apart j.inner.0 j.inner.1 (region w h t i) r
                    (λ f. n (sym p ∙ ap (at o) (sym f) ∙ k)) (λ f. n (sym q ∙ ap (at o) (sym f) ∙ k))
                    ∙ x.cells r y k i l);
              }

      -- one of its own does the same to both
      twin_own : (c : Call) → c.editor ≡ e → Twin (after w h o t c) (after w h o u c)
      unfolding after
      twin_own c m = rw (← twin_reply c m) (go (eqb (reply w h o t c) 0) refl)
        where
          a : ℕ
          a = c.a

          b : ℕ
          b = c.b

          go : (k : Bool) → eqb (reply w h o t c) 0 ≡ k → Twin (cond k (joined w h t a b) t) (cond k (joined w h u a b) u)
          go false k = x
          go true k =
              let z = eqb-true (reply w h o t c) 0 k in
              let i = call_joinable w h o t c z in
              let j = call_joinable w h o u c (sym (twin_reply c m) ∙ z) in
              let (p, q) = call_owned w h o t c z in
              record {
                one = joined_again w h room x.one i;
                two = joined_again w h room x.two j;
                cells = λ r y f g l.
                    rw (region_joined t x.one a b i g, region_joined u x.two a b j g)
                    (lower_agree a b r (region w h t g) (region w h u g)
                    (x.cells a i.inner.0 (p ∙ m) g l) (x.cells b i.inner.1 (q ∙ m) g l) (x.cells r y f g l));
              }

    -- the calls l from t on, and those of the editor alone from u on
    abbrev Mixed : List Call → Tables → Tables → Type 0
    Mixed l t u = (replies_to e w h o t l ≡ replies_to e w h o u (own e l)) × Twin (after_all w h o t l) (after_all w h o u (own e l))

    mixed : (l : List Call) {t u : Tables} → Twin t u → Mixed l t u
    unfolding replies_to after_all own
    mixed [] x = (refl, x)
    mixed (c ∷ l) {t} {u} x =
        go (eqb c.editor e) refl (λ p. mixed l (twin_own x c p)) (λ n. mixed l (twin_other x c n))
      where
        go : (k : Bool) → eqb c.editor e ≡ k
            → (c.editor ≡ e → Mixed l (after w h o t c) (after w h o u c))
            → (c.editor ≢ e → Mixed l (after w h o t c) u) → Mixed (c ∷ l) t u
        go true k f g =
            let p = eqb-true c.editor e k in
            let (v, y) = f p in
            rw (k, k) (ap₂ ◌∷◌ (twin_reply x c p) v, y)
        go false k f g = rw k (g (eqb-false c.editor e k))

  -- The theorem of the two editors. In any drawing, by any owners, whatever calls the editors make, in any mixture, done or refused:
  -- the replies to one editor's calls, and of every name that this editor owns whether it is in use, its cells and its two totals, are
  -- those of the calls of this editor alone.
  pub two_editors : (o : List ℕ) (t : Tables) → Drawn w h t → (l : List Call) (e : ℕ)
      → (replies_to e w h o t l ≡ replies_to e w h o t (own e l))
      × ((r : ℕ) → r ≢ 0 → at o r ≡ e → SameRegion w h r (after_all w h o t l) (after_all w h o t (own e l)))
  two_editors o t d l e =
      let (p, x) = mixed o e l (record { one = d; two = d; cells = λ r z q i k. refl }) in
      (p, twin_region o e x)

  -- No cell changes hands: the region that it is of is owned by the one who owned its region before.
  pub owner_stays : (o : List ℕ) (l : List Call) (t : Tables) → Drawn w h t → (i : ℕ)
      → at o (region w h (after_all w h o t l) i) ≡ at o (region w h t i)
  unfolding after_all
  owner_stays o [] t d i = refl
  owner_stays o (c ∷ l) t d i =
      let (f, p) =
      after_cases w h o (λ u. Drawn w h u × (at o (region w h u i) ≡ at o (region w h t i))) t c
      (λ z.
      let j = call_joinable w h o t c z in
      let (a, b) = call_owned w h o t c z in (
        joined_again w h room d j,
        ap (at o) (region_joined t d c.a c.b j i) ∙ lower_owner o c.a c.b (region w h t i) (a ∙ sym b),
      ))
      (d, refl) in
      owner_stays o l (after w h o t c) f i ∙ p
