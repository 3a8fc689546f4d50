-- Step 1, in place: next led past the darts with the sides a and b, then these darts unlinked.
--   Mapped s n o    == the links n, o with the sides s are those of a map
--   led s l a b d   == the next of dart d, past the darts with the sides a and b, which keep theirs
--   leaping l f d   == where a chase goes on from dart d
use mathlib.Core.Path.{◌≡◌, refl, sym, ◌∙◌, ap}
use mathlib.Core.Bool.{Bool, true, false, cond, not, ◌&&◌}
use mathlib.Core.List.{List}
use Prim.Native.Nat.{ℕ, ◌≤◌, ◌<◌}
use native.Mathlib.Decide.{dec_lt}
use native.Mathlib.Omega.{arith}
use lib.Dec.{eqb}
use lib.ListN.{length, get_or}
use borrow.Author.Tests.{eqb-true, not-false}
use Rattle.laws.specs.Table.{table}
use Rattle.laws.proofs.Table.{length_table, get_or_table, table_agree}
use Rattle.laws.proofs.Test.{clash}
use Rattle.point_darts.specs.Dart.{mark, slots}
use Rattle.paper.specs.Level.{marked}
use Rattle.paper.specs.Joining.{Links, at, on, shared, chase, removed}
use Rattle.table_entries.proofs.Entries.{at_in, at_entry, at_out, on_mark}
use Rattle.table_entries.proofs.Half.{Half, half_here}
use Rattle.join_darts.specs.Links.{links}
use Rattle.join_darts.specs.Listed.{bounds, Bounded}
use Rattle.join_shared.specs.Led.{leaping, led}
use Rattle.join_shared.proofs.Chasing.{leaps_on, leaps_not, chase_still, chase_leaps, chase_four, led_keeps, led_past}
use Rattle.join_shared.specs.Mapped.{Mapped, Bare}
use Rattle.join_shared.proofs.Sharing.{shared_past, away_apart, shared_other}

-- an entry that is off is the mark, and one that is on lies in the table
pub off_mark : (t : List ℕ) (d : ℕ) → on t d ≡ false → at t d ≡ mark
unfolding on
off_mark t d e = eqb-true (at t d) mark (not-false (eqb (at t d) mark) e)

pub on_inside : (t : List ℕ) (d : ℕ) → on t d ≡ true → d < length t
on_inside t d e = go (dec_lt d (length t))
  where
    go : Dec (d < length t) → d < length t
    go (yes b) = b
    go (no b) = clash e (on_mark t d (sym (at_out t d (omega arith))))

-- a dart with neither side, or with no next, keeps what it has
pub away_keeps : (s : List ℕ) (o : ℕ → ℕ) (a b x d : ℕ) → bounds s a b d ≡ false
    → cond (shared s o a b d) mark x ≡ x
away_keeps s o a b x d e = rw (away_apart s o a b d e)

off_keeps : (c : Bool) (x : ℕ) → x ≡ mark → cond c mark x ≡ x
off_keeps true x e = sym e
off_keeps false x e = refl

pub unlisted_keeps : (s n : List ℕ) (o : ℕ → ℕ) (a b m f : ℕ) (t : List ℕ) (g : Bounded s n a b m f t) (d : ℕ)
    → g.test d ≡ false → cond (shared s o a b d) mark (at n d) ≡ at n d
unlisted_keeps s n o a b m f t g d e = go (bounds s a b d) (on n d) refl refl
  where
    go : (x y : Bool) → bounds s a b d ≡ x → on n d ≡ y → cond (shared s o a b d) mark (at n d) ≡ at n d
    go false y p q = away_keeps s o a b (at n d) d p
    go true true p q = clash (g.all d p q) e
    go true false p q = off_keeps (shared s o a b d) (at n d) (off_mark n d q)

-- a list of the darts that have a next has those that have an other
pub bare_bounded : (s n o : List ℕ) (a b m f : ℕ) (t : List ℕ) → Bare n o → Bounded s n a b m f t → Bounded s o a b m f t
bare_bounded s n o a b m f t r g =
    record { test = g.test; list = g.list; all = λ d e h. g.all d e (go d h (on n d) refl) }
  where
    go : (d : ℕ) → on o d ≡ true → (x : Bool) → on n d ≡ x → on n d ≡ true
    go d h true q = q
    go d h false q = clash h (on_mark o d (r.none d q))

-- whether a dart has the sides a and b is told by its own other alone
pub shared_same : (s o u : List ℕ) (a b d : ℕ) → d < length u → at o d ≡ get_or u d 0
    → shared s (at u) a b d ≡ shared s (at o) a b d
unfolding shared
shared_same s o u a b d h e = rw (at_entry u d h ∙ sym e)

pub link_here : (p q : Bool) (x y r : ℕ) → p ≡ q → x ≡ y → r ≡ cond p mark y → r ≡ cond q mark x
link_here p q x y r e f g = g ∙ rw (e, f)

-- In a map.
module _ (s n o : List ℕ) (a b : ℕ) (p : a < mark) (q : b < mark) (fit : length s ≤ mark)
    (m : Mapped s n o) where
  abbrev gone : ℕ → Bool
  gone = shared s (at o) a b

  abbrev l : Links
  l = links n o

  mark_stays : gone mark ≡ false
  mark_stays = shared_past s (at o) a b (λ z. omega arith) (λ z. omega arith) mark fit

  -- a chase stays on darts that have a next
  leap_on : (d : ℕ) → on n d ≡ true → on n (leaping l gone d) ≡ true
  leap_on d h = go (gone d) refl
    where
      go : (c : Bool) → gone d ≡ c → on n (leaping l gone d) ≡ true
      go true e = rw (← (leaps_on l gone d e)) (m.stays (at o d) (m.across d h))
      go false e = rw (← (leaps_not l gone d e)) h

  -- a dart with neither side keeps its next
  bounds_next : (d : ℕ) → on n d ≡ true → bounds s a b (at n d) ≡ bounds s a b d
  unfolding bounds
  bounds_next d h = rw (m.keeps d h)

  away_next : (d : ℕ) → bounds s a b d ≡ false → gone (at n d) ≡ false
  away_next d e = go (on n d) refl
    where
      go : (c : Bool) → on n d ≡ c → gone (at n d) ≡ false
      go true h = away_apart s (at o) a b (at n d) (bounds_next d h ∙ e)
      go false h = rw (off_mark n d h) mark_stays

  pub away_led : (d : ℕ) → bounds s a b d ≡ false → led s l a b d ≡ at n d
  away_led d e =
      sym (led_past s l a b d (at n d) refl (away_apart s (at o) a b d e) (at n d)
      (sym (chase_still l gone (at n d) (away_next d e))))

  -- nor does a dart with no next get one
  off_led : (d : ℕ) → on n d ≡ false → led s l a b d ≡ at n d
  off_led d e = go (gone d) refl
    where
      go : (c : Bool) → gone d ≡ c → led s l a b d ≡ at n d
      go true h = sym (led_keeps s l a b d (at n d) refl h)
      go false h =
          sym (led_past s l a b d (at n d) refl h (at n d)
          (rw (off_mark n d e) (sym (chase_still l gone mark mark_stays))))

  -- so the list needs only the darts that have a next
  module _ (j f : ℕ) (t : List ℕ) (g : Bounded s n a b j f t) where
    pub unlisted_led : (d : ℕ) → g.test d ≡ false → led s l a b d ≡ at n d
    unlisted_led d e = go (bounds s a b d) (on n d) refl refl
      where
        go : (x y : Bool) → bounds s a b d ≡ x → on n d ≡ y → led s l a b d ≡ at n d
        go false y u v = away_led d u
        go true true u v = clash (g.all d u v) e
        go true false u v = off_led d v

    pub led_bounded : (i : ℕ) (r : List ℕ) → r ≡ table i (led s l a b) → Bounded s r a b j f t
    unfolding at
    led_bounded i r e =
        record {
          test = g.test;
          list = g.list;
          all = λ d u v. g.all d u (go d v (on n d) refl);
        }
      where
        off : (d : ℕ) → on n d ≡ false → Dec (d < i) → at (table i (led s l a b)) d ≡ mark
        off d v (yes c) = get_or_table i (led s l a b) d mark c ∙ off_led d v ∙ off_mark n d v
        off d v (no c) = sym (at_out (table i (led s l a b)) d (rw length_table (omega arith)))

        go : (d : ℕ) → on r d ≡ true → (c : Bool) → on n d ≡ c → on n d ≡ true
        go d u true v = v
        go d u false v = clash u (on_mark r d (rw e (off d v (dec_lt d i))))

  -- with the next of some darts led on already
  module _ (i : ℕ) (t : List ℕ) (r : Half (led s l a b) i n t) where
    abbrev k : Links
    k = links t o

    -- the darts with the sides a and b still have theirs
    gone_keeps : (d : ℕ) → on n d ≡ true → gone d ≡ true → at t d ≡ at n d
    gone_keeps d h e =
        let z = on_inside n d h in
        at_entry t d (omega (arith, r.long)) ∙ go z (dec_lt d i)
      where
        go : d < length n → Dec (d < i) → get_or t d 0 ≡ at n d
        go z (yes c) = r.done d c ∙ sym (led_keeps s l a b d (at n d) refl e)
        go z (no c) = r.rest d (omega arith) ∙ at_in n d z

    leap_same : (d : ℕ) → on n d ≡ true → leaping k gone d ≡ leaping l gone d
    leap_same d h = go (gone d) refl
      where
        go : (c : Bool) → gone d ≡ c → leaping k gone d ≡ leaping l gone d
        go true e =
            let u = m.across d h in
            sym (leaps_on k gone d e) ∙ gone_keeps (at o d) u (shared_other s (at o) a b d (m.pairs d h) ∙ e)
            ∙ leaps_on l gone d e
        go false e = sym (leaps_not k gone d e) ∙ leaps_not l gone d e

    chase_same : (d : ℕ) → on n d ≡ true → chase k gone d ≡ chase l gone d
    chase_same d h =
        let x = leaping l gone d in
        let y = leaping l gone x in
        let z = leaping l gone y in
        let e = leap_on d h in
        let f = leap_on x e in
        let g = leap_on y f in
        sym (chase_four k gone d x y z (leaping l gone z) (sym (leap_same d h)) (sym (leap_same x e))
        (sym (leap_same y f)) (sym (leap_same z g)))
        ∙ sym (chase_leaps l gone d)

    pub led_same : i < length n → led s k a b i ≡ led s l a b i
    unfolding led
    led_same h =
        let e : at t i ≡ at n i = at_entry t i (omega (arith, r.long)) ∙ sym (half_here (led s l a b) i n t r h) in
        rw e (ap (cond (gone i) (at n i)) (go (on n i) refl))
      where
        go : (c : Bool) → on n i ≡ c → chase k gone (at n i) ≡ chase l gone (at n i)
        go true u = chase_same (at n i) (m.stays i u)
        go false u =
            let v = off_mark n i u in
            rw v (chase_still k gone mark mark_stays ∙ sym (chase_still l gone mark mark_stays))

  -- The links without the darts with the sides a and b.
  module _ (w h : ℕ) (long : length n ≡ slots w h) where
    rest : ℕ → Bool
    rest d = on n d && not (gone d)

    abbrev left : ℕ → ℕ
    left d = cond (rest d) (chase l gone (at n d)) mark

    led_left : (d : ℕ) → cond (gone d) mark (led s l a b d) ≡ left d
    unfolding rest led
    led_left d = go (on n d) (gone d) refl
      where
        go : (x y : Bool) → on n d ≡ x
            → cond y mark (cond y (at n d) (chase l gone (at n d))) ≡ cond (x && not y) (chase l gone (at n d)) mark
        go true true e = refl
        go true false e = refl
        go false true e = refl
        go false false e = rw (off_mark n d e) (chase_still l gone mark mark_stays)

    pub removed_nexts : (i j : ℕ) (n₁ n₂ : List ℕ) → i ≡ slots w h → j ≡ slots w h → n₁ ≡ table i (led s l a b)
        → n₂ ≡ table j (λ d. cond (gone d) mark (at n₁ d)) → n₂ ≡ (removed w h l gone).next
    unfolding removed marked at rest
    removed_nexts i j n₁ n₂ u v e f =
        f ∙ rw (v, e, u)
        (table_agree (slots w h) _ left
        (λ d c. ap (cond (gone d) mark) (get_or_table (slots w h) (led s l a b) d mark c) ∙ led_left d))

    pub removed_others : Bare n o → (i : ℕ) (n₂ o₂ : List ℕ) → i ≡ slots w h → n₂ ≡ (removed w h l gone).next
        → o₂ ≡ table i (λ d. cond (gone d) mark (at o d)) → links n₂ o₂ ≡ removed w h l gone
    unfolding removed marked rest
    removed_others r i n₂ o₂ u e f = rw (e, others)
      where
        go : (d : ℕ) (x y : Bool) → on n d ≡ x → cond y mark (at o d) ≡ cond (x && not y) (at o d) mark
        go d true true q = refl
        go d true false q = refl
        go d false true q = refl
        go d false false q = r.none d q

        others : o₂ ≡ table (slots w h) (λ d. cond (rest d) (at o d) mark)
        others = f ∙ rw u (table_agree (slots w h) _ _ (λ d c. go d (on n d) (gone d) refl))
