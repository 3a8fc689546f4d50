-- Lists of darts, made dart by dart.
--   own             == every side is a group of its own
--   Listing s n i t f l == the darts from i on are in lists by their sides; f and l have n entries
--   read            == the sides of these darts, the mark for the others
use mathlib.Core.Path.{◌≡◌, refl, sym, ap, ◌∙◌}
use mathlib.Core.Bool.{Bool, true, false, cond}
use mathlib.Core.List.{List}
use mathlib.Core.Logic.{◌⊎◌, inl, inr, ⊎_elim, ◌≢◌}
use Prim.Native.Nat.{ℕ, ◌+◌, ◌≤◌, ◌<◌}
use native.Mathlib.Nat.{le_refl}
use native.Mathlib.Decide.{ℕ_discrete, dec_lt}
use native.Mathlib.Omega.{arith}
use lib.Dec.{eqb}
use borrow.Author.Tests.{eqb-true, eqb-false}
use lib.ListN.{length, set, replicate, length-set, length-replicate, get_or-replicate}
use lib.Seq.{ext_get_or}
use Rattle.point_darts.specs.Dart.{mark}
use Rattle.paper.specs.Joining.{at}
use Rattle.table_entries.proofs.Entries.{at_end, on_entry, at_same, at_other}
use Rattle.region_darts.specs.Lists.{Of, size, Lists}
use Rattle.region_darts.proofs.Chain.{Chain, chain_as, chain_single, chain_other, chain_link}
use Rattle.region_darts.proofs.Group.{Group, lists_group, groups_lists}
use Rattle.region_darts.proofs.Size.{of_inside, of_side, size_as, size_more}

abbrev pub own : ℕ → ℕ
own v = v

-- A dart i with side x, put before the list of its side; u has the sides of the darts that are in lists.
module _ (u t f l : List ℕ) (i x : ℕ) (off : at u i ≡ mark) (here : i < length u) (some : x ≢ mark) where
  abbrev more : List ℕ
  more = set u i x

  of_new : Of more own x i
  of_new = let e = at_same u i x here in record { sided = on_entry more i (λ z. some (sym e ∙ z)); group = e }

  of_kept : (y d : ℕ) → Of u own y d → Of more own y d
  of_kept y d o =
      let e = at_other u i x d (λ z. of_side u own y d o (ap (at u) z ∙ off)) in
      record { sided = on_entry more d (λ z. of_side u own y d o (sym e ∙ z)); group = e ∙ o.group }

  of_cases : (y d : ℕ) → Of more own y d → ((d ≡ i) × (y ≡ x)) ⊎ Of u own y d
  of_cases y d o = go (ℕ_discrete d i)
    where
      go : Dec (d ≡ i) → ((d ≡ i) × (y ≡ x)) ⊎ Of u own y d
      go (yes z) = inl (z, sym o.group ∙ ap (at more) z ∙ at_same u i x here)
      go (no z) =
          let e = at_other u i x d z in
          inr (record { sided = on_entry u d (λ w. of_side more own y d o (e ∙ w)); group = sym e ∙ o.group })

  of_out : (y : ℕ) → Of u own y i → ⊥
  of_out y o = of_side u own y i o off

  module _ (r : Lists u own t f l) (same : length t ≡ length u) (room : length u ≤ mark) (free : at t i ≡ mark)
      (firsts : (y : ℕ) → at f y ≢ mark → Of u own y (at f y)) (named : x < length f) (fits : x < length l) where
    abbrev ends : Bool → List ℕ
    ends b = cond b (set l x i) l

    single : (v : ℕ) → v ≡ mark → Chain (set t i v) (λ e. e ≡ i) 1 i i
    single v e = chain_single (set t i v) i (at_same t i v (omega arith) ∙ e) (omega arith)

    -- the list of x: only the dart, or the dart before the others
    own_list : (b : Bool) → eqb (at f x) mark ≡ b → Chain (set t i (at f x)) (Of more own x) (size more own x) i (at (ends b) x)
    own_list true e =
        let z = eqb-true (at f x) mark e in
        let none : (d : ℕ) → Of u own x d → ⊥ =
        λ d o. let h = of_inside u own x (at f x) (r.first x d o) in omega arith in
        rw (at_same l x i fits)
        (chain_as (set t i (at f x)) (λ d. d ≡ i) (Of more own x) 1 (size more own x) i i
        (λ d h. rw h of_new) (λ d o. ⊎_elim (λ p. p.0) (λ p. absurd (none d p)) (of_cases x d o))
        (omega (arith, size_more u more own own x x i (sym (length-set u i x)) (of_kept x) of_new (of_out x)))
        (single (at f x) z))
    own_list false e =
        let o = firsts x (eqb-false (at f x) mark e) in
        chain_as (set t i (at f x)) (λ d. (d ≡ i) ⊎ Of u own x d) (Of more own x) (1 + size u own x) (size more own x) i (at l x)
        (λ d. ⊎_elim (λ h. rw h of_new) (of_kept x d)) (λ d p. ⊎_elim (λ h. inl h.0) inr (of_cases x d p))
        (size_more u more own own x x i (sym (length-set u i x)) (of_kept x) of_new (of_out x))
        (chain_link t (omega arith) (λ d. d ≡ i) (Of u own x) 1 (size u own x) i i (at f x) (at l x)
        (chain_single t i free (omega arith)) (lists_group u t f l own r room x (at f x) o) (of_out x) (omega arith))

    ends_other : (y : ℕ) → y ≢ x → (b : Bool) → at (ends b) y ≡ at l y
    ends_other y n true = at_other l x i y n
    ends_other y n false = refl

    put_group : (y d : ℕ) → Of more own y d → Group more (set t i (at f x)) (set f x i) (ends (eqb (at f x) mark)) own y
    put_group y d o = go (ℕ_discrete y x)
      where
        go : Dec (y ≡ x) → Group more (set t i (at f x)) (set f x i) (ends (eqb (at f x) mark)) own y
        go (yes z) = rw (z, at_same f x i named) (own_list (eqb (at f x) mark) refl)
        go (no z) =
            let back : (e : ℕ) → Of more own y e → Of u own y e =
            λ e p. ⊎_elim (λ h. absurd (z h.1)) (λ h. h) (of_cases y e p) in
            rw (at_other f x i y z, ends_other y z (eqb (at f x) mark))
            (chain_as (set t i (at f x)) (Of u own y) (Of more own y) (size u own y) (size more own y) (at f y) (at l y)
            (of_kept y) back (size_as u more own own y y (sym (length-set u i x)) (of_kept y))
            (chain_other t (omega arith) (Of u own y) (size u own y) (at f y) (at l y) i (at f x)
            (lists_group u t f l own r room y d (back d o)) free (of_out y)))

    put_firsts : (y : ℕ) → at (set f x i) y ≢ mark → Of more own y (at (set f x i) y)
    put_firsts y n = go (ℕ_discrete y x)
      where
        go : Dec (y ≡ x) → Of more own y (at (set f x i) y)
        go (yes z) = rw (z, at_same f x i named) of_new
        go (no z) = let e = at_other f x i y z in rw e (of_kept y (at f y) (firsts y (λ w. n (e ∙ w))))

    put_lists : ((y : ℕ) → at (set f x i) y ≢ mark → Of more own y (at (set f x i) y))
        × Lists more own (set t i (at f x)) (set f x i) (ends (eqb (at f x) mark))
    put_lists = (put_firsts, groups_lists more (set t i (at f x)) (set f x i) (ends (eqb (at f x) mark)) own put_group)

pub record Listing (s : List ℕ) (n i : ℕ) (t f l : List ℕ) : Type 0 where
  pub read : List ℕ
  pub long : length read ≡ length s
  pub same : length t ≡ length s
  pub named : length f ≡ n
  pub ended : length l ≡ n
  pub room : i ≤ length s
  pub before : (d : ℕ) → d < i → at read d ≡ mark
  pub after : (d : ℕ) → i ≤ d → at read d ≡ at s d
  pub free : (d : ℕ) → d < i → at t d ≡ mark
  pub firsts : (x : ℕ) → at f x ≢ mark → Of read own x (at f x)
  pub lists : Lists read own t f l

-- a table of marks alone
at_blank : (n d : ℕ) → at (replicate n mark) d ≡ mark
at_blank n d = go (dec_lt d n)
  where
    go : Dec (d < n) → at (replicate n mark) d ≡ mark
    go (yes h) = unfold at in get_or-replicate n d mark mark h
    go (no h) = at_end (replicate n mark) d (rw (length-replicate n mark) (omega arith))

module _ (s : List ℕ) (n : ℕ) where
  pub listing_none : (m : ℕ) (t f l : List ℕ) → t ≡ replicate m mark → f ≡ replicate n mark → m ≡ length s → length l ≡ n
      → Listing s n (length s) t f l
  listing_none m t f l p q e b =
      rw (p, q)
      record {
        read = replicate m mark;
        long = length-replicate m mark ∙ e;
        same = length-replicate m mark ∙ e;
        named = length-replicate n mark;
        ended = b;
        room = le_refl (length s);
        before = λ d h. at_blank m d;
        after = λ d h. at_blank m d ∙ sym (at_end s d h);
        free = λ d h. at_blank m d;
        firsts = λ x h. absurd (h (at_blank n x));
        lists =
            groups_lists (replicate m mark) (replicate m mark) (replicate n mark) l own
            (λ x d o. absurd (of_side (replicate m mark) own x d o (at_blank m d)));
      }

  module _ (i j : ℕ) (t f l : List ℕ) (r : Listing s n i t f l) (e : j + 1 ≡ i) where
    -- a dart more that has no side
    pub listing_less : at s j ≡ mark → Listing s n j t f l
    listing_less h =
        record {
          read = r.read;
          long = r.long;
          same = r.same;
          named = r.named;
          ended = r.ended;
          room = omega (arith, r.room);
          before = λ d b. r.before d (omega arith);
          after = λ d b. go d b (ℕ_discrete d j);
          free = λ d b. r.free d (omega arith);
          firsts = r.firsts;
          lists = r.lists;
        }
      where
        go : (d : ℕ) → j ≤ d → Dec (d ≡ j) → at r.read d ≡ at s d
        go d b (yes z) = rw z (r.before j (omega arith) ∙ sym h)
        go d b (no z) = r.after d (omega arith)

    -- a dart more that has side x
    module _ (x : ℕ) (h : at s j ≡ x) (some : x ≢ mark) (b : x < n) (m : length s ≤ mark) where
      ended_more : (c : Bool) → length (cond c (set l x j) l) ≡ n
      ended_more true = length-set l x j ∙ r.ended
      ended_more false = r.ended

      here : j < length r.read
      here = omega (arith, r.long, r.room)

      after_more : (d : ℕ) → j ≤ d → Dec (d ≡ j) → at (set r.read j x) d ≡ at s d
      after_more d c (yes z) = rw z (at_same r.read j x here ∙ sym h)
      after_more d c (no z) = at_other r.read j x d z ∙ r.after d (omega arith)

      set_more : Listing s n j (set t j (at f x)) (set f x j) (cond (eqb (at f x) mark) (set l x j) l)
      set_more =
          let (firsts, lists) =
          put_lists r.read t f l j x (r.before j (omega arith)) here some r.lists (r.same ∙ sym r.long)
          (omega (arith, r.long)) (r.free j (omega arith)) r.firsts (omega (arith, r.named)) (omega (arith, r.ended)) in
          record {
            read = set r.read j x;
            long = length-set r.read j x ∙ r.long;
            same = length-set t j (at f x) ∙ r.same;
            named = length-set f x j ∙ r.named;
            ended = ended_more (eqb (at f x) mark);
            room = omega (arith, r.room);
            before = λ d c. at_other r.read j x d (omega arith) ∙ r.before d (omega arith);
            after = λ d c. after_more d c (ℕ_discrete d j);
            free = λ d c. at_other t j (at f x) d (omega arith) ∙ r.free d (omega arith);
            firsts = firsts;
            lists = lists;
          }

      pub listing_more : (t' f' l' : List ℕ) → t' ≡ set t j (at f x) → f' ≡ set f x j
          → l' ≡ cond (eqb (at f x) mark) (set l x j) l → Listing s n j t' f' l'
      listing_more t' f' l' p q k = rw (p, q, k) set_more

  -- all darts
  pub listing_all : (i : ℕ) (t f l : List ℕ) → Listing s n i t f l → i ≤ 0 → Lists s own t f l
  listing_all i t f l r h =
      let e : r.read ≡ s =
      ext_get_or mark r.read s r.long (λ d b. unfold at in r.after d (omega arith)) in
      rw e at r.lists
