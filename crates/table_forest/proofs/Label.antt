-- Forests and their labels.
--   Leads l k e     == e is an entry for node k of the labels l
--   Forest m l t    == each node below m has an entry in t that leads on by the labels l
--   Halved i t u x  == the forest t has become u on the way from node i to node x of its tree
--   Flattened t u i == the forest t has become u, in which each node below i leads to its root at once
--   lower a b       == the larger of the labels a and b becomes the smaller
--   entry i j t     == the entry of node j in the forest t once node i has sprouted
use mathlib.Core.Path.{◌≡◌, refl, sym, ◌∙◌}
use mathlib.Core.Bool.{Bool, true, false, cond}
use mathlib.Core.List.{List, map}
use mathlib.Core.Logic.{◌⊎◌, inl, inr, ⊎_elim, ◌≢◌}
use Prim.Native.Nat.{ℕ, suc, ◌+◌, ◌≤◌, ◌<◌, zero-le, min, max}
use native.Mathlib.Nat.{le_refl, not-suc-le-zero, eq-or-lt_of_le}
use native.Mathlib.Decide.{dec_le}
use native.Mathlib.Omega.{arith}
use lib.Dec.{eqb}
use borrow.Author.Tests.{eqb-true}
use lib.ListN.{length, get_or, set, length-set, length-map}
use lib.Seq.{ext_get_or}
use Rattle.laws.specs.Least.{lower, tie}
use Rattle.laws.proofs.Least.{lower_cases, lower_le, lower_left, lower_other, get_or_lower, tie_one, tie_same, tie_idle, tie_again}
use Rattle.table_entries.proofs.Entries.{set_cases}
use Rattle.table_forest.specs.Forest.{Leads, Labels, Forest, Grown, Planted, Found}

-- Entries.
module _ (l : List ℕ) where
  -- a node that is its own label may lead to itself
  leads_self : (k : ℕ) → get_or l k 0 ≡ k → Leads l k k
  leads_self k e = record { down = le_refl k; same = refl; root = λ d. e }

  -- a node may lead to its label at once
  leads_root : (k r : ℕ) → r ≤ k → get_or l k 0 ≡ r → get_or l r 0 ≡ r → Leads l k r
  leads_root k r d u v = record { down = d; same = v ∙ sym u; root = λ e. u ∙ e }

  -- the smaller of two roots is a root
  smaller_root : (x y r : ℕ) → r ≡ min x y → get_or l x 0 ≡ x → get_or l y 0 ≡ y → get_or l r 0 ≡ r
  smaller_root x y r e u v = go (dec_le x y)
    where
      go : Dec (x ≤ y) → get_or l r 0 ≡ r
      go (yes h) =
          let p : r ≡ x = omega arith in
          rw p u
      go (no h) =
          let p : r ≡ y = omega arith in
          rw p v

  -- the entry of an entry is an entry
  leads_then : (k e d : ℕ) → Leads l k e → Leads l e d → Leads l k d
  leads_then k e d f g =
      let p = f.down in
      let q = g.down in
      record { down = omega arith; same = g.same ∙ f.same; root = λ r. f.root (omega arith) }

  -- a store of an entry among entries
  leads_set : (m x q : ℕ) (t : List ℕ) → x < length t → Leads l x q
      → ((k : ℕ) → k < m → k ≢ x → Leads l k (get_or t k 0)) → (k : ℕ) → k < m → Leads l k (get_or (set t x q) k 0)
  leads_set m x q t b e f k h =
      ⊎_elim (λ p. rw (p.1, p.0) e) (λ p. rw p.1 (f k h p.0)) (set_cases t x q k b)

module _ (m : ℕ) (l t : List ℕ) (f : Forest m l t) where
  -- a node gets another entry
  led_anew : (x e : ℕ) → x < m → Leads l x e → Forest m l (set t x e)
  led_anew x e h g =
      let r = f.room in
      record {
        sized = rw length-set f.sized;
        room = rw length-set f.room;
        labels = f.labels;
        leads = leads_set l m x e t (omega arith) g (λ k b n. f.leads k b);
      }

  -- a node is led past its entry
  halve : (x : ℕ) → x < m → Forest m l (set t x (get_or t (get_or t x 0) 0))
  halve x h =
      let e = f.leads x h in
      let d = e.down in
      led_anew x (get_or t (get_or t x 0) 0) h
      (leads_then l x (get_or t x 0) (get_or t (get_or t x 0) 0) e (f.leads (get_or t x 0) (omega arith)))

  -- the next node is new: it leads to itself
  sprout : m < length t → Forest (suc m) l (set t m m)
  sprout h =
      let s = f.sized in
      record {
        sized = rw length-set s;
        room = rw length-set h;
        labels = record { low = f.labels.low; new = λ k b. f.labels.new k (omega arith) };
        leads = leads_set l (suc m) m m t h (leads_self l m (f.labels.new m (le_refl m) (omega arith)))
            (λ k b n. f.leads k (omega arith));
      }

-- The labels with a and b made one: x is the larger of the two, y the smaller.
module _ (l : List ℕ) (a b x y : ℕ) (p : x ≡ max a b) (q : y ≡ min a b) where
  lower_larger : lower a b x ≡ y
  lower_larger = ⊎_elim (λ d. omega arith) (λ d. omega arith) (lower_cases a b x)

  lower_smaller : lower a b y ≡ y
  lower_smaller = ⊎_elim (λ d. omega arith) (λ d. omega arith) (lower_cases a b y)

  -- every node but the larger keeps its entry
  leads_lower : (k e : ℕ) → k ≢ x → Leads l k e → Leads (map (lower a b) l) k e
  leads_lower k e n f =
      let s = f.same in
      record {
        down = f.down;
        same = cc (get_or_lower a b l e, get_or_lower a b l k);
        root = λ d.
            let r = f.root d in
            rw get_or_lower (⊎_elim (λ d. omega arith) (λ d. omega arith) (lower_cases a b (get_or l k 0)));
      }

  -- the larger leads to a node whose label is the smaller
  leads_larger : (e : ℕ) → e ≤ x → get_or l x 0 ≡ x → get_or l e 0 ≡ y → Leads (map (lower a b) l) x e
  leads_larger e d u v =
      record {
        down = d;
        same = cc (get_or_lower a b l x, get_or_lower a b l e, lower_larger, lower_smaller);
        root = λ d. cc (get_or_lower a b l x, lower_larger);
      }

  labels_lower : (m : ℕ) → x < m → Labels m l → Labels m (map (lower a b) l)
  labels_lower m h f =
      record {
        low = λ k. rw get_or_lower (omega (arith, lower_le a b (get_or l k 0), f.low k));
        new = λ k d n.
            let e = f.new k d (rw length-map at n) in
            rw (get_or_lower, e) (lower_other a b k (omega arith) (omega arith));
      }

  pub linked : (m : ℕ) (t : List ℕ) → Forest m l t → x < m → (e : ℕ) → e ≤ x → get_or l x 0 ≡ x → get_or l e 0 ≡ y
      → Forest m (map (lower a b) l) (set t x e)
  linked m t f h e d u v =
      let r = f.room in
      record {
        sized = rw (length-set, length-map) f.sized;
        room = rw length-set f.room;
        labels = labels_lower m h f.labels;
        leads = leads_set (map (lower a b) l) m x e t (omega arith) (leads_larger e d u v)
            (λ k d n. leads_lower k (get_or t k 0) n (f.leads k d));
      }

-- On the way from a node to its root.
pub record Halved (i : ℕ) (t u : List ℕ) (x : ℕ) : Type 0 where
  pub kept : (p : Planted i t) → Forest p.nodes p.labels u
  pub same : (p : Planted i t) → get_or p.labels x 0 ≡ get_or p.labels i 0
  pub early : x ≤ i

pub halved_none : (i : ℕ) (t : List ℕ) → Halved i t t i
halved_none i t = record { kept = λ p. p.forest; same = λ p. refl; early = le_refl i }

module _ (i : ℕ) (t u : List ℕ) (x : ℕ) (h : Halved i t u x) (p : Planted i t) where
  halved_below : x < p.nodes
  halved_below = omega (arith, h.early, p.below)

  halved_leads : Leads p.labels x (get_or u x 0)
  halved_leads = (h.kept p).leads x halved_below

  halved_past : Leads p.labels x (get_or u (get_or u x 0) 0)
  halved_past =
      leads_then p.labels x (get_or u x 0) (get_or u (get_or u x 0) 0) halved_leads
      ((h.kept p).leads (get_or u x 0) (omega (arith, halved_leads.down, halved_below)))

  -- the table keeps its length
  pub halved_long : length u ≡ length t
  halved_long = sym (h.kept p).sized ∙ p.forest.sized

  -- the node, its entry and the entry of that are nodes
  pub halved_room : x < length u
  halved_room = omega (arith, (h.kept p).room, halved_below)

  pub halved_up : get_or u x 0 ≤ x
  halved_up = halved_leads.down

  -- each step leads down
  pub halved_less : get_or u x 0 ≢ x → get_or u (get_or u x 0) 0 < x
  halved_less n =
      let e = halved_up in
      omega (arith, ((h.kept p).leads (get_or u x 0) (omega (arith, halved_below))).down)

  -- a node that leads to itself is the root
  pub halved_found : get_or u x 0 ≡ x → Found p.nodes p.labels i u x
  halved_found e =
      let r = halved_leads.root e in
      record { forest = h.kept p; label = sym r ∙ h.same p; root = r }

pub halved_again : (i : ℕ) (t u : List ℕ) (x : ℕ) → Halved i t u x → Planted i t
    → Halved i t (set u x (get_or u (get_or u x 0) 0)) (get_or u (get_or u x 0) 0)
halved_again i t u x h o =
    record {
      kept = λ p. halve p.nodes p.labels u (h.kept p) x (halved_below i t u x h p);
      same = λ p. (halved_past i t u x h p).same ∙ h.same p;
      early = omega (arith, h.early, (halved_past i t u x h o).down);
    }

-- A node up to i of a forest with i as its last node.
abbrev planted : (i j : ℕ) (l t : List ℕ) → j ≤ i → Forest (suc i) l t → Planted j t
planted i j l t d f = record { nodes = suc i; labels = l; below = omega arith; forest = f }

abbrev entry : ℕ → ℕ → List ℕ → ℕ
entry i j t = get_or (set t i i) j 0

-- Node i more, in one tree with j and k: it sprouts and leads to the entry of j. Where the entry of k differs, the roots x and
-- y of the two entries are linked, and it leads to the smaller.
module _ (i j k : ℕ) (t : List ℕ) (g : Grown i t) (h : i < length t) (d : j ≤ i) (e : k ≤ i) where
  sprouted : Forest (suc i) g.labels (set t i i)
  sprouted = sprout i g.labels t g.forest h

  own : get_or g.labels i 0 ≡ i
  own = let s = g.forest.sized in g.forest.labels.new i (le_refl i) (omega arith)

  leads_first : Leads g.labels j (entry i j t)
  leads_first = sprouted.leads j (omega arith)

  leads_second : Leads g.labels k (entry i k t)
  leads_second = sprouted.leads k (omega arith)

  pub first_entry_le : entry i j t ≤ i
  first_entry_le = omega (arith, leads_first.down)

  pub second_entry_le : entry i k t ≤ i
  second_entry_le = omega (arith, leads_second.down)

  pub led : Forest (suc i) (tie i j g.labels) (set (set t i i) i (entry i j t))
  unfolding tie
  led =
      let l = g.labels in
      let r = get_or l j 0 in
      let s : r ≤ i = omega (arith, g.forest.labels.low j) in
      rw own
      (linked l i r i r (omega arith) (omega arith) (suc i) (set t i i) sprouted (le_refl (suc i))
      (entry i j t) first_entry_le own leads_first.same)

  -- the entries have the labels of i and k
  label_first : get_or (tie i j g.labels) (entry i j t) 0 ≡ get_or (tie i j g.labels) i 0
  label_first = tie_same i j g.labels (entry i j t) j leads_first.same ∙ sym (tie_one i j g.labels)

  label_second : get_or (tie i j g.labels) (entry i k t) 0 ≡ get_or (tie i j g.labels) k 0
  label_second = tie_same i j g.labels (entry i k t) k leads_second.same

  -- where the entries are one, so are these labels
  pub tied_alike : entry i j t ≡ entry i k t
      → Forest (suc i) (tie i k (tie i j g.labels)) (set (set t i i) i (entry i j t))
  tied_alike o =
      let l = tie i j g.labels in
      let s : get_or l i 0 ≡ get_or l k 0 = cc (label_first, label_second) in
      rw (tie_idle i k l s) led

  abbrev pub led_planted : Planted (entry i j t) (set (set t i i) i (entry i j t))
  led_planted = planted i (entry i j t) (tie i j g.labels) (set (set t i i) i (entry i j t)) first_entry_le led

  module _ (u : List ℕ) (x : ℕ) (f : Found (suc i) (tie i j g.labels) (entry i j t) u x) where
    abbrev pub found_planted : Planted (entry i k t) u
    found_planted = planted i (entry i k t) (tie i j g.labels) u second_entry_le f.forest

    module _ (v : List ℕ) (y : ℕ) (c : Found (suc i) (tie i j g.labels) (entry i k t) v y) where
      roots_below : (x < suc i) × (y < suc i)
      roots_below =
          let w = c.forest.labels.low in
          omega (arith, first_entry_le, second_entry_le, f.label, c.label, w (entry i j t), w (entry i k t))

      pub roots_room : (x < length v) × (y < length v)
      roots_room = omega (arith, roots_below, c.forest.room)

      -- the labels of i and k are the two roots
      roots_tied : tie i k (tie i j g.labels) ≡ map (lower x y) (tie i j g.labels)
      unfolding tie
      roots_tied = rw (← label_first, ← label_second, f.label, c.label)

      -- of which i may lead to the smaller
      leads_smaller : (r : ℕ) → r ≡ min x y → Leads (map (lower x y) (tie i j g.labels)) i r
      leads_smaller r o =
          let l = tie i j g.labels in
          let p = lower_smaller l x y (max x y) r refl o in
          leads_root (map (lower x y) l) i r (omega (arith, roots_below))
          (cc (get_or_lower x y l i, label_first, f.label, lower_left x y))
          (cc (get_or_lower x y l r, smaller_root l x y r o f.root c.root))

      pub tied : (w : List ℕ) (r : ℕ) → r ≡ min x y
          → ((m : ℕ) (l : List ℕ) → Forest m l v → x < m → y < m → get_or l x 0 ≡ x → get_or l y 0 ≡ y
          → Forest m (map (lower x y) l) w)
          → Forest (suc i) (tie i k (tie i j g.labels)) (set w i r)
      tied w r o q =
          let l = tie i j g.labels in
          let s = q (suc i) l c.forest roots_below.0 roots_below.1 f.root c.root in
          rw roots_tied (led_anew (suc i) (map (lower x y) l) w s i r (le_refl (suc i)) (leads_smaller r o))

-- One of j and k that is node i itself is stood in for by the other.
pub instead_le : (i j k r : ℕ) → j ≤ i → k ≤ i → r ≡ cond (eqb j i) k j → r ≤ i
instead_le i j k r d e p = go (eqb j i) p
  where
    go : (b : Bool) → r ≡ cond b k j → r ≤ i
    go true q = omega arith
    go false q = omega arith

tie_instead : (i j k : ℕ) (l : List ℕ) → tie i (cond (eqb k i) j k) (tie i (cond (eqb j i) k j) l) ≡ tie i k (tie i j l)
tie_instead i j k l = go (eqb j i) (eqb k i) refl refl
  where
    go : (b c : Bool) → eqb j i ≡ b → eqb k i ≡ c → tie i (cond c j k) (tie i (cond b k j) l) ≡ tie i k (tie i j l)
    go true true p q = rw (eqb-true j i p, eqb-true k i q)
    go true false p q = rw (eqb-true j i p, tie_idle i i l refl) (tie_again i k l)
    go false true p q = rw (eqb-true k i q, tie_idle i i (tie i j l) refl) (tie_again i j l)
    go false false p q = refl

pub tied_instead : (i j k x y m : ℕ) (l t : List ℕ) → x ≡ cond (eqb j i) k j → y ≡ cond (eqb k i) j k
    → Forest m (tie i y (tie i x l)) t → Forest m (tie i k (tie i j l)) t
tied_instead i j k x y m l t p q f = rw (p, q, tie_instead i j k l) at f

-- On the way to a table of labels.
pub record Flattened (t u : List ℕ) (i : ℕ) : Type 0 where
  pub kept : (g : Grown (length t) t) → Forest (length t) g.labels u
  pub done : (g : Grown (length t) t) (k : ℕ) → k < i → get_or u k 0 ≡ get_or g.labels k 0
  pub early : i ≤ length t

pub flattened_none : (t : List ℕ) → Flattened t t 0
flattened_none t =
    record { kept = λ g. g.forest; done = λ g k h. absurd (not-suc-le-zero h); early = zero-le }

module _ (t u : List ℕ) (i : ℕ) (f : Flattened t u i) (g : Grown (length t) t) where
  -- the table keeps its length
  pub flattened_long : length u ≡ length t
  flattened_long = sym (f.kept g).sized ∙ g.forest.sized

  pub flattened_up : i < length t → get_or u i 0 ≤ i
  flattened_up h = ((f.kept g).leads i h).down

  -- the entry of an entry is the label: a lower node leads to its root already
  flattened_label : i < length t → get_or u (get_or u i 0) 0 ≡ get_or g.labels i 0
  flattened_label h = go (eq-or-lt_of_le ((f.kept g).leads i h).down)
    where
      go : (get_or u i 0 ≡ i) ⊎ (get_or u i 0 < i) → get_or u (get_or u i 0) 0 ≡ get_or g.labels i 0
      go (inl p) = rw (p, p) (sym (((f.kept g).leads i h).root p))
      go (inr p) = f.done g (get_or u i 0) p ∙ ((f.kept g).leads i h).same

  flattened_done : i < length t → (k : ℕ) → k < i + 1
      → get_or (set u i (get_or u (get_or u i 0) 0)) k 0 ≡ get_or g.labels k 0
  flattened_done h k b =
      ⊎_elim (λ p. rw (p.1, p.0) (flattened_label h)) (λ p. p.1 ∙ f.done g k (omega arith))
      (set_cases u i (get_or u (get_or u i 0) 0) k (omega (arith, flattened_long)))

  -- at the end the table is that of the labels
  pub flattened_all : length t ≤ i → u ≡ g.labels
  flattened_all h =
      ext_get_or 0 u g.labels (sym (f.kept g).sized) (λ k b. f.done g k (omega (arith, flattened_long)))

pub flattened_again : (t u : List ℕ) (i : ℕ) → Flattened t u i → i < length t
    → Flattened t (set u i (get_or u (get_or u i 0) 0)) (i + 1)
flattened_again t u i f h =
    record {
      kept = λ g. halve (length t) g.labels u (f.kept g) i h;
      done = λ g. flattened_done t u i f g h;
      early = omega arith;
    }
