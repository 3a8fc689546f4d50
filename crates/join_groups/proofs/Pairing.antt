-- Two names, judged where groups stand for a drawing, and put together.
--   Standing ..     == groups stand for the drawing u
--   Chosen c a b    == by the cells c the names a and b are those of two regions, neither the outside
use mathlib.Core.Path.{◌≡◌, refl, sym, ap, subst, ◌∙◌, fun_ext}
use mathlib.Core.Bool.{true, false}
use mathlib.Core.List.{List, map}
use mathlib.Core.Logic.{◌≢◌}
use Prim.Native.Nat.{ℕ, zero, suc, ◌+◌, ◌*◌, ◌-◌, ◌≤◌, ◌<◌}
use native.Mathlib.Decide.{ℕ_discrete}
use native.Mathlib.Omega.{arith}
use lib.ListN.{length, get_or}
use Rattle.std.specs.Prelude.{Ok}
use Rattle.laws.specs.First.{first_failed}
use Rattle.laws.specs.Least.{lower}
use Rattle.laws.proofs.Least.{lower_comm}
use Rattle.point_darts.specs.Dart.{mark}
use Rattle.paper.specs.Name.{names}
use Rattle.paper.specs.Total.{cells_of, total}
use Rattle.paper.specs.Drawing.{Tables, drawn, drawing}
use Rattle.paper.specs.Joining.{at, added, joined}
use Rattle.paper.specs.Refusal.{used, adjoin, name_tests, pair_tests}
use Rattle.paper.specs.Sitting.{Joinable}
use Rattle.paper_laws.proofs.Marks.{slots_most, cells_slots}
use Rattle.paper_laws.proofs.Added.{cells_most, total_used, total_unused, at_totals}
use Rattle.paper_laws.proofs.InUse.{used_cells, pair_cells}
use Rattle.answer.specs.Answer.{number_of}
use Rattle.table_entries.proofs.Entries.{on_no_mark}
use Rattle.table_forest.specs.Forest.{Forest}
use Rattle.region_darts.specs.Lists.{Of, Lists}
use Rattle.join_answer.specs.Asked.{asked}
use Rattle.join_answer.proofs.Asking.{asked_named, asked_apart, asked_done}
use Rattle.join_groups.specs.Group.{group_of, Standing}
use Rattle.join_groups.proofs.Grouping.{group_lower, grouped_joined}
use Rattle.join_groups.proofs.Standing.{Chosen, room, standing_drawn, name_below, first_cell, some_dart, side_long}

done_none : number_of {T = Unit {0}} (Ok tt) ≡ 0
unfolding number_of
done_none = refl

module _ (w h : ℕ) (s c n t f e : List ℕ) (u : Tables) (v : Standing w h s c n t f e u) where
  -- a region in use has no more cells than the sheet
  count_below : (a : ℕ) → a ≢ 0 → used c a ≡ true → at c a ≤ w * h
  unfolding used drawing drawn
  count_below a z q = by (ℕ_discrete (k a) 0)
    where
      k : ℕ → ℕ
      k = cells_of w h (names w h v.grouped.after)

      here : at c a ≡ total k k a
      here =
          ap (λ l. at l a) (sym v.cells ∙ ap (λ (u : Tables). u.cells) (sym v.grouped.same))
          ∙ at_totals w h k k a (name_below w h s c n t f e u v a q)

      by : Dec (k a ≡ 0) → at c a ≤ w * h
      by (yes i) = absurd (on_no_mark c a q (here ∙ total_unused k k a z i))
      by (no i) = rw (here ∙ total_used k k a i) (cells_most w h (names w h v.grouped.after) a)

  module _ (a b : ℕ) where
    -- the number
    told : (k : ℕ) → k ≡ asked (Ok tt) w h u.side1 c a b → k ≡ first_failed (pair_tests w h u.side1 u.parent a b)
    unfolding asked number_of
    told k q =
        q ∙ ap (λ l. first_failed (pair_tests w h u.side1 l a b)) (sym v.cells)
        ∙ pair_cells w h (room w h s c n t f e u v) u (standing_drawn w h s c n t f e u v) a b

    pub pair_named : (k : ℕ) → k ≡ first_failed (name_tests c a b) → k ≢ 0 → k ≡ first_failed (pair_tests w h u.side1 u.parent a b)
    pair_named k q z = told k (asked_named (Ok tt) w h u.side1 c a b done_none k q z)

    module _ (q : 0 ≡ first_failed (name_tests c a b)) where
      pub pair_apart : false ≡ adjoin w h u.side1 a b → 9 ≡ first_failed (pair_tests w h u.side1 u.parent a b)
      pair_apart i = told 9 (asked_apart (Ok tt) w h u.side1 c a b done_none q i)

      pub pair_done : true ≡ adjoin w h u.side1 a b → 0 ≡ first_failed (pair_tests w h u.side1 u.parent a b)
      pair_done i = told 0 (asked_done (Ok tt) w h u.side1 c a b done_none q i)

    -- what putting together asks
    pub pair_ready : Chosen c a b → (a ≢ 0) × (b ≢ 0) × (a ≢ b) × (a ≤ length n) × (b ≤ length n) × (at c a + at c b ≤ mark)
    unfolding mark
    pair_ready k =
        let (x, y) = k.inner in
        let (p, q) = k.here in
        let i = name_below w h s c n t f e u v in (
          x,
          y,
          k.apart,
          rw v.noded (i a p),
          rw v.noded (i b q),
          omega (arith, count_below a x p, count_below b y q, slots_most w h v.size, cells_slots w h),
        )

  -- and what it leaves
  module _ (x y : ℕ) where
    abbrev a : ℕ
    a = suc x

    abbrev b : ℕ
    b = suc y

    joinable : Chosen c (suc x) (suc y) → adjoin w h u.side1 (suc x) (suc y) ≡ true → Joinable w h u (suc x) (suc y)
    joinable k i =
        let same : (r : ℕ) → r ≢ 0 → used c r ≡ true → used u.parent r ≡ true =
        λ r z q.
        sym (used_cells w h (room w h s c n t f e u v) u (standing_drawn w h s c n t f e u v) r z)
        ∙ ap (λ k. used k r) v.cells ∙ q in
        record {
          inner = k.inner;
          apart = k.apart;
          regions = (same a k.inner.0 k.here.0, same b k.inner.1 k.here.1);
          neighbours = i;
        }

    standing_suc : Chosen c (suc x) (suc y) → adjoin w h u.side1 (suc x) (suc y) ≡ true
        → (c₁ n₁ t₁ e₁ : List ℕ) → length c₁ ≡ length c → length n₁ ≡ length n → length t₁ ≡ length t → length e₁ ≡ length e
        → c₁ ≡ added (suc x) (suc y) 0 c
        → ((m : ℕ) (l : List ℕ) → Forest m l n → suc x ≤ m → suc y ≤ m → get_or l x 0 ≡ x → get_or l y 0 ≡ y
        → Forest m (map (lower x y) l) n₁)
        → ((s : List ℕ) (g : ℕ → ℕ) (d k : ℕ) → length s ≡ length t → suc x < length e → suc y < length e → length s ≤ mark
        → Of s g (suc x) d → Of s g (suc y) k → Lists s g t f e → Lists s (λ v. lower (suc x) (suc y) (g v)) t₁ f e₁)
        → Standing w h s c₁ n₁ t₁ f e₁ (joined w h u (suc x) (suc y))
    unfolding joined
    standing_suc k i c₁ n₁ t₁ e₁ lc ln lt le q o p =
        let l = v.groups in
        let (ua, ub) = k.here in
        let (d, i₁) = some_dart w h s c n t f e u v a k.inner.0 ua in
        let (d₂, i₂) = some_dart w h s c n t f e u v b k.inner.1 ub in
        let ba = name_below w h s c n t f e u v a ua in
        let bb = name_below w h s c n t f e u v b ub in
        let r = v.listed in
        record {
          size = v.size;
          sided = v.sided;
          noded = ln ∙ v.noded;
          listed = (lt ∙ r.0, r.1, le ∙ r.2);
          counted = lc ∙ v.counted;
          cells = ap (added a b 0) v.cells ∙ sym q;
          groups = map (lower x y) l;
          forest = o (w * h) l v.forest ba bb (first_cell w h s c n t f e u v x ua) (first_cell w h s c n t f e u v y ub);
          grouped = grouped_joined w h (room w h s c n t f e u v) s l u v.grouped x y (joinable k i);
          lists =
              subst (λ g. Lists s g t₁ f e₁) (fun_ext (group_lower l x y))
              (p s (group_of l) d d₂ (v.sided ∙ sym r.0) (omega (arith, r.2, ba, cells_slots w h))
              (omega (arith, r.2, bb, cells_slots w h)) (side_long w h s c n t f e u v) i₁ i₂ v.lists);
        }

  pub standing_joined : (a b : ℕ) → Chosen c a b → adjoin w h u.side1 a b ≡ true
      → (c₁ n₁ t₁ e₁ : List ℕ) → length c₁ ≡ length c → length n₁ ≡ length n → length t₁ ≡ length t → length e₁ ≡ length e
      → c₁ ≡ added a b 0 c
      → ((m : ℕ) (l : List ℕ) → Forest m l n → a ≤ m → b ≤ m → get_or l (a - 1) 0 ≡ a - 1 → get_or l (b - 1) 0 ≡ b - 1
      → Forest m (map (lower (a - 1) (b - 1)) l) n₁)
      → ((s : List ℕ) (g : ℕ → ℕ) (d k : ℕ) → length s ≡ length t → a < length e → b < length e → length s ≤ mark
      → Of s g a d → Of s g b k → Lists s g t f e → Lists s (λ v. lower a b (g v)) t₁ f e₁)
      → Standing w h s c₁ n₁ t₁ f e₁ (joined w h u a b)
  standing_joined zero b k = absurd (k.inner.0 refl)
  standing_joined (suc x) zero k = absurd (k.inner.1 refl)
  standing_joined (suc x) (suc y) k = λ i c₁ n₁ t₁ e₁ lc ln lt le q o.
      let p : suc x - 1 ≡ x = omega arith in
      let r : suc y - 1 ≡ y = omega arith in
      standing_suc x y k i c₁ n₁ t₁ e₁ lc ln lt le q (rw (p, r) at o)

pub lists_swap : (s : List ℕ) (g : ℕ → ℕ) (a b : ℕ) (t f e : List ℕ) → Lists s (λ v. lower b a (g v)) t f e
    → Lists s (λ v. lower a b (g v)) t f e
lists_swap s g a b t f e = subst (λ k. Lists s k t f e) (fun_ext (λ v. lower_comm b a (g v)))
