-- Going through a list, entry by entry.
--   Going w h l t b m u c n r i == after i entries of the list l, which led from the drawing t and the work tables b and m to the
--                      drawing u and the work tables c and n, the names r are left
use mathlib.Core.Path.{◌≡◌, refl, sym, ◌∙◌}
use mathlib.Core.Bool.{true}
use mathlib.Core.List.{List}
use mathlib.Core.Logic.{◌≢◌}
use Prim.Native.Nat.{ℕ, ◌+◌, ◌*◌, ◌-◌, ◌≤◌, ◌<◌}
use native.Mathlib.Omega.{arith}
use lib.ListN.{length, get_or, take, drop}
use Rattle.laws.specs.First.{first_failed}
use Rattle.laws.proofs.Table.{length_table}
use Rattle.paper.specs.Level.{tops}
use Rattle.paper.specs.Enclosure.{parent, parents}
use Rattle.paper.specs.Drawing.{Tables}
use Rattle.paper.specs.Joining.{at, on, joined}
use Rattle.paper.specs.Refusal.{sized, stated, pair_tests}
use Rattle.paper.specs.Order.{pairs, joins, stop}
use Rattle.paper_laws.proofs.Marks.{within_fits}
use Rattle.paper_laws.proofs.Order.{passed_joinable}
use Rattle.paper_laws.proofs.Theorem.{joined_again}
use Rattle.table_lengths.proofs.Tested.{stated_names, stated_slots}
use Rattle.join_rule.specs.Apply.{pair, found, Topped}
use Rattle.join_groups.proofs.Entries as Entries
use Rattle.join_list.specs.Each.{Open, Left}

pub record Going (w h : ℕ) (l : List ℕ) (t : Tables) (b m : List ℕ) (u : Tables) (c n r : List ℕ) (i : ℕ) : Type 0 where
  pub entries : Entries.Going w h l t u r i
  pub lent : Open w h u (pair c n)
  pub left : Left w h i t b m u c n

module _ (w h : ℕ) (l : List ℕ) (t : Tables) (b m : List ℕ) where
  pub going_start : Open w h t (pair b m) → Going w h l t b m t b m l 0
  going_start o =
      record {
        entries = Entries.going_start w h l t;
        lent = o;
        left = record { none = λ z. (refl, refl, refl); some = λ n. absurd (n refl) };
      }

  module _ (u : Tables) (c n r : List ℕ) (i : ℕ) (g : Going w h l t b m u c n r i) where
    -- past the last entry
    pub going_end : length r ≤ 1 → stop 0 i u ≡ joins w h 0 (pairs l) t
    going_end = Entries.going_end w h l t u r i g.entries

    module _ (e : 1 < length r) (k : ℕ) (f : k ≡ first_failed (pair_tests w h u.side1 u.parent (get_or r 0 0) (get_or r 1 0))) where
      -- the entry is refused, and all stays as it is
      pub going_stops : k ≢ 0 → (v : Tables) (d p : List ℕ) → (v ≡ u) × (d ≡ c) × (p ≡ n)
          → (stop k i v ≡ joins w h 0 (pairs l) t) × Left w h i t b m v d p
      going_stops z v d p (x, y, q) = (rw x (Entries.going_stops w h l t u r i g.entries e k f z), rw (x, y, q) g.left)

      -- it is joined
      pub going_on : k ≡ 0 → (v : Tables) (d p : List ℕ) → v ≡ joined w h u (get_or r 0 0) (get_or r 1 0) → Topped w h v.side1 d
          → stated w h v (pair d p) ≡ true → Going w h l t b m v d p (take (length r - 2) (drop 2 r)) (i + 1)
      going_on z v d p q a s =
          let o = g.lent in
          let j = passed_joinable w h u (get_or r 0 0) (get_or r 1 0) (sym f ∙ z) in
          record {
            entries = rw q (Entries.going_on w h l t u r i g.entries e k f z);
            lent = record { size = o.size; sizes = s; drawn = rw q (joined_again w h (within_fits w h o.size) o.drawn j) };
            left = record { none = λ y. absurd (omega (arith, y)); some = λ y. a };
          }

-- Tables that keep their lengths keep the stated ones, and such tables have the same lengths.
module _ (w h : ℕ) (x s y o c e b l x₁ s₁ y₁ o₁ c₁ e₁ b₁ l₁ : List ℕ)
    (z : stated w h (found w h x s y o c e) (pair b l) ≡ true) where
  pub found_stated : length x₁ ≡ length x → length s₁ ≡ length s → length y₁ ≡ length y → length o₁ ≡ length o
      → length c₁ ≡ length c → length e₁ ≡ length e → length b₁ ≡ length b → length l₁ ≡ length l
      → stated w h (found w h x₁ s₁ y₁ o₁ c₁ e₁) (pair b₁ l₁) ≡ true
  unfolding stated sized parents
  found_stated kx ks ky ko kc ke kb kl =
      rw (length_table (w * h + 1) (parent w (on s₁) (at s₁) (tops w h (on s₁))), kx, ks, ky, ko, kc, ke, kb, kl)
      (rw (length_table (w * h + 1) (parent w (on s) (at s) (tops w h (on s)))) at z)

  pub stated_same : stated w h (found w h x₁ s₁ y₁ o₁ c₁ e₁) (pair b₁ l₁) ≡ true
      → (length x₁ ≡ length x) × (length s₁ ≡ length s) × (length y₁ ≡ length y) × (length o₁ ≡ length o)
      × (length c₁ ≡ length c) × (length e₁ ≡ length e) × (length b₁ ≡ length b) × (length l₁ ≡ length l)
  stated_same z₁ =
      let p = stated_slots w h (found w h x s y o c e) (pair b l) z in
      let q = stated_slots w h (found w h x₁ s₁ y₁ o₁ c₁ e₁) (pair b₁ l₁) z₁ in
      let m = stated_names w h (found w h x s y o c e) (pair b l) z in
      let n = stated_names w h (found w h x₁ s₁ y₁ o₁ c₁ e₁) (pair b₁ l₁) z₁ in
      let p₄ = p.1.1.1.1 in
      let q₄ = q.1.1.1.1 in (
        q.0 ∙ sym p.0,
        q.1.0 ∙ sym p.1.0,
        q.1.1.0 ∙ sym p.1.1.0,
        q.1.1.1.0 ∙ sym p.1.1.1.0,
        n.1.0 ∙ sym m.1.0,
        n.1.1.0 ∙ sym m.1.1.0,
        q₄.0 ∙ sym p₄.0,
        q₄.1.0 ∙ sym p₄.1.0,
      )
