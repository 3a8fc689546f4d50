-- Column x and row of place i in rows of w.
use mathlib.Core.Path.{◌≡◌, sym, ap, ◌∙◌}
use mathlib.Core.Logic.{◌≢◌}
use Prim.Native.Nat.{ℕ, ◌+◌, ◌*◌, ◌/◌, ◌%◌, ◌<◌}
use native.Mathlib.Nat.{
  mod-lt,
  mod_self,
  mod-eq_of_lt,
  mod-add-mod,
  div_self,
  div-eq_of_lt,
  div-add-mod',
  mul-add-div_right,
}
use native.Mathlib.Omega.{arith}

-- The place after place i.
module _ (w : ℕ) (pos : 0 < w) (i x : ℕ) (e : x ≡ i % w) where
  next_row : (i + 1) / w ≡ i / w + (x + 1) / w
  next_row =
      let p : i + 1 ≡ i / w * w + (x + 1) = omega (arith, div-add-mod' i w) in
      ap (λ k. k / w) p ∙ mul-add-div_right pos (i / w) (x + 1)

  next_column : (i + 1) % w ≡ (x + 1) % w
  next_column = rw e (sym (mod-add-mod i w 1))

  -- in the row
  pub column_on : x + 1 ≢ w → x + 1 ≡ (i + 1) % w
  column_on n =
      let h : x + 1 < w = omega (arith, mod-lt i pos) in
      sym (next_column ∙ mod-eq_of_lt h)

  pub row_on : x + 1 ≢ w → i / w ≡ (i + 1) / w
  row_on n =
      let h : x + 1 < w = omega (arith, mod-lt i pos) in
      omega (arith, next_row, div-eq_of_lt h)

  -- at its end
  pub column_back : x + 1 ≡ w → 0 ≡ (i + 1) % w
  column_back p = sym (next_column ∙ ap (λ k. k % w) p ∙ mod_self w)

  pub row_down : x + 1 ≡ w → i / w + 1 ≡ (i + 1) / w
  row_down p = omega (arith, next_row, ap (λ k. k / w) p, div_self pos)
