-- A card that is not refused is the card of its number and its content, and such a card is not refused.
--   card k c        == the card numbered k with the content c
use mathlib.Core.Path.{◌≡◌, refl, sym, ap, ◌∙◌}
use mathlib.Core.Bool.{Bool, true, false, cond}
use mathlib.Core.List.{List, [], ◌∷◌, ◌++◌, append_assoc}
use Prim.Native.Nat.{ℕ, suc, ◌+◌, ◌*◌, ◌-◌, ◌≤◌, ◌<◌}
use native.Mathlib.Omega.{arith}
use lib.Dec.{T, eqb, ltb, lit<}
use lib.ListN.{length, get_or, take, drop, replicate, length-drop, take-append-drop, drop_of_length-le}
use lib.Seq.{slice, take_at, drop_at, length-take-le, drop-cons, take-take}
use borrow.Author.Tests.{ne_eqb}
use Rattle.laws.specs.Equal.{equal}
use Rattle.laws.proofs.Equal.{equal_true, equal_own}
use Rattle.laws.proofs.Test.{and_right}
use Rattle.sheet_size.specs.Size.{within}
use Rattle.sheet_size.proofs.Limit.{within_limits}
use Rattle.laws.specs.Every.{every}
use Rattle.deck_card.specs.Card.{columns, places, long, blank, feed, visible, digit, digits, padded, card}
use Rattle.deck_card.specs.Card.{whole}
use Rattle.deck_card.proofs.Parts.{is_whole, whole_is}
use Rattle.deck_layout.specs.Layout.{wide, laid, heading}
use Rattle.deck_card.proofs.Cards.{length_card, card_content, card_feed, card_columns, card_number}
use Rattle.deck_card.proofs.Every.{every_blank, every_blanks}
use Rattle.deck_layout.proofs.Headings.{length_laid, laid_fits, heading_fits}
use Rattle.deck_layout.proofs.Sizes.{narrow_most}
use Rattle.deck_faults.specs.Fault.{bears, form, value, wide_form, width, height, headed, header, row}
use Rattle.deck_faults.proofs.Forms.{header_is, header_form, header_headed, row_is, row_none, form_none}

-- A card with a content that fits it.
module _ (k : ℕ) (c : List ℕ) (fits : length c ≤ columns) where
  pub card_whole : whole (card k c) ≡ true
  unfolding long
  card_whole =
      is_whole (card k c) (record {
        length_is = length_card k c fits;
        feed_is = card_feed k c fits (columns + places) (omega arith) (omega arith);
      })

  pub card_formed : form k (card k c) ≡ 0
  unfolding form bears long
  card_formed =
      let n : length (card k c) ≡ 0 → ⊥ = λ e. omega (arith, length_card k c fits) in
      rw (ne_eqb (length (card k c)) 0 n, card_whole, card_number k c fits, equal_own)

  -- its cells, and the blanks after them
  pub card_cells : take (length c) (card k c) ≡ c
  unfolding card padded
  card_cells = ap (take (length c)) (append_assoc c _ _) ∙ take_at c _ (length c) refl

  pub card_blanks : slice (length c) columns (card k c) ≡ replicate (columns - length c) blank
  unfolding padded
  card_blanks = ap (drop (length c)) (card_columns k c fits) ∙ drop_at c _ (length c) refl

  -- with cells that may stand on it it is not refused
  pub card_row : every visible c ≡ true → row (length c) k (card k c) ≡ 0
  card_row v = rw (row_is (length c) k (card k c) card_formed, card_cells, v, card_blanks, every_blanks)

-- A card whose form is not refused: its content's columns, its number, the line feed.
pub formed_is : (k : ℕ) (c : List ℕ) → form k c ≡ 0 → c ≡ take columns c ++ (digits places k ++ (feed ∷ []))
unfolding bears long
formed_is k c e =
    let f = form_none k c e in
    let q = whole_is c f.whole_is in
    let n = q.length_is in
    let none = drop_of_length-le c {i = suc (columns + places)} (omega arith) in
    let last = drop-cons c (columns + places) 0 (omega arith) ∙ (λ i. q.feed_is i ∷ none i) in
    let front =
    sym (take-append-drop columns (take (columns + places) c))
    ∙ (λ i. take-take columns (columns + places) c (omega arith) i ++ equal_true _ _ f.number_is i) in
    sym (take-append-drop (columns + places) c) ∙ (λ i. front i ++ last i)
    ∙ append_assoc (take columns c) (digits places k) (feed ∷ [])

-- a row's card that is not refused
pub row_card : (w k : ℕ) (c : List ℕ) → w ≤ columns → row w k c ≡ 0 → c ≡ card k (take w c)
unfolding card padded long
row_card w k c h e =
    let r = row_none w k c e in
    let n = (whole_is c (form_none k c r.form_is).whole_is).length_is in
    let m = length-take-le columns c (omega arith) in
    let a = length-take-le w c (omega arith) in
    let b : length (slice w columns c) ≡ columns - length (take w c) = length-drop w (take columns c) ∙ omega arith in
    let content =
    sym (take-append-drop w (take columns c))
    ∙ (λ i. take-take w columns c h i ++ every_blank (slice w columns c) r.blanks_are i)
    ∙ ap (λ x. take w c ++ replicate x blank) b in
    formed_is k c r.form_is ∙ ap (λ x. x ++ (digits places k ++ (feed ∷ []))) content

-- Digits are read as they are written.
two_digits : (n : ℕ) → n < 100 → 10 * (digit n 1 - 48) + (digit n 0 - 48) ≡ n
unfolding digit
two_digits n h = omega arith

three_digits : (n : ℕ) → n < 1000 → 10 * (10 * (digit n 2 - 48) + (digit n 1 - 48)) + (digit n 0 - 48) ≡ n
unfolding digit
three_digits n h = omega arith

-- A header whose columns are laid out in a form names the width and the height.
module _ (b : Bool) (w h : ℕ) where
  laid_at : (i : ℕ) → T (ltb i 11) → get_or (card 1 (laid b w h)) i 0 ≡ get_or (laid b w h) i 0
  laid_at i n = card_content 1 (laid b w h) (laid_fits b w h) i (rw length_laid (lit< n))

  -- the column that tells its form
  laid_form : wide_form (card 1 (laid b w h)) ≡ b
  unfolding wide_form laid blank
  laid_form = rw (laid_at 5 tt) (go b)
    where
      go : (b : Bool) → eqb (get_or (laid b w h) 5 0) 50 ≡ b
      go true = refl
      go false = refl

laid_width : (b : Bool) (w h : ℕ) → w < cond b 1000 100 → width (card 1 (laid b w h)) ≡ w
unfolding width value laid digits
laid_width true w h n =
    rw (laid_form true w h, laid_at true w h 6 tt, laid_at true w h 7 tt, laid_at true w h 8 tt) (three_digits w n)
laid_width false w h n =
    rw (laid_form false w h, laid_at false w h 6 tt, laid_at false w h 7 tt) (two_digits w n)

laid_height : (b : Bool) (w h : ℕ) → h < 100 → height (card 1 (laid b w h)) ≡ h
unfolding height value laid digits
laid_height true w h n =
    rw (laid_form true w h, laid_at true w h 9 tt, laid_at true w h 10 tt) (two_digits h n)
laid_height false w h n =
    rw (laid_form false w h, laid_at false w h 8 tt, laid_at false w h 9 tt) (two_digits h n)

-- The header of a sheet of a size that is one.
module _ (w h : ℕ) (size : within w h ≡ true) where
  pub heading_width : width (card 1 (heading w h)) ≡ w
  unfolding heading columns
  heading_width = laid_width (wide w) w h (go (wide w) refl)
    where
      go : (b : Bool) → wide w ≡ b → w < cond b 1000 100
      go true e = omega (arith, (within_limits w h size).width_most)
      go false e = omega (arith, narrow_most w e)

  pub heading_height : height (card 1 (heading w h)) ≡ h
  unfolding heading
  heading_height = laid_height (wide w) w h (omega (arith, (within_limits w h size).height_most))

  -- it is not refused
  pub heading_header : header (card 1 (heading w h)) ≡ 0
  unfolding headed
  heading_header =
      let c = heading w h in
      let formed = header_is (card 1 c) (card_formed 1 c (heading_fits w h)) in
      rw (formed, heading_width, heading_height, size, card_columns 1 c (heading_fits w h), equal_own)

-- a header that is not refused
pub header_card : (c : List ℕ) → header c ≡ 0 → c ≡ card 1 (heading (width c) (height c))
unfolding card headed
header_card c e =
    let w = width c in
    let h = height c in
    let p = and_right (within w h) (equal (take columns c) (padded (heading w h))) (header_headed c e) in
    formed_is 1 c (header_form c e)
    ∙ ap (λ x. x ++ (digits places 1 ++ (feed ∷ []))) (equal_true (take columns c) (padded (heading w h)) p)
