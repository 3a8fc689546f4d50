-- The content of a header: eleven bytes.
--   heading w h     == columns 1 to 11 of the header of a sheet of width w and height h
--   laid b w h      == the same, in the wide form where b is true, else in the other
use mathlib.Core.Path.{◌≡◌, refl}
use mathlib.Core.Bool.{Bool, true, false}
use mathlib.Core.List.{List, [], ◌∷◌, ◌++◌}
use Prim.Native.Nat.{ℕ, zero, suc, ◌/◌, ◌≤◌, ◌<◌}
use native.Mathlib.Omega.{arith}
use lib.Dec.{T, ltb, lit<}
use lib.ListN.{length, get_or}
use Rattle.deck_card.specs.Card.{columns, blank, digit, digits}
use Rattle.deck_layout.specs.Layout.{wide, laid, heading}

pub length_laid : (b : Bool) (w h : ℕ) → length (laid b w h) ≡ 11
unfolding laid digits
length_laid true w h = refl
length_laid false w h = refl

pub laid_fits : (b : Bool) (w h : ℕ) → length (laid b w h) ≤ columns
unfolding columns
laid_fits b w h = rw length_laid (omega arith)

pub heading_fits : (w h : ℕ) → length (heading w h) ≤ columns
unfolding heading
heading_fits w h = laid_fits (wide w) w h

digit_byte : (n k : ℕ) → digit n k < 256
unfolding digit
digit_byte n zero = omega arith
digit_byte n (suc k) = digit_byte (n / 10) k

-- entries that are bytes
record Bytes (l : List ℕ) : Type 0 where
  byte : (i : ℕ) → get_or l i 0 < 256

bytes_none : Bytes []
bytes_none = record { byte = λ i. omega arith }

bytes_cons : {x : ℕ} {l : List ℕ} → x < 256 → Bytes l → Bytes (x ∷ l)
bytes_cons {x} {l} h k = record { byte = at }
  where
    at : (i : ℕ) → get_or (x ∷ l) i 0 < 256
    at zero = h
    at (suc i) = k.byte i

bytes_digits : (k n : ℕ) {l : List ℕ} → Bytes l → Bytes (digits k n ++ l)
unfolding digits
bytes_digits zero n b = b
bytes_digits (suc k) n b = bytes_cons (digit_byte n k) (bytes_digits k n b)

pub heading_bytes : (w h i : ℕ) → get_or (heading w h) i 0 < 256
unfolding heading laid blank digits
heading_bytes w h i = (all (wide w)).byte i
  where
    letter : {x : ℕ} {l : List ℕ} → T (ltb x 256) → Bytes l → Bytes (x ∷ l)
    letter t b = bytes_cons (lit< t) b

    sheet : {l : List ℕ} → Bytes l → Bytes (83 ∷ 72 ∷ 69 ∷ 69 ∷ 84 ∷ l)
    sheet b = letter tt (letter tt (letter tt (letter tt (letter tt b))))

    all : (b : Bool) → Bytes (laid b w h)
    all true = sheet (letter tt (bytes_digits 3 w (bytes_digits 2 h bytes_none)))
    all false = sheet (letter tt (bytes_digits 2 w (bytes_digits 2 h (letter tt bytes_none))))
