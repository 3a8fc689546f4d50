-- What is judged before the entries of a list.
--   judged k b      == the number after a check with the number k, where b says that the list may be lent: 12 comes after 4 and before
--                      what the check finds later
use Rattle.std.specs.Prelude.{Bool, cond, ◌&&◌, ℕ, leb}

unfoldable pub judged : ℕ → Bool → ℕ
judged k b = cond (leb 1 k && leb k 4) k (cond b k 12)

-- the same where something else is judged, which is refused with n where b says that it is not right
unfoldable pub judged_or : ℕ → Bool → ℕ → ℕ
judged_or k b n = cond (leb 1 k && leb k 4) k (cond b k n)
