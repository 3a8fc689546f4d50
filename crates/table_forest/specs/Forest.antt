-- A forest of nodes in a table, with the labels that it stands for: a label is the least node of a tree.
--   Leads l k e     == e is no greater than k and has the label of k; where it is k, k is its own label
--   Labels m l      == no label is greater than its node, and each node from m on is its own label
--   Forest m l t    == each node below m has an entry in t that leads on by the labels l
--   Grown m t       == t is a forest of some labels, with m nodes
--   Planted i t     == t is a forest of some labels, and i is one of its nodes
--   Found m l i t r == t is a forest of the labels l, and r is the root of node i
use Rattle.std.specs.Prelude.{◌≡◌, List, ℕ, ◌≤◌, ◌<◌, length, get_or}

pub record Leads (l : List ℕ) (k e : ℕ) : Type 0 where
  pub down : e ≤ k
  pub same : get_or l e 0 ≡ get_or l k 0
  pub root : e ≡ k → get_or l k 0 ≡ k

pub record Labels (m : ℕ) (l : List ℕ) : Type 0 where
  pub low : (k : ℕ) → get_or l k 0 ≤ k
  pub new : (k : ℕ) → m ≤ k → k < length l → get_or l k 0 ≡ k

pub record Forest (m : ℕ) (l t : List ℕ) : Type 0 where
  pub sized : length l ≡ length t
  pub room : m ≤ length t
  pub labels : Labels m l
  pub leads : (k : ℕ) → k < m → Leads l k (get_or t k 0)

pub record Grown (m : ℕ) (t : List ℕ) : Type 0 where
  pub labels : List ℕ
  pub forest : Forest m labels t

pub record Planted (i : ℕ) (t : List ℕ) : Type 0 where
  pub nodes : ℕ
  pub labels : List ℕ
  pub below : i < nodes
  pub forest : Forest nodes labels t

pub record Found (m : ℕ) (l : List ℕ) (i : ℕ) (t : List ℕ) (r : ℕ) : Type 0 where
  pub forest : Forest m l t
  pub label : r ≡ get_or l i 0
  pub root : get_or l r 0 ≡ r
