-- What each operation does to the words of a run and to the pool's cells. `base` is where its body's first word lies, `at` where its parts done lie, and `dest` where
-- its value is waited for.
use Rattle.std.specs.Prelude.{◌≡◌, ℕ, ◌+◌, ◌^◌, ◌<◌, ◌≤◌, cond, ◌≢◌, List, length, ◌==◌, slice_index, slice_index_or, slice_set}
use Rattle.std.specs.Int.{w32}
use Rattle.std.proofs.Common.{of_z, to_z}
use Rattle.lfpl.specs.Syntax as lfpl
use Rattle.meaning.specs.Act.{compute}
use Rattle.pool.specs.Pools.{Meaning, held, limit}
use Rattle.store.specs.Layout.{used, words_of}
use Rattle.code.specs.declared.Infix.{Infix}
use Rattle.code.specs.declared.Infix.TheVariants.{Plus, Minus, Times, Equal, AtMost}
use Rattle.code.specs.declared.Next.{Next}
use Rattle.code.specs.declared.Next.TheVariants.{Value, First, Second, Body}
use Rattle.code.specs.declared.Op.{Op}
use Rattle.code.specs.declared.Op.TheVariants.{Variable, Call, Constant, Apply, Guard, Pair, Split, Tag, CaseSum, Empty, Cons, CaseList, Fork, CaseTree}
use Rattle.acts.specs.Places.{Window, Above}

abbrev pub operator_of : Infix → lfpl.Infix
operator_of Plus = lfpl.plus
operator_of Minus = lfpl.minus
operator_of Times = lfpl.times
operator_of Equal = lfpl.equal
operator_of AtMost = lfpl.at_most

-- what an infix operation makes of two words in two's complement
abbrev pub applied : Infix → ℕ → ℕ → ℕ
applied o a b = of_z w32 (compute (operator_of o) (to_z w32 a) (to_z w32 b))

-- n words from i on are copied to the place j; what lay there from j on may be lost
pub record Copied (xs ys : List ℕ) (i j n : ℕ) : Type 0 where
  pub above : Above xs ys j
  pub there : Window xs i ys j n

-- the taken cell c begins with n of the words, from i on; no other cell is altered
pub record Kept (m : Meaning) (c : ℕ) (ws : List ℕ) (i n : ℕ) (m' : Meaning) : Type 0 where
  pub there : Window ws i (words_of m' c) 0 n
  pub taken : used m' c ≡ 1
  pub others : (d : ℕ) → d ≢ c → held m' d ≡ held m d
  pub count : m'.free ≡ m.free
  pub bound : limit m' ≡ limit m

-- the words from the place on are a mark and n words that stood at i
pub record Tagged (xs ys : List ℕ) (mark i dest n : ℕ) : Type 0 where
  pub above : Above xs ys dest
  pub mark_is : slice_index_or ys dest 0 ≡ mark
  pub there : Window xs i ys (dest + 1) n

-- a list's cell is opened: its words follow its number
pub record Opened (m : Meaning) (xs ys : List ℕ) (at n : ℕ) : Type 0 where
  pub above : Above xs ys (at + 1)
  pub there : Window (words_of m (slice_index xs at)) 0 ys (at + 1) n

-- a node that lay at the place is opened, where its label is n wide: the numbers of its two cells, its label, and the words of the two cells
pub record Spread (m : Meaning) (xs ys : List ℕ) (at n : ℕ) : Type 0 where
  pub above : Above xs ys at
  pub left_is : slice_index_or ys at 0 ≡ slice_index xs (at + 1 + n)
  pub right_is : slice_index_or ys (at + 1) 0 ≡ slice_index xs (at + 2 + n)
  pub label : Window xs (at + 1) ys (at + 2) n
  pub left : Window (words_of m (slice_index xs (at + 1 + n))) 0 ys (at + 2 + n) (n + 3)
  pub right : Window (words_of m (slice_index xs (at + 2 + n))) 0 ys (at + 2 + n + (n + 3)) (n + 3)

-- a node is built from two cells' numbers, a label that is n wide, and two subtrees
pub record Forked (m : Meaning) (xs : List ℕ) (at dest n : ℕ) (m' : Meaning) (ys : List ℕ) : Type 0 where
  pub between : Meaning
  pub left : Kept m (slice_index xs at) xs (at + 2 + n) (n + 3) between
  pub right : Kept between (slice_index xs (at + 1)) xs (at + 2 + n + (n + 3)) (n + 3) m'
  pub tagged : Tagged xs ys 1 (at + 2) dest n
  pub left_is : slice_index_or ys (dest + 1 + n) 0 ≡ slice_index xs at
  pub right_is : slice_index_or ys (dest + 2 + n) 0 ≡ slice_index xs (at + 1)

-- the word decides: P where it is 0, else Q
abbrev pub ByWord : ℕ → Type 0 → Type 0 → Type 0
ByWord w P Q = (w ≡ 0 → P) × (0 < w → Q)

module _ (m : Meaning) (ws : List ℕ) (base at dest : ℕ) where
  -- what comes of the operation, and what it leaves
  abbrev pub Effect : Op → Next → Meaning → List ℕ → Type 0
  Effect (Variable p n) r m' ys = (r ≡ Value) × (m' ≡ m) × Copied ws ys (base + p) dest n
  Effect (Call s) r m' ys = (r ≡ Body s) × (m' ≡ m) × (ys ≡ ws)
  Effect (Constant z) r m' ys = (r ≡ Value) × (m' ≡ m) × (ys ≡ slice_set ws dest z)
  Effect (Apply o) r m' ys = (r ≡ Value) × (m' ≡ m) × (ys ≡ slice_set ws dest (applied o (slice_index ws at) (slice_index ws (at + 1))))
  Effect Guard r m' ys = (r ≡ cond (slice_index ws at == 0) Second First) × (m' ≡ m) × (ys ≡ ws) × (slice_index ws at < 2 ^ 32)
  Effect (Pair n) r m' ys = (r ≡ Value) × (m' ≡ m) × Copied ws ys at dest n
  Effect Split r m' ys = (r ≡ First) × (m' ≡ m) × (ys ≡ ws)
  Effect (Tag mark n) r m' ys = (r ≡ Value) × (m' ≡ m) × Tagged ws ys mark at dest n
  Effect (CaseSum a b) r m' ys = (m' ≡ m) × ByWord (slice_index ws at) ((r ≡ First) × Copied ws ys (at + 1) at a) ((r ≡ Second) × Copied ws ys (at + 1) at b)
  Effect Empty r m' ys = (r ≡ Value) × (m' ≡ m) × (ys ≡ slice_set ws dest 0)
  Effect (Cons n) r m' ys = (r ≡ Value) × Kept m (slice_index ws at) ws (at + 1) (n + 1) m' × (ys ≡ slice_set ws dest (slice_index ws at))
  Effect (CaseList n) r m' ys = (m' ≡ m) × ByWord (slice_index ws at) ((r ≡ First) × (ys ≡ ws)) ((r ≡ Second) × Opened m ws ys at (n + 1))
  Effect (Fork n) r m' ys = (r ≡ Value) × Forked m ws at dest n m' ys
  Effect (CaseTree n) r m' ys = (m' ≡ m) × ByWord (slice_index ws at) ((r ≡ First) × Copied ws ys (at + 1) at n) ((r ≡ Second) × Spread m ws ys at n)

  -- and what it wants of widths and cells
  abbrev pub Wants : Op → Type 0
  Wants (Variable p n) = (n ≤ 16) × (base + p + n ≤ at)
  Wants (Call s) = Unit {0}
  Wants (Constant z) = Unit {0}
  Wants (Apply o) = Unit {0}
  Wants Guard = Unit {0}
  Wants (Pair n) = n ≤ 16
  Wants Split = Unit {0}
  Wants (Tag mark n) = n ≤ 15
  Wants (CaseSum a b) = (a ≤ 15) × (b ≤ 15)
  Wants Empty = Unit {0}
  Wants (Cons n) = (n ≤ 15) × (used m (slice_index ws at) ≡ 1)
  Wants (CaseList n) = (n ≤ 15) × (0 < slice_index ws at → used m (slice_index ws at) ≡ 1)
  Wants (Fork n) = (n ≤ 13) × (used m (slice_index ws at) ≡ 1) × (used m (slice_index ws (at + 1)) ≡ 1)
  Wants (CaseTree n) = (n ≤ 13) × (0 < slice_index ws at → (used m (slice_index ws (at + 1 + n)) ≡ 1) × (used m (slice_index ws (at + 2 + n)) ≡ 1))

  -- there is room for any operation's work above the place, and its value is waited for no higher
  pub record Room (op : Op) : Type 0 where
    pub high : at + 96 ≤ length ws
    pub low : length ws ≤ 65536
    pub down : dest ≤ at
    pub wants : Wants op
