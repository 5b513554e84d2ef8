-- Numbers as bytes: one to five groups of seven bits, lowest first.
use Rattle.std.specs.Prelude.{◌≡◌, ℕ, zero, suc, ◌+◌, ◌*◌, ◌/◌, ◌%◌, ◌^◌, ◌<◌, ◌≤◌, cond, List, [], ◌∷◌, length, take, nat_le, nat_lt, slice_index}

-- the number whose groups of seven bits stand in these bytes, lowest first
unfoldable pub value_of : List ℕ → ℕ
value_of [] = 0
value_of (b ∷ bs) = b % 128 + 128 * value_of bs

-- the top bit is set on each of the first n bytes
abbrev pub Continued : ℕ → List ℕ → Type 0
Continued n bs = (i : ℕ) → i < n → 128 ≤ slice_index bs i

-- The first `used` bytes are a form of the number v, with at most `most` bytes before the last: the top bit is set on all but the last, and where
-- there are as many bytes as there can be, the last is at most 15.
pub record Form (most : ℕ) (bs : List ℕ) (v used : ℕ) : Type 0 where
  pub some : 0 < used
  pub few : used ≤ most + 1
  pub there : used ≤ length bs
  pub more : (i : ℕ) → i + 1 < used → 128 ≤ slice_index bs i
  pub last : (i : ℕ) → i + 1 ≡ used → slice_index bs i < 128
  pub full : used ≡ most + 1 → slice_index bs most ≤ 15
  pub value : v ≡ value_of (take used bs)

-- what stands at the front of some bytes: a number and how many bytes it takes; or the bytes end first; or the last byte that there can be is too large
pub data Numeral : Type 0 where
  got : (value used : ℕ) → Numeral
  ended : Numeral
  overlong : Numeral

-- When each of these is right, in at most `most` bytes and one more; just one of them is. The number has its bound: with five bytes it is below 2 ^ 32.
abbrev pub Right : ℕ → List ℕ → Numeral → Type 0
Right most bs (got v used) = Form most bs v used × (v < 16 * 128 ^ most)
Right most bs ended = (length bs ≤ most) × Continued (length bs) bs
Right most bs overlong = Continued most bs × (15 < slice_index bs most)

-- one group of seven bits, and above it the groups of a number
abbrev pub before : ℕ → Numeral → Numeral
before g (got v n) = got (g + 128 * v) (suc n)
before g ended = ended
before g overlong = overlong

-- the number at the front, in at most `most` bytes and one more
unfoldable pub numeral : ℕ → List ℕ → Numeral
numeral most [] = ended
numeral zero (b ∷ bs) = cond (nat_le b 15) (got b 1) overlong
numeral (suc most) (b ∷ bs) = cond (nat_lt b 128) (got b 1) (before (b % 128) (numeral most bs))

-- a number takes one to five bytes
abbrev pub number : List ℕ → Numeral
number bs = numeral 4 bs

-- the groups of n, lowest first, with at most `most` of them before the last
unfoldable pub spelling : ℕ → ℕ → List ℕ
spelling zero n = n ∷ []
spelling (suc most) n = cond (nat_lt n 128) (n ∷ []) ((n % 128 + 128) ∷ spelling most (n / 128))

-- the bytes that a number below 2 ^ 32 is written as
abbrev pub written : ℕ → List ℕ
written n = spelling 4 n
