-- Which bytes spell a value, in the shortest or a longer form.
use Rattle.std.specs.Prelude.{◌≡◌, ℕ, ◌+◌, List, drop}
use Rattle.codec.specs.Integer.{unzigzag}
use Rattle.codec.specs.Number.{Numeral, got, ended, overlong, number}
use Rattle.lfpl.specs.Syntax.{Ty, int, diamond, list_of, tree_of, pair_of, sum_of, first, second}
use Rattle.lfpl.specs.Values.{Val, num, dia, nil, cons, leaf, node, pair, left, right}

-- the number c stands from p up to q
abbrev pub Number : List ℕ → ℕ → ℕ → ℕ → Type 0
Number bs p c q = (n : ℕ) × (number (drop p bs) ≡ got c n) × (q ≡ p + n)

-- the bytes from p up to q spell the value v of the type A
unfoldable pub Spells : List ℕ → Ty → Val → ℕ → ℕ → Type 0
Spells bs A (num z) p q = (A ≡ int) × ((c : ℕ) × Number bs p c q × (z ≡ unzigzag c))
Spells bs A dia p q = (A ≡ diamond) × (q ≡ p)
Spells bs A nil p q = (A ≡ list_of (first A)) × Number bs p 0 q
Spells bs A (cons a b) p q = (A ≡ list_of (first A)) × ((i : ℕ) × (j : ℕ) × Number bs p 1 i × Spells bs (first A) a i j × Spells bs A b j q)
Spells bs A (leaf a) p q = (A ≡ tree_of (first A)) × ((i : ℕ) × Number bs p 0 i × Spells bs (first A) a i q)
Spells bs A (node a l r) p q =
    (A ≡ tree_of (first A)) × ((i : ℕ) × (j : ℕ) × (k : ℕ) × Number bs p 1 i × Spells bs (first A) a i j × Spells bs A l j k × Spells bs A r k q)
Spells bs A (pair a b) p q = (A ≡ pair_of (first A) (second A)) × ((i : ℕ) × Spells bs (first A) a p i × Spells bs (second A) b i q)
Spells bs A (left a) p q = (A ≡ sum_of (first A) (second A)) × ((i : ℕ) × Number bs p 0 i × Spells bs (first A) a i q)
Spells bs A (right a) p q = (A ≡ sum_of (first A) (second A)) × ((i : ℕ) × Number bs p 1 i × Spells bs (second A) a i q)

-- what a reader that is never refused answers: the number and the place after it, or 0 and the place
abbrev pub read_from : ℕ → Numeral → ℕ × ℕ
read_from p (got v n) = (v, p + n)
read_from p ended = (0, p)
read_from p overlong = (0, p)
