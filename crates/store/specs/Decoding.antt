-- How a value's bytes are read: the value that they spell and the cells then left, or the first refusal with its place.
use Rattle.std.specs.Prelude.{ℕ, zero, suc, ◌-◌, Bool, true, false, cond, List, length, nat_le, nat_lt}
use Rattle.codec.specs.Integer.{unzigzag}
use Rattle.codec.specs.Reading.{Scan, done, refused, then as followed, number_at, mark_at}
use Rattle.codec.specs.declared.fault.Refusal.TheVariants.{Ended, BytesOver, CellsLacking}
use Rattle.lfpl.specs.Syntax.{Ty, int, diamond, list_of, tree_of, pair_of, sum_of}
use Rattle.lfpl.specs.Values.{Val, num, dia, nil, cons, leaf, node, pair, left, right}

-- A reading that counts cells: handed how many are spare, the bytes and a place, it comes to what is read with the cells then left and the place after it, or to
-- a refusal with its place.
abbrev pub Decoder : Type 0 → Type 0
Decoder X = ℕ → List ℕ → ℕ → Scan (X × ℕ)

infixl 10 ◌>>=◌
abbrev pub ◌>>=◌ : {X Y : Type 0} → Decoder X → (X → Decoder Y) → Decoder Y
◌>>=◌ d k s bs p = followed (d s bs p) (λ r q. k r.0 r.1 bs q)

-- nothing is read
abbrev pub pure : {X : Type 0} → X → Decoder X
pure x s bs p = done (x, s) p

-- one reading or another
abbrev pub choose : {X : Type 0} → Bool → Decoder X → Decoder X → Decoder X
choose b d e s bs p = cond b (d s bs p) (e s bs p)

-- n cells of the s that are spare are counted, once x was read up to the place p; where they are lacking, the place q is named
abbrev pub spend : {X : Type 0} → ℕ → ℕ → X → ℕ → ℕ → Scan (X × ℕ)
spend n q x s p = cond (nat_le n s) (done (x, s - n) p) (refused CellsLacking q)

-- A mark: whether it is 1. With a 1 come n cells; where they are lacking, the place is where the mark begins.
abbrev pub marked : ℕ → Decoder Bool
marked n s bs p = followed (mark_at bs p) (λ more q. cond more (spend n p true s q) (done (false, s) q))

-- a list, by the decoder of its elements: each has a mark of 1 before it and takes a cell, and a mark of 0 ends the list; at most so many marks are left
unfoldable pub list_at : Decoder Val → ℕ → Decoder Val
list_at element zero s bs p = refused Ended p
list_at element (suc marks) s bs p =
    (marked 1 >>= λ more. choose more (element >>= λ x. list_at element marks >>= λ xs. pure (cons x xs)) (pure nil)) s bs p

-- a tree, by the decoder of its labels: a mark, 1 for a node, which takes two cells; the label; and a node's left and right subtree
unfoldable pub tree_at : Decoder Val → ℕ → Decoder Val
tree_at label zero s bs p = refused Ended p
tree_at label (suc marks) s bs p =
    (marked 2 >>= λ more. label >>= λ x.
    choose more (tree_at label marks >>= λ l. tree_at label marks >>= λ r. pure (node x l r)) (pure (leaf x))) s bs p

-- A value of a type. A diamond has no bytes and takes a cell; where that is lacking, the place is that of the next byte. There are no more marks than bytes.
unfoldable pub value_at : Ty → Decoder Val
value_at int s bs p = followed (number_at bs p) (λ c q. done (num (unzigzag c), s) q)
value_at diamond s bs p = spend 1 p dia s p
value_at (list_of A) s bs p = list_at (value_at A) (length bs) s bs p
value_at (tree_of A) s bs p = tree_at (value_at A) (length bs) s bs p
value_at (pair_of A B) s bs p = (value_at A >>= λ x. value_at B >>= λ y. pure (pair x y)) s bs p
value_at (sum_of A B) s bs p =
    (marked 0 >>= λ more. choose more (value_at B >>= λ y. pure (right y)) (value_at A >>= λ x. pure (left x))) s bs p

-- no byte is left over
abbrev pub whole : {X : Type 0} → List ℕ → Scan X → Scan X
whole bs r = followed r (λ x q. cond (nat_lt q (length bs)) (refused BytesOver q) (done x q))

-- the value of the type A that the bytes spell and the cells then left, of s that are spare; or the first refusal
abbrev pub decode : List ℕ → Ty → ℕ → Scan (Val × ℕ)
decode bs A s = whole bs (value_at A s bs 0)
