-- The worked examples of the rules, of tables, values and runs: all shown by one computation over a list.
use Rattle.std.specs.Prelude.{◌≡◌, ℕ, List, [], ◌∷◌, ◌++◌, map, pos, negsuc}
use Rattle.std.proofs.Math.Option.{none, some}
use Rattle.std.specs.List.{AllByRecursion}
use Rattle.codec.specs.Reading.{Scan, done, refused}
use Rattle.lfpl.specs.Syntax.{int, list_of, pair_of, Program}
use Rattle.lfpl.specs.Admission.{admission}
use Rattle.lfpl.specs.Examples.{Outcome, outcome, reverse, examples as tables}
use Rattle.lfpl.specs.Reading.{scanned_table}
use Rattle.lfpl.specs.Values.{Val, num, nil, cons, leaf, node, pair, charge, write, Typed, ◌of◌}
use Rattle.meaning.specs.Mean.{ground, height, words, limited, gives, halts, wrong, Meaning, approx}
use Rattle.meaning.specs.Machine.{run, start}
use Rattle.meaning.specs.View.{Seen, view}
use Rattle.meaning.specs.Sound.{Apt}

-- An example says what a table's bytes come to; or that a table is judged and has a function for the arguments; or what the function means on them, a value being
-- told by its bytes; or what is seen of its run after some steps; or how a value is written; or what it charges.
pub data Example : Type 0 where
  comes : List ℕ × Outcome → Example
  apt : (table : List ℕ) (function : ℕ) (arguments : List Typed) → Example
  means : (table : List ℕ) (function : ℕ) (arguments : List Typed) → Meaning (List ℕ) → Example
  shows : (table : List ℕ) (function : ℕ) (arguments : List Typed) (steps : ℕ) → List Seen → Example
  writes : Val → List ℕ → Example
  charging : Val → ℕ → Example

-- a program that was read is judged, and its function f takes the arguments: the laws of judged programs speak of it
abbrev pub AptOf : Scan Program → ℕ → List Typed → Type 0
AptOf (done p q) f xs = Apt p f xs
AptOf (refused why q) f xs = ⊥

-- a meaning with its value's bytes
abbrev pub spelled : Meaning Typed → Meaning (List ℕ)
spelled none = none
spelled (some (gives v, n)) = some (gives (write v.value), n)
spelled (some (halts y, n)) = some (halts y, n)
spelled (some (wrong, n)) = some (wrong, n)

-- what a function of a program that was read means; as calls nest no deeper than the limit on height, 4,097 approximations are enough
abbrev pub meant : Scan Program → ℕ → List Typed → Meaning (List ℕ)
meant (done p q) f xs = spelled (approx p limited 4097 f xs (ground xs))
meant (refused why q) f xs = none

-- what is seen of its run after n steps
abbrev pub seen : Scan Program → ℕ → List Typed → ℕ → List Seen
seen (done p q) f xs n = view (run p limited n (start p f xs)).0
seen (refused why q) f xs n = []

-- the example is so
abbrev pub Holds : Example → Type 0
Holds (comes (bs, o)) = outcome (admission bs) ≡ o
Holds (apt table f xs) = AptOf (scanned_table table) f xs
Holds (means table f xs m) = meant (scanned_table table) f xs ≡ m
Holds (shows table f xs n s) = seen (scanned_table table) f xs n ≡ s
Holds (writes v bs) = write v ≡ bs
Holds (charging v n) = charge v ≡ n

-- ---- tables and values

-- a function of no parameter that calls itself
abbrev pub endless : List ℕ
endless = 1 ∷ 0 ∷ 1 ∷ 0 ∷ 0 ∷ 1 ∷ 0 ∷ []

-- a function of one pair of 16 words that calls itself with it
abbrev pub endless_pair : List ℕ
endless_pair = 5 ∷ 0 ∷ 4 ∷ 0 ∷ 0 ∷ 4 ∷ 1 ∷ 1 ∷ 4 ∷ 2 ∷ 2 ∷ 4 ∷ 3 ∷ 3 ∷ 1 ∷ 1 ∷ 4 ∷ 0 ∷ 1 ∷ 0 ∷ 0 ∷ 0 ∷ []

-- 2,147,483,647 + 1
abbrev pub overflow : List ℕ
overflow = 1 ∷ 0 ∷ 1 ∷ 0 ∷ 0 ∷ 3 ∷ 0 ∷ 2 ∷ 254 ∷ 255 ∷ 255 ∷ 255 ∷ 15 ∷ 2 ∷ 2 ∷ []

-- the empty list of numbers
abbrev pub empty : Typed
empty = nil of list_of int

-- the list (7, -1)
abbrev pub two : Typed
two = cons (num (pos 7)) (cons (num (negsuc 0)) nil) of list_of int

-- a pair of a value with itself
abbrev pub twice : Typed → Typed
twice x = pair x.value x.value of pair_of x.type x.type

-- the pair of 16 words, all 0
abbrev pub sixteen : Typed
sixteen = twice (twice (twice (twice (num (pos 0) of int))))

-- a node with two leaves of N
abbrev pub fork : Val
fork = node (num (pos 0)) (leaf (num (pos 1))) (leaf (num (pos 2)))

-- ---- the examples

-- After 4 steps of the reversal of (7, -1) the choice of function 0 waits for its first part, at height 1 over 3 words; its arms still name the second list, which
-- is empty so far.
abbrev pub waiting : Seen
waiting = record { number = 0; level = record { height = 1; words = 3 }; values = []; variables = none ∷ some empty ∷ [] }

-- Its first part is next, and names the first list.
abbrev pub beginning : Seen
beginning = record { number = 1; level = record { height = 2; words = 3 }; values = []; variables = some two ∷ none ∷ [] }

-- Reverse is judged, and (7, -1) fits its function 1. The reverse of (7, -1) is (-1, 7), after 22 steps, and of the empty list the empty list, after 6. The endless
-- calls halt, for height at step 4,097 and for words at step 1,025. The greatest number and 1 make the least. -1, the least number and 300 as they are written. A
-- node with two leaves of N charges 2, and a list of two such charges 6.
abbrev pub examples : List Example
examples = map comes tables ++
    apt reverse 1 (two ∷ []) ∷
    means reverse 1 (two ∷ []) (some (gives (1 ∷ 1 ∷ 1 ∷ 14 ∷ 0 ∷ []), 22)) ∷
    means reverse 1 (empty ∷ []) (some (gives (0 ∷ []), 6)) ∷
    shows reverse 1 (two ∷ []) 4 (waiting ∷ beginning ∷ []) ∷
    means endless 0 [] (some (halts height, 4097)) ∷
    means endless_pair 0 (sixteen ∷ []) (some (halts words, 1025)) ∷
    means overflow 0 [] (some (gives (255 ∷ 255 ∷ 255 ∷ 255 ∷ 15 ∷ []), 3)) ∷
    writes (num (negsuc 0)) (1 ∷ []) ∷
    writes (num (negsuc 2147483647)) (255 ∷ 255 ∷ 255 ∷ 255 ∷ 15 ∷ []) ∷
    writes (num (pos 300)) (216 ∷ 4 ∷ []) ∷
    charging fork 2 ∷
    charging (cons fork (cons fork nil)) 6 ∷ []

-- every example holds
abbrev pub ExamplesLaw : Type 0
ExamplesLaw = AllByRecursion Holds examples
