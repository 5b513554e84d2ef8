-- Worked examples of tables, with what the rules answer for each.
use Rattle.std.specs.Prelude.{ℕ, zero, suc, List, [], ◌∷◌, ◌++◌, length, Ok, Err, Result}
use Rattle.codec.specs.Faults.{number_of}
use Rattle.codec.specs.declared.fault.Fault.{Fault}
use Rattle.codec.specs.declared.fault.Part as P
use Rattle.codec.specs.declared.fault.Part.TheVariants.{Table, Judgement}
use Rattle.lfpl.specs.Syntax.{Program}

-- what a table's bytes come to: admitted with so many functions, or refused by number, place and part
pub data Outcome : Type 0 where
  admitted : (functions : ℕ) → Outcome
  refused : (number place : ℕ) → P.Part → Outcome

abbrev pub outcome : Result Program Fault → Outcome
outcome (Ok p) = admitted (length p.functions)
outcome (Err f) = refused (number_of f.refusal) f.place f.part

-- bytes, and what they come to
abbrev pub Example : Type 0
Example = List ℕ × Outcome

abbrev pub adopted : ℕ → List ℕ → Example
adopted n bs = (bs, admitted n)

-- the reading is refused, by number and place
abbrev pub unread : ℕ → ℕ → List ℕ → Example
unread number place bs = (bs, refused number place Table)

-- the judgement finds a fault, by number and expression
abbrev pub unfit : ℕ → ℕ → List ℕ → Example
unfit number place bs = (bs, refused number place Judgement)

-- reverse: a helper that moves a list onto another, and the function that calls it with the empty list
abbrev pub reverse : List ℕ
reverse = 2 ∷ 0 ∷ 2 ∷ 0 ∷ 2 ∷ 2 ∷ 1 ∷ 1 ∷ 1 ∷ 1 ∷ 1 ∷ 1 ∷ 12 ∷ 0 ∷ 0 ∷ 0 ∷ 1 ∷ 1 ∷ 0 ∷ 0 ∷ 4 ∷ 11 ∷ 0 ∷ 2 ∷ 0 ∷ 3 ∷ 0 ∷ 1 ∷ 1 ∷ 0 ∷ 0 ∷ 0 ∷ 10 ∷ 1 ∷ []

-- n splits of variable 0, each inside the one before, and then the rest
abbrev pub splits : ℕ → List ℕ → List ℕ
splits zero rest = rest
splits (suc n) rest = 6 ∷ 0 ∷ 0 ∷ splits n rest

-- a function of a pair of numbers, with the result N
abbrev pub of_pair : List ℕ → List ℕ
of_pair body = 2 ∷ 0 ∷ 4 ∷ 0 ∷ 0 ∷ 1 ∷ 1 ∷ 1 ∷ 0 ∷ body

-- n sums, each of 0 and the next: 2n + 1 expressions
abbrev pub sums : ℕ → List ℕ
sums zero = 2 ∷ 0 ∷ []
sums (suc n) = 3 ∷ 0 ∷ 2 ∷ 0 ∷ sums n

-- a function of nothing, with the result N
abbrev pub of_nothing : List ℕ → List ℕ
of_nothing body = 1 ∷ 0 ∷ 1 ∷ 0 ∷ 0 ∷ body

-- two functions of a list of numbers, with the result N
abbrev pub of_lists : List ℕ → List ℕ → List ℕ
of_lists first second = (2 ∷ 0 ∷ 2 ∷ 0 ∷ 2 ∷ 1 ∷ 1 ∷ 0 ∷ 1 ∷ 1 ∷ 0 ∷ first) ++ second

abbrev pub examples : List Example
examples =
    -- the bytes end within a number; a number's fifth byte is 16; a table of no types
    unread 1 1 (1 ∷ 128 ∷ []) ∷
    unread 2 0 (255 ∷ 255 ∷ 255 ∷ 255 ∷ 16 ∷ []) ∷
    unread 3 0 (0 ∷ []) ∷
    -- N listed twice; a pair of 32 words
    unread 4 2 (2 ∷ 0 ∷ 0 ∷ []) ∷
    unread 5 14 (6 ∷ 0 ∷ 4 ∷ 0 ∷ 0 ∷ 4 ∷ 1 ∷ 1 ∷ 4 ∷ 2 ∷ 2 ∷ 4 ∷ 3 ∷ 3 ∷ 4 ∷ 4 ∷ 4 ∷ []) ∷
    -- a guard, two constants and 509 expressions of sums are 512; 513 are one too many
    adopted 1 (of_nothing (4 ∷ 2 ∷ 0 ∷ 2 ∷ 0 ∷ sums 254)) ∷
    unread 6 1029 (of_nothing (sums 256)) ∷
    -- fifteen splits bind 30 variables beside the parameter; the sixteenth would make 33
    adopted 1 (of_pair (splits 15 (2 ∷ 0 ∷ []))) ∷
    unread 7 57 (of_pair (splits 16 [])) ∷
    -- reverse, and reverse with a byte over
    adopted 2 reverse ∷
    unread 8 34 (reverse ++ 0 ∷ []) ∷
    -- an empty list of a type that is no list
    unfit 9 0 (of_nothing (10 ∷ 0 ∷ [])) ∷
    -- a list in both parts of a pair; a pair of a number and a list in both, since it is not heap-free; a number in both
    unfit 10 0 (3 ∷ 0 ∷ 2 ∷ 0 ∷ 4 ∷ 1 ∷ 1 ∷ 1 ∷ 1 ∷ 1 ∷ 2 ∷ 5 ∷ 2 ∷ 0 ∷ 0 ∷ 0 ∷ 0 ∷ []) ∷
    unfit 10 0 (4 ∷ 0 ∷ 2 ∷ 0 ∷ 4 ∷ 0 ∷ 1 ∷ 4 ∷ 2 ∷ 2 ∷ 1 ∷ 1 ∷ 2 ∷ 3 ∷ 5 ∷ 3 ∷ 0 ∷ 0 ∷ 0 ∷ 0 ∷ []) ∷
    adopted 1 (2 ∷ 0 ∷ 4 ∷ 0 ∷ 0 ∷ 1 ∷ 1 ∷ 0 ∷ 1 ∷ 5 ∷ 1 ∷ 0 ∷ 0 ∷ 0 ∷ 0 ∷ []) ∷
    -- a list in a guard and in an arm; in two arms of one choice
    unfit 10 4 (of_lists (12 ∷ 0 ∷ 0 ∷ 2 ∷ 0 ∷ 0 ∷ 2 ∷ []) (4 ∷ 1 ∷ 0 ∷ 0 ∷ 0 ∷ 1 ∷ 0 ∷ 0 ∷ 0 ∷ 2 ∷ 0 ∷ [])) ∷
    adopted 2 (of_lists (12 ∷ 0 ∷ 0 ∷ 2 ∷ 0 ∷ 0 ∷ 2 ∷ []) (4 ∷ 2 ∷ 2 ∷ 1 ∷ 0 ∷ 0 ∷ 0 ∷ 1 ∷ 0 ∷ 0 ∷ 0 ∷ [])) ∷
    []
