-- What a going run's state of a judged program is made of: numbers that are places in the table, no more than the limits allow, and types that the program writes.
use Rattle.std.specs.Prelude.{◌≡◌, ℕ, ◌+◌, ◌<◌, ◌≤◌, Bool, true, List, [], ◌∷◌, ◌++◌, map, length}
use Rattle.std.specs.List.{AllByRecursion}
use Rattle.lfpl.specs.Syntax.{Ty, int, diamond, first, second, Head, var, call, const, apply, guard, mk_pair, case_pair, mk_left, mk_right, case_sum, mk_nil, mk_cons, case_list, mk_leaf, mk_node, case_tree, Expr, Exprs, expr, end, ◌then◌, Fun, Program}
use Rattle.lfpl.specs.Values.{Typed}
use Rattle.meaning.specs.Mean.{widths, Limit, limited}
use Rattle.meaning.specs.Machine.{going, Item, Frame, run, start}
use Rattle.meaning.specs.Sound.{Apt}

-- ---- numbers

-- the heads of an expression in reading order: its own, then those of its parts and arms
abbrev mutual
  pub heads : Expr → List Head
  heads (expr h ps qs) = h ∷ (heads_all ps ++ heads_all qs)

  pub heads_all : Exprs → List Head
  heads_all end = []
  heads_all (e then es) = heads e ++ heads_all es

-- the flat table: the heads of all bodies in reading order
abbrev pub flat : List Fun → List Head
flat [] = []
flat (f ∷ fs) = heads f.body ++ flat fs

-- from the place n on, the flat table has the heads hs
abbrev pub Stands : List Head → ℕ → List Head → Type 0
Stands table n hs = (before : List Head) × (after : List Head) × (table ≡ before ++ (hs ++ after)) × (length before ≡ n)

-- of a waiting expression the head stands at its number, and what is to come of it where it says
abbrev pub Placed : List Head → Frame → Type 0
Placed table k = Stands table k.number (k.head ∷ []) × Stands table k.coming (heads_all k.rest ++ heads_all k.arms)

-- The numbers of a going run's expressions are their places in the flat table.
abbrev pub PlacesLaw : Type 0
PlacesLaw =
    (p : Program) (L : Limit) (f : ℕ) (xs : List Typed) (n : ℕ) (i : Item) (K : List Frame) → Apt p f xs → (run p L n (start p f xs)).0 ≡ going i K
    → Stands (flat p.functions) i.number (heads i.term) × AllByRecursion (λ k. Placed (flat p.functions) k) K

-- ---- bounds

-- the words of all parts done
abbrev pub words_done : List Frame → ℕ
words_done [] = 0
words_done (k ∷ K) = widths k.values + words_done K

-- The limits bound what waits: no more expressions than the height of the next, nor than 4,096; their parts done no wider than the words it stands over; and each
-- of them was let begin, below height 4,096 and over at most 8,192 words.
abbrev pub BoundsLaw : Type 0
BoundsLaw =
    (p : Program) (f : ℕ) (xs : List Typed) (n : ℕ) (i : Item) (K : List Frame) → Apt p f xs → (run p limited n (start p f xs)).0 ≡ going i K
    → (length K ≤ 4096) × (length K ≤ i.level.height) × (words_done K ≤ i.level.words)
    × AllByRecursion (λ k. (k.level.height < 4096) × (k.level.words ≤ 8192)) K

-- ---- the types that occur

-- the type that a head writes; N where it writes none
abbrev pub noted : Head → Ty
noted (var i) = int
noted (call f) = int
noted (const z) = int
noted (apply o) = int
noted guard = int
noted (mk_pair A) = A
noted case_pair = int
noted (mk_left A) = A
noted (mk_right A) = A
noted case_sum = int
noted (mk_nil A) = A
noted mk_cons = int
noted case_list = int
noted (mk_leaf A) = A
noted mk_node = int
noted case_tree = int

-- the types that a function writes: its parameters', its result's and those in its body
abbrev pub types_in : Fun → List Ty
types_in f = f.params ++ (f.result ∷ map noted (heads f.body))

module _ (G : Ty → Bool) where
  -- the test passes the types
  abbrev pub Passes : List Ty → Type 0
  Passes As = AllByRecursion (λ A. G A ≡ true) As

  -- the test passes N and the diamond, and what its types are made of
  abbrev pub Closed : Type 0
  Closed = (G int ≡ true) × (G diamond ≡ true) × ((A : Ty) → G A ≡ true → (G (first A) ≡ true) × (G (second A) ≡ true))

  -- the test passes the values' types
  abbrev pub Pass : List Typed → Type 0
  Pass xs = AllByRecursion (λ x. G x.type ≡ true) xs

-- Only types that the program writes occur, with N, the diamond and what they are made of: whichever test passes those passes the types of all values of a run.
abbrev pub TypesLaw : Type 0
TypesLaw =
    (G : Ty → Bool) (p : Program) (L : Limit) (f : ℕ) (xs : List Typed) (n : ℕ) (i : Item) (K : List Frame)
    → Closed G → AllByRecursion (λ g. Passes G (types_in g)) p.functions → Apt p f xs → (run p L n (start p f xs)).0 ≡ going i K
    → Pass G i.env × AllByRecursion (λ k. Pass G k.env × Pass G k.values) K
