-- When the machine's words, waiting expressions and cells enact a state of the abstract machine: each variable still named and each part done is read from the words
-- on through the pool's cells, and no cell is held twice.
use Rattle.std.specs.Prelude.{◌≡◌, ℕ, ◌+◌, ◌<◌, ◌≤◌, Bool, List, [], ◌∷◌, ◌++◌, length, get_or, take, slice_index_or}
use Rattle.lfpl.specs.Syntax.{Ty, expr, sizes, names, Fun, Program}
use Rattle.lfpl.specs.Typing.{rule}
use Rattle.lfpl.specs.Values.{Typed}
use Rattle.meaning.specs.Act.{types}
use Rattle.meaning.specs.Machine.{Item, Frame, State, going, done, halted, return}
use Rattle.meaning.specs.Mean.{Why, height, words, widths}
use Rattle.typing.specs.Scopes.{widths as type_widths}
use Rattle.pool.specs.Pools.{Meaning}
use Rattle.store.specs.Layout.{Shows, footprint, occ, used}
use Rattle.code.specs.Standing.{Apart, Sits, Stands, StandsAll, StandsArms, Encodes}
use Rattle.code.specs.declared.Code.{Code}
use Rattle.acts.specs.Places.{Lies, cells_of, places, from, all}
use Rattle.machine.specs.declared.Limit as L
use Rattle.machine.specs.declared.Limit.TheVariants as Limit
use Rattle.machine.specs.declared.Machine.{Machine}
use Rattle.machine.specs.declared.Mode.{Mode}
use Rattle.machine.specs.declared.Mode.TheVariants.{Begin, Return, Done, Halted}
use Rattle.machine.specs.declared.Waiting.{Waiting}

-- what stands where nothing waits
abbrev pub nobody : Waiting
nobody = record { number = 0; coming = 0; base = 0; dest = 0; height = 0 }

-- the cells that a run holds
abbrev pub own : Machine → List ℕ
own x = take x.count x.cells

-- no cell is held but the run's own, nor oftener
abbrev pub Owned : List ℕ → List ℕ → Type 0
Owned mine xs = (c : ℕ) → occ c xs ≤ occ c mine

-- the variables that an expression under way still names
abbrev pub named : Frame → ℕ → Bool
named k i = names i (expr k.head k.rest k.arms)

module _ (fs : List Fun) (code : Code) where
  -- An expression under way and its record, but for the values: its variables lie at the places ps above its body's first word, parts of the types `gap` are under
  -- way, and its type is W. Parts of the types `left` are to come; it stands over `over` words of its body, and its arms have the type `arm`.
  pub record Fixed (r : Waiting) (k : Frame) (ps : List ℕ) (gap : List Ty) (W : Ty) : Type 0 where
    pub number : r.number ≡ k.number
    pub coming : r.coming ≡ k.coming
    pub height : r.height ≡ k.level.height
    pub over : ℕ
    pub left : List Ty
    pub arm : Ty
    pub low : k.level.words ≤ 8192
    pub short : k.level.height < 4096
    pub based : r.base + over ≡ k.level.words
    pub down : r.dest ≤ k.level.words
    pub long : length ps ≡ length k.env
    pub sits : Sits fs code k.number k.head (types k.env) ps over (k.coming + sizes k.rest) (types k.values ++ (gap ++ left)) arm W
    pub apart : Apart (types k.env) k.rest k.arms
    pub rest : StandsAll fs code k.rest k.coming (types k.env) ps (over + widths k.values + type_widths gap) left
    pub arms : StandsArms fs code k.arms (k.coming + sizes k.rest) (rule fs (types k.env) k.head (types k.values ++ (gap ++ left))).arms (types k.env) ps over arm

  -- with its values: variables at their places, parts done one after another from where it stands on
  pub record Stage (m : Meaning) (ws : List ℕ) (r : Waiting) (k : Frame) (ps : List ℕ) (gap : List Ty) (W : Ty) : Type 0 where
    pub fixed : Fixed r k ps gap W
    pub variables : Lies m ws k.level.words (named k) k.env (from r.base ps)
    pub values : Lies m ws (k.level.words + widths k.values) all k.values (places k.level.words k.values)

  -- the cells that it holds
  abbrev pub stage_cells : Meaning → List ℕ → Waiting → Frame → List ℕ → List ℕ
  stage_cells m ws r k ps =
      cells_of m ws (named k) k.env (from r.base ps) ++ cells_of m ws all k.values (places k.level.words k.values)

  -- The waiting expressions, the innermost first, which waits for a value of the type T at the place `top`; it is lower than `up`, and the outermost gives the
  -- run's result, of the type R, which is waited for at 0.
  abbrev pub Stack : Meaning → List ℕ → List Waiting → List Frame → List (List ℕ) → ℕ → ℕ → Ty → Ty → Type 0
  Stack m ws recs [] pss top up T R = (T ≡ R) × (top ≡ 0)
  Stack m ws recs (k ∷ K) [] top up T R = ⊥
  Stack m ws recs (k ∷ K) (ps ∷ pss) top up T R =
      (W : Ty) × Stage m ws (slice_index_or recs (length K) nobody) k ps (T ∷ []) W × (top ≡ k.level.words + widths k.values) × (k.level.height < up)
      × Stack m ws recs K pss (get_or recs (length K) nobody).dest k.level.height W R

  -- the cells that they hold
  abbrev pub stack_cells : Meaning → List ℕ → List Waiting → List Frame → List (List ℕ) → List ℕ
  stack_cells m ws recs [] pss = []
  stack_cells m ws recs (k ∷ K) [] = []
  stack_cells m ws recs (k ∷ K) (ps ∷ pss) = stage_cells m ws (slice_index_or recs (length K) nobody) k ps ++ stack_cells m ws recs K pss

  module _ (R : Ty) (m : Meaning) (ws : List ℕ) (recs : List Waiting) (mine : List ℕ) where
    -- an expression is to begin, its body's first word at `base`, its value waited for at `dest`
    pub record Going (base dest : ℕ) (i : Item) (K : List Frame) : Type 0 where
      pub ps : List ℕ
      pub pss : List (List ℕ)
      pub over : ℕ
      pub type : Ty
      pub stands : Stands fs code i.term i.number (types i.env) ps over type
      pub based : base + over ≡ i.level.words
      pub near : i.level.words ≤ 8288
      pub high : i.level.height ≤ 4096
      pub down : dest ≤ i.level.words
      pub long : length ps ≡ length i.env
      pub variables : Lies m ws i.level.words (λ j. names j i.term) i.env (from base ps)
      pub stack : Stack m ws recs K pss dest i.level.height type R
      pub owned : Owned mine (cells_of m ws (λ j. names j i.term) i.env (from base ps) ++ stack_cells m ws recs K pss)

    -- a value lies where the innermost waiting expression waits for it
    pub record Back (v : Typed) (K : List Frame) : Type 0 where
      pub pss : List (List ℕ)
      pub top : ℕ
      pub up : ℕ
      pub shows : Shows m v.type v.value ws top
      pub stack : Stack m ws recs K pss top up v.type R
      pub owned : Owned mine (footprint m v.type v.value ws top ++ stack_cells m ws recs K pss)

    -- an expression goes on, none of its parts being under way
    pub record Ready (r : Waiting) (k : Frame) (K : List Frame) : Type 0 where
      pub ps : List ℕ
      pub pss : List (List ℕ)
      pub type : Ty
      pub stage : Stage m ws r k ps [] type
      pub stack : Stack m ws recs K pss r.dest k.level.height type R
      pub owned : Owned mine (stage_cells m ws r k ps ++ stack_cells m ws recs K pss)

-- why the machine halts
abbrev pub why_of : L.Limit → Why
why_of Limit.Height = height
why_of Limit.Words = words

-- Code for the program, memory of the right size, and cells that are taken and each held once.
pub record Founded (p : Program) (code : Code) (m : Meaning) (x : Machine) : Type 0 where
  pub encodes : Encodes code p
  pub words_long : length x.words ≡ 8288
  pub waiting_long : length x.waiting ≡ 4096
  pub once : (c : ℕ) → occ c (own x) ≤ 1
  pub taken : (c : ℕ) → 1 ≤ occ c (own x) → used m c ≡ 1

-- what the mode shows of the state, where the run's result has the type R
abbrev pub Shape : Program → Ty → Code → Meaning → Machine → Mode → State → Type 0
Shape p R code m x (Begin number base dest up) s =
    (i : Item) × (K : List Frame) × (s ≡ going i K) × (number ≡ i.number) × (up ≡ i.level.height) × (x.depth ≡ length K)
    × Going p.functions code R m x.words x.waiting (own x) base dest i K
Shape p R code m x Return s =
    (v : Typed) × (K : List Frame) × (s ≡ return p.functions K v) × (x.depth ≡ length K)
    × Back p.functions code R m x.words x.waiting (own x) v K
Shape p R code m x Done s =
    (v : Typed) × (s ≡ done v) × (v.type ≡ R) × Shows m v.type v.value x.words 0
    × Owned (own x) (footprint m v.type v.value x.words 0)
Shape p R code m x (Halted y) s = s ≡ halted (why_of y)

-- The machine enacts the state of a run of the program p, whose result has the type R. Where a value is on its way back, the state is that in which it has come back
-- as far as it goes.
pub record Enacts (p : Program) (R : Ty) (code : Code) (m : Meaning) (x : Machine) (s : State) : Type 0 where
  pub founded : Founded p code m x
  pub shape : Shape p R code m x x.mode s
