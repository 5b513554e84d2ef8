-- What is asked of the judge of a flat table, and what it answers.
use Rattle.std.specs.Prelude.{◌≡◌, ℕ, ◌+◌, ◌<◌, true, List, ◌++◌, map, length, take, drop, replicate, Ok, Err, Result, slice_index_or}
use Rattle.codec.specs.declared.fault.Fault.{Fault}
use Rattle.codec.specs.declared.fault.Part.TheVariants.{Judgement}
use Rattle.lfpl.specs.Syntax.{Ty, Expr, Exprs, end, ◌then◌, Fun}
use Rattle.lfpl.specs.Typing.{alike}
use Rattle.lfpl.specs.Judge.{Verdict, fine, faulty, judge}
use Rattle.tables.specs.Listed.{Stands, AllStand}
use Rattle.tables.specs.declared.listing.Listing.{Listing}
use Rattle.tables.specs.declared.listing.Node.{Node}
use Rattle.typing.specs.Codes.{Coded, Encodes}
use Rattle.judge.specs.Over.{NotedOver, NotedOverArms}
use Rattle.typing.specs.Rules.{Basis, AllShort, bound, names_of}
use Rattle.typing.specs.Scopes.{Scopes, mask, masks, twice}
use Rattle.typing.specs.declared.codes.Code as C
use Rattle.typing.specs.declared.codes.Slot as S
use Rattle.judge.specs.declared.judge.Found.{Found}
use Rattle.judge.specs.declared.judge.Several.{Several}
use Rattle.typing.specs.declared.rules.Rule.{Rule}
use Rattle.typing.specs.declared.scope.Scope.{Scope}
use Rattle.judge.specs.declared.table.Note.{Note}

-- the expressions of the listing
abbrev pub listed_nodes : Listing → List Node
listed_nodes l = take l.expressions l.nodes

-- what the arms of a rule bind, from the arm a on
abbrev pub arms_from : Rule → ℕ → List (List S.Slot)
arms_from r a = drop a (take r.arms (bound r))

-- ---- what is asked

-- the expression e stands in the listing from the number n up to j, in the scope s with variables of the types Γ at the places ps
pub record Poses (l : Listing) (s : Scope) (n : ℕ) (ts : List Ty) (fs : List Fun) (Γ : List Ty) (ps : List ℕ) (e : Expr) (j : ℕ) : Type 0 where
  pub basis : Basis l ts fs
  pub scope : Scopes ts s Γ ps
  pub stands : Stands (names_of ts fs) (listed_nodes l) (length Γ) n e j

-- several expressions, where each has so many variables in scope
pub record PosesAll (l : Listing) (s : Scope) (counts : List ℕ) (n : ℕ) (ts : List Ty) (fs : List Fun) (Γ : List Ty) (ps : List ℕ) (es : Exprs) (j : ℕ) : Type 0 where
  pub basis : Basis l ts fs
  pub scope : Scopes ts s Γ ps
  pub stand : AllStand (names_of ts fs) (listed_nodes l) counts n es j

-- the arms from a on of an expression with the rule r, which is about the type A with the code c
pub record PosesArms (l : Listing) (s : Scope) (r : Rule) (c : C.Code) (a n : ℕ) (ts : List Ty) (fs : List Fun) (Γ : List Ty) (ps : List ℕ) (A : Ty) (es : Exprs) (j : ℕ) : Type 0 where
  pub all : PosesAll l s (map (λ (x : List S.Slot). length Γ + length x) (arms_from r a)) n ts fs Γ ps es j
  pub code : Coded ts c A
  pub full : length r.binds ≡ 2
  pub short : AllShort (bound r)

-- some expression, some parts, some arms
pub record Posed (l : Listing) (s : Scope) (n : ℕ) : Type 0 where
  pub ts : List Ty
  pub fs : List Fun
  pub Γ : List Ty
  pub ps : List ℕ
  pub e : Expr
  pub j : ℕ
  pub is : Poses l s n ts fs Γ ps e j

pub record PosedAll (l : Listing) (s : Scope) (c n : ℕ) : Type 0 where
  pub ts : List Ty
  pub fs : List Fun
  pub Γ : List Ty
  pub ps : List ℕ
  pub es : Exprs
  pub j : ℕ
  pub is : PosesAll l s (replicate c (length Γ)) n ts fs Γ ps es j

pub record PosedArms (l : Listing) (s : Scope) (r : Rule) (c : C.Code) (a n : ℕ) : Type 0 where
  pub ts : List Ty
  pub fs : List Fun
  pub Γ : List Ty
  pub ps : List ℕ
  pub A : Ty
  pub es : Exprs
  pub j : ℕ
  pub is : PosesArms l s r c a n ts fs Γ ps A es j

-- ---- what is answered

-- the fault is the verdict
pub record Faulted {X : Type 0} (v : Verdict X) (f : Fault) : Type 0 where
  pub verdict : v ≡ faulty f.refusal f.place
  pub part : f.part ≡ Judgement

-- the notes before the number n are as they were
abbrev pub Earlier : ℕ → List Note → List Note → Type 0
Earlier n notes notes' = (i : ℕ) (d : Note) → i < n → slice_index_or notes' i d ≡ slice_index_or notes i d

-- an expression that passes: its type, its variables, where it ends, and what is noted
pub record Passed (ts : List Ty) (fs : List Fun) (Γ : List Ty) (ps : List ℕ) (over n : ℕ) (e : Expr) (j : ℕ) (notes notes' : List Note) (r : Found) : Type 0 where
  pub type : Ty
  pub typed : judge fs e n Γ ≡ fine type
  pub code : Coded ts r.code type
  pub occur : r.mask ≡ mask e
  pub ends : r.end ≡ j
  pub noted : NotedOver ts fs notes' e n Γ ps over type
  pub earlier : Earlier n notes notes'

abbrev pub Answers : List Ty → List Fun → List Ty → List ℕ → ℕ → ℕ → Expr → ℕ → List Note → List Note → Result Found Fault → Type 0
Answers ts fs Γ ps over n e j notes notes' (Ok r) = Passed ts fs Γ ps over n e j notes notes' r
Answers ts fs Γ ps over n e j notes notes' (Err f) = Faulted (judge fs e n Γ) f

-- how many there are
abbrev pub counted : Exprs → ℕ
counted end = 0
counted (e then es) = 1 + counted es

-- several that pass: their types follow the types before, and `Holding` of their types holds, which says what is noted
pub record PassedAll (ts before : List Ty) (v : Verdict (List Ty)) (es : Exprs) (n j : ℕ) (Holding : List Ty → Type 0) (notes notes' : List Note) (r : Several) : Type 0 where
  pub types : List Ty
  pub typed : v ≡ fine types
  pub row : Encodes ts r.row (before ++ types)
  pub occur : r.mask ≡ masks es
  pub again : r.twice ≡ twice es
  pub ends : r.end ≡ j
  pub many : length types ≡ counted es
  pub noted : Holding types
  pub earlier : Earlier n notes notes'

abbrev pub AnswersAll : List Ty → List Ty → Verdict (List Ty) → Exprs → ℕ → ℕ → (List Ty → Type 0) → List Note → List Note → Result Several Fault → Type 0
AnswersAll ts before v es n j Holding notes notes' (Ok r) = PassedAll ts before v es n j Holding notes notes' r
AnswersAll ts before v es n j Holding notes notes' (Err f) = Faulted v f

-- arms of the types Bs are noted, if these are all one type
abbrev pub ArmsNoted : List Ty → List Fun → List Note → Exprs → ℕ → List (List Ty) → List Ty → List ℕ → ℕ → List Ty → Type 0
ArmsNoted ts fs notes es n l Γ ps over Bs = (B : Ty) → alike B Bs ≡ true → NotedOverArms ts fs notes es n l Γ ps over B
