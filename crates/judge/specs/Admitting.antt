-- What a table that is admitted has in it.
use Rattle.std.specs.Prelude.{◌≡◌, ℕ, zero, suc, ◌+◌, ◌<◌, List, [], ◌∷◌, length, Ok, Err, Result, slice_index}
use Rattle.codec.specs.declared.fault.Fault.{Fault}
use Rattle.codec.specs.declared.fault.Refusal.TheVariants.{TypeFault}
use Rattle.lfpl.specs.Admission.{admission}
use Rattle.lfpl.specs.Judge.{Verdict, fine, ◌>>=◌, demand, judge, program_verdict}
use Rattle.lfpl.specs.Syntax.{Ty, same_ty, size, Fun, Program}
use Rattle.lfpl.specs.Typing.{fun_at}
use Rattle.tables.specs.Listed.{Holds, Stands, Signs}
use Rattle.tables.specs.declared.listing.Listing.{Listing}
use Rattle.tables.specs.declared.listing.Signature.{Signature}
use Rattle.judge.specs.Judging.{Earlier, Faulted, listed_nodes}
use Rattle.judge.specs.Over.{NotedOverBody}
use Rattle.judge.specs.Notes.{NotedBody}
use Rattle.typing.specs.Rules.{Basis, names_of, type_of}
use Rattle.judge.specs.declared.table.Note.{Note}
use Rattle.judge.specs.declared.table.Table.{Table}

-- the number of the outermost expression of the body of the function f: the expressions of the bodies before it come first
abbrev pub start_of : List Fun → ℕ → ℕ
start_of [] f = 0
start_of (g ∷ fs) zero = 0
start_of (g ∷ fs) (suc f) = size g.body + start_of fs f

-- each body begins where the list says, and is noted there
pub record Bodies (ts : List Ty) (fs : List Fun) (notes : List Note) (begins : List ℕ) : Type 0 where
  pub starts : (f : ℕ) → f < length fs → slice_index begins f ≡ start_of fs f
  pub noted : (f : ℕ) → f < length fs → NotedBody ts fs notes (fun_at fs f) (start_of fs f)

-- the table lists the program p, and its bodies are noted
pub record Carries (t : Table) (p : Program) : Type 0 where
  pub listing : Holds t.listing p
  pub bodies : Bodies p.types p.functions t.notes t.starts

-- what is answered for a table's bytes: the program that they are admitted as is what the table carries
abbrev pub Admits : List ℕ → Result Table Fault → Type 0
Admits bs (Ok t) = (p : Program) × (admission bs ≡ Ok p) × Carries t p
Admits bs (Err f) = admission bs ≡ Err f

-- Beside it, for the machine: in each body every note tells the words that its expression stands over.
pub record BodiesOver (ts : List Ty) (fs : List Fun) (notes : List Note) : Type 0 where
  pub words : (f : ℕ) → f < length fs → NotedOverBody ts fs notes (fun_at fs f) (start_of fs f)

-- the table's notes tell this of the program p
abbrev pub TellsOver : Table → Program → Type 0
TellsOver t p = BodiesOver p.types p.functions t.notes

-- what is answered for a table's bytes besides: a table that tells this of the program that they are admitted as
abbrev pub AdmitsOver : List ℕ → Result Table Fault → Type 0
AdmitsOver bs (Ok t) = (p : Program) → admission bs ≡ Ok p → TellsOver t p
AdmitsOver bs (Err f) = Unit {0}

-- ---- the judge of a listing

-- the body of g, a function with the signature s, stands in the listing from the number n up to j
pub record PosesBody (l : Listing) (s : Signature) (n : ℕ) (ts : List Ty) (fs : List Fun) (g : Fun) (j : ℕ) : Type 0 where
  pub basis : Basis l ts fs
  pub signs : Signs ts s (type_of g)
  pub stands : Stands (names_of ts fs) (listed_nodes l) (length g.params) n g.body j

pub record PosedBody (l : Listing) (s : Signature) (n : ℕ) : Type 0 where
  pub ts : List Ty
  pub fs : List Fun
  pub g : Fun
  pub j : ℕ
  pub is : PosesBody l s n ts fs g j

-- the judgement of one body, which must have its function's result type
abbrev pub body_verdict : List Fun → Fun → ℕ → Verdict (Unit {0})
body_verdict fs g n = judge fs g.body n g.params >>= λ A. demand (same_ty A g.result) TypeFault n tt

pub record PassedBody (ts : List Ty) (fs : List Fun) (g : Fun) (n j : ℕ) (notes notes' : List Note) (k : ℕ) : Type 0 where
  pub typed : body_verdict fs g n ≡ fine tt
  pub ends : k ≡ j
  pub noted : NotedOverBody ts fs notes' g n
  pub earlier : Earlier n notes notes'

abbrev pub AnswersBody : List Ty → List Fun → Fun → ℕ → ℕ → List Note → List Note → Result ℕ Fault → Type 0
AnswersBody ts fs g n j notes notes' (Ok k) = PassedBody ts fs g n j notes notes' k
AnswersBody ts fs g n j notes notes' (Err f) = Faulted (body_verdict fs g n) f

-- all bodies pass and are noted with their words, or the first fault is answered
abbrev pub AnswersBodies : Program → List Note → List ℕ → Result (Unit {0}) Fault → Type 0
AnswersBodies p notes starts (Ok u) =
    (program_verdict p ≡ fine tt) × Bodies p.types p.functions notes starts × BodiesOver p.types p.functions notes
AnswersBodies p notes starts (Err f) = Faulted (program_verdict p) f

abbrev pub AnswersListing : Program → Result Table Fault → Type 0
AnswersListing p (Ok t) = (program_verdict p ≡ fine tt) × Carries t p × TellsOver t p
AnswersListing p (Err f) = Faulted (program_verdict p) f
