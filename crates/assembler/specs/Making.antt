-- How an expression of code is made of what a table lists and notes.
use Rattle.std.specs.Prelude.{◌≡◌, ℕ, ◌+◌, ◌%◌, Bool, true, false, cond, List, slice_index, slice_index_or}
use Rattle.std.specs.Int.{w32}
use Rattle.std.proofs.Common.{of_z}
use Rattle.code.specs.Standing.{code_infix}
use Rattle.code.specs.declared.Node.{Node}
use Rattle.code.specs.declared.Op.{Op}
use Rattle.code.specs.declared.Op.TheVariants.{Variable, Call, Constant, Apply, Guard, Pair, Split, Tag, CaseSum, Empty, Cons, CaseList, Fork, CaseTree}
use Rattle.judge.specs.Notes.{note_at}
use Rattle.judge.specs.declared.table.Note.{Note}
use Rattle.judge.specs.declared.table.Table.{Table}
use Rattle.lfpl.specs.Syntax.{Ty, width, first, second, Head, var, call, const, apply, guard, mk_pair, case_pair, mk_left, mk_right, case_sum, mk_nil, mk_cons, case_list, mk_leaf, mk_node, case_tree}
use Rattle.meaning.specs.Act.{wrap}
use Rattle.tables.specs.Listed.{head_of}
use Rattle.tables.specs.declared.listing.Kind.TheVariants as Kind
use Rattle.tables.specs.declared.listing.Node as L
use Rattle.typing.specs.Codes.{Coded, Typed}
use Rattle.assembler.specs.declared.Widths.{Widths}

-- a number as code has it
abbrev pub word_of : ℕ → ℕ
word_of n = n % 65536

-- the widths of a type and of those that it is made of
abbrev pub type_widths : Ty → Widths
type_widths A = record { whole = width A; left = width (first A); right = width (second A) }

-- the head chooses an arm by the first part
abbrev pub is_choice_head : Head → Bool
is_choice_head (var i) = false
is_choice_head (call f) = false
is_choice_head (const z) = false
is_choice_head (apply o) = false
is_choice_head guard = true
is_choice_head (mk_pair A) = false
is_choice_head case_pair = true
is_choice_head (mk_left A) = false
is_choice_head (mk_right A) = false
is_choice_head case_sum = true
is_choice_head (mk_nil A) = false
is_choice_head mk_cons = false
is_choice_head case_list = true
is_choice_head (mk_leaf A) = false
is_choice_head mk_node = false
is_choice_head case_tree = true

-- the operation of a head, where a variable lies at a place, a function's body begins at a number, and the type that the head is about has the widths
abbrev pub operation_by : Head → ℕ → ℕ → Widths → Op
operation_by (var i) place start w = Variable place w.whole
operation_by (call f) place start w = Call start
operation_by (const z) place start w = Constant (of_z w32 (wrap z))
operation_by (apply o) place start w = Apply (code_infix o)
operation_by guard place start w = Guard
operation_by (mk_pair A) place start w = Pair w.whole
operation_by case_pair place start w = Split
operation_by (mk_left A) place start w = Tag 0 w.left
operation_by (mk_right A) place start w = Tag 1 w.right
operation_by case_sum place start w = CaseSum w.left w.right
operation_by (mk_nil A) place start w = Empty
operation_by mk_cons place start w = Cons w.left
operation_by case_list place start w = CaseList w.left
operation_by (mk_leaf A) place start w = Tag 0 w.left
operation_by mk_node place start w = Fork w.left
operation_by case_tree place start w = CaseTree w.left

-- what is listed at the number n
abbrev pub listed_at : Table → ℕ → L.Node
listed_at t n = slice_index_or t.listing.nodes n (record { kind = Kind.Variable; number = 0 })

-- the note at what the expression with the number n is about: the first part of a choice, and else the expression itself
abbrev pub about_at : Table → Head → ℕ → Note
about_at t h n = cond (is_choice_head h) (note_at t.notes ((n + 1) % 512)) (note_at t.notes n)

-- the expression with the number n is made of the table
pub record Made (t : Table) (n : ℕ) (x : Node) : Type 0 where
  pub works : (ts : List Ty) (A : Ty) → Typed t.listing ts → Coded ts (about_at t (head_of ts (listed_at t n)) n).code A
      → x.op ≡ operation_by (head_of ts (listed_at t n)) (word_of (note_at t.notes n).place) (word_of (slice_index t.starts ((listed_at t n).number % 32))) (type_widths A)
  pub stands : x.over ≡ word_of (note_at t.notes n).over
  pub choices : (ts : List Ty) → x.arms ≡ word_of (about_at t (head_of ts (listed_at t n)) n).end
  pub ends : x.end ≡ word_of (note_at t.notes n).end
