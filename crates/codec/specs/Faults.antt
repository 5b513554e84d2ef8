-- The numbers of the refusals, and how a fault is told in words.
use Rattle.std.specs.Prelude.{ℕ, List, ◌++◌, codes, decimal}
use Rattle.codec.specs.declared.fault.Fault.{Fault}
use Rattle.codec.specs.declared.fault.Part.{Part}
use Rattle.codec.specs.declared.fault.Part.TheVariants as P
use Rattle.codec.specs.declared.fault.Refusal.{Refusal}
use Rattle.codec.specs.declared.fault.Refusal.TheVariants as R

-- the number by which each refusal goes
abbrev pub number_of : Refusal → ℕ
number_of R.Ended = 1
number_of R.Overlong = 2
number_of R.OutOfRange = 3
number_of R.EntryRepeated = 4
number_of R.TooWide = 5
number_of R.TooManyExpressions = 6
number_of R.TooManyVariables = 7
number_of R.BytesOver = 8
number_of R.TypeFault = 9
number_of R.Sharing = 10
number_of R.NoSuchShelf = 11
number_of R.NoSuchTypeOrFunction = 12
number_of R.ShelfFilled = 13
number_of R.ShelfEmpty = 14
number_of R.CellsLacking = 15
number_of R.RunStands = 16
number_of R.TicketUnfit = 17
number_of R.AreaTooShort = 18
number_of R.ArgumentsUnfit = 19
number_of R.ShelfFilledAtAdopt = 20

-- what a part is called
abbrev pub part_name : Part → List ℕ
part_name P.Table = codes "table"
part_name P.Value = codes "value"
part_name P.Judgement = codes "judgement"
part_name P.Programmer = codes "programmer"

-- a refusal in a few plain words
abbrev pub explanation : Refusal → List ℕ
explanation R.Ended = codes "the bytes end in or before a number"
explanation R.Overlong = codes "a number's fifth byte is over 15"
explanation R.OutOfRange = codes "a count, kind, operator, mark or reference is out of range"
explanation R.EntryRepeated = codes "a type is listed twice"
explanation R.TooWide = codes "a type is too wide"
explanation R.TooManyExpressions = codes "more than 512 expressions"
explanation R.TooManyVariables = codes "more than 32 variables in scope"
explanation R.BytesOver = codes "bytes are left over"
explanation R.TypeFault = codes "the types do not fit"
explanation R.Sharing = codes "a variable that holds cells is used twice"
explanation R.NoSuchShelf = codes "there is no such shelf"
explanation R.NoSuchTypeOrFunction = codes "there is no such type or function"
explanation R.ShelfFilled = codes "the shelf is filled"
explanation R.ShelfEmpty = codes "the shelf is empty"
explanation R.CellsLacking = codes "too few cells are spare"
explanation R.RunStands = codes "a run stands"
explanation R.TicketUnfit = codes "the ticket is of another box or of no standing run"
explanation R.AreaTooShort = codes "the area is too short"
explanation R.ArgumentsUnfit = codes "the arguments do not fit the function"
explanation R.ShelfFilledAtAdopt = codes "a shelf is filled"

-- a fault in one line
abbrev pub fault_text : Fault → List ℕ
fault_text f =
    codes "refused " ++ decimal (number_of f.refusal) ++ codes " at " ++ decimal f.place ++ codes " (" ++ part_name f.part ++ codes "): " ++ explanation f.refusal
