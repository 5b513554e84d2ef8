-- What the rows of the rules' table say, and that they say what the typing rules say.
use Rattle.std.specs.Prelude.{◌≡◌, ℕ, ◌<◌, ◌≤◌, Bool, true, ◌&&◌, List, [], ◌∷◌, map, length, take, Some, None, Option, slice_index_or}
use Rattle.lfpl.specs.Syntax.{Ty, int, diamond, same_ty, Head, Fun}
use Rattle.lfpl.specs.Typing.{type_at, fun_at, rule, fits, same_tys, is_list, is_tree, is_pair, is_sum, early}
use Rattle.lfpl.specs.Reading.{Names, shape, Signature as TypeOf}
use Rattle.tables.specs.Listed.{head_by, head_of, InRange, Signs}
use Rattle.tables.specs.declared.listing.Listing.{Listing}
use Rattle.tables.specs.declared.listing.Node.{Node}
use Rattle.tables.specs.declared.listing.Signature.{Signature}
use Rattle.typing.specs.Codes.{Typed, slot_type, slot_types}
use Rattle.typing.specs.declared.codes.Slot as S
use Rattle.typing.specs.declared.rules.About as A
use Rattle.typing.specs.declared.rules.About.TheVariants as About
use Rattle.typing.specs.declared.rules.Maker as M
use Rattle.typing.specs.declared.rules.Maker.TheVariants as Maker
use Rattle.typing.specs.declared.rules.Rule.{Rule}

-- the type is made as the form says, by the tests of the typing rules
abbrev pub made_as : M.Maker → Ty → Bool
made_as Maker.Number A = same_ty A int
made_as Maker.Diamond A = same_ty A diamond
made_as Maker.List A = is_list A
made_as Maker.Tree A = is_tree A
made_as Maker.Pair A = is_pair A
made_as Maker.Sum A = is_sum A

-- the type has the form that is asked for, if one is
abbrev pub asked : Option M.Maker → Ty → Bool
asked None A = true
asked (Some m) A = made_as m A

-- no form is asked for, or that of a type that is made of types; what is to be N or a diamond is asked for by a slot
abbrev pub Composite : Option M.Maker → Type 0
Composite None = Unit {0}
Composite (Some Maker.Number) = ⊥
Composite (Some Maker.Diamond) = ⊥
Composite (Some Maker.List) = Unit {0}
Composite (Some Maker.Tree) = Unit {0}
Composite (Some Maker.Pair) = Unit {0}
Composite (Some Maker.Sum) = Unit {0}

-- what expressions may name, where the entries list the types ts and the functions are fs
abbrev pub names_of : List Ty → List Fun → Names
names_of ts fs = record { types = ts; arities = map (λ f. length f.params) fs }

-- the function's type
abbrev pub type_of : Fun → TypeOf
type_of f = record { params = f.params; result = f.result }

-- the listing lists the types ts, and the types of the functions fs
pub record Basis (l : Listing) (ts : List Ty) (fs : List Fun) : Type 0 where
  pub typed : Typed l ts
  pub few : length fs ≤ 32
  pub signed : (f : ℕ) (d : Signature) → f < length fs → Signs ts (slice_index_or l.signatures f d) (type_of (fun_at fs f))
  pub short : l.expressions ≤ 512

-- what the arms of a rule bind
abbrev pub bound : Rule → List (List S.Slot)
bound r = map (λ b. b.now) r.binds

-- slots are as few as they should be
abbrev pub Short : List S.Slot → Type 0
Short s = length s ≤ 5

abbrev pub AllShort : List (List S.Slot) → Type 0
AllShort [] = Unit {0}
AllShort (s ∷ l) = Short s × AllShort l

-- the types that the parts of an expression must have, where its rule is about the type A: a call's are the function's parameters
abbrev pub wanted : List Fun → A.About → List S.Slot → Ty → List Ty
wanted fs About.Nothing s A = slot_types A s
wanted fs (About.Listed v) s A = slot_types A s
wanted fs (About.Part k) s A = slot_types A s
wanted fs (About.Variable v) s A = slot_types A s
wanted fs (About.Result v) s A = (fun_at fs v).params

-- how many parts there are
abbrev pub parts_of : List Fun → A.About → List S.Slot → ℕ
parts_of fs About.Nothing s = length s
parts_of fs (About.Listed v) s = length s
parts_of fs (About.Part k) s = length s
parts_of fs (About.Variable v) s = length s
parts_of fs (About.Result v) s = length (fun_at fs v).params

-- For an expression over variables of the types Γ.
module _ (ts : List Ty) (fs : List Fun) (Γ : List Ty) where
  -- the type that a rule is about, where the parts have the types As
  abbrev pub subject : List Ty → A.About → Ty
  subject As About.Nothing = int
  subject As (About.Listed v) = type_at ts v
  subject As (About.Part k) = type_at As k
  subject As (About.Variable v) = type_at Γ v
  subject As (About.Result v) = (fun_at fs v).result

  -- there is such a type, where there are n parts
  abbrev pub Known : A.About → ℕ → Type 0
  Known About.Nothing n = Unit {0}
  Known (About.Listed v) n = v < length ts
  Known (About.Part k) n = k < n
  Known (About.Variable v) n = v < length Γ
  Known (About.Result v) n = v < length fs

  -- a row of the table says, of parts of the types As, what the typing rule of the head says
  pub record Says (As : List Ty) (h : Head) (r : Rule) : Type 0 where
    pub known : Known r.about (length r.wants.now)
    pub fit : fits (rule fs Γ h As) As ≡ (asked r.form (subject As r.about) && same_tys As (wanted fs r.about r.wants.now (subject As r.about)))
    pub early : early h ≡ r.early
    pub arms : (r.early ≡ true → asked r.form (subject As r.about) ≡ true) → (rule fs Γ h As).arms ≡ map (slot_types (subject As r.about)) (take r.arms (bound r))
    pub whole : (B : Ty) → r.arms ≡ 0 → (rule fs Γ h As).whole B ≡ slot_type (subject As r.about) r.whole
    pub chosen : (B : Ty) → 1 ≤ r.arms → (rule fs Γ h As).whole B ≡ B
    pub parts : (shape (names_of ts fs).arities h).parts ≡ parts_of fs r.about r.wants.now
    pub binds : (shape (names_of ts fs).arities h).arms ≡ map (λ (s : List S.Slot). length s) (take r.arms (bound r))

-- what a rule is about at an expression with the number v
abbrev pub numbered : ℕ → A.About → A.About
numbered v About.Nothing = About.Nothing
numbered v (About.Listed w) = About.Listed v
numbered v (About.Part k) = About.Part k
numbered v (About.Variable w) = About.Variable v
numbered v (About.Result w) = About.Result v

-- the rule at an expression with the number v
abbrev pub at_number : ℕ → Rule → Rule
at_number v r = record { about = numbered v r.about; form = r.form; early = r.early; wants = r.wants; arms = r.arms; binds = r.binds; whole = r.whole }

-- The rule that the table has for an expression says what the typing rule of its head says; and there is one rule for each kind: with another number in its
-- place, it says what the typing rule of each head of that kind says.
pub record Agrees (x : Node) (r : Rule) : Type 0 where
  pub kind : (ts : List Ty) (fs : List Fun) (Γ As : List Ty) (v : ℕ) → InRange x.kind (names_of ts fs) (length Γ) v → Says ts fs Γ As (head_by x.kind ts v) (at_number v r)
  pub says : (ts : List Ty) (fs : List Fun) (Γ As : List Ty) → InRange x.kind (names_of ts fs) (length Γ) x.number → Says ts fs Γ As (head_of ts x) r
  pub two : r.arms ≤ 2
  pub full : length r.binds ≡ 2
  pub short : AllShort (r.wants.now ∷ bound r)
