-- Variables in scope, and where their words lie.
use Rattle.std.proofs.Common.{◌≡◌, ℕ, ◌+◌, ◌^◌, ◌<◌, Bool, not, ◌&&◌, ◌||◌, eqb, List, [], ◌∷◌, ◌++◌, length, get_or, map, take, set, sym, ap, ◌∙◌, subst, ap₂, append_assoc, arith}
use lib.ListN.{length-map}
use lib.Bits.{bit_or, or_lt}
use Rattle.std.proofs.lemmas.List.{map-append, take_more}
use Rattle.lfpl.specs.Syntax.{Ty, int, width, is_heap_free}
use Rattle.lfpl.specs.Typing.{type_at}
use Rattle.typing.specs.Codes.{Coded, CodedAll}
use Rattle.typing.specs.Scopes.{widths, offsets}
use Rattle.typing.specs.Scopes.{Scopes, has}
use Rattle.typing.specs.declared.codes.Code as C
use Rattle.typing.specs.declared.codes.Code.TheVariants as Code
use Rattle.typing.specs.declared.scope.Scope.{Scope}
use Rattle.typing.specs.declared.scope.Variable.{Variable}
use Rattle.typing.proofs.Coding.{coded_length, coded_or, coded_push}
use Rattle.typing.proofs.Masks.{has_or, heavy_push}

pub scope_length : (ts : List Ty) (s : Scope) (Γ : List Ty) (ps : List ℕ) → Scopes ts s Γ ps → length Γ ≡ length s.variables.items
scope_length ts s Γ ps h =
    let n = coded_length ts _ Γ h.codes in
    let m = length-map s.variables.items (λ (v : Variable). v.code) in
    omega arith

-- the code of a variable
pub variable_at : (ts : List Ty) (s : Scope) (Γ : List Ty) (ps : List ℕ) (v : ℕ) → Scopes ts s Γ ps → Coded ts (get_or (map (λ (x : Variable). x.code) s.variables.items) v Code.Number) (type_at Γ v)
variable_at ts s Γ ps v h = coded_or ts _ Γ v h.codes

-- one variable more
pub scopes_push : (ts Γ : List Ty) (A : Ty) (ps : List ℕ) (s s' : Scope) (c : C.Code) (over bit : ℕ) (free : Bool) → Scopes ts s Γ ps → Coded ts c A
    → ((v : ℕ) → has bit v ≡ (not free && eqb v (length s.variables.items))) → bit < 2 ^ 32 → free ≡ is_heap_free A
    → s'.variables.items ≡ s.variables.items ++ record { code = c; place = over } ∷ [] → s'.heavy ≡ bit_or s.heavy bit
    → Scopes ts s' (Γ ++ A ∷ []) (ps ++ over ∷ [])
scopes_push ts Γ A ps s s' c over bit free h k b small e more set =
    let n = scope_length ts s Γ ps h in
    let x : Variable = record { code = c; place = over } in
    let codes = ap (map (λ (v : Variable). v.code)) more ∙ map-append (λ (v : Variable). v.code) s.variables.items (x ∷ []) in
    let places = ap (map (λ (v : Variable). v.place)) more ∙ map-append (λ (v : Variable). v.place) s.variables.items (x ∷ []) in
    record {
      codes = subst (λ (cs : List C.Code). CodedAll ts cs (Γ ++ A ∷ [])) (sym codes) (coded_push ts _ Γ c A h.codes k);
      places = places ∙ ap (λ (l : List ℕ). l ++ over ∷ []) h.places;
      small = subst (λ m. m < 2 ^ 32) (sym set) (or_lt 32 s.heavy bit h.small small);
      heavy = λ v. ap (λ m. has m v) set ∙ has_or s.heavy bit v
          ∙ ap₂ ◌||◌ (h.heavy v) (b v ∙ ap₂ (λ (x : Bool) (m : ℕ). not x && eqb v m) e (sym n)) ∙ sym (heavy_push Γ A v);
    }

pub widths_push : (As : List Ty) (A : Ty) → widths (As ++ A ∷ []) ≡ widths As + width A
widths_push [] A = omega arith
widths_push (B ∷ As) A = let e = widths_push As A in omega arith

pub offsets_push : (over : ℕ) (As : List Ty) (A : Ty) → offsets over (As ++ A ∷ []) ≡ offsets over As ++ (over + widths As) ∷ []
offsets_push over [] A = ap (λ (x : ℕ). x ∷ []) (omega arith)
offsets_push over (B ∷ As) A =
    ap (λ (x : List ℕ). over ∷ x) (offsets_push (over + width B) As A ∙ ap (λ (x : ℕ). offsets (over + width B) As ++ x ∷ []) (omega arith))

-- a row of variables more, one by one
module _ (As : List Ty) (k : ℕ) (h : k < length As) where
  next : take (k + 1) As ≡ take k As ++ type_at As k ∷ []
  next = take_more As k int h

  pub next_types : (Γ : List Ty) → (Γ ++ take k As) ++ type_at As k ∷ [] ≡ Γ ++ take (k + 1) As
  next_types Γ = append_assoc Γ (take k As) (type_at As k ∷ []) ∙ ap (λ (x : List Ty). Γ ++ x) (sym next)

  pub next_places : (ps : List ℕ) (over w : ℕ) → w ≡ over + widths (take k As) → (ps ++ offsets over (take k As)) ++ w ∷ [] ≡ ps ++ offsets over (take (k + 1) As)
  next_places ps over w e =
      append_assoc ps (offsets over (take k As)) (w ∷ [])
      ∙ ap (λ (x : List ℕ). ps ++ x) (ap (λ (x : ℕ). offsets over (take k As) ++ x ∷ []) e ∙ sym (offsets_push over (take k As) (type_at As k)) ∙ ap (offsets over) (sym next))

  pub next_widths : (over w : ℕ) → w ≡ over + widths (take k As) → w + width (type_at As k) ≡ over + widths (take (k + 1) As)
  next_widths over w e = let p = ap widths next in let q = widths_push (take k As) (type_at As k) in omega arith

-- the same scope under equations
pub scopes_as : (ts : List Ty) (s : Scope) (Γ Γ' : List Ty) (ps ps' : List ℕ) → Γ ≡ Γ' → ps ≡ ps' → Scopes ts s Γ ps → Scopes ts s Γ' ps'
scopes_as ts s Γ Γ' ps ps' p q h = subst (λ (x : List ℕ). Scopes ts s Γ' x) q (subst (λ (x : List Ty). Scopes ts s x ps) p h)
