-- Notes say the same where they are the same, and what is noted with its words is noted.
use Rattle.std.proofs.Common.{◌≡◌, ℕ, ◌+◌, ◌<◌, ◌≤◌, List, [], ◌∷◌, ◌++◌, length, get_or, sym, ap, ◌∙◌, subst, arith}
use Rattle.lfpl.specs.Syntax.{Ty, width, Head, Expr, Exprs, expr, end, ◌then◌, size, sizes, Fun}
use Rattle.lfpl.specs.Typing.{rule}
use Rattle.typing.specs.Codes.{Coded}
use Rattle.judge.specs.Over.{NotedOverAt, NotedOver, NotedOverAll, NotedOverArms, NotedOverBody}
use Rattle.judge.specs.Notes.{note_at, offsets, widths, NotedAt, NotedBody, Each, EachPart, EachArm}
use Rattle.judge.specs.declared.table.Note.{Note}

-- the notes from n up to m are the same
abbrev pub Same : List Note → List Note → ℕ → ℕ → Type 0
Same notes notes' n m = (i : ℕ) (d : Note) → n ≤ i → i < m → get_or notes' i d ≡ get_or notes i d

module _ (ts : List Ty) (fs : List Fun) (notes notes' : List Note) (long : length notes ≤ length notes') where
  at_kept : (n : ℕ) (h : Head) (ps qs : Exprs) (Γ : List Ty) (places : List ℕ) (over : ℕ) (As : List Ty) (B W : Ty) → note_at notes' n ≡ note_at notes n
      → NotedOverAt ts fs notes n h ps qs Γ places over As B W → NotedOverAt ts fs notes' n h ps qs Γ places over As B W
  at_kept n h ps qs Γ places over As B W e a =
      let i = a.noted.inside in
      record {
        noted = record {
          inside = omega arith;
          code = subst (λ (x : Note). Coded ts x.code W) (sym e) a.noted.code;
          ends = ap (λ (x : Note). x.end) e ∙ a.noted.ends;
          place = λ v q. ap (λ (x : Note). x.place) e ∙ a.noted.place v q;
          fit = a.noted.fit;
          whole = a.noted.whole;
          apart = a.noted.apart;
        };
        over = ap (λ (x : Note). x.over) e ∙ a.over;
        few = a.few;
      }

  mutual
    pub kept : (e : Expr) (n : ℕ) (Γ : List Ty) (places : List ℕ) (over : ℕ) (W : Ty) → Same notes notes' n (n + size e)
        → NotedOver ts fs notes e n Γ places over W → NotedOver ts fs notes' e n Γ places over W
    kept (expr h ps qs) n Γ places over W s t = (
      t.0,
      t.1,
      at_kept n h ps qs Γ places over t.0 t.1 W (s n _ (omega arith) (omega arith)) t.2,
      kept_all ps (n + 1) Γ places over t.0 (λ i d l u. s i d (omega arith) (omega arith)) t.3,
      kept_arms qs (n + 1 + sizes ps) (rule fs Γ h t.0).arms Γ places over t.1 (λ i d l u. s i d (omega arith) (omega arith)) t.4,
    )

    pub kept_all : (es : Exprs) (n : ℕ) (Γ : List Ty) (places : List ℕ) (over : ℕ) (As : List Ty) → Same notes notes' n (n + sizes es)
        → NotedOverAll ts fs notes es n Γ places over As → NotedOverAll ts fs notes' es n Γ places over As
    kept_all end n Γ places over [] s t = tt
    kept_all end n Γ places over (A ∷ As) s t = absurd t
    kept_all (e then es) n Γ places over [] s t = absurd t
    kept_all (e then es) n Γ places over (A ∷ As) s t = (
      kept e n Γ places over A (λ i d l u. s i d l (omega arith)) t.0,
      kept_all es (n + size e) Γ places (over + width A) As (λ i d l u. s i d (omega arith) (omega arith)) t.1,
    )

    pub kept_arms : (es : Exprs) (n : ℕ) (bs : List (List Ty)) (Γ : List Ty) (places : List ℕ) (over : ℕ) (B : Ty) → Same notes notes' n (n + sizes es)
        → NotedOverArms ts fs notes es n bs Γ places over B → NotedOverArms ts fs notes' es n bs Γ places over B
    kept_arms end n [] Γ places over B s t = tt
    kept_arms end n (b ∷ bs) Γ places over B s t = absurd t
    kept_arms (q then qs) n [] Γ places over B s t = absurd t
    kept_arms (q then qs) n (b ∷ bs) Γ places over B s t = (
      kept q n (Γ ++ b) (places ++ offsets over b) (over + widths b) B (λ i d l u. s i d l (omega arith)) t.0,
      kept_arms qs (n + size q) bs Γ places over B (λ i d l u. s i d (omega arith) (omega arith)) t.1,
    )

-- what says more at each expression says more of all
module _ (fs : List Fun) (More Less : ℕ → Head → Exprs → Exprs → List Ty → List ℕ → ℕ → List Ty → Ty → Ty → Type 0)
    (less : (n : ℕ) (h : Head) (ps qs : Exprs) (Γ : List Ty) (places : List ℕ) (over : ℕ) (As : List Ty) (B W : Ty) → More n h ps qs Γ places over As B W → Less n h ps qs Γ places over As B W) where
  mutual
    pub each_less : (e : Expr) (n : ℕ) (Γ : List Ty) (places : List ℕ) (over : ℕ) (W : Ty) → Each fs More e n Γ places over W → Each fs Less e n Γ places over W
    each_less (expr h ps qs) n Γ places over W t = (
      t.0,
      t.1,
      less n h ps qs Γ places over t.0 t.1 W t.2,
      part_less ps (n + 1) Γ places over t.0 t.3,
      arm_less qs (n + 1 + sizes ps) (rule fs Γ h t.0).arms Γ places over t.1 t.4,
    )

    pub part_less : (es : Exprs) (n : ℕ) (Γ : List Ty) (places : List ℕ) (over : ℕ) (As : List Ty) → EachPart fs More es n Γ places over As → EachPart fs Less es n Γ places over As
    part_less end n Γ places over [] t = tt
    part_less end n Γ places over (A ∷ As) t = absurd t
    part_less (e then es) n Γ places over [] t = absurd t
    part_less (e then es) n Γ places over (A ∷ As) t = (each_less e n Γ places over A t.0, part_less es (n + size e) Γ places (over + width A) As t.1)

    pub arm_less : (es : Exprs) (n : ℕ) (bs : List (List Ty)) (Γ : List Ty) (places : List ℕ) (over : ℕ) (B : Ty) → EachArm fs More es n bs Γ places over B
        → EachArm fs Less es n bs Γ places over B
    arm_less end n [] Γ places over B t = tt
    arm_less end n (b ∷ bs) Γ places over B t = absurd t
    arm_less (q then qs) n [] Γ places over B t = absurd t
    arm_less (q then qs) n (b ∷ bs) Γ places over B t =
        (each_less q n (Γ ++ b) (places ++ offsets over b) (over + widths b) B t.0, arm_less qs (n + size q) bs Γ places over B t.1)

-- a body that is noted with its words is noted
pub over_noted_body : (ts : List Ty) (fs : List Fun) (notes : List Note) (f : Fun) (n : ℕ) → NotedOverBody ts fs notes f n → NotedBody ts fs notes f n
over_noted_body ts fs notes f n t =
    each_less fs (NotedOverAt ts fs notes) (λ m h ps qs Γ places over As B W. NotedAt ts fs notes m h ps qs Γ places As B W)
    (λ m h ps qs Γ places over As B W a. a.noted) f.body n f.params (offsets 0 f.params) (widths f.params) f.result t
