-- The approximations ascend to the least valuation that is its own next: the meaning of an expression grows with the valuation.
use Rattle.std.proofs.Common.{◌≡◌, ℕ, zero, suc, List, [], ◌∷◌, ◌++◌, refl, ap}
use mathlib.Core.Option.{Option, none, some}
use mathlib.Core.Path.{subst⁻¹}
use Rattle.lfpl.specs.Syntax.{Expr, Exprs, expr, end, ◌then◌, Fun, Program}
use Rattle.lfpl.specs.Typing.{fun_at}
use Rattle.lfpl.specs.Values.{Typed}
use Rattle.meaning.specs.Act.{Act, give, choose, enter, stuck, act}
use Rattle.meaning.specs.Mean.{Level, above, body_level, Why, Limit, End, gives, halts, wrong, Meaning, later, next, unless, Valuation, settled, mean, means, mean_arm, approx}
use Rattle.meaning.specs.Laws.{Settled, LeastLaw}

-- what the first meaning has, the second has too
abbrev Below : {X : Type 0} → Meaning X → Meaning X → Type 0
Below none m = Unit {0}
Below (some r) m = m ≡ some r

below_later : {X : Type 0} (n : ℕ) (x y : Meaning X) → Below x y → Below (later n x) (later n y)
below_later n none y h = tt
below_later n (some (e, k)) y h = ap (λ m. later n m) h

below_next : {X Y : Type 0} (x y : Meaning X) (f g : X → Meaning Y) → Below x y → ((a : X) → Below (f a) (g a)) → Below (next x f) (next y g)
below_next none y f g h k = tt
below_next (some (gives a, n)) y f g h k = subst⁻¹ (λ m. Below (later n (f a)) (next m g)) h (below_later n (f a) (g a) (k a))
below_next (some (halts w, n)) y f g h k = ap (λ m. next m g) h
below_next (some (wrong, n)) y f g h k = ap (λ m. next m g) h

below_unless : {X : Type 0} (o : Option Why) (f g : Unit {0} → Meaning X) → Below (f tt) (g tt) → Below (unless o f) (unless o g)
below_unless none f g h = below_later 1 (f tt) (g tt) h
below_unless (some w) f g h = refl

below_settled : (a : Act) (r r' b b' : ℕ → List Typed → Meaning Typed)
    → ((i : ℕ) (xs : List Typed) → Below (r i xs) (r' i xs)) → ((i : ℕ) (xs : List Typed) → Below (b i xs) (b' i xs)) → Below (settled a r b) (settled a r' b')
below_settled (give v) r r' b b' h k = refl
below_settled (choose i xs) r r' b b' h k = h i xs
below_settled (enter f xs) r r' b b' h k = k f xs
below_settled stuck r r' b b' h k = refl

module _ (fs : List Fun) (L : Limit) (ρ σ : Valuation) (known : (f : ℕ) (xs : List Typed) (l : Level) → Below (ρ f xs l) (σ f xs l)) where
  mutual
    below : (e : Expr) (env : List Typed) (l : Level) → Below (mean fs L ρ e env l) (mean fs L σ e env l)
    below (expr h ps qs) env l =
        below_unless (L l) _ _
        (below_next (means fs L ρ ps env [] l) (means fs L σ ps env [] l) _ _ (below_parts ps env [] l)
        (λ vs. below_settled (act fs h env vs) _ _ _ _ (λ i xs. below_arm qs i (env ++ xs) (above l xs)) (λ f xs. known f xs (body_level l xs))))

    below_parts : (ps : Exprs) (env vs : List Typed) (l : Level) → Below (means fs L ρ ps env vs l) (means fs L σ ps env vs l)
    below_parts end env vs l = refl
    below_parts (e then es) env vs l =
        below_next (mean fs L ρ e env (above l vs)) (mean fs L σ e env (above l vs)) _ _ (below e env (above l vs)) (λ v. below_parts es env (vs ++ (v ∷ [])) l)

    below_arm : (qs : Exprs) (i : ℕ) (env : List Typed) (l : Level) → Below (mean_arm fs L ρ qs i env l) (mean_arm fs L σ qs i env l)
    below_arm end i env l = refl
    below_arm (q then qs) zero env l = below q env l
    below_arm (q then qs) (suc i) env l = below_arm qs i env l

module _ (p : Program) (L : Limit) where
  ascends : (k f : ℕ) (xs : List Typed) (l : Level) → Below (approx p L k f xs l) (approx p L (suc k) f xs l)
  ascends zero f xs l = tt
  ascends (suc k) f xs l =
      below p.functions L (λ g ys m. approx p L k g ys m) (λ g ys m. approx p L (suc k) g ys m) (ascends k) (fun_at p.functions f).body xs l

  least : (σ : Valuation) → Settled p L σ → (k f : ℕ) (xs : List Typed) (l : Level) → Below (approx p L k f xs l) (σ f xs l)
  least σ own zero f xs l = tt
  least σ own (suc k) f xs l =
      subst⁻¹ (λ m. Below (approx p L (suc k) f xs l) m) (own f xs l)
      (below p.functions L (λ g ys m. approx p L k g ys m) σ (least σ own k) (fun_at p.functions f).body xs l)

has_below : {X : Type 0} (x y : Meaning X) (r : End X × ℕ) → Below x y → x ≡ some r → y ≡ some r
has_below x y r h e = rw e at h

pub least_law : LeastLaw
least_law p L k f xs l r e =
    (has_below _ _ r (ascends p L k f xs l) e, λ σ own. has_below _ _ r (least p L σ own k f xs l) e)
