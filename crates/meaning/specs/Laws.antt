-- What holds of meanings and runs: a run ends as its meaning says, within the limits as without them, and halts exactly at the limits.
use Rattle.std.specs.Prelude.{◌≡◌, ℕ, suc, ◌+◌, ◌<◌, ◌≤◌, ◌⊎◌, ◌↔◌, List}
use Rattle.std.proofs.Math.Option.{some}
use Rattle.lfpl.specs.Syntax.{Program}
use Rattle.lfpl.specs.Typing.{fun_at}
use Rattle.lfpl.specs.Values.{Typed}
use Rattle.meaning.specs.Mean.{Level, Why, height, words, Limit, limited, unlimited, End, gives, halts, Valuation, mean, approx, Means}
use Rattle.meaning.specs.Machine.{State, going, Item, Frame, run, after, start, ended}
use Rattle.meaning.specs.Sound.{Apt}

-- the valuation is its own next: what it says of each function is what the function's body means over it
abbrev pub Settled : Program → Limit → Valuation → Type 0
Settled p L σ = (f : ℕ) (xs : List Typed) (l : Level) → σ f xs l ≡ mean p.functions L σ (fun_at p.functions f).body xs l

-- The meaning is the least valuation that is its own next: the approximations ascend to it, and each valuation that is its own next has what they have.
abbrev pub LeastLaw : Type 0
LeastLaw =
    (p : Program) (L : Limit) (k f : ℕ) (xs : List Typed) (l : Level) (r : End Typed × ℕ) → approx p L k f xs l ≡ some r
    → (approx p L (suc k) f xs l ≡ some r) × ((σ : Valuation) → Settled p L σ → σ f xs l ≡ some r)

-- m steps bring a run to the end x at its n-th step exactly if x, at the n-th step, is what the function means and n is no more than m.
abbrev pub EndsLaw : Type 0
EndsLaw =
    (p : Program) (L : Limit) (f : ℕ) (xs : List Typed) (x : End Typed) (n m : ℕ)
    → (Means p L f xs x n × (n ≤ m)) ↔ (run p L m (start p f xs) ≡ (ended x, n))

-- Short of an end each step is taken: where m steps leave no end, m were taken.
abbrev pub GoingLaw : Type 0
GoingLaw =
    (p : Program) (L : Limit) (f : ℕ) (xs : List Typed) (m : ℕ)
    → ((x : End Typed) → ¬ ((run p L m (start p f xs)).0 ≡ ended x)) → (run p L m (start p f xs)).1 ≡ m

-- A run may be carried in pieces: n steps and then m more are n + m steps.
abbrev pub PiecesLaw : Type 0
PiecesLaw = (p : Program) (L : Limit) (n m : ℕ) (s : State) → run p L (n + m) s ≡ after (run p L n s).1 (run p L m (run p L n s).0)

-- the limited run has the value at the n-th step, or it halts, no later
abbrev pub GivesOrHalts : Program → ℕ → List Typed → Typed → ℕ → Type 0
GivesOrHalts p f xs v n = Means p limited f xs (gives v) n ⊎ ((y : Why) × (m : ℕ) × (m ≤ n) × Means p limited f xs (halts y) m)

-- A value within the limits is Hofmann's value, after as many steps; and where his meaning has a value, the limited run has it too, after as many steps, or halts.
abbrev pub LimitsLaw : Type 0
LimitsLaw =
    (p : Program) (f : ℕ) (xs : List Typed) (v : Typed) (n : ℕ)
    → (Means p limited f xs (gives v) n → Means p unlimited f xs (gives v) n) × (Means p unlimited f xs (gives v) n → GivesOrHalts p f xs v n)

-- a level at which nothing may begin, and why
abbrev pub Over : Why → Level → Type 0
Over height l = 4096 ≤ l.height
Over words l = (l.height < 4096) × (8192 < l.words)

-- A run of a judged program that is going after n steps halts at the next exactly if that step would begin its expression at height 4,096 or over more than 8,192
-- words, and then says why, height before words.
abbrev pub HaltsLaw : Type 0
HaltsLaw =
    (p : Program) (f : ℕ) (xs : List Typed) (n : ℕ) (i : Item) (K : List Frame) (y : Why)
    → Apt p f xs → run p limited n (start p f xs) ≡ (going i K, n)
    → Means p limited f xs (halts y) (suc n) ↔ Over y i.level
