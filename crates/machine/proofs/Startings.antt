-- How a run begins on the arguments loaded.
use Rattle.std.proofs.Common.{◌≡◌, ℕ, ◌*◌, ◌<◌, ◌≤◌, min, Bool, true, false, cond, List, [], ◌∷◌, ◌++◌, length, get_or, drop, sym, refl, ap, ◌∙◌, subst, arith}
use Rattle.std.specs.List.{AllByRecursion}
use Rattle.lfpl.specs.Syntax.{Ty, names, Program}
use Rattle.lfpl.specs.Typing.{fun_at}
use Rattle.lfpl.specs.Values.{Typed}
use Rattle.meaning.specs.Act.{types}
use Rattle.meaning.specs.Machine.{body, body_number, start}
use Rattle.meaning.specs.Mean.{widths, ground}
use Rattle.typing.specs.Scopes.{offsets}
use Rattle.typing.specs.Scopes as scopes
use Rattle.pool.specs.Pools.{Meaning}
use Rattle.store.specs.Layout.{occ, used}
use Rattle.store.proofs.Moves.{occ_append, used_le}
use Rattle.store.proofs.Uniques.{shown_used}
use Rattle.code.specs.Nodes.{start_at}
use Rattle.code.specs.Standing.{Narrow, Stands, Encodes}
use Rattle.code.specs.declared.Code.{Code}
use Rattle.acts.specs.Places.{Lying, Lies, cells_of, cells_at, places, from, all, shift}
use Rattle.acts.proofs.Lying.{lies_less, cells_less, widths_types, places_from, length_offsets}
use Rattle.machine.specs.Enacting.{own, Going, Enacts}
use Rattle.machine.specs.Running.{Loading}
use Rattle.machine.specs.declared.Machine.{Machine}
use Rattle.machine.specs.declared.Mode.TheVariants.{Begin}

-- the cells of values that lie are taken
lies_used : (m : Meaning) (ws : List ℕ) (top : ℕ) (need : ℕ → Bool) (xs : List Typed) (ats : List ℕ) → Lies m ws top need xs ats → (c : ℕ)
    → min 1 (occ c (cells_of m ws need xs ats)) ≤ used m c
lies_used m ws top need [] ats l c = omega arith
lies_used m ws top need (x ∷ xs) ats l c =
    omega (
      arith,
      occ_append c (cond (need 0) (cells_at m ws x (get_or ats 0 0)) []) (cells_of m ws (shift need) xs (drop 1 ats)),
      first (need 0) l.0,
      lies_used m ws top (shift need) xs (drop 1 ats) l.1 c,
    )
  where
    first : (b : Bool) → (b ≡ true → Lying m ws top x (get_or ats 0 0)) → min 1 (occ c (cond b (cells_at m ws x (get_or ats 0 0)) [])) ≤ used m c
    first true f = shown_used m x.type x.value ws (get_or ats 0 0) (f refl).shows c
    first false f = omega arith

narrow_widths : (As : List Ty) → AllByRecursion Narrow As → scopes.widths As ≤ 16 * length As
narrow_widths [] h = omega arith
narrow_widths (A ∷ As) h = omega (arith, h.0.low, narrow_widths As h.1)

-- the machine that begins the run
abbrev pub beginning : Machine → ℕ → Machine
beginning x number = record {
  mode = Begin number 0 0 0;
  depth = 0;
  count = x.count;
  loaded = x.loaded;
  words = x.words;
  waiting = x.waiting;
  cells = x.cells;
}

pub begin_run : (code : Code) (f n : ℕ) (x : Machine) (p : Program) (m : Meaning) (xs : List Typed) → n ≡ start_at code f → Encodes code p → f < length p.functions
    → types xs ≡ (fun_at p.functions f).params → Loading m x xs → ((c : ℕ) → occ c (own x) ≤ 1)
    → Enacts p (fun_at p.functions f).result code m (beginning x n) (start p f xs)
begin_run code f n x p m xs k e h t l once =
    let fs = p.functions in
    let R = (fun_at fs f).result in
    let need : ℕ → Bool = λ j. names j (fun_at fs f).body in
    let w = widths_types xs in
    let pl : places 0 xs ≡ from 0 (offsets 0 (types xs)) = places_from 0 0 xs in
    let few : widths xs ≤ 8288 = omega (arith, w, ap scopes.widths t, narrow_widths (fun_at fs f).params (e.params f h).1, (e.params f h).0) in
    let taken : (c : ℕ) → 1 ≤ occ c (own x) → used m c ≡ 1 = λ c o. omega (arith, ap (occ c) l.cells, lies_used m x.words (widths xs) all xs (places 0 xs) l.lie c, used_le m c) in
    let stands : Stands fs code (fun_at fs f).body (body_number fs f) (types xs) (offsets 0 (types xs)) (scopes.widths (types xs)) R =
    subst (λ Γ. Stands fs code (fun_at fs f).body (body_number fs f) Γ (offsets 0 Γ) (scopes.widths Γ) R) (sym t) (e.bodies f h) in
    let lie : Lies m x.words (widths xs) need xs (from 0 (offsets 0 (types xs))) =
    subst (λ q. Lies m x.words (widths xs) need xs q) pl (lies_less m x.words (widths xs) all need xs (places 0 xs) (λ i q. refl) l.lie) in
    let cells : (c : ℕ) → occ c (cells_of m x.words need xs (from 0 (offsets 0 (types xs))) ++ []) ≤ occ c (own x) = λ c.
    omega (
      arith,
      occ_append c (cells_of m x.words need xs (from 0 (offsets 0 (types xs)))) [],
      ap (λ q. occ c (cells_of m x.words need xs q)) pl,
      cells_less m x.words c all need xs (places 0 xs) (λ i q. refl),
      ap (occ c) l.cells,
    ) in
    let going : Going fs code R m x.words x.waiting (own x) 0 0 (body fs f xs (ground xs)) [] = record {
      ps = offsets 0 (types xs);
      pss = [];
      over = scopes.widths (types xs);
      type = R;
      stands = stands;
      based = omega (arith, w);
      near = few;
      high = omega arith;
      down = omega arith;
      long = length_offsets 0 xs;
      variables = lie;
      stack = (refl, refl);
      owned = cells;
    } in
    record {
      founded = record { encodes = e; words_long = l.words_long; waiting_long = l.waiting_long; once = once; taken = taken };
      shape = (body fs f xs (ground xs), [], refl, k ∙ e.starts f h, refl, refl, going);
    }
