-- What each call does to an agreement.
use Rattle.std.proofs.Common.{◌≡◌, ℕ, ◌+◌, ◌-◌, ◌<◌, ◌≤◌, min, Bool, true, false, cond, ltb, leb, List, [], ◌++◌, length, get_or, set, is_some, Some, None, Ok, Err, Option, sym, refl, ap, ◌∙◌, subst, ap₂, arith, length-set, zero, suc, ◌∷◌}
use Rattle.std.proofs.lemmas.List.{get_or-set_same}
use Rattle.std.specs.Prelude.{position}
use Rattle.std.specs.List.{position_or_len}
use Rattle.std.specs.Option.{ok_or}
use Rattle.std.proofs.lemmas.Bool.{lt-ltb, le-ltb, le-leb, lt-leb, ltb-false}
use Rattle.codec.specs.Reading.{Scan, done, refused}
use Rattle.codec.specs.declared.fault.Fault.{Fault}
use Rattle.codec.specs.declared.fault.Refusal.TheVariants.{NoSuchShelf, NoSuchTypeOrFunction, ShelfFilled, ShelfEmpty, RunStands, AreaTooShort, ShelfFilledAtAdopt}
use Rattle.lfpl.specs.Admission.{admission}
use Rattle.lfpl.specs.Syntax.{Ty, Program}
use Rattle.lfpl.specs.Typing.{type_at}
use Rattle.lfpl.specs.Values.{Val, charge, write}
use Rattle.pool.specs.Pools.{Meaning}
use Rattle.tables.specs.Listed.{Types}
use Rattle.tables.specs.declared.listing.Entry.{Entry}
use Rattle.judge.specs.Admitting.{Admits}
use Rattle.judge.specs.declared.table.Table.{Table}
use Rattle.store.specs.Building.{Holds, Puts}
use Rattle.store.specs.Decoding.{decode}
use Rattle.store.specs.Layout.{Shows, footprint, occ}
use Rattle.store.specs.Releasing.{Releases}
use Rattle.store.specs.Scanning.{Listed}
use Rattle.store.specs.Walking.{Walks, Written}
use Rattle.store.specs.Laws.{IsDecoded}
use Rattle.store.proofs.Decodes.{is_decoded}
use Rattle.store.proofs.Moves.{occ_append, used_le}
use Rattle.store.proofs.Uniques.{holds_charge}
use Rattle.programmer.specs.Ledger.{Content, nothing, value, Run, Ledger, with_table, with_shelf, types_in, types_of, shelf, cost, spare_in, Call, adopt, put, show, spare, empty, Answer, granted, shown, refuses, Turn, fault, is_nothing, is_filled, lowest, adopted, filled, turn}
use Rattle.programmer.specs.Agreement.{View, Tabled, Stands, cells_on, cells_on_all, cells_of_run, Runs, cells_held, Agrees, Besides, cells_at, Pooled, Follows, Plainly, Shown, Left, stored_on, looked_at, free_on, vacant_at}
use Rattle.programmer.specs.Shelved.{entries_in}
use Rattle.programmer.specs.declared.run.Run as running
use Rattle.programmer.specs.declared.shelf.Stored.{Stored}
use Rattle.programmer.proofs.Rows.{stand_at, stand_set, stand_length, cells_set, found_nothing, found_value, lowest_is, costs_set, stand_moved, stand_bare}

-- ---- turns

-- a call that takes the turn x follows the ledger where this holds of x
abbrev FollowsTo : Call → (Answer → Type 0) → Meaning → Ledger → Meaning → View → Meaning → View → Turn → Type 0
FollowsTo c T made l m p m' q x = T x.0 × Agrees made x.1 m' q × Pooled c x.0 l m p x.1 m' q

by_turn : (c : Call) (T : Answer → Type 0) (made : Meaning) (l : Ledger) (m : Meaning) (p : View) (m' : Meaning) (q : View) (x : Turn) → turn c l ≡ x
    → FollowsTo c T made l m p m' q x → Follows c T made l m p m' q
by_turn c T made l m p m' q x e f =
    let g = subst (FollowsTo c T made l m p m' q) (sym e) f in
    record { told = g.0; agrees = g.1; pooled = g.2 }

pooled_refused : (c : Call) (f : Fault) (l : Ledger) (m : Meaning) (p : View) (l' : Ledger) (m' : Meaning) (q : View) → m' ≡ m → Pooled c (refuses f) l m p l' m' q
pooled_refused (adopt bs) f l m p l' m' q e = e
pooled_refused (put i t bs) f l m p l' m' q e = e
pooled_refused (show i n) f l m p l' m' q e = e
pooled_refused spare f l m p l' m' q e = e
pooled_refused (empty i) f l m p l' m' q e = e

-- a call that is refused
refuse : (c : Call) (T : Answer → Type 0) (made : Meaning) (l : Ledger) (m : Meaning) (p : View) (m' : Meaning) (f : Fault) → m' ≡ m → Agrees made l m p
    → turn c l ≡ (refuses f, l) → T (refuses f) → Follows c T made l m p m' p
refuse c T made l m p m' f e a x t =
    by_turn c T made l m p m' p _ x (t, subst (λ (y : Meaning). Agrees made l y p) (sym e) a, pooled_refused c f l m p l m' p e)

-- ---- what is found on shelves

-- that no value can be put on the shelf is told by the ledger too
vacant_refused : (m : Meaning) (ts : List Ty) (l : Ledger) (b : Bool) (x : Content) (s : Option Stored) (f : Fault) (t : Turn) → Stands m ts x s
    → Err f ≡ cond b (Err (fault NoSuchShelf 0)) (free_on s)
    → ◌≡◌ {A = Turn} (cond b (refuses (fault NoSuchShelf 0), l) (cond (is_filled x) (refuses (fault ShelfFilled 0), l) t)) (refuses f, l)
vacant_refused m ts l true x s f t h e = let q : fault NoSuchShelf 0 ≡ f = cc in ap (λ (y : Fault). (refuses y, l)) q
vacant_refused m ts l false x None f t h e = let z : ◌≡◌ {A = ℕ} 0 1 = cc in absurd (omega arith)
vacant_refused m ts l false nothing (Some s) f t h e = absurd h
vacant_refused m ts l false (value u v) (Some s) f t h e = let q : fault ShelfFilled 0 ≡ f = cc in ap (λ (y : Fault). (refuses y, l)) q

-- and that no value is found there
look_refused : (m : Meaning) (ts : List Ty) (l : Ledger) (b : Bool) (x : Content) (s : Option Stored) (f : Fault) (t : Turn) → Stands m ts x s
    → Err f ≡ cond b (Err (fault NoSuchShelf 0)) (stored_on s)
    → ◌≡◌ {A = Turn} (cond b (refuses (fault NoSuchShelf 0), l) (cond (is_nothing x) (refuses (fault ShelfEmpty 0), l) t)) (refuses f, l)
look_refused m ts l true x s f t h e = let q : fault NoSuchShelf 0 ≡ f = cc in ap (λ (y : Fault). (refuses y, l)) q
look_refused m ts l false x (Some s) f t h e = let z : ◌≡◌ {A = ℕ} 0 1 = cc in absurd (omega arith)
look_refused m ts l false nothing None f t h e = let q : fault ShelfEmpty 0 ≡ f = cc in ap (λ (y : Fault). (refuses y, l)) q
look_refused m ts l false (value u v) None f t h e = absurd h

vacant_ok : (ss : List (Option Stored)) (i : ℕ) → i < 16 → Ok tt ≡ vacant_at ss i → get_or ss i None ≡ None
vacant_ok ss i h e = let q : leb 16 i ≡ false = lt-leb 16 i h in go (get_or ss i None) (rw q at e)
  where
    go : (s : Option Stored) → Ok tt ≡ free_on s → s ≡ None
    go None e = refl
    go (Some s) e = let z : ◌≡◌ {A = ℕ} 0 1 = cc in absurd (omega arith)

look_ok : (ss : List (Option Stored)) (i : ℕ) (w : Stored) → i < 16 → Ok w ≡ looked_at ss i → get_or ss i None ≡ Some w
look_ok ss i w h e = let q : leb 16 i ≡ false = lt-leb 16 i h in go (get_or ss i None) (rw q at e)
  where
    go : (s : Option Stored) → Ok w ≡ stored_on s → s ≡ Some w
    go None e = let z : ◌≡◌ {A = ℕ} 0 1 = cc in absurd (omega arith)
    go (Some s) e = cc

-- where no filled one is found, none is
pub none_filled : (ss : List (Option Stored)) → None ≡ position is_some ss → (k : ℕ) (d : Option Stored) (w : Stored) → k < length ss → get_or ss k d ≡ Some w → ⊥
none_filled ss n k d w l e = go (ltb (position_or_len is_some ss) (length ss)) refl n
  where
    bare : (ss : List (Option Stored)) → length ss ≤ position_or_len is_some ss → (k : ℕ) → k < length ss → get_or ss k d ≡ Some w → ⊥
    bare [] h k l e = omega arith
    bare (None ∷ ss) h zero l e = let z : ◌≡◌ {A = ℕ} 0 1 = cc in omega arith
    bare (None ∷ ss) h (suc k) l e = bare ss (omega arith) k (omega arith) e
    bare (Some s ∷ ss) h k l e = omega arith

    go : (b : Bool) → ltb (position_or_len is_some ss) (length ss) ≡ b → None ≡ cond b (Some (position_or_len is_some ss)) None → ⊥
    go true q n = let z : ◌≡◌ {A = ℕ} 0 1 = cc in omega arith
    go false q n = bare ss (ltb-false _ _ q) k l e

-- ---- tables

types_listed : (P : Option Program) (T : Option Table) → Tabled P T → Types (entries_in T) (types_in P)
types_listed None None h =
    record {
      long = refl;
      lists = λ i l. absurd (omega arith);
      distinct = λ i j l k e. absurd (omega arith);
      narrow = λ i l. absurd (omega arith);
      roomy = λ i l. absurd (omega arith);
    }
types_listed None (Some t) h = absurd h
types_listed (Some p) None h = absurd h
types_listed (Some p) (Some t) h = h.listing.types

runs_same : (r : Option Run) (s : Option running.Run) → Runs r s → is_some r ≡ is_some s
runs_same None None h = refl
runs_same None (Some s) h = absurd h
runs_same (Some r) None h = absurd h
runs_same (Some r) (Some s) h = refl

-- ---- cells

-- what may still be used is the ledger's spare
spare_is : (made m : Meaning) (l : Ledger) (p : View) → Agrees made l m p → p.total - (p.made - m.free) ≡ spare_in l
spare_is made m l p a = omega (arith, a.total, a.made_is, a.least, a.count, a.within)

abbrev with_shelves : View → List (Option Stored) → View
with_shelves p ss = record { box = p.box; table = p.table; made = p.made; total = p.total; shelves = ss; run = p.run }

-- a value is put on the shelf i, which has nothing
placed : (made m m' : Meaning) (l : Ledger) (p : View) (i t : ℕ) (v : Val) (s : Stored) → Agrees made l m p → i < 16 → shelf l i ≡ nothing
    → t < length (types_of l) → s.type_number ≡ t → charge v ≤ spare_in l → Shows m' (type_at (types_of l) t) v s.words 0
    → Holds m (footprint m' (type_at (types_of l) t) v s.words 0) v m'
    → Agrees made (with_shelf l i (value t v)) m' (with_shelves p (set p.shelves i (Some s)))
    × Besides m (cells_at m' (with_shelf l i (value t v)) (with_shelves p (set p.shelves i (Some s))) i) m'
placed made m m' l p i t v s a low is_bare known number few sh b =
    let ts = types_of l in
    let xs = l.shelves in
    let ss = p.shelves in
    let fp = footprint m' (type_at ts t) v s.words 0 in
    let inside : i < length xs = omega (arith, a.sixteen) in
    let old : (c : ℕ) → occ c (cells_held m l p) ≡ occ c (cells_on_all m ts xs ss) + occ c (cells_of_run p.run) = λ c. occ_append c (cells_on_all m ts xs ss) (cells_of_run p.run) in
    let mv = stand_moved m m' ts xs ss a.shelves (λ c h. b.keeps c (omega (arith, a.cells c, old c, used_le m c))) in
    let here : Stands m' ts (value t v) (Some s) = (number, known, sh) in
    let gone : cells_on m' ts (get_or xs i nothing) (get_or ss i None) ≡ [] = ap (λ (x : Content). cells_on m' ts x (get_or ss i None)) is_bare in
    let free_there : cost (get_or xs i nothing) ≡ 0 = ap cost is_bare in
    let sum = costs_set xs (value t v) i inside in
    let at : cells_at m' (with_shelf l i (value t v)) (with_shelves p (set ss i (Some s))) i ≡ fp
    = ap₂ (cells_on m' ts) (get_or-set_same xs i (value t v) nothing inside) (get_or-set_same ss i (Some s) None (omega (arith, inside, stand_length m ts xs ss a.shelves))) in (
      record {
        box = a.box;
        made_is = a.made_is;
        total = a.total;
        least = a.least;
        table = a.table;
        sixteen = length-set xs i (value t v) ∙ a.sixteen;
        shelves = stand_set m' ts xs ss (value t v) (Some s) mv.0 here i;
        run = a.run;
        cells = λ c.
            let new = occ_append c (cells_on_all m' ts (set xs i (value t v)) (set ss i (Some s))) (cells_of_run p.run) in
            omega (arith, new, old c, cells_set m' ts xs ss (value t v) (Some s) c mv.0 i inside, ap (occ c) gone, ap (occ c) mv.1, b.cells c, a.cells c);
        earlier = λ c h. b.keeps c (omega (arith, a.cells c, used_le m c)) ∙ a.earlier c h;
        count = omega (arith, sum, free_there, b.count, a.count);
        within = omega (arith, sum, free_there, few, a.within);
        bound = b.bound ∙ a.bound;
      },
      record {
        cells = λ c. omega (arith, ap (occ c) at, b.cells c);
        keeps = b.keeps;
        count = omega (arith, ap length at, b.count, holds_charge m' (type_at ts t) v s.words 0);
        bound = b.bound;
      },
    )

-- the value on the shelf i is given back
cleared : (made m m' : Meaning) (l : Ledger) (p : View) (i t : ℕ) (v : Val) (s : Stored) → Agrees made l m p → i < 16 → shelf l i ≡ value t v
    → get_or p.shelves i None ≡ Some s → Shows m (type_at (types_of l) t) v s.words 0 → Releases m (type_at (types_of l) t) s.words 0 512 m'
    → Agrees made (with_shelf l i nothing) m' (with_shelves p (set p.shelves i None)) × Besides m' (cells_at m l p i) m
cleared made m m' l p i t v s a low is_value says_filled sh r =
    let ts = types_of l in
    let xs = l.shelves in
    let ss = p.shelves in
    let fp = footprint m (type_at ts t) v s.words 0 in
    let inside : i < length xs = omega (arith, a.sixteen) in
    let was : cells_at m l p i ≡ fp = ap₂ (cells_on m ts) is_value says_filled in
    let old : (c : ℕ) → occ c (cells_held m l p) ≡ occ c (cells_on_all m ts xs ss) + occ c (cells_of_run p.run) = λ c. occ_append c (cells_on_all m ts xs ss) (cells_of_run p.run) in
    let rest : (c : ℕ) → occ c (cells_on_all m ts (set xs i nothing) (set ss i None)) + occ c fp ≡ occ c (cells_on_all m ts xs ss)
    = λ c. omega (arith, cells_set m ts xs ss nothing None c a.shelves i inside, ap (occ c) was) in
    let sum = costs_set xs nothing i inside in
    let freed : cost (get_or xs i nothing) ≡ charge v = ap cost is_value in
    let once : (c : ℕ) → occ c fp ≤ 1 = λ c. omega (arith, rest c, old c, a.cells c, used_le m c) in
    let rel = r v sh (omega (arith, sum, freed, a.within, a.least)) once in
    let mv = stand_moved m m' ts (set xs i nothing) (set ss i None) (stand_set m ts xs ss nothing None a.shelves tt i)
    (λ c h. rel.keeps c (omega (arith, rel.cells c, rest c, old c, a.cells c, used_le m c))) in
    let long = holds_charge m (type_at ts t) v s.words 0 in (
      record {
        box = a.box;
        made_is = a.made_is;
        total = a.total;
        least = a.least;
        table = a.table;
        sixteen = length-set xs i nothing ∙ a.sixteen;
        shelves = mv.0;
        run = a.run;
        cells = λ c.
            let new = occ_append c (cells_on_all m' ts (set xs i nothing) (set ss i None)) (cells_of_run p.run) in
            omega (arith, new, old c, ap (occ c) mv.1, rel.cells c, rest c, a.cells c);
        earlier = λ c h. rel.keeps c (omega (arith, rel.cells c, rest c, old c, a.cells c, used_le m c)) ∙ a.earlier c h;
        count = omega (arith, sum, freed, rel.count, long, a.count);
        within = omega (arith, sum, freed, a.within);
        bound = rel.bound ∙ a.bound;
      },
      record {
        cells = λ c. omega (arith, ap (occ c) was, rel.cells c);
        keeps = λ c h. sym (rel.keeps c h);
        count = omega (arith, ap length was, rel.count);
        bound = sym rel.bound;
      },
    )

-- ---- adopt

pub adopt_running : (made m : Meaning) (l : Ledger) (p : View) (bs : List ℕ) → Agrees made l m p → is_some p.run ≡ true
    → Follows (adopt bs) (Plainly (Err (fault RunStands 0))) made l m p m p
adopt_running made m l p bs a e =
    let x : is_some l.run ≡ true = runs_same l.run p.run a.run ∙ e in
    refuse (adopt bs) _ made l m p m _ refl a (rw x refl) refl

-- the lowest filled shelf that is found is the ledger's
found_lowest : (made m : Meaning) (l : Ledger) (p : View) → Agrees made l m p → position is_some p.shelves ≡ cond (ltb (lowest l.shelves) 16) (Some (lowest l.shelves)) None
found_lowest made m l p a =
    let n = lowest_is m (types_of l) l.shelves p.shelves a.shelves in
    let k : length p.shelves ≡ 16 = sym (stand_length m (types_of l) l.shelves p.shelves a.shelves) ∙ a.sixteen in
    rw (n, k) refl

pub adopt_filled : (made m : Meaning) (l : Ledger) (p : View) (bs : List ℕ) (i : ℕ) → Agrees made l m p → is_some p.run ≡ false → Some i ≡ position is_some p.shelves
    → Follows (adopt bs) (Plainly (Err (fault ShelfFilledAtAdopt i))) made l m p m p
adopt_filled made m l p bs i a e h =
    let x : is_some l.run ≡ false = runs_same l.run p.run a.run ∙ e in
    refuse (adopt bs) _ made l m p m _ refl a (rw x (go (ltb (lowest l.shelves) 16) (h ∙ found_lowest made m l p a))) refl
  where
    go : (b : Bool) → Some i ≡ cond b (Some (lowest l.shelves)) None
        → ◌≡◌ {A = Turn} (cond b (refuses (fault ShelfFilledAtAdopt (lowest l.shelves)), l) (adopted (admission bs) l)) (refuses (fault ShelfFilledAtAdopt i), l)
    go true n = let q : lowest l.shelves ≡ i = cc in ap (λ (k : ℕ). (refuses (fault ShelfFilledAtAdopt k), l)) q
    go false n = let z : ◌≡◌ {A = ℕ} 0 1 = cc in absurd (omega arith)

adopt_turn : (made m : Meaning) (l : Ledger) (p : View) (bs : List ℕ) → Agrees made l m p → is_some p.run ≡ false → None ≡ position is_some p.shelves
    → (16 ≤ lowest l.shelves) × (turn (adopt bs) l ≡ adopted (admission bs) l)
adopt_turn made m l p bs a e h =
    let x : is_some l.run ≡ false = runs_same l.run p.run a.run ∙ e in
    go (ltb (lowest l.shelves) 16) refl (h ∙ found_lowest made m l p a) (rw x refl)
  where
    go : (b : Bool) → ltb (lowest l.shelves) 16 ≡ b → None ≡ cond b (Some (lowest l.shelves)) None → turn (adopt bs) l ≡ cond (ltb (lowest l.shelves) 16) (refuses (fault ShelfFilledAtAdopt (lowest l.shelves)), l) (adopted (admission bs) l)
        → (16 ≤ lowest l.shelves) × (turn (adopt bs) l ≡ adopted (admission bs) l)
    go true q n t = let z : ◌≡◌ {A = ℕ} 0 1 = cc in absurd (omega arith)
    go false q n t = (ltb-false _ 16 q, t ∙ rw q refl)

pub adopt_refused : (made m : Meaning) (l : Ledger) (p : View) (bs : List ℕ) (f : Fault) → Agrees made l m p → is_some p.run ≡ false → None ≡ position is_some p.shelves
    → Admits bs (Err f) → Follows (adopt bs) (Plainly (Err f)) made l m p m p
adopt_refused made m l p bs f a e h r = refuse (adopt bs) _ made l m p m f refl a ((adopt_turn made m l p bs a e h).1 ∙ rw r refl) refl

abbrev with_the_table : View → Table → View
with_the_table p t = record { box = p.box; table = Some t; made = p.made; total = p.total; shelves = p.shelves; run = p.run }

pub adopt_granted : (made m : Meaning) (l : Ledger) (p : View) (bs : List ℕ) (t : Table) → Agrees made l m p → is_some p.run ≡ false → None ≡ position is_some p.shelves
    → Admits bs (Ok t) → Follows (adopt bs) (Plainly (Ok tt)) made l m p m (with_the_table p t)
adopt_granted made m l p bs t a e h r =
    let g = r.0 in
    let bare = adopt_turn made m l p bs a e h in
    let b = stand_bare m (types_of l) g.types l.shelves p.shelves a.shelves (omega (arith, a.sixteen, bare.0)) in
    let held_still : cells_held m (with_table l g) (with_the_table p t) ≡ cells_held m l p = ap (λ (xs : List ℕ). xs ++ cells_of_run p.run) b.1 in
    let r₁ = r.1 in
    by_turn (adopt bs) _ made l m p m (with_the_table p t) (granted, with_table l g) (bare.1 ∙ rw r₁ refl) (
      refl,
      record {
        box = a.box;
        made_is = a.made_is;
        total = a.total;
        least = a.least;
        table = r.2;
        sixteen = a.sixteen;
        shelves = b.0;
        run = a.run;
        cells = λ c. omega (arith, a.cells c, ap (occ c) held_still);
        earlier = a.earlier;
        count = a.count;
        within = a.within;
        bound = a.bound;
      },
      refl,
    )

-- ---- put

module _ (made m : Meaning) (l : Ledger) (p : View) (i t : ℕ) (bs : List ℕ) (a : Agrees made l m p) where
  pub put_refused : (f : Fault) → Err f ≡ vacant_at p.shelves i → Follows (put i t bs) (Plainly (Err f)) made l m p m p
  put_refused f e =
      refuse (put i t bs) _ made l m p m f refl a
      (vacant_refused m (types_of l) l (leb 16 i) (shelf l i) (get_or p.shelves i None) f _ (stand_at m (types_of l) l.shelves p.shelves a.shelves i) e) refl

  module _ (low : i < 16) (free : Ok tt ≡ vacant_at p.shelves i) where
    bare_there : shelf l i ≡ nothing
    bare_there = found_nothing m (types_of l) _ _ (stand_at m (types_of l) l.shelves p.shelves a.shelves i) (vacant_ok p.shelves i low free)

    pub put_unknown : length (entries_in p.table) ≤ t → Follows (put i t bs) (Plainly (Err (fault NoSuchTypeOrFunction 0))) made l m p m p
    put_unknown h =
        let x : leb 16 i ≡ false = lt-leb 16 i low in
        let y = bare_there in
        let z : leb (length (types_of l)) t ≡ true = le-leb _ _ (omega (arith, (types_listed l.table p.table a.table).long)) in
        refuse (put i t bs) _ made l m p m _ refl a (rw (x, y, z) refl) refl

    module _ (known : t < length (entries_in p.table)) (m' : Meaning) (z : ℕ) (z_is : z ≡ p.total - (p.made - m.free)) where
      known_there : t < length (types_of l)
      known_there = omega (arith, (types_listed l.table p.table a.table).long)

      put_turn : turn (put i t bs) l ≡ filled (decode bs (type_at (types_of l) t) (min (min z m.free) 512)) i t l
      put_turn =
          let x : leb 16 i ≡ false = lt-leb 16 i low in
          let y = bare_there in
          let k : leb (length (types_of l)) t ≡ false = lt-leb _ _ known_there in
          let w : min (min z m.free) 512 ≡ spare_in l = omega (arith, z_is, spare_is made m l p a, a.least, a.count) in
          rw (x, y, k, w) refl

      pub put_unread : (es : List Entry) (f : Fault) → es ≡ entries_in p.table
          → ((us : List Ty) → Types es us → Puts (decode bs (type_at us t) (min (min z m.free) 512)) (type_at us t) m (Err f) m') → Follows (put i t bs) (Plainly (Err f)) made l m p m' p
      put_unread es f e h =
          let listed = subst (λ (x : List Entry). Types x (types_of l)) (sym e) (types_listed l.table p.table a.table) in
          go (decode bs (type_at (types_of l) t) (min (min z m.free) 512)) put_turn (h (types_of l) listed)
        where
          go : (x : Scan (Val × ℕ)) → turn (put i t bs) l ≡ filled x i t l → Puts x (type_at (types_of l) t) m (Err f) m' → Follows (put i t bs) (Plainly (Err f)) made l m p m' p
          go (done r q) y u = absurd u
          go (refused why q) y u = refuse (put i t bs) _ made l m p m' f u.1 a (y ∙ ap (λ (g : Fault). (refuses g, l)) (sym u.0)) refl

      pub put_granted : (es : List Entry) (s : Stored) → es ≡ entries_in p.table → s.type_number ≡ t
          → ((us : List Ty) → Types es us → Puts (decode bs (type_at us t) (min (min z m.free) 512)) (type_at us t) m (Ok s.words) m')
          → Follows (put i t bs) (Plainly (Ok tt)) made l m p m' (with_shelves p (set p.shelves i (Some s)))
      put_granted es s e number h =
          let listed = subst (λ (x : List Entry). Types x (types_of l)) (sym e) (types_listed l.table p.table a.table) in
          go (decode bs (type_at (types_of l) t) (min (min z m.free) 512)) (is_decoded bs (type_at (types_of l) t) (min (min z m.free) 512)) put_turn (h (types_of l) listed)
        where
          go : (x : Scan (Val × ℕ)) → IsDecoded (type_at (types_of l) t) (min (min z m.free) 512) x → turn (put i t bs) l ≡ filled x i t l → Puts x (type_at (types_of l) t) m (Ok s.words) m'
              → Follows (put i t bs) (Plainly (Ok tt)) made l m p m' (with_shelves p (set p.shelves i (Some s)))
          go (refused why q) d y u = absurd u
          go (done r q) d y u =
              let k = placed made m m' l p i t r.0 s a low bare_there known_there number (omega (arith, d.1, z_is, spare_is made m l p a)) u.0 u.1 in
              by_turn (put i t bs) _ made l m p m' _ _ y (refl, k.0, k.1)

-- bytes that are refused leave the pool's meaning
pub unread_same : (bs : List ℕ) (t z : ℕ) (es : List Entry) (m m' : Meaning) (f : Fault) → Listed es
    → ((us : List Ty) → Types es us → Puts (decode bs (type_at us t) z) (type_at us t) m (Err f) m') → m' ≡ m
unread_same bs t z es m m' f h k = go (decode bs (type_at h.0 t) z) (k h.0 h.1)
  where
    go : (x : Scan (Val × ℕ)) → Puts x (type_at h.0 t) m (Err f) m' → m' ≡ m
    go (done r q) u = absurd u
    go (refused why q) u = u.1

-- ---- show and empty

module _ (made m : Meaning) (l : Ledger) (p : View) (i : ℕ) (a : Agrees made l m p) where
  pub show_refused : (f : Fault) (area : List ℕ) → Err f ≡ looked_at p.shelves i → Follows (show i (length area)) (Shown (Err f) area area) made l m p m p
  show_refused f area e =
      refuse (show i (length area)) _ made l m p m f refl a
      (look_refused m (types_of l) l (leb 16 i) (shelf l i) (get_or p.shelves i None) f _ (stand_at m (types_of l) l.shelves p.shelves a.shelves i) e) (refl, refl)

  pub empty_refused : (f : Fault) → Err f ≡ looked_at p.shelves i → Follows (empty i) (Plainly (Err f)) made l m p m p
  empty_refused f e =
      refuse (empty i) _ made l m p m f refl a
      (look_refused m (types_of l) l (leb 16 i) (shelf l i) (get_or p.shelves i None) f _ (stand_at m (types_of l) l.shelves p.shelves a.shelves i) e) refl

  module _ (s : Stored) (low : i < 16) (found : Ok s ≡ looked_at p.shelves i) where
    value_there : (t : ℕ) × (v : Val) × (shelf l i ≡ value t v) × Stands m (types_of l) (value t v) (Some s)
    value_there = found_value m (types_of l) _ _ s (stand_at m (types_of l) l.shelves p.shelves a.shelves i) (look_ok p.shelves i s low found)

    charge_most : charge value_there.1 ≤ 512
    charge_most =
        omega (arith, costs_set l.shelves nothing i (omega (arith, a.sixteen)), ap cost value_there.2, a.within, a.least)

    pub emptied : (m' : Meaning) (es : List Entry) → es ≡ entries_in p.table
        → ((us : List Ty) → Types es us → Releases m (type_at us s.type_number) s.words 0 512 m')
        → Follows (empty i) (Plainly (Ok tt)) made l m p m' (with_shelves p (set p.shelves i None))
    emptied m' es e h =
        let x : leb 16 i ≡ false = lt-leb 16 i low in
        let f = value_there in
        let y = f.2 in
        let listed = subst (λ (z : List Entry). Types z (types_of l)) (sym e) (types_listed l.table p.table a.table) in
        let r = subst (λ (z : ℕ). Releases m (type_at (types_of l) z) s.words 0 512 m') f.3.0 (h (types_of l) listed) in
        let k = cleared made m m' l p i f.0 f.1 s a low f.2 (look_ok p.shelves i s low found) f.3.2 r in
        by_turn (empty i) _ made l m p m' _ (granted, with_shelf l i nothing) (rw (x, y) refl) (refl, k.0, k.1)

    -- the value's bytes are written, or the area is too short
    pub shown_as : (es : List Entry) (area area' : List ℕ) (o : Option ℕ) → es ≡ entries_in p.table
        → ((us : List Ty) → Types es us → Walks m (type_at us s.type_number) s.words 0 512 (λ xs _. Written xs area o area'))
        → Follows (show i (length area)) (Shown (ok_or o (fault AreaTooShort 0)) area area') made l m p m p
    shown_as es area area' o e h =
        let f = value_there in
        let listed = subst (λ (z : List Entry). Types z (types_of l)) (sym e) (types_listed l.table p.table a.table) in
        let w = subst (λ (z : ℕ). Walks m (type_at (types_of l) z) s.words 0 512 (λ xs _. Written xs area o area')) f.3.0 (h (types_of l) listed) f.1 f.3.2 charge_most in
        go f.0 f.1 f.2 o w
      where
        go : (t : ℕ) (v : Val) → shelf l i ≡ value t v → (o : Option ℕ) → Written (write v) area o area'
            → Follows (show i (length area)) (Shown (ok_or o (fault AreaTooShort 0)) area area') made l m p m p
        go t v y None w =
            let x : leb 16 i ≡ false = lt-leb 16 i low in
            let b : ltb (length area) (length (write v)) ≡ true = lt-ltb _ _ w.0 in
            refuse (show i (length area)) _ made l m p m _ refl a (rw (x, y, b) refl) (refl, w.1)
        go t v y (Some n) w =
            let x : leb 16 i ≡ false = lt-leb 16 i low in
            let b : ltb (length area) (length (write v)) ≡ false = le-ltb _ _ w.1 in
            by_turn (show i (length area)) _ made l m p m p (shown (write v), l) (rw (x, y, b) refl) ((write v, refl, w.0, w.2), a, refl)

-- an area that is too short is left
pub left_short : (o : Option ℕ) (f : Fault) (area area' : List ℕ) → (o ≡ None → area' ≡ area) → Left (ok_or o f) area area'
left_short None f area area' h = h refl
left_short (Some n) f area area' h = tt
