-- Stations at their places: those of a run, and those that stand for them.
use Rattle.std.proofs.Common.{◌≡◌, ℕ, zero, suc, ◌<◌, Bool, cond, List, [], ◌∷◌, length, map, set, find, Option, Some, None, refl, sym, ap, ap₂, ◌∙◌, subst, arith, append_assoc, append-nil, eq-eqb, ne_eqb}
use Rattle.std.specs.Prelude.{slice_get}
use Rattle.std.specs.List.{AllByRecursion}
use Rattle.std.proofs.lemmas.List.{map-set, set-set}
use Rattle.std.proofs.lemmas.Option.{slice_get-map}
use Rattle.board_model.specs.declared.scenario.DomainLine.{DomainLine}
use Rattle.board_model.specs.declared.scenario.Scenario.{Scenario}
use Rattle.board_model.specs.LinkedBoard.{Differ, IsLinkedBoard}
use Rattle.board_model.specs.Journal.{PlainEntry}
use Rattle.board_model.specs.Loads.{Load}
use Rattle.board_model.specs.Scenario.{lanes, rising, script}
use Rattle.board_model.specs.Step.{after}
use Rattle.board_model.specs.Run.{after_all}
use Rattle.board_model.specs.SerialRun as run
use Rattle.board_model.specs.SerialRun.{Running, is_station, entered, with_entry, with_entries}
use Rattle.board_model.proofs.MessageAlls.{all-at}
use Rattle.board_model.proofs.PlaceBoards.{rising_differ}
use Rattle.board_model.proofs.WholeStations.{entered_all, entries_loads, entries_lines}
use Rattle.board_runner.specs.declared.station.Station.{Station}
use Rattle.board_runner.specs.Near.{RunDomain}
use Rattle.board_runner.specs.Stations.{IsStation, AreStations, IsRun, LaneHolds, LaneJoins}

-- ---- lists

pub slice_get-set : {A : Type 0} (xs : List A) (i : ℕ) (x y : A) → slice_get xs i ≡ Some x → slice_get (set xs i y) i ≡ Some y
slice_get-set [] i x y e = cc
slice_get-set (z ∷ xs) zero x y e = refl
slice_get-set (z ∷ xs) (suc i) x y e = slice_get-set xs i x y e

pub set-same : {A : Type 0} (xs : List A) (i : ℕ) (x : A) → slice_get xs i ≡ Some x → set xs i x ≡ xs
set-same [] i x e = refl
set-same {A} (z ∷ xs) zero x e = let is : z ≡ x = cc in ap (λ (y : A). y ∷ xs) (sym is)
set-same {A} (z ∷ xs) (suc i) x e = ap (λ (ys : List A). z ∷ ys) (set-same xs i x e)

pub item_at : {A : Type 0} (xs : List A) (i : ℕ) → i < length xs → (x : A) × (slice_get xs i ≡ Some x)
item_at [] i lt = absurd (omega (arith, lt))
item_at (x ∷ xs) zero lt = (x, refl)
item_at (x ∷ xs) (suc i) lt = item_at xs i (omega (arith, lt))

-- ---- the stations of a run

abbrev pub domains_in : List run.Station → List ℕ
domains_in ts = map (λ t. t.line.domain) ts

abbrev pub numbers_in : List Station → List ℕ
numbers_in sts = map (λ st. st.domain.state.number) sts

abbrev pub domains : List Station → List RunDomain
domains sts = map (λ st. st.domain) sts

-- they are the board's domains, in rising number
domains_of_lines : (ts : List run.Station) → domains_in ts ≡ map (λ l. l.domain) (map (λ t. t.line) ts)
domains_of_lines [] = refl
domains_of_lines (t ∷ ts) = ap (λ (ns : List ℕ). t.line.domain ∷ ns) (domains_of_lines ts)

pub domains_rise : (s : Scenario) (ts : List run.Station) → map (λ t. t.line) ts ≡ rising s → domains_in ts ≡ map (λ l. l.domain) (rising s)
domains_rise s ts e = domains_of_lines ts ∙ ap (map (λ (l : DomainLine). l.domain)) e

pub domains_differ : (s : Scenario) → IsLinkedBoard s → (ts : List run.Station) → map (λ t. t.line) ts ≡ rising s → Differ (domains_in ts)
domains_differ s board ts e = subst Differ (sym (domains_rise s ts e)) (rising_differ s board)

-- a domain stands once
apart_at : (ts : List run.Station) (n i : ℕ) (t : run.Station) → AllByRecursion (λ m. m ≡ n → ⊥) (domains_in ts) → slice_get ts i ≡ Some t → t.line.domain ≡ n → ⊥
apart_at ts n i t apart at same = all-at (λ m. m ≡ n → ⊥) (domains_in ts) i t.line.domain apart (slice_get-map (λ (x : run.Station). x.line.domain) ts i ∙ ap (λ (o : Option run.Station). elim o as (λ x. Option ℕ) [ None ↦ None | Some x ↦ Some x.line.domain ]) at) same

pub found_at : (ts : List run.Station) (i : ℕ) (t : run.Station) → Differ (domains_in ts) → slice_get ts i ≡ Some t → find (is_station t.line.domain) ts ≡ Some t
found_at [] i t differ at = absurd cc
found_at (x ∷ ts) zero t differ at = let is : x ≡ t = cc in ap (λ (b : Bool). cond b (Some x) (find (is_station t.line.domain) ts)) (eq-eqb x.line.domain t.line.domain (ap (λ (y : run.Station). y.line.domain) is)) ∙ ap Some is
found_at (x ∷ ts) (suc i) t differ at =
    ap (λ (b : Bool). cond b (Some x) (find (is_station t.line.domain) ts)) (ne_eqb x.line.domain t.line.domain (λ same. apart_at ts x.line.domain i t differ.0 at (sym same)))
    ∙ found_at ts i t differ.1 at

-- a change of one domain's station is a change at its place
changed_none : (f : run.Station → run.Station) (d : ℕ) (ts : List run.Station) → AllByRecursion (λ m. m ≡ d → ⊥) (domains_in ts) → map (λ x. cond (is_station d x) (f x) x) ts ≡ ts
changed_none f d [] apart = refl
changed_none f d (x ∷ ts) apart = ap₂ (λ (y : run.Station) (ys : List run.Station). y ∷ ys) (ap (λ (b : Bool). cond b (f x) x) (ne_eqb x.line.domain d apart.0)) (changed_none f d ts apart.1)

pub changed_one : (f : run.Station → run.Station) (d : ℕ) (ts : List run.Station) (i : ℕ) (t : run.Station) → Differ (domains_in ts) → slice_get ts i ≡ Some t → t.line.domain ≡ d → map (λ x. cond (is_station d x) (f x) x) ts ≡ set ts i (f t)
changed_one f d [] i t differ at own = absurd cc
changed_one f d (x ∷ ts) zero t differ at own =
    let is : x ≡ t = cc in
    let same : x.line.domain ≡ d = ap (λ (y : run.Station). y.line.domain) is ∙ own in
    ap₂ (λ (y : run.Station) (ys : List run.Station). y ∷ ys) (ap (λ (b : Bool). cond b (f x) x) (eq-eqb x.line.domain d same) ∙ ap f is)
    (changed_none f d ts (subst (λ (n : ℕ). AllByRecursion (λ m. m ≡ n → ⊥) (domains_in ts)) same differ.0))
changed_one f d (x ∷ ts) (suc i) t differ at own =
    ap₂ (λ (y : run.Station) (ys : List run.Station). y ∷ ys)
    (ap (λ (b : Bool). cond b (f x) x) (ne_eqb x.line.domain d (λ same. apart_at ts x.line.domain i t differ.0 at (own ∙ sym same))))
    (changed_one f d ts i t differ.1 at own)

entered_none : (s : Scenario) (t : run.Station) → entered_all s [] t ≡ t
entered_none s t = ap (λ (es : List PlainEntry). record t { entries = es }) (append-nil t.entries)

-- entries of one domain are made at its place
pub entered_set : (s : Scenario) (es : List PlainEntry) (r : Running) (i : ℕ) (t : run.Station) → Differ (domains_in r.stations) → slice_get r.stations i ≡ Some t → (with_entries s t.line.domain es r).stations ≡ set r.stations i (entered_all s es t)
entered_set s [] r i t differ at = sym (ap (set r.stations i) (entered_none s t) ∙ set-same r.stations i t at)
entered_set s (e ∷ es) r i t differ at =
    let d = t.line.domain in
    let u = entered s e t in
    let one : (with_entry s d e r).stations ≡ set r.stations i u = changed_one (entered s e) d r.stations i t differ at refl in
    let apart : Differ (domains_in (with_entry s d e r).stations) = subst Differ (sym (ap domains_in one ∙ map-set (λ (x : run.Station). x.line.domain) r.stations i u ∙ sym (map-set (λ (x : run.Station). x.line.domain) r.stations i t) ∙ ap domains_in (set-same r.stations i t at))) differ in
    entered_set s es (with_entry s d e r) i u apart (ap (λ (xs : List run.Station). slice_get xs i) one ∙ slice_get-set r.stations i t u at)
    ∙ ap (λ (xs : List run.Station). set xs i (entered_all s es u)) one
    ∙ set-set r.stations i u (entered_all s es u)
    ∙ ap (λ (xs : List PlainEntry). set r.stations i (record t { run = after_all (script s d) (after (script s d) t.run e) es; entries = xs })) (append_assoc t.entries (e ∷ []) es)

-- ---- the stations that stand for them

pub numbers_are : (s : Scenario) (ts : List run.Station) (sts : List Station) → AreStations s ts sts → numbers_in sts ≡ domains_in ts
numbers_are s [] [] all = refl
numbers_are s (t ∷ ts) (st ∷ sts) all = ap₂ (λ (n : ℕ) (ns : List ℕ). n ∷ ns) (ap (λ x. x.number) all.0.state ∙ all.0.own) (numbers_are s ts sts all.1)
numbers_are s [] (st ∷ sts) all = absurd all
numbers_are s (t ∷ ts) [] all = absurd all

-- the station that stands at a place stands for that of the run there
pub record StandsAt (s : Scenario) (r : Running) (st : Station) (i : ℕ) : Type 0 where
  pub station : run.Station
  pub is_at : slice_get r.stations i ≡ Some station
  pub stands : IsStation s station st

pub station_at : (s : Scenario) (r : Running) (ts : List run.Station) (sts : List Station) (i : ℕ) (st : Station) → AreStations s ts sts → slice_get sts i ≡ Some st → (t : run.Station) × (slice_get ts i ≡ Some t) × IsStation s t st
station_at s r [] [] i st all at = absurd cc
station_at s r (t ∷ ts) (x ∷ sts) zero st all at = let is : x ≡ st = cc in (t, refl, subst (IsStation s t) is all.0)
station_at s r (t ∷ ts) (x ∷ sts) (suc i) st all at = station_at s r ts sts i st all.1 at
station_at s r [] (x ∷ sts) i st all at = absurd all
station_at s r (t ∷ ts) [] i st all at = absurd all

pub are_set : (s : Scenario) (ts : List run.Station) (sts : List Station) (i : ℕ) (t : run.Station) (st : Station) → AreStations s ts sts → IsStation s t st → AreStations s (set ts i t) (set sts i st)
are_set s [] [] i t st all one = tt
are_set s (x ∷ ts) (y ∷ sts) zero t st all one = (one, all.1)
are_set s (x ∷ ts) (y ∷ sts) (suc i) t st all one = (all.0, are_set s ts sts i t st all.1 one)
are_set s [] (y ∷ sts) i t st all one = absurd all
are_set s (x ∷ ts) [] i t st all one = absurd all

-- the station that stands at a place, and its number
pub here : (s : Scenario) (r : Running) (sts : List Station) (i : ℕ) (st : Station) → IsRun s r sts → slice_get sts i ≡ Some st → StandsAt s r st i
here s r sts i st h at = let t = station_at s r r.stations sts i st h.each at in record { station = t.0; is_at = t.1; stands = t.2 }

pub own_number : (s : Scenario) (t : run.Station) (st : Station) → IsStation s t st → st.domain.state.number ≡ t.line.domain
own_number s t st is = ap (λ x. x.number) is.state ∙ is.own

-- the board runs on by entries of one domain
pub run_entered : (s : Scenario) → IsLinkedBoard s → (r : Running) (sts : List Station) (i : ℕ) (t : run.Station) (es : List PlainEntry) (loads : List Load) (new : Station) → IsRun s r sts → slice_get r.stations i ≡ Some t → IsStation s (entered_all s es t) new →
    AllByRecursion (LaneHolds (domains (set sts i new)) loads) (lanes s) → AllByRecursion (LaneJoins (domains (set sts i new))) (lanes s) → IsRun s (with_entries s t.line.domain es (record r { loads = loads })) (set sts i new)
run_entered s board r sts i t es loads new h at is holds joins =
    let q : Running = record r { loads = loads } in
    let d = t.line.domain in
    record {
      lines = entries_lines s d es q ∙ h.lines;
      each = subst (λ (ts : List run.Station). AreStations s ts (set sts i new)) (sym (entered_set s es q i t (domains_differ s board r.stations h.lines) at)) (are_set s r.stations sts i (entered_all s es t) new h.each is);
      holds = subst (λ (ls : List Load). AllByRecursion (LaneHolds (domains (set sts i new)) ls) (lanes s)) (sym (entries_loads s d es q)) holds;
      joins = joins;
    }
