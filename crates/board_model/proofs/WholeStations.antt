-- The stations of a board that runs, after one of them made entries.
use Rattle.std.proofs.Common.{◌≡◌, ℕ, ◌+◌, Bool, true, false, cond, List, [], ◌∷◌, ◌++◌, map, sum, find, Option, Some, None, option_map, refl, sym, ap, ◌∙◌, inl, inr, arith, append_assoc, append-nil, eqb-true, ne_eqb}
use Rattle.std.specs.Prelude.{◌==◌}
use Rattle.std.proofs.lemmas.Bool.Decides.{eqb_tells}
use Rattle.board_model.specs.declared.scenario.Scenario.{Scenario}
use Rattle.board_model.specs.Scenario.{script}
use Rattle.board_model.specs.Journal.{PlainEntry}
use Rattle.board_model.specs.State.{DomainState, opening}
use Rattle.board_model.specs.Step.{after}
use Rattle.board_model.specs.Run.{start, after_all}
use Rattle.board_model.specs.Traffic.{put_to, taken_from, given, back_looks}
use Rattle.board_model.specs.SerialRun.{Station, Running, is_station, entered, with_entry, with_entries}
use Rattle.board_model.proofs.MessageAlls.{found-passes}
use Rattle.board_model.proofs.WholeFinds.{find-kept}
use Rattle.board_model.proofs.WholeLanes.{Book, placed}
use Rattle.board_model.proofs.WholeJournals.{put_to-append, taken_from-append, backs-append, given-append}

-- the station of a domain
abbrev pub station : Running → ℕ → Option Station
station r n = find (is_station n) r.stations

pub station_domain : (r : Running) (n : ℕ) (t : Station) → station r n ≡ Some t → t.line.domain ≡ n
station_domain r n t e = eqb-true t.line.domain n (found-passes (is_station n) r.stations t e)

-- a station with more entries
abbrev pub entered_all : Scenario → List PlainEntry → Station → Station
entered_all s es t = record t { run = after_all (script s t.line.domain) t.run es; entries = t.entries ++ es }

abbrev entered_if : Scenario → ℕ → List PlainEntry → Station → Station
entered_if s d es t = cond (is_station d t) (entered_all s es t) t

abbrev entered_if_one : Scenario → ℕ → PlainEntry → Station → Station
entered_if_one s d e t = cond (is_station d t) (entered s e t) t

map-twice : {A : Type 0} (f g h : A → A) → ((x : A) → g (f x) ≡ h x) → (o : Option A) → option_map g (option_map f o) ≡ option_map h o
map-twice f g h same None = refl
map-twice f g h same (Some x) = ap Some (same x)

map-none : {A : Type 0} (f : A → A) → ((x : A) → f x ≡ x) → (o : Option A) → option_map f o ≡ o
map-none f same None = refl
map-none f same (Some x) = ap Some (same x)

found-entries : (s : Scenario) (d : ℕ) (es : List PlainEntry) (r : Running) (n : ℕ) → station (with_entries s d es r) n ≡ option_map (entered_if s d es) (station r n)
found-entries s d [] r n = sym (map-none (entered_if s d []) same (station r n))
  where
    same : (t : Station) → entered_if s d [] t ≡ t
    same t = go (is_station d t)
      where
        go : (b : Bool) → cond b (entered_all s [] t) t ≡ t
        go true = ap (λ xs. record t { entries = xs }) (append-nil t.entries)
        go false = refl
found-entries s d (e ∷ es) r n =
    found-entries s d es (with_entry s d e r) n
    ∙ ap (option_map (entered_if s d es)) (find-kept (is_station n) (entered_if_one s d e) keeps r.stations)
    ∙ map-twice (entered_if_one s d e) (entered_if s d es) (entered_if s d (e ∷ es)) both (station r n)
  where
    keeps : (t : Station) → is_station n (entered_if_one s d e t) ≡ is_station n t
    keeps t = go (is_station d t)
      where
        go : (b : Bool) → is_station n (cond b (entered s e t) t) ≡ is_station n t
        go true = refl
        go false = refl

    both : (t : Station) → entered_if s d es (entered_if_one s d e t) ≡ entered_if s d (e ∷ es) t
    both t = go (is_station d t) refl
      where
        go : (b : Bool) → is_station d t ≡ b → cond (is_station d (cond b (entered s e t) t)) (entered_all s es (cond b (entered s e t) t)) (cond b (entered s e t) t) ≡ cond b (entered_all s (e ∷ es) t) t
        go true here = ap (λ b. cond b (entered_all s es (entered s e t)) (entered s e t)) here ∙ ap (λ xs. record t { run = after_all (script s t.line.domain) (after (script s t.line.domain) t.run e) es; entries = xs }) (append_assoc t.entries (e ∷ []) es)
        go false here = ap (λ b. cond b (entered_all s es t) t) here

pub entries_loads : (s : Scenario) (d : ℕ) (es : List PlainEntry) (r : Running) → (with_entries s d es r).loads ≡ r.loads
entries_loads s d [] r = refl
entries_loads s d (e ∷ es) r = entries_loads s d es (with_entry s d e r)

lines_kept : (s : Scenario) (d : ℕ) (e : PlainEntry) (ts : List Station) → map (λ t. t.line) (map (entered_if_one s d e) ts) ≡ map (λ t. t.line) ts
lines_kept s d e [] = refl
lines_kept s d e (t ∷ ts) = go (is_station d t) (lines_kept s d e ts)
  where
    go : (b : Bool) → map (λ t. t.line) (map (entered_if_one s d e) ts) ≡ map (λ t. t.line) ts → (cond b (entered s e t) t).line ∷ map (λ t. t.line) (map (entered_if_one s d e) ts) ≡ t.line ∷ map (λ t. t.line) ts
    go true h = ap (λ ls. t.line ∷ ls) h
    go false h = ap (λ ls. t.line ∷ ls) h

pub entries_lines : (s : Scenario) (d : ℕ) (es : List PlainEntry) (r : Running) → map (λ t. t.line) (with_entries s d es r).stations ≡ map (λ t. t.line) r.stations
entries_lines s d [] r = refl
entries_lines s d (e ∷ es) r = entries_lines s d es (with_entry s d e r) ∙ lines_kept s d e r.stations

-- the station of each domain after one made entries
pub station_after : (s : Scenario) (d : ℕ) (es : List PlainEntry) (r : Running) (t : Station) → station r d ≡ Some t → (n : ℕ) → station (with_entries s d es r) n ≡ cond (n == d) (Some (entered_all s es t)) (station r n)
station_after s d es r t e n = found-entries s d es r n ∙ elim (eqb_tells n d) [
  | inl same ↦
      ap (option_map (entered_if s d es)) (ap (station r) same.1 ∙ e)
      ∙ ap (λ b. Some (cond b (entered_all s es t) t)) (found-passes (is_station d) r.stations t e)
      ∙ sym (ap (λ b. cond b (Some (entered_all s es t)) (station r n)) same.0)
  | inr differ ↦ other (station r n) (station_domain r n) differ.1 ∙ sym (ap (λ b. cond b (Some (entered_all s es t)) (station r n)) differ.0)
]
  where
    other : (o : Option Station) → ((u : Station) → o ≡ Some u → u.line.domain ≡ n) → (n ≡ d → ⊥) → option_map (entered_if s d es) o ≡ o
    other None at differ = refl
    other (Some u) at differ = ap (λ b. Some (cond b (entered_all s es u) u)) (ne_eqb u.line.domain d (λ h. differ (sym (at u refl) ∙ h)))

-- ---- what a board that runs tells of its lanes

abbrev pub state_in : Option Station → DomainState
state_in None = opening 0 0 []
state_in (Some t) = t.run.state

abbrev pub entries_in : Option Station → List PlainEntry
entries_in None = []
entries_in (Some t) = t.entries

abbrev pub gives_in : Scenario → Option Station → ℕ → ℕ
gives_in s None n = 0
gives_in s (Some t) n = given (script s t.line.domain) (start s t.line) n t.entries

abbrev pub states_of : Running → ℕ → DomainState
states_of r n = state_in (station r n)

abbrev pub book_of : Scenario → Running → ℕ → ℕ → Book
book_of s r a b = record { puts = put_to b (entries_in (station r a)); backs = sum (back_looks b (entries_in (station r a))); taken = taken_from a (entries_in (station r b)); gives = gives_in s (station r b) a }

-- a station's run is where its entries lead
abbrev pub IsLed : Scenario → Station → Type 0
IsLed s t = t.run ≡ after_all (script s t.line.domain) (start s t.line) t.entries

module _ (s : Scenario) (d : ℕ) (es : List PlainEntry) (r : Running) (t : Station) (here : station r d ≡ Some t) where
  pub states_after : (n : ℕ) → states_of (with_entries s d es r) n ≡ placed (states_of r) d (after_all (script s t.line.domain) t.run es).state n
  states_after n = ap state_in (station_after s d es r t here n) ∙ go (n == d)
    where
      go : (x : Bool) → state_in (cond x (Some (entered_all s es t)) (station r n)) ≡ cond x (after_all (script s t.line.domain) t.run es).state (states_of r n)
      go true = refl
      go false = refl

  pub entries_after : (n : ℕ) → entries_in (station (with_entries s d es r) n) ≡ entries_in (station r n) ++ cond (n == d) es []
  entries_after n = ap entries_in (station_after s d es r t here n) ∙ elim (eqb_tells n d) [
    | inl same ↦
        ap (λ b. entries_in (cond b (Some (entered_all s es t)) (station r n))) same.0
        ∙ ap (λ o. entries_in o ++ es) (sym here ∙ ap (station r) (sym same.1))
        ∙ sym (ap (λ b. entries_in (station r n) ++ cond b es []) same.0)
    | inr differ ↦
        ap (λ b. entries_in (cond b (Some (entered_all s es t)) (station r n))) differ.0
        ∙ sym (append-nil (entries_in (station r n)))
        ∙ sym (ap (λ b. entries_in (station r n) ++ cond b es []) differ.0)
  ]

  pub puts_after : (a b : ℕ) → (book_of s (with_entries s d es r) a b).puts ≡ (book_of s r a b).puts ++ cond (a == d) (put_to b es) []
  puts_after a b = ap (put_to b) (entries_after a) ∙ put_to-append b (entries_in (station r a)) (cond (a == d) es []) ∙ ap (λ xs. put_to b (entries_in (station r a)) ++ xs) (go (a == d))
    where
      go : (x : Bool) → put_to b (cond x es []) ≡ cond x (put_to b es) []
      go true = refl
      go false = refl

  pub backs_after : (a b : ℕ) → (book_of s (with_entries s d es r) a b).backs ≡ (book_of s r a b).backs + cond (a == d) (sum (back_looks b es)) 0
  backs_after a b = ap (λ xs. sum (back_looks b xs)) (entries_after a) ∙ backs-append b (entries_in (station r a)) (cond (a == d) es []) ∙ ap (λ k. sum (back_looks b (entries_in (station r a))) + k) (go (a == d))
    where
      go : (x : Bool) → sum (back_looks b (cond x es [])) ≡ cond x (sum (back_looks b es)) 0
      go true = refl
      go false = refl

  pub taken_after : (a b : ℕ) → (book_of s (with_entries s d es r) a b).taken ≡ (book_of s r a b).taken ++ cond (b == d) (taken_from a es) []
  taken_after a b = ap (taken_from a) (entries_after b) ∙ taken_from-append a (entries_in (station r b)) (cond (b == d) es []) ∙ ap (λ xs. taken_from a (entries_in (station r b)) ++ xs) (go (b == d))
    where
      go : (x : Bool) → taken_from a (cond x es []) ≡ cond x (taken_from a es) []
      go true = refl
      go false = refl

  pub gives_after : IsLed s t → (a b : ℕ) → (book_of s (with_entries s d es r) a b).gives ≡ (book_of s r a b).gives + cond (b == d) (given (script s t.line.domain) t.run a es) 0
  gives_after led a b = ap (λ o. gives_in s o a) (station_after s d es r t here b) ∙ elim (eqb_tells b d) [
    | inl same ↦
        let sc = script s t.line.domain in
        let old : gives_in s (station r b) a ≡ given sc (start s t.line) a t.entries = ap (λ o. gives_in s o a) (ap (station r) same.1 ∙ here) in
        ap (λ x. gives_in s (cond x (Some (entered_all s es t)) (station r b)) a) same.0
        ∙ omega (arith, old, given-append sc (start s t.line) a t.entries es, ap (λ x. given sc x a es) led, ap (λ x. cond x (given sc t.run a es) 0) same.0)
    | inr differ ↦
        ap (λ x. gives_in s (cond x (Some (entered_all s es t)) (station r b)) a) differ.0
        ∙ omega (arith, ap (λ x. cond x (given (script s t.line.domain) t.run a es) 0) differ.0)
  ]
