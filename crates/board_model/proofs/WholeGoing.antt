-- What holds of a board while it runs serially: its stations run their scripts step by step, and its lanes are well.
use Rattle.std.proofs.Common.{◌≡◌, ℕ, ◌+◌, ◌≤◌, cond, List, [], ◌++◌, length, map, sum, Option, Some, sym, ap, ◌∙◌, subst, inl, inr, arith, append-nil, length-append}
use Rattle.std.specs.Prelude.{◌==◌}
use Rattle.std.specs.List.{AllByRecursion}
use Rattle.std.proofs.lemmas.Bool.Decides.{eqb_tells}
use Rattle.board_model.specs.declared.scenario.Scenario.{Scenario}
use Rattle.board_model.specs.Scenario.{script, rising}
use Rattle.board_model.specs.Journal.{PlainEntry}
use Rattle.board_model.specs.State.{DomainState, free_to, held_from}
use Rattle.board_model.specs.Step.{HasNoPuts}
use Rattle.board_model.specs.Run.{start, Leads, after_all}
use Rattle.board_model.specs.Traffic.{put_to, taken_from, given, back_looks}
use Rattle.board_model.specs.Board.{SeesAtMost}
use Rattle.board_model.specs.Loads.{Load}
use Rattle.board_model.specs.SerialRun.{Station, Running, with_entries}
use Rattle.board_model.proofs.WholePeers.{numbers, size_at, shown_at}
use Rattle.board_model.proofs.WholeLoads.{load_on}
use Rattle.board_model.proofs.WholeLanes.{Book, LaneOk, placed}
use Rattle.board_model.proofs.WholeVisits.{AllOk}
use Rattle.board_model.proofs.WholeJournals.{leads_to, taken_many, sees-more, sees-append}
use Rattle.board_model.proofs.WholeStations.{station, station_after, entered_all, entries_loads, entries_lines, entries_in, states_of, book_of, states_after, entries_after, puts_after, backs_after, taken_after, gives_after}

-- a station that called so many lines, and made so many calls of the next
pub record StationOk (s : Scenario) (Joined : ℕ → ℕ → ℕ → Type 0) (n called made : ℕ) (t : Station) : Type 0 where
  pub leads : Leads (script s t.line.domain) (start s t.line) t.entries t.run
  pub no_puts : HasNoPuts t.run.put_since_turn
  pub lines : t.run.lines_called ≡ called
  pub calls : t.run.calls_made ≡ made
  pub number : t.run.state.number ≡ n
  pub peers : AllByRecursion (λ p. (size : ℕ) × Joined n p size) (numbers t.run.state)

pub record Going (s : Scenario) (Joined : ℕ → ℕ → ℕ → Type 0) (called made : ℕ → ℕ) (r : Running) : Type 0 where
  pub domains : map (λ t. t.line) r.stations ≡ rising s
  pub each : (n : ℕ) (t : Station) → station r n ≡ Some t → StationOk s Joined n (called n) (made n) t
  pub lanes : AllOk Joined (states_of r) (book_of s r) r.loads
  pub sees : (a b size : ℕ) → Joined a b size → SeesAtMost a (length (book_of s r a b).puts) 0 (entries_in (station r b))

-- a lane is well by its states, its book and the loads
pub lane_same : (size a b : ℕ) (sa sb ta tb : DomainState) (k j : Book) (loads more : List Load) → ta ≡ sa → tb ≡ sb → j.puts ≡ k.puts → j.backs ≡ k.backs → j.taken ≡ k.taken → j.gives ≡ k.gives → more ≡ loads → LaneOk size a b sa sb k loads → LaneOk size a b ta tb j more
lane_same size a b sa sb ta tb k j loads more is_a is_b puts backs taken gives is_loads h = record {
  sized_out = ap (λ x. size_at x b) is_a ∙ h.sized_out;
  sized_in = ap (λ x. size_at x a) is_b ∙ h.sized_in;
  load = h.load;
  loaded = subst (λ x. loaded_is x) (sym is_loads) h.loaded;
  front = ap (λ xs. xs ++ h.load.frames) taken ∙ h.front ∙ sym puts;
  shows = omega (arith, h.shows, backs, gives);
  places = omega (arith, h.places, ap (λ x. free_to x b) is_a, ap (held_from a) is_b);
  within = omega (arith, h.within, ap (λ x. shown_at x a) is_b);
}
  where
    loaded_is : List Load → Type 0
    loaded_is x = load_on x a b ≡ Some h.load

-- what entries of a domain add to the book of a lane
pub record Adds (s : Scenario) (d : ℕ) (t : Station) (es : List PlainEntry) (a b : ℕ) (k j : Book) : Type 0 where
  pub puts : j.puts ≡ k.puts ++ cond (a == d) (put_to b es) []
  pub backs : j.backs ≡ k.backs + cond (a == d) (sum (back_looks b es)) 0
  pub taken : j.taken ≡ k.taken ++ cond (b == d) (taken_from a es) []
  pub gives : j.gives ≡ k.gives + cond (b == d) (given (script s t.line.domain) t.run a es) 0

-- a board goes on as a station makes entries that are steps, and the lanes are well after them
pub goes_on : (s : Scenario) (Joined : ℕ → ℕ → ℕ → Type 0) (called made called' made' : ℕ → ℕ) (r : Running) (d : ℕ) (t : Station) (es : List PlainEntry) (loads : List Load) (books : ℕ → ℕ → Book) →
    Going s Joined called made r → station r d ≡ Some t →
    StationOk s Joined d (called' d) (made' d) (entered_all s es t) →
    ((n : ℕ) → (n ≡ d → ⊥) → (called' n ≡ called n) × (made' n ≡ made n)) →
    AllOk Joined (placed (states_of r) d (after_all (script s t.line.domain) t.run es).state) books loads →
    ((a b : ℕ) → Adds s d t es a b (book_of s r a b) (books a b)) →
    ((a size : ℕ) → Joined a d size → SeesAtMost a (length (books a d).puts) (length (book_of s r a d).taken) es) →
    Going s Joined called' made' (with_entries s d es (record r { loads = loads }))
goes_on s Joined called made called' made' r d t es loads books h here new others lanes adds sees =
    let q : Running = record r { loads = loads } in
    let z = with_entries s d es q in
    let led = leads_to (script s t.line.domain) (start s t.line) t.run t.entries (h.each d t here).leads in
    let puts_are : (a b : ℕ) → (book_of s z a b).puts ≡ (books a b).puts = λ a b. puts_after s d es q t here a b ∙ sym (adds a b).puts in
    record {
      domains = entries_lines s d es q ∙ h.domains;
      each = λ n u e. elim (eqb_tells n d) [
        | inl same ↦
            let is_new : entered_all s es t ≡ u = some_station (sym (ap (λ b. cond b (Some (entered_all s es t)) (station r n)) same.0) ∙ sym (station_after s d es q t here n) ∙ e) in
            subst (λ x. StationOk s Joined n (called' n) (made' n) x) is_new (subst (λ m. StationOk s Joined m (called' m) (made' m) (entered_all s es t)) (sym same.1) new)
        | inr differ ↦
            let old : station r n ≡ Some u = sym (ap (λ b. cond b (Some (entered_all s es t)) (station r n)) differ.0) ∙ sym (station_after s d es q t here n) ∙ e in
            let ok = h.each n u old in
            let same = others n differ.1 in
            record { leads = ok.leads; no_puts = ok.no_puts; lines = ok.lines ∙ sym same.0; calls = ok.calls ∙ sym same.1; number = ok.number; peers = ok.peers }
      ];
      lanes = λ a b size j.
          lane_same size a b (placed (states_of r) d (after_all (script s t.line.domain) t.run es).state a) (placed (states_of r) d (after_all (script s t.line.domain) t.run es).state b) (states_of z a) (states_of z b) (books a b) (book_of s z a b) loads z.loads
          (states_after s d es q t here a) (states_after s d es q t here b) (puts_are a b)
          (backs_after s d es q t here a b ∙ sym (adds a b).backs)
          (taken_after s d es q t here a b ∙ sym (adds a b).taken)
          (gives_after s d es q t here led a b ∙ sym (adds a b).gives)
          (entries_loads s d es q) (lanes a b size j);
      sees = λ a b size j.
          let more : length (book_of s r a b).puts ≤ length (books a b).puts = omega (arith, ap length (adds a b).puts, length-append (book_of s r a b).puts (cond (a == d) (put_to b es) [])) in
          let old = sees-more a (length (book_of s r a b).puts) (length (books a b).puts) 0 (entries_in (station r b)) more (h.sees a b size j) in
          let now : SeesAtMost a (length (books a b).puts) 0 (entries_in (station r b) ++ cond (b == d) es []) = elim (eqb_tells b d) [
            | inl same ↦
                let own = subst (λ n. SeesAtMost a (length (books a n).puts) (length (book_of s r a n).taken) es) (sym same.1) (sees a size (subst (λ n. Joined a n size) same.1 j)) in
                subst (λ x. SeesAtMost a (length (books a b).puts) 0 (entries_in (station r b) ++ cond x es [])) (sym same.0)
                (sees-append a (length (books a b).puts) 0 (length (book_of s r a b).taken) (entries_in (station r b)) es (omega (arith, taken_many a (entries_in (station r b)))) old own)
            | inr differ ↦
                subst (λ x. SeesAtMost a (length (books a b).puts) 0 (entries_in (station r b) ++ cond x es [])) (sym differ.0)
                (subst (λ xs. SeesAtMost a (length (books a b).puts) 0 xs) (sym (append-nil (entries_in (station r b)))) old)
          ] in
          subst (λ n. SeesAtMost a n 0 (entries_in (station z b))) (sym (ap length (puts_are a b)))
          (subst (λ xs. SeesAtMost a (length (books a b).puts) 0 xs) (sym (entries_after s d es q t here b)) now);
    }
  where
    some_station : {x y : Station} → ◌≡◌ {A = Option Station} (Some x) (Some y) → x ≡ y
    some_station e = cc
