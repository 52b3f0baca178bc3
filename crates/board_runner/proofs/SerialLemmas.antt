-- The lines of a board, one after the other.
use Rattle.std.proofs.Common.{◌≡◌, ◌≢◌, ℕ, zero, suc, ◌+◌, ◌<◌, ◌≤◌, Bool, cond, List, [], ◌∷◌, ◌++◌, length, map, take, drop, find, count_by, sum_by, Option, Some, option_map, get_or, refl, sym, ap, ap₂, ◌∙◌, subst, inl, inr, arith, length-append, append-nil, eq-eqb, ne_eqb, eqb-true, lt-ltb, le-ltb}
use Rattle.std.specs.Prelude.{◌==◌, nat_lt, slice_get}
use Rattle.std.specs.List.{AllByRecursion}
use Rattle.std.proofs.lemmas.Bool.{cond_both}
use Rattle.std.proofs.lemmas.Bool.Decides.{eqb_tells}
use Rattle.std.proofs.lemmas.List.{length-map}
use Rattle.std.proofs.lemmas.List.Elements.{filter-append}
use Rattle.std.proofs.lemmas.Option.{slice_get-map, slice_get_read, slice_get_within}
use Rattle.board_model.specs.declared.scenario.Call.{Call}
use Rattle.board_model.specs.declared.scenario.Call.TheVariants.{Create, Delete, Lookup, MsgSend, MsgRecv, MsgRecvI, MsgAvailable, Connect, OpenSend, OpenRecv, PktSend, PktRecv, PktRecvI, Release, SclSend, SclRecv, CloseSend, CloseRecv, Test, Wait, WaitAny, Cancel, Raw, Turn}
use Rattle.board_model.specs.declared.scenario.CallLine.{CallLine}
use Rattle.board_model.specs.declared.scenario.DomainLine.{DomainLine}
use Rattle.board_model.specs.declared.scenario.Scenario.{Scenario}
use Rattle.board_model.specs.Language.{IsLawfulBoard}
use Rattle.board_model.specs.LinkedBoard.{Differ, IsTold, HasFitArguments, IsLinkedBoard}
use Rattle.board_model.specs.Lists.{changed_at}
use Rattle.board_model.specs.Scenario.{rising, rising_from, ranked_domain, script}
use Rattle.board_model.specs.SerialRun.{Running, opened, opened_station, line_run, lines_run, finished}
use Rattle.board_model.proofs.BoardsNeighbours.{told-fits}
use Rattle.board_model.proofs.BoardsRising.{AreRising, rising-rises}
use Rattle.board_model.proofs.LawfulBoards.{lawful_is_linked}
use Rattle.board_model.proofs.ListsApart.{all-unmap}
use Rattle.board_model.proofs.ListsCounts.{one_if, count-cons}
use Rattle.board_model.proofs.MessageAlls.{all-at, all-found, found-passes}
use Rattle.board_model.proofs.PlaceBoards.{rising_differ}
use Rattle.board_model.proofs.WholeJoined.{told_found}
use Rattle.board_model.proofs.WholeLines.{lines_of}
use Rattle.board_runner.specs.declared.station.Station.{Station}
use Rattle.board_runner.specs.Lines.{HasFitNumbers}
use Rattle.board_runner.specs.Runs.{IsSomeNext, AllCarried, At, IsNext, DropsFit, CountsFit, OneLineMore, RunsLine}
use Rattle.board_runner.specs.StationsMet.{counted}
use Rattle.board_runner.specs.Stations.{AreStations, IsRun}
use Rattle.board_runner.proofs.OthersLemmas.{board_numbers}
use Rattle.board_runner.proofs.StationCounts.{place_at}
use Rattle.board_runner.proofs.StationLemmas.{item_at, numbers_in, numbers_are, domains_rise}

-- ---- the place of a domain's station

count_ranked : (p : DomainLine → Bool) (d : DomainLine) (ds : List DomainLine) → count_by p (ranked_domain d ds) ≡ count_by p (d ∷ ds)
count_ranked p d [] = refl
count_ranked p d (e ∷ es) =
    cond_both (nat_lt d.domain e.domain) (d ∷ e ∷ es) (e ∷ ranked_domain d es) (λ xs. count_by p xs ≡ count_by p (d ∷ e ∷ es)) (λ before. refl)
    (λ behind. omega (arith, count-cons p e (ranked_domain d es), count_ranked p d es, count-cons p d es, count-cons p d (e ∷ es), count-cons p e es))

count_rising : (p : DomainLine → Bool) (ds : List DomainLine) → count_by p (rising_from ds) ≡ count_by p ds
count_rising p [] = refl
count_rising p (d ∷ ds) = omega (arith, count_ranked p d (rising_from ds), count-cons p d (rising_from ds), count_rising p ds, count-cons p d ds)

abbrev is_lower : ℕ → DomainLine → Bool
is_lower n d = nat_lt d.domain n

none_lower : (n : ℕ) (ds : List DomainLine) → AllByRecursion (λ m. n < m) (map (λ d. d.domain) ds) → count_by (is_lower n) ds ≡ 0
none_lower n [] all = refl
none_lower n (d ∷ ds) all =
    let above : n < d.domain = all.0 in
    let not_lower = ap one_if (le-ltb d.domain n (omega (arith, above))) in
    omega (arith, count-cons (is_lower n) d ds, none_lower n ds all.1, not_lower)

lower_place : (n : ℕ) (ds : List DomainLine) (d : DomainLine) → AreRising (map (λ e. e.domain) ds) → find (λ e. e.domain == n) ds ≡ Some d → slice_get (map (λ e. e.domain) ds) (count_by (is_lower n) ds) ≡ Some n
lower_place n [] d rising found = absurd cc
lower_place n (e ∷ ds) d rising found = elim (eqb_tells e.domain n) [
  | inl same ↦
      let own = same.1 in
      let not_lower = ap one_if (le-ltb e.domain n (omega (arith, own))) in
      let first : count_by (is_lower n) (e ∷ ds) ≡ 0 = omega (arith, count-cons (is_lower n) e ds, none_lower n ds (subst (λ m. AllByRecursion (λ k. m < k) (map (λ x. x.domain) ds)) own rising.0), not_lower) in
      ap (λ (i : ℕ). slice_get (map (λ (x : DomainLine). x.domain) (e ∷ ds)) i) first ∙ ap Some own
  | inr differ ↦
      let later : find (λ x. x.domain == n) ds ≡ Some d = sym (ap (λ (b : Bool). cond b (Some e) (find (λ x. x.domain == n) ds)) differ.0) ∙ found in
      let less : e.domain < d.domain = all-found (λ (x : DomainLine). e.domain < x.domain) (λ x. x.domain == n) ds d (all-unmap (λ m. e.domain < m) (λ (x : DomainLine). x.domain) ds rising.0) later in
      let is : d.domain ≡ n = eqb-true d.domain n (found-passes (λ (x : DomainLine). x.domain == n) ds d later) in
      let lower = ap one_if (lt-ltb e.domain n (omega (arith, less, is))) in
      let next : count_by (is_lower n) (e ∷ ds) ≡ suc (count_by (is_lower n) ds) = omega (arith, count-cons (is_lower n) e ds, lower) in
      ap (λ (i : ℕ). slice_get (map (λ (x : DomainLine). x.domain) (e ∷ ds)) i) next ∙ lower_place n ds d rising.1 later
]

-- behind those of the domains with lower numbers
pub place_is : (s : Scenario) → IsLinkedBoard s → (n : ℕ) → IsTold s n → slice_get (board_numbers s) (count_by (λ d. nat_lt d.domain n) s.domains) ≡ Some n
place_is s board n told =
    let d = told_found s board n told in
    ap (slice_get (board_numbers s)) (sym (count_rising (is_lower n) s.domains)) ∙ lower_place n (rising s) d.0 (rising-rises s board) d.1

-- ---- the lines of a domain

one_line : (before : List CallLine) (line : CallLine) (n : ℕ) → lines_of (before ++ line ∷ []) n ≡ lines_of before n ++ cond (line.domain == n) (line ∷ []) []
one_line before line n = filter-append (λ c. c.domain == n) before (line ∷ [])

pub own_counted : (before : List CallLine) (line : CallLine) → length (lines_of (before ++ line ∷ []) line.domain) ≡ length (lines_of before line.domain) + 1
own_counted before line =
    ap length (one_line before line line.domain ∙ ap (λ (b : Bool). lines_of before line.domain ++ cond b (line ∷ []) []) (eq-eqb line.domain line.domain refl))
    ∙ length-append (lines_of before line.domain) (line ∷ [])

pub other_counted : (before : List CallLine) (line : CallLine) (n : ℕ) → n ≢ line.domain → length (lines_of (before ++ line ∷ []) n) ≡ length (lines_of before n)
other_counted before line n differ =
    ap length (one_line before line n ∙ ap (λ (b : Bool). lines_of before n ++ cond b (line ∷ []) []) (ne_eqb line.domain n (λ e. differ (sym e))) ∙ append-nil (lines_of before n))

-- after the lines before it, a line is the next of its domain
comes_next : (before rest : List CallLine) (line : CallLine) → slice_get (lines_of (before ++ line ∷ rest) line.domain) (length (lines_of before line.domain)) ≡ Some line
comes_next before rest line =
    let d = line.domain in
    ap (λ (xs : List CallLine). slice_get xs (length (lines_of before d))) (filter-append (λ c. c.domain == d) before (line ∷ rest) ∙ ap (λ (b : Bool). lines_of before d ++ cond b (line ∷ lines_of rest d) (lines_of rest d)) (eq-eqb d d refl))
    ∙ at (lines_of before d) (lines_of rest d)
  where
    at : (xs ys : List CallLine) → slice_get (xs ++ line ∷ ys) (length xs) ≡ Some line
    at [] ys = refl
    at (x ∷ xs) ys = at xs ys

-- ---- lines one after the other

lines_run-append : (s : Scenario) (r : Running) (xs ys : List CallLine) → lines_run s r (xs ++ ys) ≡ lines_run s (lines_run s r xs) ys
lines_run-append s r [] ys = refl
lines_run-append s r (x ∷ xs) ys = lines_run-append s (line_run s r x) xs ys

split_at : (lines : List CallLine) (i : ℕ) (line : CallLine) → slice_get lines i ≡ Some line → lines ≡ take i lines ++ line ∷ drop (suc i) lines
split_at [] i line e = absurd cc
split_at (l ∷ ls) zero line e = let is : l ≡ line = cc in ap (λ (x : CallLine). x ∷ ls) is
split_at (l ∷ ls) (suc i) line e = ap (λ (xs : List CallLine). l ∷ xs) (split_at ls i line e)

take_next : (lines : List CallLine) (i : ℕ) (line : CallLine) → slice_get lines i ≡ Some line → take (suc i) lines ≡ take i lines ++ line ∷ []
take_next [] i line e = absurd cc
take_next (l ∷ ls) zero line e = let is : l ≡ line = cc in ap (λ (x : CallLine). x ∷ []) is
take_next (l ∷ ls) (suc i) line e = ap (λ (xs : List CallLine). l ∷ xs) (take_next ls i line e)

pub take_all : (lines : List CallLine) (i : ℕ) → length lines ≤ i → take i lines ≡ lines
take_all [] zero le = refl
take_all [] (suc i) le = refl
take_all (l ∷ ls) zero le = absurd (omega (arith, le))
take_all (l ∷ ls) (suc i) le = ap (λ (xs : List CallLine). l ∷ xs) (take_all ls i (omega (arith, le)))

-- the line at its place
pub line_read : (lines calls : List CallLine) (i : ℕ) (line : CallLine) → i < length lines → line ≡ get_or lines i line → lines ≡ calls → slice_get calls i ≡ Some line
line_read lines calls i line lt is same = ap (λ (xs : List CallLine). slice_get xs i) (sym same) ∙ slice_get_read lines (length lines) i line refl lt is

-- the line at a place is the next of its domain after the lines before it
pub next_in_script : (s : Scenario) (i : ℕ) (line : CallLine) → slice_get s.calls i ≡ Some line → slice_get (script s line.domain) (length (lines_of (take i s.calls) line.domain)) ≡ Some line
next_in_script s i line is =
    ap (λ (ls : List CallLine). slice_get (lines_of ls line.domain) (length (lines_of (take i s.calls) line.domain))) (split_at s.calls i line is) ∙ comes_next (take i s.calls) (drop (suc i) s.calls) line

-- and with it they are one more
pub one_taken : (lines : List CallLine) (i : ℕ) (line : CallLine) → slice_get lines i ≡ Some line → take i lines ++ line ∷ [] ≡ take (i + 1) lines
one_taken lines i line is = let next : suc i ≡ i + 1 = omega arith in sym (take_next lines i line is) ∙ ap (λ (k : ℕ). take k lines) next

-- so many lines of each domain were called
abbrev pub called_of : List CallLine → List ℕ → List ℕ
called_of before ns = map (λ n. length (lines_of before n)) ns

one_called : (before : List CallLine) (line : CallLine) (ns : List ℕ) (at : ℕ) → Differ ns → slice_get ns at ≡ Some line.domain → changed_at (λ k. k + 1) at (called_of before ns) ≡ called_of (before ++ line ∷ []) ns
one_called before line [] at differ is = absurd cc
one_called before line (n ∷ ns) zero differ is =
    let own : n ≡ line.domain = cc in
    ap₂ (λ (k : ℕ) (ks : List ℕ). k ∷ ks)
    (ap (λ (m : ℕ). length (lines_of before m) + 1) own ∙ sym (own_counted before line) ∙ ap (λ (m : ℕ). length (lines_of (before ++ line ∷ []) m)) (sym own))
    (none_called ns (subst (λ (m : ℕ). AllByRecursion (λ k. k ≡ m → ⊥) ns) own differ.0))
  where
    none_called : (ms : List ℕ) → AllByRecursion (λ k. k ≡ line.domain → ⊥) ms → called_of before ms ≡ called_of (before ++ line ∷ []) ms
    none_called [] apart = refl
    none_called (m ∷ ms) apart = ap₂ (λ (k : ℕ) (ks : List ℕ). k ∷ ks) (sym (other_counted before line m apart.0)) (none_called ms apart.1)
one_called before line (n ∷ ns) (suc at) differ is =
    ap₂ (λ (k : ℕ) (ks : List ℕ). k ∷ ks) (sym (other_counted before line n (λ same. all-at (λ m. m ≡ n → ⊥) ns at line.domain differ.0 is (sym same)))) (one_called before line ns at differ.1 is)

-- where the stations stand after so many lines
pub record Along (s : Scenario) (before : List CallLine) (sts : List Station) : Type 0 where
  pub stands : IsRun s (lines_run s (opened s) before) sts
  pub carried : AllCarried sts
  pub called : map (λ st. st.number) sts ≡ called_of before (board_numbers s)
  pub fits : CountsFit sts

-- before the first line
opened_counts : (s : Scenario) (ds : List DomainLine) (sts : List Station) → AreStations s (map (opened_station s) ds) sts → (map (λ st. st.number) sts ≡ map (λ n. 0) (map (λ d. d.domain) ds)) × CountsFit sts
opened_counts s [] [] all = (refl, tt)
opened_counts s (d ∷ ds) (st ∷ sts) all =
    let rest = opened_counts s ds sts all.1 in
    let none : st.dropped ≡ 0 = all.0.dropped ∙ ap (sum_by _) all.0.told in
    let fits : DropsFit (counted st) = omega (arith, none) in
    (ap₂ (λ (k : ℕ) (ks : List ℕ). k ∷ ks) all.0.number rest.0, (fits, rest.1))
opened_counts s [] (st ∷ sts) all = absurd all
opened_counts s (d ∷ ds) [] all = absurd all

pub none_along : (s : Scenario) (sts : List Station) → IsRun s (opened s) sts → AllCarried sts → Along s [] sts
none_along s sts h carried = let counts = opened_counts s (rising s) sts h.each in record { stands = h; carried = carried; called = counts.0; fits = counts.1 }

-- the line that comes next, at the station of its domain
pub record Comes (s : Scenario) (line : CallLine) (at : ℕ) (sts : List Station) : Type 0 where
  pub within : at < length sts
  pub next : At at (IsNext s line) sts

pub line_comes : (s : Scenario) → IsLinkedBoard s → (i : ℕ) (line : CallLine) (at : ℕ) (sts : List Station) → slice_get s.calls i ≡ Some line → at ≡ count_by (λ d. nat_lt d.domain line.domain) s.domains → Along s (take i s.calls) sts → Comes s line at sts
line_comes s board i line at sts is place h =
    let before = take i s.calls in
    let ns = board_numbers s in
    let n = line.domain in
    let numbers : numbers_in sts ≡ ns = numbers_are s (lines_run s (opened s) before).stations sts h.stands.each ∙ domains_rise s (lines_run s (opened s) before).stations h.stands.lines in
    let there : slice_get ns at ≡ Some n = ap (slice_get ns) place ∙ place_is s board n (all-at (λ c. IsTold s c.domain) s.calls i line board.lines_told is) in
    let own : slice_get (numbers_in sts) at ≡ Some n = ap (λ (ms : List ℕ). slice_get ms at) numbers ∙ there in
    let lt : at < length sts = omega (arith, slice_get_within (numbers_in sts) at n own, length-map sts (λ (x : Station). x.domain.state.number)) in
    let st = item_at sts at lt in
    let called : slice_get (map (λ x. x.number) sts) at ≡ Some (length (lines_of before n)) = ap (λ (ms : List ℕ). slice_get ms at) h.called ∙ slice_get-map (λ m. length (lines_of before m)) ns at ∙ ap (option_map (λ m. length (lines_of before m))) there in
    let number : st.0.domain.state.number ≡ n = some_is (sym (slice_get-map (λ (x : Station). x.domain.state.number) sts at ∙ ap (option_map (λ (x : Station). x.domain.state.number)) st.1) ∙ own) in
    let many : st.0.number ≡ length (lines_of before n) = some_is (sym (slice_get-map (λ (x : Station). x.number) sts at ∙ ap (option_map (λ (x : Station). x.number)) st.1) ∙ called) in
    record {
      within = lt;
      next = place_at (IsNext s line) sts at st.0 st.1 (record {
        number = number;
        comes = ap (slice_get (script s n)) many ∙ next_in_script s i line is;
      });
    }
  where
    some_is : {x y : ℕ} → ◌≡◌ {A = Option ℕ} (Some x) (Some y) → x ≡ y
    some_is e = cc

-- after it
pub line_along : (s : Scenario) → IsLawfulBoard s → (i : ℕ) (line : CallLine) (at : ℕ) (sts new : List Station) → slice_get s.calls i ≡ Some line → at ≡ count_by (λ d. nat_lt d.domain line.domain) s.domains → Along s (take i s.calls) sts → RunsLine line at sts new → AllCarried new → OneLineMore at sts new → Along s (take (i + 1) s.calls) new
line_along s lawful i line at sts new is place h runs carried more =
    let board = lawful_is_linked s lawful in
    let before = take i s.calls in
    let comes = line_comes s board i line at sts is place h in
    let all = one_taken s.calls i line is in
    let there : slice_get (board_numbers s) at ≡ Some line.domain = ap (slice_get (board_numbers s)) place ∙ place_is s board line.domain (all-at (λ c. IsTold s c.domain) s.calls i line board.lines_told is) in
    let go : Along s (before ++ line ∷ []) new = record {
      stands = subst (λ (z : Running). IsRun s z new) (sym (lines_run-append s (opened s) before (line ∷ []))) (runs s (lines_run s (opened s) before) lawful comes.next h.stands);
      carried = carried;
      called = more.lines ∙ ap (changed_at (λ (k : ℕ). k + 1) at) h.called ∙ one_called before line (board_numbers s) at (rising_differ s board) there;
      fits = more.fits h.fits;
    } in
    subst (λ (ls : List CallLine). Along s ls new) all go

pub some_next : (s : Scenario) → IsLawfulBoard s → (line : CallLine) (at : ℕ) (before : List CallLine) (sts : List Station) → Along s before sts → Comes s line at sts → IsSomeNext line at sts
some_next s lawful line at before sts h comes = record { scenario = s; lawful = lawful; run = lines_run s (opened s) before; stands = h.stands; next = comes.next }

-- all lines ran
pub all_along : (s : Scenario) (i : ℕ) (sts : List Station) → length s.calls ≤ i → Along s (take i s.calls) sts → IsRun s (finished s) sts
all_along s i sts le h = subst (λ (ls : List CallLine). IsRun s (lines_run s (opened s) ls) sts) (take_all s.calls i le) h.stands

-- a line's domain is one of 0 to 7
pub number-fits : (s : Scenario) → IsLinkedBoard s → (i : ℕ) (line : CallLine) → slice_get s.calls i ≡ Some line → line.domain < 8
number-fits s board i line is = omega (arith, told-fits s board line.domain (all-at (λ c. IsTold s c.domain) s.calls i line board.lines_told is))

-- a line whose arguments fit asks for 9,000 bytes at most, and its values fit their bits
pub asks : (c : Call) → HasFitArguments c → HasFitNumbers 9000 c
asks (Create port) h = tt
asks (Delete port) h = tt
asks (Lookup name) h = tt
asks (MsgSend port to priority bytes) h = tt
asks (MsgRecv port max) h = h.1
asks (MsgRecvI port max) h = tt
asks (MsgAvailable port) h = tt
asks (Connect port to kind) h = tt
asks (OpenSend port kind) h = tt
asks (OpenRecv port kind) h = tt
asks (PktSend port bytes) h = tt
asks (PktRecv port) h = tt
asks (PktRecvI port) h = tt
asks (Release label) h = tt
asks (SclSend port bits value) h = h.1
asks (SclRecv port bits) h = tt
asks (CloseSend port) h = tt
asks (CloseRecv port) h = tt
asks (Test label) h = tt
asks (Wait label limit) h = tt
asks (WaitAny names limit) h = h.0
asks (Cancel label) h = tt
asks (Raw domain bytes) h = (h.1, h.2)
asks Turn h = tt

pub line_asks : (s : Scenario) → IsLinkedBoard s → (i : ℕ) (line : CallLine) → slice_get s.calls i ≡ Some line → HasFitNumbers 9000 line.call
line_asks s board i line is = asks line.call (all-at (λ (c : CallLine). HasFitArguments c.call) s.calls i line board.arguments_fit is)
