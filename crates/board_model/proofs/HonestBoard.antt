-- On a board of linked domains each frame taken is honest, since each frame put is; so what a domain knows of names is real, at each
-- moment of its run.
use Rattle.std.proofs.Common.{◌≡◌, ℕ, ◌+◌, ◌≤◌, ◌<◌, Bool, true, false, cond, List, [], ◌∷◌, ◌++◌, map, find, Option, Some, None, option_map, refl, sym, ap, ◌∙◌, subst, arith}
use Rattle.std.specs.Prelude.{◌==◌, ◌&&◌}
use Rattle.std.specs.List.{AllByRecursion, flat_map}
use Rattle.std.proofs.lemmas.Bool.{eqb-true, eq-eqb}
use Rattle.mc_base.specs.NameMap.{Names, has_name, address_in}
use Rattle.mc_base.specs.Letter.{connect}
use Rattle.mc_base.specs.Reading.{Reading, is_faulty, announces, says, reading, brings}
use Rattle.mc_base.specs.declared.name.EndName.{EndName}
use Rattle.board_model.specs.declared.scenario.DomainLine.{DomainLine}
use Rattle.board_model.specs.declared.scenario.Scenario.{Scenario}
use Rattle.board_model.specs.Scenario.{Neighbour, neighbours, Lane, lanes}
use Rattle.board_model.specs.LinkedBoard.{Differ, IsLinkedBoard}
use Rattle.board_model.specs.State.{DomainState, is_numbered}
use Rattle.board_model.specs.Traffic.{put_to, taken_from}
use Rattle.board_model.specs.Run.{IsDomainRun}
use Rattle.board_model.specs.Board.{DomainJournal, journal_in, journal_of, LaneFits, IsBoardRun}
use Rattle.board_model.specs.Deeds.{Deed, looks_back, puts_owed, looks_ahead, takes, calls, after_deeds}
use Rattle.board_model.specs.JournalDeeds.{deeds_of, opened, left_in}
use Rattle.board_model.specs.Honesty.{IsMade, IsReal, KnowsReal}
use Rattle.board_model.proofs.DeedJoins.{after-join}
use Rattle.board_model.proofs.DeedRuns.{frames_if, takes_by}
use Rattle.board_model.proofs.ListsApart.{all-map, all-unmap, differ-found}
use Rattle.board_model.proofs.MessageAlls.{all-parts, all-found, all-weaken, all-with, found-passes}
use Rattle.board_model.proofs.MessageOnce.{times}
use Rattle.board_model.proofs.PlaceBoards.{rising_differ}
use Rattle.board_model.proofs.BoardsLanes.{lane-found}
use Rattle.board_model.proofs.WholeHas.{Has}
use Rattle.board_model.proofs.WholeJoined.{joined_back, neighbours_join, rising_told}
use Rattle.board_model.proofs.HonestFrames.{Honest}
use Rattle.board_model.proofs.HonestSound.{PeerSound, Sound}
use Rattle.board_model.proofs.HonestDeeds.{Hears, OfTaken, HearsDeed}
use Rattle.board_model.proofs.HonestEnds.{HearsFar, HearsFarDeed, FarEnds, far_deeds}
use Rattle.board_model.proofs.HonestRuns.{anything, hears_anything, sound_opening, sound_deeds, given_deeds, AllHonest, run_honest}
use Rattle.board_model.proofs.KeptLanes.{IsOnce, IsFrom}
use Rattle.board_model.proofs.KeptTells.{TellsDeeds, tells_deeds, numbers_of, after_run, OfJournal, of_journal}

-- a journal is the one that is found by its domain
abbrev pub IsFound : List DomainJournal → DomainJournal → Type 0
IsFound js j = find (λ k. k.line.domain == j.line.domain) js ≡ Some j

domains_of : (js : List DomainJournal) → map (λ j. j.line.domain) js ≡ map (λ d. d.domain) (map (λ j. j.line) js)
domains_of [] = refl
domains_of (j ∷ js) = ap (λ ns. j.line.domain ∷ ns) (domains_of js)

pub each_found : (s : Scenario) (js : List DomainJournal) → IsLinkedBoard s → IsBoardRun s js → AllByRecursion (IsFound js) js
each_found s js board run =
    differ-found (λ j. j.line.domain) js (subst Differ (sym (domains_of js ∙ ap (map (λ (d : DomainLine). d.domain)) run.each_domain)) (rising_differ s board))

-- what holds of each of some numbers holds of one that is among them
pub once_holds : (P : ℕ → Type 0) (q : ℕ) (ns : List ℕ) → AllByRecursion P ns → IsOnce ns q → P q
once_holds P q [] all once = absurd (omega arith)
once_holds P q (n ∷ ns) all once = go (q == n) refl once (λ k. once_holds P q ns all.1 k)
  where
    go : (b : Bool) → (q == n) ≡ b → cond b 1 0 + times (λ m. m) q ns ≡ 1 → (IsOnce ns q → P q) → P q
    go true is k later = subst P (sym (eqb-true q n is)) all.0
    go false is k later = later (omega arith)

-- what is asked of each frame that is taken follows from more
of_more : (F H : ℕ → Reading → Type 0) → ((q : ℕ) (r : Reading) → F q r → H q r) → (d : Deed) → OfTaken F d → OfTaken H d
of_more F H more (takes q name frame word) is = more q (reading frame) is
of_more F H more (looks_back q n) is = tt
of_more F H more (puts_owed q f) is = tt
of_more F H more (looks_ahead q n) is = tt
of_more F H more (calls node call a) is = tt

module _ (s : Scenario) (js : List DomainJournal) (board : IsLinkedBoard s) (run : IsBoardRun s js) where
  -- how many endpoints the domain of a number makes
  abbrev made_in : Option DomainJournal → ℕ
  made_in None = 0
  made_in (Some j) = (left_in s j).endpoints_given

  abbrev pub made_at : ℕ → ℕ
  made_at q = made_in (find (λ j. j.line.domain == q) js)

  -- the addresses that may be known of its names
  abbrev pub may_know : ℕ → ℕ → Type 0
  may_know q a = IsMade (made_at q) a

  -- ---- what is put

  journal_honest : (j : DomainJournal) → IsDomainRun s j.line j.entries → (q : ℕ) → AllHonest (left_in s j).endpoints_given anything (numbers_of s j.line) (put_to q j.entries)
  journal_honest j is q =
      let told = tells_deeds s j board is in
      let made : ℕ = (left_in s j).endpoints_given in
      subst (AllHonest made anything (numbers_of s j.line)) (sym (told.puts q))
      (run_honest made anything (numbers_of s j.line) q (opened s j) (deeds_of s j) (after_run s board j is).few told.run.may (hears_anything (deeds_of s j)) (omega arith) (sound_opening made anything j.line.domain j.line.nodes (neighbours s j.line)))

  put_honest : (a b : ℕ) → AllByRecursion (λ f. Honest (made_at a) (reading f)) (put_to b (journal_of a js))
  put_honest a b = go (find (λ j. j.line.domain == a) js) refl
    where
      go : (o : Option DomainJournal) → find (λ j. j.line.domain == a) js ≡ o → AllByRecursion (λ f. Honest (made_in o) (reading f)) (put_to b (journal_in o))
      go None is = tt
      go (Some j) is = journal_honest j (all-found (λ k. IsDomainRun s k.line k.entries) (λ k. k.line.domain == a) js j run.domain_runs is) b

  each_told : AllByRecursion (λ j. Has (λ e. e ≡ j.line) s.domains) js
  each_told = all-unmap (λ (d : DomainLine). Has (λ e. e ≡ d) s.domains) (λ (j : DomainJournal). j.line) js (subst (AllByRecursion (λ d. Has (λ e. e ≡ d) s.domains)) (sym run.each_domain) (rising_told s))

  -- ---- what holds of all that is put holds of all that is taken
  module _ (F : ℕ → Reading → Type 0) (put_so : (a b : ℕ) → AllByRecursion (λ f. F a (reading f)) (put_to b (journal_of a js))) where
    lane_so : (l : Lane) → LaneFits s js l → AllByRecursion (λ f. F l.sender (reading f)) (taken_from l.sender (journal_of l.receiver js))
    lane_so l fits =
        (all-parts (λ f. F l.sender (reading f)) (taken_from l.sender (journal_of l.receiver js)) fits.taken_first.0
        (subst (AllByRecursion (λ f. F l.sender (reading f))) fits.taken_first.1 (put_so l.sender l.receiver))).0

    from_neighbours : (j : DomainJournal) → IsFound js j → Has (λ e. e ≡ j.line) s.domains → AllByRecursion (λ q. AllByRecursion (λ f. F q (reading f)) (taken_from q j.entries)) (numbers_of s j.line)
    from_neighbours j found told =
        all-map (λ q. AllByRecursion (λ f. F q (reading f)) (taken_from q j.entries)) (λ (n : Neighbour). n.number) (neighbours s j.line)
        (all-weaken _ (λ n. AllByRecursion (λ f. F n.number (reading f)) (taken_from n.number j.entries)) (λ n joined.
        let l : Lane = record { sender = n.number; receiver = j.line.domain; size = n.size } in
        let fits : LaneFits s js l = all-found (LaneFits s js) (λ k. (k.sender == n.number) && (k.receiver == j.line.domain)) (lanes s) l run.lanes_fit (lane-found s board n.number j.line.domain n.size (joined_back s j.line.domain n.number n.size joined)) in
        subst (λ o. AllByRecursion (λ f. F n.number (reading f)) (taken_from n.number (journal_in o))) found (lane_so l fits))
        (neighbours s j.line) (neighbours_join s j.line told))

    hears_all : (ns : List ℕ) (ds : List Deed) → AllByRecursion (IsFrom ns) ds → ((q : ℕ) → IsOnce ns q → AllByRecursion (λ f. F q (reading f)) (flat_map (takes_by q) ds)) → AllByRecursion (OfTaken F) ds
    hears_all ns [] from all = tt
    hears_all ns (d ∷ ds) from all = (one d from.0 (λ q once. (parts q once).0), hears_all ns ds from.1 (λ q once. (parts q once).1))
      where
        parts : (q : ℕ) → IsOnce ns q → AllByRecursion (λ f. F q (reading f)) (takes_by q d) × AllByRecursion (λ f. F q (reading f)) (flat_map (takes_by q) ds)
        parts q once = all-parts (λ f. F q (reading f)) (takes_by q d) (flat_map (takes_by q) ds) (all q once)

        one : (e : Deed) → IsFrom ns e → ((q : ℕ) → IsOnce ns q → AllByRecursion (λ f. F q (reading f)) (takes_by q e)) → OfTaken F e
        one (looks_back q n) is each = tt
        one (puts_owed q f) is each = tt
        one (looks_ahead q n) is each = tt
        one (calls node call a) is each = tt
        one (takes q name frame word) is each = at_it (q == q) (eq-eqb q q refl) (each q is)
          where
            at_it : (b : Bool) → b ≡ true → AllByRecursion (λ f. F q (reading f)) (frames_if b (frame ∷ [])) → F q (reading frame)
            at_it true is k = k.0
            at_it false is k = absurd cc

    pub taken_so : (j : DomainJournal) → IsFound js j → Has (λ e. e ≡ j.line) s.domains → TellsDeeds s j → OfJournal s board j → AllByRecursion (OfTaken F) (deeds_of s j)
    taken_so j found line told deeds = hears_all (numbers_of s j.line) (deeds_of s j) deeds.from (λ q once.
        subst (AllByRecursion (λ f. F q (reading f))) (told.takes q)
        (once_holds (λ n. AllByRecursion (λ f. F n (reading f)) (taken_from n j.entries)) q (numbers_of s j.line) (from_neighbours j found line) once))

  -- ---- so what is taken is honest

  heard : (q : ℕ) (r : Reading) → Honest (made_at q) r → Hears may_know q r
  heard q (is_faulty w) honest = tt
  heard q (announces text a there) honest = honest
  heard q (says src dst l) honest = tt
  heard q (brings src dst p) honest = tt

  -- and a Connect comes from a real address
  heard_far : (q : ℕ) (r : Reading) → Honest (made_at q) r → HearsFar may_know q r
  heard_far q (is_faulty w) honest = tt
  heard_far q (announces text a there) honest = tt
  heard_far q (says src dst (connect m kind)) honest = honest
  heard_far q (says src dst other) honest = tt
  heard_far q (brings src dst p) honest = tt

  -- ---- each journal

  pub record OnBoard (j : DomainJournal) : Type 0 where
    pub is_run : IsDomainRun s j.line j.entries
    pub told : TellsDeeds s j
    pub found : IsFound js j
    pub line : Has (λ e. e ≡ j.line) s.domains
    pub deeds : OfJournal s board j
    pub hears : AllByRecursion (HearsDeed may_know) (deeds_of s j)
    pub hears_far : AllByRecursion (HearsFarDeed may_know) (deeds_of s j)

  on_board : (j : DomainJournal) → IsDomainRun s j.line j.entries → IsFound js j × Has (λ e. e ≡ j.line) s.domains → OnBoard j
  on_board j is at =
      let told = tells_deeds s j board is in
      let deeds = of_journal s board j is in
      let honest = taken_so (λ q r. Honest (made_at q) r) put_honest j at.0 at.1 told deeds in
      record {
        is_run = is;
        told = told;
        found = at.0;
        line = at.1;
        deeds = deeds;
        hears = all-weaken (OfTaken (λ q r. Honest (made_at q) r)) (HearsDeed may_know) (of_more (λ q r. Honest (made_at q) r) (Hears may_know) heard) (deeds_of s j) honest;
        hears_far = all-weaken (OfTaken (λ q r. Honest (made_at q) r)) (HearsFarDeed may_know) (of_more (λ q r. Honest (made_at q) r) (HearsFar may_know) heard_far) (deeds_of s j) honest;
      }

  pub each_on_board : AllByRecursion OnBoard js
  each_on_board =
      all-with (λ j. IsDomainRun s j.line j.entries) (λ j. IsFound js j × Has (λ e. e ≡ j.line) s.domains) OnBoard on_board js run.domain_runs
      (all-with (IsFound js) (λ j. Has (λ e. e ≡ j.line) s.domains) (λ j. IsFound js j × Has (λ e. e ≡ j.line) s.domains) (λ j found told. (found, told)) js (each_found s js board run) each_told)

  -- at each moment of a run
  pub moment : (j : DomainJournal) → OnBoard j → (before after : List Deed) → deeds_of s j ≡ before ++ after → Sound (left_in s j).endpoints_given may_know (numbers_of s j.line) (after_deeds (opened s j) before)
  moment j on before after is =
      let made : ℕ = (left_in s j).endpoints_given in
      let rest = given_deeds (after_deeds (opened s j) before) after in
      let within : (after_deeds (opened s j) before).endpoints_given ≤ made
      = omega (arith, rest, ap (λ ds. (after_deeds (opened s j) ds).endpoints_given) is, ap (λ (t : DomainState). t.endpoints_given) (after-join (opened s j) before after)) in
      sound_deeds made may_know (numbers_of s j.line) (opened s j) before
      (all-parts (HearsDeed may_know) before after (subst (AllByRecursion (HearsDeed may_know)) is on.hears)).0 within
      (sound_opening made may_know j.line.domain j.line.nodes (neighbours s j.line))

  -- so its channels know real addresses of their far ends
  pub moment_far : (j : DomainJournal) → OnBoard j → (before after : List Deed) → deeds_of s j ≡ before ++ after → FarEnds may_know (after_deeds (opened s j) before)
  moment_far j on before after is =
      let made : ℕ = (left_in s j).endpoints_given in
      let rest = given_deeds (after_deeds (opened s j) before) after in
      let within : (after_deeds (opened s j) before).endpoints_given ≤ made
      = omega (arith, rest, ap (λ ds. (after_deeds (opened s j) ds).endpoints_given) is, ap (λ (t : DomainState). t.endpoints_given) (after-join (opened s j) before after)) in
      far_deeds may_know made (numbers_of s j.line) (opened s j) before (λ a own. subst (λ o. IsMade (made_in o) a) (sym on.found) own)
      (all-parts (HearsDeed may_know) before after (subst (AllByRecursion (HearsDeed may_know)) is on.hears)).0
      (all-parts (HearsFarDeed may_know) before after (subst (AllByRecursion (HearsFarDeed may_know)) is on.hears_far)).0 within
      (sound_opening made may_know j.line.domain j.line.nodes (neighbours s j.line)) tt

  -- ---- an address that is known is real

  real_from : (q a : ℕ) (o : Option DomainJournal) → find (λ j. j.line.domain == q) js ≡ o → IsMade (made_in o) a → IsReal s js q a
  real_from q a None is made = let low : 1024 ≤ a = made.above in let high : a < 1024 + 0 = made.below in absurd (omega arith)
  real_from q a (Some j) is made = record {
    journal = j;
    is_found = is;
    made = made;
    few = (after_run s board j (all-found (λ k. IsDomainRun s k.line k.entries) (λ k. k.line.domain == q) js j run.domain_runs is)).few;
  }

  name_known : (q : ℕ) (n : EndName) (a : ℕ) (ks : Names) → AllByRecursion (λ k. may_know q k.1) ks → address_in n ks ≡ Some a → may_know q a
  name_known q n a ks all is = go (find (has_name n) ks) refl is
    where
      go : (x : Option (EndName × ℕ)) → find (has_name n) ks ≡ x → option_map (λ (k : EndName × ℕ). k.1) x ≡ Some a → may_know q a
      go None found h = absurd cc
      go (Some k) found h = let same : k.1 ≡ a = cc in subst (may_know q) same (all-found (λ (j : EndName × ℕ). may_know q j.1) (has_name n) ks k all found)

  knows_real : (j : DomainJournal) → OnBoard j → KnowsReal s js j
  knows_real j on before after is q p there n a known =
      let well = all-found (PeerSound (left_in s j).endpoints_given may_know) (is_numbered q) (after_deeds (opened s j) before).peers p (moment j on before after is).peers there in
      let same : p.number ≡ q = eqb-true p.number q (found-passes (is_numbered q) (after_deeds (opened s j) before).peers p there) in
      subst (λ k. IsReal s js k a) same (real_from p.number a (find (λ j. j.line.domain == p.number) js) refl (name_known p.number n a p.known well.names known))

  pub all_know_real : AllByRecursion (KnowsReal s js) js
  all_know_real = all-weaken OnBoard (KnowsReal s js) knows_real js each_on_board
