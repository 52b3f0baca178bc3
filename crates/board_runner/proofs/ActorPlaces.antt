-- The places of a board whose domains were run by actors: of each its domain's line, the actor and the station before, and what is left of both.
-- The lines that the actors gave are the scripts of a lawful scenario, each station ran its script whole, and each actor fits its journal.
use Rattle.std.proofs.Common.{◌≡◌, ℕ, ◌+◌, ◌≤◌, ◌<◌, ◌^◌, true, List, [], ◌∷◌, ◌++◌, map, length, sum_by, Ok, refl, sym, ap, ap₂, subst, ◌∙◌, arith}
use Rattle.std.specs.List.{AllByRecursion, flat_map}
use Rattle.std.proofs.lemmas.List.Sums.{sum_by-cons}
use Rattle.board_model.specs.declared.scenario.CallLine.{CallLine}
use Rattle.board_model.specs.declared.scenario.DomainLine.{DomainLine}
use Rattle.board_model.specs.declared.scenario.Scenario.{Scenario}
use Rattle.board_model.specs.Board.{DomainJournal}
use Rattle.board_model.specs.Journal.{Line, PlainAnswer}
use Rattle.board_model.specs.Language.{IsLawfulBoard}
use Rattle.board_model.specs.LineReasons.{is_domain}
use Rattle.board_model.specs.LinkedBoard.{Differ}
use Rattle.board_model.specs.Logs.{LoggedCall, answers_in, answers_on, log_of, paired}
use Rattle.board_model.specs.Report.{lines_of}
use Rattle.board_model.specs.Scenario.{rising, script}
use Rattle.board_model.proofs.LawfulBoards.{lawful_is_linked}
use Rattle.board_model.proofs.LogLines.{lines_keep_answers}
use Rattle.board_model.proofs.PlaceBoards.{rising_differ}
use Rattle.board_runner.specs.declared.acting.Acted.{Acted}
use Rattle.board_runner.specs.declared.actor.Actor.{Ghosts}
use Rattle.board_runner.specs.declared.station.Station.{Station}
use Rattle.board_runner.specs.declared.wires.Wire.{Wire}
use Rattle.board_runner.specs.Acting.{AllActed, AllMayStart, HasActed, lines_acted, log_at}
use Rattle.board_runner.specs.ActorLogs.{AllFollow, lines_in_log, with_calls}
use Rattle.board_runner.specs.ActorRun.{AllHaveEnded, AreReady, HasScripts, MayAct}
use Rattle.board_runner.specs.Jobs.{RunScripts}
use Rattle.board_runner.specs.Opened.{AreOpened}
use Rattle.board_runner.specs.Scripts.{DomainScript, all_lines, domain_script}
use Rattle.board_runner.proofs.ActingLemmas.{logs-long, run-whole}
use Rattle.board_runner.proofs.ActorLogLemmas.{paired-lines}
use Rattle.board_runner.proofs.RunningLemmas.{IsScriptOn, script_own, scripts-told}
use Rattle.board_runner.proofs.ScriptLemmas.{AreOwn, lines-by_domain, lines-few, rising-told, scripts-kept}

-- ---- places

record Place (A : Type 0) : Type 0 where
  line : DomainLine
  first : A
  opened : Station
  left : Acted A

record IsPlace {A R : Type 0} (actor : Ghosts A R) (p : Place A) : Type 0 where
  number : p.opened.domain_number ≡ p.line.domain
  own : actor.domain p.first ≡ p.line.domain
  acted : HasActed actor p.first p.opened p.left

record HavePlaces {A R : Type 0} (actor : Ghosts A R) (ds : List DomainLine) (firsts : List A) (sts : List Station) (lefts : List (Acted A)) : Type 0 where
  places : List (Place A)
  lines : map (λ p. p.line) places ≡ ds
  handed : map (λ p. p.first) places ≡ firsts
  stations : map (λ p. p.opened) places ≡ sts
  all_left : map (λ p. p.left) places ≡ lefts
  each : AllByRecursion (IsPlace actor) places

module _ {A R : Type 0} (actor : Ghosts A R) (s : Scenario) (ws : List Wire) where
  pub may-start : (ds : List DomainLine) (firsts : List A) (sts : List Station) → AreReady actor ds firsts → AreOpened s ws ds sts → sum_by actor.todo firsts < 2 ^ 32 → AllMayStart actor firsts sts
  may-start [] [] [] ready opened few = tt
  may-start [] [] (st ∷ sts) ready opened few = absurd opened
  may-start [] (a ∷ firsts) sts ready opened few = absurd ready
  may-start (d ∷ ds) [] sts ready opened few = absurd ready
  may-start (d ∷ ds) (a ∷ firsts) [] ready opened few = absurd opened
  may-start (d ∷ ds) (a ∷ firsts) (st ∷ sts) ready opened few =
      let sum = sum_by-cons actor.todo a firsts in (
        record {
          ready = record { own = ready.0.own ∙ sym opened.0.domain_number; asked = ready.0.asked; fits = ready.0.fits };
          few = omega (arith, few, sum);
          begins = record { number = opened.0.number; dropped = opened.0.dropped };
          empty = opened.0.told;
        },
        may-start ds firsts sts ready.1 opened.1 (omega (arith, few, sum)),
      )

  have_places : (ds : List DomainLine) (firsts : List A) (sts : List Station) (lefts : List (Acted A)) → AreReady actor ds firsts → AreOpened s ws ds sts → AllActed actor firsts sts lefts → HavePlaces actor ds firsts sts lefts
  have_places [] [] [] [] ready opened acted = record { places = []; lines = refl; handed = refl; stations = refl; all_left = refl; each = tt }
  have_places [] [] [] (left ∷ lefts) ready opened acted = absurd acted
  have_places [] [] (st ∷ sts) lefts ready opened acted = absurd opened
  have_places [] (a ∷ firsts) sts lefts ready opened acted = absurd ready
  have_places (d ∷ ds) [] sts lefts ready opened acted = absurd ready
  have_places (d ∷ ds) (a ∷ firsts) [] lefts ready opened acted = absurd opened
  have_places (d ∷ ds) (a ∷ firsts) (st ∷ sts) [] ready opened acted = absurd acted
  have_places (d ∷ ds) (a ∷ firsts) (st ∷ sts) (left ∷ lefts) ready opened acted =
      let rest = have_places ds firsts sts lefts ready.1 opened.1 acted.1 in
      record {
        places = record { line = d; first = a; opened = st; left = left } ∷ rest.places;
        lines = ap (λ xs. d ∷ xs) rest.lines;
        handed = ap (λ xs. a ∷ xs) rest.handed;
        stations = ap (λ xs. st ∷ xs) rest.stations;
        all_left = ap (λ xs. left ∷ xs) rest.all_left;
        each = (record { number = opened.0.domain_number; own = ready.0.own; acted = acted.0 }, rest.each);
      }

-- ---- the scripts

abbrev script_at : {A : Type 0} → Place A → DomainScript
script_at p = domain_script p.line.domain p.left.lines.items

-- what holds of the item at each place holds of all
mapped : {X Y : Type 0} (P : Y → Type 0) (f : X → Y) (xs : List X) → AllByRecursion (λ x. P (f x)) xs → AllByRecursion P (map f xs)
mapped P f [] all = tt
mapped P f (x ∷ xs) all = (all.0, mapped P f xs all.1)

unmapped : {X Y : Type 0} (P : Y → Type 0) (f : X → Y) (xs : List X) → AllByRecursion P (map f xs) → AllByRecursion (λ x. P (f x)) xs
unmapped P f [] all = tt
unmapped P f (x ∷ xs) all = (all.0, unmapped P f xs all.1)

module _ {A R : Type 0} (actor : Ghosts A R) where
  -- the log of a station at its end has just the lines that it ran
  logged_lines : (p : Place A) → IsPlace actor p → lines_in_log (log_at p.left.lines.items p.left.station) ≡ p.left.lines.items
  logged_lines p is = paired-lines p.left.lines.items (answers_on p.left.station.journal.lines) is.acted.ran.answers

  follows_at : (p : Place A) → IsPlace actor p → AllFollow p.line.domain [] p.left.lines.items
  follows_at p is =
      subst (λ (ls : List CallLine). AllFollow p.line.domain [] ls) (logged_lines p is)
      (subst (λ (n : ℕ). AllFollow n [] (lines_in_log (log_at p.left.lines.items p.left.station))) is.own is.acted.acted.gave)

  script_domains : (ps : List (Place A)) → map (λ x. x.domain) (map script_at ps) ≡ map (λ d. d.domain) (map (λ p. p.line) ps)
  script_domains [] = refl
  script_domains (p ∷ ps) = ap (λ ns. p.line.domain ∷ ns) (script_domains ps)

  script_lines : (ps : List (Place A)) → all_lines (map script_at ps) ≡ lines_acted (map (λ p. p.left) ps)
  script_lines [] = refl
  script_lines (p ∷ ps) = ap (λ ls. p.left.lines.items ++ ls) (script_lines ps)

  scripts_on : (board : Scenario) (ps : List (Place A)) → AllByRecursion (λ n. is_domain board n ≡ true) (map (λ d. d.domain) (map (λ p. p.line) ps)) → AllByRecursion (IsPlace actor) ps → AllByRecursion (IsScriptOn board) (map script_at ps)
  scripts_on board [] told each = tt
  scripts_on board (p ∷ ps) told each = ((told.0, follows_at p each.0), scripts_on board ps told.1 each.1)

  scripts_own : (ps : List (Place A)) → AllByRecursion (IsPlace actor) ps → AllByRecursion AreOwn (map script_at ps)
  scripts_own [] each = tt
  scripts_own (p ∷ ps) each = (script_own p.line.domain [] p.left.lines.items (follows_at p each.0), scripts_own ps each.1)

  -- no more lines than the actors had to give
  few_given : (ps : List (Place A)) → AllByRecursion (IsPlace actor) ps → sum_by (λ x. length x.lines) (map script_at ps) ≤ sum_by actor.todo (map (λ p. p.first) ps)
  few_given [] each = omega arith
  few_given (p ∷ ps) each =
      let here = logs-long p.left.lines.items p.left.station each.0.acted.ran.answers in
      omega (arith, sum_by-cons (λ (x : DomainScript). length x.lines) (script_at p) (map script_at ps), sum_by-cons actor.todo p.first (map (λ (q : Place A). q.first) ps), each.0.acted.acted.left, here, few_given ps each.1)

  -- ---- the scenario that the actors made

  module _ (board : Scenario) (ws : List Wire) (firsts : List A) (sts : List Station) (lefts : List (Acted A)) (may : MayAct actor board firsts) (opens : AreOpened board ws (rising board) sts) (acted : AllActed actor firsts sts lefts) where
    at : HavePlaces actor (rising board) firsts sts lefts
    at = have_places actor board ws (rising board) firsts sts lefts may.ready opens acted

    abbrev scripts : List DomainScript
    scripts = map script_at at.places

    abbrev pub made : Scenario
    made = with_calls board (lines_acted lefts)

    same_domains : map (λ x. x.domain) scripts ≡ map (λ d. d.domain) (rising board)
    same_domains = script_domains at.places ∙ ap (map (λ (d : DomainLine). d.domain)) at.lines

    differ : Differ (map (λ x. x.domain) scripts)
    differ = subst Differ (sym same_domains) (rising_differ board (lawful_is_linked board may.lawful))

    same_lines : all_lines scripts ≡ lines_acted lefts
    same_lines = script_lines at.places ∙ ap lines_acted at.all_left

    told : AllByRecursion (λ n. is_domain board n ≡ true) (map (λ d. d.domain) (map (λ p. p.line) at.places))
    told = subst (λ (ds : List DomainLine). AllByRecursion (λ n. is_domain board n ≡ true) (map (λ d. d.domain) ds)) (sym at.lines) (rising-told board)

    pub made-lawful : IsLawfulBoard made
    made-lawful =
        let text = scripts-told board scripts may.lawful may.bare differ (scripts_on board at.places told at.each) in
        let few : length (all_lines scripts) < 2 ^ 32 = omega (arith, lines-few scripts, few_given at.places at.each, ap (sum_by actor.todo) at.handed, may.few) in
        subst (λ (ls : List CallLine). IsLawfulBoard (with_calls board ls)) same_lines (text.0, few, text.1)

    kept : AllByRecursion (λ x. script made x.domain ≡ x.lines) scripts
    kept = subst (λ (ls : List CallLine). AllByRecursion (λ x. script (with_calls board ls) x.domain ≡ x.lines) scripts) same_lines (scripts-kept scripts differ (scripts_own at.places at.each))

    pub made-scripts : HasScripts board made
    made-scripts = record { domains = refl; links = refl; lines = sym (lines-by_domain made.calls (rising board) scripts same_domains kept ∙ same_lines) }

    -- ---- what ran

    ran_at : (ps : List (Place A)) → AllByRecursion (IsPlace actor) ps → AllByRecursion (λ x. script made x.domain ≡ x.lines) (map script_at ps) → RunScripts made (map (λ p. p.opened) ps) (map (λ left. left.station) (map (λ p. p.left) ps))
    ran_at [] each same = tt
    ran_at (p ∷ ps) each same = (run-whole made p.opened p.left.station p.left.lines.items made-lawful (ap (script made) each.0.number ∙ same.0) each.0.acted.ran, ran_at ps each.1 same.1)

    pub made-ran : RunScripts made sts (map (λ left. left.station) lefts)
    made-ran =
        subst (λ (xs : List Station). RunScripts made xs (map (λ left. left.station) lefts)) at.stations
        (subst (λ (xs : List (Acted A)). RunScripts made (map (λ p. p.opened) at.places) (map (λ left. left.station) xs)) at.all_left (ran_at at.places at.each kept))

    -- ---- the actors

    -- the log of a journal is that of the station that has it
    same_log : (p : Place A) (j : DomainJournal) → script made p.line.domain ≡ p.left.lines.items → j.line ≡ p.line → lines_of j ≡ p.left.station.journal.lines → log_at p.left.lines.items p.left.station ≡ log_of made j
    same_log p j same line lines =
        ap₂ (λ (ls : List CallLine) (answers : List PlainAnswer). paired ls answers) (sym same ∙ ap (λ (d : DomainLine). script made d.domain) (sym line)) (ap answers_on (sym lines) ∙ lines_keep_answers j.entries)

    ended_at : (ps : List (Place A)) (js : List DomainJournal) → AllByRecursion (IsPlace actor) ps → AllByRecursion (λ x. script made x.domain ≡ x.lines) (map script_at ps) → map (λ j. j.line) js ≡ map (λ p. p.line) ps
        → map lines_of js ≡ map (λ left. left.station.journal.lines) (map (λ p. p.left) ps) → AllHaveEnded actor made (map (λ p. p.first) ps) js (map (λ left. left.actor) (map (λ p. p.left) ps))
    ended_at [] [] each same lines journals = tt
    ended_at [] (j ∷ js) each same lines journals = absurd cc
    ended_at (p ∷ ps) [] each same lines journals = absurd cc
    ended_at (p ∷ ps) (j ∷ js) each same lines journals =
        let line : j.line ≡ p.line = cc in
        let rest : map (λ (k : DomainJournal). k.line) js ≡ map (λ (q : Place A). q.line) ps = cc in
        let journal : lines_of j ≡ p.left.station.journal.lines = cc in
        let others : map lines_of js ≡ map (λ (left : Acted A). left.station.journal.lines) (map (λ (q : Place A). q.left) ps) = cc in
        let log = same_log p j same.0 line journal in
        let acts = each.0.acted.acted in (
          record {
            role = acts.role;
            whole = ap lines_in_log (sym log) ∙ logged_lines p each.0 ∙ sym same.0 ∙ ap (λ (d : DomainLine). script made d.domain) (sym line);
            fits = subst (actor.Fits p.left.actor) log acts.fits;
            ends = subst (actor.Ends p.left.actor) log acts.ends;
          },
          ended_at ps js each.1 same.1 rest others,
        )

    pub made-ended : (js : List DomainJournal) → map (λ j. j.line) js ≡ rising board → map lines_of js ≡ map (λ left. left.station.journal.lines) lefts → AllHaveEnded actor made firsts js (map (λ left. left.actor) lefts)
    made-ended js lines journals =
        subst (λ (xs : List A). AllHaveEnded actor made xs js (map (λ left. left.actor) lefts)) at.handed
        (subst (λ (xs : List (Acted A)). AllHaveEnded actor made (map (λ p. p.first) at.places) js (map (λ left. left.actor) xs)) at.all_left
        (ended_at at.places js at.each kept (lines ∙ sym at.lines) (journals ∙ ap (map (λ (left : Acted A). left.station.journal.lines)) (sym at.all_left))))
