-- A journal in which the first pass finds the order right, and the second each step, is that of a run of its domain.
use Rattle.std.proofs.Common.{◌≡◌, ℕ, suc, ◌+◌, ◌-◌, ◌^◌, ◌<◌, ◌≤◌, Bool, true, false, cond, List, [], ◌∷◌, length, map, filter, Option, Some, None, option_map, refl, sym, ap, subst, ◌∙◌, arith, eqb-true}
use Rattle.std.specs.Prelude.{find, nat_lt, unwrap_or, ◌==◌}
use Rattle.std.specs.List.{AllByRecursion, flat_map}
use Rattle.board_model.specs.declared.scenario.DomainLine.{DomainLine}
use Rattle.board_model.specs.declared.scenario.LinkLine.{LinkLine}
use Rattle.board_model.specs.declared.scenario.CallLine.{CallLine}
use Rattle.board_model.specs.declared.scenario.Scenario.{Scenario}
use Rattle.board_model.specs.Scenario.{script, Neighbour, neighbour, linked_by, ranked, all_ranked, neighbours, ranked_domain, rising_from, rising}
use Rattle.board_model.specs.Grammar.{IsLawfulDomain}
use Rattle.board_model.specs.LinkedBoard.{IsTold, Joins, IsLinkedBoard}
use Rattle.board_model.specs.State.{DomainState, Peer, new_peer, opening, is_numbered, peer_of, held_from}
use Rattle.board_model.specs.Journal.{PlainAnswer, tells, PlainEntry, Line, call_line, joined}
use Rattle.board_model.specs.Report.{line_text}
use Rattle.board_model.proofs.JournalPartsJoined.{parts_are_joined}
use Rattle.board_model.specs.Unjoined.{peers_of}
use Rattle.board_model.specs.JournalParts.{part_lines, part_entries}
use Rattle.board_model.specs.Step.{RunState, HasNoPuts, after}
use Rattle.board_model.specs.Run.{start, Leads, after_all, left_by}
use Rattle.board_model.proofs.BoardsRising.{neighbours-rise}
use Rattle.board_model.proofs.LanePeers.{peer_found}
use Rattle.board_model.proofs.ListsOne.{all-any}
use Rattle.board_model.proofs.MessageAlls.{all-append, all-weaken}
use Rattle.board_model.proofs.PlaceBoards.{neighbours_differ}
use Rattle.board_model.proofs.WholeHas.{has-gives, has-contained}
use Rattle.board_model.proofs.WholePeers.{size_at, shown_at}
use Rattle.mc_journal.specs.EntryText.{IsEntryLine}
use Rattle.report_text.specs.CountedLines.{counted_line}
use Rattle.report_text.specs.Outlines.{outline_of}
use Rattle.report_text.specs.JournalOrder.{journal_place}
use Rattle.report_text.specs.JournalRead.{JournalText, lines_of_texts}
use Rattle.report_text.specs.TextPass.{puts_of_script}
use Rattle.report_text.specs.StepPass.{step_place, parts_of, wrong_step, lines_left, left_behind}
use Rattle.report_text.specs.LinkPass.{journal_told}
use Rattle.report_text.specs.RightRuns.{with_answers, journal_due, TellsRun}
use Rattle.report_text.proofs.AnswersTold.{said-joined}
use Rattle.report_text.proofs.EntryLines.{line-fits}
use Rattle.report_text.proofs.KindsTold.{number-same}
use Rattle.report_text.proofs.TurnsDue.{Sound}
use Rattle.report_text.proofs.LinesTold.{Tell, tell-texts}
use Rattle.report_text.proofs.StepsDue.{Due, after-answer, due-leads, Going, parts-told}
use Rattle.report_text.proofs.NothingWrong.{none-moved}
use Rattle.report_text.proofs.NumbersTold.{words-same}
use Rattle.report_text.proofs.PartsTold.{AreParts, journal-parts}
use Rattle.report_text.proofs.EntriesTold.{unjoined-is}

-- ---- the neighbours of a domain

abbrev IsFew : Neighbour → Type 0
IsFew n = (n.number < 8) × (n.size < 2 ^ 32)

module _ (s : Scenario) (board : IsLinkedBoard s) where
  told-few : (n : ℕ) → IsTold s n → n < 8
  told-few n told = has-gives IsLawfulDomain (λ d. d.domain ≡ n) (n < 8) (λ d lawful is. let le = lawful.domain_fits in omega (arith, le, is)) s.domains board.domains_lawful (has-contained (λ (d : DomainLine). d.domain) s.domains n told)

  linked-few : (d : ℕ) (ls : List LinkLine) → AllByRecursion (Joins s) ls → AllByRecursion IsFew (flat_map (linked_by d) ls)
  linked-few d [] joins = tt
  linked-few d (l ∷ ls) joins = all-append IsFew (linked_by d l) (flat_map (linked_by d) ls) (go (l.driver == d) (l.device == d)) (linked-few d ls joins.1)
    where
      size : l.size < 2 ^ 32
      size = let le = joins.0.buffers_fit in omega (arith, le)

      go : (a b : Bool) → AllByRecursion IsFew (cond a (neighbour l.device l.size ∷ []) (cond b (neighbour l.driver l.size ∷ []) []))
      go true b = ((told-few l.device joins.0.device_told, size), tt)
      go false true = ((told-few l.driver joins.0.driver_told, size), tt)
      go false false = tt

  ranked-few : (n : Neighbour) (ms : List Neighbour) → IsFew n → AllByRecursion IsFew ms → AllByRecursion IsFew (ranked n ms)
  ranked-few n [] h all = (h, tt)
  ranked-few n (m ∷ ms) h all = go (nat_lt n.number m.number) (ranked-few n ms h all.1)
    where
      go : (b : Bool) → AllByRecursion IsFew (ranked n ms) → AllByRecursion IsFew (cond b (n ∷ m ∷ ms) (m ∷ ranked n ms))
      go true rest = (h, all)
      go false rest = (all.0, rest)

  all_ranked-few : (ns : List Neighbour) → AllByRecursion IsFew ns → AllByRecursion IsFew (all_ranked ns)
  all_ranked-few [] all = tt
  all_ranked-few (n ∷ ns) all = ranked-few n (all_ranked ns) all.0 (all_ranked-few ns all.1)

  neighbours-few : (d : DomainLine) → IsLawfulDomain d → AllByRecursion IsFew (neighbours s d)
  neighbours-few d lawful = all_ranked-few (neighbour d.domain d.pool ∷ flat_map (linked_by d.domain) s.links) ((let le = lawful.domain_fits in omega (arith, le), let le = lawful.pool_fits in omega (arith, le)), linked-few d.domain s.links board.links_join)

  -- ---- domains in rising number

  ranked_domain-all : (P : DomainLine → Type 0) (d : DomainLine) (ds : List DomainLine) → P d → AllByRecursion P ds → AllByRecursion P (ranked_domain d ds)
  ranked_domain-all P d [] h all = (h, tt)
  ranked_domain-all P d (e ∷ es) h all = go (nat_lt d.domain e.domain) (ranked_domain-all P d es h all.1)
    where
      go : (b : Bool) → AllByRecursion P (ranked_domain d es) → AllByRecursion P (cond b (d ∷ e ∷ es) (e ∷ ranked_domain d es))
      go true rest = (h, all)
      go false rest = (all.0, rest)

  rising-all : (P : DomainLine → Type 0) (ds : List DomainLine) → AllByRecursion P ds → AllByRecursion P (rising_from ds)
  rising-all P [] all = tt
  rising-all P (d ∷ ds) all = ranked_domain-all P d (rising_from ds) all.0 (rising-all P ds all.1)

  pub rising-lawful : AllByRecursion IsLawfulDomain (rising s)
  rising-lawful = rising-all IsLawfulDomain s.domains board.domains_lawful

  -- ---- the opening

  numbers-few : (ns : List Neighbour) → AllByRecursion IsFew ns → AllByRecursion (λ n. n < 8) (map (λ n. n.number) ns)
  numbers-few [] all = tt
  numbers-few (n ∷ ns) all = (all.0.0, numbers-few ns all.1)

  pub peers-below : (d : DomainLine) → IsLawfulDomain d → AllByRecursion (λ n. n < 8) (peers_of s d)
  peers-below d lawful = numbers-few (neighbours s d) (neighbours-few d lawful)

  pub peers-few : (d : DomainLine) → IsLawfulDomain d → AllByRecursion (λ n. n < 2 ^ 8) (peers_of s d)
  peers-few d lawful = all-weaken (λ n. n < 8) (λ n. n < 2 ^ 8) (λ n less. omega (arith, less)) (peers_of s d) (peers-below d lawful)

  numbers-same : (ns : List Neighbour) → map (λ p. p.number) (map new_peer ns) ≡ map (λ n. n.number) ns
  numbers-same [] = refl
  numbers-same (n ∷ ns) = ap (λ xs. n.number ∷ xs) (numbers-same ns)

  new-found : (n : ℕ) (ns : List Neighbour) (p : Peer) → AllByRecursion IsFew ns → find (is_numbered n) (map new_peer ns) ≡ Some p → (p.shown ≡ 0) × (p.size < 2 ^ 32)
  new-found n [] p all e = absurd cc
  new-found n (m ∷ ms) p all e = go (m.number == n) e (λ k. new-found n ms p all.1 k)
    where
      go : (b : Bool) → cond b (Some (new_peer m)) (find (is_numbered n) (map new_peer ms)) ≡ Some p → (find (is_numbered n) (map new_peer ms) ≡ Some p → (p.shown ≡ 0) × (p.size < 2 ^ 32)) → (p.shown ≡ 0) × (p.size < 2 ^ 32)
      go true e rest = let same : new_peer m ≡ p = some-is (new_peer m) p e in subst (λ (q : Peer). (q.shown ≡ 0) × (q.size < 2 ^ 32)) same (refl, all.0.1)
        where
          some-is : (x y : Peer) → Some x ≡ Some y → x ≡ y
          some-is x y e = cc
      go false e rest = rest e

  opening-sound : (d : DomainLine) → IsLawfulDomain d → Sound (peers_of s d) (opening d.domain d.nodes (neighbours s d))
  opening-sound d lawful = record {
    numbers = numbers-same (neighbours s d);
    ends = record { apart = tt; below = tt };
    room = λ n size sized. let at = found n size sized in let held : held_from n first ≡ 0 = refl in omega (arith, at.0, held);
    small = λ n size sized. (found n size sized).1;
  }
    where
      first : DomainState
      first = opening d.domain d.nodes (neighbours s d)

      found : (n size : ℕ) → size_at first n ≡ Some size → (shown_at first n ≡ 0) × (size < 2 ^ 32)
      found n size sized = go (peer_of first n) refl sized
        where
          go : (o : Option Peer) → peer_of first n ≡ o → option_map (λ p. p.size) o ≡ Some size → (shown_at first n ≡ 0) × (size < 2 ^ 32)
          go None is e = absurd cc
          go (Some p) is e =
              let new = new-found n (neighbours s d) p (neighbours-few d lawful) (sym (peer_found first n) ∙ is) in
              let same : p.size ≡ size = cc in
              (ap (λ (o : Option Peer). unwrap_or (option_map (λ p. p.shown) o) 0) is ∙ new.0, subst (λ n. n < 2 ^ 32) same new.1)

  pub opening-going : (d : DomainLine) → IsLawfulDomain d → Going (peers_of s d) (script s d.domain) (start s d)
  opening-going d lawful = record { sound = opening-sound d lawful; settled = tt; within = omega arith }

  pub script-short : (d : ℕ) → length (script s d) < 2 ^ 32
  script-short d = let le = fewer s.calls in omega (arith, le, board.lines_few)
    where
      fewer : (cs : List CallLine) → length (filter (λ c. c.domain == d) cs) ≤ length cs
      fewer [] = omega arith
      fewer (c ∷ cs) = go (c.domain == d) (fewer cs)
        where
          go : (b : Bool) → length (filter (λ c. c.domain == d) cs) ≤ length cs → length (cond b (c ∷ filter (λ c. c.domain == d) cs) (filter (λ c. c.domain == d) cs)) ≤ suc (length cs)
          go true le = omega (arith, le)
          go false le = omega (arith, le)

  -- ---- a journal

  pub after-answers : (lines : List CallLine) (r : RunState) (es : List PlainEntry) → after_all lines r (with_answers lines r es) ≡ after_all lines r es
  after-answers lines r [] = refl
  after-answers lines r (e ∷ es) = ap (λ q. after_all lines q (with_answers lines (after lines r e) es)) (after-answer lines r e) ∙ after-answers lines (after lines r e) es

  -- as the first pass finds it
  pub record IsRight (j : JournalText) : Type 0 where
    pub tells : Tell j.texts (lines_of_texts j.texts)
    pub order : journal_place (peers_of s j.line) (puts_of_script (script s j.line.domain)) (map outline_of (lines_of_texts j.texts)) ≡ None
    pub lawful : IsLawfulDomain j.line

  pub told-parts : (j : JournalText) → IsRight j → AreParts (peers_of s j.line) (neighbours-rise s board j.line) (script s j.line.domain) (lines_of_texts j.texts)
  told-parts j right = journal-parts (peers_of s j.line) (neighbours-rise s board j.line) (script s j.line.domain) (lines_of_texts j.texts) right.order

  pub told-steps : (j : JournalText) → IsRight j → wrong_step s j ≡ None → Due (script s j.line.domain) (start s j.line) (flat_map (part_entries (peers_of s j.line)) (parts_of s j)) × Going (peers_of s j.line) (script s j.line.domain) (left_behind s j)
  told-steps j right none =
      let parts = told-parts j right in
      parts-told (peers_of s j.line) (peers-few j.line right.lawful) (neighbours_differ s board j.line) (script s j.line.domain) (script-short j.line.domain) (parts_of s j) (start s j.line) j.texts
      (opening-going j.line right.lawful)
      parts.fits (subst (Tell j.texts) parts.lines right.tells) (none-moved j.number (step_place (script s j.line.domain) (peers_of s j.line) (start s j.line) (parts_of s j) j.texts) none)

  -- what is counted of a call's line is the same where its text is
  counted-same : (k : ℕ) (a b : PlainAnswer) → IsEntryLine (call_line k b) → line_text (call_line k a) ≡ line_text (call_line k b) → counted_line (call_line k a) ≡ counted_line (call_line k b)
  counted-same k a b fits e = ap (λ n. call_line k (tells n)) (number-same a b fits.1 (words-same k a b e))

  lines-fit : (ts : List (List ℕ)) (ls : List Line) → Tell ts ls → AllByRecursion IsEntryLine ls
  lines-fit ts [] tell = tt
  lines-fit [] (l ∷ ls) tell = absurd tell
  lines-fit (t ∷ ts) (l ∷ ls) tell = (line-fits tell.0.0 l tell.0.2, lines-fit ts ls tell.1)

  -- the journal with the answers that are due leads where the one that is told does
  pub due-left : (j : JournalText) → left_by s j.line (journal_due s j).entries ≡ left_behind s j
  due-left j = after-answers (script s j.line.domain) (start s j.line) (journal_told s j).entries ∙ ap (after_all (script s j.line.domain) (start s j.line)) (unjoined-is s j.line (lines_of_texts j.texts))

  pub run-told : (j : JournalText) → IsRight j → wrong_step s j ≡ None → TellsRun s j
  run-told j right none =
      let lines : List CallLine = script s j.line.domain in
      let first : RunState = start s j.line in
      let peers : List ℕ = peers_of s j.line in
      let es : List PlainEntry = (journal_told s j).entries in
      let same : es ≡ flat_map (part_entries peers) (parts_of s j) = unjoined-is s j.line (lines_of_texts j.texts) in
      let parts = told-parts j right in
      let steps = told-steps j right none in
      let due : Due lines first es = subst (Due lines first) (sym same) steps.0 in
      let left : left_by s j.line (with_answers lines first es) ≡ left_behind s j = due-left j in
      record {
        run = record {
          steps = subst (Leads lines first (with_answers lines first es)) (sym (after-answers lines first es)) (due-leads lines first es due);
          settled = subst (λ (r : RunState). HasNoPuts r.put_since_turn) (sym left) steps.1.settled;
        };
        whole = λ whole. ap (λ (r : RunState). r.lines_called) left ∙ all-called (left_behind s j) lines (j.number + length j.texts) steps.1.within whole;
        written = record {
          lines = ap joined same ∙ parts_are_joined peers (parts_of s j) parts.stand ∙ sym parts.lines;
          texts =
              ap (λ xs. map line_text (joined (with_answers lines first xs))) same
              ∙ said-joined peers lines line_text (λ l. Unit {0}) (λ k a b any e. e) first (parts_of s j) parts.stand (all-any (λ l. Unit {0}) (λ l. tt) (flat_map part_lines (parts_of s j))) steps.0
              ∙ ap (map line_text) (sym parts.lines)
              ∙ sym (tell-texts j.texts (lines_of_texts j.texts) right.tells);
          counted =
              ap (λ xs. map counted_line (joined (with_answers lines first xs))) same
              ∙ said-joined peers lines counted_line IsEntryLine counted-same first (parts_of s j) parts.stand (subst (AllByRecursion IsEntryLine) parts.lines (lines-fit j.texts (lines_of_texts j.texts) right.tells)) steps.0
              ∙ ap (map counted_line) (sym parts.lines);
        };
      }
    where
      all-called : (r : RunState) (lines : List CallLine) (n : ℕ) → r.lines_called ≤ length lines → cond (lines_left r lines == 0) None (Some n) ≡ None → r.lines_called ≡ length lines
      all-called r lines n within e = go (lines_left r lines == 0) refl e
        where
          go : (b : Bool) → (lines_left r lines == 0) ≡ b → cond b None (Some n) ≡ None → r.lines_called ≡ length lines
          go true is e = let none = eqb-true (length lines - r.lines_called) 0 is in omega (arith, none, within)
          go false is e = absurd cc
