-- Where no back line of a report comes too early, no buffer comes back too early in the run that it tells.
use Rattle.std.proofs.Common.{◌≡◌, ℕ, ◌+◌, ◌<◌, Bool, true, false, cond, List, [], ◌∷◌, ◌++◌, length, map, drop, take, Option, Some, None, option_map, find, refl, sym, ap, subst, ◌∙◌, arith, append_assoc, eqb-true}
use Rattle.std.specs.Prelude.{nat_lt, ◌==◌}
use Rattle.std.specs.List.{AllByRecursion, flat_map, list_all}
use Rattle.std.proofs.lemmas.Bool.{and_parts}
use Rattle.std.proofs.lemmas.Bool.Decides.{nat_tests}
use Rattle.board_model.specs.declared.scenario.Scenario.{Scenario}
use Rattle.board_model.specs.Board.{DomainJournal, journal_in, journal_of}
use Rattle.board_model.specs.Journal.{Taken, Visit, PlainEntry, turned, put, again, waits, called, back_line, put_line, see_line, looked, taken_line}
use Rattle.board_model.specs.LinkedBoard.{IsLinkedBoard}
use Rattle.board_model.specs.Report.{Mode, serial, threads}
use Rattle.board_model.specs.Scenario.{Lane, lanes}
use Rattle.board_model.specs.Traffic.{visits_to}
use Rattle.board_model.proofs.ListsOne.{all-any}
use Rattle.board_model.proofs.MessageAlls.{all-found, found-passes}
use Rattle.ring_numbers.specs.BoardRings.{places_of, put_of, sent_at, sent_to}
use Rattle.ring_numbers.specs.InTime.{ComeBackLater, IsInTime}
use Rattle.ring_numbers.specs.SenderNumbers.{Sending, comes_back}
use Rattle.report_text.specs.JournalRead.{JournalText}
use Rattle.report_text.specs.LaneLines.{LaneLine, came_back, puts, shows, takes, nothing, back_in, put_in, lane_lines}
use Rattle.report_text.specs.LinkPass.{back_before}
use Rattle.report_text.specs.RightRuns.{journal_due}
use Rattle.report_text.specs.RingPass.{back_place, given_to, is_back_of_put, wrong_back, wrong_back_among}
use Rattle.report_text.specs.TotalPass.{wrong_ring_back}
use Rattle.report_text.proofs.BoardsTold.{found-mapped}
use Rattle.report_text.proofs.LanesTold as told
use Rattle.report_text.proofs.NothingWrong.{none-either, none-moved, none-next}
use Rattle.report_text.proofs.TotalsTold.{IsDue}
use Rattle.report_laws.specs.RunReports.{BacksFit}
use Rattle.report_laws.proofs.BackWalks.{BackLater, left, put_before, left-behind, put-behind}
use Rattle.report_laws.proofs.LaneWalks.{lanes-apart}
use Rattle.report_laws.proofs.PeerLines.{of_peer, visit_lanes, done_at, lines-done}
use Rattle.report_laws.proofs.PlacesDue.{given-due}

-- ---- where each back line fits, the lines of each peer do

all-less : (count : ℕ) (places : List ℕ) → list_all (λ place. nat_lt place count) places ≡ true → AllByRecursion (λ place. place < count) places
all-less count [] e = tt
all-less count (place ∷ places) e =
    let parts = and_parts (nat_lt place count) (list_all (λ p. nat_lt p count) places) e in
    let first = parts.0 in
    (grind (arith, nat_tests), all-less count places parts.1)

module _ (given : ℕ → List ℕ) (p : ℕ) where
  with-line : (before : List LaneLine) (l : LaneLine) (ys : List LaneLine) → is_back_of_put given before l ≡ true → BackLater (drop (back_in p l) (left given p before)) (put_before p before + length (put_in p l)) ys → BackLater (left given p before) (put_before p before) (of_peer p l ++ ys)
  with-line before (came_back q n) ys fits h = go (q == p) refl h
    where
      go : (own : Bool) → (q == p) ≡ own → BackLater (drop (cond own n 0) (left given p before)) (put_before p before + 0) ys → BackLater (left given p before) (put_before p before) (cond own (came_back q n ∷ []) [] ++ ys)
      go true is h =
          let same : q ≡ p = eqb-true q p is in
          let here : list_all (λ place. nat_lt place (put_before p before)) (take n (left given p before)) ≡ true = subst (λ r. list_all (λ place. nat_lt place (length (flat_map (put_in r) before))) (take n (drop (back_before r before) (given r))) ≡ true) same fits in
          (all-less (put_before p before) (take n (left given p before)) here, subst (λ k. BackLater (drop n (left given p before)) k ys) (omega arith) h)
      go false is h = subst (λ k. BackLater (left given p before) k ys) (omega arith) h
  with-line before (puts q frame) ys fits h = go (q == p) h
    where
      go : (own : Bool) → BackLater (left given p before) (put_before p before + length (cond own (frame ∷ []) [])) ys → BackLater (left given p before) (put_before p before) (cond own (puts q frame ∷ []) [] ++ ys)
      go true h = h
      go false h = subst (λ k. BackLater (left given p before) k ys) (omega arith) h
  with-line before (shows q n) ys fits h = go (q == p) (subst (λ k. BackLater (left given p before) k ys) (omega arith) h)
    where
      go : (own : Bool) → BackLater (left given p before) (put_before p before) ys → BackLater (left given p before) (put_before p before) (cond own (shows q n ∷ []) [] ++ ys)
      go true h = h
      go false h = h
  with-line before (takes q frame) ys fits h = go (q == p) (subst (λ k. BackLater (left given p before) k ys) (omega arith) h)
    where
      go : (own : Bool) → BackLater (left given p before) (put_before p before) ys → BackLater (left given p before) (put_before p before) (cond own (takes q frame ∷ []) [] ++ ys)
      go true h = h
      go false h = h
  with-line before nothing ys fits h = subst (λ k. BackLater (left given p before) k ys) (omega arith) h

  peer-fits : (ls before : List LaneLine) → back_place given before ls ≡ None → BackLater (left given p before) (put_before p before) (flat_map (of_peer p) ls)
  peer-fits [] before none = tt
  peer-fits (l ∷ ls) before none =
      let parts = none-next (is_back_of_put given before l) (back_place given (before ++ l ∷ []) ls) 0 none in
      let rest : List LaneLine = flat_map (of_peer p) ls in
      with-line before l rest parts.0
      (subst (λ places. BackLater places (put_before p before + length (put_in p l)) rest) (sym (left-behind given p before l))
      (subst (λ n. BackLater (left given p (before ++ l ∷ [])) n rest) (sym (put-behind p before l)) (peer-fits ls (before ++ l ∷ []) parts.1)))

-- ---- what the entries send

-- what the lines say comes back later does, as it is sent
abbrev Sent : List Sending → List LaneLine → Type 0
Sent es ys = (given : List ℕ) (count : ℕ) → BackLater given count ys → ComeBackLater given count es

sent-see : (q n : ℕ) (given : List ℕ) (count : ℕ) (ys : List LaneLine) → BackLater given count (told.lanes (looked (see_line q) n) ++ ys) → BackLater given count ys
sent-see q n given count ys = go (n == 0)
  where
    go : (b : Bool) → BackLater given count (told.lanes (cond b [] (see_line q n ∷ [])) ++ ys) → BackLater given count ys
    go true h = h
    go false h = h

sent-takes : (q : ℕ) (ts : List Taken) (given : List ℕ) (count : ℕ) (ys : List LaneLine) → BackLater given count (told.lanes (map (taken_line q) ts) ++ ys) → BackLater given count ys
sent-takes q [] given count ys h = h
sent-takes q (t ∷ ts) given count ys h = sent-takes q ts given count ys h

sent-puts : (q : ℕ) (fs : List (List ℕ)) (es : List Sending) (ys : List LaneLine) → Sent es ys → Sent (map put_of fs ++ es) (told.lanes (map (put_line q) fs) ++ ys)
sent-puts q [] es ys sent = sent
sent-puts q (f ∷ fs) es ys sent = λ given count h. sent-puts q fs es ys sent given (count + 1) h

sent-backs : (q n : ℕ) (es : List Sending) (ys : List LaneLine) → Sent es ys → Sent (comes_back n ∷ es) (told.lanes (looked (back_line q) n) ++ ys)
sent-backs q n es ys sent given count h = go (n == 0) refl h
  where
    go : (b : Bool) → (n == 0) ≡ b → BackLater given count (told.lanes (cond b [] (back_line q n ∷ [])) ++ ys) → ComeBackLater given count (comes_back n ∷ es)
    go true is h = subst (λ k. ComeBackLater given count (comes_back k ∷ es)) (sym (eqb-true n 0 is)) (tt, sent given count h)
    go false is h = (h.0, sent (drop n given) count h.1)

sent-visit : (v : Visit) (es : List Sending) (ys : List LaneLine) → Sent es ys → Sent (sent_at v ++ es) (visit_lanes v ++ ys)
sent-visit v es ys sent given count h =
    let q : ℕ = v.peer in
    let four : List LaneLine = told.lanes (map (taken_line q) v.takes) ++ ys in
    let three : List LaneLine = told.lanes (looked (see_line q) v.see) ++ four in
    sent-backs q v.back (map put_of v.owed ++ es) (told.lanes (map (put_line q) v.owed) ++ three)
    (sent-puts q v.owed es three (λ g c k. sent g c (sent-takes q v.takes g c ys (sent-see q v.see g c four k))))
    given count (subst (BackLater given count) (lanes-apart v ys) h)

sent-visits : (vs : List Visit) (es : List Sending) (ys : List LaneLine) → Sent es ys → Sent (flat_map sent_at vs ++ es) (flat_map visit_lanes vs ++ ys)
sent-visits [] es ys sent = sent
sent-visits (v ∷ vs) es ys sent = λ given count h.
    subst (ComeBackLater given count) (sym (append_assoc (sent_at v) (flat_map sent_at vs) es))
    (sent-visit v (flat_map sent_at vs ++ es) (flat_map visit_lanes vs ++ ys) (sent-visits vs es ys sent) given count
    (subst (BackLater given count) (append_assoc (visit_lanes v) (flat_map visit_lanes vs) ys) h))

sent-entries : (p : ℕ) (es : List PlainEntry) → Sent (sent_to p es) (flat_map (done_at p) es)
sent-entries p [] = λ given count h. tt
sent-entries p (turned vs ∷ es) = sent-visits (visits_to p vs) (sent_to p es) (flat_map (done_at p) es) (sent-entries p es)
sent-entries p (put q frame ∷ es) = go (q == p) (sent-entries p es)
  where
    go : (own : Bool) → Sent (sent_to p es) (flat_map (done_at p) es) → Sent (cond own (put_of frame ∷ []) [] ++ sent_to p es) (cond own (puts q frame ∷ []) [] ++ flat_map (done_at p) es)
    go true sent = λ given count h. sent given (count + 1) h
    go false sent = sent
sent-entries p (again w ∷ es) = sent-entries p es
sent-entries p (waits n ∷ es) = sent-entries p es
sent-entries p (called n a ∷ es) = sent-entries p es

-- ---- the lanes of the board

none-among : (s : Scenario) (ts us : List JournalText) → wrong_back_among s ts us ≡ None → AllByRecursion (λ u. wrong_back s ts u ≡ None) us
none-among s ts [] e = tt
none-among s ts (u ∷ us) e = let parts = none-either (wrong_back s ts u) (wrong_back_among s ts us) e in (parts.0, none-among s ts us parts.1)

module _ (s : Scenario) (board : IsLinkedBoard s) (ts : List JournalText) (due : AllByRecursion (IsDue s board) ts) (none : wrong_back_among s ts ts ≡ None) where
  abbrev dues : List DomainJournal
  dues = map (journal_due s) ts

  of-journal : (t : JournalText) (p : ℕ) → IsDue s board t → wrong_back s ts t ≡ None → ComeBackLater (places_of s dues p t.line.domain) 0 (sent_to p (journal_due s t).entries)
  of-journal t p is e =
      let fits : BackLater (given_to s ts t.line.domain p) 0 (flat_map (of_peer p) (lane_lines t)) = peer-fits (given_to s ts t.line.domain) p (lane_lines t) [] (none-moved t.number (back_place (given_to s ts t.line.domain) [] (lane_lines t)) e) in
      sent-entries p (journal_due s t).entries (places_of s dues p t.line.domain) 0
      (subst (λ places. BackLater places 0 (flat_map (done_at p) (journal_due s t).entries)) (sym (given-due s ts t.line.domain p))
      (subst (BackLater (given_to s ts t.line.domain p) 0) (lines-done s board t is.right p) fits))

  lane-fits : (l : Lane) → IsInTime s dues l
  lane-fits l = go (find (λ t. t.line.domain == l.sender) ts) refl
    where
      go : (o : Option JournalText) → find (λ t. t.line.domain == l.sender) ts ≡ o → IsInTime s dues l
      go None is =
          let empty : journal_of l.sender dues ≡ [] = ap journal_in (found-mapped (journal_due s) (λ u. refl) l.sender ts ∙ ap (option_map (journal_due s)) is) in
          subst (λ es. ComeBackLater (places_of s dues l.receiver l.sender) 0 (sent_to l.receiver es)) (sym empty) tt
      go (Some t) is =
          let domain : t.line.domain ≡ l.sender = eqb-true t.line.domain l.sender (found-passes (λ u. u.line.domain == l.sender) ts t is) in
          let entries : journal_of l.sender dues ≡ (journal_due s t).entries = ap journal_in (found-mapped (journal_due s) (λ u. refl) l.sender ts ∙ ap (option_map (journal_due s)) is) in
          let here = all-found (IsDue s board) (λ u. u.line.domain == l.sender) ts t due is in
          let right = all-found (λ u. wrong_back s ts u ≡ None) (λ u. u.line.domain == l.sender) ts t (none-among s ts ts none) is in
          subst (λ es. ComeBackLater (places_of s dues l.receiver l.sender) 0 (sent_to l.receiver es)) (sym entries)
          (subst (λ d. ComeBackLater (places_of s dues l.receiver d) 0 (sent_to l.receiver (journal_due s t).entries)) domain (of-journal t l.receiver here right))

pub backs_told : (mode : Mode) (s : Scenario) (board : IsLinkedBoard s) (ts : List JournalText) → AllByRecursion (IsDue s board) ts → wrong_ring_back mode s ts ≡ None → BacksFit mode s (map (journal_due s) ts)
backs_told serial s board ts due none = tt
backs_told threads s board ts due none = all-any (IsInTime s (map (journal_due s) ts)) (lane-fits s board ts due none) (lanes s)
