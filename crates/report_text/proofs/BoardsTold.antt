-- Journals in which the second pass finds each step right, and the third each lane, are a run of the board.
use Rattle.std.proofs.Common.{◌≡◌, ℕ, ◌+◌, ◌≤◌, Bool, true, false, cond, List, [], ◌∷◌, ◌++◌, length, map, filter, sum, sum_by, Option, Some, None, option_map, refl, sym, ap, subst, ◌∙◌, arith, eqb-true}
use Rattle.std.specs.Prelude.{find, ◌==◌}
use Rattle.std.specs.List.{AllByRecursion, flat_map}
use Rattle.board_model.specs.declared.scenario.CallLine.{CallLine}
use Rattle.board_model.specs.declared.scenario.Scenario.{Scenario}
use Rattle.board_model.specs.Lists.{IsPrefix}
use Rattle.board_model.specs.Scenario.{script, Lane, lanes, rising}
use Rattle.board_model.specs.LinkedBoard.{IsLinkedBoard}
use Rattle.board_model.specs.Journal.{PlainEntry, turned, put, again, waits, called}
use Rattle.board_model.specs.Unjoined.{peers_of}
use Rattle.board_model.specs.JournalParts.{part_lines, part_entries}
use Rattle.board_model.specs.Step.{RunState, after}
use Rattle.board_model.specs.Run.{start, IsDomainRun, IsWhole}
use Rattle.board_model.specs.Traffic.{put_to, taken_from, takes_from, back_looks, given, given_in}
use Rattle.board_model.specs.Board.{DomainJournal, journal_in, journal_of, given_by, given_back, SeesAtMost, LaneFits, IsBoardRun, AreWhole}
use Rattle.ring_numbers.specs.BoardRings.{sent_by, sent_to}
use Rattle.report_text.specs.JournalRead.{JournalText, lines_of_texts}
use Rattle.report_text.specs.LaneLines.{lane_lines, put_in, back_in}
use Rattle.report_text.specs.StepPass.{parts_of, wrong_step, unfinished}
use Rattle.report_text.specs.LinkPass.{journal_told, gives_back, lanes_in, frames_put, link_place, wrong_link, wrong_among}
use Rattle.report_text.specs.RightRuns.{with_answers, journal_due, HasLines}
use Rattle.report_text.proofs.NothingWrong.{none-moved, none-either}
use Rattle.report_text.proofs.RunsTold.{IsRight, told-parts, run-told}
use Rattle.report_text.proofs.EntriesTold.{unjoined-is}
use Rattle.report_text.proofs.LanesTold as of_lanes
use Rattle.report_text.proofs.LinksTold.{Shows, parts-show, Linked, link-lines}
use Rattle.board_model.proofs.ListsApart.{all-map}

-- ---- answers change nothing at lanes

module _ (lines : List CallLine) (p : ℕ) where
  pub put-answers : (r : RunState) (es : List PlainEntry) → put_to p (with_answers lines r es) ≡ put_to p es
  put-answers r [] = refl
  put-answers r (turned vs ∷ es) = ap (λ xs. flat_map (λ v. v.owed) (filter (λ v. v.peer == p) vs) ++ xs) (put-answers (after lines r (turned vs)) es)
  put-answers r (put q f ∷ es) = ap (λ xs. cond (q == p) (f ∷ []) [] ++ xs) (put-answers (after lines r (put q f)) es)
  put-answers r (again w ∷ es) = put-answers (after lines r (again w)) es
  put-answers r (waits k ∷ es) = put-answers (after lines r (waits k)) es
  put-answers r (called k a ∷ es) = put-answers (after lines r (called k a)) es

  pub sent-answers : (r : RunState) (es : List PlainEntry) → sent_to p (with_answers lines r es) ≡ sent_to p es
  sent-answers r [] = refl
  sent-answers r (turned vs ∷ es) = ap (λ xs. sent_by p (turned vs) ++ xs) (sent-answers (after lines r (turned vs)) es)
  sent-answers r (put q f ∷ es) = ap (λ xs. sent_by p (put q f) ++ xs) (sent-answers (after lines r (put q f)) es)
  sent-answers r (again w ∷ es) = sent-answers (after lines r (again w)) es
  sent-answers r (waits k ∷ es) = sent-answers (after lines r (waits k)) es
  sent-answers r (called k a ∷ es) = sent-answers (after lines r (called k a)) es

  pub takes-answers : (r : RunState) (es : List PlainEntry) → takes_from p (with_answers lines r es) ≡ takes_from p es
  takes-answers r [] = refl
  takes-answers r (turned vs ∷ es) = ap (λ xs. flat_map (λ v. v.takes) (filter (λ v. v.peer == p) vs) ++ xs) (takes-answers (after lines r (turned vs)) es)
  takes-answers r (put q f ∷ es) = takes-answers (after lines r (put q f)) es
  takes-answers r (again w ∷ es) = takes-answers (after lines r (again w)) es
  takes-answers r (waits k ∷ es) = takes-answers (after lines r (waits k)) es
  takes-answers r (called k a ∷ es) = takes-answers (after lines r (called k a)) es

  pub backs-answers : (r : RunState) (es : List PlainEntry) → back_looks p (with_answers lines r es) ≡ back_looks p es
  backs-answers r [] = refl
  backs-answers r (turned vs ∷ es) = ap (λ xs. map (λ v. v.back) (filter (λ v. v.peer == p) vs) ++ xs) (backs-answers (after lines r (turned vs)) es)
  backs-answers r (put q f ∷ es) = backs-answers (after lines r (put q f)) es
  backs-answers r (again w ∷ es) = backs-answers (after lines r (again w)) es
  backs-answers r (waits k ∷ es) = backs-answers (after lines r (waits k)) es
  backs-answers r (called k a ∷ es) = backs-answers (after lines r (called k a)) es

  pub given-answers : (r : RunState) (es : List PlainEntry) → given lines r p (with_answers lines r es) ≡ given lines r p es
  given-answers r [] = refl
  given-answers r (turned vs ∷ es) = ap (λ (n : ℕ). given_in lines r p (turned vs) + n) (given-answers (after lines r (turned vs)) es)
  given-answers r (put q f ∷ es) = ap (λ (n : ℕ). 0 + n) (given-answers (after lines r (put q f)) es)
  given-answers r (again w ∷ es) = ap (λ (n : ℕ). 0 + n) (given-answers (after lines r (again w)) es)
  given-answers r (waits k ∷ es) = ap (λ (n : ℕ). 0 + n) (given-answers (after lines r (waits k)) es)
  given-answers r (called k a ∷ es) = ap (λ (n : ℕ). given_in lines r p (called k a) + n) (given-answers (after lines r (called k a)) es)

  sees-answers : (most k : ℕ) (r : RunState) (es : List PlainEntry) → SeesAtMost p most k es → SeesAtMost p most k (with_answers lines r es)
  sees-answers most k r [] h = tt
  sees-answers most k r (turned vs ∷ es) h = (h.0, sees-answers most (k + length (flat_map (λ v. v.takes) (filter (λ v. v.peer == p) vs))) (after lines r (turned vs)) es h.1)
  sees-answers most k r (put q f ∷ es) h = sees-answers most k (after lines r (put q f)) es h
  sees-answers most k r (again w ∷ es) h = sees-answers most k (after lines r (again w)) es h
  sees-answers most k r (waits n ∷ es) h = sees-answers most k (after lines r (waits n)) es h
  sees-answers most k r (called n a ∷ es) h = sees-answers most k (after lines r (called n a)) es h

-- ---- lists

all-any : {A : Type 0} (P : A → Type 0) → ((x : A) → P x) → (xs : List A) → AllByRecursion P xs
all-any P each [] = tt
all-any P each (x ∷ xs) = (each x, all-any P each xs)

all-found : {A : Type 0} (P : A → Type 0) (test : A → Bool) (xs : List A) (x : A) → AllByRecursion P xs → find test xs ≡ Some x → P x × (test x ≡ true)
all-found P test [] x all e = absurd cc
all-found {A = A} P test (y ∷ ys) x all e = go (test y) refl e (λ k. all-found P test ys x all.1 k)
  where
    some-is : (a b : A) → Some a ≡ Some b → a ≡ b
    some-is a b e = cc

    go : (b : Bool) → test y ≡ b → cond b (Some y) (find test ys) ≡ Some x → (find test ys ≡ Some x → P x × (test x ≡ true)) → P x × (test x ≡ true)
    go true is e rest = let same : y ≡ x = some-is y x e in (subst P same all.0, ap test (sym same) ∙ is)
    go false is e rest = rest e

pub found-mapped : (f : JournalText → DomainJournal) → ((j : JournalText) → (f j).line ≡ j.line) → (d : ℕ) (js : List JournalText) → find (λ j. j.line.domain == d) (map f js) ≡ option_map f (find (λ j. j.line.domain == d) js)
found-mapped f same d [] = refl
found-mapped f same d (j ∷ js) = ap (λ l. cond (l.domain == d) (Some (f j)) (find (λ k. k.line.domain == d) (map f js))) (same j) ∙ go (j.line.domain == d) (found-mapped f same d js)
  where
    go : (b : Bool) → find (λ k. k.line.domain == d) (map f js) ≡ option_map f (find (λ k. k.line.domain == d) js) → cond b (Some (f j)) (find (λ k. k.line.domain == d) (map f js)) ≡ option_map f (cond b (Some j) (find (λ k. k.line.domain == d) js))
    go true rest = refl
    go false rest = rest

module _ (s : Scenario) (board : IsLinkedBoard s) where
  -- ---- what a journal does at a lane

  module _ (j : JournalText) (right : IsRight s board j) (p : ℕ) where
    abbrev told : List PlainEntry
    told = (journal_told s j).entries

    abbrev due : List PlainEntry
    due = (journal_due s j).entries

    lines-are : lane_lines j ≡ of_lanes.lanes (flat_map part_lines (parts_of s j))
    lines-are = ap of_lanes.lanes (told-parts s board j right).lines

    entries-are : told ≡ flat_map (part_entries (peers_of s j.line)) (parts_of s j)
    entries-are = unjoined-is s j.line (lines_of_texts j.texts)

    pub puts-are : flat_map (put_in p) (lane_lines j) ≡ put_to p due
    puts-are = ap (flat_map (put_in p)) lines-are ∙ of_lanes.parts-put (peers_of s j.line) p (parts_of s j) ∙ sym (ap (put_to p) entries-are) ∙ sym (put-answers (script s j.line.domain) p (start s j.line) told)

    pub takes-are : flat_map (of_lanes.frame_in p) (lane_lines j) ≡ taken_from p due
    takes-are = ap (flat_map (of_lanes.frame_in p)) lines-are ∙ of_lanes.parts-taken (peers_of s j.line) p (parts_of s j) ∙ sym (ap (taken_from p) entries-are) ∙ sym (ap (map (λ t. t.frame)) (takes-answers (script s j.line.domain) p (start s j.line) told))

    backs-are : sum_by (back_in p) (lane_lines j) ≡ sum (back_looks p due)
    backs-are = ap (sum_by (back_in p)) lines-are ∙ of_lanes.parts-back (peers_of s j.line) p (parts_of s j) ∙ sym (ap (λ es. sum (back_looks p es)) entries-are) ∙ sym (ap sum (backs-answers (script s j.line.domain) p (start s j.line) told))

    sees-are : (most : ℕ) → Shows p most 0 (lane_lines j) → SeesAtMost p most 0 due
    sees-are most h =
        sees-answers (script s j.line.domain) p most 0 (start s j.line) told
        (subst (SeesAtMost p most 0) (sym entries-are) (parts-show p most (peers_of s j.line) (parts_of s j) 0 (subst (Shows p most 0) lines-are h)))

  -- ---- all journals

  module _ (js : List JournalText) (right : AllByRecursion (IsRight s board) js) where
    abbrev all_due : List DomainJournal
    all_due = map (journal_due s) js

    pub frames-are : (from to : ℕ) → frames_put js from to ≡ put_to to (journal_of from all_due)
    frames-are from to = go (find (λ j. j.line.domain == from) js) refl ∙ sym (ap (λ o. put_to to (journal_in o)) (found-mapped (journal_due s) (λ j. refl) from js))
      where
        go : (o : Option JournalText) → find (λ j. j.line.domain == from) js ≡ o → flat_map (put_in to) (lanes_in o) ≡ put_to to (journal_in (option_map (journal_due s) o))
        go None is = refl
        go (Some j) is = puts-are j (all-found (IsRight s board) (λ k. k.line.domain == from) js j right is).0 to

    pub given-are : (from to : ℕ) → gives_back s js from to ≡ given_back s all_due from to
    given-are from to =
        ap (λ o. given_by s o to) (found-mapped (journal_told s) (λ j. refl) from js)
        ∙ go (find (λ j. j.line.domain == from) js)
        ∙ sym (ap (λ o. given_by s o to) (found-mapped (journal_due s) (λ j. refl) from js))
      where
        go : (o : Option JournalText) → given_by s (option_map (journal_told s) o) to ≡ given_by s (option_map (journal_due s) o) to
        go None = refl
        go (Some j) = sym (given-answers (script s j.line.domain) to (start s j.line) (journal_told s j).entries)

    all-linked : (ts : List JournalText) → wrong_among s js ts ≡ None → AllByRecursion (λ t. wrong_link s js t ≡ None) ts
    all-linked [] e = tt
    all-linked (t ∷ ts) e = let both = none-either (wrong_link s js t) (wrong_among s js ts) e in (both.0, all-linked ts both.1)

    module _ (links : wrong_among s js js ≡ None) where
      -- of a journal of this domain, at a peer
      linked : (d p : ℕ) (j : JournalText) → find (λ k. k.line.domain == d) js ≡ Some j → Linked s js d p 0 0 (lane_lines j)
      linked d p j is =
          let found = all-found (λ t. wrong_link s js t ≡ None) (λ k. k.line.domain == d) js j (all-linked js links) is in
          let same : j.line.domain ≡ d = eqb-true j.line.domain d found.1 in
          let none : link_place s js j.line.domain [] (lane_lines j) ≡ None = none-moved j.number (link_place s js j.line.domain [] (lane_lines j)) found.0 in
          link-lines s js d p (lane_lines j) [] 0 0 refl refl (omega arith) (omega arith) (subst (λ n. link_place s js n [] (lane_lines j) ≡ None) same none)

      fits-taken : (a c : ℕ) → IsPrefix (taken_from a (journal_of c all_due)) (put_to c (journal_of a all_due))
      fits-taken a c = subst (λ o. IsPrefix (taken_from a (journal_in o)) (put_to c (journal_of a all_due))) (sym (found-mapped (journal_due s) (λ j. refl) c js)) (go (find (λ j. j.line.domain == c) js) refl)
        where
          go : (o : Option JournalText) → find (λ j. j.line.domain == c) js ≡ o → IsPrefix (taken_from a (journal_in (option_map (journal_due s) o))) (put_to c (journal_of a all_due))
          go None is = (put_to c (journal_of a all_due), refl)
          go (Some j) is =
              let link = linked c a j is in
              (link.others, sym (frames-are a c) ∙ link.taken ∙ ap (λ xs. xs ++ link.others) (takes-are j (all-found (IsRight s board) (λ k. k.line.domain == c) js j right is).0 a))

      fits-sees : (a c : ℕ) → SeesAtMost a (length (put_to c (journal_of a all_due))) 0 (journal_of c all_due)
      fits-sees a c = subst (λ o. SeesAtMost a (length (put_to c (journal_of a all_due))) 0 (journal_in o)) (sym (found-mapped (journal_due s) (λ j. refl) c js)) (go (find (λ j. j.line.domain == c) js) refl)
        where
          go : (o : Option JournalText) → find (λ j. j.line.domain == c) js ≡ o → SeesAtMost a (length (put_to c (journal_of a all_due))) 0 (journal_in (option_map (journal_due s) o))
          go None is = tt
          go (Some j) is =
              let link = linked c a j is in
              sees-are j (all-found (IsRight s board) (λ k. k.line.domain == c) js j right is).0 a (length (put_to c (journal_of a all_due)))
              (subst (λ fs. Shows a (length fs) 0 (lane_lines j)) (frames-are a c) link.shown)

      fits-backs : (a c : ℕ) → sum (back_looks c (journal_of a all_due)) ≤ given_back s all_due c a
      fits-backs a c = subst (λ o. sum (back_looks c (journal_in o)) ≤ given_back s all_due c a) (sym (found-mapped (journal_due s) (λ j. refl) a js)) (go (find (λ j. j.line.domain == a) js) refl)
        where
          go : (o : Option JournalText) → find (λ j. j.line.domain == a) js ≡ o → sum (back_looks c (journal_in (option_map (journal_due s) o))) ≤ given_back s all_due c a
          go None is = let none : sum (back_looks c []) ≡ 0 = refl in omega (arith, none)
          go (Some j) is =
              let link = linked a c j is in
              let back = link.back in
              omega (arith, back, given-are c a, backs-are j (all-found (IsRight s board) (λ k. k.line.domain == a) js j right is).0 c)

      lane-fits : (l : Lane) → LaneFits s all_due l
      lane-fits l = record { taken_first = fits-taken l.sender l.receiver; sees = fits-sees l.sender l.receiver; backs = fits-backs l.sender l.receiver }

    -- ---- a run of the board

    record Runs (ts : List JournalText) : Type 0 where
      runs : AllByRecursion (λ j. IsDomainRun s j.line (journal_due s j).entries) ts
      wholes : AllByRecursion (λ j. IsWhole s j.line (journal_due s j).entries) ts
      written : AllByRecursion (HasLines s) ts

    all-runs : (ts : List JournalText) → AllByRecursion (IsRight s board) ts → AllByRecursion (λ j. (wrong_step s j ≡ None) × (unfinished s j ≡ None)) ts → Runs ts
    all-runs [] rights steps = record { runs = tt; wholes = tt; written = tt }
    all-runs (t ∷ ts) rights steps =
        let one = run-told s board t rights.0 steps.0.0 in
        let rest = all-runs ts rights.1 steps.1 in
        record { runs = (one.run, rest.runs); wholes = (one.whole steps.0.1, rest.wholes); written = (one.written, rest.written) }

    pub record IsTold : Type 0 where
      pub run : IsBoardRun s all_due
      pub whole : AreWhole s all_due
      pub written : AllByRecursion (HasLines s) js

    pub board-run : map (λ j. j.line) js ≡ rising s → AllByRecursion (λ j. (wrong_step s j ≡ None) × (unfinished s j ≡ None)) js → wrong_among s js js ≡ None → IsTold
    board-run domains steps links =
        let all = all-runs js right steps in
        record {
          run = record {
            each_domain = lines-same js ∙ domains;
            domain_runs = all-map (λ (d : DomainJournal). IsDomainRun s d.line d.entries) (journal_due s) js all.runs;
            lanes_fit = all-any (LaneFits s all_due) (lane-fits links) (lanes s);
          };
          whole = all-map (λ (d : DomainJournal). IsWhole s d.line d.entries) (journal_due s) js all.wholes;
          written = all.written;
        }
      where
        lines-same : (ts : List JournalText) → map (λ d. d.line) (map (journal_due s) ts) ≡ map (λ j. j.line) ts
        lines-same [] = refl
        lines-same (t ∷ ts) = ap (λ ls. t.line ∷ ls) (lines-same ts)
