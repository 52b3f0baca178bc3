-- A domain on its way through the parts of its journal: what is known before each part, and how one leads to the next.
use Rattle.std.proofs.Common.{◌≡◌, ℕ, suc, ◌+◌, ◌-◌, ◌^◌, ◌<◌, ◌≤◌, Bor, Bool, true, false, cond, List, [], ◌∷◌, ◌++◌, length, map, take, drop, Option, Some, None, refl, sym, ap, subst, ◌∙◌, arith, append_assoc, append-nil, length-append}
use Rattle.std.specs.Prelude.{bytes_eq, ◌==◌}
use Rattle.std.specs.List.{AllByRecursion, flat_map}
use Rattle.std.proofs.lemmas.List.{length-map}
use Rattle.std.proofs.lemmas.List.Concat.{flat_map-append}
use Rattle.std.proofs.Math.Seq.{take-append_seam}
use Rattle.board_model.specs.declared.scenario.Call.{Call}
use Rattle.board_model.specs.declared.scenario.Call.TheVariants.{Create, Delete, Lookup, MsgSend, MsgRecv, MsgRecvI, MsgAvailable, Connect, OpenSend, OpenRecv, PktSend, PktRecv, PktRecvI, Release, SclSend, SclRecv, CloseSend, CloseRecv, Test, Wait, WaitAny, Cancel, Raw, Turn}
use Rattle.board_model.specs.declared.scenario.CallLine.{CallLine}
use Rattle.board_model.specs.Journal.{Line, call_line, put_line}
use Rattle.board_model.specs.JournalParts.{Part, idles, spins, tries, turn_of, wait_of, call_of, part_lines, part_entries}
use Rattle.board_model.specs.LinkedBoard.{Differ, HasFitArguments, IsLinkedBoard}
use Rattle.board_model.specs.Report.{line_text}
use Rattle.board_model.specs.Run.{start, after_all}
use Rattle.board_model.specs.Scenario.{script as script_in}
use Rattle.board_model.specs.Step.{RunState}
use Rattle.board_model.specs.Unjoined.{peers_of}
use Rattle.board_model.proofs.LawfulBoards.{lawful_is_linked}
use Rattle.board_model.proofs.MessageAlls.{all-filter, all-weaken}
use Rattle.board_model.proofs.PlaceBoards.{neighbours_differ}
use Rattle.report_replay.proofs.OwnAddresses.{own-addresses-apart}
use Rattle.report_replay.specs.Effects.{HasOwnAddresses}
use Rattle.board_model.specs.FileLines.{onto_first}
use Rattle.report_text.specs.JournalRead.{text_first, told_texts, lines_of_texts, parts_in}
use Rattle.report_text.specs.Outlines.{all_or, behind_told, told_line}
use Rattle.report_text.specs.declared.outline.Outline.{Outline}
use Rattle.report_text.specs.StepPass.{before_last, due_call, due_lines, idle_visits, other_than, part_place, spin_due, step_place, texts_of}
use Rattle.report_text.specs.TextLines.{first_other, lines_in, moved, or_else}
use Rattle.report_text.specs.Texts.{lines_behind}
use Rattle.report_text.proofs.JournalSteps.{moved-moved}
use Rattle.report_text.proofs.LinesTold.{Tell, tell-take}
use Rattle.report_text.proofs.ReportsTold.{lines-end, texts-tell}
use Rattle.report_text.proofs.RunsTold.{told-parts}
use Rattle.report_text.proofs.RunsTold as runs
use Rattle.report_text.proofs.StepsDue.{Fits, Going, all-after, part-told}
use Rattle.report_text.proofs.TurnsTold.{visits-told}
use Rattle.report_check.specs.Doing.{HasPeers}
use Rattle.report_check.specs.NextParts.{BeginsPart, IsNextPart, lines_from, parts_from, texts_from}
use Rattle.report_check.specs.NamedStates.{GoesOn, deeds_on}
use Rattle.report_check.specs.PartsWalked.{IsBegun, Way, due_part, entries_of, wrong_on}
use Rattle.report_check.specs.Runs.{FitsLine, IsAt, Makes, script_of}
use Rattle.report_check.specs.declared.cursor.NextPart.{NextPart}
use Rattle.report_check.specs.declared.run.Run.{Run}
use Rattle.board_model.specs.Deeds.{Deed}
use Rattle.report_check.proofs.NamedLemmas.{goes-nothing, goes-then}
use Rattle.report_check.proofs.RunSteps.{deeds-join}
use Rattle.report_check.proofs.PartTexts.{front-told}
use Rattle.report_check.proofs.TurnSteps.{peers-there}
use Rattle.report_check.proofs.WalkFound.{tell-length}

-- ---- a state of a run has its peers, and its endpoints have addresses of their own

pub peers-known : (peers : List ℕ) (script : List CallLine) (r : RunState) → Going peers script r → HasPeers r.state peers
peers-known peers script r h = peers-there r.state peers h.sound.numbers

-- ---- what the lines of a lawful board put fits into a frame

fits-line : (c : Call) → HasFitArguments c → FitsLine c
fits-line (Create port) fit = tt
fits-line (Delete port) fit = tt
fits-line (Lookup name) fit = tt
fits-line (MsgSend port to priority bytes) fit = tt
fits-line (MsgRecv port max) fit = tt
fits-line (MsgRecvI port max) fit = tt
fits-line (MsgAvailable port) fit = tt
fits-line (Connect port to kind) fit = tt
fits-line (OpenSend port kind) fit = tt
fits-line (OpenRecv port kind) fit = tt
fits-line (PktSend port bytes) fit = tt
fits-line (PktRecv port) fit = tt
fits-line (PktRecvI port) fit = tt
fits-line (Release label) fit = tt
fits-line (SclSend port bits value) fit = fit.1
fits-line (SclRecv port bits) fit = tt
fits-line (CloseSend port) fit = tt
fits-line (CloseRecv port) fit = tt
fits-line (Test label) fit = tt
fits-line (Wait label limit) fit = tt
fits-line (WaitAny names limit) fit = tt
fits-line (Cancel label) fit = tt
fits-line (Raw domain bytes) fit = fit.2
fits-line Turn fit = tt

-- ---- what is known where the way begins

text-tells : (text : List ℕ) → Tell (texts_from text) (lines_from text)
text-tells text = (texts-tell (lines_in text) (lines-end text)).tells

-- the lines of a journal are those of its parts
abbrev IsParted : List ℕ → List CallLine → List (List ℕ) → Type 0
IsParted peers script texts = (lines_of_texts texts ≡ flat_map part_lines (parts_in peers script (lines_of_texts texts))) × AllByRecursion (Fits peers) (parts_in peers script (lines_of_texts texts))

module _ (peers : List ℕ) (script : List CallLine) (text : List ℕ) (way : Way) (h : IsBegun peers script text way) where
  board : IsLinkedBoard h.board
  board = lawful_is_linked h.board h.lawful

  pub begun-below : AllByRecursion (λ n. n < 8) peers
  begun-below = subst (AllByRecursion (λ n. n < 8)) (sym h.numbers) (runs.peers-below h.board board h.journal.line h.order.lawful)

  few : AllByRecursion (λ n. n < 2 ^ 8) peers
  few = subst (AllByRecursion (λ n. n < 2 ^ 8)) (sym h.numbers) (runs.peers-few h.board board h.journal.line h.order.lawful)

  apart : Differ peers
  apart = subst Differ (sym h.numbers) (neighbours_differ h.board board h.journal.line)

  pub begun-short : length script < 2 ^ 32
  begun-short = subst (λ (ls : List CallLine). length ls < 2 ^ 32) (sym h.lines) (runs.script-short h.board board h.journal.line.domain)

  pub begun-fit : AllByRecursion (λ (l : CallLine). FitsLine l.call) script
  begun-fit =
      subst (AllByRecursion (λ (l : CallLine). FitsLine l.call)) (sym h.lines)
      (all-filter (λ (l : CallLine). FitsLine l.call) (λ c. c.domain == h.journal.line.domain) h.board.calls
      (all-weaken (λ (l : CallLine). HasFitArguments l.call) (λ (l : CallLine). FitsLine l.call) (λ l fit. fits-line l.call fit) h.board.calls board.arguments_fit))

  opening : Going peers script way.first
  opening =
      subst (Going peers script) (sym h.begins)
      (subst (λ ps. Going ps script (start h.board h.journal.line)) (sym h.numbers)
      (subst (λ ls. Going (peers_of h.board h.journal.line) ls (start h.board h.journal.line)) (sym h.lines) (runs.opening-going h.board board h.journal.line h.order.lawful)))

  parted : IsParted peers script (texts_from text)
  parted =
      let tells : Tell h.journal.texts (lines_of_texts h.journal.texts) = subst (λ ts. Tell ts (lines_of_texts ts)) h.texts (text-tells text) in
      let are = told-parts h.board board h.journal (record { tells = tells; order = h.order.order; lawful = h.order.lawful }) in
      subst (λ ps. IsParted ps script (texts_from text)) (sym h.numbers)
      (subst (λ ls. IsParted (peers_of h.board h.journal.line) ls (texts_from text)) (sym h.lines)
      (subst (IsParted (peers_of h.board h.journal.line) (script_in h.board h.journal.line.domain)) (sym h.texts) (are.lines, are.fits)))

-- ---- on the way

abbrev pub reached : List ℕ → List CallLine → Way → List Part → RunState
reached peers script way front = after_all script way.first (flat_map (part_entries peers) front)

-- so many lines were those due, and this text is left
pub record Walking (peers : List ℕ) (script : List CallLine) (way : Way) (text rest : List ℕ) (lines : ℕ) (old run : Run) : Type 0 where
  pub front : List Part
  pub parts : way.parts ≡ front ++ parts_from peers script rest
  pub at : IsAt run (reached peers script way front)
  pub deeds : GoesOn old.state run.state (deeds_on script way.first (flat_map (part_entries peers) front))
  pub going : Going peers script (reached peers script way front)
  pub fits : AllByRecursion (Fits peers) (parts_from peers script rest)
  pub begins : BeginsPart peers script rest
  pub place : wrong_on peers script way text ≡ moved lines (step_place script peers (reached peers script way front) (parts_from peers script rest) (texts_from rest))
  pub behind : lines_behind rest ≡ lines_behind text
  pub count : lines + length (texts_from rest) ≡ length (texts_from text)

-- the state before the part that begins a text
abbrev pub state_before : List ℕ → List CallLine → Way → List ℕ → RunState
state_before peers script way rest = reached peers script way (take (length way.parts - length (parts_from peers script rest)) way.parts)

front-taken : (xs ys zs : List Part) → zs ≡ xs ++ ys → take (length zs - length ys) zs ≡ xs
front-taken xs ys zs e =
    let more : length zs ≡ length xs + length ys = ap length e ∙ length-append xs ys in
    let count : length zs - length ys ≡ length xs = omega (arith, more) in
    ap (λ (n : ℕ). take n zs) count ∙ (ap (take (length xs)) e ∙ take-append_seam xs ys)

pub before-is : (peers : List ℕ) (script : List CallLine) (way : Way) (text rest : List ℕ) (lines : ℕ) (old run : Run) → (w : Walking peers script way text rest lines old run) → state_before peers script way rest ≡ reached peers script way w.front
before-is peers script way text rest lines old run w = ap (reached peers script way) (front-taken w.front (parts_from peers script rest) way.parts w.parts)

-- ---- places

moved-nowhere : (o : Option ℕ) → o ≡ moved 0 o
moved-nowhere None = refl
moved-nowhere (Some n) = let same : n ≡ 0 + n = omega arith in ap Some same

some-number : (n m : ℕ) → Some n ≡ Some m → n ≡ m
some-number n m e = cc

other-within : (ts us : List (List ℕ)) (n : ℕ) → first_other ts us ≡ Some n → n ≤ length ts
other-within [] [] n e = absurd cc
other-within [] (u ∷ us) n e = let none = some-number 0 n e in omega (arith, none)
other-within (t ∷ ts) [] n e = let none = some-number 0 n e in omega (arith, none)
other-within (t ∷ ts) (u ∷ us) n e = go (bytes_eq t u) (first_other ts us) e (λ k same. other-within ts us k same)
  where
    go : (b : Bool) (o : Option ℕ) → cond b (moved 1 o) (Some 0) ≡ Some n → ((k : ℕ) → o ≡ Some k → k ≤ length ts) → n ≤ suc (length ts)
    go true None e rest = absurd cc
    go true (Some k) e rest = let more = some-number (1 + k) n e in omega (arith, more, rest k refl)
    go false o e rest = let none = some-number 0 n e in omega (arith, none)

idle-within : (b : Bool) (o : Option ℕ) (most n : ℕ) → ((k : ℕ) → o ≡ Some k → k ≤ most) → or_else (cond b None (Some 0)) o ≡ Some n → n ≤ most
idle-within true o most n rest e = rest n e
idle-within false o most n rest e = let none = some-number 0 n e in omega (arith, none)

idle-first : (b : Bool) (most n : ℕ) → cond {A = Option ℕ} b None (Some 0) ≡ Some n → n ≤ most
idle-first true most n e = absurd cc
idle-first false most n e = let none = some-number 0 n e in omega (arith, none)

-- the first wrong line of a part is one of its own, or the one behind
part-within : (script : List CallLine) (peers : List ℕ) (r : RunState) (p : Part) (ts : List (List ℕ)) (n : ℕ) → part_place script peers r p ts ≡ Some n → n ≤ length ts
part-within script peers r (idles k) ts n e = idle-first _ (length ts) n e
part-within script peers r (spins k word) ts n e =
    let due = spin_due k (due_call script (before_last script peers k r)) in
    idle-within (length (due_lines r (idle_visits peers)) == 0) (other_than due ts) (length ts) n (λ m is. other-within ts (map line_text due) m is) e
part-within script peers r (tries word) ts n e = other-within ts _ n e
part-within script peers r (turn_of vs) ts n e = other-within ts _ n e
part-within script peers r (wait_of k) ts n e = other-within ts _ n e
part-within script peers r (call_of ps k a) ts n e = other-within ts _ n e

-- ---- texts

some-lines : (p : Part) → 0 < length (part_lines p)
some-lines (idles n) = omega arith
some-lines (spins n word) = omega arith
some-lines (tries word) = omega arith
some-lines (turn_of vs) = omega arith
some-lines (wait_of k) = omega arith
some-lines (call_of ps k a) = some-behind (map (λ (p : ℕ × List ℕ). put_line p.0 p.1) ps) (call_line k a)
  where
    some-behind : (ls : List Line) (last : Line) → 0 < length (ls ++ last ∷ [])
    some-behind [] last = omega arith
    some-behind (l ∷ ls) last = omega arith

none-told : (ls : List (List ℕ)) → told_texts ls ≡ [] → behind_told ls ≡ ls
none-told [] e = refl
none-told (l ∷ ls) e = go (told_line l) e
  where
    go : (o : Option Outline) → text_first o l (told_texts ls) ≡ [] → all_or o (l ∷ ls) (behind_told ls) ≡ l ∷ ls
    go None e = refl
    go (Some line) e = absurd cc

lines-onto : (b : ℕ) (ls : List (List ℕ)) → length (onto_first b ls) ≤ suc (length ls)
lines-onto b [] = omega arith
lines-onto b (l ∷ ls) = omega arith

lines-few : (text : List ℕ) → length (lines_in text) ≤ length text
lines-few [] = omega arith
lines-few (b ∷ bs) = go (b == 10) (lines-few bs)
  where
    go : (t : Bool) → length (lines_in bs) ≤ length bs → length (cond t ((10 ∷ []) ∷ lines_in bs) (onto_first b (lines_in bs))) ≤ suc (length bs)
    go true few = omega (arith, few)
    go false few = omega (arith, few, lines-onto b (lines_in bs))

told-few : (ls : List (List ℕ)) → length (told_texts ls) ≤ length ls
told-few [] = omega arith
told-few (l ∷ ls) = go (told_line l) (told-few ls)
  where
    go : (o : Option Outline) → length (told_texts ls) ≤ length ls → length (text_first o l (told_texts ls)) ≤ suc (length ls)
    go None few = omega arith
    go (Some line) few = omega (arith, few)

pub texts-few : (text : List ℕ) → length (texts_from text) ≤ length text
texts-few text = omega (arith, told-few (lines_in text), lines-few text)

-- the lines of a run's script, as many as it holds
pub script-few : (run : Run) (script : List CallLine) → script_of run ≡ script → length script < 2 ^ 32 → length run.script.now < 2 ^ 32
script-few run script same short = omega (arith, short, length-map run.script.now (λ (l : Bor CallLine). l.now), ap (λ (ls : List CallLine). length ls) same)

-- ---- from the first part on

pub walking-begins : (peers : List ℕ) (script : List CallLine) (text : List ℕ) (way : Way) (run : Run) → IsBegun peers script text way → IsAt run way.first → Walking peers script way text text 0 run run
walking-begins peers script text way run h at = record {
  front = [];
  parts = h.parts;
  at = at;
  deeds = goes-nothing run.state;
  going = opening peers script text way h;
  fits = (parted peers script text way h).1;
  begins = (parted peers script text way h).0;
  place = ap (λ ps. step_place script peers way.first ps (texts_from text)) h.parts ∙ moved-nowhere (step_place script peers way.first (parts_from peers script text) (texts_from text));
  behind = refl;
  count = omega arith;
}

module _ (peers : List ℕ) (script : List CallLine) (text rest : List ℕ) (way : Way) (lines : ℕ) (old run : Run) (h : IsBegun peers script text way) (w : Walking peers script way text rest lines old run) where
  abbrev pub at_front : RunState
  at_front = reached peers script way w.front

  -- ---- at the end

  module _ (end : texts_from rest ≡ []) where
    none-left : parts_from peers script rest ≡ []
    none-left = ap (λ ts. parts_in peers script (lines_of_texts ts)) end

    pub end-right : wrong_on peers script way text ≡ None
    end-right = w.place ∙ ap (λ ps. moved lines (step_place script peers at_front ps (texts_from rest))) none-left

    pub end-lines : lines ≡ length (texts_from text)
    end-lines = let none : length (texts_from rest) ≡ 0 = ap length end in let count = w.count in omega (arith, none, count)

    pub end-behind : lines_in rest ≡ lines_behind text
    end-behind = sym (none-told (lines_in rest) end) ∙ w.behind

    pub end-at : Makes script way.first (entries_of peers way) old run
    end-at =
        let all : way.parts ≡ w.front = w.parts ∙ (ap (λ ps. w.front ++ ps) none-left ∙ append-nil w.front) in
        subst (λ ps. Makes script way.first (flat_map (part_entries peers) ps) old run) (sym all) (record { at = w.at; deeds = w.deeds })

  -- ---- at the next part

  module _ (n : NextPart) (next : IsNextPart peers script rest n) where
    abbrev pub texts : List (List ℕ)
    texts = take n.lines (lines_in rest)

    abbrev pub behind : List Part
    behind = parts_from peers script n.behind.text.now

    abbrev pub after : RunState
    after = after_all script at_front (part_entries peers next.part)

    tells : Tell (texts_from rest) (part_lines next.part ++ flat_map part_lines behind)
    tells = subst (Tell (texts_from rest)) (w.begins ∙ ap (flat_map part_lines) next.parts) (text-tells rest)

    all-lines : length (texts_from rest) ≡ n.lines + length (flat_map part_lines behind)
    all-lines = tell-length (texts_from rest) (part_lines next.part ++ flat_map part_lines behind) tells ∙ (length-append (part_lines next.part) (flat_map part_lines behind) ∙ ap (λ k. k + length (flat_map part_lines behind)) (sym next.lines))

    same : texts_of next.part (texts_from rest) ≡ texts
    same = ap (λ k. take k (texts_from rest)) (sym next.lines) ∙ front-told n.lines (lines_in rest) (omega (arith, all-lines))

    first : Tell texts (part_lines next.part)
    first = subst (λ ts. Tell ts (part_lines next.part)) same (tell-take (texts_from rest) (part_lines next.part) (flat_map part_lines behind) tells)

    fit : AllByRecursion (Fits peers) (next.part ∷ behind)
    fit = subst (AllByRecursion (Fits peers)) next.parts w.fits

    pub next-fits : Fits peers next.part
    next-fits = fit.0

    pub next-lines : length texts ≡ n.lines
    next-lines = tell-length texts (part_lines next.part) first ∙ sym next.lines

    pub next-some : 0 < length texts
    next-some = omega (arith, tell-length texts (part_lines next.part) first, some-lines next.part)

    pub lines-more : lines + n.lines ≤ length (texts_from text)
    lines-more = let count = w.count in omega (arith, count, all-lines)

    place : wrong_on peers script way text ≡ moved lines (or_else (part_place script peers at_front next.part texts) (moved n.lines (step_place script peers after behind (texts_from n.behind.text.now))))
    place =
        w.place
        ∙ (ap (λ ps. moved lines (step_place script peers at_front ps (texts_from rest))) next.parts
        ∙ (ap (λ ts. moved lines (or_else (part_place script peers at_front next.part ts) (moved (length (part_lines next.part)) (step_place script peers after behind (drop (length (part_lines next.part)) (texts_from rest)))))) same
        ∙ (ap (λ k. moved lines (or_else (part_place script peers at_front next.part texts) (moved k (step_place script peers after behind (drop k (texts_from rest)))))) (sym next.lines)
        ∙ ap (λ ts. moved lines (or_else (part_place script peers at_front next.part texts) (moved n.lines (step_place script peers after behind ts)))) (sym next.texts))))

    -- one of its lines is wrong
    pub next-wrong : (k : ℕ) → Some k ≡ part_place script peers at_front next.part texts → wrong_on peers script way text ≡ Some (lines + k)
    next-wrong k e = place ∙ ap (λ o. moved lines (or_else o (moved n.lines (step_place script peers after behind (texts_from n.behind.text.now))))) (sym e)

    pub wrong-within : (k : ℕ) → Some k ≡ part_place script peers at_front next.part texts → lines + k ≤ length (texts_from text)
    wrong-within k e = omega (arith, part-within script peers at_front next.part texts k (sym e), next-lines, lines-more)

    -- the state before it, by the run's own lines
    module _ (lines-same : script_of run ≡ script) where
      abbrev pub here : RunState
      here = state_before peers (script_of run) way rest

      pub here-is : here ≡ at_front
      here-is = ap (λ (sc : List CallLine). state_before peers sc way rest) lines-same ∙ before-is peers script way text rest lines old run w

      pub here-place : (o : Option ℕ) → o ≡ part_place (script_of run) peers here next.part texts → o ≡ part_place script peers at_front next.part texts
      here-place o e = e ∙ (ap (λ (sc : List CallLine). part_place sc peers here next.part texts) lines-same ∙ ap (λ (r : RunState). part_place script peers r next.part texts) here-is)

      pub here-at : (new : Run) → Makes (script_of run) here (part_entries peers (due_part here.state next.part)) run new → Makes script at_front (part_entries peers (due_part at_front.state next.part)) run new
      here-at new at =
          subst (λ (r : RunState). Makes script r (part_entries peers (due_part r.state next.part)) run new) here-is
          (subst (λ (sc : List CallLine). Makes sc here (part_entries peers (due_part here.state next.part)) run new) lines-same at)

      pub here-known : HasPeers here.state peers
      here-known = subst (λ (r : RunState). HasPeers r.state peers) (sym here-is) (peers-known peers script at_front w.going)

      pub here-own : HasOwnAddresses here.state
      here-own = subst (λ (r : RunState). HasOwnAddresses r.state) (sym here-is) (own-addresses-apart at_front.state w.going.sound.ends)

      pub here-shown : IsAt run here
      here-shown = subst (IsAt run) (sym here-is) w.at

    -- none is
    part-due : (p : Part) → Fits peers p → Tell texts (part_lines p) → part_place script peers at_front p texts ≡ None → due_part at_front.state p ≡ p
    part-due (idles k) fits tell none = refl
    part-due (spins k word) fits tell none = refl
    part-due (tries word) fits tell none = refl
    part-due (turn_of vs) fits tell none = ap turn_of (sym (visits-told peers (few peers script text way h) (apart peers script text way h) at_front.state w.going.sound vs texts fits tell none))
    part-due (wait_of k) fits tell none = refl
    part-due (call_of ps k a) fits tell none = refl

    reached-next : reached peers script way (w.front ++ next.part ∷ []) ≡ after
    reached-next =
        ap (after_all script way.first) (flat_map-append (part_entries peers) w.front (next.part ∷ []) ∙ ap (λ es. flat_map (part_entries peers) w.front ++ es) (append-nil (part_entries peers next.part)))
        ∙ all-after script way.first (flat_map (part_entries peers) w.front) (part_entries peers next.part)

    abbrev front_deeds : List Deed
    front_deeds = deeds_on script way.first (flat_map (part_entries peers) w.front)

    all-deeds : deeds_on script way.first (flat_map (part_entries peers) (w.front ++ next.part ∷ [])) ≡ front_deeds ++ deeds_on script at_front (part_entries peers next.part)
    all-deeds =
        ap (deeds_on script way.first) (flat_map-append (part_entries peers) w.front (next.part ∷ []) ∙ ap (λ es. flat_map (part_entries peers) w.front ++ es) (append-nil (part_entries peers next.part)))
        ∙ deeds-join script way.first (flat_map (part_entries peers) w.front) (part_entries peers next.part)

    pub next-right : (new : Run) → None ≡ part_place script peers at_front next.part texts → Makes script at_front (part_entries peers (due_part at_front.state next.part)) run new → Walking peers script way text n.behind.text.now (lines + n.lines) old new
    next-right new none at =
        let told = part-told peers (few peers script text way h) (apart peers script text way h) script (begun-short peers script text way h) next.part at_front texts w.going fit.0 first (sym none) in
        let due = part-due next.part fit.0 first (sym none) in
        let made : Makes script at_front (part_entries peers next.part) run new = subst (λ p. Makes script at_front (part_entries peers p) run new) due at in
        let count = w.count in
        let left : length (texts_from n.behind.text.now) ≡ length (flat_map part_lines behind) = tell-length (texts_from n.behind.text.now) (flat_map part_lines behind) (subst (Tell (texts_from n.behind.text.now)) next.begins (text-tells n.behind.text.now)) in
        record {
          front = w.front ++ next.part ∷ [];
          parts = w.parts ∙ (ap (λ ps. w.front ++ ps) next.parts ∙ sym (append_assoc w.front (next.part ∷ []) behind));
          at = subst (IsAt new) (sym reached-next) made.at;
          deeds = subst (GoesOn old.state new.state) (sym all-deeds) (goes-then old.state run.state new.state front_deeds (deeds_on script at_front (part_entries peers next.part)) w.deeds made.deeds);
          going = subst (Going peers script) (sym reached-next) told.1;
          fits = fit.1;
          begins = next.begins;
          place =
              place
              ∙ (ap (λ o. moved lines (or_else o (moved n.lines (step_place script peers after behind (texts_from n.behind.text.now))))) (sym none)
              ∙ (moved-moved lines n.lines (step_place script peers after behind (texts_from n.behind.text.now))
              ∙ ap (λ q. moved (lines + n.lines) (step_place script peers q behind (texts_from n.behind.text.now))) (sym reached-next)));
          behind = next.rest ∙ w.behind;
          count = omega (arith, count, all-lines, left);
        }
