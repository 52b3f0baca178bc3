-- The fourth pass asks for the numbers of the journals with the answers that are due.
use Rattle.std.proofs.Common.{◌≡◌, ℕ, zero, suc, ◌+◌, ◌-◌, List, [], ◌∷◌, ◌++◌, length, map, filter, drop, sum, cond, Option, Some, None, option_map, refl, sym, ap, ap₂, subst, ◌∙◌, arith}
use Rattle.std.specs.Prelude.{find, ◌==◌}
use Rattle.std.specs.List.{AllByRecursion, flat_map}
use Rattle.board_model.specs.declared.scenario.CallLine.{CallLine}
use Rattle.board_model.specs.declared.scenario.LinkLine.{LinkLine}
use Rattle.board_model.specs.declared.scenario.Scenario.{Scenario}
use Rattle.board_model.specs.Scenario.{script, Lane, lanes}
use Rattle.board_model.specs.LinkedBoard.{IsLinkedBoard}
use Rattle.board_model.specs.Parts.{readings}
use Rattle.board_model.specs.State.{DomainState, free_to, queued_from, lent_from}
use Rattle.board_model.specs.Grammar.{spaced}
use Rattle.board_model.specs.Report.{answer_words, channel_text, messages_text, places_text, ending}
use Rattle.board_model.specs.Journal.{PlainAnswer, PlainEntry, again, Line, idle_line, again_line, spin_line, turn_line, back_line, put_line, see_line, take_line, wait_line, call_line}
use Rattle.mc_base.specs.declared.refusal.Refusal.{Refusal}
use Rattle.board_model.specs.Unjoined.{times, idle_turn, peers_of}
use Rattle.board_model.specs.JournalParts.{Part, idles, spins, tries, turn_of, wait_of, call_of, part_lines, part_entries}
use Rattle.board_model.specs.Deeds.{Deed, calls, after_deed, along}
use Rattle.board_model.specs.DomainCall.{DomainCall}
use Rattle.board_model.specs.JournalDeeds.{deeds_of, opened, left_in}
use Rattle.board_model.specs.Run.{start}
use Rattle.board_model.specs.Traffic.{put_to, taken_from, back_looks}
use Rattle.board_model.specs.Board.{DomainJournal, journal_in, journal_of}
use Rattle.board_model.specs.Returns.{names_given}
use Rattle.board_model.specs.Takings.{is_message_taking, taken_message, completed_by, takings_by, taken_in}
use Rattle.board_model.specs.Drops.{dropped_by, dropped_in}
use Rattle.board_model.specs.Channels as channels
use Rattle.board_model.specs.Messages as messages
use Rattle.board_model.specs.Totals.{numbers_to, item_totals, totals_of_channel, totals_of_owner, totals}
use Rattle.board_model.specs.Places.{in_last_state, at_end, places_of}
use Rattle.board_model.proofs.MessageAlls.{all-append, all-found, all-parts}
use Rattle.ring_numbers.specs.BoardRings.{image_of_queue, places_by, places_of as places_to, ring_left, sent_to}
use Rattle.ring_numbers.specs.RingLists.{image_left}
use Rattle.ring_numbers.specs.RingTexts.{ring_text}
use Rattle.ring_numbers.specs.SenderNumbers.{after_all, at_start}
use Rattle.std.specs.Prelude.{decimal}
use Rattle.mc_journal.specs.EntryText.{FitsAnswer}
use Rattle.mc_journal.specs.Readers.{count_in, answer_in}
use Rattle.mc_journal.specs.LineForms.{line_in}
use Rattle.mc_journal.proofs.LinesRead.{line-is, call_spaced}
use Rattle.mc_journal.proofs.PartsRead.{decimal-alone}
use Rattle.mc_journal.proofs.ResultsRead.{count-read}
use Rattle.report_text.specs.JournalRead.{JournalText, lines_of_texts}
use Rattle.report_text.specs.StepPass.{parts_of, wrong_step}
use Rattle.report_text.specs.LinkPass.{journal_told}
use Rattle.report_text.specs.RingPass.{ring_texts}
use Rattle.report_text.specs.TotalPass.{number_texts}
use Rattle.report_text.specs.RightRuns.{journal_due}
use Rattle.report_text.proofs.EntryLines.{line-fits}
use Rattle.report_text.proofs.LinesTold.{Tell, pair-told}
use Rattle.report_text.proofs.StepsDue.{Due}
use Rattle.report_text.proofs.CallsDue.{put_lines}
use Rattle.report_text.proofs.EntriesTold.{unjoined-is}
use Rattle.report_text.proofs.RunsTold.{IsRight, told-parts, told-steps, after-answers}
use Rattle.report_text.proofs.BoardsTold.{found-mapped, put-answers, sent-answers, takes-answers, backs-answers, given-are}
use Rattle.report_text.proofs.DeedsTold.{Alike, channel-accepted, message-accepted, receive-answered, close-lost, delete-dropped}
use Rattle.report_text.proofs.NumbersTold.{IsRead, deeds-same}

-- ---- each answer is the one that its text is read as

abbrev IsReadLine : Line → Type 0
IsReadLine (call_line k b) = (answer_in (spaced (answer_words b)) ≡ Some b) × FitsAnswer b
IsReadLine other = Unit {0}

same-answer : (k : ℕ) (a b : PlainAnswer) → call_line k a ≡ call_line k b → a ≡ b
same-answer k a b e = cc

line-read : (x : List ℕ) (l : Line) → line_in x ≡ Some l → IsReadLine l
line-read x (call_line k b) e =
    let fits = line-fits x (call_line k b) e in
    let small = fits.0 in
    let t = pair-told count_in answer_in call_line (decimal k) (spaced (answer_words b)) k (call_line k b) (decimal-alone k (omega (arith, small))) (count-read k fits.0) (ap line_in (sym (call_spaced k b) ∙ line-is x (call_line k b) e) ∙ e) in
    (t.1 ∙ ap Some (same-answer k t.0 b t.2), fits.1)
line-read x (idle_line n) e = tt
line-read x (again_line w) e = tt
line-read x (spin_line n w) e = tt
line-read x turn_line e = tt
line-read x (back_line p n) e = tt
line-read x (put_line p f) e = tt
line-read x (see_line p n) e = tt
line-read x (take_line p f w) e = tt
line-read x (wait_line k) e = tt

lines-read : (ts : List (List ℕ)) (ls : List Line) → Tell ts ls → AllByRecursion IsReadLine ls
lines-read ts [] tell = tt
lines-read [] (l ∷ ls) tell = absurd tell
lines-read (t ∷ ts) (l ∷ ls) tell = (line-read tell.0.0 l tell.0.2, lines-read ts ls tell.1)

idles-read : (qs : List ℕ) (n : ℕ) → AllByRecursion IsRead (times n (idle_turn qs ∷ []))
idles-read qs zero = tt
idles-read qs (suc n) = (tt, idles-read qs n)

spins-read : (qs : List ℕ) (w : Refusal) (n : ℕ) → AllByRecursion IsRead (times n (idle_turn qs ∷ again w ∷ []))
spins-read qs w zero = tt
spins-read qs w (suc n) = (tt, (tt, spins-read qs w n))

part-read : (qs : List ℕ) (p : Part) → AllByRecursion IsReadLine (part_lines p) → AllByRecursion IsRead (part_entries qs p)
part-read qs (idles n) all = idles-read qs n
part-read qs (spins n w) all = spins-read qs w n
part-read qs (tries w) all = (tt, tt)
part-read qs (turn_of vs) all = (tt, tt)
part-read qs (wait_of k) all = (tt, tt)
part-read qs (call_of ps k a) all = go ps all
  where
    go : (ps : List (ℕ × List ℕ)) → AllByRecursion IsReadLine (put_lines ps ++ call_line k a ∷ []) → AllByRecursion IsRead (part_entries qs (call_of ps k a))
    go [] all = (all.0, tt)
    go (p ∷ ps) all = (tt, go ps all.1)

parts-read : (qs : List ℕ) (ps : List Part) → AllByRecursion IsReadLine (flat_map part_lines ps) → AllByRecursion IsRead (flat_map (part_entries qs) ps)
parts-read qs [] all = tt
parts-read qs (p ∷ ps) all = let both = all-parts IsReadLine (part_lines p) (flat_map part_lines ps) all in all-append IsRead (part_entries qs p) (flat_map (part_entries qs) ps) (part-read qs p both.0) (parts-read qs ps both.1)

-- ---- a journal

module _ (s : Scenario) (board : IsLinkedBoard s) where
  -- a journal in which the first two passes find nothing wrong
  pub record IsDue (j : JournalText) : Type 0 where
    pub right : IsRight s board j
    pub steps : wrong_step s j ≡ None

  module _ {A : Type 0} (f : DomainState → Deed → List A) (f-same : (t : DomainState) (node : ℕ) (call : DomainCall) (a b : PlainAnswer) → Alike call a b → f t (calls node call a) ≡ f t (calls node call b)) (j : JournalText) (due : IsDue j) where
    both-same : (along f (opened s (journal_told s j)) (deeds_of s (journal_due s j)) ≡ along f (opened s (journal_told s j)) (deeds_of s (journal_told s j))) × (left_in s (journal_due s j) ≡ left_in s (journal_told s j))
    both-same =
        let lines : List CallLine = script s j.line.domain in
        let es : List PlainEntry = (journal_told s j).entries in
        let same : es ≡ flat_map (part_entries (peers_of s j.line)) (parts_of s j) = unjoined-is s j.line (lines_of_texts j.texts) in
        let read : AllByRecursion IsRead es = subst (AllByRecursion IsRead) (sym same) (parts-read (peers_of s j.line) (parts_of s j) (subst (AllByRecursion IsReadLine) (told-parts s board j due.right).lines (lines-read j.texts (lines_of_texts j.texts) due.right.tells))) in
        deeds-same f f-same lines es [] [] (start s j.line) (opened s (journal_told s j)) (λ p. refl) (subst (Due lines (start s j.line)) (sym same) (told-steps s board j due.right due.steps).0) read

  left-same : (j : JournalText) → IsDue j → left_in s (journal_due s j) ≡ left_in s (journal_told s j)
  left-same j due = (both-same (messages.accepted_by 0) (message-accepted 0) j due).1

  takings-same : (t : DomainState) (node : ℕ) (call : DomainCall) (a b : PlainAnswer) → Alike call a b → takings_by t (calls node call a) ≡ takings_by t (calls node call b)
  takings-same t node call a b alike = ap (λ xs. xs ++ flat_map (completed_by t) (after_deed t (calls node call a)).requests) (receive-answered t node call a b alike)

  -- ---- all journals

  flat-same : {A : Type 0} (g : DomainJournal → List A) → ((j : JournalText) → IsDue j → g (journal_due s j) ≡ g (journal_told s j)) → (js : List JournalText) → AllByRecursion IsDue js → flat_map g (map (journal_due s) js) ≡ flat_map g (map (journal_told s) js)
  flat-same g same [] all = refl
  flat-same g same (j ∷ js) all = ap₂ (λ us vs. us ++ vs) (same j all.0) (flat-same g same js all.1)

  all-right : (js : List JournalText) → AllByRecursion IsDue js → AllByRecursion (IsRight s board) js
  all-right [] all = tt
  all-right (j ∷ js) all = (all.0.right, all-right js all.1)

  module _ (js : List JournalText) (all : AllByRecursion IsDue js) where
    abbrev dues : List DomainJournal
    dues = map (journal_due s) js

    abbrev tolds : List DomainJournal
    tolds = map (journal_told s) js

    -- what is read of the journal of a domain
    of-domain : {A : Type 0} (g : List PlainEntry → A) → ((j : JournalText) → g (journal_due s j).entries ≡ g (journal_told s j).entries) → (d : ℕ) → g (journal_of d dues) ≡ g (journal_of d tolds)
    of-domain g same d =
        ap (λ o. g (journal_in o)) (found-mapped (journal_due s) (λ j. refl) d js)
        ∙ go (find (λ j. j.line.domain == d) js)
        ∙ sym (ap (λ o. g (journal_in o)) (found-mapped (journal_told s) (λ j. refl) d js))
      where
        go : (o : Option JournalText) → g (journal_in (option_map (journal_due s) o)) ≡ g (journal_in (option_map (journal_told s) o))
        go None = refl
        go (Some j) = same j

    put-same : (d p : ℕ) → put_to p (journal_of d dues) ≡ put_to p (journal_of d tolds)
    put-same d p = of-domain (put_to p) (λ j. put-answers (script s j.line.domain) p (start s j.line) (journal_told s j).entries) d

    taken-same : (d p : ℕ) → taken_from p (journal_of d dues) ≡ taken_from p (journal_of d tolds)
    taken-same d p = of-domain (taken_from p) (λ j. ap (map (λ t. t.frame)) (takes-answers (script s j.line.domain) p (start s j.line) (journal_told s j).entries)) d

    backs-same : (d p : ℕ) → back_looks p (journal_of d dues) ≡ back_looks p (journal_of d tolds)
    backs-same d p = of-domain (back_looks p) (λ j. backs-answers (script s j.line.domain) p (start s j.line) (journal_told s j).entries) d

    ring-same : (l : Lane) → messages.ring_says dues l ≡ messages.ring_says tolds l
    ring-same l = ap₂ (λ (xs ys : List (List ℕ)). drop (length xs) (readings None ys)) (taken-same l.receiver l.sender) (put-same l.sender l.receiver)

    -- ---- channels

    item_totals-same : (owner number : ℕ) → item_totals s dues owner number ≡ item_totals s tolds owner number
    item_totals-same owner number =
        let accepted = flat-same (channels.accepted_in s owner number) (λ j due. ap (λ xs. cond (j.line.domain == owner) xs []) (both-same (channels.accepted_by number) (channel-accepted number) j due).0) js all in
        let taken = flat-same (channels.taken_on s owner number) (λ j due. ap (λ ts. channels.contents_of owner number (map (λ t. t.item) ts)) (both-same takings_by takings-same j due).0) js all in
        let lost = flat-same (channels.lost_in s owner number) (λ j due. (both-same (channels.lost_by owner number) (close-lost owner number) j due).0) js all in
        let queued = flat-same (channels.queued_in s owner number) (λ j due. ap (λ st. flat_map (λ e. channels.contents_of owner number e.queue) st.endpoints) (left-same j due)) js all in
        let ring : (l : Lane) → channels.data_on dues owner number l ≡ channels.data_on tolds owner number l = λ l. ap (λ rs. cond (l.sender == owner) (flat_map (channels.data_said number) rs) []) (ring-same l) in
        λ i. record { accepted = length (accepted i); taken = length (taken i); dropped = length (lost i); queued = length (queued i); ring = length (flat_map (λ l. ring l i) (lanes s)) }

    owners-same : (ks : List JournalText) → AllByRecursion IsDue ks → flat_map (totals_of_owner s dues) (map (journal_due s) ks) ≡ flat_map (totals_of_owner s tolds) (map (journal_told s) ks)
    owners-same [] each = refl
    owners-same (k ∷ ks) each =
        let one : (n : ℕ) → totals_of_channel s dues k.line.domain n ≡ totals_of_channel s tolds k.line.domain n = λ n. ap (λ t. record { owner = k.line.domain; number = n; totals = t }) (item_totals-same k.line.domain n) in
        ap₂ (λ us vs. us ++ vs) ((λ i. map (λ n. one n i) (numbers_to (left_in s (journal_due s k)).channels_given)) ∙ ap (λ st. map (totals_of_channel s tolds k.line.domain) (numbers_to st.channels_given)) (left-same k each.0)) (owners-same ks each.1)

    -- ---- messages, and lanes

    totals-same : totals s dues ≡ totals s tolds
    totals-same =
        let accepted = flat-same (messages.accepted_in s) (λ j due. (both-same (messages.accepted_by j.line.domain) (message-accepted j.line.domain) j due).0) js all in
        let taken = flat-same (taken_in s) (λ j due. ap (λ ts. map (taken_message j.line.domain) (filter is_message_taking ts)) (both-same takings_by takings-same j due).0) js all in
        let lost = flat-same (dropped_in s) (λ j due. (both-same (dropped_by j.line.domain) (delete-dropped j.line.domain) j due).0) js all in
        let queued = flat-same (messages.queued_in s) (λ j due. ap (λ st. flat_map (messages.queued_at j.line.domain) st.endpoints) (left-same j due)) js all in
        let ring : (l : Lane) → messages.ring_messages dues l ≡ messages.ring_messages tolds l = λ l. ap (messages.messages_in l.sender l.receiver) (ring-same l) in
        λ i. record { accepted = length (accepted i); taken = length (taken i); dropped = length (lost i); queued = length (queued i); ring = length (flat_map (λ l. ring l i) (lanes s)) }

    end-same : (d : ℕ) (f : DomainState → ℕ) → at_end s dues d f ≡ at_end s tolds d f
    end-same d f =
        ap (in_last_state s f) (found-mapped (journal_due s) (λ j. refl) d js)
        ∙ go (find (λ j. j.line.domain == d) js)
        ∙ sym (ap (in_last_state s f) (found-mapped (journal_told s) (λ j. refl) d js))
      where
        go : (o : Option JournalText) → in_last_state s f (option_map (journal_due s) o) ≡ in_last_state s f (option_map (journal_told s) o)
        go None = refl
        go (Some j) = ap (λ r. f r.state) (after-answers s board (script s j.line.domain) (start s j.line) (journal_told s j).entries)

    places-same : (l : Lane) → places_of s dues l ≡ places_of s tolds l
    places-same l =
        let free = end-same l.sender (λ st. free_to st l.receiver) in
        let given = sym (given-are s board js (all-right js all) l.receiver l.sender) in
        let backs = backs-same l.sender l.receiver in
        let put = put-same l.sender l.receiver in
        let taken = taken-same l.receiver l.sender in
        let queue = end-same l.receiver (queued_from l.sender) in
        let lent = end-same l.receiver (lent_from l.sender) in
        λ i. record { from = l.sender; to = l.receiver; free = free i + (given i - sum (backs i)); ring = length (put i) - length (taken i); queue = queue i; lent = lent i }

    -- ---- the images of rings

    given-same : (d p : ℕ) → places_to s dues d p ≡ places_to s tolds d p
    given-same d p =
        ap (λ o. places_by s o p) (found-mapped (journal_due s) (λ j. refl) d js)
        ∙ go (find (λ j. j.line.domain == d) js) refl
        ∙ sym (ap (λ o. places_by s o p) (found-mapped (journal_told s) (λ j. refl) d js))
      where
        go : (o : Option JournalText) → find (λ j. j.line.domain == d) js ≡ o → places_by s (option_map (journal_due s) o) p ≡ places_by s (option_map (journal_told s) o) p
        go None found = refl
        go (Some j) found = (both-same (names_given p) (λ t node call a b alike. refl) j (all-found IsDue (λ j. j.line.domain == d) js j all found)).0

    sent-same : (d p : ℕ) → sent_to p (journal_of d dues) ≡ sent_to p (journal_of d tolds)
    sent-same d p = of-domain (sent_to p) (λ j. sent-answers (script s j.line.domain) p (start s j.line) (journal_told s j).entries) d

    left-ring-same : (queue from to size : ℕ) → ring_left s dues queue from to size ≡ ring_left s tolds queue from to size
    left-ring-same queue from to size = ap₂ (λ places sent. image_left size queue (after_all (at_start size places) sent).used places) (given-same to from) (sent-same from to)

    image-same : (l : LinkLine) (queue : ℕ) → image_of_queue s dues l queue ≡ image_of_queue s tolds l queue
    image-same l queue = ap₂ (λ (device driver : List ℕ). cond (queue == 0) device driver) (left-ring-same 0 l.device l.driver l.size) (left-ring-same 1 l.driver l.device l.size)

    pub rings-same : ring_texts s dues ≡ ring_texts s tolds
    rings-same =
        let image : (l : LinkLine) (queue : ℕ) → image_of_queue s dues l queue ≡ image_of_queue s tolds l queue = image-same in
        λ i. flat_map (λ l. ring_text l 0 (image l 0 i) ∷ ring_text l 1 (image l 1 i) ∷ []) s.links

    -- ---- the lines of numbers, with these of rings

    pub numbers-same : (rings : List (List ℕ)) → number_texts s dues rings ≡ number_texts s tolds rings
    numbers-same rings =
        ap₂ (λ us vs. us ++ vs) (ap (map channel_text) (owners-same js all))
        (ap₂ (λ m ls. messages_text m ∷ (map places_text ls ++ (rings ++ ending ∷ []))) totals-same (λ i. map (λ l. places-same l i) (lanes s)))
