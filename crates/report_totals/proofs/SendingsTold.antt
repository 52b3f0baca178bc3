-- What the lines of a journal say was sent over the lane to a peer is what its entries send there, but for looks that showed no buffer.
use Rattle.std.proofs.Common.{◌≡◌, ℕ, zero, suc, Bool, true, false, cond, List, [], ◌∷◌, ◌++◌, map, filter, refl, sym, ap, ap₂, ◌∙◌, append-nil, eqb-true}
use Rattle.std.specs.Prelude.{◌==◌}
use Rattle.std.specs.List.{flat_map}
use Rattle.std.proofs.lemmas.List.{map-append}
use Rattle.std.proofs.lemmas.List.Concat.{flat_map-append}
use Rattle.board_model.specs.declared.scenario.Scenario.{Scenario}
use Rattle.board_model.specs.LinkedBoard.{IsLinkedBoard}
use Rattle.board_model.specs.Journal.{Taken, Visit, PlainAnswer, PlainEntry, turned, again, Line, back_line, put_line, see_line, looked, taken_line, visit_lines}
use Rattle.board_model.specs.Unjoined.{times, idle_turn, visit_in, peers_of}
use Rattle.board_model.specs.JournalParts.{Part, idles, spins, tries, turn_of, wait_of, call_of, part_lines, part_entries}
use Rattle.board_model.specs.Traffic.{visits_to}
use Rattle.ring_numbers.specs.SenderNumbers.{Numbers, Sending, puts, comes_back, after_sending, after_all}
use Rattle.ring_numbers.specs.BoardRings.{put_of, sent_at, sent_by, sent_to}
use Rattle.report_text.specs.JournalRead.{JournalText, lines_of_texts}
use Rattle.report_text.specs.LaneLines.{lane_lines, lane_of}
use Rattle.report_text.specs.LinkPass.{journal_told}
use Rattle.report_text.specs.StepPass.{parts_of}
use Rattle.report_text.proofs.EntriesTold.{unjoined-is}
use Rattle.report_text.proofs.LanesTold.{lanes, none-idle}
use Rattle.report_text.proofs.RunsTold.{IsRight, told-parts}
use Rattle.report_totals.specs.SenderLanes.{sent_on}

-- ---- without the looks that showed none

abbrev pub busy_in : Sending → List Sending
busy_in (puts bytes) = puts bytes ∷ []
busy_in (comes_back count) = cond (count == 0) [] (comes_back count ∷ [])

abbrev pub busy : List Sending → List Sending
busy es = flat_map busy_in es

none-back : (n : Numbers) → after_sending n (comes_back 0) ≡ n
none-back n = ap (λ (free : List ℕ). record n { free = free }) (append-nil n.free)

pub after-busy : (n : Numbers) (es : List Sending) → after_all n (busy es) ≡ after_all n es
after-busy n [] = refl
after-busy n (puts bytes ∷ es) = after-busy (after_sending n (puts bytes)) es
after-busy n (comes_back count ∷ es) = go (count == 0) refl (λ m. after-busy m es)
  where
    go : (b : Bool) → (count == 0) ≡ b → ((m : Numbers) → after_all m (busy es) ≡ after_all m es) → after_all n (cond b [] (comes_back count ∷ []) ++ busy es) ≡ after_all (after_sending n (comes_back count)) es
    go true is rest = rest n ∙ ap (λ m. after_all m es) (sym (ap (λ k. after_sending n (comes_back k)) (eqb-true count 0 is) ∙ none-back n))
    go false is rest = rest (after_sending n (comes_back count))

busy-append : (xs ys : List Sending) → busy (xs ++ ys) ≡ busy xs ++ busy ys
busy-append xs ys = flat_map-append busy_in xs ys

busy-puts : (fs : List (List ℕ)) → busy (map put_of fs) ≡ map put_of fs
busy-puts [] = refl
busy-puts (f ∷ fs) = ap (λ es. put_of f ∷ es) (busy-puts fs)

module _ (p : ℕ) where
  abbrev busy_by : PlainEntry → List Sending
  busy_by e = busy (sent_by p e)

  busy-all : (es : List PlainEntry) → busy (sent_to p es) ≡ flat_map busy_by es
  busy-all [] = refl
  busy-all (e ∷ es) = busy-append (sent_by p e) (sent_to p es) ∙ ap (λ xs. busy_by e ++ xs) (busy-all es)

  -- ---- a visit

  said-append : (xs ys : List Line) → flat_map (sent_on p) (lanes (xs ++ ys)) ≡ flat_map (sent_on p) (lanes xs) ++ flat_map (sent_on p) (lanes ys)
  said-append xs ys = ap (flat_map (sent_on p)) (map-append lane_of xs ys) ∙ flat_map-append (sent_on p) (lanes xs) (lanes ys)

  module _ (v : Visit) where
    backs-said : flat_map (sent_on p) (lanes (looked (back_line v.peer) v.back)) ≡ cond (v.peer == p) (busy_in (comes_back v.back)) []
    backs-said = go (v.back == 0)
      where
        none : (c : Bool) → ◌≡◌ {A = List Sending} [] (cond c [] [])
        none true = refl
        none false = refl

        one : (c : Bool) → cond c (comes_back v.back ∷ []) [] ++ [] ≡ cond c (comes_back v.back ∷ []) []
        one true = refl
        one false = refl

        go : (b : Bool) → flat_map (sent_on p) (lanes (cond b [] (back_line v.peer v.back ∷ []))) ≡ cond (v.peer == p) (cond b [] (comes_back v.back ∷ [])) []
        go true = none (v.peer == p)
        go false = one (v.peer == p)

    sees-said : flat_map (sent_on p) (lanes (looked (see_line v.peer) v.see)) ≡ []
    sees-said = go (v.see == 0)
      where
        go : (b : Bool) → flat_map (sent_on p) (lanes (cond b [] (see_line v.peer v.see ∷ []))) ≡ []
        go true = refl
        go false = refl

    puts-said : (b : Bool) → (v.peer == p) ≡ b → (fs : List (List ℕ)) → flat_map (sent_on p) (lanes (map (put_line v.peer) fs)) ≡ cond b (map put_of fs) []
    puts-said true is [] = refl
    puts-said false is [] = refl
    puts-said true is (f ∷ fs) = ap₂ (λ (xs ys : List Sending). xs ++ ys) (ap (λ b. cond b (put_of f ∷ []) []) is) (puts-said true is fs)
    puts-said false is (f ∷ fs) = ap₂ (λ (xs ys : List Sending). xs ++ ys) (ap (λ b. cond b (put_of f ∷ []) []) is) (puts-said false is fs)

    takes-said : (ts : List Taken) → flat_map (sent_on p) (lanes (map (taken_line v.peer) ts)) ≡ []
    takes-said [] = refl
    takes-said (t ∷ ts) = takes-said ts

    visit-said : flat_map (sent_on p) (lanes (visit_lines v)) ≡ cond (v.peer == p) (busy (sent_at v)) []
    visit-said =
        let backs : List Line = looked (back_line v.peer) v.back in
        let owed : List Line = map (put_line v.peer) v.owed in
        let sees : List Line = looked (see_line v.peer) v.see in
        let taken : List Line = map (taken_line v.peer) v.takes in
        said-append backs (owed ++ (sees ++ taken))
        ∙ ap₂ (λ (xs ys : List Sending). xs ++ ys) backs-said (said-append owed (sees ++ taken) ∙ ap₂ (λ (xs ys : List Sending). xs ++ ys) (puts-said (v.peer == p) refl v.owed) (said-append sees taken ∙ ap₂ (λ (xs ys : List Sending). xs ++ ys) sees-said (takes-said v.takes)))
        ∙ go (v.peer == p)
      where
        go : (b : Bool) → cond b (busy_in (comes_back v.back)) [] ++ (cond b (map put_of v.owed) [] ++ []) ≡ cond b (busy (sent_at v)) []
        go true = ap (λ (xs : List Sending). busy_in (comes_back v.back) ++ xs) (append-nil (map put_of v.owed) ∙ sym (busy-puts v.owed))
        go false = refl

  -- ---- a turn

  turn-said : (vs : List Visit) → flat_map (sent_on p) (lanes (flat_map visit_lines vs)) ≡ busy_by (turned vs)
  turn-said [] = refl
  turn-said (v ∷ vs) =
      said-append (visit_lines v) (flat_map visit_lines vs)
      ∙ ap₂ (λ (xs ys : List Sending). xs ++ ys) (visit-said v) (turn-said vs)
      ∙ go (v.peer == p)
    where
      go : (b : Bool) → cond b (busy (sent_at v)) [] ++ busy (flat_map sent_at (visits_to p vs)) ≡ busy (flat_map sent_at (cond b (v ∷ visits_to p vs) (visits_to p vs)))
      go true = sym (busy-append (sent_at v) (flat_map sent_at (visits_to p vs)))
      go false = refl

  idles-none : (qs : List ℕ) → busy (flat_map sent_at (map (visit_in []) qs)) ≡ []
  idles-none [] = refl
  idles-none (q ∷ qs) = idles-none qs

  idle-none : (qs : List ℕ) → busy_by (idle_turn qs) ≡ []
  idle-none qs = ap (λ vs. busy (flat_map sent_at vs)) (none-idle p qs) ∙ idles-none (filter (λ q. q == p) qs)

  -- ---- parts

  times-none : (xs : List PlainEntry) (n : ℕ) → flat_map busy_by xs ≡ [] → [] ≡ flat_map busy_by (times n xs)
  times-none xs zero none = refl
  times-none xs (suc n) none = sym (flat_map-append busy_by xs (times n xs) ∙ ap₂ (λ (us vs : List Sending). us ++ vs) none (sym (times-none xs n none)))

  call-said : (peers : List ℕ) (ps : List (ℕ × List ℕ)) (k : ℕ) (a : PlainAnswer) → flat_map (sent_on p) (lanes (part_lines (call_of ps k a))) ≡ flat_map busy_by (part_entries peers (call_of ps k a))
  call-said peers [] k a = refl
  call-said peers (q ∷ ps) k a = ap₂ (λ (us vs : List Sending). us ++ vs) (go (q.0 == p)) (call-said peers ps k a)
    where
      go : (b : Bool) → cond b (put_of q.1 ∷ []) [] ≡ busy (cond b (put_of q.1 ∷ []) [])
      go true = refl
      go false = refl

  part-said : (peers : List ℕ) (x : Part) → flat_map (sent_on p) (lanes (part_lines x)) ≡ flat_map busy_by (part_entries peers x)
  part-said peers (idles n) = times-none (idle_turn peers ∷ []) n (ap (λ (us : List Sending). us ++ []) (idle-none peers))
  part-said peers (spins n w) = times-none (idle_turn peers ∷ again w ∷ []) n (ap (λ (us : List Sending). us ++ []) (idle-none peers))
  part-said peers (tries w) = refl
  part-said peers (turn_of vs) = turn-said vs ∙ sym (append-nil (busy_by (turned vs)))
  part-said peers (wait_of k) = refl
  part-said peers (call_of ps k a) = call-said peers ps k a

  parts-said : (peers : List ℕ) (xs : List Part) → flat_map (sent_on p) (lanes (flat_map part_lines xs)) ≡ flat_map busy_by (flat_map (part_entries peers) xs)
  parts-said peers [] = refl
  parts-said peers (x ∷ xs) =
      said-append (part_lines x) (flat_map part_lines xs)
      ∙ ap₂ (λ (us vs : List Sending). us ++ vs) (part-said peers x) (parts-said peers xs)
      ∙ sym (flat_map-append busy_by (part_entries peers x) (flat_map (part_entries peers) xs))

-- ---- a journal in which the first pass finds each line at its place

module _ (s : Scenario) (board : IsLinkedBoard s) (j : JournalText) (right : IsRight s board j) (p : ℕ) where
  pub sendings-told : flat_map (sent_on p) (lane_lines j) ≡ busy (sent_to p (journal_told s j).entries)
  sendings-told =
      ap (λ ls. flat_map (sent_on p) (lanes ls)) (told-parts s board j right).lines
      ∙ parts-said p (peers_of s j.line) (parts_of s j)
      ∙ sym (busy-all p (flat_map (part_entries (peers_of s j.line)) (parts_of s j)))
      ∙ sym (ap (λ es. busy (sent_to p es)) (unjoined-is s j.line (lines_of_texts j.texts)))

  -- the walk over its lines is that over its entries
  pub after-told : (n : Numbers) → after_all n (flat_map (sent_on p) (lane_lines j)) ≡ after_all n (sent_to p (journal_told s j).entries)
  after-told n = ap (after_all n) sendings-told ∙ after-busy n (sent_to p (journal_told s j).entries)
