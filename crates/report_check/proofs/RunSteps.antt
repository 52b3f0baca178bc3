-- Where the parts of a journal lead a run, and that it is still shown.
use Rattle.std.proofs.Common.{◌≡◌, ℕ, zero, suc, ◌+◌, ◌-◌, ◌<◌, ◌≤◌, Bool, true, false, cond, List, [], ◌∷◌, ◌++◌, length, map, Option, Some, None, option_map, refl, sym, ap, ap₂, subst, ◌∙◌, arith, append_assoc}
use Rattle.std.specs.Prelude.{is_some, ◌==◌, ◌||◌}
use Rattle.mc_base.specs.declared.refusal.Refusal.{Refusal}
use Rattle.board_model.specs.declared.scenario.CallLine.{CallLine}
use Rattle.board_model.specs.Journal.{PlainAnswer, PlainEntry, Visit, turned, put, again, called, visit_lines}
use Rattle.board_model.specs.Deeds.{after_deeds}
use Rattle.board_model.specs.JournalDeeds.{call_deeds}
use Rattle.board_model.specs.Labels.{labels_after}
use Rattle.report_replay.specs.HeldLabels.{HoldLabels}
use Rattle.board_model.specs.Step.{RunState, Waited, after, next_line, effect_of_line, labels_of_line, is_done_now}
use Rattle.board_model.specs.Run.{after_all}
use Rattle.board_model.specs.Turn.{after_turn}
use Rattle.board_model.specs.Unjoined.{times, idle_turn}
use Rattle.report_text.specs.StepPass.{idle_visits, before_last, due_by, due_call, due_visits, idle_place, spin_due, other_than}
use Rattle.report_text.specs.TextLines.{or_else}
use Rattle.std.specs.List.{flat_map}
use Rattle.report_check.specs.NamedStates.{GoesOn, deeds_by, deeds_on, plain, turn_deeds}
use Rattle.report_check.specs.declared.named_state.NamedState.{NamedState}
use Rattle.report_check.specs.declared.run.Run.{Run}
use Rattle.report_check.proofs.TurnSteps.{turn-made}
use Rattle.report_check.specs.declared.run.Waiting.{Waiting}
use Rattle.board_model.specs.State.{DomainState}
use Rattle.report_check.specs.Doing.{HasPeers}
use Rattle.report_check.specs.Meeting.{LinesLeft, place_after}
use Rattle.report_check.specs.Runs.{IsAt, capped, capped_run, capped_wait, waited_of, wait_more, turned_more, tried_more, turns_more, turns_made, tries_made, calls_more, is_done_at, script_of, seen}

-- ---- what turns and tries leave

abbrev other : Option (List (ℕ × List ℕ)) → Option Waited → ℕ → RunState → RunState
other ps w m r = record r { put_since_turn = ps; waited = w; calls_made = m }

done-by : (o : Option CallLine) (ps : Option (List (ℕ × List ℕ))) (w : Option Waited) (m : ℕ) (r : RunState) → is_done_now o (other ps w m r) ≡ is_done_now o r
done-by None ps w m r = refl
done-by (Some line) ps w m r = refl

labels-by : (o : Option CallLine) (ps : Option (List (ℕ × List ℕ))) (w : Option Waited) (m : ℕ) (r : RunState) → labels_of_line o (other ps w m r) ≡ labels_of_line o r
labels-by None ps w m r = refl
labels-by (Some line) ps w m r = refl

state-by : (o : Option CallLine) (ps : Option (List (ℕ × List ℕ))) (w : Option Waited) (m : ℕ) (r : RunState) → effect_of_line o (other ps w m r) ≡ effect_of_line o r
state-by None ps w m r = refl
state-by (Some line) ps w m r = refl

called-by : (script : List CallLine) (ps : Option (List (ℕ × List ℕ))) (w : Option Waited) (m : ℕ) (r : RunState) (k : ℕ) (a : PlainAnswer) → after script (other ps w m r) (called k a) ≡ after script r (called k a)
called-by script ps w m r k a = λ i. record {
  state = state-by (next_line script r) ps w m r i;
  lines_called = r.lines_called + 1;
  calls_made = 0;
  labels = labels-by (next_line script r) ps w m r i;
  put_since_turn = None;
  waited = None;
}

-- ---- counts

abbrev a_wait : ℕ → Bool → Waited
a_wait t b = record { turns = t; done_before = b }

capped-more : (m k n : ℕ) → capped m ≡ k → capped (m + n) ≡ capped (k + n)
capped-more m k n e = omega (arith, e)

wait-same : (done : Bool) (n : ℕ) (w : Waited) (v : Waiting) → capped_wait w ≡ waited_of v → capped_wait (turns_more done n w) ≡ waited_of (wait_more done n v)
wait-same done n w v e =
    let turns = capped-more w.turns v.turns n (ap (λ (x : Waited). x.turns) e) in
    let before = ap (λ (x : Waited). x.done_before || done) e in
    ap₂ (λ (t : ℕ) (b : Bool). a_wait t b) turns before

waits-same : (done : Bool) (n : ℕ) (w : Option Waited) (v : Option Waiting) → option_map capped_wait w ≡ option_map waited_of v → option_map capped_wait (option_map (turns_more done n) w) ≡ option_map waited_of (option_map (wait_more done n) v)
waits-same done n None None e = refl
waits-same done n None (Some v) e = absurd cc
waits-same done n (Some w) None e = absurd cc
waits-same done n (Some w) (Some v) e = let same : capped_wait w ≡ waited_of v = cc in ap Some (wait-same done n w v same)

-- ---- turns and tries of a run

pub tried-at : (n : ℕ) (run : Run) (r : RunState) → IsAt run r → IsAt (tried_more n run) (tries_made n r)
tried-at n run r at =
    let made = capped-more r.calls_made run.made n (ap (λ (x : RunState). x.calls_made) at.shows) in
    record { labels = at.labels; shows = λ i. record (at.shows i) { calls_made = made i; put_since_turn = None } }

pub turned-at : (done : Bool) (n : ℕ) (run : Run) (r : RunState) → IsAt run r → IsAt (turned_more done n run) (turns_made done n r)
turned-at done n run r at =
    let waits = waits-same done n r.waited run.waited (ap (λ (x : RunState). x.waited) at.shows) in
    record { labels = at.labels; shows = λ i. record (at.shows i) { put_since_turn = Some []; waited = waits i } }

pub more-at : (n : ℕ) (run : Run) (r : RunState) → IsAt run r → IsAt (record run { made = capped (run.made + n) }) (calls_more n r)
more-at n run r at =
    let made = capped-more r.calls_made run.made n (ap (λ (x : RunState). x.calls_made) at.shows) in
    record { labels = at.labels; shows = λ i. record (at.shows i) { calls_made = made i } }

-- ---- idle turns

twice : (b done : Bool) → ((b || done) || done) ≡ (b || done)
twice true done = refl
twice false true = refl
twice false false = refl

turns-then : (done : Bool) (n : ℕ) (w : Option Waited) → option_map (turns_more done n) (option_map (turns_more done 1) w) ≡ option_map (turns_more done (suc n)) w
turns-then done n None = refl
turns-then done n (Some w) =
    let turns : w.turns + 1 + n ≡ w.turns + suc n = omega arith in
    ap Some (ap₂ (λ (t : ℕ) (b : Bool). a_wait t b) turns (twice w.done_before done))

made-then : (done : Bool) (n : ℕ) (r : RunState) → turns_made done n (turns_made done 1 r) ≡ turns_made done (suc n) r
made-then done n r = ap (λ (w : Option Waited). record r { put_since_turn = Some []; waited = w }) (turns-then done n r.waited)

pub idle-once : (script : List CallLine) (peers : List ℕ) (r : RunState) → after_turn r.state (idle_visits peers) ≡ r.state → after script r (turned (idle_visits peers)) ≡ turns_made (is_done_at script r) 1 r
idle-once script peers r kept = ap (λ s. record (turns_made (is_done_at script r) 1 r) { state = s }) kept

pub idles-made : (script : List CallLine) (peers : List ℕ) (n : ℕ) (r : RunState) → after_turn r.state (idle_visits peers) ≡ r.state → after_all script r (times (suc n) (idle_turn peers ∷ [])) ≡ turns_made (is_done_at script r) (suc n) r
idles-made script peers zero r kept = idle-once script peers r kept
idles-made script peers (suc n) r kept =
    let one = turns_made (is_done_at script r) 1 r in
    ap (λ q. after_all script q (times (suc n) (idle_turn peers ∷ []))) (idle-once script peers r kept)
    ∙ (idles-made script peers n one kept
    ∙ (ap (λ (d : Bool). turns_made d (suc n) one) (done-by (next_line script r) (Some []) one.waited r.calls_made r) ∙ made-then (is_done_at script r) (suc n) r))

-- so many tries, each behind an idle turn
abbrev pub spun : Bool → ℕ → RunState → RunState
spun done n r = tries_made n (turns_made done n r)

spun-then : (done : Bool) (n : ℕ) (r : RunState) → spun done n (spun done 1 r) ≡ spun done (suc n) r
spun-then done n r =
    let made : r.calls_made + 1 + n ≡ r.calls_made + suc n = omega arith in
    ap₂ (λ (w : Option Waited) (m : ℕ). record r { put_since_turn = None; waited = w; calls_made = m }) (turns-then done n r.waited) made

pub spins-made : (script : List CallLine) (peers : List ℕ) (word : Refusal) (n : ℕ) (r : RunState) → after_turn r.state (idle_visits peers) ≡ r.state → after_all script r (times (suc n) (idle_turn peers ∷ again word ∷ [])) ≡ spun (is_done_at script r) (suc n) r
spins-made script peers word zero r kept = ap (λ q. after script q (again word)) (idle-once script peers r kept)
spins-made script peers word (suc n) r kept =
    let one = spun (is_done_at script r) 1 r in
    ap (λ q. after_all script (after script q (again word)) (times (suc n) (idle_turn peers ∷ again word ∷ []))) (idle-once script peers r kept)
    ∙ (spins-made script peers word n one kept
    ∙ (ap (λ (d : Bool). spun d (suc n) one) (done-by (next_line script r) None one.waited one.calls_made r) ∙ spun-then (is_done_at script r) (suc n) r))

pub last-made : (script : List CallLine) (peers : List ℕ) (n : ℕ) (r : RunState) → after_turn r.state (idle_visits peers) ≡ r.state → before_last script peers n r ≡ calls_more (n - 1) (turns_made (is_done_at script r) 1 r)
last-made script peers n r kept = ap (λ (q : RunState). record q { calls_made = r.calls_made + (n - 1) }) (idle-once script peers r kept)

-- ---- puts before a call

pub puts-called : (script : List CallLine) (ps : List (ℕ × List ℕ)) (r : RunState) (k : ℕ) (a : PlainAnswer) → after_all script r (map (λ (p : ℕ × List ℕ). put p.0 p.1) ps ++ called k a ∷ []) ≡ after script r (called k a)
puts-called script [] r k a = refl
puts-called script (p ∷ ps) r k a =
    let next = after script r (put p.0 p.1) in
    puts-called script ps next k a ∙ called-by script next.put_since_turn r.waited r.calls_made r k a

-- ---- the run is shown behind turns, tries and calls

abbrev pub done_seen : Run → RunState → Bool
done_seen run r = is_done_at (script_of run) (seen run r.labels)

done-same : (run : Run) (r : RunState) → IsAt run r → done_seen run r ≡ is_done_at (script_of run) r
done-same run r at = sym (ap (is_done_at (script_of run)) at.shows) ∙ done-by (next_line (script_of run) r) r.put_since_turn (capped_run r).waited (capped r.calls_made) r

pub turned-shown : (n : ℕ) (old new : Run) (r : RunState) → IsAt old r → new ≡ turned_more (done_seen old r) n old → IsAt new (turns_made (is_done_at (script_of old) r) n r)
turned-shown n old new r at e = subst (λ (d : Bool). IsAt new (turns_made d n r)) (done-same old r at) (subst (λ (x : Run). IsAt x (turns_made (done_seen old r) n r)) (sym e) (turned-at (done_seen old r) n old r at))

pub idles-shown : (peers : List ℕ) (n : ℕ) (old new : Run) (r : RunState) → 1 ≤ n → after_turn r.state (idle_visits peers) ≡ r.state → IsAt old r → new ≡ turned_more (done_seen old r) n old → IsAt new (after_all (script_of old) r (times n (idle_turn peers ∷ [])))
idles-shown peers zero old new r some kept at e = absurd (omega (arith, some))
idles-shown peers (suc n) old new r some kept at e = subst (IsAt new) (sym (idles-made (script_of old) peers n r kept)) (turned-shown (suc n) old new r at e)

spun-once : (done : Bool) (m : ℕ) (r : RunState) → tries_made 1 (turns_made done m (calls_more m (turns_made done 1 r))) ≡ spun done (suc m) r
spun-once done m r =
    let made : r.calls_made + m + 1 ≡ r.calls_made + suc m = omega arith in
    ap₂ (λ (w : Option Waited) (k : ℕ). record r { put_since_turn = None; waited = w; calls_made = k }) (turns-then done m r.waited) made

-- before the last of so many tries
pub last-shown : (n : ℕ) (old one : Run) (r : RunState) → IsAt old r → one ≡ turned_more (done_seen old r) 1 old → IsAt (record one { made = capped (one.made + n) }) (calls_more n (turns_made (is_done_at (script_of old) r) 1 r))
last-shown n old one r at e = more-at n one (turns_made (is_done_at (script_of old) r) 1 r) (turned-shown 1 old one r at e)

pub spins-shown : (peers : List ℕ) (word : Refusal) (n : ℕ) (old one last more new : Run) (r : RunState) → 1 ≤ n → after_turn r.state (idle_visits peers) ≡ r.state → IsAt old r → one ≡ turned_more (done_seen old r) 1 old → last ≡ record one { made = capped (one.made + (n - 1)) } → more ≡ turned_more (done_seen last r) (n - 1) last → new ≡ tried_more 1 more → IsAt new (after_all (script_of old) r (times n (idle_turn peers ∷ again word ∷ [])))
spins-shown peers word zero old one last more new r some kept at e1 e2 e3 e4 = absurd (omega (arith, some))
spins-shown peers word (suc m) old one last more new r some kept at e1 e2 e3 e4 =
    let done = is_done_at (script_of old) r in
    let less : suc m - 1 ≡ m = omega arith in
    let q = calls_more (suc m - 1) (turns_made done 1 r) in
    let at-last : IsAt last q = subst (λ (x : Run). IsAt x q) (sym e2) (last-shown (suc m - 1) old one r at e1) in
    let script : script_of last ≡ script_of old = ap script_of e2 ∙ ap script_of e1 in
    let at-more = turned-shown (suc m - 1) last more q at-last e3 in
    let at-new = tried-at 1 more (turns_made (is_done_at (script_of last) q) (suc m - 1) q) at-more in
    let same-done = ap (λ ls. is_done_at ls q) script ∙ done-by (next_line (script_of old) r) q.put_since_turn q.waited q.calls_made r in
    let same-script = ap (λ (d : Bool). tries_made 1 (turns_made d (suc m - 1) q)) same-done in
    let counted = ap (λ (k : ℕ). tries_made 1 (turns_made done k (calls_more k (turns_made done 1 r)))) less in
    subst (λ (x : Run). IsAt x (after_all (script_of old) r (times (suc m) (idle_turn peers ∷ again word ∷ [])))) (sym e4) (subst (IsAt (tried_more 1 more)) (same-script ∙ (counted ∙ (spun-once done m r ∙ sym (spins-made (script_of old) peers word m r kept)))) at-new)

pub called-shown : (old new : Run) (r : RunState) (line : CallLine) (k : ℕ) (a : PlainAnswer) → IsAt old r → next_line (script_of old) (seen old r.labels) ≡ Some line → HoldLabels new.labels (labels_after r.labels (plain old.state) line) → seen new (labels_after r.labels (plain old.state) line) ≡ after (script_of old) (seen old r.labels) (called k a) → IsAt new (after (script_of old) r (called k a))
called-shown old new r line k a at next held e =
    let script = script_of old in
    let capped-labels = labels-by (next_line script r) r.put_since_turn (capped_run r).waited (capped r.calls_made) r in
    let labels : labels_of_line (next_line script r) r ≡ labels_after r.labels (plain old.state) line = sym capped-labels ∙ (ap (λ (q : RunState). labels_of_line (next_line script q) q) at.shows ∙ ap (λ o. labels_of_line o (seen old r.labels)) next) in
    let same = called-by script r.put_since_turn (capped_run r).waited (capped r.calls_made) r k a in
    record {
      labels = subst (HoldLabels new.labels) (sym labels) held;
      shows = sym same ∙ (ap (λ (q : RunState). after script q (called k a)) at.shows ∙ (sym e ∙ ap (seen new) (sym labels)));
    }

-- the deeds of entries that are joined
pub deeds-join : (script : List CallLine) (r : RunState) (xs ys : List PlainEntry) → deeds_on script r (xs ++ ys) ≡ deeds_on script r xs ++ deeds_on script (after_all script r xs) ys
deeds-join script r [] ys = refl
deeds-join script r (x ∷ xs) ys =
    ap (λ ds. deeds_by script r x ++ ds) (deeds-join script (after script r x) xs ys)
    ∙ sym (append_assoc (deeds_by script r x) (deeds_on script (after script r x) xs) (deeds_on script (after_all script (after script r x) xs) ys))

-- the deed of the call is that of the run that is shown
pub deeds-by : (o : Option CallLine) (ps : Option (List (ℕ × List ℕ))) (w : Option Waited) (m : ℕ) (r : RunState) (a : PlainAnswer) → call_deeds o (other ps w m r) a ≡ call_deeds o r a
deeds-by None ps w m r a = refl
deeds-by (Some line) ps w m r a = refl

pub called-deeds : (old : Run) (r : RunState) (line : CallLine) (a : PlainAnswer) → IsAt old r → next_line (script_of old) (seen old r.labels) ≡ Some line → call_deeds (Some line) (seen old r.labels) a ≡ call_deeds (next_line (script_of old) r) r a
called-deeds old r line a at next =
    let script = script_of old in
    ap (λ o. call_deeds o (seen old r.labels) a) (sym next)
    ∙ (ap (λ (q : RunState). call_deeds (next_line script q) q a) (sym at.shows)
    ∙ deeds-by (next_line script r) r.put_since_turn (capped_run r).waited (capped r.calls_made) r a)

-- frames that are put before it are no deeds of their own
pub puts-deeds : (script : List CallLine) (ps : List (ℕ × List ℕ)) (r : RunState) (k : ℕ) (a : PlainAnswer) → deeds_on script r (map (λ (p : ℕ × List ℕ). put p.0 p.1) ps ++ called k a ∷ []) ≡ deeds_on script r (called k a ∷ [])
puts-deeds script [] r k a = refl
puts-deeds script (p ∷ ps) r k a =
    let next = after script r (put p.0 p.1) in
    puts-deeds script ps next k a ∙ ap (λ ds. ds ++ []) (deeds-by (next_line script r) next.put_since_turn r.waited r.calls_made r a)

-- a script that has ended has no call
pub none-called : {X : Type 0} (old : Run) (r : RunState) (texts : List (List ℕ)) → IsAt old r → None ≡ next_line (script_of old) (seen old r.labels) → 0 < length texts → other_than (due_call (script_of old) r) texts ≡ None → X
none-called old r [] at next some e = absurd (omega (arith, some))
none-called old r (t ∷ ts) at next some e =
    let none : next_line (script_of old) r ≡ None = ap (next_line (script_of old)) at.shows ∙ sym next in
    let no : Some 0 ≡ None = sym (ap (λ o. other_than (due_by o r) (t ∷ ts)) none) ∙ e in
    absurd cc

pub unfound : (o : Option ℕ) → false ≡ is_some o → o ≡ None
unfound None e = refl
unfound (Some n) e = absurd cc

pub state-seen : (run : Run) (r : RunState) → IsAt run r → plain run.state ≡ r.state
state-seen run r at = ap (λ (q : RunState). q.state) (sym at.shows)

-- ---- behind an idle turn, which leaves the run as it is but for the names of frames

pub none-seen : (peers : List ℕ) (run : Run) (r : RunState) → IsAt run r → (length (flat_map visit_lines (due_visits (plain run.state) (idle_visits peers))) == 0) ≡ true → (length (flat_map visit_lines (due_visits r.state (idle_visits peers))) == 0) ≡ true
none-seen peers run r at none = ap (λ s. length (flat_map visit_lines (due_visits s (idle_visits peers))) == 0) (sym (state-seen run r at)) ∙ none

-- the state is another, which is the same without names
pub state-at : (run : Run) (r : RunState) (z : NamedState) (t : DomainState) → plain z ≡ t → IsAt run r → IsAt (record run { state = z }) (record r { state = t })
state-at run r z t e at = record { labels = at.labels; shows = λ i. record (at.shows i) { state = sym e i } }

-- a run whose state went on by idle turns
module _ (peers : List ℕ) (old idle : Run) (r : RunState) (same : idle ≡ record old { state = idle.state }) (at : IsAt old r) (kept : after_turn r.state (idle_visits peers) ≡ r.state) (goes : GoesOn old.state idle.state (turn_deeds (idle_visits peers))) where
  pub idle-at : IsAt idle r
  idle-at =
      let plainly : plain idle.state ≡ r.state = goes.plain ∙ (turn-made (plain old.state) (idle_visits peers) ∙ (ap (λ s. after_turn s (idle_visits peers)) (state-seen old r at) ∙ kept)) in
      subst (λ (x : Run). IsAt x r) (sym same) (state-at old r idle.state r.state plainly at)

  pub idle-script : script_of idle ≡ script_of old
  idle-script = ap script_of same

-- and does so at each further one
pub idle-stays : (peers : List ℕ) (idle : Run) (r : RunState) → IsAt idle r → after_turn r.state (idle_visits peers) ≡ r.state → after_deeds (plain idle.state) (turn_deeds (idle_visits peers)) ≡ plain idle.state
idle-stays peers idle r at kept = turn-made (plain idle.state) (idle_visits peers) ∙ (ap (λ s. after_turn s (idle_visits peers)) (state-seen idle r at) ∙ (kept ∙ sym (state-seen idle r at)))

pub idles-after : (peers : List ℕ) (n : ℕ) (idle new : Run) (r : RunState) → 1 ≤ n → after_turn r.state (idle_visits peers) ≡ r.state → IsAt idle r → new ≡ turned_more (done_seen idle r) n idle → IsAt new (after_all (script_of idle) r (times n (idle_turn peers ∷ [])))
idles-after peers n idle new r some kept at e = idles-shown peers n idle new r some kept at e

pub last-after : (n : ℕ) (idle one : Run) (made : ℕ) (r : RunState) → IsAt idle r → one ≡ turned_more (done_seen idle r) 1 idle → made ≡ capped (one.made + n) → IsAt (record one { made = made }) (calls_more n (turns_made (is_done_at (script_of one) r) 1 r))
last-after n idle one made r at e more =
    let shown = subst (λ (k : ℕ). IsAt (record one { made = k }) (calls_more n (turns_made (is_done_at (script_of idle) r) 1 r))) (sym more) (last-shown n idle one r at e) in
    subst (λ ls. IsAt (record one { made = made }) (calls_more n (turns_made (is_done_at ls r) 1 r))) (sym (ap script_of e)) shown

pub spins-after : (peers : List ℕ) (word : Refusal) (n : ℕ) (idle one more new : Run) (made : ℕ) (r : RunState) → 1 ≤ n → after_turn r.state (idle_visits peers) ≡ r.state → IsAt idle r → one ≡ turned_more (done_seen idle r) 1 idle → made ≡ capped (one.made + (n - 1)) → more ≡ turned_more (done_seen (record one { made = made }) r) (n - 1) (record one { made = made }) → new ≡ tried_more 1 more → IsAt new (after_all (script_of idle) r (times n (idle_turn peers ∷ again word ∷ [])))
spins-after peers word n idle one more new made r some kept at e1 e2 e3 e4 = spins-shown peers word n idle one (record one { made = made }) more new r some kept at e1 (ap (λ (k : ℕ). record one { made = k }) e2) e3 e4

pub spun-place : (peers : List ℕ) (n : ℕ) (old idle one : Run) (r : RunState) (texts : List (List ℕ)) → script_of idle ≡ script_of old → one ≡ turned_more (done_seen idle r) 1 idle → after_turn r.state (idle_visits peers) ≡ r.state → (length (flat_map visit_lines (due_visits r.state (idle_visits peers))) == 0) ≡ true → other_than (spin_due n (due_call (script_of one) (calls_more (n - 1) (turns_made (is_done_at (script_of one) r) 1 r)))) texts ≡ or_else (idle_place peers r) (other_than (spin_due n (due_call (script_of old) (before_last (script_of old) peers n r))) texts)
spun-place peers n old idle one r texts same e kept none =
    let script : script_of one ≡ script_of old = ap script_of e ∙ same in
    ap (λ ls. other_than (spin_due n (due_call ls (calls_more (n - 1) (turns_made (is_done_at ls r) 1 r)))) texts) script
    ∙ (ap (λ q. other_than (spin_due n (due_call (script_of old) q)) texts) (sym (last-made (script_of old) peers n r kept))
    ∙ sym (ap (λ b. or_else (cond b None (Some 0)) (other_than (spin_due n (due_call (script_of old) (before_last (script_of old) peers n r))) texts)) none))

-- ---- a turn

pub turn-after : (old one : Run) (r : RunState) (z : NamedState) (vs : List Visit) → IsAt old r → one ≡ turned_more (done_seen old r) 1 old → plain z ≡ after_turn r.state vs → IsAt (record one { state = z }) (after (script_of old) r (turned vs))
turn-after old one r z vs at e is = state-at one (turns_made (is_done_at (script_of old) r) 1 r) z (after_turn r.state vs) is (turned-shown 1 old one r at e)

pub met-none : (l : LinesLeft) (met : Bool) → place_after l met ≡ None → met ≡ true
met-none l true e = refl
met-none l false e = absurd cc

pub peers-seen : (peers : List ℕ) (run : Run) (r : RunState) → IsAt run r → HasPeers r.state peers → HasPeers (plain run.state) peers
peers-seen peers run r at has = subst (λ s. HasPeers s peers) (sym (state-seen run r at)) has
